-- The exported calls of a reader, by how many bytes they are lent.
use Prim.Native.Nat.{ℕ, ◌<◌, ◌≤◌}
use mathlib.Core.List.{List}
use mathlib.Core.Path.{◌≡◌, sym, ap, ◌∙◌}
use borrow.Author.Tests.{lt-ltb, le-ltb}
use native.Mathlib.Decide.{dec_lt}
use native.Mathlib.Omega.{arith}
use denote.MutBor.{MutBor}
use denote.Param.Members.{Once}
use lib.ListN.{length}
use Rattle.std.specs.Fn.{FnOnceReturnsAtMut}
use Rattle.std.specs.Prelude.{Result}
use Rattle.table.specs.declared.refusal.Refusal.{Refusal}
use Rattle.reader.specs.declared.Heard as declared
use Rattle.reader.specs.Answers.{heard_as}
use Rattle.capture.specs.Steps.{value_of, OnWords}
use Rattle.vpa.specs.ReaderComputed.{Heard}
use Rattle.table.specs.Answers.{Answer}
use Rattle.table.specs.Calls.{for_table}
use Rattle.table.specs.Logs.{longest_log}
use Rattle.table.proofs.Logs.{longest_log_lem}
use Rattle.reader.specs.Calls.{Reply}
use Rattle.capture.specs.Calls.{Exported, on_bytes}
use Rattle.capture.specs.Numbers.{kind_size, heard_number}
use Rattle.capture.specs.State.{state_bytes, lent_words, with_words}

module _ (s bytes : List ℕ) (call : List ℕ → Reply) where
  -- Too few.
  pub few_bytes : length bytes < state_bytes → on_bytes s bytes call ≡ record { number = for_table s 7 (λ k. k); bytes = bytes }
  few_bytes l = rw (lt-ltb _ _ l)

  pub few_answer : length bytes < state_bytes → {r : ℕ} → r ≡ for_table s 7 (λ k. k) → r ≡ (on_bytes s bytes call).number
  few_answer l e = e ∙ sym (ap (λ (x : Exported). x.number) (few_bytes l))

  pub few_kept : length bytes < state_bytes → bytes ≡ (on_bytes s bytes call).bytes
  few_kept l = sym (ap (λ (x : Exported). x.bytes) (few_bytes l))

  -- Enough.
  pub enough_bytes : state_bytes ≤ length bytes
      → on_bytes s bytes call ≡ record { number = heard_number (call (lent_words bytes)).answer; bytes = with_words bytes (call (lent_words bytes)).words }
  enough_bytes l = rw (le-ltb _ _ l)

  module _ (l : state_bytes ≤ length bytes) {words : List ℕ} (e : words ≡ lent_words bytes) where
    pub enough_answer : {a : Answer Heard} {r : ℕ} → a ≡ (call words).answer → r ≡ heard_number a → r ≡ (on_bytes s bytes call).number
    enough_answer h n = n ∙ ap heard_number h ∙ ap (λ (x : List ℕ). heard_number (call x).answer) e ∙ sym (ap (λ (x : Exported). x.number) (enough_bytes l))

    pub enough_written : {left after : List ℕ} → left ≡ (call words).words → after ≡ with_words bytes left → after ≡ (on_bytes s bytes call).bytes
    enough_written h n =
        n ∙ ap (with_words bytes) (h ∙ ap (λ (x : List ℕ). (call x).words) e) ∙ sym (ap (λ (x : Exported). x.bytes) (enough_bytes l))

-- On the words of enough bytes a call is made that replies as the definitions say.
module _ (s bytes : List ℕ) (call : List ℕ → Reply) {F : Type 0} {g : Once F (MutBor (List ℕ) × Unit {0}) (Result declared.Heard Refusal × (MutBor (List ℕ) × Unit {0}))} {f : F} where
  pub on_words_told : ((words left : List ℕ) (heard : Result declared.Heard Refusal) (called : FnOnceReturnsAtMut g f words heard left)
      → (heard_as heard ≡ (call called.shown.now).answer) × (called.left.now ≡ (call called.shown.now).words))
      → {r : ℕ} {after : List ℕ} → (length bytes < state_bytes → (r ≡ for_table s 7 (λ k. k)) × (after ≡ bytes)) → (state_bytes ≤ length bytes → OnWords g f bytes r after)
      → (r ≡ (on_bytes s bytes call).number) × (after ≡ (on_bytes s bytes call).bytes)
  on_words_told replies {r} {after} few enough = by (dec_lt (length bytes) state_bytes) where
    by : Dec (length bytes < state_bytes) → (r ≡ (on_bytes s bytes call).number) × (after ≡ (on_bytes s bytes call).bytes)
    by (yes l) = (few_answer s bytes call l (few l).0, (few l).1 ∙ few_kept s bytes call l)
    by (no n) =
        let l : state_bytes ≤ length bytes = omega arith in
        let w = enough l in
        let p = replies _ _ _ w.called in
        let words = w.called.shows in (
          enough_answer s bytes call l words p.0 w.told,
          enough_written s bytes call l words (sym w.called.leaves ∙ p.1) w.written,
        )

-- Such a call answers with small values.
module _ (call : List ℕ → Reply) {F : Type 0} {g : Once F (MutBor (List ℕ) × Unit {0}) (Result declared.Heard Refusal × (MutBor (List ℕ) × Unit {0}))} {f : F} where
  pub on_words_small : ((words : List ℕ) → value_of (call words).answer ≤ longest_log)
      → ((words left : List ℕ) (heard : Result declared.Heard Refusal) (called : FnOnceReturnsAtMut g f words heard left) → heard_as heard ≡ (call called.shown.now).answer)
      → (words left : List ℕ) (heard : Result declared.Heard Refusal) → FnOnceReturnsAtMut g f words heard left → value_of (heard_as heard) < kind_size
  on_words_small low replies words left heard called = omega (arith, ap value_of (replies words left heard called), longest_log_lem, low called.shown.now)
