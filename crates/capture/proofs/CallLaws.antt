-- What the exported calls promise beside the libraries' own laws: a number tells the answer, and which bytes of a state stay. Two answers that meet a contract are
-- equal, since each is a function of what the call is given; of the shortest log that is `exported_shortest_once`.
use Prim.Native.Nat.{ℕ, zero, suc, ◌/◌, ◌%◌, ◌<◌, ◌≤◌}
use mathlib.Core.Logic.{◌⊎◌, inl, inr}
use mathlib.Core.List.{List, ◌++◌, append-nil}
use mathlib.Core.Path.{◌≡◌, refl, sym, ap, ◌∙◌}
use native.Mathlib.Decide.{dec_lt}
use native.Mathlib.Omega.{arith}
use lib.ListN.{length, drop, replicate, take-append-drop, drop_of_length-le}
use lib.Seq.{drop_at}
use Rattle.vpa.specs.ReaderComputed.{Heard, going, accepted, unfinished, stop_at}
use Rattle.table.specs.Answers.{Answer, refused, answered}
use Rattle.table.specs.Bytes.{AreBytes}
use Rattle.table.specs.Logs.{longest_log}
use Rattle.table.specs.Refusals.{verdict}
use Rattle.reader.specs.Calls.{Reply, begin_call, letter_call, finish_call}
use Rattle.reader.specs.Layout.{state_size, cleared}
use Rattle.reader.proofs.CallLaws.{begin_refused, letter_refused, finish_keeps, begin_further, letter_further}
use Rattle.shortest.proofs.CallLaws.{OtherLog, outcome_once}
use Rattle.whole_log.specs.Calls.{log_call}
use Rattle.whole_log.proofs.CallLaws.{Checks, log_no_table, log_few_words, log_too_long, log_answers, log_does}
use Rattle.capture.specs.Calls.{ExportedShortest, Exported, on_bytes, exported_begin, exported_letter, exported_finish, exported_log}
use Rattle.capture.specs.Numbers.{kind_size, numbered, shown_number, heard_number}
use Rattle.capture.specs.State.{bytes_of_words, state_bytes, lent_words, with_words}
use Rattle.capture.specs.Steps.{value_of}
use Rattle.capture.proofs.Exported.{few_kept, enough_bytes}
use Rattle.capture.proofs.Words.{length_words, length_bytes_of_words, words_back, zeros_bytes}

-- The two parts of a number, as the header takes it apart.
pub kind_told : (kind value : ℕ) → value < kind_size → numbered kind value / kind_size ≡ kind
kind_told kind value l = omega arith

pub value_told : (kind value : ℕ) → value < kind_size → numbered kind value % kind_size ≡ value
value_told kind value l = omega arith

-- A number below 2^32 is a refusal, and no other is.
small_refused : (a : Answer Heard) → heard_number a < kind_size → (k : ℕ) × (a ≡ refused k)
small_refused (refused k) l = (k, refl)
small_refused (answered going) l = absurd (omega arith)
small_refused (answered accepted) l = absurd (omega arith)
small_refused (answered unfinished) l = absurd (omega arith)
small_refused (answered (stop_at place)) l = absurd (omega arith)

-- What a kind and a value say of a reader, and that its answer can be told from its number. (That its values are below 2^32: proofs/Values.)
unfoldable heard_by : ℕ → ℕ → Answer Heard
heard_by zero value = refused value
heard_by (suc zero) value = answered going
heard_by (suc (suc zero)) value = answered accepted
heard_by (suc (suc (suc zero))) value = answered unfinished
heard_by (suc (suc (suc (suc kind)))) value = answered (stop_at value)

heard_back : (a : Answer Heard) → value_of a < kind_size → heard_by (heard_number a / kind_size) (heard_number a % kind_size) ≡ a
unfolding heard_by
heard_back (refused k) l = let kind : k / kind_size ≡ 0 = omega arith in let value : k % kind_size ≡ k = omega arith in rw (kind, value)
heard_back (answered going) l = refl
heard_back (answered accepted) l = refl
heard_back (answered unfinished) l = refl
heard_back (answered (stop_at place)) l = rw (kind_told 4 place l, value_told 4 place l)

pub heard_told : (a b : Answer Heard) → value_of a < kind_size → value_of b < kind_size → heard_number a ≡ heard_number b → a ≡ b
heard_told a b l m e = sym (heard_back a l) ∙ ap (λ n. heard_by (n / kind_size) (n % kind_size)) e ∙ heard_back b m

-- The shortest log: the number and scratch are determined, and the output but for the choice among shortest logs.
module _ (s scratch out : List ℕ) where
  pub exported_shortest_once : {n m : ℕ} {c d o p : List ℕ} (x : ExportedShortest s scratch out n c o) → ExportedShortest s scratch out m d p
      → (n ≡ m) × (c ≡ d) × ((o ≡ p) ⊎ OtherLog s scratch out x.answer o p)
  exported_shortest_once x y = let r = outcome_once s scratch out x.meets y.meets in (x.told ∙ ap shown_number r.0 ∙ sym y.told, r.1, r.2)

-- From here on a state's bytes.
module _ (bytes : List ℕ) (low : AreBytes bytes) where
  -- Enough bytes, read and written back, are the same.
  pub bytes_back : state_bytes ≤ length bytes → with_words bytes (lent_words bytes) ≡ bytes
  bytes_back l = rw (words_back bytes 0 state_size low (omega arith)) (take-append-drop state_bytes bytes)

  kept : (s : List ℕ) (call : List ℕ → Reply) → (state_bytes ≤ length bytes → (call (lent_words bytes)).words ≡ lent_words bytes) → (on_bytes s bytes call).bytes ≡ bytes
  kept s call same = by (dec_lt (length bytes) state_bytes) where
    by : Dec (length bytes < state_bytes) → (on_bytes s bytes call).bytes ≡ bytes
    by (yes l) = sym (few_kept s bytes call l)
    by (no l) =
        let enough : state_bytes ≤ length bytes = omega arith in
        ap (λ (x : Exported). x.bytes) (enough_bytes s bytes call enough) ∙ ap (with_words bytes) (same enough) ∙ bytes_back enough

  kept_refused : (s : List ℕ) (call : List ℕ → Reply) → ((k : ℕ) → (call (lent_words bytes)).answer ≡ refused k → (call (lent_words bytes)).words ≡ lent_words bytes)
      → (on_bytes s bytes call).number < kind_size → (on_bytes s bytes call).bytes ≡ bytes
  kept_refused s call same l = kept s call stays where
    stays : state_bytes ≤ length bytes → (call (lent_words bytes)).words ≡ lent_words bytes
    stays enough =
        let number = ap (λ (x : Exported). x.number) (enough_bytes s bytes call enough) in
        let r = small_refused (call (lent_words bytes)).answer (omega (arith, number)) in
        same r.0 r.1

  -- A refusal of begin and of a letter leaves the bytes, and finish always does.
  pub begin_keeps : (s : List ℕ) → (exported_begin s bytes).number < kind_size → (exported_begin s bytes).bytes ≡ bytes
  begin_keeps s = kept_refused s (begin_call s) (begin_refused s (lent_words bytes))

  letter_kept : (s : List ℕ) (a : ℕ) → (on_bytes s bytes (λ words. letter_call s words a)).number < kind_size → (on_bytes s bytes (λ words. letter_call s words a)).bytes ≡ bytes
  letter_kept s a = kept_refused s (λ words. letter_call s words a) (letter_refused s (lent_words bytes) a)

  -- Whichever letter the call is asked of, this holds.
  pub letter_keeps : (s : List ℕ) (a : ℕ) → (exported_letter s bytes a).number < kind_size → (exported_letter s bytes a).bytes ≡ bytes
  letter_keeps s a = letter_kept s _

  pub finish_leaves : (s : List ℕ) → (exported_finish s bytes).bytes ≡ bytes
  finish_leaves s = kept s (finish_call s) (λ l. finish_keeps s (lent_words bytes))

  -- The whole log leaves them where the table is refused, the bytes are too few or the log is too long.
  pub log_keeps : (s log : List ℕ) → (verdict s ≡ 0 → ⊥) ⊎ ((length bytes < state_bytes) ⊎ (longest_log < length log)) → (exported_log s log bytes).bytes ≡ bytes
  log_keeps s log why = kept s (log_call s log) (λ l. by l why (log_does s log (lent_words bytes))) where
    by : state_bytes ≤ length bytes → (verdict s ≡ 0 → ⊥) ⊎ ((length bytes < state_bytes) ⊎ (longest_log < length log)) → Checks s log (lent_words bytes)
        → (log_call s log (lent_words bytes)).words ≡ lent_words bytes
    by l why (log_no_table n e) = ap (λ (x : Reply). x.words) e
    by l why (log_few_words z few e) = ap (λ (x : Reply). x.words) e
    by l why (log_too_long z m g e) = ap (λ (x : Reply). x.words) e
    by l (inl n) (log_answers z m g e) = absurd (n z)
    by l (inr (inl few)) (log_answers z m g e) = absurd (omega arith)
    by l (inr (inr w)) (log_answers z m g e) = absurd (omega arith)

-- Else its first bytes are zeros, as many as a state has.
pub log_clears : (s log bytes : List ℕ) → verdict s ≡ 0 → state_bytes ≤ length bytes → length log ≤ longest_log
    → (exported_log s log bytes).bytes ≡ replicate state_bytes 0 ++ drop state_bytes bytes
unfolding cleared
log_clears s log bytes good enough short = by (log_does s log (lent_words bytes)) where
  long : length (lent_words bytes) ≡ state_size
  long = length_words bytes 0 state_size

  by : Checks s log (lent_words bytes) → (exported_log s log bytes).bytes ≡ replicate state_bytes 0 ++ drop state_bytes bytes
  by (log_no_table n e) = absurd (n good)
  by (log_few_words z few e) = absurd (omega (arith, long))
  by (log_too_long z m g e) = absurd (omega arith)
  by (log_answers z m g e) =
      ap (λ (x : Exported). x.bytes) (enough_bytes s bytes (log_call s log) enough)
      ∙ ap (λ (x : Reply). with_words bytes x.words) e
      ∙ rw (drop_of_length-le (lent_words bytes) {i = state_size} (omega (arith, long)), append-nil {A = ℕ} (replicate state_size 0), zeros_bytes state_size)

-- Bytes past a state's are never changed.
module _ (s bytes : List ℕ) where
  past : (call : List ℕ → Reply) → length (call (lent_words bytes)).words ≡ length (lent_words bytes) → drop state_bytes (on_bytes s bytes call).bytes ≡ drop state_bytes bytes
  past call long = by (dec_lt (length bytes) state_bytes) where
    by : Dec (length bytes < state_bytes) → drop state_bytes (on_bytes s bytes call).bytes ≡ drop state_bytes bytes
    by (yes l) = ap (drop state_bytes) (sym (few_kept s bytes call l))
    by (no l) =
        ap (λ (x : Exported). drop state_bytes x.bytes) (enough_bytes s bytes call (omega arith))
        ∙ drop_at (bytes_of_words (call (lent_words bytes)).words) (drop state_bytes bytes) state_bytes
        (omega (arith, length_bytes_of_words (call (lent_words bytes)).words, length_words bytes 0 state_size))

  pub begin_past : drop state_bytes (exported_begin s bytes).bytes ≡ drop state_bytes bytes
  begin_past = past (begin_call s) (begin_further s (lent_words bytes)).1

  letter_further_past : (a : ℕ) → drop state_bytes (on_bytes s bytes (λ words. letter_call s words a)).bytes ≡ drop state_bytes bytes
  letter_further_past a = past (λ words. letter_call s words a) (letter_further s (lent_words bytes) a).1

  pub letter_past : (a : ℕ) → drop state_bytes (exported_letter s bytes a).bytes ≡ drop state_bytes bytes
  letter_past a = letter_further_past _
