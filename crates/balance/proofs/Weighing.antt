-- The letters of a log from the first on: what their tally is, as far as all of them are the table's.
use Prim.Native.Nat.{ℕ, ◌+◌, ◌≤◌, ◌<◌}
use native.Mathlib.Decide.{dec_lt}
use native.Mathlib.Numerals.{add-one}
use native.Mathlib.Omega.{arith}
use mathlib.Core.Bool.{false}
use mathlib.Core.List.{List, [], ◌∷◌, ◌++◌, Memᴰ}
use mathlib.Core.Path.{◌≡◌, refl, sym, ap, ◌∙◌}
use borrow.Author.Tests.{lt-leb}
use lib.Dec.{le→leb}
use lib.IntN.{ℤ, pos, negsuc, nat_abs, ◌+ℤ◌}
use lib.ListN.{length, get_or, take}
use lib.Seq.{take-suc, take-length, length-take-le}
use lib.Signed.{mag}
use mir.Syntax.{w32}
use mir.Val.{SFits}
use Rattle.vpa.specs.Balance.{change, balance, lesser, lowest}
use Rattle.vpa.specs.Lists.{any?}
use Rattle.vpa.specs.TableOnDisk.{Table, letter_count, kind_in}
use Rattle.vpa.proofs.Balances.{balance_more, lowest_more, balance_within}
use Rattle.vpa.proofs.Lists.{is_true, any_intro, any_append, get_mem}
use Rattle.table.specs.Answers.{refused, answered}
use Rattle.table.specs.Logs.{longest_log}
use Rattle.table.proofs.Logs.{longest_log_lem}
use Rattle.balance.specs.declared.Tally.{Tally}
use Rattle.balance.specs.Calls.{past?, tally_of, letters_weighed}

-- A tally's balance with one letter more.
abbrev pub grown : Table → Tally → ℕ → ℤ
grown t tally a = tally.balance +ℤ change (kind_in t a)

-- The first i letters of a log: all are the table's, and this is their tally.
pub record WeighedTo (t : Table) (log : List ℕ) (i : ℕ) (tally : Tally) : Type 0 where
  pub none_past : any? (past? t) (take i log) ≡ false
  pub is : tally ≡ tally_of t (take i log)

mag_within : (z : ℤ) → mag z ≤ nat_abs z
mag_within (pos n) = omega arith
mag_within (negsuc n) = omega arith

module _ (t : Table) (log : List ℕ) where
  -- A letter past the table's refuses; where none is, all are below.
  pub past_refused : {a : ℕ} → Memᴰ a log → letter_count t ≤ a → letters_weighed t log ≡ refused 11
  past_refused m g = rw (is_true (any? (past? t) log) (any_intro (past? t) m (le→leb _ _ g)))

  pub none_past_below : any? (past? t) log ≡ false → {a : ℕ} → Memᴰ a log → a < letter_count t
  none_past_below e {a} m = by (dec_lt a (letter_count t)) where
    by : Dec (a < letter_count t) → a < letter_count t
    by (yes l) = l
    by (no n) = absurd (rw e at (any_intro (past? t) m (le→leb (letter_count t) a (omega arith))))

  alone : (a : ℕ) → past? t a ≡ false → any? (past? t) (a ∷ []) ≡ false
  unfolding any?
  alone a e = rw e

  pub weighed_none : WeighedTo t log 0 (record { balance = pos 0; lowest = pos 0 })
  unfolding any? balance lowest
  weighed_none = record { none_past = refl; is = refl }

  next : {i : ℕ} {tally : Tally} → WeighedTo t log i tally → grown t tally (get_or log i 0) ≡ balance (kind_in t) (take i log ++ (get_or log i 0 ∷ []))
  next {i} h = ap (λ x. grown t x (get_or log i 0)) h.is ∙ sym (balance_more (kind_in t) (take i log) (get_or log i 0))

  module _ {i : ℕ} (l : i < length log) where
    one_more : take (i + 1) log ≡ take i log ++ (get_or log i 0 ∷ [])
    one_more = rw add-one (take-suc log i 0 l)

    pub weighed_past : letter_count t ≤ get_or log i 0 → refused 11 ≡ letters_weighed t log
    weighed_past g = sym (past_refused (get_mem 0 log i l) g)

    module _ {tally : Tally} (h : WeighedTo t log i tally) where
      pub next_fits : length log ≤ longest_log → SFits w32 (grown t tally (get_or log i 0))
      next_fits few =
          let read = take i log ++ (get_or log i 0 ∷ []) in
          let long : length read ≤ longest_log = omega (arith, ap length one_more, length-take-le (i + 1) log (omega arith)) in
          record { sfits = omega (arith, ap mag (next h), mag_within (balance (kind_in t) read), balance_within (kind_in t) read, longest_log_lem) }

      pub weighed_more : get_or log i 0 < letter_count t
          → WeighedTo t log (i + 1) (record { balance = grown t tally (get_or log i 0); lowest = lesser tally.lowest (grown t tally (get_or log i 0)) })
      weighed_more g =
          let a = get_or log i 0 in
          let low = ap (λ x. lesser x.lowest (grown t tally a)) h.is ∙ ap (lesser (lowest (kind_in t) (take i log))) (next h) ∙ sym (lowest_more (kind_in t) (take i log) a) in
          record {
            none_past = ap (any? (past? t)) one_more ∙ any_append (past? t) (take i log) (a ∷ []) ∙ rw h.none_past (alone a (lt-leb _ _ g));
            is = (λ k. record { balance = next h k; lowest = low k }) ∙ ap (tally_of t) (sym one_more);
          }

  pub weighed_all : {i : ℕ} {tally : Tally} → WeighedTo t log i tally → length log ≡ i → answered tally ≡ letters_weighed t log
  weighed_all {i} h e =
      let whole : take i log ≡ log = ap (λ (n : ℕ). take n log) (sym e) ∙ take-length log in
      let none : any? (past? t) log ≡ false = ap (any? (past? t)) (sym whole) ∙ h.none_past in
      rw none (ap answered (h.is ∙ ap (tally_of t) whole))
