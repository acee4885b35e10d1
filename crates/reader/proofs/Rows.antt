-- The tests of rows and of zeros: what they tell of each word, and that the digits of all words together, as `relation::together` hands them back, decide them.
use Prim.Native.Nat.{ℕ, zero, suc, ◌+◌, ◌-◌, ◌/◌, ◌^◌, ◌<◌, ◌≤◌}
use mathlib.Core.Bool.{Bool, true, false, cond, ◌&&◌}
use mathlib.Core.HLevel.{dec→stable}
use mathlib.Core.List.{List}
use mathlib.Core.Path.{◌≡◌, refl, sym, ◌∙◌}
use native.Mathlib.Decide.{ℕ_discrete, dec_lt}
use native.Mathlib.Nat.{pow-suc, div-eq_of_lt, div-lt_iff_lt-mul}
use native.Mathlib.Omega.{arith}
use lib.Dec.{eqb, ltb}
use lib.ListN.{get_or}
use lib.Pow.{pow_pos}
use borrow.Author.Tests.{eq-eqb, eqb-true, ltb-true, ltb-false, lt-ltb, le-ltb}
use Rattle.table.proofs.All.{both, and_true, all_elim, all_intro}
use Rattle.relation.specs.Digits.{bit}
use Rattle.relation.specs.Relations.{Holds, DigitsExactly, InSome}
use Rattle.relation.proofs.Digits.{bit_high, bit_inside}
use Rattle.relation.proofs.Relations.{no_digit}
use Rattle.relation.proofs.Walks.{some_digit}
use Rattle.reader.specs.Layout.{row_count}
use Rattle.reader.specs.Refusals.{rows?, zeros?}
use Rattle.reader.proofs.Numbers.{row_count_lem}

-- A number without a digit 1 is 0, and one without a digit 1 from n on is below 2 ^ n.
pub no_digit_zero : (x : ℕ) → ((k : ℕ) → bit x k ≡ 1 → ⊥) → x ≡ 0
no_digit_zero x h = dec→stable (ℕ_discrete x 0) (λ n. let d = some_digit x n in h d.0 d.1)

pub digits_below : (n x : ℕ) → ((k : ℕ) → bit x k ≡ 1 → k < n) → x < 2 ^ n
digits_below zero x h = omega (arith, no_digit_zero x (λ k e. omega (arith, h k e)))
digits_below (suc n) x h = omega (arith, pow-suc 2 n, digits_below n (x / 2) (λ k e. omega (arith, h (suc k) (bit_high x k ∙ e))))

-- Two tests that pass on each other's account are the same.
same_test : (a b : Bool) → (a ≡ true → b ≡ true) → (b ≡ true → a ≡ true) → a ≡ b
same_test true b f g = sym (f refl)
same_test false true f g = g refl
same_test false false f g = refl

-- Nothing is left of a number below 2 ^ n without its first n digits.
pub shifted_out : (x n : ℕ) → ltb x (2 ^ n) ≡ eqb (x / 2 ^ n) 0
shifted_out x n = same_test _ _ (λ h. eq-eqb _ 0 (div-eq_of_lt (ltb-true x _ h)))
    (λ h. lt-ltb x _ (omega (arith, (div-lt_iff_lt-mul {k = 2 ^ n} {x = x} {y = 1} (pow_pos n)).0 (omega (arith, eqb-true (x / 2 ^ n) 0 h)))))

-- Rows: a pair that they hold is of the first n states.
module _ (n : ℕ) (r : List ℕ) where
  row_told : rows? n r ≡ true → (j : ℕ) → j < 64 → get_or r j 0 < cond (ltb j n) (2 ^ n) 1
  unfolding rows?
  row_told h j l = ltb-true _ _ (all_elim _ row_count h j (omega (arith, row_count_lem)))

  pub row_past : rows? n r ≡ true → (j : ℕ) → j < 64 → n ≤ j → get_or r j 0 ≡ 0
  row_past h j l g = let e : ltb j n ≡ false = le-ltb j n g in omega (arith, rw e at (row_told h j l))

  row_below : rows? n r ≡ true → (j : ℕ) → j < 64 → j < n → get_or r j 0 < 2 ^ n
  row_below h j l g = let e : ltb j n ≡ true = lt-ltb j n g in rw e at (row_told h j l)

  pub rows_told : rows? n r ≡ true → (j k : ℕ) → j < 64 → Holds r j k → (j < n) × (k < n)
  rows_told h j k l held = by (dec_lt j n) where
    by : Dec (j < n) → (j < n) × (k < n)
    by (yes p) = (p, bit_inside n (get_or r j 0) k (row_below h j l p) held.digit)
    by (no p) = absurd (no_digit k (row_past h j l (omega arith)) held.digit)

  pub rows_tell : ((j k : ℕ) → j < 64 → Holds r j k → (j < n) × (k < n)) → rows? n r ≡ true
  unfolding rows?
  rows_tell h = all_intro _ row_count (λ j l. lt-ltb _ _ (row j (omega (arith, row_count_lem)) (ltb j n) refl)) where
    row : (j : ℕ) → j < 64 → (b : Bool) → ltb j n ≡ b → get_or r j 0 < cond (ltb j n) (2 ^ n) 1
    row j l true e = rw e (digits_below n _ (λ k d. (h j k l (record { digit = d })).1))
    row j l false e = rw e (omega (arith, no_digit_zero (get_or r j 0) (λ k d. omega (arith, ltb-false j n e, (h j k l (record { digit = d })).0))))

-- Zeros.
module _ (words : List ℕ) (from to : ℕ) where
  pub zeros_told : zeros? words from to ≡ true → (i : ℕ) → from ≤ i → i < to → get_or words i 0 ≡ 0
  unfolding zeros?
  zeros_told h i l g = let e : from + (i - from) ≡ i = omega arith in rw e at (eqb-true (get_or words (from + (i - from)) 0) 0 (all_elim _ (to - from) h (i - from) (omega arith)))

  pub zeros_tell : ((i : ℕ) → from ≤ i → i < to → get_or words i 0 ≡ 0) → zeros? words from to ≡ true
  unfolding zeros?
  zeros_tell h = all_intro _ (to - from) (λ i l. eq-eqb _ _ (h (from + i) (omega arith) (omega arith)))

  pub zeros_gathered : {x : ℕ} → DigitsExactly x (InSome words from to) → zeros? words from to ≡ eqb x 0
  zeros_gathered {x} d = same_test _ _
      (λ h. eq-eqb x 0 (no_digit_zero x (λ k e. let w = (d.at k).0 e in no_digit k (zeros_told h w.place w.after w.before) w.digit)))
      (λ e. zeros_tell (λ i l g. no_digit_zero _ (λ k b. no_digit k (eqb-true x 0 e) ((d.at k).1 (record { place = i; after = l; before = g; digit = b })))))

-- The rows before number n together, and the others.
pub rows_gathered : {n : ℕ} {r : List ℕ} {named past : ℕ} → n ≤ 64 → DigitsExactly named (InSome r 0 n) → DigitsExactly past (InSome r n 64)
    → rows? n r ≡ ltb named (2 ^ n) && eqb past 0
rows_gathered {n} {r} {named} {past} small d e = same_test _ _ forth (λ h. back (both (ltb named (2 ^ n)) (eqb past 0) h)) where
  forth : rows? n r ≡ true → ltb named (2 ^ n) && eqb past 0 ≡ true
  forth h = and_true
      (lt-ltb _ _ (digits_below n named (λ k b. let w = (d.at k).0 b in (rows_told n r h w.place k (omega (arith, w.before)) (record { digit = w.digit })).1)))
      (eq-eqb _ _ (no_digit_zero past (λ k b. let w = (e.at k).0 b in no_digit k (row_past n r h w.place w.before w.after) w.digit)))

  back : (ltb named (2 ^ n) ≡ true) × (eqb past 0 ≡ true) → rows? n r ≡ true
  back h = rows_tell n r (λ j k l held. pair j k l held (dec_lt j n)) where
    pair : (j k : ℕ) → j < 64 → Holds r j k → Dec (j < n) → (j < n) × (k < n)
    pair j k l held (yes p) = (p, bit_inside n named k (ltb-true _ _ h.0) ((d.at k).1 (record { place = j; after = omega arith; before = p; digit = held.digit })))
    pair j k l held (no p) = absurd (no_digit k (eqb-true _ _ h.1) ((e.at k).1 (record { place = j; after = omega arith; before = l; digit = held.digit })))
