-- The array of the pairs that pass a test: it holds those that pass and no others, and is the only one that does.
use Prim.Native.Nat.{ℕ, zero, suc, ◌+◌, ◌/◌, ◌^◌, ◌≤◌, ◌<◌}
use mathlib.Core.Bool.{Bool, true, false, cond}
use mathlib.Core.List.{List}
use mathlib.Core.Logic.{◌↔◌, ⊎_elim}
use mathlib.Core.Path.{◌≡◌, refl, sym, ap, ◌∙◌}
use native.Mathlib.Decide.{dec_lt}
use native.Mathlib.Nat.{zero-add, pow-suc, eq-or-lt_of_le, le_of_suc-le-suc}
use native.Mathlib.Omega.{arith}
use lib.Dec.{T}
use lib.ListN.{length, get_or, get_or-eq_default}
use Rattle.relation.specs.Digits.{bit, digits}
use Rattle.relation.specs.Relations.{Holds, IsRelation, list_of, rows_of}
use Rattle.relation.proofs.Digits.{bit_low, bit_high, half_lt, bit_past}
use Rattle.relation.proofs.Relations.{holds_inside, same_pairs}

-- 2 ^ n put on top of a number: one digit more, those below it as they were.
half_add : (n x : ℕ) → (2 ^ suc n + x) / 2 ≡ 2 ^ n + x / 2
half_add n x = omega (arith, pow-suc 2 n)

bit_below : (n x k : ℕ) → k < n → bit (2 ^ n + x) k ≡ bit x k
bit_below zero x k l = absurd (omega arith)
bit_below (suc n) x zero l = bit_low (2 ^ suc n + x) ∙ omega (arith, pow-suc 2 n) ∙ sym (bit_low x)
bit_below (suc n) x (suc k) l = bit_high (2 ^ suc n + x) k ∙ ap (λ (y : ℕ). bit y k) (half_add n x) ∙ bit_below n (x / 2) k (omega arith) ∙ sym (bit_high x k)

bit_top : (n x : ℕ) → x < 2 ^ n → bit (2 ^ n + x) n ≡ 1
bit_top zero x h = ap (λ (y : ℕ). bit y 0) (omega arith) ∙ bit_low 1
bit_top (suc n) x h = bit_high (2 ^ suc n + x) n ∙ ap (λ (y : ℕ). bit y n) (half_add n x) ∙ bit_top n (x / 2) (half_lt x n h)

-- The number that a test gives has the test's answers as its digits.
digits_lt : (n : ℕ) (f : ℕ → Bool) → digits n f < 2 ^ n
unfolding digits
digits_lt zero f = omega arith
digits_lt (suc n) f = omega (arith, pow-suc 2 n, digits_lt n f, most (f n)) where
  most : (b : Bool) → cond b (2 ^ n) 0 ≤ 2 ^ n
  most true = omega arith
  most false = omega arith

bit_digits : (n : ℕ) (f : ℕ → Bool) (k : ℕ) → k < n → bit (digits n f) k ≡ cond (f k) 1 0
unfolding digits
bit_digits zero f k l = absurd (omega arith)
bit_digits (suc n) f k l =
    ⊎_elim (λ (q : k ≡ n). rw q (top (f n))) (λ (q : k < n). low (f n) q ∙ bit_digits n f k q) (eq-or-lt_of_le (le_of_suc-le-suc l))
  where
    top : (b : Bool) → bit (cond b (2 ^ n) 0 + digits n f) n ≡ cond b 1 0
    top true = bit_top n (digits n f) (digits_lt n f)
    top false = rw (zero-add (digits n f)) (bit_past n (digits n f) n (digits_lt n f) (omega arith))

    low : (b : Bool) → k < n → bit (cond b (2 ^ n) 0 + digits n f) k ≡ bit (digits n f) k
    low true q = bit_below n (digits n f) k q
    low false q = rw (zero-add (digits n f))

-- A list of the values of a function.
pub length_list : (n : ℕ) (f : ℕ → ℕ) → length (list_of n f) ≡ n
unfolding list_of
length_list zero f = refl
length_list (suc n) f = ap suc (length_list n (λ i. f (suc i)))

pub get_list : (n : ℕ) (f : ℕ → ℕ) (i : ℕ) → i < n → get_or (list_of n f) i 0 ≡ f i
unfolding list_of
get_list zero f i l = absurd (omega arith)
get_list (suc n) f zero l = refl
get_list (suc n) f (suc i) l = get_list n (λ i. f (suc i)) i (omega arith)

module _ (f : ℕ → ℕ → Bool) where
  row : (j : ℕ) → j < 64 → get_or (rows_of f) j 0 ≡ digits 64 (f j)
  unfolding rows_of
  row j l = get_list 64 (λ j. digits 64 (f j)) j l

  row_count_lem : length (rows_of f) ≡ 64
  unfolding rows_of
  row_count_lem = length_list 64 (λ j. digits 64 (f j))

  pub rows_relation : IsRelation (rows_of f)
  rows_relation = record { rows = row_count_lem; fits = λ j. go j (dec_lt j 64) } where
    go : (j : ℕ) → Dec (j < 64) → get_or (rows_of f) j 0 < 2 ^ 64
    go j (yes l) = rw (row j l) (digits_lt 64 (f j))
    go j (no l) = rw (get_or-eq_default (rows_of f) 0 {n = j} (omega (arith, row_count_lem))) (omega arith)

  digit : (j k : ℕ) → j < 64 → k < 64 → bit (get_or (rows_of f) j 0) k ≡ cond (f j k) 1 0
  digit j k l m = ap (λ (x : ℕ). bit x k) (row j l) ∙ bit_digits 64 (f j) k m

  pub rows_hold : (j k : ℕ) → Holds (rows_of f) j k ↔ ((j < 64) × (k < 64) × T (f j k))
  rows_hold j k = (
    λ h. let i = holds_inside rows_relation h in (i.0, i.1, (one (f j k)).0 (sym (digit j k i.0 i.1) ∙ h.digit)),
    λ h. record { digit = digit j k h.0 h.1 ∙ (one (f j k)).1 h.2 },
  )
    where
      one : (b : Bool) → (◌≡◌ {A = ℕ} (cond b 1 0) 1) ↔ T b
      one true = (λ e. tt, λ t. refl)
      one false = (λ e. omega arith, λ t. absurd t)

  pub rows_unique : {r : List ℕ} → IsRelation r → ((j k : ℕ) → j < 64 → k < 64 → Holds r j k ↔ T (f j k)) → r ≡ rows_of f
  rows_unique is h = same_pairs is rows_relation (λ j k. (
    λ x. let i = holds_inside is x in (rows_hold j k).1 (i.0, i.1, (h j k i.0 i.1).0 x),
    λ x. let y = (rows_hold j k).0 x in (h j k y.0 y.1).1 y.2,
  ))
