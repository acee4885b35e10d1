-- Binary digits of numbers: how they are found, how `|`, `&`, `^` and `<<` change them, and that they decide the number.
use Prim.Native.Nat.{ℕ, zero, suc, ◌+◌, ◌-◌, ◌*◌, ◌/◌, ◌%◌, ◌^◌, ◌≤◌, ◌<◌, min, max}
use mathlib.Core.Logic.{◌↔◌, ◌⊎◌, inl, inr, ⊎_elim}
use mathlib.Core.Path.{◌≡◌, refl, sym, ap, ◌∙◌}
use native.Mathlib.Decide.{ℕ_discrete, dec_lt}
use native.Mathlib.Nat.{div-one, one-mul, mod-eq_of_lt, pow-suc, eq-or-lt_of_le, le_of_suc-le-suc}
use native.Mathlib.Numerals.{one-add}
use native.Mathlib.Omega.{arith}
use lib.Bits.{bit_or, bit_and, bit_xor, differ, or_step, and_step, xor_step, or_shr, and_shr, xor_shr, and_self, xor_comm}
use lib.Count.{ones, ones_step, count_trailing_zeros, under}
use lib.Pow.{shr-shr, pow-lt}
use Rattle.relation.specs.Digits.{bit, total}

pub bit_lt : (x k : ℕ) → bit x k < 2
unfolding bit
bit_lt x k = omega arith

pub bit_of_or : (x y k : ℕ) → bit (bit_or x y) k ≡ max (bit x k) (bit y k)
unfolding bit
bit_of_or x y k = rw (or_shr x y k, or_step (x / 2 ^ k) (y / 2 ^ k)) (omega arith)

pub bit_of_and : (x y k : ℕ) → bit (bit_and x y) k ≡ min (bit x k) (bit y k)
unfolding bit
bit_of_and x y k = rw (and_shr x y k, and_step (x / 2 ^ k) (y / 2 ^ k)) (omega arith)

differ_low : (h a b : ℕ) → a < 2 → b < 2 → (h * 2 + differ a b) % 2 ≡ differ a b
differ_low h zero b l m = omega arith
differ_low h (suc zero) zero l m = omega arith
differ_low h (suc zero) (suc zero) l m = omega arith
differ_low h (suc zero) (suc (suc b)) l m = absurd (omega arith)
differ_low h (suc (suc a)) b l m = absurd (omega arith)

bit_of_xor : (x y k : ℕ) → bit (bit_xor x y) k ≡ differ (bit x k) (bit y k)
unfolding bit
bit_of_xor x y k = rw (xor_shr x y k, xor_step (x / 2 ^ k) (y / 2 ^ k)) (differ_low _ (bit x k) (bit y k) (bit_lt x k) (bit_lt y k))

-- The lowest digit, and the others as digits of the half: the laws that follow go by induction over these.
pub bit_low : (x : ℕ) → bit x 0 ≡ x % 2
unfolding bit
bit_low x = ap (λ (y : ℕ). y % 2) (div-one x)

pub bit_high : (x k : ℕ) → bit x (suc k) ≡ bit (x / 2) k
unfolding bit
bit_high x k = rw (← one-add k, ← shr-shr x 1 k)

half_pow : (n : ℕ) → 2 ^ suc n / 2 ≡ 2 ^ n
half_pow n = rw (pow-suc 2 n) (omega arith)

pub half_lt : (x n : ℕ) → x < 2 ^ suc n → x / 2 < 2 ^ n
half_lt x n h = omega (arith, pow-suc 2 n)

pub bit_zero : (k : ℕ) → bit 0 k ≡ 0
bit_zero zero = bit_low 0
bit_zero (suc k) = bit_high 0 k ∙ bit_zero k

pub bit_pow_same : (k : ℕ) → bit (2 ^ k) k ≡ 1
bit_pow_same zero = bit_low 1
bit_pow_same (suc k) = bit_high (2 ^ suc k) k ∙ ap (λ (y : ℕ). bit y k) (half_pow k) ∙ bit_pow_same k

pub bit_pow_other : (j k : ℕ) → (j ≡ k → ⊥) → bit (2 ^ j) k ≡ 0
bit_pow_other zero zero h = absurd (h refl)
bit_pow_other zero (suc k) h = bit_high 1 k ∙ bit_zero k
bit_pow_other (suc j) zero h = bit_low (2 ^ suc j) ∙ omega (arith, pow-suc 2 j)
bit_pow_other (suc j) (suc k) h =
    bit_high (2 ^ suc j) k ∙ ap (λ (y : ℕ). bit y k) (half_pow j) ∙ bit_pow_other j k (λ e. h (ap suc e))

-- 1 << k in n digits.
pub one_shifted : (n : ℕ) {k : ℕ} → k < n → 1 * 2 ^ k % 2 ^ n ≡ 2 ^ k
one_shifted n {k} h = ap (λ (y : ℕ). y % 2 ^ n) (one-mul (2 ^ k)) ∙ mod-eq_of_lt (pow-lt h)

-- A number below 2 ^ n has no digit from n on.
pub bit_past : (n x k : ℕ) → x < 2 ^ n → n ≤ k → bit x k ≡ 0
bit_past zero x k h l = ap (λ (y : ℕ). bit y k) (omega arith) ∙ bit_zero k
bit_past (suc n) x zero h l = absurd (omega arith)
bit_past (suc n) x (suc k) h l = bit_high x k ∙ bit_past n (x / 2) k (half_lt x n h) (omega arith)

pub bit_inside : (n x k : ℕ) → x < 2 ^ n → bit x k ≡ 1 → k < n
bit_inside n x k h e = by (dec_lt k n) where
  by : Dec (k < n) → k < n
  by (yes p) = p
  by (no p) = absurd (omega (arith, bit_past n x k h (omega arith)))

-- Its digits decide a number.
pub bit_ext : (n x y : ℕ) → x < 2 ^ n → y < 2 ^ n → ((k : ℕ) → k < n → bit x k ≡ bit y k) → x ≡ y
bit_ext zero x y h l e = omega arith
bit_ext (suc n) x y h l e =
    let low : x % 2 ≡ y % 2 = sym (bit_low x) ∙ e 0 (omega arith) ∙ bit_low y in
    let high : x / 2 ≡ y / 2 = bit_ext n (x / 2) (y / 2) (half_lt x n h) (half_lt y n l)
    (λ k b. sym (bit_high x k) ∙ e (suc k) (omega arith) ∙ bit_high y k) in
    omega arith

-- A number that is not 0 has a digit 1; which is the lowest, and what is left without it, is what `trailing_zeros` and `z & (z - 1)` find.
pub record Drop (n z k y : ℕ) : Type 0 where
  pub low : k < n
  pub set : bit z k ≡ 1
  pub gone : bit y k ≡ 0
  pub kept : (i : ℕ) → (i ≡ k → ⊥) → bit y i ≡ bit z i

-- `z ^ (1 << k)` leaves out digit k, be it the lowest or not.
pub without : {n z k : ℕ} → k < n → bit z k ≡ 1 → Drop n z k (bit_xor z (2 ^ k))
without {n} {z} {k} l e = record {
  low = l;
  set = e;
  gone = digit k ∙ rw (bit_pow_same k, e) refl;
  kept = λ i q. digit i ∙ rw (bit_pow_other k i (λ d. q (sym d))) refl;
}
  where
    digit : (i : ℕ) → bit (bit_xor z (2 ^ k)) i ≡ differ (bit (2 ^ k) i) (bit z i)
    digit i = ap (λ (y : ℕ). bit y i) (xor_comm z (2 ^ k)) ∙ bit_of_xor (2 ^ k) z i

module _ (n z : ℕ) (p : 0 < z) where
  abbrev rest : ℕ
  rest = bit_and z (z - 1)

  rest_step : rest ≡ bit_and (z / 2) ((z - 1) / 2) * 2 + min (z % 2) ((z - 1) % 2)
  rest_step = and_step z (z - 1)

  even : z % 2 ≡ 0 → {k : ℕ} → Drop n (z / 2) k (bit_and (z / 2) (z / 2 - 1)) → Drop (suc n) z (suc k) rest
  even e {k} h = record { low = omega (arith, h.low); set = bit_high z k ∙ h.set; gone = bit_high rest k ∙ rw half h.gone; kept = kept }
    where
      less : (z - 1) / 2 ≡ z / 2 - 1
      less = omega arith

      all : rest ≡ bit_and (z / 2) (z / 2 - 1) * 2
      all = rest_step ∙ rw less (omega arith)

      half : rest / 2 ≡ bit_and (z / 2) (z / 2 - 1)
      half = omega (arith, all)

      kept : (i : ℕ) → (i ≡ suc k → ⊥) → bit rest i ≡ bit z i
      kept zero q = bit_low rest ∙ omega (arith, all) ∙ sym (bit_low z)
      kept (suc i) q = bit_high rest i ∙ rw half (h.kept i (λ r. q (ap suc r))) ∙ sym (bit_high z i)

  odd : z % 2 ≡ 1 → Drop (suc n) z 0 rest
  odd e = record { low = omega arith; set = bit_low z ∙ e; gone = bit_low rest ∙ omega (arith, all); kept = kept }
    where
      less : (z - 1) / 2 ≡ z / 2
      less = omega arith

      all : rest ≡ z / 2 * 2
      all = rest_step ∙ rw (less, and_self (z / 2)) (omega arith)

      kept : (i : ℕ) → (i ≡ 0 → ⊥) → bit rest i ≡ bit z i
      kept zero q = absurd (q refl)
      kept (suc i) q = bit_high rest i ∙ ap (λ (x : ℕ). bit x i) (omega (arith, all)) ∙ sym (bit_high z i)

pub lowest : (n z : ℕ) → 0 < z → z < 2 ^ n → Drop n z (count_trailing_zeros n z) (bit_and z (z - 1))
unfolding count_trailing_zeros
lowest zero z p l = absurd (omega arith)
lowest (suc n) z p l = go (z % 2) refl (λ e. lowest n (z / 2) (omega arith) (half_lt z n l))
  where
    go : (d : ℕ) → z % 2 ≡ d → (z % 2 ≡ 0 → Drop n (z / 2) (count_trailing_zeros n (z / 2)) (bit_and (z / 2) (z / 2 - 1)))
        → Drop (suc n) z (under d (count_trailing_zeros n (z / 2))) (bit_and z (z - 1))
    go zero e h = even n z p e (h e)
    go (suc d) e h = odd n z p (omega arith)

pub before_lowest : (n z k : ℕ) → k < count_trailing_zeros n z → bit z k ≡ 0
unfolding count_trailing_zeros
before_lowest zero z k l = absurd (omega arith)
before_lowest (suc n) z k l = go (z % 2) refl k l (before_lowest n (z / 2))
  where
    go : (d : ℕ) → z % 2 ≡ d → (k : ℕ) → k < under d (count_trailing_zeros n (z / 2)) → ((k : ℕ) → k < count_trailing_zeros n (z / 2) → bit (z / 2) k ≡ 0) → bit z k ≡ 0
    go (suc d) e k l h = absurd (omega arith)
    go zero e zero l h = bit_low z ∙ e
    go zero e (suc k) l h = bit_high z k ∙ h k (omega arith)

-- A walk over the digits of x from the lowest: z has those that are still to come.
pub record Walked (x z i : ℕ) : Type 0 where
  pub had : bit x i ≡ 1
  pub gone : bit z i ≡ 0

pub record Part (x z : ℕ) : Type 0 where
  pub at : (i : ℕ) → bit z i ≤ bit x i

pub part_all : (x : ℕ) → Part x x
part_all x = record { at = λ i. omega arith }

pub walked_none : {x i : ℕ} → Walked x x i → ⊥
walked_none w = omega arith

pub walked_all : {x i : ℕ} → bit x i ≡ 1 → Walked x 0 i
walked_all {x} {i} e = record { had = e; gone = bit_zero i }

module _ {n x z k y : ℕ} (p : Part x z) (d : Drop n z k y) where
  pub part_set : bit x k ≡ 1
  part_set = omega (arith, d.set, p.at k, bit_lt x k)

  pub part_less : Part x y
  part_less = record { at = λ i. go i (ℕ_discrete i k) } where
    go : (i : ℕ) → Dec (i ≡ k) → bit y i ≤ bit x i
    go i (yes e) = rw (e, d.gone) (omega arith)
    go i (no e) = omega (arith, d.kept i e, p.at i)

  pub walked_more : (i : ℕ) → Walked x y i ↔ (Walked x z i ⊎ (i ≡ k))
  walked_more i = (λ w. forth w (ℕ_discrete i k), ⊎_elim (λ w. back w (ℕ_discrete i k)) (λ e. rw e here)) where
    here : Walked x y k
    here = record { had = part_set; gone = d.gone }

    forth : Walked x y i → Dec (i ≡ k) → Walked x z i ⊎ (i ≡ k)
    forth w (yes e) = inr e
    forth w (no e) = inl (record { had = w.had; gone = sym (d.kept i e) ∙ w.gone })

    back : Walked x z i → Dec (i ≡ k) → Walked x y i
    back w (yes e) = rw e here
    back w (no e) = record { had = w.had; gone = d.kept i e ∙ w.gone }

-- How many digits are 1, and other sums.
total_low : (n x : ℕ) → total (suc n) (bit x) ≡ x % 2 + total n (bit (x / 2))
unfolding total
total_low zero x = omega (arith, bit_low x)
total_low (suc n) x = omega (arith, bit_high x n, total_low n x)

pub ones_total : (n x : ℕ) → x < 2 ^ n → ones x ≡ total n (bit x)
unfolding total ones
ones_total zero x h = let e : x ≡ 0 = omega arith in rw e
ones_total (suc n) x h = ones_step x ∙ ap (λ (y : ℕ). x % 2 + y) (ones_total n (x / 2) (half_lt x n h)) ∙ sym (total_low n x)

-- Sums of numbers: a bound for each is one for their sum; more in each place, more in all, and no more in all, no more in any.
pub total_most : (n most : ℕ) (f : ℕ → ℕ) → ((k : ℕ) → k < n → f k ≤ most) → total n f ≤ most * n
unfolding total
total_most zero most f h = omega arith
total_most (suc n) most f h = omega (arith, h n (omega arith), total_most n most f (λ k l. h k (omega arith)), mul_suc' most n)
  where
    mul_suc' : (a b : ℕ) → a * suc b ≡ a * b + a
    mul_suc' a b = omega arith

pub total_grows_below : (n : ℕ) (f g : ℕ → ℕ) → ((k : ℕ) → k < n → f k ≤ g k) → total n f ≤ total n g
unfolding total
total_grows_below zero f g h = omega arith
total_grows_below (suc n) f g h = omega (arith, h n (omega arith), total_grows_below n f g (λ k l. h k (omega arith)))

pub total_grows : (n : ℕ) (f g : ℕ → ℕ) → ((k : ℕ) → f k ≤ g k) → total n f ≤ total n g
total_grows n f g h = total_grows_below n f g (λ k l. h k)

pub total_same : (n : ℕ) (f g : ℕ → ℕ) → ((k : ℕ) → f k ≤ g k) → total n f ≡ total n g → (k : ℕ) → k < n → f k ≡ g k
unfolding total
total_same zero f g h e k l = absurd (omega arith)
total_same (suc n) f g h e k l =
    ⊎_elim (λ (q : k ≡ n). rw q (omega (arith, h n, total_grows n f g h)))
    (λ (q : k < n). total_same n f g h (omega (arith, h n, total_grows n f g h)) k q) (eq-or-lt_of_le (le_of_suc-le-suc l))

-- Sums of the same numbers are the same; one more in one place, one more in all.
pub total_equal : (n : ℕ) (f g : ℕ → ℕ) → ((k : ℕ) → k < n → f k ≡ g k) → total n f ≡ total n g
unfolding total
total_equal zero f g h = refl
total_equal (suc n) f g h = omega (arith, h n (omega arith), total_equal n f g (λ k l. h k (omega arith)))

pub total_one_more : (n : ℕ) {a : ℕ} (f g : ℕ → ℕ) → a < n → f a ≡ suc (g a) → ((k : ℕ) → (k ≡ a → ⊥) → f k ≡ g k) → total n f ≡ suc (total n g)
unfolding total
total_one_more zero f g l e h = absurd (omega arith)
total_one_more (suc n) {a} f g l e h =
    ⊎_elim (λ (q : a ≡ n). omega (arith, rw q at e, total_equal n f g (λ k m. h k (omega arith))))
    (λ (q : a < n). omega (arith, h n (omega arith), total_one_more n f g q e h)) (eq-or-lt_of_le (le_of_suc-le-suc l))
