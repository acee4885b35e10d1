-- Tests of every number below a bound, as a loop makes them and as a fact of each number.
use Prim.Native.Nat.{ℕ, zero, suc, ◌+◌, ◌-◌, ◌<◌, ◌≤◌}
use Rattle.std.specs.Prelude.{IsTrue, All}
use Rattle.std.specs.List.{AllAdjacentBelow}
use Rattle.std.proofs.lemmas.List.Elements.{All-from_get_or}
use lib.ListN.{length, get_or}
use mathlib.Core.List.{List}
use mathlib.Core.Bool.{Bool, true, false, ◌&&◌}
use mathlib.Core.Path.{◌≡◌, refl, subst}
use mathlib.Core.Logic.{◌↔◌, ⊎_elim}
use native.Mathlib.Nat.{le_antisymm, le_of_suc-le-suc, not-suc-le-zero, eq-or-lt_of_le}
use native.Mathlib.Numerals.{add-one}
use native.Mathlib.Omega.{arith}
use Rattle.table.specs.Bytes.{all?}

pub both : (a b : Bool) → a && b ≡ true → (a ≡ true) × (b ≡ true)
both true b e = (refl, e)
both false b e = (e, cc)

pub and_true : {a b : Bool} → a ≡ true → b ≡ true → a && b ≡ true
and_true e f = rw (e, f)

left_false : (a b : Bool) → a && b ≡ false → b ≡ true → a ≡ false
left_false true b e p = cc
left_false false b e p = refl

module _ (f : ℕ → Bool) where
  pub all_none : all? f 0 ≡ true
  unfolding all?
  all_none = refl

  pub all_more : (i : ℕ) {ok : Bool} → all? f i ≡ ok → all? f (i + 1) ≡ ok && f i
  unfolding all?
  all_more i e = rw (add-one, e)

  pub all_at : (i n : ℕ) {ok : Bool} → i ≤ n → n ≤ i → all? f i ≡ ok → all? f n ≡ ok
  all_at i n l g e = rw (le_antisymm g l) e

  pub all_elim : (n : ℕ) → all? f n ≡ true → (i : ℕ) → i < n → f i ≡ true
  unfolding all?
  all_elim zero e i l = absurd (not-suc-le-zero l)
  all_elim (suc n) e i l =
      let h = both (all? f n) (f n) e in
      ⊎_elim (λ (p : i ≡ n). subst (λ (k : ℕ). f k ≡ true) (cc p) h.1) (λ (m : i < n). all_elim n h.0 i m) (eq-or-lt_of_le (le_of_suc-le-suc l))

  pub all_intro : (n : ℕ) → ((i : ℕ) → i < n → f i ≡ true) → all? f n ≡ true
  unfolding all?
  all_intro zero h = refl
  all_intro (suc n) h = and_true (all_intro n (λ i l. h i (omega arith))) (h n (omega arith))

  pub all_fails : (n : ℕ) → all? f n ≡ false → (i : ℕ) × (i < n) × (f i ≡ false)
  unfolding all?
  all_fails zero e = absurd (let z : ◌≡◌ {A = ℕ} 0 1 = cc in omega arith)
  all_fails (suc n) e = by (f n) refl (λ p. all_fails n (left_false (all? f n) (f n) e p)) where
    by : (b : Bool) → f n ≡ b → (f n ≡ true → (i : ℕ) × (i < n) × (f i ≡ false)) → (i : ℕ) × (i < suc n) × (f i ≡ false)
    by false p h = (n, omega arith, p)
    by true p h = let r = h p in (r.0, omega arith, r.2)

  -- A test that tells what holds of all of a list, where the numbered test tells it of each element; and of each element and the next.
  module _ {X : Type 0} (xs : List X) (d : X) (n : ℕ) (long : length xs ≡ n) where
    pub all_told : (P : X → Type 0) (b : Bool) → ((k : ℕ) → k < n → P (get_or xs k d) ↔ (f k ≡ true)) → IsTrue b ↔ All P xs → all? f n ≡ b
    all_told P true h c = all_intro n (λ k l. (h k l).0 (c.0 refl k d (omega (arith, long))))
    all_told P false h c = by (all? f n) refl where
      by : (b : Bool) → all? f n ≡ b → b ≡ false
      by false e = refl
      by true e = absurd (let z : false ≡ true = c.1 (All-from_get_or P xs d (λ k l. (h k (omega (arith, long))).1 (all_elim n e k (omega (arith, long))))) in cc)

    pub adjacent_told : (R : X → X → Type 0) (b : Bool) → ((k : ℕ) → k + 1 < n → R (get_or xs k d) (get_or xs (k + 1) d) ↔ (f k ≡ true)) → ((k : ℕ) (e : X) → k < n → get_or xs k e ≡ get_or xs k d)
        → IsTrue b ↔ AllAdjacentBelow R xs (length xs) → all? f (n - 1) ≡ b
    adjacent_told R true h same c = all_intro (n - 1) (λ k l. (h k (omega arith)).0 (c.0 refl k d (omega (arith, long))))
    adjacent_told R false h same c = by (all? f (n - 1)) refl where
      by : (b : Bool) → all? f (n - 1) ≡ b → b ≡ false
      by false e = refl
      by true e =
          absurd
          (let z : false ≡ true =
          c.1 (λ k e₁ l. rw (same k e₁ (omega (arith, long)), same (k + 1) e₁ (omega (arith, long))) ((h k (omega (arith, long))).1 (all_elim (n - 1) e k (omega (arith, long))))) in
          cc)
