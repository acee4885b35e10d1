-- The list of the digits of a word that are 1: what is in it, and how a walk from the lowest digit goes through it.
use Prim.Native.Nat.{ℕ, zero, suc, ◌+◌, ◌-◌, ◌^◌, ◌≤◌, ◌<◌}
use mathlib.Core.Bool.{Bool, true, false, cond}
use mathlib.Core.List.{List, [], ◌∷◌, ◌++◌}
use mathlib.Core.Logic.{◌↔◌, ◌⊎◌, inl, inr, ⊎_elim}
use mathlib.Core.Path.{◌≡◌, refl, sym, ap, subst, ◌∙◌}
use native.Mathlib.Decide.{ℕ_discrete}
use native.Mathlib.Omega.{arith}
use lib.Bits.{bit_and, bit_or}
use lib.Count.{count_trailing_zeros}
use lib.Dec.{eqb}
use lib.ListN.{length, get_or}
use Rattle.std.proofs.Common.{eq-eqb, eqb-true, true≢false, append_assoc}
use Rattle.std.proofs.lemmas.List.{append-nil}
use Rattle.std.specs.List.{Contains, filter, range_with_len}
use Rattle.std.proofs.lemmas.List.Elements.{Contains-append_left, Contains-append_right, Contains-push, Contains-push_cases}
use Rattle.relation.specs.Digits.{bit, ones_of}
use Rattle.relation.specs.Relations.{Holds, DigitsExactly}
use Rattle.relation.specs.Rows.{Reached}
use Rattle.relation.proofs.Digits.{bit_zero, bit_inside, Drop, lowest, before_lowest}
use Rattle.relation.proofs.Relations.{or_digit}

-- No digit of 0 is 1; and two words with the same digits in a range have the same ones there.
ones_none : (n a : ℕ) → filter (λ k. eqb (bit 0 k) 1) (range_with_len a n) ≡ []
ones_none zero a = refl
ones_none (suc n) a = rw (bit_zero a) (ones_none n (a + 1))

same_ones : (x y n a : ℕ) → ((i : ℕ) → a ≤ i → bit x i ≡ bit y i) → filter (λ k. eqb (bit x k) 1) (range_with_len a n) ≡ filter (λ k. eqb (bit y k) 1) (range_with_len a n)
same_ones x y zero a h = refl
same_ones x y (suc n) a h = rw (h a (omega arith), same_ones x y n (a + 1) (λ i l. h i (omega arith))) refl

module _ {m z k y : ℕ} (d : Drop m z k y) (none : (i : ℕ) → i < k → bit z i ≡ 0) where
  abbrev ones_in : ℕ → ℕ → ℕ → List ℕ
  ones_in x a n = filter (λ i. eqb (bit x i) 1) (range_with_len a n)

  ones_step : (n a : ℕ) → a ≤ k → k < a + n → ones_in z a n ≡ k ∷ ones_in y a n
  ones_step zero a l h = absurd (omega arith)
  ones_step (suc n) a l h = go (ℕ_discrete a k) (λ q. ones_step n (a + 1) q (omega arith)) where
    go : Dec (a ≡ k) → (a + 1 ≤ k → ones_in z (a + 1) n ≡ k ∷ ones_in y (a + 1) n) → ones_in z a (suc n) ≡ k ∷ ones_in y a (suc n)
    go (yes e) f = rw (e, d.set, d.gone) (ap (λ l. k ∷ l) (same_ones z y n (k + 1) (λ i q. sym (d.kept i (λ e. omega arith)))))
    go (no e) f = rw (d.kept a e, none a (omega arith)) (f (omega arith))

-- The list of 0 is empty, and that of another word begins with its lowest digit that is 1.
pub ones_of_zero : ones_of 0 ≡ []
unfolding ones_of
ones_of_zero = ones_none 64 0

pub ones_of_lowest : (z : ℕ) → 0 < z → z < 2 ^ 64 → ones_of z ≡ count_trailing_zeros 64 z ∷ ones_of (bit_and z (z - 1))
unfolding ones_of
ones_of_lowest z p l = let d = lowest 64 z p l in ones_step d (before_lowest 64 z) 64 0 (omega arith) (omega (arith, d.low))

-- What is in the list: the places below 64 of the digits that are 1.
in_cons : {k : ℕ} (a : ℕ) (xs : List ℕ) → Contains (a ∷ xs) k ↔ ((a ≡ k) ⊎ Contains xs k)
in_cons {k} a xs = (λ m. forth m.0 m.1 m.2, ⊎_elim (λ e. (0, omega arith, e)) (λ m. (suc m.0, omega (arith, m.1), m.2))) where
  forth : (i : ℕ) → i < length (a ∷ xs) → get_or (a ∷ xs) i k ≡ k → (a ≡ k) ⊎ Contains xs k
  forth zero l e = inl e
  forth (suc i) l e = inr (i, omega arith, e)

record Passing (f : ℕ → Bool) (a n k : ℕ) : Type 0 where
  from : a ≤ k
  to : k < a + n
  test : f k ≡ true

passing_wider : {f : ℕ → Bool} {a n k : ℕ} → Passing f (a + 1) n k → Passing f a (suc n) k
passing_wider p = record { from = omega (arith, p.from); to = omega (arith, p.to); test = p.test }

passing_later : {f : ℕ → Bool} {a n k : ℕ} → Passing f a (suc n) k → (a ≡ k → ⊥) → Passing f (a + 1) n k
passing_later p q = record { from = omega (arith, p.from); to = omega (arith, p.to); test = p.test }

passing : (f : ℕ → Bool) (n a k : ℕ) → Contains (filter f (range_with_len a n)) k ↔ Passing f a n k
passing f zero a k = (λ m. absurd (omega (arith, m.1)), λ p. absurd (omega (arith, p.from, p.to)))
passing f (suc n) a k = both (f a) refl (passing f n (a + 1) k) where
  both : (b : Bool) → f a ≡ b → Contains (filter f (range_with_len (a + 1) n)) k ↔ Passing f (a + 1) n k
      → Contains (cond b (a ∷ filter f (range_with_len (a + 1) n)) (filter f (range_with_len (a + 1) n))) k ↔ Passing f a (suc n) k
  both true e h = (λ m. ⊎_elim (λ q. here q) (λ m. passing_wider (h.0 m)) ((in_cons a _).0 m), λ p. (in_cons a _).1 (back p (ℕ_discrete a k))) where
    here : a ≡ k → Passing f a (suc n) k
    here q = record { from = omega arith; to = omega arith; test = sym (ap f q) ∙ e }

    back : Passing f a (suc n) k → Dec (a ≡ k) → (a ≡ k) ⊎ Contains (filter f (range_with_len (a + 1) n)) k
    back p (yes q) = inl q
    back p (no q) = inr (h.1 (passing_later p q))
  both false e h = (λ m. passing_wider (h.0 m), λ p. h.1 (passing_later p (λ q. true≢false (sym p.test ∙ sym (ap f q) ∙ e))))

pub ones_iff : (x k : ℕ) → Contains (ones_of x) k ↔ ((k < 64) × (bit x k ≡ 1))
unfolding ones_of
ones_iff x k = let h = passing (λ i. eqb (bit x i) 1) 64 0 k in (
  λ m. let p = h.0 m in (omega (arith, p.to), eqb-true _ _ p.test),
  λ q. h.1 (record { from = omega arith; to = omega (arith, q.0); test = eq-eqb _ _ q.1 }),
)

-- A walk over the list of x: xs have come, and left are still to come.
pub record Come (x : ℕ) (xs left : List ℕ) : Type 0 where
  pub all : xs ++ left ≡ ones_of x

pub come_none : {x : ℕ} {left : List ℕ} → left ≡ ones_of x → Come x [] left
come_none e = record { all = e }

module _ {x : ℕ} {xs left : List ℕ} (c : Come x xs left) where
  pub come_more : {k : ℕ} {next : List ℕ} → left ≡ k ∷ next → Come x (xs ++ k ∷ []) next
  come_more {k} {next} e = record { all = append_assoc xs (k ∷ []) next ∙ ap (λ l. xs ++ l) (sym e) ∙ c.all }

  -- The next number, and each that has come, is the place of a digit of x that is 1.
  pub come_next : {k : ℕ} {next : List ℕ} → left ≡ k ∷ next → (k < 64) × (bit x k ≡ 1)
  come_next {k} {next} e = (ones_iff x k).0 (subst (λ l. Contains l k) (ap (λ l. xs ++ l) (sym e) ∙ c.all) (Contains-append_right xs (k ∷ next) k (0, omega arith, refl)))

  pub come_had : {k : ℕ} → Contains xs k → (k < 64) × (bit x k ≡ 1)
  come_had {k} m = (ones_iff x k).0 (subst (λ l. Contains l k) c.all (Contains-append_left xs left k m))

  pub come_all : left ≡ [] → xs ≡ ones_of x
  come_all e = sym (append-nil xs) ∙ ap (λ l. xs ++ l) (sym e) ∙ c.all

-- Some number that has come is one of which P says l.
pub record FromSome (xs : List ℕ) (P : ℕ → ℕ → Type 0) (l : ℕ) : Type 0 where
  pub item : ℕ
  pub came : Contains xs item
  pub says : P item l

pub from_none : {P : ℕ → ℕ → Type 0} → DigitsExactly 0 (FromSome [] P)
from_none = record { at = λ l. (λ e. absurd (omega (arith, bit_zero l)), λ w. absurd (omega (arith, w.came.1))) }

pub from_more : {P : ℕ → ℕ → Type 0} {xs : List ℕ} {y k v : ℕ} → DigitsExactly y (FromSome xs P) → DigitsExactly v (P k) → DigitsExactly (bit_or y v) (FromSome (xs ++ k ∷ []) P)
from_more {P} {xs} {y} {k} {v} h g = record { at = λ l. (λ e. forth l ((or_digit _ _ l).0 e), λ w. (or_digit _ _ l).1 (back l w (Contains-push_cases xs k w.item w.came))) } where
  forth : (l : ℕ) → (bit y l ≡ 1) ⊎ (bit v l ≡ 1) → FromSome (xs ++ k ∷ []) P l
  forth l (inl e) = let w = (h.at l).0 e in record { item = w.item; came = Contains-append_left xs (k ∷ []) w.item w.came; says = w.says }
  forth l (inr e) = record { item = k; came = Contains-push xs k; says = (g.at l).0 e }

  back : (l : ℕ) (w : FromSome (xs ++ k ∷ []) P l) → Contains xs w.item ⊎ (k ≡ w.item) → (bit y l ≡ 1) ⊎ (bit v l ≡ 1)
  back l w (inl m) = inl ((h.at l).1 (record { item = w.item; came = m; says = w.says }))
  back l w (inr q) = inr ((g.at l).1 (subst (λ i. P i l) (sym q) w.says))

-- Once all have come, they are the digits of x that are 1.
pub from_all : {x : ℕ} {P : ℕ → ℕ → Type 0} {y : ℕ} → x < 2 ^ 64 → DigitsExactly y (FromSome (ones_of x) P) → (l : ℕ) → (bit y l ≡ 1) ↔ ((i : ℕ) × (bit x i ≡ 1) × P i l)
from_all {x} f h l = (
  λ e. let w = (h.at l).0 e in (w.item, ((ones_iff x w.item).0 w.came).1, w.says),
  λ w. (h.at l).1 (record { item = w.0; came = (ones_iff x w.0).1 (bit_inside 64 x w.0 f w.1, w.1); says = w.2 }),
)

pub reached_from : {x : ℕ} {s : List ℕ} {y : ℕ} → x < 2 ^ 64 → DigitsExactly y (FromSome (ones_of x) (Holds s)) → DigitsExactly y (Reached x s)
reached_from f h = record {
  at = λ l. (
    λ e. (let w = (from_all f h l).0 e in record { by = w.0; first = w.1; second = w.2 }),
    λ w. (from_all f h l).1 (w.by, w.first, w.second),
  );
}
