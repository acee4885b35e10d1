-- Laws of `each`, `map` and `sift`: how lists made one after the other are taken apart, joined and compared.
use Prim.Native.Nat.{ℕ, zero, suc, ◌+◌, ◌<◌}
use native.Mathlib.Numerals.{add-one}
use native.Mathlib.Omega.{arith}
use mathlib.Core.Path.{◌≡◌, refl, sym, ap, subst, ◌∙◌}
use mathlib.Core.Bool.{Bool, true, false}
use mathlib.Core.List.Memᴰ
use mathlib.Core.List.{List, [], ◌∷◌, ◌++◌, map, append-nil, append_assoc, map-append, Memᴰ}
use mathlib.Core.Logic.{◌↔◌, inl, inr}
use lib.Dec.{T}
use Rattle.vpa.specs.Lists.{Pair, sift, each, up_from, below, Sorted, sorted_none, sorted_more, PairBefore}
use Rattle.vpa.proofs.Lists.{sift_intro, sift_elim, below_intro, below_elim, sorted_sift, sorted_below}

-- Of the lists that are in a strict order, one only has the same elements.
module _ {X : Type 0} {R : X → X → Type 0} (one_way : (x y : X) → R x y → R y x → ⊥) where
  same_head : {x y : X} {xs ys : List X} → ((z : X) → Memᴰ z xs → R x z) → ((z : X) → Memᴰ z ys → R y z)
      → Memᴰ x (y ∷ ys) → Memᴰ y (x ∷ xs) → x ≡ y
  same_head n k (Memᴰ.head e) l = e
  same_head n k (Memᴰ.tail m) (Memᴰ.head e) = sym e
  same_head {x} {y} n k (Memᴰ.tail m) (Memᴰ.tail l) = absurd (one_way x y (n y l) (k x m))

  -- An element of one tail is not the head, so it stands in the other tail.
  in_tail : {x y z : X} {xs ys : List X} → ((w : X) → Memᴰ w xs → R x w) → x ≡ y → Memᴰ z xs → Memᴰ z (y ∷ ys) → Memᴰ z ys
  in_tail {x} {y} {z} n e m (Memᴰ.head k) = let r : R x x = subst (R x) (k ∙ sym e) (n z m) in absurd (one_way x x r r)
  in_tail n e m (Memᴰ.tail k) = k

  pub sorted_same : {xs ys : List X} → Sorted R xs → Sorted R ys → ((x : X) → Memᴰ x xs ↔ Memᴰ x ys) → xs ≡ ys
  sorted_same sorted_none sorted_none h = refl
  sorted_same sorted_none (sorted_more {x = y} k l) h = absurd (Memᴰ.not-nil ((h y).1 (Memᴰ.head refl)))
  sorted_same (sorted_more {x} n d) sorted_none h = absurd (Memᴰ.not-nil ((h x).0 (Memᴰ.head refl)))
  sorted_same (sorted_more {x} {xs} n d) (sorted_more {x = y} {xs = ys} k l) h =
      let e : x ≡ y = same_head n k ((h x).0 (Memᴰ.head refl)) ((h y).1 (Memᴰ.head refl)) in
      let rest : xs ≡ ys = sorted_same d l (λ z. (λ m. in_tail n e m ((h z).0 (Memᴰ.tail m)), λ m. in_tail k (sym e) m ((h z).1 (Memᴰ.tail m)))) in
      λ i. e i ∷ rest i

pub pair_one_way : (x y : Pair) → PairBefore x y → PairBefore y x → ⊥
pair_one_way x y (inl h) (inl k) = omega arith
pair_one_way x y (inl h) (inr k) = omega arith
pair_one_way x y (inr h) (inl k) = omega arith
pair_one_way x y (inr h) (inr k) = omega arith

-- Lists one after the other.
module _ {X Y : Type 0} (f : X → List Y) where
  pub each_append : (xs ys : List X) → each f (xs ++ ys) ≡ each f xs ++ each f ys
  unfolding each
  each_append [] ys = refl
  each_append (x ∷ xs) ys = ap (λ r. f x ++ r) (each_append xs ys) ∙ sym (append_assoc (f x) (each f xs) (each f ys))

  pub each_same : (g : X → List Y) (xs : List X) → ((x : X) → Memᴰ x xs → f x ≡ g x) → each f xs ≡ each g xs
  unfolding each
  each_same g [] h = refl
  each_same g (x ∷ xs) h = rw (h x (Memᴰ.head refl), each_same g xs (λ y m. h y (Memᴰ.tail m)))

  pub each_none : (xs : List X) → ((x : X) → Memᴰ x xs → f x ≡ []) → each f xs ≡ []
  unfolding each
  each_none [] h = refl
  each_none (x ∷ xs) h = rw (h x (Memᴰ.head refl)) (each_none xs (λ y m. h y (Memᴰ.tail m)))

  -- What the test leaves out gives nothing.
  pub each_sift : (t : X → Bool) (xs : List X) → ((x : X) → Memᴰ x xs → t x ≡ false → f x ≡ []) → each f xs ≡ each f (sift t xs)
  unfolding each sift
  each_sift t [] h = refl
  each_sift t (x ∷ xs) h = go (t x) (h x (Memᴰ.head refl)) (each_sift t xs (λ y m. h y (Memᴰ.tail m)))
    where
      go : (b : Bool) → (b ≡ false → f x ≡ []) → each f xs ≡ each f (sift t xs) → f x ++ each f xs ≡ each f (elim b [ true ↦ x ∷ sift t xs | false ↦ sift t xs ])
      go true k e = ap (λ r. f x ++ r) e
      go false k e = rw (k refl) e

module _ {X Y Z : Type 0} where
  pub each_each : (g : Y → List Z) (f : X → List Y) (xs : List X) → each g (each f xs) ≡ each (λ x. each g (f x)) xs
  unfolding each
  each_each g f [] = refl
  each_each g f (x ∷ xs) = each_append g (f x) (each f xs) ∙ ap (λ r. each g (f x) ++ r) (each_each g f xs)

  pub each_map : (g : Y → List Z) (f : X → Y) (xs : List X) → each g (map f xs) ≡ each (λ x. g (f x)) xs
  unfolding each
  each_map g f [] = refl
  each_map g f (x ∷ xs) = ap (λ r. g (f x) ++ r) (each_map g f xs)

  pub map_each : (g : Y → Z) (f : X → List Y) (xs : List X) → map g (each f xs) ≡ each (λ x. map g (f x)) xs
  unfolding each
  map_each g f [] = refl
  map_each g f (x ∷ xs) = map-append g (f x) (each f xs) ∙ ap (λ r. map g (f x) ++ r) (map_each g f xs)

-- The last of the numbers below n + 1.
up_more : (n k : ℕ) → up_from (suc n) k ≡ up_from n k ++ ((k + n) ∷ [])
unfolding up_from
up_more zero k = ap (λ (j : ℕ). j ∷ []) (omega arith)
up_more (suc n) k = ap (λ r. k ∷ r) (up_more n (suc k) ∙ ap (λ (j : ℕ). up_from n (suc k) ++ (j ∷ [])) (omega arith))

pub below_more : (n : ℕ) → below (n + 1) ≡ below n ++ (n ∷ [])
unfolding below
below_more n = rw add-one (up_more n 0 ∙ ap (λ (j : ℕ). up_from n 0 ++ (j ∷ [])) (omega arith))

pub each_below_more : {Y : Type 0} (f : ℕ → List Y) (n : ℕ) → each f (below (n + 1)) ≡ each f (below n) ++ f n
unfolding each
each_below_more f n = ap (each f) (below_more n) ∙ each_append f (below n) (n ∷ []) ∙ ap (λ r. each f (below n) ++ r) (append-nil (f n))

-- Tests that pass the same numbers leave the same, whatever bound they have.
pub sift_below : {n m : ℕ} (f g : ℕ → Bool) → ((k : ℕ) → ((k < n) × T (f k)) ↔ ((k < m) × T (g k))) → sift f (below n) ≡ sift g (below m)
sift_below {n} {m} f g h = sorted_same (λ i j k l. omega arith) (sorted_sift ◌<◌ f (sorted_below n)) (sorted_sift ◌<◌ g (sorted_below m)) (λ k. (
  λ x. let y = sift_elim f (below n) x in let z = (h k).0 (below_elim y.0, y.1) in sift_intro g (below_intro z.0) z.1,
  λ x. let y = sift_elim g (below m) x in let z = (h k).1 (below_elim y.0, y.1) in sift_intro f (below_intro z.0) z.1,
))

pub sift_append : {X : Type 0} (f : X → Bool) (xs ys : List X) → sift f (xs ++ ys) ≡ sift f xs ++ sift f ys
unfolding sift
sift_append f [] ys = refl
sift_append f (x ∷ xs) ys = go (f x) (sift_append f xs ys)
  where
    go : (b : Bool) → sift f (xs ++ ys) ≡ sift f xs ++ sift f ys
        → elim b [ true ↦ x ∷ sift f (xs ++ ys) | false ↦ sift f (xs ++ ys) ] ≡ elim b [ true ↦ x ∷ sift f xs | false ↦ sift f xs ] ++ sift f ys
    go true e = ap (λ r. x ∷ r) e
    go false e = e
