-- A set that a rule gives, round by round: after as many rounds as there are pairs nothing is added any more.
use Prim.Native.Nat.{ℕ, zero, suc, ◌≤◌, ◌<◌}
use native.Mathlib.Omega.{arith}
use mathlib.Core.Path.{◌≡◌, refl, sym, ap, subst}
use mathlib.Core.Bool.{Bool, true, false}
use mathlib.Core.List.Memᴰ
use mathlib.Core.List.{List, [], ◌∷◌, Memᴰ}
use mathlib.Core.Logic.{◌⊎◌, inl, inr}
use lib.ListN.{length}
use lib.Dec.{T}
use Rattle.vpa.specs.Lists.{Pair, sift, among, grow, rounds, saturate, Sorted, sorted_none}
use Rattle.vpa.proofs.Lists.{either, or_l, or_r, sift_intro, sift_elim, mem_of_among, among_of_mem, sorted_sift}

sift_length : {X : Type 0} (f : X → Bool) (xs : List X) → length (sift f xs) ≤ length xs
unfolding sift
sift_length f [] = omega arith
sift_length {X} f (y ∷ ys) = go (f y) (sift_length f ys)
  where
    go : (b : Bool) → length (sift f ys) ≤ length ys → length {A = X} (elim b [ true ↦ y ∷ sift f ys | false ↦ sift f ys ]) ≤ suc (length ys)
    go true h = omega arith
    go false h = omega arith

-- Of two tests, the second passing wherever the first does, the second keeps more or the same.
sift_grows : {X : Type 0} (f g : X → Bool) (xs : List X) → ((x : X) → Memᴰ x xs → T (f x) → T (g x))
    → (sift f xs ≡ sift g xs) ⊎ (length (sift f xs) < length (sift g xs))
unfolding sift
sift_grows f g [] h = inl refl
sift_grows {X} f g (y ∷ ys) h = go (f y) (g y) (h y (Memᴰ.head refl)) (sift_grows f g ys (λ x m. h x (Memᴰ.tail m)))
  where
    go : (b c : Bool) → (T b → T c) → (sift f ys ≡ sift g ys) ⊎ (length (sift f ys) < length (sift g ys))
        → (◌≡◌ {A = List X} (elim b [ true ↦ y ∷ sift f ys | false ↦ sift f ys ]) (elim c [ true ↦ y ∷ sift g ys | false ↦ sift g ys ]))
        ⊎ (length {A = X} (elim b [ true ↦ y ∷ sift f ys | false ↦ sift f ys ]) < length {A = X} (elim c [ true ↦ y ∷ sift g ys | false ↦ sift g ys ]))
    go true true k (inl e) = inl (ap (λ zs. y ∷ zs) e)
    go true true k (inr l) = inr (omega arith)
    go true false k r = absurd (k tt)
    go false true k (inl e) = inr (omega (arith, ap length e))
    go false true k (inr l) = inr (omega arith)
    go false false k r = r

module _ (rule : List Pair → Pair → Bool) (all : List Pair) where
  in_all : (k : ℕ) {x : Pair} → Memᴰ x (rounds rule all k) → Memᴰ x all
  unfolding rounds grow
  in_all zero m = absurd (Memᴰ.not-nil m)
  in_all (suc k) m = (sift_elim _ all m).0

  -- Each round adds a pair or changes nothing.
  progress : (k : ℕ) → (rounds rule all k ≡ rounds rule all (suc k)) ⊎ (length (rounds rule all k) < length (rounds rule all (suc k)))
  unfolding rounds grow
  progress zero = first (grow rule all [])
    where
      first : (r : List Pair) → (◌≡◌ {A = List Pair} [] r) ⊎ (0 < length r)
      first [] = inl refl
      first (x ∷ r) = inr (omega arith)
  progress (suc k) = sift_grows _ _ all (λ x m h. or_l (among x (rounds rule all (suc k))) (rule (rounds rule all (suc k)) x) (among_of_mem x (sift_intro _ m h)))

  bounded : (k : ℕ) → length (rounds rule all k) ≤ length all
  unfolding rounds grow
  bounded zero = omega arith
  bounded (suc k) = sift_length _ all

  -- So after k rounds nothing changes any more, or the next has more than k pairs.
  settled : (k : ℕ) → (rounds rule all k ≡ rounds rule all (suc k)) ⊎ (k < length (rounds rule all (suc k)))
  unfolding rounds
  settled zero = go (progress zero)
    where
      go : (rounds rule all 0 ≡ rounds rule all 1) ⊎ (length (rounds rule all 0) < length (rounds rule all 1)) → (rounds rule all 0 ≡ rounds rule all 1) ⊎ (0 < length (rounds rule all 1))
      go (inl e) = inl e
      go (inr l) = inr (omega arith)
  settled (suc k) = go (settled k) (progress (suc k))
    where
      go : (rounds rule all k ≡ rounds rule all (suc k)) ⊎ (k < length (rounds rule all (suc k)))
          → (rounds rule all (suc k) ≡ rounds rule all (suc (suc k))) ⊎ (length (rounds rule all (suc k)) < length (rounds rule all (suc (suc k))))
          → (rounds rule all (suc k) ≡ rounds rule all (suc (suc k))) ⊎ (suc k < length (rounds rule all (suc (suc k))))
      go (inl e) r = inl (ap (grow rule all) e)
      go (inr l) (inl e) = inl e
      go (inr l) (inr m) = inr (omega arith)

  fixed : saturate rule all ≡ grow rule all (saturate rule all)
  unfolding saturate rounds
  fixed = go (settled (length all))
    where
      go : (rounds rule all (length all) ≡ rounds rule all (suc (length all))) ⊎ (length all < length (rounds rule all (suc (length all))))
          → rounds rule all (length all) ≡ grow rule all (rounds rule all (length all))
      go (inl e) = e
      go (inr l) = absurd (omega (arith, bounded (suc (length all))))

  pub saturate_in : {x : Pair} → Memᴰ x (saturate rule all) → Memᴰ x all
  unfolding saturate
  saturate_in m = in_all (length all) m

  -- What the rule gives from the saturated set is in it.
  pub saturate_closed : {x : Pair} → Memᴰ x all → T (rule (saturate rule all) x) → Memᴰ x (saturate rule all)
  unfolding grow
  saturate_closed {x} m h = subst (λ s. Memᴰ x s) (sym fixed) (sift_intro _ m (or_r (among x (saturate rule all)) (rule (saturate rule all) x) h))

  -- And it is the least such set.
  pub saturate_least : (P : Pair → Type 0)
      → ((held : List Pair) → ((y : Pair) → Memᴰ y held → P y) → (x : Pair) → T (rule held x) → P x)
      → (x : Pair) → Memᴰ x (saturate rule all) → P x
  unfolding saturate rounds grow
  saturate_least P step = by (length all)
    where
      by : (k : ℕ) (x : Pair) → Memᴰ x (rounds rule all k) → P x
      by zero x m = absurd (Memᴰ.not-nil m)
      by (suc k) x m = go x (by k) (either (among x (rounds rule all k)) (rule (rounds rule all k) x) (sift_elim _ all m).1)
        where
          go : (x : Pair) → ((y : Pair) → Memᴰ y (rounds rule all k) → P y) → T (among x (rounds rule all k)) ⊎ T (rule (rounds rule all k) x) → P x
          go x r (inl h) = r x (mem_of_among x (rounds rule all k) h)
          go x r (inr h) = step (rounds rule all k) r x h

  -- It keeps the order.
  pub saturate_sorted : (R : Pair → Pair → Type 0) → Sorted R all → Sorted R (saturate rule all)
  unfolding saturate rounds grow
  saturate_sorted R s = by (length all)
    where
      by : (k : ℕ) → Sorted R (rounds rule all k)
      by zero = sorted_none
      by (suc k) = sorted_sift R _ s
