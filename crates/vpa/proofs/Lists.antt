-- Laws of lists as finite sets: tests, the elements that pass, numbers below n, order, positions.
use Prim.Native.Nat.{ℕ, zero, suc, ◌+◌, ◌≤◌, ◌<◌}
use native.Mathlib.Omega.{arith}
use native.Mathlib.Nat.{eq-or-lt_of_le}
use mathlib.Core.Path.{◌≡◌, refl, sym, ap, subst}
use mathlib.Core.Bool.{Bool, true, false, ◌&&◌, ◌||◌}
use mathlib.Core.List.Memᴰ
use mathlib.Core.List.{List, [], ◌∷◌, ◌++◌, map, Memᴰ}
use mathlib.Core.Logic.{◌⊎◌, inl, inr}
use lib.ListN.{length, get_or}
use lib.Dec.{T, eqb, eqb→eq, eqb_refl}
use Rattle.vpa.specs.Lists.{Pair, Trio, sift, any?, each, up_from, below, same?, among, square, same_trio?, position, Sorted, sorted_none, sorted_more, Distinct, distinct_none, distinct_more, PairBefore, TrioBefore}

-- Tests.
pub both : (a b : Bool) → T (a && b) → T a × T b
both true b h = (tt, h)
both false b h = absurd h

pub and : (a b : Bool) → T a → T b → T (a && b)
and true b h k = k
and false b h k = absurd h

pub and_l : (a b : Bool) → T (a && b) → T a
and_l a b h = (both a b h).0

pub and_r : (a b : Bool) → T (a && b) → T b
and_r a b h = (both a b h).1

pub is_true : (b : Bool) → T b → b ≡ true
is_true true h = refl
is_true false h = absurd h

pub either : (a b : Bool) → T (a || b) → T a ⊎ T b
either true b h = inl tt
either false b h = inr h

pub or_l : (a b : Bool) → T a → T (a || b)
or_l true b h = tt
or_l false b h = absurd h

pub or_r : (a b : Bool) → T b → T (a || b)
or_r true b h = tt
or_r false b h = h

-- Some element passes.
pub any_intro : {X : Type 0} (f : X → Bool) {x : X} {xs : List X} → Memᴰ x xs → T (f x) → T (any? f xs)
unfolding any?
any_intro f {x} (Memᴰ.head {x = y} {xs = ys} e) h = or_l (f y) (any? f ys) (subst (λ z. T (f z)) e h)
any_intro f {x} (Memᴰ.tail {x = y} {xs = ys} m) h = or_r (f y) (any? f ys) (any_intro f m h)

pub any_elim : {X : Type 0} (f : X → Bool) (xs : List X) → T (any? f xs) → (x : X) × Memᴰ x xs × T (f x)
unfolding any?
any_elim f [] h = absurd h
any_elim f (y ∷ ys) h = go (either (f y) (any? f ys) h) (any_elim f ys)
  where
    go : T (f y) ⊎ T (any? f ys) → (T (any? f ys) → (x : _) × Memᴰ x ys × T (f x)) → (x : _) × Memᴰ x (y ∷ ys) × T (f x)
    go (inl k) r = (y, Memᴰ.head refl, k)
    go (inr k) r = let t = r k in (t.0, Memᴰ.tail t.1, t.2)

pub any_append : {X : Type 0} (f : X → Bool) (xs ys : List X) → any? f (xs ++ ys) ≡ (any? f xs || any? f ys)
unfolding any?
any_append f [] ys = refl
any_append f (x ∷ xs) ys = by (f x) (any_append f xs ys) where
  by : (b : Bool) → any? f (xs ++ ys) ≡ (any? f xs || any? f ys) → (b || any? f (xs ++ ys)) ≡ ((b || any? f xs) || any? f ys)
  by true e = refl
  by false e = e

-- The elements that pass.
pub sift_intro : {X : Type 0} (f : X → Bool) {x : X} {xs : List X} → Memᴰ x xs → T (f x) → Memᴰ x (sift f xs)
unfolding sift
sift_intro {X} f {x} (Memᴰ.head {x = y} {xs = ys} e) h = go (f y) (subst (λ z. T (f z)) e h)
  where
    go : (b : Bool) → T b → Memᴰ x (elim b [ true ↦ y ∷ sift f ys | false ↦ sift f ys ])
    go true k = Memᴰ.head e
    go false k = absurd k
sift_intro {X} f {x} (Memᴰ.tail {x = y} {xs = ys} m) h = go (f y) (sift_intro f m h)
  where
    go : (b : Bool) → Memᴰ x (sift f ys) → Memᴰ x (elim b [ true ↦ y ∷ sift f ys | false ↦ sift f ys ])
    go true k = Memᴰ.tail k
    go false k = k

pub sift_elim : {X : Type 0} (f : X → Bool) {x : X} (xs : List X) → Memᴰ x (sift f xs) → Memᴰ x xs × T (f x)
unfolding sift
sift_elim f [] m = absurd (Memᴰ.not-nil m)
sift_elim {X} f {x} (y ∷ ys) m = go (f y) refl m (sift_elim f ys)
  where
    go : (b : Bool) → f y ≡ b → Memᴰ x (elim b [ true ↦ y ∷ sift f ys | false ↦ sift f ys ]) → (Memᴰ x (sift f ys) → Memᴰ x ys × T (f x)) → Memᴰ x (y ∷ ys) × T (f x)
    go true e (Memᴰ.head k) r = (Memᴰ.head k, rw (k, e) tt)
    go true e (Memᴰ.tail k) r = let t = r k in (Memᴰ.tail t.0, t.1)
    go false e k r = let t = r k in (Memᴰ.tail t.0, t.1)

pub each_intro : {X Y : Type 0} (f : X → List Y) {x : X} {y : Y} {xs : List X} → Memᴰ x xs → Memᴰ y (f x) → Memᴰ y (each f xs)
unfolding each
each_intro f {x} {y} (Memᴰ.head {x = z} {xs = zs} e) m = Memᴰ.append_left (each f zs) (subst (λ w. Memᴰ y (f w)) e m)
each_intro f (Memᴰ.tail {x = z} n) m = Memᴰ.append_right (f z) (each_intro f n m)

pub each_elim : {X Y : Type 0} (f : X → List Y) (xs : List X) {y : Y} → Memᴰ y (each f xs) → (x : X) × Memᴰ x xs × Memᴰ y (f x)
unfolding each
each_elim f [] m = absurd (Memᴰ.not-nil m)
each_elim {X} f (x ∷ xs) {y} m = go (Memᴰ.append_cases (f x) m) (each_elim f xs)
  where
    go : Memᴰ y (f x) ⊎ Memᴰ y (each f xs) → (Memᴰ y (each f xs) → (z : X) × Memᴰ z xs × Memᴰ y (f z)) → (z : X) × Memᴰ z (x ∷ xs) × Memᴰ y (f z)
    go (inl k) r = (x, Memᴰ.head refl, k)
    go (inr k) r = let t = r k in (t.0, Memᴰ.tail t.1, t.2)

-- A list without elements.
pub no_members : {X : Type 0} (xs : List X) → ((x : X) → Memᴰ x xs → ⊥) → xs ≡ []
no_members [] h = refl
no_members (x ∷ xs) h = absurd (h x (Memᴰ.head refl))

-- Numbers below n, and pairs of them.
up_intro : (n k : ℕ) {x : ℕ} → k ≤ x → x < k + n → Memᴰ x (up_from n k)
unfolding up_from
up_intro zero k h l = absurd (omega arith)
up_intro (suc n) k {x} h l = go (eq-or-lt_of_le h) (λ m. up_intro n (suc k) m (omega arith))
  where
    go : (k ≡ x) ⊎ (k < x) → (k < x → Memᴰ x (up_from n (suc k))) → Memᴰ x (k ∷ up_from n (suc k))
    go (inl e) r = Memᴰ.head (sym e)
    go (inr m) r = Memᴰ.tail (r m)

up_elim : (n k : ℕ) {x : ℕ} → Memᴰ x (up_from n k) → (k ≤ x) × (x < k + n)
unfolding up_from
up_elim zero k m = absurd (Memᴰ.not-nil m)
up_elim (suc n) k (Memᴰ.head e) = (omega arith, omega arith)
up_elim (suc n) k (Memᴰ.tail m) = let h = up_elim n (suc k) m in (omega arith, omega arith)

pub below_intro : {n x : ℕ} → x < n → Memᴰ x (below n)
unfolding below
below_intro {n} h = up_intro n 0 (omega arith) (omega arith)

pub below_elim : {n x : ℕ} → Memᴰ x (below n) → x < n
unfolding below
below_elim {n} m = omega (arith, up_elim n 0 m)

pub square_intro : {n p q : ℕ} → p < n → q < n → Memᴰ (p, q) (square n)
unfolding square
square_intro h k = each_intro _ (below_intro h) (each_intro _ (below_intro k) (Memᴰ.head refl))

in_row : (n p : ℕ) {x : Pair} → Memᴰ x (each (λ q. (p, q) ∷ []) (below n)) → (x.0 ≡ p) × (x.1 < n)
in_row n p {x} m =
    let k = each_elim _ (below n) m in
    let e : ◌≡◌ {A = Pair} x (p, k.0) = Memᴰ.eq_of_singleton k.2 in
    (ap (λ (z : Pair). z.0) e, subst (λ i. i < n) (sym (ap (λ (z : Pair). z.1) e)) (below_elim k.1))

pub square_elim : (n : ℕ) {x : Pair} → Memᴰ x (square n) → (x.0 < n) × (x.1 < n)
unfolding square
square_elim n {x} m =
    let k = each_elim _ (below n) m in
    let r = in_row n k.0 k.2 in
    (subst (λ i. i < n) (sym r.0) (below_elim k.1), r.1)

-- Pairs in a list.
same_eq : (x y : Pair) → T (same? x y) → x ≡ y
unfolding same?
same_eq x y h = let t = both (eqb x.0 y.0) (eqb x.1 y.1) h in λ i. (eqb→eq x.0 y.0 t.0 i, eqb→eq x.1 y.1 t.1 i)

same_refl : (x : Pair) → T (same? x x)
unfolding same?
same_refl x = and (eqb x.0 x.0) (eqb x.1 x.1) (eqb_refl x.0) (eqb_refl x.1)

pub mem_of_among : (x : Pair) (xs : List Pair) → T (among x xs) → Memᴰ x xs
unfolding among
mem_of_among x xs h = let t = any_elim (same? x) xs h in Memᴰ.cast (same_eq x t.0 t.2) t.1

pub among_of_mem : (x : Pair) {xs : List Pair} → Memᴰ x xs → T (among x xs)
unfolding among
among_of_mem x m = any_intro (same? x) m (same_refl x)

-- Order.
module _ {X : Type 0} (R : X → X → Type 0) where
  pub sorted_sift : (f : X → Bool) {xs : List X} → Sorted R xs → Sorted R (sift f xs)
  unfolding sift
  sorted_sift f sorted_none = sorted_none
  sorted_sift f (sorted_more {x} {xs} n d) = go (f x) (sorted_sift f d)
    where
      go : (b : Bool) → Sorted R (sift f xs) → Sorted R (elim b [ true ↦ x ∷ sift f xs | false ↦ sift f xs ])
      go true e = sorted_more (λ y m. n y (sift_elim f xs m).0) e
      go false e = e

  sorted_append : {xs ys : List X} → Sorted R xs → Sorted R ys → ((x y : X) → Memᴰ x xs → Memᴰ y ys → R x y) → Sorted R (xs ++ ys)
  sorted_append sorted_none e h = e
  sorted_append {ys = ys} (sorted_more {x} {xs} n d) e h =
      sorted_more (λ y m. go y (Memᴰ.append_cases xs m)) (sorted_append d e (λ z y m. h z y (Memᴰ.tail m)))
    where
      go : (y : X) → Memᴰ y xs ⊎ Memᴰ y ys → R x y
      go y (inl m) = n y m
      go y (inr m) = h x y (Memᴰ.head refl) m

  pub sorted_one : (x : X) → Sorted R (x ∷ [])
  sorted_one x = sorted_more (λ y m. absurd (Memᴰ.not-nil m)) sorted_none

module _ {X Y : Type 0} (R : X → X → Type 0) (S : Y → Y → Type 0) where
  pub sorted_map : (f : X → Y) → ((x y : X) → R x y → S (f x) (f y)) → {xs : List X} → Sorted R xs → Sorted S (map f xs)
  sorted_map f k sorted_none = sorted_none
  sorted_map f k (sorted_more {x} {xs} n d) =
      sorted_more (λ y m. let w = Memᴰ.of_map f xs m in subst (S (f x)) w.2 (k x w.0 (n w.0 w.1))) (sorted_map f k d)

  -- Lists in order, one after the other, where each element of an earlier one stands before each of a later one.
  pub sorted_each : (f : X → List Y) → ((x : X) → Sorted S (f x))
      → ((x z : X) (y w : Y) → R x z → Memᴰ y (f x) → Memᴰ w (f z) → S y w) → {xs : List X} → Sorted R xs → Sorted S (each f xs)
  unfolding each
  sorted_each f d k sorted_none = sorted_none
  sorted_each f d k (sorted_more {x} {xs} n e) =
      sorted_append S (d x) (sorted_each f d k e) (λ y w m l. let v = each_elim f xs l in k x v.0 y w (n v.0 v.1) m v.2)

pub sorted_below : (n : ℕ) → Sorted ◌<◌ (below n)
unfolding below up_from
sorted_below n = go n 0
  where
    go : (n k : ℕ) → Sorted ◌<◌ (up_from n k)
    go zero k = sorted_none
    go (suc n) k = sorted_more {x = k} {xs = up_from n (suc k)} (λ y m. (up_elim n (suc k) m).0) (go n (suc k))

pub sorted_square : (n : ℕ) → Sorted PairBefore (square n)
unfolding square
sorted_square n = sorted_each ◌<◌ PairBefore _
    (λ p. sorted_each ◌<◌ PairBefore _ (λ q. sorted_one PairBefore (p, q)) (λ q r x y h m l. second p q r x y h (Memᴰ.eq_of_singleton m) (Memᴰ.eq_of_singleton l)) (sorted_below n))
    (λ p r x y h m l. let e = (in_row n p m).0 in let f = (in_row n r l).0 in inl (omega arith)) (sorted_below n)
  where
    second : (p q r : ℕ) (x y : Pair) → q < r → x ≡ (p, q) → y ≡ (p, r) → PairBefore x y
    second p q r x y h e f = rw (e, f) (inr (refl, h))

-- Nothing stands twice in a list that is in a strict order.
pub sorted_distinct : {X : Type 0} {R : X → X → Type 0} → ((x : X) → R x x → ⊥) → {xs : List X} → Sorted R xs → Distinct xs
sorted_distinct h sorted_none = distinct_none
sorted_distinct h (sorted_more {x} n d) = distinct_more (λ m. h x (n x m)) (sorted_distinct h d)

pub pair_before_itself : (x : Pair) → PairBefore x x → ⊥
pair_before_itself x (inl h) = omega arith
pair_before_itself x (inr h) = omega arith

pub trio_before_itself : (x : Trio) → TrioBefore x x → ⊥
trio_before_itself x (inl h) = omega arith
trio_before_itself x (inr (e, inl h)) = omega arith
trio_before_itself x (inr (e, inr (f, h))) = omega arith

-- Elements by their number.
pub get_mem : {X : Type 0} (d : X) (xs : List X) (i : ℕ) → i < length xs → Memᴰ (get_or xs i d) xs
get_mem d [] i h = absurd (omega arith)
get_mem d (x ∷ xs) zero h = Memᴰ.head refl
get_mem d (x ∷ xs) (suc i) h = Memᴰ.tail (get_mem d xs i (omega arith))

pub get_map : {X : Type 0} (f : X → ℕ) (d : X) (xs : List X) (i : ℕ) → i < length xs → get_or (map f xs) i 0 ≡ f (get_or xs i d)
get_map f d [] i h = absurd (omega arith)
get_map f d (x ∷ xs) zero h = refl
get_map f d (x ∷ xs) (suc i) h = get_map f d xs i (omega arith)

-- The position of a trio in a list of them.
same_trio_eq : (x y : Trio) → T (same_trio? x y) → x ≡ y
unfolding same_trio?
same_trio_eq x y h =
    let s = both (eqb x.0 y.0) _ h in
    let t = both (eqb x.1 y.1) (eqb x.2 y.2) s.1 in
    λ i. (eqb→eq x.0 y.0 s.0 i, eqb→eq x.1 y.1 t.0 i, eqb→eq x.2 y.2 t.1 i)

same_trio_refl : (x : Trio) → T (same_trio? x x)
unfolding same_trio?
same_trio_refl x = and (eqb x.0 x.0) _ (eqb_refl x.0) (and (eqb x.1 x.1) (eqb x.2 x.2) (eqb_refl x.1) (eqb_refl x.2))

pub at_position : (d x : Trio) {xs : List Trio} → Memᴰ x xs → (position x xs < length xs) × (get_or xs (position x xs) d ≡ x)
unfolding position
at_position d x (Memᴰ.head {x = y} {xs = ys} e) = go (same_trio? x y) (subst (λ z. T (same_trio? x z)) e (same_trio_refl x))
  where
    go : (b : Bool) → T b → (elim b [ true ↦ 0 | false ↦ suc (position x ys) ] < suc (length ys)) × (get_or (y ∷ ys) (elim b [ true ↦ 0 | false ↦ suc (position x ys) ]) d ≡ x)
    go true h = (omega arith, sym e)
    go false h = absurd h
at_position d x (Memᴰ.tail {x = y} {xs = ys} m) = go (same_trio? x y) refl (at_position d x m)
  where
    go : (b : Bool) → same_trio? x y ≡ b → (position x ys < length ys) × (get_or ys (position x ys) d ≡ x)
        → (elim b [ true ↦ 0 | false ↦ suc (position x ys) ] < suc (length ys)) × (get_or (y ∷ ys) (elim b [ true ↦ 0 | false ↦ suc (position x ys) ]) d ≡ x)
    go true e h = (omega arith, sym (same_trio_eq x y (rw e tt)))
    go false e h = (omega arith, h.1)

pub position_at : (d : Trio) {xs : List Trio} → Distinct xs → (i : ℕ) → i < length xs → position (get_or xs i d) xs ≡ i
unfolding position
position_at d distinct_none i h = absurd (omega arith)
position_at d (distinct_more {x} {xs} n e) zero h = go (same_trio? x x) (same_trio_refl x)
  where
    go : (b : Bool) → T b → ◌≡◌ {A = ℕ} (elim b [ true ↦ 0 | false ↦ suc (position x xs) ]) 0
    go true h = refl
    go false h = absurd h
position_at d (distinct_more {x} {xs} n e) (suc i) h = go (same_trio? (get_or xs i d) x) refl (position_at d e i (omega arith))
  where
    go : (b : Bool) → same_trio? (get_or xs i d) x ≡ b → position (get_or xs i d) xs ≡ i → ◌≡◌ {A = ℕ} (elim b [ true ↦ 0 | false ↦ suc (position (get_or xs i d) xs) ]) (suc i)
    go true k p = absurd (n (Memᴰ.cast (sym (same_trio_eq (get_or xs i d) x (rw k tt))) (get_mem d xs i (omega arith))))
    go false k p = ap suc p
