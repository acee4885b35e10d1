-- A list of pairs as rows: they hold the listed pairs and no others, and their size is the length of a list in which nothing stands twice.
use Prim.Native.Nat.{ℕ, suc, ◌<◌}
use mathlib.Core.List.Memᴰ
use mathlib.Core.List.{List, ◌∷◌, Memᴰ}
use mathlib.Core.Logic.{◌⊎◌, inl, inr}
use mathlib.Core.Path.{◌≡◌, refl, ap, ◌∙◌}
use lib.ListN.{length}
use Rattle.vpa.specs.Lists.{Pair, among, Distinct, distinct_none, distinct_more}
use Rattle.vpa.proofs.Lists.{mem_of_among, among_of_mem}
use Rattle.relation.specs.Relations.{Holds, HoldsExactly, IsRelation, With, size_of}
use Rattle.relation.proofs.Relations.{exactly, holds_inside, same_relation, size_nothing, size_with}
use Rattle.relation.proofs.RowsOf.{rows_relation, rows_hold}
use Rattle.nesting.specs.Calls.{rows}

-- The pair stands in the list.
pub record Listed (held : List Pair) (j k : ℕ) : Type 0 where
  pub member : Memᴰ (j, k) held

-- The pairs of a list are pairs of numbers below 64.
abbrev pub Inside : List Pair → Type 0
Inside xs = (x : Pair) → Memᴰ x xs → (x.0 < 64) × (x.1 < 64)

pub rows_listed : (xs : List Pair) → Inside xs → HoldsExactly (rows xs) (Listed xs)
unfolding rows
rows_listed xs low = record {
  at = λ j k. let held = rows_hold (λ j k. among (j, k) xs) j k in (
    λ h. record { member = mem_of_among (j, k) xs (held.0 h).2 },
    λ l. let b = low (j, k) l.member in held.1 (b.0, b.1, among_of_mem (j, k) l.member),
  );
}

pub listed_rows : {r : List ℕ} {xs : List Pair} → IsRelation r → HoldsExactly r (Listed xs) → r ≡ rows xs
unfolding rows
listed_rows {xs = xs} is h = same_relation is (rows_relation _) h (rows_listed xs (λ x m. holds_inside is ((h.at x.0 x.1).1 (record { member = m }))))

-- The rows of a list hold what the rows of its tail hold, and its head.
rows_more : (x : Pair) (xs : List Pair) → Inside (x ∷ xs) → HoldsExactly (rows (x ∷ xs)) (With (rows xs) x.0 x.1)
rows_more x xs low = exactly all (λ j k h. forth j k h.member) (λ j k w. record { member = back j k w.is }) where
  all : HoldsExactly (rows (x ∷ xs)) (Listed (x ∷ xs))
  all = rows_listed (x ∷ xs) low

  rest : HoldsExactly (rows xs) (Listed xs)
  rest = rows_listed xs (λ y m. low y (Memᴰ.tail m))

  forth : (j k : ℕ) → Memᴰ (j, k) (x ∷ xs) → With (rows xs) x.0 x.1 j k
  forth j k (Memᴰ.head e) = record { is = inr (ap (λ (y : Pair). y.0) e, ap (λ (y : Pair). y.1) e) }
  forth j k (Memᴰ.tail m) = record { is = inl ((rest.at j k).1 (record { member = m })) }

  back : (j k : ℕ) → Holds (rows xs) j k ⊎ ((j ≡ x.0) × (k ≡ x.1)) → Memᴰ (j, k) (x ∷ xs)
  back j k (inl h) = Memᴰ.tail ((rest.at j k).0 h).member
  back j k (inr e) = Memᴰ.head (λ i. (e.0 i, e.1 i))

pub rows_size : {xs : List Pair} → Distinct xs → Inside xs → size_of (rows xs) ≡ length xs
rows_size distinct_none low = size_nothing (λ j k h. Memᴰ.not-nil (((rows_listed _ low).at j k).0 h).member)
rows_size (distinct_more {x} {xs} new d) low =
    let b = low x (Memᴰ.head refl) in
    let low_rest : Inside xs = λ y m. low y (Memᴰ.tail m) in
    size_with (λ h. new (((rows_listed xs low_rest).at x.0 x.1).0 h).member) (rows_more x xs low) b.0 b.1 ∙ ap suc (rows_size d low_rest)
