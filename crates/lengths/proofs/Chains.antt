-- Laws of chains of moves: how a loop that goes down over the moves makes them, and how one that goes along a chain meets every move of it.
use Prim.Native.Nat.{ℕ, suc, ◌+◌, ◌*◌, ◌/◌, ◌<◌, ◌≤◌}
use mathlib.Core.List.{List}
use mathlib.Core.Logic.{◌⊎◌, inl, inr}
use mathlib.Core.Path.{◌≡◌, refl, sym, subst, ◌∙◌}
use native.Mathlib.Decide.{ℕ_discrete, dec_lt}
use native.Mathlib.Nat.{add-zero}
use native.Mathlib.Omega.{arith}
use lib.ListN.{length, get_or, set, replicate, length-set, length-replicate, get_or-replicate}
use lib.Seq.{get_or-set_same, get_or-set_other}
use Rattle.table.specs.Bytes.{byte}
use Rattle.table.specs.Layout.{moves_part}
use Rattle.table.specs.Refusals.{verdict}
use Rattle.table.proofs.Tables.{good_storable, good_moves, good_part_length}
use Rattle.nesting.proofs.MovesFound.{move_bounds}
use Rattle.lengths.specs.Along.{Forward}
use Rattle.lengths.specs.Steps.{FirstFrom, Chained}

-- A table's moves have their places in a chain of 1088.
pub moves_most : (s : List ℕ) → verdict s ≡ 0 → {part : List ℕ} → part ≡ moves_part s → length part / 4 ≤ 1024
moves_most s good e = rw e (omega (arith, good_part_length s good, good_moves s good, (good_storable s good).moves))

-- MAKING CHAINS

-- What stands in a column is a state.
pub column_low : (s : List ℕ) → verdict s ≡ 0 → {part : List ℕ} → part ≡ moves_part s → {column : ℕ} → (column ≡ 0) ⊎ (column ≡ 3) → column ≤ 3
    × ((k : ℕ) → k < length part / 4 → byte part (4 * k + column) < 64)
column_low s good e (inl c) = rw c (omega arith, λ k l. rw (add-zero (4 * k)) (move_bounds s good e k l).0)
column_low s good e (inr c) = rw c (omega arith, λ k l. (move_bounds s good e k l).2)

module _ {part : List ℕ} {column : ℕ} where
  -- Past the moves there is none.
  first_past : {x k v : ℕ} → length part / 4 ≤ k → k ≤ v → FirstFrom part column x k v
  first_past l m = record { from = m; at = λ g. absurd (omega arith); none = λ j a b g e. absurd (omega arith) }

  first_here : (k : ℕ) → FirstFrom part column (byte part (4 * k + column)) k k
  first_here k = record { from = omega arith; at = λ l. refl; none = λ j a b l e. absurd (omega arith) }

  -- A move that has something else in the column is passed over.
  first_before : {x k v : ℕ} → (x ≡ byte part (4 * k + column) → ⊥) → FirstFrom part column x (suc k) v → FirstFrom part column x k v
  first_before {x} {k} {v} other h = record { from = omega (arith, h.from); at = h.at; none = λ j a b l e. by j a b l e (ℕ_discrete j k) }
    where
      by : (j : ℕ) → k ≤ j → j < v → j < length part / 4 → byte part (4 * j + column) ≡ x → Dec (j ≡ k) → ⊥
      by j a b l e (yes q) = other (rw (← q) (sym e))
      by j a b l e (no n) = h.none j (omega arith) b l e

-- The chains of the moves from number k on, where nothing is said of the places of the moves below.
pub record ChainedFrom (part : List ℕ) (column k : ℕ) (chain : List ℕ) : Type 0 where
  pub long : length chain ≡ 1088
  pub head : (x : ℕ) → x < 64 → FirstFrom part column x k (get_or chain x 0)
  pub next : (j : ℕ) → k ≤ j → j < length part / 4 → FirstFrom part column (byte part (4 * j + column)) (suc j) (get_or chain (64 + j) 0)

pub chained_none : (part : List ℕ) (column : ℕ) → length part / 4 ≤ 1024 → ChainedFrom part column (length part / 4) (replicate 1088 1024)
chained_none part column l = record {
  long = length-replicate {A = ℕ} 1088 1024;
  head = λ x g. rw (get_or-replicate {A = ℕ} 1088 x 1024 0 (omega arith)) (first_past (omega arith) l);
  next = λ j a b. absurd (omega arith);
}

module _ {part : List ℕ} {column i k : ℕ} {chain : List ℕ} (e : k ≡ suc i) (l : i < length part / 4) (most : length part / 4 ≤ 1024)
    (small : byte part (4 * i + column) < 64) (h : ChainedFrom part column k chain) where
  abbrev here : ℕ
  here = byte part (4 * i + column)

  abbrev once : List ℕ
  once = set chain (64 + i) (get_or chain here 0)

  long : length once ≡ 1088
  long = length-set chain (64 + i) (get_or chain here 0) ∙ h.long

  kept : (j : ℕ) → (j ≡ here → ⊥) → (j ≡ 64 + i → ⊥) → get_or (set once here i) j 0 ≡ get_or chain j 0
  kept j n o = get_or-set_other once here j i 0 n ∙ get_or-set_other chain (64 + i) j (get_or chain here 0) 0 o

  more_head : (x : ℕ) → x < 64 → Dec (x ≡ here) → FirstFrom part column x i (get_or (set once here i) x 0)
  more_head x m (yes q) = rw (q, get_or-set_same once here i 0 (omega (arith, long))) (first_here i)
  more_head x m (no n) = rw (kept x n (λ o. omega arith)) (first_before n (rw (← e) (h.head x m)))

  more_next : (j : ℕ) → i ≤ j → j < length part / 4 → Dec (j ≡ i)
      → FirstFrom part column (byte part (4 * j + column)) (suc j) (get_or (set once here i) (64 + j) 0)
  more_next j a b (yes q) =
      let same = get_or-set_same chain (64 + i) (get_or chain here 0) 0 (omega (arith, h.long)) in
      rw (q, get_or-set_other once here (64 + i) i 0 (λ o. omega arith), same) (rw (← e) (h.head here small))
  more_next j a b (no n) = rw (kept (64 + j) (λ o. omega arith) (λ o. omega arith)) (h.next j (omega arith) b)

  -- Move i goes in front of the moves that have the same in the column.
  pub chained_more : ChainedFrom part column i (set once here i)
  chained_more = record {
    long = length-set once here i ∙ long;
    head = λ x m. more_head x m (ℕ_discrete x here);
    next = λ j a b. more_next j a b (ℕ_discrete j i);
  }

pub chained_all : {part : List ℕ} {column k : ℕ} {chain : List ℕ} → k ≤ 0 → ChainedFrom part column k chain → Chained part column chain
chained_all {part} {column} {k} {chain} z h = record {
  head = λ x l. subst (λ k. FirstFrom part column x k (get_or chain x 0)) (omega arith) (h.head x l);
  next = λ j l. h.next j (omega arith) l;
}

-- WALKING ALONG A CHAIN

-- A walk over the moves that have x in the column has come to number k, which is one of them or past the moves; P holds of all those before.
pub record Walked (part : List ℕ) (column x k : ℕ) (P : ℕ → Type 0) : Type 0 where
  pub at : k < length part / 4 → byte part (4 * k + column) ≡ x
  pub done : (j : ℕ) → j < k → j < length part / 4 → byte part (4 * j + column) ≡ x → P j

-- A step leads further, so that a walk ends.
pub chained_forward : {part : List ℕ} {column : ℕ} {chain : List ℕ} → Chained part column chain → Forward (length part / 4) chain
chained_forward chained k l = omega (arith, (chained.next k l).from)

module _ {part : List ℕ} {column x : ℕ} where
  pub walked_map : {P R : ℕ → Type 0} {k : ℕ} → ((j : ℕ) → j < length part / 4 → P j → R j) → Walked part column x k P → Walked part column x k R
  walked_map f w = record { at = w.at; done = λ j l m e. f j m (w.done j l m e) }

  pub walked_all : {P : ℕ → Type 0} {k : ℕ} → length part / 4 ≤ k → Walked part column x k P
      → (j : ℕ) → j < length part / 4 → byte part (4 * j + column) ≡ x → P j
  walked_all g w j l e = w.done j (omega arith) l e

  module _ {chain : List ℕ} (chained : Chained part column chain) where
    pub walked_none : {P : ℕ → Type 0} → x < 64 → Walked part column x (get_or chain x 0) P
    walked_none l = let f = chained.head x l in record { at = f.at; done = λ j m g e. absurd (f.none j (omega arith) m g e) }

    pub walked_more : {P : ℕ → Type 0} {k : ℕ} → k < length part / 4 → P k → Walked part column x k P → Walked part column x (get_or chain (64 + k) 0) P
    walked_more {P} {k} l h w = record { at = λ m. f.at m ∙ w.at l; done = λ j m g e. by j m g e (dec_lt j k) (ℕ_discrete j k) }
      where
        f : FirstFrom part column (byte part (4 * k + column)) (suc k) (get_or chain (64 + k) 0)
        f = chained.next k l

        by : (j : ℕ) → j < get_or chain (64 + k) 0 → j < length part / 4 → byte part (4 * j + column) ≡ x → Dec (j < k) → Dec (j ≡ k) → P j
        by j m g e (yes q) d = w.done j q g e
        by j m g e (no n) (yes q) = subst P (sym q) h
        by j m g e (no n) (no o) = absurd (f.none j (omega arith) m g (e ∙ sym (w.at l)))
