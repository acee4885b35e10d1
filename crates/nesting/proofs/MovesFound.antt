-- The loop over the moves of a table that puts those of one kind and mark into a relation.
use Prim.Native.Nat.{ℕ, ◌+◌, ◌*◌, ◌/◌, ◌%◌, ◌^◌, ◌<◌, ◌≤◌}
use mathlib.Core.Bool.{Bool, true, false, ◌&&◌}
use mathlib.Core.List.{List, [], Memᴰ}
use mathlib.Core.Logic.{◌↔◌, ◌⊎◌, inl, inr, ⊎_elim}
use mathlib.Core.Path.{◌≡◌, refl, sym, ap, ap₂, subst, ◌∙◌}
use native.Mathlib.Nat.{eq-or-lt_of_le}
use native.Mathlib.Omega.{arith}
use borrow.Author.Tests.{eqb-true, eq-eqb, ne_eqb}
use lib.Bits.{bit_or}
use lib.Dec.{T, eqb}
use lib.ListN.{length, get_or, set}
use Rattle.vpa.specs.Automaton.{Kind}
use Rattle.vpa.specs.TableOnDisk.{Table, entry, letter_count, kind_in, is_kind?}
use Rattle.vpa.proofs.Lists.{is_true}
use Rattle.vpa.proofs.TableMoves.{kind_eq, kind_test}
use Rattle.table.specs.Bytes.{byte}
use Rattle.table.specs.Calls.{kind_answer}
use Rattle.table.specs.Layout.{moves_field, moves_part, parse}
use Rattle.table.specs.Refusals.{verdict}
use Rattle.table.proofs.All.{both, and_true}
use Rattle.table.proofs.CallLaws.{kind_there}
use Rattle.table.proofs.Entries.{move_in}
use Rattle.table.proofs.Tables.{good_storable, good_table, good_part_length, move_here, move_place}
use Rattle.table.proofs.Quads.{quad_byte}
use Rattle.std.specs.Simd.{first_chunks}
use Rattle.relation.specs.Relations.{Holds, HoldsExactly, IsRelation, NoPair}
use Rattle.relation.proofs.Relations.{with_relation, with_pair}
use Rattle.nesting.specs.Steps.{MoveOf, of_kind?, move_of?}

-- The test of a move asks for its mark, and then for its letter's kind.
pub mark_same : (s : List ℕ) (a : ℕ) (asked : Kind) {m γ : ℕ} {b : Bool} → m ≡ γ → of_kind? (kind_answer s a) asked ≡ b → (eqb m γ && of_kind? (kind_answer s a) asked) ≡ b
mark_same s a asked e h = rw (eq-eqb _ _ e) h

pub mark_other : (s : List ℕ) (a : ℕ) (asked : Kind) {m γ : ℕ} → (m ≡ γ → ⊥) → (eqb m γ && of_kind? (kind_answer s a) asked) ≡ false
mark_other s a asked n = rw (ne_eqb _ _ n)

-- A move of this kind and mark from p to q stands in the bytes u, as one of the first n.
pub record StandsBelow (t : Table) (kind : Kind) (γ : ℕ) (u : List ℕ) (n p q : ℕ) : Type 0 where
  pub k : ℕ
  pub low : k < n
  pub from : byte u (4 * k) ≡ p
  pub of : kind_in t (byte u (4 * k + 1)) ≡ kind
  pub mark : byte u (4 * k + 2) ≡ γ
  pub to : byte u (4 * k + 3) ≡ q

-- The relation that holds those.
pub record MovesSoFar (t : Table) (kind : Kind) (γ : ℕ) (u : List ℕ) (n : ℕ) (r : List ℕ) : Type 0 where
  pub is : IsRelation r
  pub at : (p q : ℕ) → Holds r p q ↔ StandsBelow t kind γ u n p q

module _ {t : Table} {kind : Kind} {γ : ℕ} {u : List ℕ} {n : ℕ} where
  later : {p q : ℕ} → StandsBelow t kind γ u n p q → StandsBelow t kind γ u (n + 1) p q
  later w = record { k = w.k; low = omega arith; from = w.from; of = w.of; mark = w.mark; to = w.to }

  -- Of the first n + 1, one of the first n or the one at n.
  last : {p q : ℕ} (w : StandsBelow t kind γ u (n + 1) p q) → (w.k ≡ n) ⊎ StandsBelow t kind γ u n p q
  last w = ⊎_elim inl (λ l. inr (record { k = w.k; low = l; from = w.from; of = w.of; mark = w.mark; to = w.to })) (eq-or-lt_of_le (omega (arith, w.low)))

  module _ {r : List ℕ} (h : MovesSoFar t kind γ u n r) where
    pub moves_skip : ((byte u (4 * n + 2) ≡ γ) × (kind_in t (byte u (4 * n + 1)) ≡ kind) → ⊥) → MovesSoFar t kind γ u (n + 1) r
    moves_skip no_move = record {
      is = h.is;
      at = λ p q. (
        λ x. later ((h.at p q).0 x),
        λ w. ⊎_elim (λ e. absurd (no_move (rw (← e) w.mark, rw (← e) w.of))) (λ v. (h.at p q).1 v) (last w),
      );
    }

    pub moves_take : byte u (4 * n + 2) ≡ γ → kind_in t (byte u (4 * n + 1)) ≡ kind → (from : byte u (4 * n) < 64) (to : byte u (4 * n + 3) < 64)
        → MovesSoFar t kind γ u (n + 1) (set r (byte u (4 * n)) (bit_or (get_or r (byte u (4 * n)) 0) (1 * 2 ^ byte u (4 * n + 3) % 2 ^ 64)))
    moves_take m k from to = record {
      is = with_relation h.is from to;
      at = λ p q. (λ x. forth p q (((with_pair h.is from to).at p q).0 x).is, λ w. ((with_pair h.is from to).at p q).1 (record { is = back p q w (last w) }));
    }
      where
        forth : (p q : ℕ) → Holds r p q ⊎ ((p ≡ byte u (4 * n)) × (q ≡ byte u (4 * n + 3))) → StandsBelow t kind γ u (n + 1) p q
        forth p q (inl x) = later ((h.at p q).0 x)
        forth p q (inr e) = record { k = n; low = omega arith; from = sym e.0; of = k; mark = m; to = sym e.1 }

        back : (p q : ℕ) (w : StandsBelow t kind γ u (n + 1) p q) → (w.k ≡ n) ⊎ StandsBelow t kind γ u n p q → Holds r p q ⊎ ((p ≡ byte u (4 * n)) × (q ≡ byte u (4 * n + 3)))
        back p q w (inl e) = inr (rw (← e) (sym w.from), rw (← e) (sym w.to))
        back p q w (inr v) = inl ((h.at p q).1 v)

module _ (s : List ℕ) (good : verdict s ≡ 0) where
  bounds : (k : ℕ) → k < length (moves_part s) / 4
      → (byte (moves_part s) (4 * k) < 64) × (byte (moves_part s) (4 * k + 1) < letter_count (parse s)) × (byte (moves_part s) (4 * k + 3) < 64)
  bounds k l =
      let m = move_here s good k (omega (arith, good_part_length s good)) in
      let f = good_table s good in
      let n = (good_storable s good).states in
      (omega (arith, f.from _ m), f.letter _ m, omega (arith, f.to _ m))

  -- From here on u is the moves' part.
  module _ {u : List ℕ} (part : u ≡ moves_part s) where
    -- What the numbers of move k are below.
    pub move_bounds : (k : ℕ) → k < length u / 4 → (byte u (4 * k) < 64) × (byte u (4 * k + 1) < letter_count (parse s)) × (byte u (4 * k + 3) < 64)
    move_bounds k l = rw part (bounds k (rw part at l))

    -- What the test of a move tells.
    module _ (k : ℕ) (asked : Kind) (γ : ℕ) (l : k < length u / 4) where
      kind_here : of_kind? (kind_answer s (byte u (4 * k + 1))) asked ≡ is_kind? (kind_in (parse s) (byte u (4 * k + 1))) asked
      unfolding of_kind?
      kind_here = ap (λ kind. of_kind? kind asked) (kind_there s _ (move_bounds k l).1)

      pub taken : {b : Bool} → move_of? s u (4 * k) asked γ ≡ b → b ≡ true → (byte u (4 * k + 2) ≡ γ) × (kind_in (parse s) (byte u (4 * k + 1)) ≡ asked)
      unfolding move_of?
      taken d e =
          let w = both (eqb (byte u (4 * k + 2)) γ) (of_kind? (kind_answer s (byte u (4 * k + 1))) asked) (d ∙ e) in
          (eqb-true _ _ w.0, kind_eq _ _ (subst T (sym (sym kind_here ∙ w.1)) tt))

      pub skipped : {b : Bool} → move_of? s u (4 * k) asked γ ≡ b → b ≡ false → (byte u (4 * k + 2) ≡ γ) × (kind_in (parse s) (byte u (4 * k + 1)) ≡ asked) → ⊥
      unfolding move_of?
      skipped d e (m, i) = subst T (sym (and_true (eq-eqb _ _ m) (kind_here ∙ is_true _ (kind_test _ _ i))) ∙ d ∙ e) tt

    -- The same of a test that asks for the kind alone.
    module _ (k : ℕ) (asked : Kind) {b : Bool} (l : k < length u / 4) (d : of_kind? (kind_answer s (byte u (4 * k + 1))) asked ≡ b) where
      marked : move_of? s u (4 * k) asked (byte u (4 * k + 2)) ≡ b
      unfolding move_of?
      marked = mark_same s (byte u (4 * k + 1)) asked refl d

      pub of_kind : b ≡ true → kind_in (parse s) (byte u (4 * k + 1)) ≡ asked
      of_kind e = (taken k asked (byte u (4 * k + 2)) l marked e).1

      pub other_kind : b ≡ false → kind_in (parse s) (byte u (4 * k + 1)) ≡ asked → ⊥
      other_kind e i = skipped k asked (byte u (4 * k + 2)) l marked e (refl, i)

    -- The moves of the table are those that stand in the bytes.
    part_count : length u / 4 ≡ moves_field s
    part_count = rw part (omega (arith, good_part_length s good))

    pub move_at : (k : ℕ) → k < length u / 4 → Memᴰ (move_in u (4 * k)) (parse s).moves
    move_at k l = rw part (move_here s good k (omega (arith, part_count)))

    pub stands_at : {kind : Kind} {γ p q : ℕ} → MoveOf (parse s) kind γ p q → StandsBelow (parse s) kind γ u (length u / 4) p q
    stands_at {kind} {γ} {p} {q} m =
        let w = move_place s good m.stands in
        let e = subst (λ u. move_in u (4 * w.0) ≡ entry p m.letter γ q) (sym part) (sym w.2) in
        record {
          k = w.0;
          low = omega (arith, w.1, part_count);
          from = ap (λ x. x.from) e;
          of = ap (λ x. kind_in (parse s) x.letter) e ∙ m.of;
          mark = ap (λ x. x.mark) e;
          to = ap (λ x. x.to) e;
        }

    -- The whole loop done.
    pub moves_all : {kind : Kind} {γ n : ℕ} {r : List ℕ} → n ≤ length u / 4 → length u / 4 ≤ n → MovesSoFar (parse s) kind γ u n r
        → HoldsExactly r (MoveOf (parse s) kind γ)
    moves_all {kind} {γ} {n} {r} l g h = record { at = λ p q. (λ x. forth ((h.at p q).0 x), λ m. (h.at p q).1 (rw (← all) at (stands_at m))) } where
      all : n ≡ length u / 4
      all = omega arith

      forth : {p q : ℕ} → StandsBelow (parse s) kind γ u n p q → MoveOf (parse s) kind γ p q
      forth w = record {
        letter = byte u (4 * w.k + 1);
        stands = rw (← w.from, ← w.mark, ← w.to) (move_at w.k (omega (arith, w.low)));
        of = w.of;
      }

-- The loop over the moves in fours: what the bytes of move k are below, and what a turn makes of the relation.
module _ (s : List ℕ) (good : verdict s ≡ 0) {u : List ℕ} {chunks : List (List ℕ)} (part : u ≡ moves_part s)
    (front : chunks ≡ first_chunks 4 (length u / 4) u) (count : length chunks ≡ length u / 4) (k : ℕ) (l : k < length chunks) where
  here : k < length (moves_part s) / 4
  here = rw (← part) (omega (arith, count))

  chunk_byte : (j : ℕ) → j < 4 → get_or (get_or chunks k []) j 0 ≡ byte (moves_part s) (4 * k + j)
  chunk_byte j m = rw (front, part) (quad_byte (moves_part s) k j [] here m)

  first_byte : get_or (get_or chunks k []) 0 0 ≡ byte (moves_part s) (4 * k)
  first_byte = chunk_byte 0 (omega arith) ∙ ap (λ (i : ℕ). byte (moves_part s) i) (omega arith)

  pub chunk_bounds : (get_or (get_or chunks k []) 0 0 < 64) × (get_or (get_or chunks k []) 3 0 < 64)
  chunk_bounds = let b = move_bounds s good {u = moves_part s} refl k here in (rw first_byte b.0, rw (chunk_byte 3 (omega arith)) b.2)

  module _ {kind : Kind} {γ : ℕ} {r : List ℕ} (h : MovesSoFar (parse s) kind γ (moves_part s) k r) where
    module _ {b : Bool} (test : (eqb (get_or (get_or chunks k []) 2 0) γ && of_kind? (kind_answer s (get_or (get_or chunks k []) 1 0)) kind) ≡ b) where
      tested : move_of? s (moves_part s) (4 * k) kind γ ≡ b
      unfolding move_of?
      tested = ap₂ (λ (x y : ℕ). eqb x γ && of_kind? (kind_answer s y) kind) (sym (chunk_byte 2 (omega arith))) (sym (chunk_byte 1 (omega arith))) ∙ test

      pub chunk_skipped : b ≡ false → MovesSoFar (parse s) kind γ (moves_part s) (k + 1) r
      chunk_skipped e = moves_skip h (skipped s good {u = moves_part s} refl k kind γ here tested e)

      pub chunk_taken : {z : ℕ} → b ≡ true → z ≡ get_or (get_or chunks k []) 0 0
          → MovesSoFar (parse s) kind γ (moves_part s) (k + 1) (set r z (bit_or (get_or r z 0) (1 * 2 ^ get_or (get_or chunks k []) 3 0 % 2 ^ 64)))
      chunk_taken t z =
          let w = taken s good {u = moves_part s} refl k kind γ here tested t in
          let b = move_bounds s good {u = moves_part s} refl k here in
          rw (z, first_byte, chunk_byte 3 (omega arith)) (moves_take h w.0 w.1 b.0 b.2)

-- After the last turn.
pub chunks_all : (s : List ℕ) → verdict s ≡ 0 → {u : List ℕ} (chunks : List (List ℕ)) → u ≡ moves_part s → length chunks ≡ length u / 4 → {kind : Kind} {γ n : ℕ} {r : List ℕ}
    → n ≤ length chunks → length chunks ≤ n → MovesSoFar (parse s) kind γ (moves_part s) n r → HoldsExactly r (MoveOf (parse s) kind γ)
chunks_all s good chunks part count l g h =
    let long : length chunks ≡ length (moves_part s) / 4 = count ∙ ap (λ (u : List ℕ). length u / 4) part in
    moves_all s good {u = moves_part s} refl (omega (arith, long, l)) (omega (arith, long, g)) h

pub moves_empty : {r : List ℕ} (t : Table) (kind : Kind) (γ : ℕ) (u : List ℕ) → IsRelation r → HoldsExactly r NoPair → MovesSoFar t kind γ u 0 r
moves_empty t kind γ u is h = record { is = is; at = λ p q. (λ x. elim ((h.at p q).0 x) [ ], λ w. absurd (omega (arith, w.low))) }
