-- The search for the balanced pairs, on a relation held as rows: what holds of it at its start and after each round, and that it is done where a round
-- leaves it as it is.
use Prim.Native.Nat.{ℕ, ◌<◌}
use mathlib.Core.Path.{◌≡◌, refl, subst}
use mathlib.Core.List.{List, Memᴰ}
use mathlib.Core.Logic.{◌⊎◌, inl, inr}
use Rattle.vpa.specs.Automaton.{plain, opening, closing, plain_move, open_move, close_move}
use Rattle.vpa.specs.PairsLevelsTrimmed.{Balanced, same, join, step, nest}
use Rattle.vpa.specs.TableOnDisk.{Table, state_count, MarkFits, InTable, in_plain, in_open, in_close, automaton, IsTable}
use Rattle.vpa.specs.PairsComputed.{pairs}
use Rattle.vpa.proofs.TableMoves.{open_bounds}
use Rattle.vpa.proofs.TablePairs.{pairs_balanced, pairs_bounds, pairs_complete, pairs_iff}
use Rattle.relation.specs.Relations.{Holds, HoldsExactly, Identity, Joined}
use Rattle.nesting.specs.Steps.{MoveOf, Around, PairStart, PairRound}
use Rattle.nesting.proofs.ListedRows.{Listed}

-- What holds of r all through the search: the pairs that are balanced at once are held, and only balanced pairs are.
pub record PairsUnder (t : Table) (r : List ℕ) : Type 0 where
  pub start : (j k : ℕ) → PairStart t j k → Holds r j k
  pub sound : (j k : ℕ) → Holds r j k → Memᴰ (j, k) (pairs t)

-- A move of one kind and mark is a move of the automaton, and the other way round.
module _ (t : Table) where
  pub open_of : {γ p q : ℕ} (m : MoveOf t opening γ p q) → InTable t (open_move p m.letter γ q)
  open_of m = in_open m.stands m.of

  pub open_to : {p a γ q : ℕ} → InTable t (open_move p a γ q) → MoveOf t opening γ p q
  open_to (in_open {a = a} m k) = record { letter = a; stands = m; of = k }

  pub close_of : {γ p q : ℕ} (m : MoveOf t closing γ p q) → InTable t (close_move p m.letter γ q)
  close_of m = in_close m.stands m.of

  pub close_to : {p a γ q : ℕ} → InTable t (close_move p a γ q) → MoveOf t closing γ p q
  close_to (in_close {a = a} m k) = record { letter = a; stands = m; of = k }

module _ (t : Table) (fit : IsTable t) where
  -- A plain move's mark is 0.
  plain_to : {p a q : ℕ} → InTable t (plain_move p a q) → MoveOf t plain 0 p q
  plain_to (in_plain {a = a} γ m k) =
      let zero_mark : γ ≡ 0 = subst (λ kind. MarkFits kind γ t.mark_count) k (fit.mark _ m) in
      record { letter = a; stands = rw zero_mark at m; of = k }

  listed : {p q : ℕ} → p < state_count t → Balanced (automaton t) p q → Memᴰ (p, q) (pairs t)
  listed {p} {q} low b = (pairs_iff t fit p q).1 (low, b)

  -- The pairs that are balanced at once begin the search.
  pub pairs_start : {r : List ℕ} → HoldsExactly r (PairStart t) → PairsUnder t r
  pairs_start exact = record { start = λ j k. (exact.at j k).1; sound = λ j k h. go ((exact.at j k).0 h).is }
    where
      go : {j k : ℕ} → Identity (state_count t) j k ⊎ MoveOf t plain 0 j k → Memᴰ (j, k) (pairs t)
      go {j} (inl i) = listed i.low (subst (Balanced (automaton t) j) i.same same)
      go (inr m) = listed (fit.from _ m.stands) (step (in_plain 0 m.stands m.of))

  module _ {r : List ℕ} (under : PairsUnder t r) where
    balanced : {p q : ℕ} → Holds r p q → Balanced (automaton t) p q
    balanced {p} {q} h = pairs_balanced t p q (under.sound p q h)

    -- What holds before a round holds after it.
    pub pairs_more : {s : List ℕ} → HoldsExactly s (PairRound t r) → PairsUnder t s
    pairs_more exact = record { start = λ j k h. (exact.at j k).1 (record { is = inl (under.start j k h) }); sound = λ j k h. go ((exact.at j k).0 h).is }
      where
        go : {j k : ℕ} → Holds r j k ⊎ (Joined r r j k ⊎ Around t opening closing r t.mark_count j k) → Memᴰ (j, k) (pairs t)
        go {j} {k} (inl h) = under.sound j k h
        go {j} (inr (inl w)) = listed (pairs_bounds t (under.sound j w.by w.first)).0 (join (balanced w.first) (balanced w.second))
        go (inr (inr w)) =
            let a = w.by in
            listed (fit.from _ a.first.stands) (nest (open_of t a.first) (balanced a.inside) (close_of t a.last))

    module _ (exact : HoldsExactly r (PairRound t r)) where
      -- By the rules of the balanced pairs, which r is closed under.
      full : {p q : ℕ} → Balanced (automaton t) p q → p < state_count t → Holds r p q
      full (same {p}) low = under.start p p (record { is = inl (record { same = refl; low = low }) })
      full (join {p} {q} {r = l} b c) low =
          (exact.at p l).1 (record { is = inr (inl (record { by = q; first = full b low; second = full c (pairs_complete t fit b low).0 })) })
      full (step {p} {q} m) low = under.start p q (record { is = inr (plain_to m) })
      full (nest {p'} {p} {q} {q'} {γ = γ} m b n) low =
          let bounds = open_bounds t fit m in
          (exact.at p' q').1 (record {
            is = inr (inr (record {
              γ = γ;
              low = bounds.2;
              by = record { p = p; q = q; first = open_to t m; inside = full b bounds.3; last = close_to t n };
            }));
          })

      -- Where a round leaves r as it is, r holds the balanced pairs.
      pub pairs_exact : HoldsExactly r (Listed (pairs t))
      pairs_exact = record {
        at = λ j k. (
          λ h. record { member = under.sound j k h },
          λ l. full (pairs_balanced t j k l.member) (pairs_bounds t l.member).0,
        );
      }
