-- The search for the live levels, on a relation held as rows and turned round: what holds of it at its start and after each round, and that it is done
-- where a round leaves it as it is.
use Prim.Native.Nat.{ℕ, ◌<◌}
use mathlib.Core.List.{List, Memᴰ}
use mathlib.Core.Logic.{◌⊎◌, inl, inr}
use Rattle.vpa.specs.PairsLevelsTrimmed.{Balanced, Live, top, inner}
use Rattle.vpa.specs.TableOnDisk.{Table, state_count, automaton, IsTable}
use Rattle.vpa.specs.PairsComputed.{pairs, levels}
use Rattle.vpa.proofs.TableMoves.{open_bounds, close_bounds, initial_bound}
use Rattle.vpa.proofs.TablePairs.{pairs_balanced, pairs_complete}
use Rattle.vpa.proofs.TableLevels.{levels_live, levels_complete, levels_iff}
use Rattle.relation.specs.Relations.{Holds, HoldsExactly, Turned}
use Rattle.nesting.specs.Steps.{TopBack, OpenedBack, LevelRound}
use Rattle.nesting.proofs.ListedRows.{Listed}
use Rattle.nesting.proofs.PairSearch.{open_of, open_to, close_of, close_to}

-- What holds of the levels held all through the search: the top levels are held, and only live levels are.
pub record LevelsUnder (t : Table) (back live : List ℕ) : Type 0 where
  pub start : (q o : ℕ) → TopBack t back q o → Holds live q o
  pub sound : (q o : ℕ) → Holds live q o → Memᴰ (o, q) (levels t)

module _ (t : Table) (fit : IsTable t) {b back : List ℕ} (pairs_held : HoldsExactly b (Listed (pairs t))) (turned : HoldsExactly back (Turned b)) where
  -- The rows b and back hold the balanced pairs.
  balanced : {p q : ℕ} → Holds b p q → Balanced (automaton t) p q
  balanced {p} {q} h = pairs_balanced t p q ((pairs_held.at p q).0 h).member

  held : {p q : ℕ} → Balanced (automaton t) p q → p < state_count t → Holds b p q
  held {p} {q} w low = (pairs_held.at p q).1 (record { member = (pairs_complete t fit w low).1 })

  back_balanced : {q o : ℕ} → Holds back q o → Balanced (automaton t) o q
  back_balanced {q} {o} h = balanced ((turned.at q o).0 h).back

  back_held : {q o : ℕ} → Balanced (automaton t) o q → o < state_count t → Holds back q o
  back_held {q} {o} w low = (turned.at q o).1 (record { back = held w low })

  -- The top levels begin the search.
  pub levels_start : {live : List ℕ} → HoldsExactly live (TopBack t back) → LevelsUnder t back live
  levels_start exact = record {
    start = λ q o. (exact.at q o).1;
    sound = λ q o h.
        let w = (exact.at q o).0 h in
        (levels_iff t fit o q).1 (top (record { begins = w.begins; balanced = back_balanced w.pair; ends = w.ends }));
  }

  module _ {live : List ℕ} (under : LevelsUnder t back live) where
    -- What holds before a round holds after it.
    pub levels_more : {s : List ℕ} → HoldsExactly s (LevelRound t b back live) → LevelsUnder t back s
    levels_more exact = record { start = λ q o h. (exact.at q o).1 (record { is = inl (under.start q o h) }); sound = λ q o h. go ((exact.at q o).0 h).is }
      where
        go : {q o : ℕ} → Holds live q o ⊎ (Holds back q o × OpenedBack t b live q o) → Memᴰ (o, q) (levels t)
        go {q} {o} (inl h) = under.sound q o h
        go {q} {o} (inr (h, w)) = (levels_iff t fit o q).1 (inner (levels_live t w.beside.o w.beside.q (under.sound w.beside.q w.beside.o w.beside.level)) (record {
          opens = record { x = w.x; a = w.opened.letter; before = balanced w.beside.before; opened = open_of t w.opened };
          inside = back_balanced h;
          closes = record { s = w.s; b = w.closed.letter; closed = close_of t w.closed; after = balanced w.beside.after };
        }))

    module _ (exact : HoldsExactly live (LevelRound t b back live)) where
      -- By the rules of the live levels, which the levels held are closed under.
      full : {o q : ℕ} → Live (automaton t) o q → Holds live q o
      full (top {i} {f} w) = under.start f i (record { pair = back_held w.balanced (initial_bound t i w.begins); begins = w.begins; ends = w.ends })
      full (inner {o} {q} {o'} {q'} {γ} l w) =
          let opened = w.opens.opened in
          let closed = w.closes.closed in
          let bounds = open_bounds t fit opened in
          (exact.at q' o').1 (record {
            is = inr (
              back_held w.inside bounds.3,
              record {
                γ = γ;
                low = bounds.2;
                s = w.closes.s;
                x = w.opens.x;
                closed = close_to t closed;
                beside = record {
                  q = q;
                  o = o;
                  after = held w.closes.after (close_bounds t fit closed).3;
                  level = full l;
                  before = held w.opens.before (levels_complete t fit l).0;
                };
                opened = open_to t opened;
              },
            );
          })

      -- Where a round leaves the levels held as they are, they are the live levels.
      pub levels_exact : {r : List ℕ} → HoldsExactly r (Turned live) → HoldsExactly r (Listed (levels t))
      levels_exact forward = record {
        at = λ o q. (
          λ h. record { member = under.sound q o ((forward.at o q).0 h).back },
          λ l. (forward.at o q).1 (record { back = full (levels_live t o q l.member) }),
        );
      }
