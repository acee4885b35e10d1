-- Document 01, "Pairs, levels, trimmed states", first half, computed for a table: the balanced pairs and the live levels as lists in order.
use Rattle.std.specs.Prelude.{ℕ, Bool, ◌&&◌, ◌||◌, List, eqb}
use Rattle.vpa.specs.Automaton.{plain, opening, closing}
use Rattle.vpa.specs.Lists.{Pair, sift, any?, below, among, square, saturate}
use Rattle.vpa.specs.TableOnDisk.{Entry, Table, state_count, kind_in, is_kind?, initial?, final?}

unfoldable pub plain? : Table → Entry → Bool
plain? t e = is_kind? (kind_in t e.letter) plain

unfoldable pub open? : Table → Entry → Bool
open? t e = is_kind? (kind_in t e.letter) opening

unfoldable pub close? : Table → Entry → Bool
close? t e = is_kind? (kind_in t e.letter) closing

-- Two pairs held are joined.
unfoldable pub joins? : List Pair → Pair → Bool
joins? held x = any? (λ y. eqb y.0 x.0 && among (y.1, x.1) held) held

-- A plain move leads from one to the other.
unfoldable pub steps? : Table → Pair → Bool
steps? t x = any? (λ e. plain? t e && (eqb e.from x.0 && eqb e.to x.1)) t.moves

-- A pair is held from p to where some close move with γ to q' begins.
unfoldable pub ends_nested? : Table → List Pair → ℕ → ℕ → ℕ → Bool
ends_nested? t held p γ q' = any? (λ e. close? t e && (eqb e.to q' && (eqb e.mark γ && among (p, e.from) held))) t.moves

-- An open move leads to such a p, with the same mark.
unfoldable pub nests? : Table → List Pair → Pair → Bool
nests? t held x = any? (λ e. open? t e && (eqb e.from x.0 && ends_nested? t held e.to e.mark x.1)) t.moves

-- What the four rules give from the pairs held so far, in the document's order.
unfoldable pub pair_rule : Table → List Pair → Pair → Bool
pair_rule t held x = eqb x.0 x.1 || (joins? held x || (steps? t x || nests? t held x))

-- The balanced pairs of a table.
unfoldable pub pairs : Table → List Pair
pairs t = saturate (pair_rule t) (square (state_count t))

-- From here on b is the list of balanced pairs. The way into an inner level: along a balanced pair from o, and by an open move with γ to o'.
unfoldable pub opens_to? : Table → List Pair → ℕ → ℕ → ℕ → Bool
opens_to? t b o γ o' = any? (λ e. open? t e && (eqb e.to o' && (eqb e.mark γ && among (o, e.from) b))) t.moves

-- The way out of it: by a close move with γ from q', and along a balanced pair to q.
unfoldable pub closes_to? : Table → List Pair → ℕ → ℕ → ℕ → Bool
closes_to? t b q' γ q = any? (λ e. close? t e && (eqb e.from q' && (eqb e.mark γ && among (e.to, q) b))) t.moves

-- The level x opens the level y by the mark γ.
unfoldable pub opens? : Table → List Pair → Pair → ℕ → Pair → Bool
opens? t b x γ y = among y b && (opens_to? t b x.0 γ y.0 && closes_to? t b y.1 γ x.1)

-- An initial first and a final second half. A balanced pair with them is a top level.
unfoldable pub initial_to_final? : Table → Pair → Bool
initial_to_final? t x = initial? t x.0 && final? t x.1

unfoldable pub top_levels : Table → List Pair → List Pair
top_levels t b = sift (initial_to_final? t) b

-- What makes a level live, given the live levels held so far: it is a top one, or one of them opens it.
unfoldable pub opened_by_live? : Table → List Pair → List Pair → Pair → Bool
opened_by_live? t b held y = any? (λ x. any? (λ γ. opens? t b x γ y) (below t.mark_count)) held

unfoldable pub level_rule : Table → List Pair → List Pair → Pair → Bool
level_rule t b held y = among y (top_levels t b) || opened_by_live? t b held y

-- The live levels of a table.
unfoldable pub levels : Table → List Pair
levels t = saturate (level_rule t (pairs t)) (square (state_count t))
