-- Document 01, "Pairs, levels, trimmed states", second half, computed for a table: the trimmed table, its states and marks numbered.
use Rattle.std.specs.Prelude.{ℕ, ◌<◌, Bool, true, false, ◌&&◌, length, get_or, T, eqb}
use mathlib.Core.List.{List, [], ◌∷◌, map, Memᴰ}
use Rattle.vpa.specs.Automaton.{Kind, plain, opening, closing, plain_move, open_move, close_move}
use Rattle.vpa.specs.PairsLevelsTrimmed.{Triple, triple, MarkOn, mark_on, now, bare}
use Rattle.vpa.specs.Lists.{Pair, Trio, sift, any?, each, below, among, position}
use Rattle.vpa.specs.TableOnDisk.{Entry, entry, Table, state_count, letter_count, kind_in, has?}
use Rattle.vpa.specs.PairsComputed.{initial_to_final?, opens_to?, closes_to?, opens?, pairs, levels}

-- Throughout, b is the list of balanced pairs, l that of live levels, ss that of trimmed states and ms that of trimmed marks.

-- The states of the level x: those p with (o, p) and (p, q) balanced.
unfoldable pub states_of : Table → List Pair → Pair → List ℕ
states_of t b x = sift (λ p. among (x.0, p) b && among (p, x.1) b) (below (state_count t))

-- The trimmed states (o, q, p), sorted by o, among equals by q, among those by p: state number i is element i.
unfoldable pub trim_states_of : Table → List Pair → List Pair → List Trio
trim_states_of t b l = each (λ x. map (λ p. (x.0, x.1, p)) (states_of t b x)) l

-- The live levels that open some level by γ.
unfoldable pub openers : Table → List Pair → List Pair → ℕ → List Pair
openers t b l γ = sift (λ x. any? (λ y. opens? t b x γ y) b) l

-- The trimmed marks (γ, o, q), sorted by γ, among equals by o, among those by q: mark number k is element k.
unfoldable pub trim_marks_of : Table → List Pair → List Pair → List Trio
trim_marks_of t b l = each (λ γ. map (λ x. (γ, x.0, x.1)) (openers t b l γ)) (below t.mark_count)

-- Is there a trimmed move by the letter a from the trimmed state c to the trimmed state d: plain; open, pushing the trimmed mark m; close, popping it?
unfoldable pub trim_plain? : Table → Trio → ℕ → Trio → Bool
trim_plain? t c a d = has? t (plain_move c.2 a d.2) && (eqb c.0 d.0 && eqb c.1 d.1)

unfoldable pub trim_open? : Table → List Pair → Trio → ℕ → Trio → Trio → Bool
trim_open? t b c a m d = has? t (open_move c.2 a m.0 d.2)
    && ((eqb m.1 c.0 && eqb m.2 c.1) && (eqb d.2 d.0 && closes_to? t b d.1 m.0 c.1))

unfoldable pub trim_close? : Table → List Pair → Trio → ℕ → Trio → Trio → Bool
trim_close? t b c a m d = has? t (close_move c.2 a m.0 d.2)
    && ((eqb m.1 d.0 && eqb m.2 d.1) && (eqb c.2 c.1 && opens_to? t b d.0 m.0 c.0))

-- What stands where a list has no such element.
abbrev pub no_trio : Trio
no_trio = (0, 0, 0)

-- Is there a trimmed move from state number i by the letter a, of this kind, with mark number k to state number j?
unfoldable pub trim_move? : Table → List Pair → List Trio → List Trio → ℕ → ℕ → Kind → ℕ → ℕ → Bool
trim_move? t b ss ms i a plain k j = trim_plain? t (get_or ss i no_trio) a (get_or ss j no_trio)
trim_move? t b ss ms i a opening k j = trim_open? t b (get_or ss i no_trio) a (get_or ms k no_trio) (get_or ss j no_trio)
trim_move? t b ss ms i a closing k j = trim_close? t b (get_or ss i no_trio) a (get_or ms k no_trio) (get_or ss j no_trio)

-- The mark bytes that a move of this kind may have, g being the number of marks: a plain move's is 0.
unfoldable pub mark_numbers : Kind → ℕ → List ℕ
mark_numbers plain g = 0 ∷ []
mark_numbers opening g = below g
mark_numbers closing g = below g

-- The trimmed moves in rising order: by from, letter, mark, to.
unfoldable pub trim_moves_of : Table → List Pair → List Trio → List Trio → List Entry
trim_moves_of t b ss ms =
    each (λ i. each (λ a. each (λ k. map (λ j. entry i a k j)
    (sift (trim_move? t b ss ms i a (kind_in t a) k) (below (length ss)))) (mark_numbers (kind_in t a) (length ms))) (below (letter_count t))) (below (length ss))

unfoldable pub state_byte : Bool → Bool → ℕ
state_byte false false = 0
state_byte true false = 1
state_byte false true = 2
state_byte true true = 3

-- A trimmed state's byte: initial if p = o, final if p = q, both only where o is initial and q final, which makes the live (o, q) a top level.
unfoldable pub trim_byte : Table → Trio → ℕ
trim_byte t c = let atop = initial_to_final? t (c.0, c.1) in state_byte (eqb c.2 c.0 && atop) (eqb c.2 c.1 && atop)

unfoldable pub trim_from : Table → List Pair → List Pair → Table
trim_from t b l =
    let ss = trim_states_of t b l in
    let ms = trim_marks_of t b l in
    record { kinds = t.kinds; state_bytes = map (trim_byte t) ss; mark_count = length ms; moves = trim_moves_of t b ss ms }

-- The trimmed table, its states and its marks.
unfoldable pub trim_table : Table → Table
trim_table t = trim_from t (pairs t) (levels t)

abbrev pub trim_states : Table → List Trio
trim_states t = trim_states_of t (pairs t) (levels t)

abbrev pub trim_marks : Table → List Trio
trim_marks t = trim_marks_of t (pairs t) (levels t)

-- What it takes to be an entry of the trimmed table: numbers in range, and the test.
pub record TrimEntry (t : Table) (e : Entry) : Type 0 where
  pub from : e.from < length (trim_states t)
  pub letter : e.letter < letter_count t
  pub mark : Memᴰ e.mark (mark_numbers (kind_in t e.letter) (length (trim_marks t)))
  pub to : e.to < length (trim_states t)
  pub test : T (trim_move? t (pairs t) (trim_states t) (trim_marks t) e.from e.letter (kind_in t e.letter) e.mark e.to)

-- The trimmed state number i and the trimmed mark number k ((0, 0, 0) past the last), and the original's state and mark that they stand for.
unfoldable pub state_at : Table → ℕ → Triple ℕ
state_at t i = let c = get_or (trim_states t) i no_trio in triple c.0 c.1 c.2

unfoldable pub mark_at : Table → ℕ → MarkOn ℕ ℕ
mark_at t k = let m = get_or (trim_marks t) k no_trio in mark_on m.0 m.1 m.2

unfoldable pub state_now : Table → ℕ → ℕ
state_now t i = now (state_at t i)

unfoldable pub mark_bare : Table → ℕ → ℕ
mark_bare t k = bare (mark_at t k)

-- And back: the number of a trimmed state and of a trimmed mark.
unfoldable pub state_number : Table → Triple ℕ → ℕ
state_number t (triple o q p) = position (o, q, p) (trim_states t)

unfoldable pub mark_number : Table → MarkOn ℕ ℕ → ℕ
mark_number t (mark_on γ o q) = position (γ, o, q) (trim_marks t)
