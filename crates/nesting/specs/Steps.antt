-- What the functions inside promise each other: the rules for pairs and levels, one step each, on relations held as rows. They stand for no further
-- statement of document 01; the contracts of the whole search say `pairs` and `levels`. The table has been checked: a plain move has the mark 0, and
-- an open or a close move a mark below `mark_count`.
use Rattle.std.specs.Prelude.{ℕ, ◌+◌, ◌<◌, Bool, false, ◌&&◌, ◌↔◌, ◌⊎◌, ◌≡◌, T, eqb}
use mathlib.Core.List.{List, Memᴰ}
use Rattle.std.proofs.Math.Option.{Option, none, some}
use Rattle.vpa.specs.Automaton.{Kind, plain, opening, closing}
use Rattle.vpa.specs.TableOnDisk.{Table, entry, state_count, kind_in, is_kind?, initial?, final?}
use Rattle.table.specs.Bytes.{byte}
use Rattle.table.specs.Calls.{kind_answer}
use Rattle.table.specs.Layout.{parse}
use Rattle.table.specs.Refusals.{verdict}
use Rattle.relation.specs.Digits.{bit}
use Rattle.relation.specs.Relations.{Holds, Identity, Joined}

-- What a caller knows of a table's bytes after the check: they are a table, with n states and g marks.
pub record IsChecked (s : List ℕ) (n g : ℕ) : Type 0 where
  pub good : verdict s ≡ 0
  pub states : n ≡ state_count (parse s)
  pub marks : g ≡ (parse s).mark_count

-- A move of this kind and mark leads from p to q.
pub record MoveOf (t : Table) (kind : Kind) (γ p q : ℕ) : Type 0 where
  pub letter : ℕ
  pub stands : Memᴰ (entry p letter γ q) t.moves
  pub of : kind_in t letter ≡ kind

-- The tests that find one: a letter's kind is the one that is asked for; and the four bytes at place i are a move by such a letter with this mark.
unfoldable pub of_kind? : Option Kind → Kind → Bool
of_kind? none asked = false
of_kind? (some kind) asked = is_kind? kind asked

unfoldable pub move_of? : List ℕ → List ℕ → ℕ → Kind → ℕ → Bool
move_of? s part i asked γ = eqb (byte part (i + 2)) γ && of_kind? (kind_answer s (byte part (i + 1))) asked

-- A pair of r between two moves with the mark γ, one of each kind.
pub record AroundBy (t : Table) (before after : Kind) (r : List ℕ) (γ j l : ℕ) : Type 0 where
  pub p : ℕ
  pub q : ℕ
  pub first : MoveOf t before γ j p
  pub inside : Holds r p q
  pub last : MoveOf t after γ q l

-- The same with any mark below g.
pub record Around (t : Table) (before after : Kind) (r : List ℕ) (g j l : ℕ) : Type 0 where
  pub γ : ℕ
  pub low : γ < g
  pub by : AroundBy t before after r γ j l

-- Balanced at once: a state with itself, or along a plain move.
pub record PairStart (t : Table) (j k : ℕ) : Type 0 where
  pub is : Identity (state_count t) j k ⊎ MoveOf t plain 0 j k

-- Balanced if the pairs of r are: one of them, two joined, or one between an open move and a close move with one mark.
pub record PairRound (t : Table) (r : List ℕ) (j k : ℕ) : Type 0 where
  pub is : Holds r j k ⊎ (Joined r r j k ⊎ Around t opening closing r t.mark_count j k)

-- From here on b holds the balanced pairs and back the same turned round, and levels are held turned round too, (q, o) for the level (o, q): what
-- document 01 says of one level opening another is then a single chain, a close move, b, the outer level, b, an open move.

-- A top level.
pub record TopBack (t : Table) (back : List ℕ) (q o : ℕ) : Type 0 where
  pub pair : Holds back q o
  pub begins : T (initial? t o)
  pub ends : T (final? t q)

-- Digit o of x is 1 exactly if o is an initial state below n.
pub record InitialBelow (t : Table) (n x : ℕ) : Type 0 where
  pub at : (o : ℕ) → (bit x o ≡ 1) ↔ ((o < n) × T (initial? t o))

-- From s along b to the end q of a level that is held, and from its beginning o along b to x.
pub record Beside (b live : List ℕ) (s x : ℕ) : Type 0 where
  pub q : ℕ
  pub o : ℕ
  pub after : Holds b s q
  pub level : Holds live q o
  pub before : Holds b o x

-- A level (q, o) that is held opens the level (q', o'): a close move from q' to s, then beside the level from s to x, then an open move with the same
-- mark from x to o'.
pub record OpenedBack (t : Table) (b live : List ℕ) (q' o' : ℕ) : Type 0 where
  pub γ : ℕ
  pub low : γ < t.mark_count
  pub s : ℕ
  pub x : ℕ
  pub closed : MoveOf t closing γ q' s
  pub beside : Beside b live s x
  pub opened : MoveOf t opening γ x o'

-- Live if the levels held are: one of them, or a balanced pair that one of them opens.
pub record LevelRound (t : Table) (b back live : List ℕ) (q' o' : ℕ) : Type 0 where
  pub is : Holds live q' o' ⊎ (Holds back q' o' × OpenedBack t b live q' o')
