-- What the functions inside promise each other: the trimmed moves in the parts in which they are found, and what is written. They stand for no further
-- statement of document 01; the contract of the call says `trim_table`.
use Rattle.std.specs.Prelude.{ℕ, ◌+◌, ◌*◌, ◌/◌, ◌<◌, ◌≤◌, Bool, ◌&&◌, ◌↔◌, ◌≡◌, eqb, length, get_or}
use mathlib.Core.List.{List, [], ◌∷◌, ◌++◌, map, Memᴰ}
use Rattle.vpa.specs.Automaton.{Kind}
use Rattle.vpa.specs.Lists.{sift, any?, each, below}
use Rattle.vpa.specs.PairsComputed.{pairs}
use Rattle.vpa.specs.TableOnDisk.{Entry, entry, Table, letter_count, kind_in}
use Rattle.vpa.specs.TrimComputed.{no_trio, trim_states, trim_marks, trim_move?, mark_numbers}
use Rattle.table.specs.Bytes.{byte, word, word_bytes}
use Rattle.table.specs.Layout.{after_length, entries, move_bytes}
use Rattle.relation.specs.Digits.{bit}
use Rattle.relation.specs.Relations.{holds?}
use Rattle.triples.specs.Listing.{digits_of, rows_with}
use Rattle.trim.specs.declared.Origin.{Origin}
use Rattle.triples.specs.Steps.{Left, MarkLevel, SameLevel}

-- MOVES

-- What the moves of one state are listed by, besides what all are (`Guides`).
pub record IsFrom (t : Table) (from : Origin) : Type 0 where
  pub low : from.number < length (trim_states t)
  pub state : from.state ≡ (get_or (trim_states t) from.number no_trio).2
  pub level : (j : ℕ) → (bit from.level j ≡ 1) ↔ SameLevel (trim_states t) from.number j
  pub pushes : (k : ℕ) → (bit from.pushes k ≡ 1) ↔ MarkLevel (trim_states t) (trim_marks t) k from.number
  pub pops : (k : ℕ) → (bit from.pops k ≡ 1) ↔ Left t (trim_states t) (trim_marks t) from.number k

-- The moves of state number i by the letter a, as if the letter had this kind.
unfoldable pub moves_as : Table → ℕ → ℕ → Kind → List Entry
moves_as t i a kind =
    each (λ k. map (λ j. entry i a k j)
    (sift (trim_move? t (pairs t) (trim_states t) (trim_marks t) i a kind k) (below (length (trim_states t))))) (mark_numbers kind (length (trim_marks t)))

-- By the kind that it has; and those by all letters.
unfoldable pub moves_by : Table → ℕ → ℕ → List Entry
moves_by t i a = moves_as t i a (kind_in t a)

unfoldable pub moves_from : Table → ℕ → List Entry
moves_from t i = each (moves_by t i) (below (letter_count t))

-- The moves' part of a checked table is in order: by state and letter, taken as one number, at least.
pub record Rising (part : List ℕ) : Type 0 where
  pub at : (j k : ℕ) → j ≤ k → k < length part / 4 → word part (4 * j) ≤ word part (4 * k)

-- The moves before number k stand before the key by their state and letter.
pub record CutBefore (part : List ℕ) (key k : ℕ) : Type 0 where
  pub inside : k ≤ length part / 4
  pub at : (j : ℕ) → j < k → word part (4 * j) < key

-- Those from number k on do not.
pub record CutFrom (part : List ℕ) (key k : ℕ) : Type 0 where
  pub at : (j : ℕ) → k ≤ j → j < length part / 4 → key ≤ word part (4 * j)

-- Both: the moves before number k are those that stand before the key.
pub record Cut (part : List ℕ) (key k : ℕ) : Type 0 where
  pub before : CutBefore part key k
  pub after : CutFrom part key k

-- The bytes of the moves from p by a.
pub record BlockOf (t : Table) (p a : ℕ) (block : List ℕ) : Type 0 where
  pub at : (e : Entry) → Memᴰ e (entries block) ↔ (Memᴰ e t.moves × ((e.from ≡ p) × (e.letter ≡ a)))

-- All moves of a block end below 64.
pub record EndsLow (block : List ℕ) : Type 0 where
  pub at : (k : ℕ) → k < length block / 4 → byte block (4 * k + 3) < 64

-- A move of a block with the mark γ ends at a state that trimmed state number j stands for.
unfoldable pub arrives? : List Entry → ℕ → List ℕ → ℕ → Bool
arrives? es γ here j = any? (λ e. eqb e.mark γ && holds? here e.to j) es

-- The rows of the moves by marks of a row of digits.
unfoldable pub marked_by : List ℕ → ℕ → ℕ → List ℕ → List ℕ → List ℕ → ℕ → List Entry
marked_by block i a here mark to k = rows_with i a k (sift (λ j. arrives? (entries block) (get_or mark k 0) here j && holds? to k j) (below 64))

unfoldable pub marked_rows : List ℕ → ℕ → ℕ → ℕ → List ℕ → List ℕ → List ℕ → List Entry
marked_rows block i a marks here mark to = each (marked_by block i a here mark to) (digits_of marks)

-- WRITING

-- The eight bytes in front of a table.
abbrev pub head_bytes : ℕ → ℕ → ℕ → ℕ → List ℕ
head_bytes n m g t = word_bytes (after_length n m t) ++ (1 ∷ n ∷ m ∷ g ∷ []) ++ word_bytes t

-- Moves listed in scratch.
pub record ListedIn (scratch : List ℕ) (count : ℕ) (es : List Entry) : Type 0 where
  pub all : count ≡ length es
  pub most : count ≤ 1024
  pub long : 4096 ≤ length scratch
  pub at : (i : ℕ) → i < 4 * count → get_or scratch i 0 ≡ get_or (move_bytes es) i 0
