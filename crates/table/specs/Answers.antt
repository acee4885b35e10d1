-- Document 01, "Refusal numbers" and "Places and their forms": what calls can answer. An answer of the code is a value or a refusal; here is what each is in
-- the document, a number or values.
use Rattle.std.specs.Prelude.{ℕ, ⊤, length, Result, Ok, Err, Option, Some, None}
use Rattle.std.proofs.Math.Option as math
use Rattle.std.proofs.Math.Option.{none, some}
use Rattle.vpa.specs.Automaton as automata
use Rattle.vpa.specs.Automaton.{plain, opening, closing}
use Rattle.vpa.specs.TableOnDisk as meaning
use Rattle.vpa.specs.TableOnDisk.{Entry, entry}
use Rattle.table.specs.declared.Table as declared
use Rattle.table.specs.declared.Move.{Move}
use Rattle.table.specs.declared.kind.Kind.{Kind}
use Rattle.table.specs.declared.kind.Kind.TheVariants as kind
use Rattle.table.specs.declared.refusal.Refusal.{Refusal}
use Rattle.table.specs.declared.refusal.Refusal.TheVariants as refusal

-- Either a refusal, of which there is no more than the number, or a value.
pub data Answer (X : Type 0) : Type 0 where
  refused : ℕ → Answer X
  answered : X → Answer X

-- The table of refusal numbers.
abbrev pub number_of : Refusal → ℕ
number_of refusal.Length = 1
number_of refusal.Version = 2
number_of refusal.Limit = 3
number_of refusal.Size = 4
number_of refusal.List = 5
number_of refusal.Move = 6
number_of refusal.Lent = 7
number_of refusal.Large = 8
number_of refusal.Room = 9
number_of refusal.Long = 10
number_of refusal.Letter = 11
number_of refusal.Letters = 12
number_of refusal.Depth = 13
number_of refusal.State = 14

-- Of a test: the number that refuses, and 0 where it passes.
abbrev pub number_told : Result ⊤ Refusal → ℕ
number_told (Ok x) = 0
number_told (Err r) = number_of r

-- Of a call that answers with a value or refuses: what is made of the value, or the refusal's number.
abbrev pub told : {X Y : Type 0} → (X → Y) → Result X Refusal → Answer Y
told view (Ok x) = answered (view x)
told view (Err r) = refused (number_of r)

-- The counts n, m, g, t; and those of the table that bytes mean.
pub record Counts : Type 0 where
  pub n : ℕ
  pub m : ℕ
  pub g : ℕ
  pub t : ℕ

abbrev pub counts_of : meaning.Table → Counts
counts_of table = record { n = meaning.state_count table; m = meaning.letter_count table; g = table.mark_count; t = length table.moves }

-- Of a check: the counts of the table.
abbrev pub counts_told : declared.Table → Counts
counts_told table = record { n = table.states; m = table.letters; g = table.marks; t = table.moves }

abbrev pub checked_as : Result declared.Table Refusal → Answer Counts
checked_as = told counts_told

-- Of a write: how many bytes were written.
abbrev pub written_as : Result ℕ Refusal → Answer ℕ
written_as = told (λ count. count)

-- Of a look at a move: the move, or that there is none, which has no number.
abbrev pub got_as : Option Move → math.Option Entry
got_as (Some e) = some (entry e.from e.letter e.mark e.to)
got_as None = none

-- What the kinds of the code mean.
abbrev pub kind_meant : Kind → automata.Kind
kind_meant kind.Plain = plain
kind_meant kind.Open = opening
kind_meant kind.Close = closing

-- Of a look at a letter's kind: the kind, or that there is no such letter.
abbrev pub kind_as : Option Kind → math.Option automata.Kind
kind_as (Some k) = some (kind_meant k)
kind_as None = none
