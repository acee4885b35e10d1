-- What the functions inside ask of each other. This stands for no statement of document 01.
use Rattle.std.specs.Prelude.{ℕ, List, ◌≡◌, Result}
use Rattle.std.specs.Borrow.{MutBor}
use Rattle.std.specs.Fn.{Once, FnOnceReturnsAtMut}
use Rattle.vpa.specs.ReaderComputed.{Heard, going, accepted, unfinished, stop_at}
use Rattle.table.specs.declared.refusal.Refusal.{Refusal}
use Rattle.table.specs.Answers.{Answer, refused, answered}
use Rattle.reader.specs.declared.Heard as declared
use Rattle.reader.specs.Answers.{heard_as}
use Rattle.capture.specs.Numbers.{heard_number}
use Rattle.capture.specs.State.{lent_words, with_words}

-- What a reader's answer has beside its kind: the number of a refusal, the place of a Stop, and 0 for the others.
abbrev pub value_of : Answer Heard → ℕ
value_of (refused k) = k
value_of (answered going) = 0
value_of (answered accepted) = 0
value_of (answered unfinished) = 0
value_of (answered (stop_at place)) = place

-- A call on the words that bytes hold: this number is told of what it answers, and what it leaves of the words is written back.
pub record OnWords {F : Type 0} (g : Once F (MutBor (List ℕ) × Unit {0}) (Result declared.Heard Refusal × (MutBor (List ℕ) × Unit {0}))) (call : F) (bytes : List ℕ) (number : ℕ) (after : List ℕ) : Type 0 where
  pub heard : Result declared.Heard Refusal
  pub left : List ℕ
  pub called : FnOnceReturnsAtMut g call (lent_words bytes) heard left
  pub told : number ≡ heard_number (heard_as heard)
  pub written : after ≡ with_words bytes left
