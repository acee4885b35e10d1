-- Document 01, "The reader", for every choice of states and marks: what is held after which letters, as sets of pairs (source 002, 4.2). Refusals, sizes
-- and words are left to the crate `reader`.
use Rattle.std.specs.Prelude.{ℕ, ◌≡◌, List, [], ◌∷◌}
use Rattle.vpa.specs.Automaton.{Kind, plain, opening, closing, plain_move, open_move, close_move, Vpa}

abbrev pub Rel : Type 0 → Type 1
Rel Q = Q → Q → Type 0

-- The blocks held, the deepest first, each with its open letter (depth 0 has none, and 0 in its place) and its pairs. `nothing` ends the list; alone it
-- says that a close came at depth 0.
pub data Reading (Q : Type 0) : Type 1 where
  nothing : Reading Q
  block : ℕ → Rel Q → Reading Q → Reading Q

-- The pairs of the top block.
abbrev pub held : {Q : Type 0} → Reading Q → Rel Q
held nothing = λ p q. ⊥
held (block a R k) = R

-- Begin: each initial state paired with itself.
pub record Started {Q Γ : Type 0} (A : Vpa Q Γ) (p q : Q) : Type 0 where
  pub alone : p ≡ q
  pub begins : A.Initial p

abbrev pub begin : {Q Γ : Type 0} (A : Vpa Q Γ) → Reading Q
begin A = block 0 (Started A) nothing

-- A plain letter a: a pair goes on from its second half by a move with a.
pub record Extended {Q Γ : Type 0} (A : Vpa Q Γ) (a : ℕ) (R : Rel Q) (p q' : Q) : Type 0 where
  pub q : Q
  pub was : R p q
  pub moved : A.Has (plain_move q a q')

-- An open letter a: each state that a move with a leads to from the second half of a pair is, with itself, a pair of the new block. The mark is not kept;
-- a close looks it up anew, by the open letter.
pub record Opened {Q Γ : Type 0} (A : Vpa Q Γ) (a : ℕ) (R : Rel Q) (q q' : Q) : Type 0 where
  pub alone : q ≡ q'
  pub p : Q
  pub r : Q
  pub γ : Γ
  pub was : R p r
  pub opened : A.Has (open_move r a γ q)

-- A close letter b, on a block with the open letter a and the pairs R over one with the pairs S: a pair of S, an open move with a, a pair of R and a close
-- move with b and the open's mark, each from where the one before ends.
pub record Joined {Q Γ : Type 0} (A : Vpa Q Γ) (S : Rel Q) (a : ℕ) (R : Rel Q) (b : ℕ) (p s : Q) : Type 0 where
  pub q : Q
  pub r : Q
  pub x : Q
  pub γ : Γ
  pub below : S p q
  pub opened : A.Has (open_move q a γ r)
  pub inside : R r x
  pub closed : A.Has (close_move x b γ s)

-- The candidate: what a letter of this kind would make of the reading. It becomes the reading if it holds a pair; if not, the reader stops and the reading
-- stays as it was (ReaderComputed). A close at depth 0 leaves no block.
unfoldable pub candidate_by : {Q Γ : Type 0} (A : Vpa Q Γ) → Kind → ℕ → Reading Q → Reading Q
candidate_by A plain a nothing = nothing
candidate_by A plain a (block c R k) = block c (Extended A a R) k
candidate_by A opening a nothing = nothing
candidate_by A opening a (block c R k) = block a (Opened A a R) (block c R k)
candidate_by A closing b nothing = nothing
candidate_by A closing b (block a R nothing) = nothing
candidate_by A closing b (block a R (block c S k)) = block c (Joined A S a R b) k

unfoldable pub candidate : {Q Γ : Type 0} (A : Vpa Q Γ) → ℕ → Reading Q → Reading Q
candidate A a k = candidate_by A (A.kind a) a k

-- Candidate after candidate, along a log.
unfoldable pub reads : {Q Γ : Type 0} (A : Vpa Q Γ) → List ℕ → Reading Q → Reading Q
reads A [] k = k
reads A (a ∷ w) k = reads A w (candidate A a k)

-- From begin on. Where each candidate on the way holds a pair, this is what is held once the letters w are taken.
abbrev pub reading_of : {Q Γ : Type 0} (A : Vpa Q Γ) → List ℕ → Reading Q
reading_of A w = reads A w (begin A)

-- The reader goes on while a pair is held.
pub record Going {Q : Type 0} (k : Reading Q) : Type 0 where
  pub p : Q
  pub q : Q
  pub pair : held k p q

-- Finish: at depth 0, with a pair of an initial first and a final second half.
pub record FinishedBlock {Q Γ : Type 0} (A : Vpa Q Γ) (R : Rel Q) : Type 0 where
  pub i : Q
  pub f : Q
  pub pair : R i f
  pub begins : A.Initial i
  pub ends : A.Final f

abbrev pub Finished : {Q Γ : Type 0} (A : Vpa Q Γ) → Reading Q → Type 0
Finished A nothing = ⊥
Finished A (block c R nothing) = FinishedBlock A R
Finished A (block c R (block d S k)) = ⊥
