-- Document 01, "Pairs, levels, trimmed states", sentence by sentence, over any states and marks: the relations of the paper.
-- What computes them for a table stands in PairsComputed and TrimComputed.
use Rattle.std.specs.Prelude.{ℕ, ◌≡◌, List, [], ◌∷◌, ◌++◌}
use Rattle.vpa.specs.Automaton.{Move, plain_move, open_move, close_move, letter, move_kind, Vpa}

-- Balanced pairs: the least set with the four rules. Here (p, p) is in it for every p of Q; for a table that is every number, so what
-- speaks of a table's pairs adds that p is one of its states. (Source 000, 3.1, the set WN.)
pub data Balanced {Q Γ : Type 0} (A : Vpa Q Γ) : Q → Q → Type 0 where
  same : {p : Q} → Balanced A p p
  join : {p q r : Q} → Balanced A p q → Balanced A q r → Balanced A p r
  step : {p q : Q} {a : ℕ} → A.Has (plain_move p a q) → Balanced A p q
  nest : {p' p q q' : Q} {a b : ℕ} {γ : Γ}
      → A.Has (open_move p' a γ p) → Balanced A p q → A.Has (close_move q b γ q') → Balanced A p' q'

-- Nested A p ms q: the moves ms lead from p to q, each open of them matched by a close of them. These are the runs of the balanced pairs, read off from the left
-- in one way only; the definitions below do not use them, but the proofs do.
pub data Nested {Q Γ : Type 0} (A : Vpa Q Γ) : Q → List (Move Q Γ) → Q → Type 0 where
  empty : {p : Q} → Nested A p [] p
  flat : {p q r : Q} {a : ℕ} {ms : List (Move Q Γ)}
      → A.Has (plain_move p a q) → Nested A q ms r → Nested A p (plain_move p a q ∷ ms) r
  deep : {p p' q s r : Q} {a b : ℕ} {γ : Γ} {ms ns : List (Move Q Γ)}
      → A.Has (open_move p a γ p') → Nested A p' ms q → A.Has (close_move q b γ s) → Nested A s ns r
      → Nested A p (open_move p a γ p' ∷ (ms ++ (close_move q b γ s ∷ ns))) r

-- Top levels: balanced pairs of an initial and a final state.
pub record TopLevel {Q Γ : Type 0} (A : Vpa Q Γ) (i f : Q) : Type 0 where
  pub begins : A.Initial i
  pub balanced : Balanced A i f
  pub ends : A.Final f

-- The way into an inner level: from o along a balanced pair to x, and by an open move with γ to o'.
pub record OpensTo {Q Γ : Type 0} (A : Vpa Q Γ) (o : Q) (γ : Γ) (o' : Q) : Type 0 where
  pub x : Q
  pub a : ℕ
  pub before : Balanced A o x
  pub opened : A.Has (open_move x a γ o')

-- The way out of an inner level: from q' by a close move with γ to s, and along a balanced pair to q.
pub record ClosesTo {Q Γ : Type 0} (A : Vpa Q Γ) (q' : Q) (γ : Γ) (q : Q) : Type 0 where
  pub s : Q
  pub b : ℕ
  pub closed : A.Has (close_move q' b γ s)
  pub after : Balanced A s q

-- One level opens another by the mark γ: (o, q) the outer, (o', q') the inner, which is balanced, with a way in and a way out.
pub record Opens {Q Γ : Type 0} (A : Vpa Q Γ) (o q : Q) (γ : Γ) (o' q' : Q) : Type 0 where
  pub opens : OpensTo A o γ o'
  pub inside : Balanced A o' q'
  pub closes : ClosesTo A q' γ q

-- A level is live if it is a top level, or if a live level opens it.
pub data Live {Q Γ : Type 0} (A : Vpa Q Γ) : Q → Q → Type 0 where
  top : {i f : Q} → TopLevel A i f → Live A i f
  inner : {o q o' q' : Q} {γ : Γ} → Live A o q → Opens A o q γ o' q' → Live A o' q'

-- A state of the trimmed automaton is a triple (o, q, p): the level that the run is on, by where it begins and where it is to end, and the state p that the
-- run has come to. A mark of it is a triple (γ, o, q): the mark γ, pushed on the level (o, q). Both types hold all triples; the two records below say which
-- of them are trimmed states and trimmed marks.
pub data Triple (Q : Type 0) : Type 0 where
  triple : Q → Q → Q → Triple Q

pub data MarkOn (Q Γ : Type 0) : Type 0 where
  mark_on : Γ → Q → Q → MarkOn Q Γ

-- A trimmed state: its level is live, and its state stands on a way from the level's beginning to the level's end.
pub record TrimmedState {Q Γ : Type 0} (A : Vpa Q Γ) (o q p : Q) : Type 0 where
  pub live : Live A o q
  pub begun : Balanced A o p
  pub ending : Balanced A p q

-- A trimmed mark: its level is live and opens some level by it.
pub record TrimmedMark {Q Γ : Type 0} (A : Vpa Q Γ) (γ : Γ) (o q : Q) : Type 0 where
  pub live : Live A o q
  pub o' : Q
  pub q' : Q
  pub opens : Opens A o q γ o' q'

-- An initial triple stands at the beginning of its level, a final one at the end; the level goes from an initial to a final state.
pub data TrimmedInitial {Q Γ : Type 0} (A : Vpa Q Γ) : Triple Q → Type 0 where
  trimmed_initial : {o q : Q} → TrimmedState A o q o → A.Initial o → A.Final q → TrimmedInitial A (triple o q o)

pub data TrimmedFinal {Q Γ : Type 0} (A : Vpa Q Γ) : Triple Q → Type 0 where
  trimmed_final : {o q : Q} → TrimmedState A o q q → A.Initial o → A.Final q → TrimmedFinal A (triple o q q)

-- The trimmed moves, each over a move of the original. A plain one stays on its level. An open one goes to the beginning of an inner level (o', q'), from whose end
-- a close move with the same mark leads to where q is still reached; the level left is kept in the mark. A close one goes back from the end of an inner level to
-- the level that the mark names, which is live and has a way in to that inner level.
pub data TrimmedMove {Q Γ : Type 0} (A : Vpa Q Γ) : Move (Triple Q) (MarkOn Q Γ) → Type 0 where
  trimmed_plain : {o q p p' : Q} {a : ℕ}
      → A.Has (plain_move p a p') → TrimmedState A o q p → TrimmedState A o q p'
      → TrimmedMove A (plain_move (triple o q p) a (triple o q p'))
  trimmed_open : {o q p o' q' : Q} {a : ℕ} {γ : Γ}
      → A.Has (open_move p a γ o') → Balanced A o' q' → ClosesTo A q' γ q → TrimmedState A o q p
      → TrimmedMove A (open_move (triple o q p) a (mark_on γ o q) (triple o' q' o'))
  trimmed_close : {o q s o' q' : Q} {b : ℕ} {γ : Γ}
      → A.Has (close_move q' b γ s) → Balanced A s q → OpensTo A o γ o' → Live A o q → Balanced A o' q'
      → TrimmedMove A (close_move (triple o' q' q') b (mark_on γ o q) (triple o q s))

pub trim_fits : {Q Γ : Type 0} (A : Vpa Q Γ) (m : Move (Triple Q) (MarkOn Q Γ)) → TrimmedMove A m → A.kind (letter m) ≡ move_kind m
unfolding letter move_kind
trim_fits A m (trimmed_plain {p = p} {p' = p'} {a = a} h s t) = A.fits (plain_move p a p') h
trim_fits A m (trimmed_open {p = p} {o' = o'} {a = a} {γ = γ} h b c s) = A.fits (open_move p a γ o') h
trim_fits A m (trimmed_close {s = s} {q' = q'} {b = b} {γ = γ} h d o l c) = A.fits (close_move q' b γ s) h

-- The trimmed automaton, with the original's letters and their kinds.
abbrev pub trim : {Q Γ : Type 0} → Vpa Q Γ → Vpa (Triple Q) (MarkOn Q Γ)
trim A = record { kind = A.kind; Initial = TrimmedInitial A; Final = TrimmedFinal A; Has = TrimmedMove A; fits = trim_fits A }

-- The original's state and mark that a trimmed state and mark stand for.
unfoldable pub now : {Q : Type 0} → Triple Q → Q
now (triple o q p) = p

unfoldable pub bare : {Q Γ : Type 0} → MarkOn Q Γ → Γ
bare (mark_on γ o q) = γ
