-- Document 01, "What the build holds", on source 000, section 2: visibly pushdown automata over any states Q and marks Γ, their runs, and
-- which logs they accept. Closes on an empty stack are left for later, as document 01 says, so there are three kinds of moves and not four.
use Rattle.std.specs.Prelude.{ℕ, ◌≡◌, List, [], ◌∷◌, map}

-- What a letter does to the stack: nothing, push, pop. (Source 000: internal, call and return letters.)
pub data Kind : Type 0 where
  plain opening closing : Kind

-- A move: from, letter, mark, to. A plain move has no mark. (Source 000, Definition 1.)
pub data Move (Q Γ : Type 0) : Type 0 where
  plain_move : Q → ℕ → Q → Move Q Γ
  open_move close_move : Q → ℕ → Γ → Q → Move Q Γ

unfoldable pub letter : {Q Γ : Type 0} → Move Q Γ → ℕ
letter (plain_move p a q) = a
letter (open_move p a γ q) = a
letter (close_move p a γ q) = a

unfoldable pub target : {Q Γ : Type 0} → Move Q Γ → Q
target (plain_move p a q) = q
target (open_move p a γ q) = q
target (close_move p a γ q) = q

unfoldable pub move_kind : {Q Γ : Type 0} → Move Q Γ → Kind
move_kind (plain_move p a q) = plain
move_kind (open_move p a γ q) = opening
move_kind (close_move p a γ q) = closing

-- An automaton: the kinds of its letters, which states are initial and which final, and which moves it has, each by a letter of its own kind. (Source 000,
-- Definition 1, with any types in place of finite sets; a table names finitely many.)
pub record Vpa (Q Γ : Type 0) : Type 1 where
  pub kind : ℕ → Kind
  pub Initial : Q → Type 0
  pub Final : Q → Type 0
  pub Has : Move Q Γ → Type 0
  pub fits : (m : Move Q Γ) → Has m → kind (letter m) ≡ move_kind m

-- Run A p σ ms q τ: the moves ms, all of A, lead from the configuration (p, σ) to (q, τ). A stack's top stands first. So a run is given by
-- where it starts and by its moves, and two runs from one configuration are the same run if their moves are. (Source 000, Definition 2.)
pub data Run {Q Γ : Type 0} (A : Vpa Q Γ) : Q → List Γ → List (Move Q Γ) → Q → List Γ → Type 0 where
  run_done : {p : Q} {σ : List Γ} → Run A p σ [] p σ
  run_plain : {p q r : Q} {a : ℕ} {σ τ : List Γ} {ms : List (Move Q Γ)}
      → A.Has (plain_move p a q) → Run A q σ ms r τ → Run A p σ (plain_move p a q ∷ ms) r τ
  run_open : {p q r : Q} {a : ℕ} {γ : Γ} {σ τ : List Γ} {ms : List (Move Q Γ)}
      → A.Has (open_move p a γ q) → Run A q (γ ∷ σ) ms r τ → Run A p σ (open_move p a γ q ∷ ms) r τ
  run_close : {p q r : Q} {a : ℕ} {γ : Γ} {σ τ : List Γ} {ms : List (Move Q Γ)}
      → A.Has (close_move p a γ q) → Run A q σ ms r τ → Run A p (γ ∷ σ) (close_move p a γ q ∷ ms) r τ

-- The letters of a list of moves: the log that a run is on.
unfoldable pub spells : {Q Γ : Type 0} → List (Move Q Γ) → List ℕ
spells ms = map letter ms

-- An accepting run leads from an initial to a final state and has nothing on the stack at either end. (Source 000 leaves the stack at the end open; that it
-- is empty there is document 01's.)
pub record Accepting {Q Γ : Type 0} (A : Vpa Q Γ) (i : Q) (ms : List (Move Q Γ)) (f : Q) : Type 0 where
  pub begins : A.Initial i
  pub runs : Run A i [] ms f []
  pub ends : A.Final f

-- A log is accepted if some accepting run is on it.
pub record Accepts {Q Γ : Type 0} (A : Vpa Q Γ) (w : List ℕ) : Type 0 where
  pub first : Q
  pub moves : List (Move Q Γ)
  pub last : Q
  pub accepting : Accepting A first moves last
  pub spelt : spells moves ≡ w

-- A run from an initial state and the empty stack, on the log w, reaches the configuration (q, σ). (Source 000: reachable.)
pub record Reaches {Q Γ : Type 0} (A : Vpa Q Γ) (w : List ℕ) (q : Q) (σ : List Γ) : Type 0 where
  pub first : Q
  pub moves : List (Move Q Γ)
  pub begins : A.Initial first
  pub runs : Run A first [] moves q σ
  pub spelt : spells moves ≡ w

-- A run from the configuration (q, σ) ends as an accepting one does. (Source 000: co-reachable.)
pub record Completes {Q Γ : Type 0} (A : Vpa Q Γ) (q : Q) (σ : List Γ) : Type 0 where
  pub moves : List (Move Q Γ)
  pub last : Q
  pub runs : Run A q σ moves last []
  pub ends : A.Final last

-- Weakly reduced: every configuration that is reached can be completed. (Source 000, Definition 4, condition (i). Of its further conditions, by which source
-- 000 says "trimmed", document 01 asks nothing yet.)
pub record WeaklyReduced {Q Γ : Type 0} (A : Vpa Q Γ) : Type 0 where
  pub completes : {w : List ℕ} {q : Q} {σ : List Γ} → Reaches A w q σ → Completes A q σ

-- A move with other names for its states and its mark. Its letter stays.
unfoldable pub rename : {Q Γ Q' Γ' : Type 0} → (Q → Q') → (Γ → Γ') → Move Q Γ → Move Q' Γ'
rename f u (plain_move p a q) = plain_move (f p) a (f q)
rename f u (open_move p a γ q) = open_move (f p) a (u γ) (f q)
rename f u (close_move p a γ q) = close_move (f p) a (u γ) (f q)

-- Run for run: the accepting runs of the copy are those of the original, one for one, f and u naming the original's states and marks.
-- Each run of the copy, renamed, is one of the original; each of the original is a renamed one of the copy; and of one only.
-- (Source 000, Theorem 1 (1), the bijection.)
pub record SameRuns {Q Γ Q' Γ' : Type 0} (original : Vpa Q Γ) (copy : Vpa Q' Γ') (f : Q' → Q) (u : Γ' → Γ) : Type 0 where
  pub projects : {i j : Q'} {ns : List (Move Q' Γ')} → Accepting copy i ns j → Accepting original (f i) (map (rename f u) ns) (f j)
  pub lifts : {i j : Q} {ms : List (Move Q Γ)} → Accepting original i ms j
      → (i' : Q') × (ns : List (Move Q' Γ')) × (j' : Q') × Accepting copy i' ns j' × (f i' ≡ i) × (map (rename f u) ns ≡ ms) × (f j' ≡ j)
  pub once : {i₁ i₂ j₁ j₂ : Q'} {ns₁ ns₂ : List (Move Q' Γ')} → Accepting copy i₁ ns₁ j₁ → Accepting copy i₂ ns₂ j₂
      → f i₁ ≡ f i₂ → map (rename f u) ns₁ ≡ map (rename f u) ns₂ → (i₁ ≡ i₂) × (ns₁ ≡ ns₂) × (j₁ ≡ j₂)

-- A and B differ in the names of states and marks only: f and u lead from the names in B to those in A, g and v back. They do so for what stands in a move
-- and for initial and final states; Q and Q' may have further elements.
pub record Renames {Q Γ Q' Γ' : Type 0} (A : Vpa Q Γ) (B : Vpa Q' Γ') (f : Q' → Q) (u : Γ' → Γ) (g : Q → Q') (v : Γ → Γ') : Type 0 where
  pub kinds : (a : ℕ) → B.kind a ≡ A.kind a
  pub down : (m : Move Q' Γ') → B.Has m → A.Has (rename f u m)
  pub up : (m : Move Q Γ) → A.Has m → B.Has (rename g v m)
  pub there : (m : Move Q Γ) → A.Has m → rename f u (rename g v m) ≡ m
  pub back : (m : Move Q' Γ') → B.Has m → rename g v (rename f u m) ≡ m
  pub initial_down : (i : Q') → B.Initial i → A.Initial (f i)
  pub initial_up : (i : Q) → A.Initial i → B.Initial (g i)
  pub initial_there : (i : Q) → A.Initial i → f (g i) ≡ i
  pub initial_back : (i : Q') → B.Initial i → g (f i) ≡ i
  pub final_down : (i : Q') → B.Final i → A.Final (f i)
  pub final_up : (i : Q) → A.Final i → B.Final (g i)
  pub final_there : (i : Q) → A.Final i → f (g i) ≡ i
  pub final_back : (i : Q') → B.Final i → g (f i) ≡ i
