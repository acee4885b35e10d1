-- Shortest logs: what stands between two states that no state between splits, which pair of ends a shortest log has, and a log written letter by letter.
use Prim.Native.Nat.{ℕ, ◌+◌, ◌≤◌, ◌<◌}
use native.Mathlib.Decide.{ℕ_discrete}
use native.Mathlib.Omega.{arith}
use mathlib.Core.Path.{◌≡◌, refl, ap, ◌∙◌}
use mathlib.Core.List.{List, [], ◌∷◌, ◌++◌}
use lib.ListN.{length}
use lib.Dec.{T}
use Rattle.vpa.specs.Automaton.{Move, plain_move, open_move, close_move, letter, target, spells, Vpa, Run, run_done, run_plain, run_open, run_close, Accepts, Reaches}
use Rattle.vpa.specs.TableOnDisk.{Table, state_count, initial?, final?, automaton, IsTable}
use Rattle.vpa.specs.Shortest.{BalancedIn, same_in, join_in, step_in, nest_in, AtMost, LeastLengths, Shortest}
use Rattle.vpa.proofs.Runs.{spells_append, run_append}
use Rattle.vpa.proofs.Lengths.{accepts_in_iff, least_bound, least_held, least_over, target_bound}
use Rattle.vpa.proofs.TableMoves.{initial_bound, final_bound}

-- What n moves between p and r are, if there are any: one plain move, an open with its close, or two parts with moves in both.
pub data Parts {Q Γ : Type 0} (A : Vpa Q Γ) (p r : Q) (n : ℕ) : Type 0 where
  is_step : {a : ℕ} → A.Has (plain_move p a r) → n ≡ 1 → Parts A p r n
  is_nest : {p₁ q₁ : Q} {a b : ℕ} {γ : Γ} {m : ℕ}
      → A.Has (open_move p a γ p₁) → BalancedIn A p₁ q₁ m → A.Has (close_move q₁ b γ r) → n ≡ m + 2 → Parts A p r n
  is_split : {q : Q} {m k : ℕ} → BalancedIn A p q m → BalancedIn A q r k → 0 < m → 0 < k → n ≡ m + k → Parts A p r n

-- The same for the least lengths d, where no state splits the pair.
pub data Unsplit {Q Γ : Type 0} (A : Vpa Q Γ) (d : Q → Q → ℕ) (p r : Q) : Type 0 where
  by_step : (a : ℕ) → A.Has (plain_move p a r) → d p r ≡ 1 → Unsplit A d p r
  by_nest : (p₁ q₁ : Q) (a b : ℕ) (γ : Γ) → A.Has (open_move p a γ p₁) → A.Has (close_move q₁ b γ r) → d p₁ q₁ + 2 ≡ d p r → Unsplit A d p r

module _ {Q Γ : Type 0} (A : Vpa Q Γ) where
  length_zero : {p q : Q} {n : ℕ} → BalancedIn A p q n → n ≡ 0 → p ≡ q
  length_zero same_in z = refl
  length_zero (join_in b c e) z = length_zero b (omega arith) ∙ length_zero c (omega arith)
  length_zero (step_in h) z = absurd (omega arith)
  length_zero (nest_in h n c e) z = absurd (omega arith)

  -- A join with an empty part is the other part.
  pub parts : {p r : Q} {n : ℕ} → BalancedIn A p r n → 0 < n → Parts A p r n
  parts same_in l = absurd (omega arith)
  parts (join_in {p} {q} {r} {n} {m} {k} b c e) l = by (ℕ_discrete n 0) (ℕ_discrete m 0) (parts b) (parts c) where
    by : Dec (n ≡ 0) → Dec (m ≡ 0) → (0 < n → Parts A p q n) → (0 < m → Parts A q r m) → Parts A p r k
    by (yes z) y f g = let all : k ≡ m = omega arith in rw (length_zero b z, all) (g (omega arith))
    by (no z) (yes y) f g = let all : k ≡ n = omega arith in rw (← length_zero c y, all) (f (omega arith))
    by (no z) (no y) f g = is_split b c (omega arith) (omega arith) e
  parts (step_in h) l = is_step h refl
  parts (nest_in h n c e) l = is_nest h n c e

  module _ (S : Q → Type 0) (stays : (m : Move Q Γ) → A.Has m → S (target m)) {over : ℕ} (some : 0 < over) (d : Q → Q → ℕ) (least : LeastLengths A S over d) where
    bound : {p q : Q} {n : ℕ} → S p → BalancedIn A p q n → S q × AtMost over (d p q) n
    bound = least_bound A S stays some d least.closed

    pub d_zero : {p q : Q} → S p → S q → d p q ≡ 0 → p ≡ q
    d_zero h g z = length_zero (least_held A S stays some d least h g (omega arith)) z

    pub unsplit : {p r : Q} → S p → S r → 0 < d p r → d p r < over
        → ((x : Q) → S x → 0 < d p x → d p x < d p r → d p x + d x r ≡ d p r → ⊥) → Unsplit A d p r
    unfolding target
    unsplit {p} {r} h g l u none = by (parts (least_held A S stays some d least h g u) l) where
      by : Parts A p r (d p r) → Unsplit A d p r
      by (is_step {a} m e) = by_step a m e
      by (is_nest {p₁} {q₁} {a} {b} {γ} m n c e) =
          let k = bound (stays (open_move p a γ p₁) m) n in
          let j = least.closed.nest p p₁ q₁ r a b γ m c k.1.length in
          by_nest p₁ q₁ a b γ m c (omega (arith, k.1.most, j.most))
      by (is_split {q} b c i j e) =
          let k = bound h b in
          let n = bound k.0 c in
          let first = k.1.most in
          let rest = n.1.most in
          let whole = (least.closed.join p q r h k.0 g k.1.length n.1.length).most in
          absurd (none q k.0 (omega arith) (omega arith) (omega arith))

    -- The ends of a shortest log: among the initial and final states, those with the least length between them.
    module _ (begins : (i : Q) → A.Initial i → S i) (ends : (f : Q) → A.Final f → S f) where
      -- An accepted log is no shorter than the length between its ends.
      accepted_bound : (w : List ℕ) → Accepts A w → (i : Q) × (f : Q) × A.Initial i × A.Final f × AtMost over (d i f) (length w)
      accepted_bound w a = let k = (accepts_in_iff A (length w)).0 (w, a, refl) in (k.0, k.1, k.2, k.4, (bound (begins k.0 k.2) k.3).1)

      pub top_none : ((i f : Q) → A.Initial i → A.Final f → over < d i f) → (w : List ℕ) → Accepts A w → ⊥
      top_none none w a = let k = accepted_bound w a in omega (arith, none k.0 k.1 k.2 k.3, k.4.length)

      bounded : {n : ℕ} → ((i f : Q) → A.Initial i → A.Final f → d i f ≤ over → n ≤ d i f) → (w : List ℕ) → Accepts A w → n ≤ length w
      bounded h w a = let k = accepted_bound w a in omega (arith, h k.0 k.1 k.2 k.3 k.4.length, k.4.most)

      pub top_over : {i f : Q} → A.Initial i → A.Final f → d i f ≡ over → ((i' f' : Q) → A.Initial i' → A.Final f' → d i' f' ≤ over → over ≤ d i' f')
          → ((w : List ℕ) × Accepts A w) × ((w : List ℕ) → Accepts A w → over ≤ length w)
      top_over {i} {f} b e o h =
          let k = (least_over A S stays some d least (begins i b) (ends f e) o).0 in
          let a = (accepts_in_iff A k.0).1 (i, f, b, k.1, e) in
          ((a.0, a.1), bounded h)

      pub top_least : {i f : Q} → A.Initial i → A.Final f → d i f < over → ((i' f' : Q) → A.Initial i' → A.Final f' → d i' f' ≤ over → d i f ≤ d i' f')
          → Shortest A (d i f)
      top_least {i} {f} b e l h =
          let a = (accepts_in_iff A (d i f)).1 (i, f, b, least_held A S stays some d least (begins i b) (ends f e) l, e) in
          record { log = a.0; accepted = a.1; long = a.2; none_shorter = bounded h }

  -- A log written letter by letter.
  pub reaches_start : {i : Q} → A.Initial i → Reaches A [] i []
  unfolding spells
  reaches_start {i} b = record { first = i; moves = []; begins = b; runs = run_done; spelt = refl }

  module _ {w : List ℕ} {p q : Q} where
    reaches_move : {σ τ : List Γ} (m : Move Q Γ) → Reaches A w p σ → Run A p σ (m ∷ []) q τ → Reaches A (w ++ (letter m ∷ [])) q τ
    unfolding spells
    reaches_move m r t = record {
      first = r.first;
      moves = r.moves ++ (m ∷ []);
      begins = r.begins;
      runs = run_append A r.runs t;
      spelt = spells_append r.moves (m ∷ []) ∙ ap (λ u. u ++ (letter m ∷ [])) r.spelt;
    }

    pub reaches_plain : {a : ℕ} {σ : List Γ} → Reaches A w p σ → A.Has (plain_move p a q) → Reaches A (w ++ (a ∷ [])) q σ
    unfolding letter
    reaches_plain {a} r h = reaches_move (plain_move p a q) r (run_plain h run_done)

    pub reaches_open : {a : ℕ} {γ : Γ} {σ : List Γ} → Reaches A w p σ → A.Has (open_move p a γ q) → Reaches A (w ++ (a ∷ [])) q (γ ∷ σ)
    unfolding letter
    reaches_open {a} {γ} r h = reaches_move (open_move p a γ q) r (run_open h run_done)

    pub reaches_close : {a : ℕ} {γ : Γ} {σ : List Γ} → Reaches A w p (γ ∷ σ) → A.Has (close_move p a γ q) → Reaches A (w ++ (a ∷ [])) q σ
    unfolding letter
    reaches_close {a} {γ} r h = reaches_move (close_move p a γ q) r (run_close h run_done)

  pub reaches_accepts : {w : List ℕ} {f : Q} → Reaches A w f [] → A.Final f → Accepts A w
  reaches_accepts {w} {f} r e = record { first = r.first; moves = r.moves; last = f; accepting = record { begins = r.begins; runs = r.runs; ends = e }; spelt = r.spelt }

-- For a table: over its states.
module _ (t : Table) (fit : IsTable t) {over : ℕ} (some : 0 < over) (d : ℕ → ℕ → ℕ) (least : LeastLengths (automaton t) (λ p. p < state_count t) over d) where
  pub table_d_zero : {p q : ℕ} → p < state_count t → q < state_count t → d p q ≡ 0 → p ≡ q
  table_d_zero = d_zero (automaton t) (λ p. p < state_count t) (target_bound t fit) some d least

  pub table_unsplit : {p r : ℕ} → p < state_count t → r < state_count t → 0 < d p r → d p r < over
      → ((x : ℕ) → x < state_count t → 0 < d p x → d p x < d p r → d p x + d x r ≡ d p r → ⊥) → Unsplit (automaton t) d p r
  table_unsplit = unsplit (automaton t) (λ p. p < state_count t) (target_bound t fit) some d least

  pub table_top_none : ((i f : ℕ) → T (initial? t i) → T (final? t f) → over < d i f) → (w : List ℕ) → Accepts (automaton t) w → ⊥
  table_top_none = top_none (automaton t) (λ p. p < state_count t) (target_bound t fit) some d least (initial_bound t) (final_bound t)

  pub table_top_over : {i f : ℕ} → T (initial? t i) → T (final? t f) → d i f ≡ over
      → ((i' f' : ℕ) → T (initial? t i') → T (final? t f') → d i' f' ≤ over → over ≤ d i' f')
      → ((w : List ℕ) × Accepts (automaton t) w) × ((w : List ℕ) → Accepts (automaton t) w → over ≤ length w)
  table_top_over = top_over (automaton t) (λ p. p < state_count t) (target_bound t fit) some d least (initial_bound t) (final_bound t)

  pub table_top_least : {i f : ℕ} → T (initial? t i) → T (final? t f) → d i f < over
      → ((i' f' : ℕ) → T (initial? t i') → T (final? t f') → d i' f' ≤ over → d i f ≤ d i' f') → Shortest (automaton t) (d i f)
  table_top_least = top_least (automaton t) (λ p. p < state_count t) (target_bound t fit) some d least (initial_bound t) (final_bound t)
