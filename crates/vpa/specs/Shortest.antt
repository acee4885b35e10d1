-- Document 01, "What the build holds", emptiness with a shortest log: lengths of logs. (The limit of refusal 10 stands in the crate `lengths`.)
use Rattle.std.specs.Prelude.{ℕ, ◌+◌, ◌≤◌, ◌≡◌, List, ◌⊎◌, length}
use Rattle.vpa.specs.Automaton.{plain_move, open_move, close_move, Vpa, Accepts}

-- The pair (p, q) is balanced, by the four rules, with n moves between.
pub data BalancedIn {Q Γ : Type 0} (A : Vpa Q Γ) : Q → Q → ℕ → Type 0 where
  same_in : {p : Q} → BalancedIn A p p 0
  join_in : {p q r : Q} {n m k : ℕ} → BalancedIn A p q n → BalancedIn A q r m → k ≡ n + m → BalancedIn A p r k
  step_in : {p q : Q} {a : ℕ} → A.Has (plain_move p a q) → BalancedIn A p q 1
  nest_in : {p' p q q' : Q} {a b : ℕ} {γ : Γ} {n k : ℕ}
      → A.Has (open_move p' a γ p) → BalancedIn A p q n → A.Has (close_move q b γ q') → k ≡ n + 2 → BalancedIn A p' q' k

-- Lengths are counted up to a bound `over`: `over` itself stands for every length from it on, and numbers past it for no length at all.

-- v stands for how many moves there are between p and q: it is their number, or neither of the two is below the bound.
pub record HasLength {Q Γ : Type 0} (A : Vpa Q Γ) (over : ℕ) (p q : Q) (v : ℕ) : Type 0 where
  pub moves : ℕ
  pub balanced : BalancedIn A p q moves
  pub counted : (moves ≡ v) ⊎ ((over ≤ v) × (over ≤ moves))

-- No more than v, and a length.
pub record AtMost (over x v : ℕ) : Type 0 where
  pub length : x ≤ over
  pub most : x ≤ v

-- Lengths d between states of S that the four rules do not lower any more, and to which they add no pair.
pub record ClosedLengths {Q Γ : Type 0} (A : Vpa Q Γ) (S : Q → Type 0) (over : ℕ) (d : Q → Q → ℕ) : Type 0 where
  pub same : (p : Q) → S p → d p p ≡ 0
  pub join : (p q r : Q) → S p → S q → S r → d p q ≤ over → d q r ≤ over → AtMost over (d p r) (d p q + d q r)
  pub step : (p q : Q) (a : ℕ) → A.Has (plain_move p a q) → d p q ≤ 1
  pub nest : (p' p q q' : Q) (a b : ℕ) (γ : Γ) → A.Has (open_move p' a γ p) → A.Has (close_move q b γ q') → d p q ≤ over → AtMost over (d p' q') (d p q + 2)

-- Such lengths that the pairs have: the least ones (`least_bound`, `least_held`, `least_over`).
pub record LeastLengths {Q Γ : Type 0} (A : Vpa Q Γ) (S : Q → Type 0) (over : ℕ) (d : Q → Q → ℕ) : Type 0 where
  pub closed : ClosedLengths A S over d
  pub has : (p q : Q) → S p → S q → d p q ≤ over → HasLength A over p q (d p q)

-- A shortest accepted log has n letters: one of that length is accepted, and none that is shorter.
pub record Shortest {Q Γ : Type 0} (A : Vpa Q Γ) (n : ℕ) : Type 0 where
  pub log : List ℕ
  pub accepted : Accepts A log
  pub long : length log ≡ n
  pub none_shorter : (w : List ℕ) → Accepts A w → n ≤ length w
