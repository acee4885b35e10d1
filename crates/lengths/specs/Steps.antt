-- What the functions inside promise each other: lengths held in scratch, how they are lowered, and chains of moves. They stand for no statement of document
-- 01; what is found in the end is `LeastLengths` of the crate `vpa`.
use Rattle.std.specs.Prelude.{ℕ, suc, ◌+◌, ◌*◌, ◌/◌, ◌<◌, ◌≤◌, List, ◌↔◌, ◌⊎◌, ◌≡◌, length, get_or, take}
use Rattle.vpa.specs.Automaton.{plain_move, open_move, close_move}
use Rattle.vpa.specs.Shortest.{HasLength, AtMost, LeastLengths}
use Rattle.vpa.specs.TableOnDisk.{Table, state_count, InTable, automaton}
use Rattle.table.specs.Bytes.{byte}
use Rattle.relation.specs.Digits.{bit, total}
use Rattle.relation.specs.Relations.{Holds}
use Rattle.nesting.specs.Scratch.{KeptFrom}
use Rattle.lengths.specs.Limit.{over}

-- The length held for the pair (p, q): 64 to a row, at the front of scratch.
unfoldable pub length_in : List ℕ → ℕ → ℕ → ℕ
length_in s p q = get_or (take 4096 s) (64 * p + q) 0

-- The lengths held are the least ones of a table's pairs.
abbrev pub Least : Table → List ℕ → Type 0
Least t s = LeastLengths (automaton t) (λ p. p < state_count t) over (length_in s)

-- CHAINS: the moves of a table that have the same number in one column, their from or their to, one after the other.

-- v is the number of the first move from number k on that has x in the column; past the moves where there is none.
pub record FirstFrom (part : List ℕ) (column x k v : ℕ) : Type 0 where
  pub from : k ≤ v
  pub at : v < length part / 4 → byte part (4 * v + column) ≡ x
  pub none : (j : ℕ) → k ≤ j → j < v → j < length part / 4 → byte part (4 * j + column) ≡ x → ⊥

-- At place x the first move that has x in the column, and at place 64 + k the next one that has there what move k has.
pub record Chained (part : List ℕ) (column : ℕ) (chain : List ℕ) : Type 0 where
  pub head : (x : ℕ) → x < 64 → FirstFrom part column x 0 (get_or chain x 0)
  pub next : (k : ℕ) → k < length part / 4 → FirstFrom part column (byte part (4 * k + column)) (suc k) (get_or chain (64 + k) 0)

-- LOWERING: a length is lowered only to one that the pair has, and the pair is then due: what follows from it has to be looked at.

-- Every length held is one that the pair has.
pub record Sound (t : Table) (s : List ℕ) : Type 0 where
  pub has : (p q : ℕ) → p < 64 → q < 64 → length_in s p q ≤ over → HasLength (automaton t) over p q (length_in s p q)

-- Lengths are lowered or stay, and exactly the pairs that were due or are lowered are due.
pub record Lowered (s due s' due' : List ℕ) : Type 0 where
  pub kept : KeptFrom 4096 s s'
  pub less : (p q : ℕ) → p < 64 → q < 64 → length_in s' p q ≤ length_in s p q
  pub told : (p q : ℕ) → p < 64 → q < 64 → (length_in s' p q ≡ length_in s p q) ⊎ Holds due' p q
  pub stays : (p q : ℕ) → Holds due p q → Holds due' p q
  pub gained : (p q : ℕ) → p < 64 → q < 64 → Holds due' p q → Holds due p q ⊎ (length_in s' p q < length_in s p q)

-- Of one pair, to v at most.
pub record LoweredTo (p q v : ℕ) (s due s' due' : List ℕ) : Type 0 where
  pub lowered : Lowered s due s' due'
  pub here : AtMost over (length_in s' p q) v
  pub sound : (t : Table) → Sound t s → HasLength (automaton t) over p q v → Sound t s'

-- Of one pair, to v and w together at most, where w is a length.
pub record LoweredBy (p q v w : ℕ) (s due s' due' : List ℕ) : Type 0 where
  pub lowered : Lowered s due s' due'
  pub here : w ≤ over → AtMost over (length_in s' p q) (v + w)
  pub sound : (t : Table) → Sound t s → (w ≤ over → HasLength (automaton t) over p q (v + w)) → Sound t s'

-- Of the pairs (p, r) by way of q, and (r, q) by way of p, v being the length of (p, q).
pub record LoweredAfter (n p q v : ℕ) (s due s' due' : List ℕ) : Type 0 where
  pub lowered : Lowered s due s' due'
  pub after : (r : ℕ) → r < n → length_in s q r ≤ over → AtMost over (length_in s' p r) (v + length_in s q r)
  pub sound : (t : Table) → Sound t s → HasLength (automaton t) over p q v → Sound t s'

pub record LoweredBefore (n p q v : ℕ) (s due s' due' : List ℕ) : Type 0 where
  pub lowered : Lowered s due s' due'
  pub before : (r : ℕ) → r < n → length_in s r p ≤ over → AtMost over (length_in s' r q) (length_in s r p + v)
  pub sound : (t : Table) → Sound t s → HasLength (automaton t) over p q v → Sound t s'

-- Of the pairs from p along the close moves from q with the mark γ, to v at most.
pub record LoweredClosing (t : Table) (p γ q v : ℕ) (s due s' due' : List ℕ) : Type 0 where
  pub lowered : Lowered s due s' due'
  pub closing : (b r : ℕ) → InTable t (close_move q b γ r) → AtMost over (length_in s' p r) v
  pub sound : Sound t s → ((b r : ℕ) → InTable t (close_move q b γ r) → HasLength (automaton t) over p r v) → Sound t s'

-- Of the pairs around (p, q), whose length is v.
pub record LoweredAround (t : Table) (p q v : ℕ) (s due s' due' : List ℕ) : Type 0 where
  pub lowered : Lowered s due s' due'
  pub around : (p' q' a b γ : ℕ) → InTable t (open_move p' a γ p) → InTable t (close_move q b γ q') → AtMost over (length_in s' p' q') (v + 2)
  pub sound : Sound t s → HasLength (automaton t) over p q v → Sound t s'

-- After, before and around (p, q), all three.
pub record Settled (t : Table) (n p q v : ℕ) (s due s' due' : List ℕ) : Type 0 where
  pub lowered : Lowered s due s' due'
  pub after : (r : ℕ) → r < n → length_in s q r ≤ over → AtMost over (length_in s' p r) (v + length_in s q r)
  pub before : (r : ℕ) → r < n → length_in s r p ≤ over → AtMost over (length_in s' r q) (length_in s r p + v)
  pub around : (p' q' a b γ : ℕ) → InTable t (open_move p' a γ p) → InTable t (close_move q b γ q') → AtMost over (length_in s' p' q') (v + 2)
  pub sound : Sound t s → HasLength (automaton t) over p q v → Sound t s'

-- Of each state with itself, and of the pairs along plain moves.
pub record LoweredSame (n : ℕ) (s due s' due' : List ℕ) : Type 0 where
  pub lowered : Lowered s due s' due'
  pub same : (p : ℕ) → p < n → length_in s' p p ≡ 0
  pub sound : (t : Table) → Sound t s → Sound t s'

pub record LoweredPlain (t : Table) (s due s' due' : List ℕ) : Type 0 where
  pub lowered : Lowered s due s' due'
  pub step : (p q a : ℕ) → InTable t (plain_move p a q) → length_in s' p q ≤ 1
  pub sound : Sound t s → Sound t s'

-- No length is held: the number after `over` stands for none, so that whatever is lowered has a length.
pub record NoLengths (s : List ℕ) : Type 0 where
  pub none : (p q : ℕ) → p < 64 → q < 64 → length_in s p q ≡ suc over

-- What is due has a length; and no number is over the one that stands for none.
pub record DueLengths (s due : List ℕ) : Type 0 where
  pub most : (p q : ℕ) → p < 64 → q < 64 → length_in s p q ≤ suc over
  pub has : (p q : ℕ) → p < 64 → q < 64 → Holds due p q → length_in s p q ≤ over

-- The lengths as the search goes on: those that the pairs have, and closed under the rules but for the pairs that are due.
pub record Searched (t : Table) (s due : List ℕ) : Type 0 where
  pub sound : Sound t s
  pub dues : DueLengths s due
  pub same : (p : ℕ) → p < state_count t → length_in s p p ≡ 0
  pub step : (p q a : ℕ) → InTable t (plain_move p a q) → length_in s p q ≤ 1
  pub join : (p q r : ℕ) → p < state_count t → q < state_count t → r < state_count t → (Holds due p q → ⊥) → (Holds due q r → ⊥)
      → length_in s p q ≤ over → length_in s q r ≤ over → AtMost over (length_in s p r) (length_in s p q + length_in s q r)
  pub nest : (p' p q q' a b γ : ℕ) → InTable t (open_move p' a γ p) → InTable t (close_move q b γ q') → (Holds due p q → ⊥)
      → length_in s p q ≤ over → AtMost over (length_in s p' q') (length_in s p q + 2)

-- due' is due without the pair (p, q), which was due.
pub record Taken (p q : ℕ) (due due' : List ℕ) : Type 0 where
  pub low : q < 64
  pub was : Holds due p q
  pub gone : Holds due' p q → ⊥
  pub rest : (x y : ℕ) → ((x ≡ p) × (y ≡ q) → ⊥) → Holds due' x y ↔ Holds due x y

-- What falls with every pair that is looked at: it counts twice what a length can still be lowered by, and once that a pair is due.
unfoldable pub work_left : List ℕ → List ℕ → ℕ
work_left s due = total 64 (λ p. total 64 (λ q. 2 * length_in s p q + bit (get_or due p 0) q))
