-- Loops that lower one length a turn, and what the search starts from.
use Prim.Native.Nat.{ℕ, ◌+◌, ◌*◌, ◌/◌, ◌<◌, ◌≤◌}
use mathlib.Core.Bool.{Bool, true, false}
use mathlib.Core.List.{List}
use mathlib.Core.Logic.{◌⊎◌, inl, inr, ⊎_elim}
use mathlib.Core.Path.{◌≡◌, refl, subst}
use native.Mathlib.Nat.{eq-or-lt_of_le}
use native.Mathlib.Omega.{arith}
use lib.ListN.{length}
use Rattle.vpa.specs.Automaton.{plain, plain_move, open_move, close_move}
use Rattle.vpa.specs.Shortest.{step_in, HasLength, AtMost}
use Rattle.vpa.specs.TableOnDisk.{Table, state_count, kind_in, InTable, in_plain, automaton}
use Rattle.vpa.proofs.TableMoves.{open_bounds, close_bounds}
use Rattle.table.specs.Bytes.{byte}
use Rattle.table.specs.Calls.{kind_answer}
use Rattle.table.specs.Layout.{moves_part, parse}
use Rattle.table.specs.Refusals.{verdict}
use Rattle.table.proofs.Tables.{good_storable, good_table}
use Rattle.relation.specs.Relations.{Holds}
use Rattle.nesting.specs.Steps.{of_kind?}
use Rattle.nesting.proofs.MovesFound.{StandsBelow, move_bounds, of_kind, other_kind, move_at, stands_at}
use Rattle.lengths.specs.Limit.{over}
use Rattle.lengths.specs.Steps.{length_in, Sound, Lowered, LoweredTo, LoweredBy, LoweredSame, LoweredPlain, NoLengths, Searched}
use Rattle.lengths.proofs.Search.{dues_lowered, dues_none}
use Rattle.lengths.proofs.Lowering.{at_most_less, at_most_more, lowered_then}

-- The turns below n are done: turn r, where C r, lowers the pair (x r, y r) to v r at most. Lengths stay sound for each table of which Q is said.
pub record LoweredBelow (C : ℕ → Type 0) (x y v : ℕ → ℕ) (Q : Table → Type 0) (n : ℕ) (s due s' due' : List ℕ) : Type 0 where
  pub lowered : Lowered s due s' due'
  pub bound : (r : ℕ) → r < n → C r → AtMost over (length_in s' (x r) (y r)) (v r)
  pub sound : (t : Table) → Sound t s → Q t → Sound t s'

module _ {C : ℕ → Type 0} {x y v : ℕ → ℕ} {Q : Table → Type 0} {n : ℕ} {s due s₁ due₁ : List ℕ} (h : LoweredBelow C x y v Q n s due s₁ due₁) where
  pub below_skip : (C n → ⊥) → LoweredBelow C x y v Q (n + 1) s due s₁ due₁
  below_skip none = record {
    lowered = h.lowered;
    bound = λ r l c. ⊎_elim (λ e. absurd (none (subst C e c))) (λ m. h.bound r m c) (eq-or-lt_of_le (omega arith));
    sound = h.sound;
  }

  pub below_more : {w : ℕ} {s₂ due₂ : List ℕ} → LoweredTo (x n) (y n) w s₁ due₁ s₂ due₂ → (C n → w ≤ v n)
      → ((t : Table) → Sound t s₁ → Q t → HasLength (automaton t) over (x n) (y n) w) → ((r : ℕ) → r < n → (x r < 64) × (y r < 64))
      → LoweredBelow C x y v Q (n + 1) s due s₂ due₂
  below_more {s₂ = s₂} to most counts low = record {
    lowered = lowered_then h.lowered to.lowered;
    bound = λ r l c. ⊎_elim (λ e. here r e c) (λ m. at_most_less (h.bound r m c) (less r m)) (eq-or-lt_of_le (omega arith));
    sound = λ t g q. let k = h.sound t g q in to.sound t k (counts t k q);
  } where
    here : (r : ℕ) → r ≡ n → C r → AtMost over (length_in s₂ (x r) (y r)) (v r)
    here r e c = rw e (at_most_more to.here (most (subst C e c)))

    less : (r : ℕ) → r < n → length_in s₂ (x r) (y r) ≤ length_in s₁ (x r) (y r)
    less r m = to.lowered.less _ _ (low r m).0 (low r m).1

  -- The turn at n in the words of `LoweredBy`.
  pub below_by : {a w : ℕ} {s₂ due₂ : List ℕ} → LoweredBy (x n) (y n) a w s₁ due₁ s₂ due₂ → (C n → (w ≤ over) × (a + w ≤ v n))
      → ((t : Table) → Sound t s₁ → Q t → w ≤ over → HasLength (automaton t) over (x n) (y n) (a + w)) → ((r : ℕ) → r < n → (x r < 64) × (y r < 64))
      → LoweredBelow C x y v Q (n + 1) s due s₂ due₂
  below_by {s₂ = s₂} by most counts low = record {
    lowered = lowered_then h.lowered by.lowered;
    bound = λ r l c. ⊎_elim (λ e. here r e c) (λ m. at_most_less (h.bound r m c) (less r m)) (eq-or-lt_of_le (omega arith));
    sound = λ t g q. let k = h.sound t g q in by.sound t k (counts t k q);
  } where
    here : (r : ℕ) → r ≡ n → C r → AtMost over (length_in s₂ (x r) (y r)) (v r)
    here r e c = let m = most (subst C e c) in rw e (at_most_more (by.here m.0) m.1)

    less : (r : ℕ) → r < n → length_in s₂ (x r) (y r) ≤ length_in s₁ (x r) (y r)
    less r m = by.lowered.less _ _ (low r m).0 (low r m).1

  -- Something else is lowered, which leaves what was done.
  pub below_kept : {s₂ due₂ : List ℕ} → Lowered s₁ due₁ s₂ due₂ → ((t : Table) → Sound t s₁ → Q t → Sound t s₂) → ((r : ℕ) → r < n → (x r < 64) × (y r < 64))
      → LoweredBelow C x y v Q n s due s₂ due₂
  below_kept to keeps low = record {
    lowered = lowered_then h.lowered to;
    bound = λ r l c. at_most_less (h.bound r l c) (to.less _ _ (low r l).0 (low r l).1);
    sound = λ t g q. keeps t (h.sound t g q) q;
  }

-- The loop over the moves of a table, u being their bytes, that lowers along the plain ones.
abbrev pub PlainBelow : Table → List ℕ → ℕ → List ℕ → List ℕ → List ℕ → List ℕ → Type 0
PlainBelow t u = LoweredBelow (λ k. kind_in t (byte u (4 * k + 1)) ≡ plain) (λ k. byte u (4 * k)) (λ k. byte u (4 * k + 3)) (λ k. 1) (λ t'. t' ≡ t)

module _ (b : List ℕ) (good : verdict b ≡ 0) {u : List ℕ} (part : u ≡ moves_part b)
    {n : ℕ} {s due s₁ due₁ : List ℕ} (h : PlainBelow (parse b) u n s due s₁ due₁) where
  module _ (l : n < length u / 4) {answer : Bool} (d : of_kind? (kind_answer b (byte u (4 * n + 1))) plain ≡ answer) where
    pub plain_skip : answer ≡ false → PlainBelow (parse b) u (n + 1) s due s₁ due₁
    plain_skip e = below_skip h (other_kind b good part n plain l d e)

    pub plain_more : {s₂ due₂ : List ℕ} → answer ≡ true → LoweredTo (byte u (4 * n)) (byte u (4 * n + 3)) 1 s₁ due₁ s₂ due₂
        → PlainBelow (parse b) u (n + 1) s due s₂ due₂
    plain_more e to = below_more h to (λ i. omega arith) counts (λ r m. let k = move_bounds b good part r (omega arith) in (k.0, k.2)) where
      here : InTable (parse b) (plain_move (byte u (4 * n)) (byte u (4 * n + 1)) (byte u (4 * n + 3)))
      here = in_plain _ (move_at b good part n l) (of_kind b good part n plain l d e)

      counts : (t : Table) → Sound t s₁ → t ≡ parse b → HasLength (automaton t) over (byte u (4 * n)) (byte u (4 * n + 3)) 1
      counts t g f = rw f (record { moves = 1; balanced = step_in here; counted = inl refl })

  pub plain_all : length u / 4 ≤ n → LoweredPlain (parse b) s due s₁ due₁
  plain_all l = record { lowered = h.lowered; step = λ p q a m. step m; sound = λ g. h.sound _ g refl } where
    there : {γ p q : ℕ} → StandsBelow (parse b) plain γ u (length u / 4) p q → length_in s₁ p q ≤ 1
    there w = rw (← w.from, ← w.to) (h.bound w.k (omega (arith, w.low)) w.of).most

    step : {p q a : ℕ} → InTable (parse b) (plain_move p a q) → length_in s₁ p q ≤ 1
    step {a = a} (in_plain γ m k) = there (stands_at b good part (record { letter = a; stands = m; of = k }))

-- The start: every pair is due or has no length, so what the search has to do for the others it has done.
abbrev Fresh : List ℕ → List ℕ → Type 0
Fresh s due = (p q : ℕ) → p < 64 → q < 64 → Holds due p q ⊎ (over < length_in s p q)

fresh_lowered : {s due s' due' : List ℕ} → Fresh s due → Lowered s due s' due' → Fresh s' due'
fresh_lowered {s} {due} {s'} {due'} f h p q l m =
    let same : length_in s' p q ≡ length_in s p q → Holds due' p q ⊎ (over < length_in s' p q) =
    λ e. ⊎_elim (λ d. inl (h.stays p q d)) (λ (o : over < length_in s p q). inr (omega arith)) (f p q l m) in
    ⊎_elim same inl (h.told p q l m)

none_sound : (t : Table) {s : List ℕ} → NoLengths s → Sound t s
none_sound t h = record { has = λ p q l m o. absurd (omega (arith, h.none p q l m)) }

pub started : (b : List ℕ) → verdict b ≡ 0 → {n : ℕ} {s due s₁ due₁ s₂ due₂ : List ℕ} → n ≡ state_count (parse b) → NoLengths s → ((p q : ℕ) → Holds due p q → ⊥) → LoweredSame n s due s₁ due₁
    → LoweredPlain (parse b) s₁ due₁ s₂ due₂ → Searched (parse b) s₂ due₂
started b good {s₂ = s₂} {due₂} count none empty f g = record {
  sound = g.sound (f.sound _ (none_sound _ none));
  dues = dues_lowered g.lowered (dues_lowered f.lowered (dues_none none empty));
  same = λ p l. omega (arith, f.same p (omega arith), g.lowered.less p p (omega (arith, low)) (omega (arith, low)));
  step = g.step;
  join = λ p q r l m o j k x y. absurd (left (omega (arith, low)) (omega (arith, low)) j x);
  nest = λ p' p q q' x y γ i o j l. absurd (left (to i) (from o) j l);
} where
  low : state_count (parse b) ≤ 64
  low = (good_storable b good).states

  left : {p q : ℕ} → p < 64 → q < 64 → (Holds due₂ p q → ⊥) → length_in s₂ p q ≤ over → ⊥
  left {p} {q} l m j x =
      let first = fresh_lowered (λ p q l m. inr (omega (arith, none.none p q l m))) f.lowered in
      ⊎_elim j (λ (o : over < length_in s₂ p q). omega arith) (fresh_lowered first g.lowered p q l m)

  to : {p' x γ p : ℕ} → InTable (parse b) (open_move p' x γ p) → p < 64
  to m = omega (arith, low, (open_bounds (parse b) (good_table b good) m).3)

  from : {q x γ q' : ℕ} → InTable (parse b) (close_move q x γ q') → q < 64
  from m = omega (arith, low, (close_bounds (parse b) (good_table b good) m).0)
