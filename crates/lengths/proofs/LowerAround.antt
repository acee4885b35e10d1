-- Laws of what follows from a pair: the loops along the open moves to it and the close moves from it, and all that is lowered by it.
use Prim.Native.Nat.{ℕ, ◌+◌, ◌*◌, ◌/◌, ◌<◌, ◌≤◌}
use mathlib.Core.Bool.{Bool, true, false}
use mathlib.Core.List.{List}
use mathlib.Core.Path.{◌≡◌, subst, ◌∙◌}
use native.Mathlib.Nat.{add-zero}
use native.Mathlib.Omega.{arith}
use lib.ListN.{length, get_or}
use Rattle.vpa.specs.Automaton.{opening, closing, open_move, close_move}
use Rattle.vpa.specs.Shortest.{HasLength, AtMost}
use Rattle.vpa.proofs.Lengths.{has_nest}
use Rattle.vpa.specs.TableOnDisk.{Table, kind_in, InTable, in_open, in_close, automaton}
use Rattle.table.specs.Bytes.{byte}
use Rattle.table.specs.Calls.{kind_answer}
use Rattle.table.specs.Layout.{moves_part, parse}
use Rattle.table.specs.Refusals.{verdict}
use Rattle.nesting.specs.Steps.{of_kind?, move_of?}
use Rattle.nesting.proofs.MovesFound.{StandsBelow, move_bounds, taken, skipped, of_kind, other_kind, move_at, stands_at}
use Rattle.lengths.specs.Limit.{over}
use Rattle.lengths.specs.Steps.{length_in, Chained, Sound, Lowered, LoweredTo, LoweredAfter, LoweredBefore, LoweredClosing, LoweredAround, Settled}
use Rattle.lengths.proofs.Chains.{Walked, walked_map, walked_none, walked_more, walked_all}
use Rattle.lengths.proofs.Lowering.{at_most_less, lowered_none, lowered_then}

-- The loop along the close moves from q has come to number k.
pub record ClosingSoFar (t : Table) (u : List ℕ) (p γ q v : ℕ) (s due s' due' : List ℕ) (k : ℕ) : Type 0 where
  pub lowered : Lowered s due s' due'
  pub walked : Walked u 0 q k (λ j. (byte u (4 * j + 2) ≡ γ) × (kind_in t (byte u (4 * j + 1)) ≡ closing) → AtMost over (length_in s' p (byte u (4 * j + 3))) v)
  pub sound : Sound t s → ((b r : ℕ) → InTable t (close_move q b γ r) → HasLength (automaton t) over p r v) → Sound t s'

-- The loop along the open moves to p has come to number k.
pub record AroundSoFar (t : Table) (u : List ℕ) (p q v : ℕ) (s due s' due' : List ℕ) (k : ℕ) : Type 0 where
  pub lowered : Lowered s due s' due'
  pub walked : Walked u 3 p k (λ j. kind_in t (byte u (4 * j + 1)) ≡ opening
      → (b r : ℕ) → InTable t (close_move q b (byte u (4 * j + 2)) r) → AtMost over (length_in s' (byte u (4 * j)) r) (v + 2))
  pub sound : Sound t s → HasLength (automaton t) over p q v → Sound t s'

-- From here on u holds the bytes of a table's moves.
module _ (s : List ℕ) (good : verdict s ≡ 0) {u : List ℕ} (part : u ≡ moves_part s) where
  -- The from of a move is its column 0.
  from_at : (k : ℕ) → byte u (4 * k + 0) ≡ byte u (4 * k)
  from_at k = rw (add-zero (4 * k))

  close_stands : {q b γ r : ℕ} → InTable (parse s) (close_move q b γ r) → StandsBelow (parse s) closing γ u (length u / 4) q r
  close_stands {b = b} (in_close e i) = stands_at s good part (record { letter = b; stands = e; of = i })

  open_stands : {p a γ q : ℕ} → InTable (parse s) (open_move p a γ q) → StandsBelow (parse s) opening γ u (length u / 4) p q
  open_stands {a = a} (in_open e i) = stands_at s good part (record { letter = a; stands = e; of = i })

  close_low : {q b γ r : ℕ} → InTable (parse s) (close_move q b γ r) → r < 64
  close_low m = let w = close_stands m in rw (← w.to) (move_bounds s good part w.k w.low).2

  module _ {chain : List ℕ} (chained : Chained u 0 chain) {p γ q v : ℕ} {z due : List ℕ} where
    module _ {z₁ due₁ : List ℕ} {k : ℕ} (l : k < length u / 4) (h : ClosingSoFar (parse s) u p γ q v z due z₁ due₁ k) where
      pub closing_skip : {b : Bool} → move_of? s u (4 * k) closing γ ≡ b → b ≡ false → ClosingSoFar (parse s) u p γ q v z due z₁ due₁ (get_or chain (64 + k) 0)
      closing_skip d e = record {
        lowered = h.lowered;
        walked = walked_more chained l (λ m. absurd (skipped s good part k closing γ l d e m)) h.walked;
        sound = h.sound;
      }

      pub closing_take : {b : Bool} {z₂ due₂ : List ℕ} → move_of? s u (4 * k) closing γ ≡ b → b ≡ true → p < 64 → LoweredTo p (byte u (4 * k + 3)) v z₁ due₁ z₂ due₂
          → ClosingSoFar (parse s) u p γ q v z due z₂ due₂ (get_or chain (64 + k) 0)
      closing_take d e low g = record {
        lowered = lowered_then h.lowered g.lowered;
        walked = walked_more chained l (λ m. g.here)
            (walked_map (λ j b f m. at_most_less (f m) (g.lowered.less p _ low (move_bounds s good part j b).2)) h.walked);
        sound = λ f c.
            let m = taken s good part k closing γ l d e in
            g.sound (parse s) (h.sound f c) (c (byte u (4 * k + 1)) _ (rw (← m.0, ← h.walked.at l, from_at k) (in_close (move_at s good part k l) m.1)));
      }

  pub closing_all : {p γ q v k : ℕ} {z due z₁ due₁ : List ℕ} → length u / 4 ≤ k → ClosingSoFar (parse s) u p γ q v z due z₁ due₁ k
      → LoweredClosing (parse s) p γ q v z due z₁ due₁
  closing_all l h = record {
    lowered = h.lowered;
    closing = λ b r m. let w = close_stands m in rw (← w.to) (walked_all l h.walked w.k w.low (from_at w.k ∙ w.from) (w.mark, w.of));
    sound = h.sound;
  }

  -- Move k opens to p.
  abbrev opens : ℕ → ℕ → Type 0
  opens k p = InTable (parse s) (open_move (byte u (4 * k)) (byte u (4 * k + 1)) (byte u (4 * k + 2)) p)

  module _ {chain : List ℕ} (chained : Chained u 3 chain) {p q v : ℕ} {z due : List ℕ} where
    pub around_none : p < 64 → AroundSoFar (parse s) u p q v z due z due (get_or chain p 0)
    around_none l = record { lowered = lowered_none z due; walked = walked_none chained l; sound = λ f c. f }

    module _ {z₁ due₁ : List ℕ} {k : ℕ} (l : k < length u / 4) (h : AroundSoFar (parse s) u p q v z due z₁ due₁ k) where
      pub around_skip : {b : Bool} → of_kind? (kind_answer s (byte u (4 * k + 1))) opening ≡ b → b ≡ false
          → AroundSoFar (parse s) u p q v z due z₁ due₁ (get_or chain (64 + k) 0)
      around_skip d e = record {
        lowered = h.lowered;
        walked = walked_more chained l (λ i. absurd (other_kind s good part k opening l d e i)) h.walked;
        sound = h.sound;
      }

      pub around_take : {b : Bool} {z₂ due₂ : List ℕ} → of_kind? (kind_answer s (byte u (4 * k + 1))) opening ≡ b → b ≡ true
          → LoweredClosing (parse s) (byte u (4 * k)) (byte u (4 * k + 2)) q (v + 2) z₁ due₁ z₂ due₂
          → AroundSoFar (parse s) u p q v z due z₂ due₂ (get_or chain (64 + k) 0)
      around_take d e g = record {
        lowered = lowered_then h.lowered g.lowered;
        walked = walked_more chained l (λ _. g.closing)
            (walked_map (λ j low f i b r m. at_most_less (f i b r m) (g.lowered.less _ r (move_bounds s good part j low).0 (close_low m))) h.walked);
        sound = λ f c.
            let i = of_kind s good part k opening l d e in
            g.sound (h.sound f c) (λ b r m. has_nest (automaton (parse s)) (subst (opens k) (h.walked.at l) (in_open (move_at s good part k l) i)) c m);
      }

  pub around_all : {p q v k : ℕ} {z due z₁ due₁ : List ℕ} → length u / 4 ≤ k → AroundSoFar (parse s) u p q v z due z₁ due₁ k
      → LoweredAround (parse s) p q v z due z₁ due₁
  around_all l h = record {
    lowered = h.lowered;
    around = λ p' q' a b γ o m. let w = open_stands o in rw (← w.from) (walked_all l h.walked w.k w.low w.to w.of b q' (rw w.mark m));
    sound = h.sound;
  }

-- One after the other: what the first finds as low as it has to be stays so.
pub settled : {t : Table} {n p q v : ℕ} {z due z₁ due₁ z₂ due₂ : List ℕ} → n ≤ 64 → p < 64 → q < 64
    → LoweredAfter n p q v z due z₁ due₁
    → LoweredBefore n p q v z due z₁ due₁
    → LoweredAround t p q v z₁ due₁ z₂ due₂
    → Settled t n p q v z due z₂ due₂
settled {t} some low small f g h = record {
  lowered = lowered_then f.lowered h.lowered;
  after = λ r l o. at_most_less (f.after r l o) (h.lowered.less _ r low (omega arith));
  before = λ r l o. at_most_less (g.before r l o) (h.lowered.less r _ (omega arith) small);
  around = h.around;
  sound = λ k c. h.sound (f.sound t k c) c;
}
