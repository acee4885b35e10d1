-- What the calls of a step give settles: no pair stops the head, pairs go where they belong.
use Prim.Native.Nat.{ℕ, zero, suc, ◌+◌, ◌-◌, ◌<◌, ◌≤◌}
use mathlib.Core.Bool.{Bool, true, false}
use mathlib.Core.List.{List, ◌∷◌}
use mathlib.Core.Logic.{◌⊎◌, inl, inr}
use mathlib.Core.Path.{◌≡◌, refl, ◌∙◌}
use native.Mathlib.Omega.{arith}
use lib.ListN.{length, get_or, set, length-set}
use lib.Seq.{get_or-set_same, get_or-set_other}
use Rattle.vpa.specs.Reader.{Joined}
use Rattle.vpa.specs.TableOnDisk.{Table, state_count, automaton}
use Rattle.relation.specs.Relations.{Holds, HoldsExactly, IsRelation, RowsBelow, Diagonal, DigitsExactly, InSome, TellsNone}
use Rattle.relation.specs.Rows.{Reached}
use Rattle.relation.proofs.Relations.{exactly, no_digit, row_low}
use Rattle.relation.proofs.Walks.{some_digit}
use Rattle.reader.specs.declared.Head.{Head}
use Rattle.reader.specs.Layout.{letter_in, rows_in}
use Rattle.reader.specs.Steps.{Ready, Written, OpenedRows, ClosedRows, Settled, goes_on, stops}
use Rattle.reader.proofs.Legal.{ready_below}

-- Rows that hold no pair, and rows that hold one.
module _ {P : ℕ → ℕ → Type 0} {Puts : List ℕ → List ℕ → List ℕ → Type 0} {head : Head} {depth : ℕ} {words : List ℕ} {next : Head} {r : List ℕ} {b : Bool}
    (holds : HoldsExactly r P) (tells : TellsNone b ((j : ℕ) × (k : ℕ) × Holds r j k)) where
  pub settles_none : b ≡ true → next ≡ record { taken = head.taken; depth = head.depth; stopped = true } → Settled P Puts head depth words next words
  settles_none none e = rw e (stops (λ j k p. tells.none none (j, k, (holds.at j k).1 p)))

  pub settles : {after : List ℕ} → b ≡ false → IsRelation r → Puts r words after → next ≡ record { taken = head.taken + 1; depth = depth; stopped = false }
      → Settled P Puts head depth words next after
  settles {after} some is w e = let t = tells.some some in rw e (goes_on r after is holds t.0 t.1 ((holds.at t.0 t.1).0 t.2) w)

-- After an open letter: the states that it reaches from second halves, each with itself.
module _ {n x y : ℕ} {r moves : List ℕ} (below : RowsBelow n r) (halves : DigitsExactly x (InSome r 0 n)) (reached : DigitsExactly y (Reached x moves)) where
  opened_of : (q q' : ℕ) → Diagonal y q q' → OpenedRows r moves q q'
  opened_of q q' d =
      let w = (reached.at q).0 d.digit in
      let h = (halves.at w.by).0 w.first in
      record { same = d.same; by = w.by; half = record { first = h.place; held = record { digit = h.digit } }; leads = w.second }

  of_opened : (q q' : ℕ) → OpenedRows r moves q q' → Diagonal y q q'
  of_opened q q' o = record {
    same = o.same;
    digit = (reached.at q).1 (record {
      by = o.by;
      first = (halves.at o.by).1 (record { place = o.half.first; after = omega arith; before = row_low below o.half.held; digit = o.half.held.digit });
      second = o.leads;
    });
  }

  module _ {Puts : List ℕ → List ℕ → List ℕ → Type 0} {head : Head} {depth : ℕ} {words : List ℕ} {next : Head} where
    pub opens_none : y ≡ 0 → next ≡ record { taken = head.taken; depth = head.depth; stopped = true } → Settled (OpenedRows r moves) Puts head depth words next words
    opens_none none e = rw e (stops (λ q q' o. no_digit q none (of_opened q q' o).digit))

    pub opens_some : {s after : List ℕ} → (y ≡ 0 → ⊥) → IsRelation s → HoldsExactly s (Diagonal y) → Puts s words after
        → next ≡ record { taken = head.taken + 1; depth = depth; stopped = false } → Settled (OpenedRows r moves) Puts head depth words next after
    opens_some {s} {after} some is holds w e =
        let k = some_digit y some in
        rw e (goes_on s after is (exactly holds opened_of of_opened) k.0 k.0 (opened_of k.0 k.0 (record { same = refl; digit = k.1 })) w)

-- The rows of a block that is ready, by a count that is the table's.
pub ready_states : (t : Table) (words : List ℕ) {depth n : ℕ} → Ready t words depth → state_count t ≤ 64 → n ≡ state_count t
    → (d : ℕ) → d ≤ depth → RowsBelow n (rows_in words d)
ready_states t words ready small e d l = rw e (ready_below t words ready small d l)

-- As many words written from the same place.
pub written_at : {p q m n : ℕ} {f : ℕ → ℕ} {before after : List ℕ} → p ≡ q → m ≡ n → Written p m f before after → Written q n f before after
written_at e g w = rw (← e, ← g) w

-- A letter word and then the rows after it.
pub written_block : {p a : ℕ} (r : List ℕ) {words after : List ℕ} → p < length words → Written (p + 1) 64 (λ j. get_or r j 0) (set words p a) after
    → Written p 65 (λ j. get_or (a ∷ r) j 0) words after
written_block {p} {a} r {words} {after} l w = record {
  long = w.long ∙ length-set words p a;
  inside = inside;
  outside = outside;
}
  where
    inside : (j : ℕ) → j < 65 → get_or after (p + j) 0 ≡ get_or (a ∷ r) j 0
    inside zero m = let e : p + 0 ≡ p = omega arith in rw e (w.outside p (inl (omega arith)) ∙ get_or-set_same words p a 0 l)
    inside (suc j) m = let e : p + suc j ≡ p + 1 + j = omega arith in rw e (w.inside j (omega arith))

    outside : (i : ℕ) → (i < p) ⊎ (p + 65 ≤ i) → get_or after i 0 ≡ get_or words i 0
    outside i (inl m) = w.outside i (inl (omega arith)) ∙ get_or-set_other words p i a 0 (omega arith)
    outside i (inr m) = w.outside i (inr (omega arith)) ∙ get_or-set_other words p i a 0 (omega arith)

-- What a close joins are the rows of the two blocks, by the letter of the upper one.
pub closed_rows : (t : Table) (words : List ℕ) {d a b : ℕ} {below inside r : List ℕ} → 0 < d → below ≡ rows_in words (d - 1) → a ≡ letter_in words d → inside ≡ rows_in words d
    → HoldsExactly r (Joined (automaton t) (Holds below) a (Holds inside) b) → HoldsExactly r (ClosedRows t words d b)
closed_rows t words deep under letter over h = exactly (rw (under, letter, over) at h) (λ j k w. record { deep = deep; joined = w }) (λ j k w. w.joined)
