use Prim.Native.Nat.{ℕ, ◌+◌, ◌-◌, ◌<◌, ◌≤◌}
use Rattle.std.specs.Prelude.{IsTrue, All}
use mathlib.Core.Bool.{Bool, true}
use mathlib.Core.List.{List}
use mathlib.Core.Logic.{◌↔◌}
use mathlib.Core.Path.{◌≡◌, sym, ◌∙◌}
use native.Mathlib.Omega.{arith}
use borrow.Author.Tests.{le-leb, leb-true}
use lib.ListN.{length, get_or}
use Rattle.table.specs.Bytes.{byte, part, all?}
use Rattle.table.specs.Layout.{kinds_place, states_place, letters_field, states_field}
use Rattle.table.specs.Refusals.{capped?, lists?}
use Rattle.table.proofs.All.{all_told}
use Rattle.table.proofs.Parts.{length_part, byte_in_part}
use Rattle.table.proofs.are_lists.Goals as goal

-- What is told of a part of the table is told of its bytes by their places.
part_told : (s : List ℕ) (place count most : ℕ) (b : Bool) → place + count ≤ length s → IsTrue b ↔ All (λ x. x ≤ most) (part s place count) → all? (capped? s place most) count ≡ b
unfolding capped?
part_told s place count most b l c = all_told (capped? s place most) (part s place count) 0 count (length_part s place count l) (λ x. x ≤ most) b at c
  where
    at : (k : ℕ) → k < count → (get_or (part s place count) k 0 ≤ most) ↔ (capped? s place most k ≡ true)
    at k m = let e = byte_in_part s place count k m in (λ h. le-leb _ _ (rw e at h), λ h. rw e (leb-true _ _ h))

-- What is told of a part of the table, by the places where it begins and ends.
between : (s : List ℕ) (place end count most : ℕ) (b : Bool) → end ≡ place + count → place + count ≤ length s → IsTrue b ↔ All (λ x. x ≤ most) (part s place (end - place))
    → all? (capped? s place most) count ≡ b
between s place end count most b e l c = let n : end - place ≡ count = omega (arith, e) in part_told s place count most b l (rw n at c)

pub returns-then-are_at_most : goal.returns-then-are_at_most
unfolding lists?
returns-then-are_at_most c =
    let s = c.args.table.now in
    let kinds = between s kinds_place (8 + c.number_at-place.result) (letters_field s) 2 c.are_at_most.result (omega arith) (omega arith) c.are_at_most.ensures in
    let e : 8 + c.number_at-place.result ≡ states_place s = omega arith in
    let states = between s (states_place s) c.moves_place.result (states_field s) 3 c.are_at_most-then-are_at_most.result (omega arith) (omega arith) (rw e at c.are_at_most-then-are_at_most.ensures) in
    rw (kinds ∙ c.if-are_at_most.true) states

pub returns-else-are_at_most : goal.returns-else-are_at_most
unfolding lists?
returns-else-are_at_most c =
    let s = c.args.table.now in
    let kinds = between s kinds_place (8 + c.number_at-place.result) (letters_field s) 2 c.are_at_most.result (omega arith) (omega arith) c.are_at_most.ensures in
    rw (kinds, c.if-are_at_most.false)
