-- The ladder in the two stages in which the code climbs it.
use Prim.Native.Nat.{ℕ, ◌+◌, ◌*◌}
use mathlib.Core.Bool.{Bool, true, false}
use mathlib.Core.List.{List}
use mathlib.Core.Path.{◌≡◌, refl, sym, ◌∙◌}
use native.Mathlib.Omega.{arith}
use lib.ListN.{length}
use Rattle.table.specs.Layout.{moves_field, moves_place}
use Rattle.table.specs.Refusals.{whole?, version?, small?, sized?, lists?, moves?, rung, head_rungs, verdict}
use Rattle.table.proofs.Passes.{whole_facts, sized_facts, head_passed}

-- A number that comes from a rung, or from those after it, does not hang on what stands at the end of the ladder.
stays : (ok : Bool) (k : ℕ) {a b : ℕ} → ((a ≡ 0 → ⊥) → b ≡ a) → (rung ok k a ≡ 0 → ⊥) → rung ok k b ≡ rung ok k a
stays true k h n = h n
stays false k h n = refl

pub refused_by_head : (s : List ℕ) {number : ℕ} → head_rungs s 0 ≡ number → (number ≡ 0 → ⊥) → verdict s ≡ number
unfolding head_rungs verdict
refused_by_head s e n =
    stays (whole? s) 1 (stays (version? s) 2 (stays (small? s) 3 (stays (sized? s) 4 (λ z. absurd (z refl))))) (λ z. n (sym e ∙ z)) ∙ e

module _ (s : List ℕ) (good : head_rungs s 0 ≡ 0) where
  pub size_after_head : length s ≡ moves_place s + 4 * moves_field s
  size_after_head = let h = head_passed s 0 good in omega (arith, whole_facts s h.0, sized_facts s h.3)

  pub verdict_after_head : verdict s ≡ rung (lists? s) 5 (rung (moves? s) 6 0)
  unfolding head_rungs verdict
  verdict_after_head = let h = head_passed s 0 good in rw (h.0, h.1, h.2, h.3)
