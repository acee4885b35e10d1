-- Laws of lengths that are lowered: nothing done, and one lowering after the other.
use Prim.Native.Nat.{ℕ, ◌<◌, ◌≤◌}
use mathlib.Core.List.{List}
use mathlib.Core.Logic.{◌⊎◌, inl, inr, ⊎_elim}
use mathlib.Core.Path.{◌≡◌, refl, ◌∙◌}
use native.Mathlib.Omega.{arith}
use Rattle.relation.specs.Relations.{Holds}
use Rattle.nesting.proofs.Cleared.{kept_none, kept_then}
use Rattle.vpa.specs.Shortest.{AtMost}
use Rattle.lengths.specs.Limit.{most_shown, over}
use Rattle.lengths.specs.Steps.{length_in, Lowered}

pub over_is : over ≡ 4097
unfolding over most_shown
over_is = refl

pub some_over : 0 < over
some_over = omega (arith, over_is)

pub at_most_less : {x y v : ℕ} → AtMost over x v → y ≤ x → AtMost over y v
at_most_less a l = record { length = omega (arith, a.length); most = omega (arith, a.most) }

pub at_most_more : {x v w : ℕ} → AtMost over x v → v ≤ w → AtMost over x w
at_most_more a l = record { length = a.length; most = omega (arith, a.most) }

pub lowered_none : (s due : List ℕ) → Lowered s due s due
lowered_none s due = record { kept = kept_none 4096 s; less = λ p q l m. omega arith; told = λ p q l m. inl refl; stays = λ p q h. h; gained = λ p q l m h. inl h }

pub lowered_then : {s due s₁ due₁ s₂ due₂ : List ℕ} → Lowered s due s₁ due₁ → Lowered s₁ due₁ s₂ due₂ → Lowered s due s₂ due₂
lowered_then {s} {due} {s₁} {due₁} {s₂} {due₂} f g = record {
  kept = kept_then f.kept g.kept;
  less = λ p q l m. omega (arith, f.less p q l m, g.less p q l m);
  told = λ p q l m. ⊎_elim (λ e. ⊎_elim (λ d. inl (e ∙ d)) (λ h. inr (g.stays p q h)) (f.told p q l m)) inr (g.told p q l m);
  stays = λ p q h. g.stays p q (f.stays p q h);
  gained = λ p q l m h. both p q l m (g.gained p q l m h);
} where
  both : (p q : ℕ) → p < 64 → q < 64 → Holds due₁ p q ⊎ (length_in s₂ p q < length_in s₁ p q) → Holds due p q ⊎ (length_in s₂ p q < length_in s p q)
  both p q l m (inl h) = ⊎_elim inl (λ (k : length_in s₁ p q < length_in s p q). inr (omega (arith, g.less p q l m))) (f.gained p q l m h)
  both p q l m (inr k) = inr (omega (arith, f.less p q l m))
