use Rattle.std.proofs.Common.{◌≡◌, ◌≤◌, ◌⊎◌, min, ℕ, arith}
use Rattle.lengths.proofs.LowerOne.{lower_one, lower_stays}
use Rattle.lengths.proofs.lower.Goals as goal

counted : {v c : ℕ} → c ≡ min v 4097 → (c ≤ v) × ((c ≤ 4097) × ((c ≡ v) ⊎ (c ≡ 4097)))
counted e = grind arith

pub returns-then-counted-length_at : goal.returns-then-counted-length_at
returns-then-counted-length_at c = lower_one (omega arith) (omega arith) (counted c.min-counted.ensures) (omega arith) (omega (arith, c.length_at.ensures.0)) c.note.ensures

pub returns-else-counted-length_at : goal.returns-else-counted-length_at
returns-else-counted-length_at c = lower_stays (omega arith) (omega arith) (counted c.min-counted.ensures) (omega (arith, c.length_at.ensures.0))
