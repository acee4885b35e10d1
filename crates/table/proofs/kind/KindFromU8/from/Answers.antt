use Prim.Native.Nat.{ℕ, zero, suc}
use native.Mathlib.Omega.{arith}
use mathlib.Core.Path.{◌≡◌, refl}
use Rattle.vpa.specs.Automaton.{closing}
use Rattle.vpa.specs.TableOnDisk.{kind_numbered}
use Rattle.table.proofs.kind.KindFromU8.from.Goals as goal

pub returns-in-0 : goal.returns-in-0
unfolding kind_numbered
returns-in-0 c = rw c.in-0.is

pub returns-in-1 : goal.returns-in-1
unfolding kind_numbered
returns-in-1 c = rw c.in-1.is

closing_kind : (number : ℕ) → (number ≡ 0 → ⊥) → (number ≡ 1 → ⊥) → kind_numbered number ≡ closing
unfolding kind_numbered
closing_kind zero a b = absurd (a refl)
closing_kind (suc zero) a b = absurd (b refl)
closing_kind (suc (suc n)) a b = refl

pub returns-in_default : goal.returns-in_default
returns-in_default c = grind (arith, closing_kind)
