-- Both bits by where the level begins and ends, or neither.
use Rattle.trim.proofs.Written.{byte_atop, byte_inside}
use Rattle.trim.proofs.state_byte.Goals as goal

pub returns-then-is_initial-is_final : goal.returns-then-is_initial-is_final
returns-then-is_initial-is_final c =
    byte_atop _ _ _ _ c.is_initial.ensures c.is_final.ensures c.if-is_initial-is_final.true c.from.ensures c.from-then-is_initial-is_final.ensures

pub returns-else-is_initial-is_final : goal.returns-else-is_initial-is_final
returns-else-is_initial-is_final c = byte_inside _ _ _ _ c.is_initial.ensures c.is_final.ensures c.if-is_initial-is_final.false
