use Rattle.std.proofs.Common.{sym, ◌∙◌}
use Rattle.table.proofs.CallLaws.{when_good, on_good}
use Rattle.capture.proofs.answers.too_short.Goals as goal

pub returns-in-Ok : goal.returns-in-Ok
returns-in-Ok c = c.refused.ensures ∙ sym (on_good _ _ (λ k. k) (when_good _ _ c.in-Ok.ensures).good)
