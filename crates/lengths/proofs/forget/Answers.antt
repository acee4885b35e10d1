use Rattle.lengths.proofs.LowerOne.{forgotten}
use Rattle.lengths.proofs.forget.Goals as goal

pub returns : goal.returns
returns c = forgotten c.args.scratch.now c.requires (c.fill.ensures.after (λ y e. e))
