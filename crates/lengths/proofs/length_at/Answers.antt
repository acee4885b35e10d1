use Rattle.std.proofs.Common.{arith, ◌*◌, ◌+◌, ◌∙◌, sym}
use Rattle.lengths.proofs.LowerOne.{length_in_lem}
use Rattle.lengths.proofs.length_at.Goals as goal

pub returns : goal.returns
returns c = (length_in_lem _ _ _ (omega arith) (omega arith) ∙ sym c.from.ensures, omega (arith, c.from.ensures, c.type_inv.scratch (64 * c.args.p + c.args.q)))
