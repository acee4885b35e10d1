use Rattle.std.proofs.Common.{rules, arith, refl, true, false, ◌≡◌}
use Rattle.std.proofs.lemmas.Iterator.{cases_from_all, YieldsList-from_range}
use Rattle.table.specs.Meaning.{meant}
use Rattle.reader.specs.Refusals.{block?}
use Rattle.reader.proofs.Ranges.{all_of_range}
use Rattle.reader.proofs.Memory.are_blocks.Goals as goal

pub returns : goal.returns
returns c =
    let tested = block? (meant c.args.self.table.now) c.args.self.state.now in
    all_of_range tested c.args.depth _
    (cases_from_all _ _ _ (λ d. tested d ≡ true) (λ d. tested d ≡ false) c.all.ensures.ran (YieldsList-from_range 0 c.args.depth c.args.depth refl (omega arith))
    (λ d q k. search rules) (λ d q k. search rules))
