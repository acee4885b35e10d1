use Rattle.std.proofs.Common.{arith}
use Rattle.pair_sets.proofs.Accepting.{finished_iff}
use Rattle.pair_sets.proofs.is_accepting.Goals as goal

pub returns : goal.returns
returns c =
    let found = c.meets_final.ensures in
    let same = finished_iff (omega (arith, c.args.table.now.states)) c.from_initial.ensures in
    (λ e. same.0 (found.0 e), λ w. found.1 (same.1 w))
