use Rattle.std.proofs.Common.{sym, arith, length-take-le}
use Rattle.nesting.proofs.Cleared.{scratch_size_lem, cleared_by}
use Rattle.nesting.proofs.clear.Goals as goal

pub slice_bounds-fill-end : goal.slice_bounds-fill-end
slice_bounds-fill-end c = omega (arith, scratch_size_lem, c.requires)

pub slice_bounds-fill-end-2 : goal.slice_bounds-fill-end-2
slice_bounds-fill-end-2 c = sym (length-take-le _ c.args.scratch.now (omega (arith, scratch_size_lem, c.requires)))

pub returns : goal.returns
returns c = cleared_by _ c.requires (c.fill.ensures.after (λ y e. e))
