use Rattle.std.proofs.Common.{rules, arith, count_ones, sym, ◌∙◌}
use Rattle.std.proofs.lemmas.Iterator.{YieldsList-from_slice, YieldsList-from_map}
use Rattle.std.proofs.lemmas.Iterator.Consumers.{fits_by_from_yields_list, sum_by_from_yields_List}
use Rattle.relation.proofs.Owned.{owned}
use Rattle.relation.proofs.Relations.{size_most}
use Rattle.relation.proofs.Walks.{size_sum}
use Rattle.relation.proofs.size.Goals as goal

pub sum-requires-clause-fits : goal.sum-requires-clause-fits
sum-requires-clause-fits c =
    fits_by_from_yields_list count_ones c.args.r _ _ (YieldsList-from_map _ count_ones (YieldsList-from_slice c.args.r cc) c.map.ensures.closure (λ x r q k. search rules))
    (omega (arith, size_sum (owned _ _ c.well_formed.0), size_most c.args.r))

pub returns : goal.returns
returns c =
    size_sum (owned _ _ c.well_formed.0)
    ∙ sym (sum_by_from_yields_List count_ones c.args.r _ _ c.sum.ensures.ran (YieldsList-from_map _ count_ones (YieldsList-from_slice c.args.r cc) c.map.ensures.closure (λ x r q k. search rules)))
