use Rattle.lengths.proofs.Links.new.Goals as goal

pub invariant_of-result : goal.invariant_of-result
invariant_of-result c = record { by_from = c.requires.0; by_to = c.requires.1 }
