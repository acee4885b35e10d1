use Rattle.std.proofs.Common.{rules}
use Rattle.std.proofs.lemmas.Iterator.Consumers.{YieldsList-from_first}
use Rattle.std.proofs.lemmas.Iterator.Search.{any_from_yields_List}
use Rattle.vpa.specs.TableOnDisk.{final?}
use Rattle.table.specs.Meaning.{meant}
use Rattle.relation.specs.Digits.{ones_of}
use Rattle.pair_sets.proofs.Accepting.{final_iff}
use Rattle.pair_sets.proofs.meets_final.Goals as goal

pub returns : goal.returns
returns c =
    let found =
    any_from_yields_List (final? (meant c.args.table.now)) _ _ _ c.any.ensures.ran
    (YieldsList-from_first (λ x. x) (λ s. ones_of s.0) (ones_of c.args.x) c.ones_of.ensures) (λ x b q k. search rules) in
    rw found (final_iff c.ranges.x.fits)
