use Rattle.std.proofs.Common.{rules, bit_or, slice_range, ◌≡◌}
use Rattle.std.specs.List.{fold}
use Rattle.relation.proofs.Walks.{gathered_range}
use Rattle.relation.proofs.together.Goals as goal

pub returns : goal.returns
returns c =
    let all : c.fold.result ≡ fold bit_or 0 (slice_range c.args.words.now c.args.from c.args.to) = search rules in
    rw all (gathered_range c.args.words.now c.requires.0 c.requires.1)
