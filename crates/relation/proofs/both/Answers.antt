use Rattle.std.proofs.Common.{rules, bit_and, get_or}
use Rattle.vpa.proofs.FromFn.{made_by}
use Rattle.relation.proofs.Owned.{owned}
use Rattle.relation.proofs.Relations.{held_by_rows, holds_inside, both_row}
use Rattle.relation.proofs.both.Goals as goal

pub returns : goal.returns
returns c =
    let row = made_by (λ j. bit_and (get_or c.args.r j 0) (get_or c.args.s j 0)) (λ i y q k. search rules) c.from_fn.ensures.items 0 in
    held_by_rows c.from_fn.ensures.items.long (λ j k h. (holds_inside (owned _ _ c.well_formed.0) h.first).0)
    (λ j k l. rw (row j l) (both_row c.args.r c.args.s j k))
