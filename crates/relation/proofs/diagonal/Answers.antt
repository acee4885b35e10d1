use Rattle.std.proofs.Common.{rules, bit_and, ◌*◌, ◌^◌, ◌%◌}
use Rattle.relation.proofs.Digits.{bit_inside}
use Rattle.vpa.proofs.FromFn.{made_by}
use Rattle.relation.proofs.Relations.{held_by_rows, diagonal_row}
use Rattle.relation.proofs.diagonal.Goals as goal

pub returns : goal.returns
returns c =
    let row = made_by (λ j. bit_and c.args.x (1 * 2 ^ j % 2 ^ 64)) (λ i y q k. search rules) c.from_fn.ensures.items 0 in
    held_by_rows c.from_fn.ensures.items.long (λ j k h. bit_inside 64 _ j c.ranges.x.fits h.digit) (λ j k l. rw (row j l) (diagonal_row c.args.x l k))
