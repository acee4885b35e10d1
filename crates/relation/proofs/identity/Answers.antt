use Rattle.std.proofs.Common.{rules, arith, cond, ltb, ◌*◌, ◌^◌, ◌%◌}
use Rattle.vpa.proofs.FromFn.{made_by}
use Rattle.relation.proofs.Relations.{held_by_rows, identity_rows}
use Rattle.relation.proofs.identity.Goals as goal

pub returns : goal.returns
returns c =
    let row = made_by (λ j. cond (ltb j c.args.n) 1 0 * 2 ^ j % 2 ^ 64) (λ i y q k. search rules) c.from_fn.ensures.items 0 in
    held_by_rows c.from_fn.ensures.items.long (λ j k h. omega (arith, h.low, c.requires)) (λ j k l. rw (row j l) (identity_rows c.args.n l k))
