-- The bytes that were written are the table's.
use Rattle.std.proofs.Common.{arith, rules, ◌≡◌}
use Rattle.std.proofs.Math.Seq.{ext_get_or}
use Rattle.std.proofs.lemmas.List.{length-take}
use Rattle.std.specs.Prelude.{length}
use Rattle.table.proofs.write.Goals as goal

pub returns-then-not-has_room-clause-result_value : goal.returns-then-not-has_room-clause-result_value
returns-then-not-has_room-clause-result_value c = search rules

pub loop-i-preserved : goal.loop-i-preserved
loop-i-preserved c = search rules

pub returns-clause-out_after : goal.returns-clause-out_after
returns-clause-out_after c =
    let n = length-take (length c.args.table.now) c.args.out.now in
    let e : c.loop-i.byte-items ≡ c.args.table.now =
    ext_get_or 0 _ _ (omega (arith, n)) (λ k l. c.loop-i.invariant k (omega (arith, n))) in
    rw e (search rules)
