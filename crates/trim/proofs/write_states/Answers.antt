-- A byte more is that of its state, and all are laid down.
use Rattle.std.proofs.Common.{arith, sym, ◌∙◌, ◌≡◌}
use Rattle.std.proofs.Math.Seq.{ext_get_or}
use Rattle.vpa.specs.TrimComputed.{trim_table}
use Rattle.table.specs.Layout.{parse}
use Rattle.triples.proofs.Laying.{put_laid}
use Rattle.trim.proofs.Written.{one_more, byte_of, bytes_count, part_count}
use Rattle.trim.proofs.write_states.Goals as goal

pub loop-i-preserved : goal.loop-i-preserved
loop-i-preserved c =
    let n = part_count c.args.place c.args.states.count c.args.out.now c.requires.1 in
    one_more _ _ c.loop-i.invariant (omega arith) (sym (byte_of _ c.requires.0 (omega arith) ∙ c.state_byte.ensures))

pub returns : goal.returns
returns c =
    let n = part_count c.args.place c.args.states.count c.args.out.now c.requires.1 in
    let bytes = bytes_count _ c.requires.0 in
    let e : c.loop-i.byte-items ≡ (trim_table (parse c.args.table.now)).state_bytes =
    ext_get_or 0 _ _ (omega (arith, bytes)) (λ k l. c.loop-i.invariant k (omega arith)) in
    rw e (put_laid _ _ _ _ (omega (arith, bytes)) (omega (arith, c.requires.1)))
