use Rattle.capture.proofs.Values.{trim_count, written_small}
use Rattle.capture.proofs.nomyugereka_trim.Goals as goal

pub written-requires : goal.written-requires
written-requires c = written_small c.trim.result c.trim.ensures.result_value (λ n. trim_count c.args.table.now c.args.scratch.now c.args.out.now)
