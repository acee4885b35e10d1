use Rattle.capture.proofs.Values.{write_count, written_small}
use Rattle.capture.proofs.nomyugereka_write.Goals as goal

pub written-requires : goal.written-requires
written-requires c = written_small c.write.result c.write.ensures.result_value (λ n. write_count c.args.table.now c.args.out.now)
