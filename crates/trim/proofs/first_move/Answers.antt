-- The moves before the place that is found are those before the key.
use Rattle.std.proofs.Common.{rules, ltb}
use Rattle.std.proofs.lemmas.List.Sorted.{IsPartitionPoint-from_clause}
use Rattle.table.specs.Bytes.{word}
use Rattle.trim.proofs.Blocks.{keys_rise, cut_found}
use Rattle.trim.proofs.first_move.Goals as goal

pub returns : goal.returns
returns c =
    let e = c.as_chunks.ensures in
    cut_found c.args.part.now e.front e.front_len c.partition_point.ensures.bound
    (IsPartitionPoint-from_clause (λ m. ltb (word m 0) c.args.key) _ _ c.partition_point.ensures.partitioned (keys_rise c.args.part.now e.front e.front_len c.requires c.args.key) (λ a r q k. search rules))
