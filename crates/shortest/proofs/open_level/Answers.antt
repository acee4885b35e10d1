use Rattle.std.proofs.Common.{◌∙◌}
use Rattle.lengths.proofs.Moves.{move_bytes}
use Rattle.shortest.proofs.Finding.{opened}
use Rattle.shortest.proofs.open_level.Goals as goal

pub returns : goal.returns
returns c =
    let n = c.nest_of-nest.ensures in
    let bytes = move_bytes c.moves.ensures c.as_chunks.ensures.front c.as_chunks.ensures.front_len in
    let opens = bytes c.nest_of-nest.result.opens (rw (c.as_chunks.ensures.front_len, c.moves.ensures) n.opener.low) in
    let closes = bytes c.nest_of-nest.result.closes (rw (c.as_chunks.ensures.front_len, c.moves.ensures) n.closer.low) in
    opened opens.letter (c.from.ensures ∙ closes.letter) (c.from-2.ensures ∙ opens.to) (c.from-3.ensures ∙ closes.from) n
