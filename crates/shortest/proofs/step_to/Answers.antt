use Rattle.lengths.proofs.Moves.{move_bytes}
use Rattle.shortest.proofs.Finding.{stepped}
use Rattle.shortest.proofs.step_to.Goals as goal

pub returns-clause-wrote_plain : goal.returns-clause-wrote_plain
returns-clause-wrote_plain c =
    let found = rw c.unwrap-k.ensures at c.find_plain.ensures in
    let w = move_bytes c.moves.ensures c.as_chunks.ensures.front c.as_chunks.ensures.front_len c.unwrap-k.result (rw (c.as_chunks.ensures.front_len, c.moves.ensures) found.low) in
    stepped w.letter found
