-- Each byte counts as the definition says. (Found without this file, too; but where a byte counts otherwise, this says so.)
use Rattle.std.proofs.Common.{rules, arith, ℕ, ◌+◌, ◌<◌, ◌≡◌, ◌∙◌, [], get_or}
use Rattle.std.proofs.lemmas.List.{places}
use Rattle.table.specs.Bytes.{byte}
use Rattle.table.proofs.Quads.{piece_byte}
use Rattle.capture.proofs.state.word_at.Goals as goal

pub returns : goal.returns
returns c =
    let at : (j : ℕ) → j < 8 → get_or (get_or c.as_chunks.result.0.now 0 []) j 0 ≡ byte c.args.bytes.now (c.args.place + j) = λ j l.
    rw c.as_chunks.ensures.front (piece_byte 8 _ _ 0 j [] (omega arith) l ∙ search (rules, places)) in
    search (rules, at 0 (omega arith), at 1 (omega arith), at 2 (omega arith), at 3 (omega arith), at 4 (omega arith), at 5 (omega arith), at 6 (omega arith), at 7 (omega arith))
