use Rattle.std.proofs.Common.{arith, sym, ◌∙◌, ◌≡◌}
use Rattle.capture.specs.State.{bytes_of}
use Rattle.capture.proofs.Words.{eight_bytes, length_bytes, laid_copy}
use Rattle.capture.proofs.state.put_word.Goals as goal

pub returns : goal.returns
returns c =
    let written : c.copy_from_slice.new.self ≡ bytes_of 8 c.args.word = c.copy_from_slice.ensures.after ∙ c.to_le_bytes.ensures ∙ sym (eight_bytes c.args.word) in
    rw written (laid_copy (omega (arith, length_bytes 8 c.args.word)) (omega arith))
