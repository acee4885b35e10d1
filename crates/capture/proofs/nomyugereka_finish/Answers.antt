use Rattle.std.proofs.Common.{arith, ap}
use Rattle.table.proofs.Logs.{longest_log_lem}
use Rattle.reader.specs.Calls.{finish_call}
use Rattle.reader.proofs.Numbers.{state_size_lem}
use Rattle.capture.specs.Steps.{value_of}
use Rattle.capture.proofs.Exported.{few_answer, enough_answer}
use Rattle.capture.proofs.Values.{finish_value}
use Rattle.capture.proofs.nomyugereka_finish.Goals as goal

pub returns-then-state-lt-BYTES : goal.returns-then-state-lt-BYTES
returns-then-state-lt-BYTES c =
    let args = c.args in
    few_answer args.table.now args.state.now (finish_call args.table.now) (omega (arith, state_size_lem, c.if-state-lt-BYTES.true)) c.too_short.ensures

pub words_in-words-requires : goal.words_in-words-requires
words_in-words-requires c = omega (arith, state_size_lem, c.if-state-lt-BYTES.false)

pub heard-requires : goal.heard-requires
heard-requires c = omega (arith, ap value_of c.finish.ensures, longest_log_lem, finish_value c.args.table.now c.words_in-words.result)

pub returns : goal.returns
returns c =
    let args = c.args in
    enough_answer args.table.now args.state.now (finish_call args.table.now) (omega (arith, state_size_lem, c.if-state-lt-BYTES.false)) c.words_in-words.ensures c.finish.ensures c.heard.ensures
