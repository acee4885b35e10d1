use Rattle.std.proofs.Common.{arith, refl}
use Rattle.reader.proofs.Numbers.{state_size_lem}
use Rattle.capture.proofs.on_words.Goals as goal

pub returns-then-state-lt-BYTES-clause-enough : goal.returns-then-state-lt-BYTES-clause-enough
returns-then-state-lt-BYTES-clause-enough g c = λ l. absurd (omega (arith, state_size_lem, c.if-state-lt-BYTES.true))

pub words_in-words-requires : goal.words_in-words-requires
words_in-words-requires g c = omega (arith, state_size_lem, c.if-state-lt-BYTES.false)

pub put-requires : goal.put-requires
put-requires g c = (omega (arith, state_size_lem, c.if-state-lt-BYTES.false), omega (arith, state_size_lem, c.call-heard.auto.arg2))

pub heard-requires : goal.heard-requires
heard-requires g c = c.requires.small _ _ _ (record { shown = _; shows = refl; left = _; met = c.call-heard.ensures; leaves = refl })

pub returns-clause-few : goal.returns-clause-few
returns-clause-few g c = λ l. absurd (omega (arith, state_size_lem, c.if-state-lt-BYTES.false))
