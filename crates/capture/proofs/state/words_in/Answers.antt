use Rattle.std.proofs.Common.{rules, ◌*◌}
use Rattle.std.proofs.iter.Serving.{serving}
use Rattle.vpa.proofs.FromFn.{made_by}
use Rattle.reader.proofs.Numbers.{state_size_lem}
use Rattle.capture.specs.State.{word_at}
use Rattle.capture.proofs.Words.{made_words}
use Rattle.capture.proofs.state.words_in.Goals as goal

pub from_fn-requires : goal.from_fn-requires
from_fn-requires c = grind (serving, state_size_lem)

pub returns : goal.returns
returns c =
    let items = c.from_fn.ensures.items in
    rw state_size_lem (made_words _ items.long (made_by (λ i. word_at c.args.bytes.now (8 * i)) (λ i y q k. search rules) items 0))
