use Rattle.std.proofs.Common.{rules, ◌≡◌}
use Rattle.reader.specs.Calls.{begin_call}
use Rattle.capture.specs.Calls.{exported_begin}
use Rattle.capture.proofs.Exported.{on_words_small, on_words_told}
use Rattle.capture.proofs.Values.{begin_value}
use Rattle.capture.proofs.nomyugereka_begin.Goals.{After-on_words}
use Rattle.capture.proofs.nomyugereka_begin.Goals as goal

pub on_words-requires-clause-small : goal.on_words-requires-clause-small
on_words-requires-clause-small c = on_words_small (λ words. begin_call c.args.table.now words) (begin_value c.args.table.now) (λ words left heard called. search (rules, called))

told : (c : After-on_words) → (c.on_words.result ≡ (exported_begin c.args.table.now c.args.state.now).number) × (c.on_words.new.state ≡ (exported_begin c.args.table.now c.args.state.now).bytes)
told c =
    let args = c.args in
    on_words_told _ _ (λ words. begin_call args.table.now words) (λ words left heard called. (search (rules, called), search (rules, called))) c.on_words.ensures.few c.on_words.ensures.enough

pub returns-clause-value : goal.returns-clause-value
returns-clause-value c = (told (goal.at.returns-clause-value c).After-on_words).0

pub returns-clause-state_after : goal.returns-clause-state_after
returns-clause-state_after c = (told (goal.at.returns-clause-state_after c).After-on_words).1
