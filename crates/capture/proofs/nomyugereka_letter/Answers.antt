use Rattle.std.proofs.Common.{rules, ◌≡◌}
use Rattle.reader.specs.Calls.{letter_call}
use Rattle.capture.specs.Calls.{exported_letter}
use Rattle.capture.proofs.Exported.{on_words_small, on_words_told}
use Rattle.capture.proofs.Values.{letter_value}
use Rattle.capture.proofs.nomyugereka_letter.Goals.{After-on_words}
use Rattle.capture.proofs.nomyugereka_letter.Goals as goal

pub on_words-requires-clause-small : goal.on_words-requires-clause-small
on_words-requires-clause-small c = on_words_small (λ words. letter_call c.args.table.now words c.args.letter) (λ words. letter_value c.args.table.now words c.args.letter) (λ words left heard called. search (rules, called))

told : (c : After-on_words) → (c.on_words.result ≡ (exported_letter c.args.table.now c.args.state.now c.args.letter).number) × (c.on_words.new.state ≡ (exported_letter c.args.table.now c.args.state.now c.args.letter).bytes)
told c =
    let args = c.args in
    on_words_told _ _ (λ words. letter_call args.table.now words args.letter) (λ words left heard called. (search (rules, called), search (rules, called))) c.on_words.ensures.few c.on_words.ensures.enough

pub returns-clause-value : goal.returns-clause-value
returns-clause-value c = (told (goal.at.returns-clause-value c).After-on_words).0

pub returns-clause-state_after : goal.returns-clause-state_after
returns-clause-state_after c = (told (goal.at.returns-clause-state_after c).After-on_words).1
