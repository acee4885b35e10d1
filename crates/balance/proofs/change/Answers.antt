use Rattle.std.proofs.Common.{◌≡◌, sym, ap, ◌∙◌}
use Rattle.std.specs.Prelude.{Some}
use Rattle.vpa.specs.Balance.{change}
use Rattle.vpa.specs.TableOnDisk.{kind_in}
use Rattle.table.specs.declared.kind.Kind.{Kind}
use Rattle.table.specs.Answers.{kind_as, kind_meant}
use Rattle.table.specs.Layout.{parse}
use Rattle.table.proofs.CallLaws.{told_kind, told_plain}
use Rattle.balance.proofs.change.Goals.{After-kind_at}
use Rattle.balance.proofs.change.Goals as goal

-- The kind that was told, as what is answered.
told : (c : After-kind_at) {k : Kind} → c.kind_at.result ≡ Some k → change (kind_meant k) ≡ change (kind_in (parse c.args.table.now) c.args.letter)
told c e = sym (ap change (told_kind _ _ (sym (ap kind_as e) ∙ c.kind_at.ensures)))

pub returns-in-Some-Plain : goal.returns-in-Some-Plain
unfolding change
returns-in-Some-Plain c = told (goal.at.returns-in-Some-Plain c).After-kind_at (c.in-Some-Plain.is ∙ ap Some c.in-Some-Plain.field-0-is)

pub returns-in-Some-Open : goal.returns-in-Some-Open
unfolding change
returns-in-Some-Open c = told (goal.at.returns-in-Some-Open c).After-kind_at (c.in-Some-Open.is ∙ ap Some c.in-Some-Open.field-0-is)

pub returns-in-Some-Close : goal.returns-in-Some-Close
unfolding change
returns-in-Some-Close c = told (goal.at.returns-in-Some-Close c).After-kind_at (c.in-Some-Close.is ∙ ap Some c.in-Some-Close.field-0-is)

pub returns-in-None : goal.returns-in-None
unfolding change
returns-in-None c = sym (ap change (told_plain _ _ (sym (ap kind_as c.in-None.is) ∙ c.kind_at.ensures)))
