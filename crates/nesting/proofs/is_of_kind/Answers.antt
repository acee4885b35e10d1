use Rattle.std.specs.Prelude.{◌≡◌, Option, Some, None}
use Rattle.std.specs.Option.{option_eq}
use mathlib.Core.Path.{refl, sym, ap, ◌∙◌}
use Rattle.vpa.specs.TableOnDisk.{is_kind?}
use Rattle.table.specs.contracts.kind.KindPartialEq.TheImpl as compared
use Rattle.table.specs.declared.kind.Kind.{Kind}
use Rattle.table.specs.declared.kind.Kind.TheVariants.{Plain, Open, Close}
use Rattle.table.specs.Answers.{kind_as, kind_meant}
use Rattle.nesting.specs.Steps.{of_kind?}
use Rattle.nesting.proofs.is_of_kind.Goals as goal

-- Kinds are the same exactly if what they mean is.
same_kind : (answer : Option Kind) (k : Kind) → of_kind? (kind_as answer) (kind_meant k) ≡ option_eq compared.eq-value.it answer (Some k)
unfolding of_kind? is_kind?
same_kind None k = refl
same_kind (Some Plain) Plain = refl
same_kind (Some Plain) Open = refl
same_kind (Some Plain) Close = refl
same_kind (Some Open) Plain = refl
same_kind (Some Open) Open = refl
same_kind (Some Open) Close = refl
same_kind (Some Close) Plain = refl
same_kind (Some Close) Open = refl
same_kind (Some Close) Close = refl

pub returns : goal.returns
returns c = ap (λ kind. of_kind? kind (kind_meant c.args.kind)) (sym c.kind_at.ensures) ∙ same_kind c.kind_at.result c.args.kind ∙ sym c.eq.ensures
