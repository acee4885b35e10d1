use borrow.Author.Tests.{eqb-true, eqb-false}
use Rattle.relation.proofs.Relations.{no_digit}
use Rattle.relation.proofs.Walks.{some_digit}
use Rattle.relation.proofs.is_row_empty.Goals as goal

pub returns : goal.returns
returns c = record {
  none = λ e h. no_digit h.0 (eqb-true _ _ e) h.1.digit;
  some = λ e. let d = some_digit _ (eqb-false _ _ e) in (d.0, record { digit = d.1 });
}
