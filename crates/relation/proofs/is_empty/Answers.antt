use borrow.Author.Tests.{eqb-true, eqb-false}
use Rattle.relation.proofs.Relations.{no_digit}
use Rattle.relation.proofs.Walks.{some_digit}
use Rattle.relation.proofs.is_empty.Goals as goal

pub returns : goal.returns
returns c = let h = c.second_halves.ensures in record {
  none = λ e p. no_digit p.1 (eqb-true _ _ e) ((h.at p.1).1 (record { first = p.0; held = p.2 }));
  some = λ e. let k = some_digit _ (eqb-false _ _ e) in let w = (h.at k.0).0 k.1 in (w.first, k.0, w.held);
}
