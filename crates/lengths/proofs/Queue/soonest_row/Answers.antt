use Rattle.std.proofs.Common.{not, eqb, get_or, arith, rules}
use borrow.Author.Tests.{tests, eqb-true, not-false}
use Rattle.std.proofs.lemmas.Iterator.{YieldsList-from_range}
use Rattle.std.proofs.lemmas.Iterator.Consumers.{YieldsList-from_filter}
use Rattle.lengths.proofs.Rows.{nothing_left, none_passes}
use Rattle.lengths.proofs.Queue.soonest_row.Goals as goal

pub returns-clause-none : goal.returns-clause-none
returns-clause-none c = λ e p l.
    let none =
    nothing_left (rw e at c.min_by_key.ensures.ran)
    (YieldsList-from_filter _ (λ p. not (eqb (get_or c.args.self.now.due p 0) 0)) (YieldsList-from_range 0 c.args.states c.args.states c.filter.ensures.source (omega arith)) c.filter.ensures.closure (λ x b q k. search (rules, tests))) in
    eqb-true _ 0 (not-false _ (none_passes _ _ none p l))
