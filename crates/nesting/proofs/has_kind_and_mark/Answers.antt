use mathlib.Core.Path.{◌≡◌, sym, ◌∙◌}
use borrow.Author.Tests.{ne_eqb}
use Rattle.nesting.proofs.MovesFound.{mark_same, mark_other}
use Rattle.nesting.proofs.has_kind_and_mark.Goals as goal

pub returns-then-is_marked : goal.returns-then-is_marked
returns-then-is_marked c =
    let a = c.args in
    let marked : a.with ≡ a.mark = sym c.from.ensures ∙ c.if-is_marked.true in
    mark_same a.table.now a.letter _ marked (rw (← c.from-then-is_marked.ensures) c.is_of_kind.ensures)

pub returns-else-is_marked : goal.returns-else-is_marked
returns-else-is_marked c =
    mark_other c.args.table.now c.args.letter _ (λ e. c.if-is_marked.false (c.from.ensures ∙ e)) ∙ sym (ne_eqb _ _ c.if-is_marked.false)
