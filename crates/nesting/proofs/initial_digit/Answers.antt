use Rattle.std.proofs.Common.{T, refl, sym, subst, ◌∙◌}
use Rattle.relation.proofs.Relations.{no_digit, one_digit}
use Rattle.nesting.proofs.initial_digit.Goals as goal

pub returns-then-is_initial : goal.returns-then-is_initial
returns-then-is_initial c k =
    let initial = subst T (sym (c.is_initial.ensures ∙ c.if-is_initial.true)) tt in
    (λ e. let o = (one_digit c.requires k).0 e in (o, rw o initial), λ w. (one_digit c.requires k).1 w.0)

pub returns-else-is_initial : goal.returns-else-is_initial
returns-else-is_initial c k =
    (λ e. absurd (no_digit k refl e), λ w. absurd (subst T (c.is_initial.ensures ∙ c.if-is_initial.false) (rw w.0 at w.1)))
