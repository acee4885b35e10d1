use Rattle.std.proofs.Common.{T, refl, subst, ◌∙◌}
use Rattle.relation.proofs.Relations.{no_digit}
use Rattle.nesting.proofs.if_final.Goals as goal

pub returns-else-is_final : goal.returns-else-is_final
returns-else-is_final c o = (λ e. absurd (no_digit o refl e), λ w. absurd (subst T (c.is_final.ensures ∙ c.if-is_final.false) w.1))
