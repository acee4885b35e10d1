use Rattle.std.proofs.Common.{arith, sym, ap, ◌∙◌, ◌≡◌}
use Rattle.table.specs.Refusals.{verdict}
use Rattle.table.proofs.Logs.{longest_log_lem}
use Rattle.balance.proofs.CallLaws.{of_long_log, of_letters}
use Rattle.balance.proofs.balance.Goals.{In_ok-table}
use Rattle.balance.proofs.balance.Goals as goal

-- What was checked is what was given, and good.
same : (c : In_ok-table) → c.in_ok-table.table.bytes.now ≡ c.args.table.now
same c = ap (λ b. b.now) c.in_ok-table.ensures.same_bytes

good : (c : In_ok-table) → verdict c.args.table.now ≡ 0
good c = rw (same c) at c.in_ok-table.table.good

pub returns-then-is_too_long : goal.returns-then-is_too_long
returns-then-is_too_long c =
    sym (of_long_log _ c.args.log.now (good (goal.at.returns-then-is_too_long c).In_ok-table) (omega (arith, longest_log_lem, c.if-is_too_long.true)))

pub weigh-requires : goal.weigh-requires
weigh-requires c = omega (arith, longest_log_lem, c.if-is_too_long.false)

pub returns : goal.returns
returns c =
    let from = (goal.at.returns c).In_ok-table in
    rw (← same from) (c.weigh.ensures ∙ sym (of_letters _ c.args.log.now c.in_ok-table.table.good (omega (arith, longest_log_lem, c.if-is_too_long.false))))
