use Rattle.std.proofs.Common.{arith, ap, ◌∙◌, ◌≡◌}
use Rattle.vpa.specs.Automaton.{opening}
use Rattle.vpa.specs.TableOnDisk.{kind_in}
use Rattle.table.specs.Answers.{kind_meant}
use Rattle.table.specs.Meaning.{meant}
use Rattle.table.proofs.CallLaws.{told_kind, told_none}
use Rattle.table.proofs.Tables.{good_table, good_storable}
use Rattle.table.proofs.CheckedCounts.{few_states}
use Rattle.reader.proofs.StepParts.{ready_states}
use Rattle.reader.proofs.Settling.{plain_step, open_step, close_step}
use Rattle.reader.proofs.Verdicts.{takes}
use Rattle.reader.proofs.step.Goals as goal

pub plain-requires-clause-states_bound : goal.plain-requires-clause-states_bound
plain-requires-clause-states_bound c =
    let p = c.requires in
    let w = takes _ _ _ _ p.ready.1.1 in
    (few_states c.args.moves.table.now, (p.ready.0.low, w.more))

pub plain-requires-clause-state_size_in_bounds : goal.plain-requires-clause-state_size_in_bounds
plain-requires-clause-state_size_in_bounds c =
    let p = c.requires in
    (p.ready.0.long, (ready_states _ _ p.ready.0 (good_storable _ c.args.moves.table.now.good).states c.args.moves.table.now.states _ (omega arith), c.rows_of.ensures.1))

pub open-requires-clause-states_bound : goal.open-requires-clause-states_bound
open-requires-clause-states_bound c =
    let p = c.requires in
    let w = takes _ _ _ _ p.ready.1.1 in
    (few_states c.args.moves.table.now, (w.low (told_kind _ _ c.in-Some-Open.ensures ∙ ap kind_meant c.in-Some-Open.field-0-is), w.more))

pub open-requires-clause-state_size_in_bounds : goal.open-requires-clause-state_size_in_bounds
open-requires-clause-state_size_in_bounds c =
    let p = c.requires in
    (p.ready.0.long, (ready_states _ _ p.ready.0 (good_storable _ c.args.moves.table.now.good).states c.args.moves.table.now.states _ (omega arith), c.rows_of-in-Some-Open.ensures.1))

pub close-requires : goal.close-requires
close-requires c =
    let p = c.requires in
    (p.ready.0, (told_kind _ _ c.in-Some-Close.ensures ∙ ap kind_meant c.in-Some-Close.field-0-is, (takes _ _ _ _ p.ready.1.1).more))

pub returns-in-Some-Plain : goal.returns-in-Some-Plain
returns-in-Some-Plain c =
    let p = c.requires in
    let w = takes _ _ _ _ p.ready.1.1 in
    let few = good_storable _ c.args.moves.table.now.good in
    plain_step _ (good_table _ c.args.moves.table.now.good) few.states _ _ p.ready.0 p.ready.1.0 p.by_letter (omega (arith, w.own, few.letters)) (told_kind _ _ c.in-Some-Plain.ensures ∙ ap kind_meant c.in-Some-Plain.field-0-is) (rw c.rows_of.ensures.0 at c.plain.ensures)

pub returns-in-Some-Open : goal.returns-in-Some-Open
returns-in-Some-Open c =
    let p = c.requires in
    let w = takes _ _ _ _ p.ready.1.1 in
    let few = good_storable _ c.args.moves.table.now.good in
    let opens : kind_in (meant c.args.moves.table.now) c.args.letter ≡ opening = told_kind _ _ c.in-Some-Open.ensures ∙ ap kind_meant c.in-Some-Open.field-0-is in
    open_step _ (good_table _ c.args.moves.table.now.good) few.states _ _ p.ready.0 p.ready.1.0 p.by_letter (omega (arith, w.own, few.letters)) w.own opens (w.low opens) (rw c.rows_of-in-Some-Open.ensures.0 at c.«open».ensures)

pub returns-in-Some-Close : goal.returns-in-Some-Close
returns-in-Some-Close c =
    let p = c.requires in
    close_step _ (good_table _ c.args.moves.table.now.good) (good_storable _ c.args.moves.table.now.good).states _ _ p.ready.0 p.ready.1.0 (told_kind _ _ c.in-Some-Close.ensures ∙ ap kind_meant c.in-Some-Close.field-0-is) c.close.ensures

pub returns-in-None : goal.returns-in-None
returns-in-None c = absurd (told_none _ (takes _ _ _ _ c.requires.ready.1.1).own c.in-None.ensures)

pub rows_of-requires : goal.rows_of-requires
rows_of-requires c =
    let p = c.requires in
    (omega (arith, (takes _ _ _ _ p.ready.1.1).own, (good_storable _ c.args.moves.table.now.good).letters), p.by_letter.long)

pub rows_of-requires-in-Some-Open : goal.rows_of-requires-in-Some-Open
rows_of-requires-in-Some-Open c =
    let p = c.requires in
    (omega (arith, (takes _ _ _ _ p.ready.1.1).own, (good_storable _ c.args.moves.table.now.good).letters), p.by_letter.long)
