use Rattle.std.proofs.Common.{rules, ap, ◌≡◌, true}
use Rattle.table.specs.Answers.{answered}
use Rattle.table.specs.Meaning.{meant}
use Rattle.reader.specs.Refusals.{legal?}
use Rattle.reader.proofs.Meeting.{legal_leading, head_ready, meets_finish, answers}
use Rattle.reader.proofs.finish.Goals as goal

pub head_in-requires : goal.head_in-requires
head_in-requires c =
    let legal : legal? (meant c.in_ok-table.table) c.args.state.now ≡ true = search rules in
    (search rules, legal_leading _ _ legal)

pub end-requires : goal.end-requires
end-requires c =
    let legal : legal? (meant c.in_ok-table.table) c.args.state.now ≡ true = search rules in
    head_ready _ _ legal (search rules) c.head_in.ensures

pub returns : goal.returns
returns c =
    let legal : legal? (meant c.in_ok-table.table) c.args.state.now ≡ true = search rules in
    rw (← c.in_ok-table.ensures.same_bytes)
    (answers _ _ (meets_finish _ _ c.in_ok-table.table.good (search rules) legal c.head_in.ensures (ap answered c.end.ensures)))
