use Rattle.table.proofs.CallLaws.{when_good}
use Rattle.table.proofs.checked.Checked.new.Goals as goal

pub invariant_of-result : goal.invariant_of-result
invariant_of-result c =
    let w = when_good _ _ c.in_ok-counts.ensures in
    record { good = w.good; states = w.states; letters = w.letters; marks = w.marks }
