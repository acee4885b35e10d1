use native.Mathlib.Omega.{arith}
use Prim.Native.Nat.{◌<◌, ◌≤◌}
use lib.ListN.{length}
use Rattle.table.specs.Answers.{refused}
use Rattle.table.proofs.CallLaws.{when_good}
use Rattle.table.proofs.Lent.{on_short}
use Rattle.nesting.specs.Answers.{found_as}
use Rattle.nesting.specs.Scratch.{scratch_size}
use Rattle.nesting.proofs.Cleared.{scratch_size_lem}
use Rattle.nesting.proofs.CallLaws.{Meets, meets_refused, meets_found}
use Rattle.nesting.proofs.pairs_and_levels.Goals as goal
use Rattle.nesting.proofs.pairs_and_levels.Goals.{After-refused-then-scratch-lt-SCRATCH, After-found_in}

-- With too little scratch.
short : (c : After-refused-then-scratch-lt-SCRATCH) → let r = c.refused-then-scratch-lt-SCRATCH.result in
    Meets c.args.table.now c.args.scratch.now (found_as r.found) r.pairs r.levels c.args.scratch.now
short c =
    let few : length c.args.scratch.now < scratch_size = omega (arith, scratch_size_lem) in
    let r = c.refused-then-scratch-lt-SCRATCH.ensures in
    meets_refused _ _ (on_short scratch_size c.args.table.now c.args.scratch.now _ refused (when_good _ _ c.in-Ok.ensures).good few) r.found_value r.pairs_value r.levels_value

pub returns-then-scratch-lt-SCRATCH-clause-found_value : goal.returns-then-scratch-lt-SCRATCH-clause-found_value
returns-then-scratch-lt-SCRATCH-clause-found_value c = (short c).0

pub returns-then-scratch-lt-SCRATCH-clause-pairs_value : goal.returns-then-scratch-lt-SCRATCH-clause-pairs_value
returns-then-scratch-lt-SCRATCH-clause-pairs_value c = (short c).1.0

pub returns-then-scratch-lt-SCRATCH-clause-levels_value : goal.returns-then-scratch-lt-SCRATCH-clause-levels_value
returns-then-scratch-lt-SCRATCH-clause-levels_value c = (short c).1.1.0

pub returns-then-scratch-lt-SCRATCH-clause-scratch_after : goal.returns-then-scratch-lt-SCRATCH-clause-scratch_after
returns-then-scratch-lt-SCRATCH-clause-scratch_after c = (short c).1.1.1

pub clear-requires : goal.clear-requires
clear-requires c = omega (arith, scratch_size_lem)

pub found_in-requires : goal.found_in-requires
found_in-requires c =
    let w = when_good _ _ c.in-Ok.ensures in
    record { good = w.good; states = w.states; marks = w.marks }

-- With enough.
enough : (c : After-found_in) → let r = c.found_in.result in
    Meets c.args.table.now c.args.scratch.now (found_as r.found) r.pairs r.levels c.clear.new.scratch
enough c =
    let many : scratch_size ≤ length c.args.scratch.now = omega (arith, scratch_size_lem) in
    let r = c.found_in.ensures in
    meets_found _ _ (when_good _ _ c.in-Ok.ensures).good many r.found_value r.pairs_value r.levels_value c.clear.ensures

pub returns-else-scratch-lt-SCRATCH-clause-found_value : goal.returns-else-scratch-lt-SCRATCH-clause-found_value
returns-else-scratch-lt-SCRATCH-clause-found_value c = (enough c).0

pub returns-else-scratch-lt-SCRATCH-clause-pairs_value : goal.returns-else-scratch-lt-SCRATCH-clause-pairs_value
returns-else-scratch-lt-SCRATCH-clause-pairs_value c = (enough c).1.0

pub returns-else-scratch-lt-SCRATCH-clause-levels_value : goal.returns-else-scratch-lt-SCRATCH-clause-levels_value
returns-else-scratch-lt-SCRATCH-clause-levels_value c = (enough c).1.1.0

pub returns-else-scratch-lt-SCRATCH-clause-scratch_after : goal.returns-else-scratch-lt-SCRATCH-clause-scratch_after
returns-else-scratch-lt-SCRATCH-clause-scratch_after c = (enough c).1.1.1
