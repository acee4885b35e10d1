use Rattle.vpa.specs.TableOnDisk.{initial?}
use Rattle.table.specs.Layout.{parse}
use Rattle.table.proofs.is_initial.Goals as goal

pub returns : goal.returns
unfolding initial? parse
returns c = rw c.state_byte.ensures
