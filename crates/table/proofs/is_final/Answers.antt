use Rattle.vpa.specs.TableOnDisk.{final?}
use Rattle.table.specs.Layout.{parse}
use Rattle.table.proofs.is_final.Goals as goal

pub returns : goal.returns
unfolding final? parse
returns c = rw c.state_byte.ensures
