-- Document 01, "The table on disk": the table that bytes mean which passed the check.
use Rattle.vpa.specs.TableOnDisk.{Table}
use Rattle.table.specs.declared.checked.Checked.{Checked}
use Rattle.table.specs.Layout.{parse}

abbrev pub meant : Checked → Table
meant table = parse table.bytes.now
