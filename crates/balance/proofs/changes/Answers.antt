use Rattle.std.proofs.Common.{rules, pos}
use Rattle.vpa.specs.Balance.{change}
use Rattle.vpa.specs.TableOnDisk.{kind_in}
use Rattle.vpa.proofs.FromFn.{made_by}
use Rattle.table.specs.Layout.{parse}
use Rattle.balance.proofs.changes.Goals as goal

pub returns : goal.returns
returns c = λ a l. made_by (λ i. change (kind_in (parse c.args.table.now) i)) (λ i y q k. search rules) c.from_fn.ensures.items (pos 0) a l
