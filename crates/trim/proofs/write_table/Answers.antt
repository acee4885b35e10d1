-- The four parts stand one after the other.
use Rattle.std.proofs.Common.{arith}
use Rattle.table.proofs.Tables.{good_storable, good_size, good_letters}
use Rattle.trim.proofs.Written.{listed_low, table_laid}
use Rattle.trim.proofs.write_table.Goals as goal

pub head-requires : goal.head-requires
head-requires c =
    let p = c.requires in
    (omega (arith, c.args.table.now.letters, (good_storable _ c.args.table.now.good).letters), (p.columns.most, (p.marks_value.1, p.listed_in.most)))

pub slice_bounds-kinds-end : goal.slice_bounds-kinds-end
slice_bounds-kinds-end c = let table = c.args.table.now in omega (arith, table.letters, good_size _ table.good, good_letters _ table.good)

pub write_moves-requires : goal.write_moves-requires
write_moves-requires c =
    let p = c.requires in
    let l = p.listed_in in (
      omega (arith, l.most, l.long),
      (
        omega (arith, c.write_states.ensures.long, c.lay-2.ensures.long, c.lay.ensures.long, p.moves_in_bounds),
        listed_low _ c.args.table.now.good p.columns (omega (arith, p.marks_value)) l,
      ),
    )

pub returns : goal.returns
returns c =
    let p = c.requires in
    table_laid _ c.args.table.now.good p.columns (omega (arith, p.marks_value)) p.listed_in c.args.table.now.letters p.marks_value.0 c.head.ensures c.lay.ensures c.lay-2.ensures
    c.write_states.ensures c.write_moves.ensures
