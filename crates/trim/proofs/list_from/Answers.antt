-- The moves by one letter more are appended, if there are any, and the next cut is found.
use Rattle.std.proofs.Common.{arith, sym, ◌<◌}
use Rattle.vpa.specs.TableOnDisk.{letter_count}
use Rattle.table.specs.Meaning.{meant}
use Rattle.table.proofs.Tables.{good_storable}
use Rattle.trim.proofs.Blocks.{cut_same, rising_part, block_of, block_none}
use Rattle.triples.proofs.Laying.{appended_none, appended_same, appended_as, appended_low, appended_long}
use Rattle.trim.proofs.Moves.{no_rows, state_low, from_all}
use Rattle.triples.proofs.Rows.{listed_none, listed_more}
use Rattle.trim.proofs.list_from.Goals.{then-at-end, else-at-end}
use Rattle.trim.proofs.list_from.Goals as goal

pub overflow_mul-key : goal.overflow_mul-key
overflow_mul-key c = omega (arith, state_low _ c.args.table.now.good c.requires.guides.1)

pub first_move-at-requires : goal.first_move-at-requires
first_move-at-requires c = rising_part _ c.args.table.now.good c.moves-part.ensures

pub loop-letter-init : goal.loop-letter-init
loop-letter-init c = record {
  listed = listed_none _ (omega arith);
  cut = cut_same (omega arith) c.first_move-at.ensures;
}

pub overflow_add-key : goal.overflow_add-key
overflow_add-key c =
    let table = c.args.table.now in
    omega (arith, state_low _ table.good c.requires.guides.1, table.letters, (good_storable _ table.good).letters)

pub end_of-end-requires : goal.end_of-end-requires
end_of-end-requires c = (rising_part _ c.args.table.now.good c.moves-part.ensures, c.loop-letter.invariant.cut)

pub list_by-total-requires-clause-letter_bound : goal.list_by-total-requires-clause-letter_bound
list_by-total-requires-clause-letter_bound c =
    let h = c.loop-letter.invariant.listed.appended in
    (omega (arith, c.args.table.now.letters), (appended_low h, omega (arith, appended_long h, c.requires.count_bound.1)))

pub list_by-total-requires-clause-block_of : goal.list_by-total-requires-clause-block_of
list_by-total-requires-clause-block_of c =
    let table = c.args.table.now in
    let low : c.loop-letter.letter < letter_count (meant table) = omega (arith, table.letters) in
    block_of _ table.good c.moves-part.ensures (omega arith) low c.loop-letter.invariant.cut c.end_of-end.ensures.1

pub loop-letter-preserved : goal.loop-letter-preserved
loop-letter-preserved c =
    let p = c.requires in
    let i = c.loop-letter.invariant in
    record {
      listed = listed_more i.listed (elim c.if-at-end.branch [
        | then-at-end w ↦ appended_as w.list_by-total.ensures w.scratch-is w.total-is
        | else-at-end w ↦
            let none = block_none _ c.args.table.now.good c.moves-part.ensures (omega arith) i.cut c.end_of-end.ensures.1 w.if-at-end.false in
            appended_as (appended_same (sym (no_rows p.guides.1 none)) (appended_none _ (appended_low i.listed.appended))) w.scratch-is w.total-is
      ]);
      cut = cut_same (omega arith) c.end_of-end.ensures.1;
    }

pub returns : goal.returns
returns c = from_all _ _ (omega (arith, c.args.table.now.letters)) c.loop-letter.invariant.listed
