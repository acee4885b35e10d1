use Rattle.std.proofs.Common.{arith, ◌<◌, pos, ◌≡◌, get_or, ap, ◌∙◌, to_z, of_z}
use Rattle.std.specs.Int.{w32}
use mir.ValLaws.{to_z-of_z}
use Rattle.vpa.specs.Balance.{change}
use Rattle.vpa.specs.TableOnDisk.{letter_count, kind_in}
use Rattle.table.specs.Meaning.{meant}
use Rattle.table.proofs.Tables.{good_storable}
use Rattle.balance.proofs.Tallies.{change_fits}
use Rattle.balance.proofs.Weighing.{weighed_none, next_fits, weighed_past, weighed_more, weighed_all}
use Rattle.balance.proofs.weigh.Goals.{Else-letter-letters}
use Rattle.balance.proofs.weigh.Goals as goal

-- A letter of the table: what is read for it is what it adds.
module _ (c : Else-letter-letters) where
  own : get_or c.args.log.now c.loop-byte.byte-index 0 < letter_count (meant c.args.table.now)
  own = omega (arith, c.from-letter.ensures, c.if-letter-letters.false, c.args.table.now.letters)

  few : c.from-letter.result < 32
  few = omega (arith, c.from-letter.ensures, own, (good_storable _ c.args.table.now.good).letters)

  added_is : to_z w32 (of_z w32 (get_or c.changes-added.result c.from-letter.result (pos 0)))
      ≡ change (kind_in (meant c.args.table.now) (get_or c.args.log.now c.loop-byte.byte-index 0))
  added_is =
      let kind = kind_in (meant c.args.table.now) in
      ap (λ x. to_z w32 (of_z w32 x)) (c.changes-added.ensures c.from-letter.result few) ∙ to_z-of_z w32 _ (change_fits (kind c.from-letter.result)) ∙ ap (λ a. change (kind a)) c.from-letter.ensures

pub loop-byte-init : goal.loop-byte-init
loop-byte-init c = weighed_none _ _

pub returns-then-letter-letters : goal.returns-then-letter-letters
returns-then-letter-letters c =
    weighed_past (meant c.args.table.now) c.args.log.now c.loop-byte-test.true (omega (arith, c.from-letter.ensures, c.if-letter-letters.true, c.args.table.now.letters))

pub bounds-added-letter : goal.bounds-added-letter
bounds-added-letter c = few c

pub after-tally-requires : goal.after-tally-requires
after-tally-requires c = rw (added_is (goal.at.after-tally-requires c).Else-letter-letters) (next_fits _ _ c.loop-byte-test.true c.loop-byte.invariant c.requires)

pub loop-byte-preserved : goal.loop-byte-preserved
loop-byte-preserved c =
    let read = (goal.at.loop-byte-preserved c).Else-letter-letters in
    rw (c.after-tally.ensures, added_is read) (weighed_more _ _ c.loop-byte-test.true c.loop-byte.invariant (own read))

pub returns : goal.returns
returns c = weighed_all _ _ c.loop-byte.invariant (omega (arith, c.loop-byte-test.false, c.loop-byte.auto.byte-index-end))
