use Rattle.std.proofs.Common.{arith, refl, ◌+◌, ◌-◌}
use Rattle.table.proofs.Parts.{length_part}
use Rattle.table.proofs.CheckedCounts.{few_states}
use Rattle.reader.proofs.Legal.{block_is, first_decides, second_decides}
use Rattle.reader.proofs.Numbers.{deepest_is, state_size_lem, block_place_lem}
use Rattle.reader.proofs.Memory.is_block.Goals as goal

pub are_rows-requires : goal.are_rows-requires
are_rows-requires c =
    let at = c.place-at.result in (
      omega (arith, length_part c.args.self.state.now (at + 1) ((at + 65) - (at + 1)) (omega (arith, c.place-at.ensures.0, block_place_lem c.args.depth, deepest_is, state_size_lem))),
      few_states c.args.self.table.now,
    )

pub returns-then-is_letter_word : goal.returns-then-is_letter_word
returns-then-is_letter_word c =
    second_decides (block_is _ _ _ c.args.self.table.now.states c.place-at.ensures.0 c.is_letter_word.ensures c.are_rows.ensures) c.if-is_letter_word.true

pub returns-else-is_letter_word : goal.returns-else-is_letter_word
returns-else-is_letter_word c = first_decides _ (block_is _ _ _ c.args.self.table.now.states c.place-at.ensures.0 c.is_letter_word.ensures refl) c.if-is_letter_word.false
