-- Computed facts on the worked table, on the table of snares and on a table without states. The must-fail edits of this crate's twins are refused by them.
use mathlib.Core.Path.{◌≡◌, refl, ap₂, ◌∙◌}
use mathlib.Core.Bool.{false}
use mathlib.Core.List.{[], ◌∷◌}
use Rattle.vpa.specs.Automaton.{letter, move_kind}
use Rattle.vpa.specs.Lists.{sift, any?, each, up_from, below, same?, among, square, grow, rounds, saturate}
use Rattle.vpa.specs.TableOnDisk.{kind_numbered, kind_in, initial?, final?, is_kind?, is_move?, has?}
use Rattle.vpa.specs.PairsComputed.{plain?, open?, close?, joins?, steps?, ends_nested?, nests?, pair_rule, pairs, opens_to?, closes_to?, opens?, initial_to_final?, top_levels, opened_by_live?, level_rule, levels}
use Rattle.vpa.specs.TrimComputed.{states_of, trim_states_of, openers, trim_marks_of, trim_plain?, trim_open?, trim_close?, trim_move?, mark_numbers, trim_moves_of, state_byte, trim_byte, trim_from, trim_table}
use Rattle.vpa.specs.ReaderComputed.{start_pairs, extend_pairs, open_pairs, join_pairs, candidate_blocks, holds?, stop_at, begin_state, settle, letter_state, letters_state, state_after, heard}
use Rattle.vpa.specs.WorkedTable.{worked, worked_pairs, two_levels, worked_trimmed, snares, snares_pairs, snares_trimmed, letters_only}

-- The balanced pairs and the live levels of both tables. Two rounds give all pairs; so few are computed in few steps, and a refusal shows what they came to.
two_rounds : (rounds (pair_rule worked) (square 4) 2 ≡ worked_pairs) × (rounds (pair_rule snares) (square 4) 2 ≡ snares_pairs)
unfolding sift any? each up_from below same? among square grow rounds kind_numbered kind_in is_kind? plain? open? close? joins? steps? ends_nested? nests? pair_rule
two_rounds = (refl, refl)

pub pairs_computed : (pairs worked ≡ worked_pairs) × (pairs snares ≡ snares_pairs)
unfolding sift any? each up_from below same? among square grow rounds kind_numbered kind_in is_kind? plain? open? close? joins? steps? ends_nested? nests? pair_rule saturate pairs
pairs_computed = (refl, refl)

pub levels_computed : (levels worked ≡ two_levels) × (levels snares ≡ two_levels)
unfolding sift any? each up_from below same? among square grow rounds kind_numbered kind_in is_kind? plain? open? close? joins? steps? ends_nested? nests? pair_rule saturate pairs initial? final? opens_to? closes_to? opens? initial_to_final? top_levels opened_by_live? level_rule levels
levels_computed = (refl, refl)

-- Their trimmed tables, from these pairs and levels.
trimmed_from : (trim_from worked worked_pairs two_levels ≡ worked_trimmed) × (trim_from snares snares_pairs two_levels ≡ snares_trimmed)
unfolding letter move_kind sift any? each up_from below same? among kind_numbered kind_in is_kind? is_move? has? initial? final? plain? open? close? opens_to? closes_to? opens? initial_to_final? states_of trim_states_of openers trim_marks_of trim_plain? trim_open? trim_close? trim_move? mark_numbers trim_moves_of state_byte trim_byte trim_from
trimmed_from = (refl, refl)

pub trimmed_computed : (trim_table worked ≡ worked_trimmed) × (trim_table snares ≡ snares_trimmed)
unfolding trim_table
trimmed_computed = (
  ap₂ (trim_from worked) pairs_computed.0 levels_computed.0 ∙ trimmed_from.0,
  ap₂ (trim_from snares) pairs_computed.1 levels_computed.1 ∙ trimmed_from.1,
)

-- On a table without states begin stops at once.
pub empty_stopped : heard (begin_state letters_only) ≡ stop_at 0
unfolding sift each up_from below square start_pairs holds? begin_state heard
empty_stopped = refl

-- A close joins only an open with its mark: from 0 the open has mark 1, so the close with mark 1 leads to 2, and that with mark 0 nowhere.
pub snares_closed : state_after snares (1 ∷ 2 ∷ []) ≡ record { taken = 2; stopped = false; blocks = (0, (0, 2) ∷ []) ∷ [] }
unfolding letter move_kind sift any? each up_from below square kind_numbered kind_in is_kind? is_move? has? initial? start_pairs extend_pairs open_pairs join_pairs candidate_blocks holds? begin_state settle letter_state letters_state
snares_closed = refl
