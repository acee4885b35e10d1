-- What the numbers of the layout come to.
use Prim.Native.Nat.{ℕ, ◌+◌, ◌*◌}
use mathlib.Core.Path.{◌≡◌, refl}
use Rattle.table.proofs.Logs.{longest_log_lem}
use Rattle.reader.specs.Layout.{leading, row_count, block_size, deepest, state_size, block_place}

pub leading_is : leading ≡ 3
unfolding leading
leading_is = refl

pub row_count_lem : row_count ≡ 64
unfolding row_count
row_count_lem = refl

pub deepest_is : deepest ≡ 32
unfolding deepest
deepest_is = refl

pub state_size_lem : state_size ≡ 2148
unfolding state_size leading block_size row_count deepest
state_size_lem = refl

pub block_place_lem : (d : ℕ) → block_place d ≡ 3 + 65 * d
unfolding block_place leading block_size row_count
block_place_lem d = refl

-- What each place and each size asks for.
pub ruleset numbers = (state_size_lem, deepest_is, block_place_lem, longest_log_lem)
