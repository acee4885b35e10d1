-- Bytes that the check lets through and tables that can be on disk are the same: what the crates above cite.
use Prim.Native.Nat.{ℕ, ◌+◌, ◌*◌, ◌<◌, ◌≤◌}
use mathlib.Core.List.{List, Memᴰ}
use mathlib.Core.Path.{◌≡◌}
use native.Mathlib.Omega.{arith}
use lib.ListN.{length}
use Rattle.vpa.specs.TableOnDisk.{Entry, Table, state_count, letter_count, IsTable}
use Rattle.table.specs.Bytes.{AreBytes}
use Rattle.table.specs.Layout.{states_field, letters_field, moves_field, moves_place, moves_part, move_bytes, parse, unparse, most_bytes, Storable}
use Rattle.table.specs.Refusals.{verdict}
use Rattle.table.proofs.Entries.{moves_entries, move_in, entry_here, entry_place}
use Rattle.table.proofs.Parsing.{longest, part_length, parsed_states, parsed_letters, parsed_moves, parse_storable, unparse_parse, unparse_passes}
use Rattle.table.proofs.Passes.{passes, verdict_of_passes, pass_size}

module _ (s : List ℕ) (good : verdict s ≡ 0) where
  pub good_storable : Storable (parse s)
  good_storable = parse_storable (passes s good)

  pub good_table : IsTable (parse s)
  good_table = good_storable.table

  -- Read and written back they are the same bytes.
  pub good_back : AreBytes s → unparse (parse s) ≡ s
  good_back bytes = unparse_parse bytes (passes s good)

  pub good_size : length s ≡ moves_place s + 4 * moves_field s
  good_size = pass_size (passes s good)

  pub good_longest : length s ≤ most_bytes
  good_longest = longest (passes s good)

  pub good_states : state_count (parse s) ≡ states_field s
  good_states = parsed_states s good_size

  pub good_letters : letter_count (parse s) ≡ letters_field s
  good_letters = parsed_letters s good_size

  pub good_moves : length (parse s).moves ≡ moves_field s
  good_moves = parsed_moves s good_size

  pub good_part_length : length (moves_part s) ≡ 4 * moves_field s
  good_part_length = part_length s good_size

  pub good_part : move_bytes (parse s).moves ≡ moves_part s
  unfolding parse
  good_part = moves_entries (moves_part s) (moves_field s) good_part_length

  -- The moves are what stands in the moves' part, four bytes each.
  pub move_here : (k : ℕ) → k < moves_field s → Memᴰ (move_in (moves_part s) (4 * k)) (parse s).moves
  unfolding parse
  move_here k l = entry_here (moves_part s) k (omega (arith, good_part_length))

  pub move_place : {e : Entry} → Memᴰ e (parse s).moves → (k : ℕ) × (k < moves_field s) × (e ≡ move_in (moves_part s) (4 * k))
  unfolding parse
  move_place m = let w = entry_place (moves_part s) m in (w.0, omega (arith, w.1, good_part_length), w.2)

pub storable_good : {t : Table} → Storable t → verdict (unparse t) ≡ 0
storable_good r = verdict_of_passes (unparse_passes r)
