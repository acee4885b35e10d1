-- Document 01, "A worked table", and two small tables on which the document's traps show: one of snares, and one without states for the reader that must
-- not run.
use Rattle.std.specs.Prelude.{List, [], ◌∷◌}
use Rattle.vpa.specs.Lists.{Pair}
use Rattle.vpa.specs.TableOnDisk.{Table, entry}

-- The worked table, its balanced pairs, its live levels and its trimmed table, all given by the document.
abbrev pub worked : Table
worked = record {
  kinds = 0 ∷ 1 ∷ 2 ∷ 0 ∷ [];
  state_bytes = 1 ∷ 0 ∷ 2 ∷ 0 ∷ [];
  mark_count = 2;
  moves = entry 0 1 0 1 ∷ entry 0 1 1 3 ∷ entry 1 0 0 1 ∷ entry 1 2 0 2 ∷ entry 3 3 0 3 ∷ [];
}

abbrev pub worked_pairs : List Pair
worked_pairs = (0, 0) ∷ (0, 2) ∷ (1, 1) ∷ (2, 2) ∷ (3, 3) ∷ []

abbrev pub two_levels : List Pair
two_levels = (0, 2) ∷ (1, 1) ∷ []

abbrev pub worked_trimmed : Table
worked_trimmed = record {
  kinds = 0 ∷ 1 ∷ 2 ∷ 0 ∷ [];
  state_bytes = 1 ∷ 2 ∷ 0 ∷ [];
  mark_count = 1;
  moves = entry 0 1 0 2 ∷ entry 2 0 0 2 ∷ entry 2 2 0 1 ∷ [];
}

-- A table with a state (3) that reaches the end and is never reached, a deep level whose end (1) is final, an open and a close of one state whose
-- marks differ, and marks whose order by level is not their order by mark. Worked out by hand.
abbrev pub snares : Table
snares = record {
  kinds = 0 ∷ 1 ∷ 2 ∷ [];
  state_bytes = 1 ∷ 2 ∷ 2 ∷ 0 ∷ [];
  mark_count = 2;
  moves = entry 0 1 1 1 ∷ entry 1 1 0 1 ∷ entry 1 2 0 1 ∷ entry 1 2 1 2 ∷ entry 3 0 0 2 ∷ [];
}

-- Its live levels are the same two. Its trimmed states are (0, 2, 0), (0, 2, 2) and (1, 1, 1), its trimmed marks (0, 1, 1) and (1, 0, 2).
abbrev pub snares_pairs : List Pair
snares_pairs = (0, 0) ∷ (0, 2) ∷ (1, 1) ∷ (2, 2) ∷ (3, 2) ∷ (3, 3) ∷ []

abbrev pub snares_trimmed : Table
snares_trimmed = record {
  kinds = 0 ∷ 1 ∷ 2 ∷ [];
  state_bytes = 1 ∷ 2 ∷ 0 ∷ [];
  mark_count = 2;
  moves = entry 0 1 1 2 ∷ entry 2 1 0 2 ∷ entry 2 2 0 2 ∷ entry 2 2 1 1 ∷ [];
}

-- Letters and no state, which is what trimming leaves of a table without accepted logs.
abbrev pub letters_only : Table
letters_only = record { kinds = 0 ∷ 1 ∷ 2 ∷ []; state_bytes = []; mark_count = 0; moves = [] }
