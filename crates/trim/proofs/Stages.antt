-- From one stage of the call to the next: what the listed states, marks and moves give the stage after them, and what the call answers.
use Prim.Native.Nat.{ℕ, ◌+◌, ◌*◌, ◌<◌, ◌≤◌}
use mathlib.Core.List.{List}
use mathlib.Core.Path.{◌≡◌, ap, ◌∙◌}
use native.Mathlib.Omega.{arith}
use lib.ListN.{length, get_or}
use Rattle.vpa.specs.PairsComputed.{pairs, levels}
use Rattle.vpa.specs.TableOnDisk.{Entry, Table, letter_count}
use Rattle.vpa.specs.TrimComputed.{no_trio, trim_table, trim_states, trim_marks}
use Rattle.vpa.proofs.Lists.{get_mem}
use Rattle.vpa.proofs.TrimmedMoves.{trimmed_kinds}
use Rattle.vpa.proofs.TrimmedTable.{trimmed_states, trimmed_marks}
use Rattle.table.specs.Answers.{refused, answered}
use Rattle.table.specs.Layout.{parse, unparse}
use Rattle.table.specs.Refusals.{verdict}
use Rattle.table.proofs.Parsing.{unparse_length}
use Rattle.nesting.specs.Calls.{rows}
use Rattle.triples.specs.declared.Trios.{Trios}
use Rattle.triples.specs.Listing.{trio_rows, Laid, Appended}
use Rattle.triples.specs.Steps.{Columns, state_rows, Low}
use Rattle.trim.specs.Steps.{ListedIn}
use Rattle.trim.proofs.CallLaws.{MeetsWritten, within_not_states, within_not_marks, within_not_moves, meets_large, meets_no_room, meets_bytes}
use Rattle.triples.proofs.Laying.{laid_front, appended_same, appended_count, appended_over, front_moves}
use Rattle.triples.proofs.Numbers.{state_numbers, mark_numbers_lem}
use Rattle.triples.proofs.Rows.{trios_length, state_rows_lem}
use Rattle.trim.proofs.Written.{trimmed_within}

-- The columns that are read back hold numbers below 64.
module _ (s : List ℕ) (good : verdict s ≡ 0) where
  pub states_low : {r : Trios} → Columns (trim_states (parse s)) r → Low r.count r.first × (Low r.count r.second × Low r.count r.third)
  states_low {r} h = (
    record { most = h.most; at = λ i l. omega (arith, h.first i l, (numbers i l).0) },
    (record { most = h.most; at = λ i l. omega (arith, h.second i l, (numbers i l).1) }, record { most = h.most; at = λ i l. omega (arith, h.third i l, (numbers i l).2) }),
  ) where
    numbers : (i : ℕ) → i < r.count → ((get_or (trim_states (parse s)) i no_trio).0 < 64) × ((get_or (trim_states (parse s)) i no_trio).1 < 64) × ((get_or (trim_states (parse s)) i no_trio).2 < 64)
    numbers i l = state_numbers s good (get_mem no_trio (trim_states (parse s)) i (omega (arith, h.count)))

  pub marks_low : {r : Trios} → Columns (trim_marks (parse s)) r → Low r.count r.second × Low r.count r.third
  marks_low {r} h = (record { most = h.most; at = λ i l. omega (arith, h.second i l, (numbers i l).0) }, record { most = h.most; at = λ i l. omega (arith, h.third i l, (numbers i l).1) }) where
    numbers : (i : ℕ) → i < r.count → ((get_or (trim_marks (parse s)) i no_trio).1 < 64) × ((get_or (trim_marks (parse s)) i no_trio).2 < 64)
    numbers i l = mark_numbers_lem s good (get_mem no_trio (trim_marks (parse s)) i (omega (arith, h.count)))

  -- What is listed by the rows of pairs and levels are the trimmed states.
  pub states_listed : {b l x y : List ℕ} {n : ℕ} → b ≡ rows (pairs (parse s)) → l ≡ rows (levels (parse s)) → Appended 64 (state_rows b l) x 0 y n
      → Appended 64 (trio_rows (trim_states (parse s))) x 0 y n
  states_listed e d h = appended_same ((λ i. state_rows (e i) (d i)) ∙ state_rows_lem s good) h

-- More than a table may have of them: the call refuses with 8.
module _ (t : Table) (out : List ℕ) {a b : List ℕ} {n : ℕ} where
  pub many_states : Appended 64 (trio_rows (trim_states t)) a 0 b n → 64 < n → MeetsWritten (trim_table t) out (refused 8) out
  many_states h l =
      meets_large (trim_table t) out (within_not_states (trim_table t) (omega (arith, appended_over h l, trios_length (trim_states t), trimmed_states t)))

  pub many_marks : Appended 64 (trio_rows (trim_marks t)) a 0 b n → 64 < n → MeetsWritten (trim_table t) out (refused 8) out
  many_marks h l =
      meets_large (trim_table t) out (within_not_marks (trim_table t) (omega (arith, appended_over h l, trios_length (trim_marks t), trimmed_marks t)))

  pub many_moves : Appended 1024 (trim_table t).moves a 0 b n → 1024 < n → MeetsWritten (trim_table t) out (refused 8) out
  many_moves h l = meets_large (trim_table t) out (within_not_moves (trim_table t) (appended_over h l))

-- Moves that are few enough stand in scratch.
pub listed_in : {es : List Entry} {a b : List ℕ} {n : ℕ} → Appended 1024 es a 0 b n → n ≤ 1024 → 4096 ≤ length b → ListedIn b n es
listed_in {es} h few long =
    let count = appended_count h few in
    record { all = count; most = few; long = long; at = λ i l. front_moves es (h.laid few) i (omega (arith, count)) }

-- The last stage: 9, or the bytes.
module _ (s : List ℕ) (good : verdict s ≡ 0) (out : List ℕ) {states : Trios} {letters marks moves : ℕ} {scratch : List ℕ}
    (columns : Columns (trim_states (parse s)) states) (same : letters ≡ letter_count (parse s)) (count : marks ≡ length (trim_marks (parse s))) (most : marks ≤ 64)
    (listed : ListedIn scratch moves (trim_table (parse s)).moves) where
  marks_most : (trim_table (parse s)).mark_count ≤ 64
  marks_most = omega (arith, trimmed_marks (parse s))

  size : 8 + letters + states.count + 4 * moves ≡ length (unparse (trim_table (parse s)))
  size =
      omega (arith, unparse_length (trim_table (parse s)), ap length (trimmed_kinds (parse s)), trimmed_states (parse s), columns.count, listed.all)

  pub no_room : length out < 8 + letters + states.count + 4 * moves → MeetsWritten (trim_table (parse s)) out (refused 9) out
  no_room l = meets_no_room (trim_table (parse s)) out (trimmed_within s good columns marks_most listed) (omega (arith, size))

  pub all_written : {after : List ℕ} → 8 + letters + states.count + 4 * moves ≤ length out → Laid 0 (unparse (trim_table (parse s))) out after
      → MeetsWritten (trim_table (parse s)) out (answered (8 + letters + states.count + 4 * moves)) after
  all_written l h =
      meets_bytes (trim_table (parse s)) out (trimmed_within s good columns marks_most listed) (omega (arith, size)) size (laid_front h (omega (arith, size)))
