-- The rows of a block and those of a letter: parts of the words, and what they hold.
use Prim.Native.Nat.{ℕ, suc, ◌+◌, ◌*◌, ◌-◌, ◌<◌, ◌≤◌}
use mathlib.Core.List.{List}
use mathlib.Core.Path.{◌≡◌, sym, ◌∙◌}
use native.Mathlib.Decide.{dec_lt}
use native.Mathlib.Omega.{arith}
use lib.ListN.{length, get_or, take, drop}
use lib.Seq.{ext_get_or}
use Rattle.vpa.specs.TableOnDisk.{Table, state_count, IsTable}
use Rattle.table.proofs.Parts.{length_part, byte_in_part, byte_past_part}
use Rattle.relation.specs.Relations.{Holds}
use Rattle.relation.proofs.Relations.{no_digit}
use Rattle.pair_sets.specs.Steps.{LeadsBy, ByLetter}
use Rattle.reader.specs.Layout.{row_count, deepest, state_size, block_place, letter_in, rows_in}
use Rattle.reader.specs.Steps.{letter_rows}
use Rattle.reader.proofs.Words.{row_at, rows_length}

-- The rows of a block are the words after its letter.
module _ (words : List ℕ) (d : ℕ) where
  pub rows_are : d ≤ deepest → state_size ≤ length words → {r : List ℕ} → length r ≡ 64 → ((j : ℕ) → j < 64 → get_or words (suc (block_place d) + j) 0 ≡ get_or r j 0) → rows_in words d ≡ r
  rows_are low long {r} rows at =
      let size = rows_length words d low long in
      ext_get_or 0 (rows_in words d) r (size ∙ sym rows) (λ j l. let m : j < 64 = omega (arith, size) in row_at words d j m ∙ at j m)

  -- As the code lends them.
  pub lent_rows : {p : ℕ} → block_place d ≡ p → take (p + 1 + 64 - (p + 1)) (drop (p + 1) words) ≡ rows_in words d
  unfolding rows_in row_count
  lent_rows {p} e = let f : p + 1 ≡ suc (block_place d) = omega arith in let n : p + 1 + 64 - (p + 1) ≡ 64 = omega arith in rw (n, f)

  pub lent_rows_after : {p : ℕ} → block_place d ≡ p → take (p + 65 - (p + 1)) (drop (p + 1) words) ≡ rows_in words d
  unfolding rows_in row_count
  lent_rows_after {p} e = let f : p + 1 ≡ suc (block_place d) = omega arith in let n : p + 65 - (p + 1) ≡ 64 = omega arith in rw (n, f)

  pub letter_at : {p : ℕ} → block_place d ≡ p → get_or words p 0 ≡ letter_in words d
  unfolding letter_in
  letter_at e = rw e

pub lent_letter : (moves : List ℕ) (a : ℕ) → take (64 * a + 64 - 64 * a) (drop (64 * a) moves) ≡ letter_rows moves a
unfolding letter_rows
lent_letter moves a = let n : 64 * a + 64 - 64 * a ≡ 64 = omega arith in rw n

pub letter_long : (moves : List ℕ) {a : ℕ} → length moves ≡ 2048 → a < 32 → length (letter_rows moves a) ≡ 64
unfolding letter_rows
letter_long moves {a} long l = length_part moves (64 * a) 64 (omega arith)

-- The rows of a letter hold where it leads.
module _ (t : Table) (fit : IsTable t) (small : state_count t ≤ 64) (moves : List ℕ) (rows : ByLetter t moves) {a : ℕ} (letter : a < 32) where
  pub row_leads : {p q : ℕ} → Holds (letter_rows moves a) p q → LeadsBy t a p q
  unfolding letter_rows
  row_leads {p} {q} h = by (dec_lt p 64) where
    by : Dec (p < 64) → LeadsBy t a p q
    by (yes l) = (rows.at a p q letter l).0 (rw (byte_in_part moves (64 * a) 64 p l) at h.digit)
    by (no g) = absurd (no_digit q (byte_past_part moves (64 * a) 64 p (omega arith)) h.digit)

  pub leads_row : {p q : ℕ} → LeadsBy t a p q → Holds (letter_rows moves a) p q
  unfolding letter_rows
  leads_row {p} {q} w =
      let l : p < 64 = omega (arith, fit.from _ w.leads.stands) in
      record { digit = rw (byte_in_part moves (64 * a) 64 p l) ((rows.at a p q letter l).1 w) }
