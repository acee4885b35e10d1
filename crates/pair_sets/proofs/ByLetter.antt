-- The loop over the moves of a table that puts each at its letter's rows.
use Prim.Native.Nat.{ℕ, ◌+◌, ◌*◌, ◌/◌, ◌%◌, ◌^◌, ◌<◌, ◌≤◌}
use mathlib.Core.List.{List, []}
use mathlib.Core.Logic.{◌↔◌, ◌⊎◌, inl, inr, ⊎_elim}
use mathlib.Core.Path.{◌≡◌, refl, sym, ap, subst, ◌∙◌}
use native.Mathlib.Decide.{ℕ_discrete}
use native.Mathlib.Nat.{add-zero, eq-or-lt_of_le}
use native.Mathlib.Omega.{arith}
use lib.Bits.{bit_or}
use lib.ListN.{length, get_or, set, replicate, length-set, length-replicate}
use lib.Seq.{get_or-set_same, get_or-set_other}
use Rattle.std.specs.Simd.{first_chunks}
use Rattle.vpa.specs.TableOnDisk.{entry}
use Rattle.table.specs.Bytes.{byte}
use Rattle.table.specs.Layout.{moves_part, parse}
use Rattle.table.specs.Refusals.{verdict}
use Rattle.table.proofs.Entries.{move_in}
use Rattle.table.proofs.Quads.{quad_byte}
use Rattle.table.proofs.Tables.{good_storable, good_part_length, move_place}
use Rattle.relation.specs.Digits.{bit}
use Rattle.relation.proofs.Relations.{zero_row, no_digit, one_digit, or_digit}
use Rattle.nesting.proofs.MovesFound.{move_bounds, move_at}
use Rattle.pair_sets.specs.Steps.{LeadsBy, ByLetter}

-- A move from p by letter a to q stands in the bytes u, as one of the first n.
pub record StandsByLetter (u : List ℕ) (n a p q : ℕ) : Type 0 where
  pub k : ℕ
  pub low : k < n
  pub from : byte u (4 * k) ≡ p
  pub letter : byte u (4 * k + 1) ≡ a
  pub to : byte u (4 * k + 3) ≡ q

-- The rows that have those.
pub record ByLetterSoFar (u : List ℕ) (n : ℕ) (rows : List ℕ) : Type 0 where
  pub long : length rows ≡ 2048
  pub at : (a p q : ℕ) → p < 64 → (bit (get_or rows (64 * a + p) 0) q ≡ 1) ↔ StandsByLetter u n a p q

pub letters_none : (u : List ℕ) → ByLetterSoFar u 0 (replicate 2048 0)
letters_none u = record {
  long = length-replicate {A = ℕ} 2048 0;
  at = λ a p q l. (λ e. absurd (no_digit q (zero_row 2048 (64 * a + p)) e), λ w. absurd (omega (arith, w.low)));
}

module _ {u : List ℕ} {n : ℕ} where
  later : {a p q : ℕ} → StandsByLetter u n a p q → StandsByLetter u (n + 1) a p q
  later w = record { k = w.k; low = omega (arith, w.low); from = w.from; letter = w.letter; to = w.to }

  -- Of the first n + 1, one of the first n or the one at n.
  last : {a p q : ℕ} (w : StandsByLetter u (n + 1) a p q) → (w.k ≡ n) ⊎ StandsByLetter u n a p q
  last w = ⊎_elim inl (λ l. inr (record { k = w.k; low = l; from = w.from; letter = w.letter; to = w.to })) (eq-or-lt_of_le (omega (arith, w.low)))

  -- Move n is from x by letter a to y.
  module _
      {rows : List ℕ} {x a y : ℕ} (h : ByLetterSoFar u n rows)
      (from : byte u (4 * n) ≡ x) (letter : byte u (4 * n + 1) ≡ a) (to : byte u (4 * n + 3) ≡ y) (low : x < 64) (few : a < 32) (fits : y < 64) where
    abbrev row : ℕ
    row = 64 * a + x

    abbrev word : ℕ
    word = bit_or (get_or rows row 0) (1 * 2 ^ y % 2 ^ 64)

    here : StandsByLetter u (n + 1) a x y
    here = record { k = n; low = omega arith; from = from; letter = letter; to = to }

    -- The row written, and the others.
    written : (q : ℕ) → (bit word q ≡ 1) ↔ StandsByLetter u (n + 1) a x q
    written q = (λ e. forth ((or_digit _ _ q).0 e), λ w. (or_digit _ _ q).1 (back w (last w))) where
      forth : (bit (get_or rows row 0) q ≡ 1) ⊎ (bit (1 * 2 ^ y % 2 ^ 64) q ≡ 1) → StandsByLetter u (n + 1) a x q
      forth (inl e) = later ((h.at _ _ q low).0 e)
      forth (inr e) = rw ((one_digit fits q).0 e) here

      back : (w : StandsByLetter u (n + 1) a x q) → (w.k ≡ n) ⊎ StandsByLetter u n a x q → (bit (get_or rows row 0) q ≡ 1) ⊎ (bit (1 * 2 ^ y % 2 ^ 64) q ≡ 1)
      back w (inl e) = inr ((one_digit fits q).1 (rw (← to, ← e) (sym w.to)))
      back w (inr v) = inl ((h.at _ _ q low).1 v)

    other : (b p q : ℕ) → (64 * b + p ≡ row → ⊥) → StandsByLetter u (n + 1) b p q → StandsByLetter u n b p q
    other b p q d w = ⊎_elim (λ e. absurd (d (rw (← letter, ← from, ← e, w.letter, w.from) refl))) (λ v. v) (last w)

    go : (b p q : ℕ) → p < 64 → Dec (64 * b + p ≡ row) → (bit (get_or (set rows row word) (64 * b + p) 0) q ≡ 1) ↔ StandsByLetter u (n + 1) b p q
    go b p q l (yes e) =
        let same : b ≡ a = omega arith in
        let first : p ≡ x = omega arith in
        rw (same, first, get_or-set_same rows row word 0 (omega (arith, h.long))) (written q)
    go b p q l (no d) =
        rw (get_or-set_other rows row (64 * b + p) word 0 d) (λ e. later ((h.at b p q l).0 e), λ w. (h.at b p q l).1 (other b p q d w))

    pub letters_more : ByLetterSoFar u (n + 1) (set rows row word)
    letters_more = record { long = length-set rows row word ∙ h.long; at = λ b p q l. go b p q l (ℕ_discrete (64 * b + p) row) }

-- A move as four bytes of its own: what they are, and what they are below.
pub record IsMove (s : List ℕ) (k : ℕ) (four : List ℕ) : Type 0 where
  pub from : get_or four 0 0 ≡ byte (moves_part s) (4 * k)
  pub letter : get_or four 1 0 ≡ byte (moves_part s) (4 * k + 1)
  pub to : get_or four 3 0 ≡ byte (moves_part s) (4 * k + 3)
  pub from_low : get_or four 0 0 < 64
  pub letter_low : get_or four 1 0 < 32
  pub to_low : get_or four 3 0 < 64

module _ (s : List ℕ) (good : verdict s ≡ 0) {u : List ℕ} (part : u ≡ moves_part s) where
  -- What the numbers of move k are below.
  pub letter_bounds : (k : ℕ) → k < length u / 4 → (byte u (4 * k) < 64) × (byte u (4 * k + 1) < 32) × (byte u (4 * k + 3) < 64)
  letter_bounds k l = let w = move_bounds s good part k l in (w.0, omega (arith, w.1, (good_storable s good).letters), w.2)

  pub move_of : {fours : List (List ℕ)} → fours ≡ first_chunks 4 (length u / 4) u → {k : ℕ} → k < length u / 4 → IsMove s k (get_or fours k [])
  move_of {fours} e {k} l = record {
    from = from;
    letter = letter;
    to = to;
    from_low = rw from (rw part at b.0);
    letter_low = rw letter (rw part at b.1);
    to_low = rw to (rw part at b.2);
  }
    where
      b : (byte u (4 * k) < 64) × (byte u (4 * k + 1) < 32) × (byte u (4 * k + 3) < 64)
      b = letter_bounds k l

      at : (j : ℕ) → j < 4 → get_or (get_or fours k []) j 0 ≡ byte (moves_part s) (4 * k + j)
      at j m = rw (e, quad_byte u k j [] l m) (rw part refl)

      from : get_or (get_or fours k []) 0 0 ≡ byte (moves_part s) (4 * k)
      from = rw (add-zero (4 * k)) at (at 0 (omega arith))

      letter : get_or (get_or fours k []) 1 0 ≡ byte (moves_part s) (4 * k + 1)
      letter = at 1 (omega arith)

      to : get_or (get_or fours k []) 3 0 ≡ byte (moves_part s) (4 * k + 3)
      to = at 3 (omega arith)

  stands_at : {a p q : ℕ} → LeadsBy (parse s) a p q → StandsByLetter u (length u / 4) a p q
  stands_at {a} {p} {q} m =
      let w = move_place s good m.leads.stands in
      let e = subst (λ u. move_in u (4 * w.0) ≡ entry p a m.mark q) (sym part) (sym w.2) in
      record {
        k = w.0;
        low = rw part (omega (arith, w.1, good_part_length s good));
        from = ap (λ x. x.from) e;
        letter = ap (λ x. x.letter) e;
        to = ap (λ x. x.to) e;
      }

  -- The whole loop done.
  pub letters_all : {n : ℕ} {rows : List ℕ} → n ≤ length u / 4 → length u / 4 ≤ n → ByLetterSoFar u n rows → ByLetter (parse s) rows
  letters_all {n} {rows} l g h = record {
    long = h.long;
    at = λ a p q m b. (λ e. forth ((h.at a p q b).0 e), λ w. (h.at a p q b).1 (rw (← all) at (stands_at w)));
  }
    where
      all : n ≡ length u / 4
      all = omega arith

      forth : {a p q : ℕ} → StandsByLetter u n a p q → LeadsBy (parse s) a p q
      forth w = record {
        mark = byte u (4 * w.k + 2);
        leads = record { stands = rw (← w.from, ← w.letter, ← w.to) (move_at s good part w.k (omega (arith, w.low))) };
      }
