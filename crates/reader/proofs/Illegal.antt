-- Words that the test refuses with 14: one of the reasons can be named.
use Prim.Native.Nat.{ℕ, zero, suc, ◌+◌, ◌/◌, ◌^◌, ◌<◌, ◌≤◌}
use mathlib.Core.Bool.{Bool, true, false, cond, ◌&&◌}
use mathlib.Core.List.{List}
use mathlib.Core.Logic.{◌⊎◌, inl, inr, ⊎_elim}
use mathlib.Core.Path.{◌≡◌, refl, subst, ◌∙◌}
use native.Mathlib.Nat.{pow-suc}
use native.Mathlib.Omega.{arith}
use borrow.Author.Tests.{ltb-false, leb-false, eqb-false, lt-ltb}
use lib.Dec.{T, ltb}
use lib.ListN.{get_or}
use Rattle.vpa.specs.Automaton.{opening}
use Rattle.vpa.specs.TableOnDisk.{Table, state_count, kind_in}
use Rattle.vpa.proofs.TableMoves.{kind_test}
use Rattle.table.proofs.All.{all_fails}
use Rattle.relation.specs.Digits.{bit}
use Rattle.relation.proofs.Digits.{bit_high}
use Rattle.relation.proofs.Walks.{some_digit}
use Rattle.reader.specs.Layout.{row_count, state_size, depth_in, block_place, letter_in, rows_in}
use Rattle.reader.specs.Refusals.{Broken, many_taken, too_deep, no_flag, first_letter, no_open_letter, no_state, above_depth, leading?, letter_word?, rows?, block?, zeros?, legal?}

one_false : (a b : Bool) → a && b ≡ false → (a ≡ false) ⊎ (b ≡ false)
one_false true b e = inr e
one_false false b e = inl e

-- A number that is not below 2 ^ n has a digit 1 from place n on.
high_digit : (n x : ℕ) → 2 ^ n ≤ x → (k : ℕ) × (n ≤ k) × (bit x k ≡ 1)
high_digit zero x l = let d = some_digit x (λ e. omega arith) in (d.0, omega arith, d.1)
high_digit (suc n) x l = let d = high_digit n (x / 2) (omega (arith, pow-suc 2 n)) in (suc d.0, omega (arith, d.1), bit_high x d.0 ∙ d.2)

module _ (t : Table) (words : List ℕ) where
  broken_leading : leading? words ≡ false → Broken t words
  unfolding leading?
  broken_leading e =
      ⊎_elim
      (λ f. ⊎_elim (λ g. many_taken (leb-false _ _ g)) (λ g. too_deep (leb-false _ _ g)) (one_false _ _ f))
      (λ f. no_flag (leb-false _ _ f))
      (one_false _ _ e)

  broken_letter : (d : ℕ) → d ≤ depth_in words → letter_word? t d (letter_in words d) ≡ false → Broken t words
  unfolding letter_word?
  broken_letter zero l e = first_letter (eqb-false _ _ e)
  broken_letter (suc d) l e = no_open_letter (suc d) (omega arith) l
      (λ h. subst T (rw (lt-ltb _ _ h.0) at e) (kind_test (kind_in t (letter_in words (suc d))) opening h.1))

  -- A row has a pair too many, from place n on.
  broken_row : (d j n : ℕ) → d ≤ depth_in words → ((k : ℕ) → n ≤ k → (j < state_count t) × (k < state_count t) → ⊥) → 2 ^ n ≤ get_or (rows_in words d) j 0 → Broken t words
  broken_row d j n l past g = let k = high_digit n (get_or (rows_in words d) j 0) g in no_state d j k.0 l (record { digit = k.2 }) (past k.0 k.1)

  broken_rows : (d : ℕ) → d ≤ depth_in words → rows? (state_count t) (rows_in words d) ≡ false → Broken t words
  unfolding rows?
  broken_rows d l e = let j = all_fails _ row_count e in by j.0 j.2 (ltb j.0 (state_count t)) refl where
    by : (j : ℕ) → ltb (get_or (rows_in words d) j 0) (cond (ltb j (state_count t)) (2 ^ state_count t) 1) ≡ false → (b : Bool) → ltb j (state_count t) ≡ b → Broken t words
    by j f true h = broken_row d j (state_count t) l (λ k g. λ w. omega arith) (ltb-false _ _ (rw h at f))
    by j f false h = broken_row d j 0 l (λ k g. λ w. omega (arith, ltb-false j (state_count t) h)) (ltb-false _ _ (rw h at f))

  broken_block : (d : ℕ) → d ≤ depth_in words → block? t words d ≡ false → Broken t words
  unfolding block?
  broken_block d l e = ⊎_elim (broken_letter d l) (broken_rows d l) (one_false _ _ e)

  broken_above : zeros? words (block_place (suc (depth_in words))) state_size ≡ false → Broken t words
  unfolding zeros?
  broken_above e = let i = all_fails _ _ e in above_depth (block_place (suc (depth_in words)) + i.0) (omega arith) (omega (arith, i.1)) (eqb-false _ _ i.2)

  pub illegal_broken : legal? t words ≡ false → Broken t words
  unfolding legal?
  illegal_broken e =
      ⊎_elim broken_leading
      (λ f. ⊎_elim (λ g. let d = all_fails (block? t words) (suc (depth_in words)) g in broken_block d.0 (omega (arith, d.1)) d.2) broken_above (one_false _ _ f))
      (one_false _ _ e)
