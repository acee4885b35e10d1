-- A reader's state fits into words: the first one does, and with a state that does each that a letter leads to which is not refused.
use Prim.Native.Nat.{ℕ, suc, ◌<◌, ◌≤◌}
use mathlib.Core.Bool.{Bool, true, false}
use mathlib.Core.List.{List, [], ◌∷◌}
use mathlib.Core.Path.{◌≡◌, refl}
use native.Mathlib.Omega.{arith}
use borrow.Author.Tests.{lt-ltb}
use lib.Dec.{T}
use lib.ListN.{length}
use Rattle.vpa.specs.Automaton.{Kind, plain, opening, closing}
use Rattle.vpa.specs.Lists.{Pair, sift, square, PairBefore}
use Rattle.vpa.specs.ReaderComputed.{Blocks, start_pairs, extend_pairs, open_pairs, join_pairs, candidate_blocks, holds?, ReaderState, begin_state, next_blocks, letter_state}
use Rattle.vpa.specs.TableOnDisk.{Table, state_count, letter_count, kind_in, is_kind?}
use Rattle.vpa.proofs.Lists.{sift_elim, square_elim, sorted_sift, sorted_square}
use Rattle.vpa.proofs.TableReader.{letter_stopped, letter_taken, letter_stops}
use Rattle.reader.specs.Refusals.{letter_word?, letter_verdict}
use Rattle.reader.proofs.Verdicts.{Judged, may_go, may_not, judged, reason_number}
use Rattle.reader.proofs.Words.{FitBlock, FitBlocks, fit_last, fit_more, Fits}

-- The pairs after begin and after a letter are pairs of states in order, so a block with them fits where its letter does.
module _ (t : Table) where
  fit_sifted : (f : Pair → Bool) {d a : ℕ} → letter_word? t d a ≡ true → FitBlock t d (a, sift f (square (state_count t)))
  fit_sifted f e = record {
    letter = e;
    inside = λ p q m. square_elim (state_count t) (sift_elim f (square (state_count t)) m).0;
    sorted = sorted_sift PairBefore f (sorted_square (state_count t));
  }

  pub begin_fits : Fits t (begin_state t)
  unfolding begin_state start_pairs letter_word?
  begin_fits = record { taken = omega arith; low = omega arith; blocks = fit_last (fit_sifted _ refl) }

  fit_top : {b : ℕ × List Pair} {bs : Blocks} → FitBlocks t (b ∷ bs) → FitBlock t (length bs) b
  fit_top (fit_last f) = f
  fit_top (fit_more f fs) = f

  fit_rest : {b c : ℕ × List Pair} {bs : Blocks} → FitBlocks t (b ∷ c ∷ bs) → FitBlocks t (c ∷ bs)
  fit_rest (fit_more f fs) = fs

  fit_other : {b c : ℕ × List Pair} {bs : Blocks} → FitBlocks t (b ∷ bs) → FitBlock t (length bs) c → FitBlocks t (c ∷ bs)
  fit_other (fit_last f) g = fit_last g
  fit_other (fit_more f fs) g = fit_more g fs

  -- What a letter of the table would make of blocks, where it makes any.
  candidate_fits : (j : Kind) (a : ℕ) (ks : Blocks) → kind_in t a ≡ j → a < letter_count t → FitBlocks t ks
      → T (holds? (candidate_blocks t j a ks)) → FitBlocks t (candidate_blocks t j a ks)
  unfolding candidate_blocks holds? extend_pairs open_pairs join_pairs letter_word? is_kind?
  candidate_fits plain a [] e l f h = absurd h
  candidate_fits plain a (k ∷ ks) e l f h = fit_other f (fit_sifted _ (fit_top f).letter)
  candidate_fits opening a [] e l f h = absurd h
  candidate_fits opening a (k ∷ ks) e l f h = fit_more (fit_sifted _ {d = suc (length ks)} {a = a} (rw (lt-ltb _ _ l, e))) f
  candidate_fits closing a [] e l f h = absurd h
  candidate_fits closing a (k ∷ []) e l f h = absurd h
  candidate_fits closing a (k ∷ m ∷ ks) e l f h = fit_other (fit_rest f) (fit_sifted _ (fit_top (fit_rest f)).letter)

  -- Only an open letter makes more blocks, and one more.
  candidate_low : (j : Kind) (a : ℕ) (ks : Blocks) {most : ℕ} → (j ≡ opening → length ks < most) → length ks ≤ most → length (candidate_blocks t j a ks) ≤ most
  unfolding candidate_blocks
  candidate_low plain a [] o l = l
  candidate_low plain a (k ∷ ks) o l = l
  candidate_low opening a [] o l = l
  candidate_low opening a (k ∷ ks) o l = o refl
  candidate_low closing a [] o l = l
  candidate_low closing a (k ∷ []) o l = omega arith
  candidate_low closing a (k ∷ m ∷ ks) o l = omega arith

  pub letter_fits : (a : ℕ) (r : ReaderState) → Fits t r → letter_verdict t r a ≡ 0 → Fits t (letter_state t a r)
  letter_fits a r f v = by r.stopped refl (holds? (next_blocks t a r)) refl (judged t r a) where
    by : (s : Bool) → r.stopped ≡ s → (b : Bool) → holds? (next_blocks t a r) ≡ b → Judged t r a → Fits t (letter_state t a r)
    by s e b h (may_not k d w) = absurd (omega (arith, reason_number t r a w))
    by true e b h (may_go z l g d) = rw (letter_stopped t a r e) f
    by false e false h (may_go z l g d) = rw (letter_stops t a r e (λ x. rw h at x)) (record { taken = f.taken; low = f.low; blocks = f.blocks })
    by false e true h (may_go z l g d) = rw (letter_taken t a r e (rw h tt)) (record {
      taken = g;
      low = candidate_low (kind_in t a) a r.blocks (λ o. omega (arith, d o)) f.low;
      blocks = candidate_fits (kind_in t a) a r.blocks refl l f.blocks (rw h tt);
    })
