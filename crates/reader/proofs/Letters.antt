-- Whether a letter opens, as the code asks it.
use Prim.Native.Nat.{ℕ, zero, suc, ◌<◌}
use mathlib.Core.Bool.{Bool, true, false, ◌&&◌}
use mathlib.Core.List.{List}
use mathlib.Core.Path.{◌≡◌, refl, sym, subst, ◌∙◌}
use native.Mathlib.Decide.{dec_lt}
use native.Mathlib.Omega.{arith}
use borrow.Author.Tests.{lt-ltb, le-ltb}
use lib.Dec.{T, ltb}
use Rattle.vpa.specs.Automaton.{opening}
use Rattle.vpa.specs.TableOnDisk.{letter_count, kind_in, is_kind?}
use Rattle.vpa.proofs.TableMoves.{kind_eq}
use Rattle.table.specs.Calls.{kind_answer}
use Rattle.table.specs.Layout.{parse}
use Rattle.table.proofs.All.{both, and_true}
use Rattle.table.proofs.CallLaws.{kind_there, kind_none}
use Rattle.nesting.specs.Steps.{of_kind?}
use Rattle.reader.specs.Refusals.{letter_word?}

module _ (s : List ℕ) (a : ℕ) where
  abbrev opens? : Bool
  opens? = of_kind? (kind_answer s a) opening

  asked : opens? ≡ ltb a (letter_count (parse s)) && is_kind? (kind_in (parse s) a) opening
  unfolding of_kind?
  asked = by (dec_lt a (letter_count (parse s))) where
    by : Dec (a < letter_count (parse s)) → opens? ≡ ltb a (letter_count (parse s)) && is_kind? (kind_in (parse s) a) opening
    by (yes l) = rw (kind_there s a l, lt-ltb _ _ l)
    by (no g) = rw (kind_none s a (omega arith), le-ltb a (letter_count (parse s)) (omega arith))

  -- What the answer tells.
  pub open_told : opens? ≡ true → kind_in (parse s) a ≡ opening
  open_told e = kind_eq _ _ (subst T (sym (both (ltb a (letter_count (parse s))) (is_kind? (kind_in (parse s) a) opening) (sym asked ∙ e)).1) tt)

  pub none_told : a < letter_count (parse s) → opens? ≡ false → kind_in (parse s) a ≡ opening → ⊥
  unfolding is_kind?
  none_told l e k = let o : opens? ≡ true = asked ∙ and_true (lt-ltb _ _ l) (rw k) in let z : true ≡ false = sym o ∙ e in cc

  -- Of a block that is not the first it is the test of the letter word.
  pub word_asked : (d : ℕ) → (d ≡ 0 → ⊥) → letter_word? (parse s) d a ≡ opens?
  unfolding letter_word?
  word_asked zero n = absurd (n refl)
  word_asked (suc d) n = sym asked
