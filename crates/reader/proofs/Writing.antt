-- Words written one after the other from a place on.
use Prim.Native.Nat.{ℕ, ◌+◌, ◌<◌, ◌≤◌}
use mathlib.Core.Bool.{Bool, true, false, cond}
use mir.Val.{bool_byte}
use mathlib.Core.List.{List}
use mathlib.Core.Logic.{inl, inr, ⊎_elim}
use mathlib.Core.Path.{◌≡◌, refl, ◌∙◌}
use native.Mathlib.Decide.{ℕ_discrete}
use native.Mathlib.Omega.{arith}
use lib.ListN.{length, get_or, set, length-set}
use lib.Seq.{get_or-set_same, get_or-set_other}
use Rattle.reader.specs.declared.Head.{Head}
use Rattle.reader.specs.Layout.{leading}
use Rattle.reader.specs.Steps.{Written, head_words}
use Rattle.reader.proofs.Numbers.{leading_is}

pub written_none : {place : ℕ} {f : ℕ → ℕ} (words : List ℕ) → Written place 0 f words words
written_none words = record { long = refl; inside = λ j l. absurd (omega arith); outside = λ i l. refl }

pub written_more : {place count : ℕ} {f : ℕ → ℕ} {before after : List ℕ} (at x : ℕ) → at ≡ place + count → x ≡ f count → at < length after
    → Written place count f before after → Written place (count + 1) f before (set after at x)
written_more {place} {count} {f} {before} {after} at x here is low h = record {
  long = length-set after at x ∙ h.long;
  inside = λ j l. by j l (ℕ_discrete j count);
  outside = λ i l. get_or-set_other after at i x 0 (λ e. ⊎_elim (λ m. omega arith) (λ m. omega arith) l) ∙ h.outside i (⊎_elim inl (λ m. inr (omega arith)) l);
}
  where
    by : (j : ℕ) → j < count + 1 → Dec (j ≡ count) → get_or (set after at x) (place + j) 0 ≡ f j
    by j l (yes e) = rw (e, ← here) (get_or-set_same after at x 0 low ∙ is)
    by j l (no n) = get_or-set_other after at (place + j) x 0 (λ e. n (omega arith)) ∙ h.inside j (omega (arith, n))

-- The count that a loop ends with is the whole one.
pub written_all : {place : ℕ} (n count : ℕ) {f : ℕ → ℕ} {before after : List ℕ} → n ≤ count → count ≤ n → Written place n f before after → Written place count f before after
written_all n count l g h = let e : n ≡ count = omega arith in rw e at h

-- Whether a head is stopped, as the library makes it a number.
pub flag_word : (b : Bool) → bool_byte b ≡ cond b 1 0
flag_word true = refl
flag_word false = refl

-- A head, one word for each field.
pub head_written : (head : Head) (words : List ℕ) {x : ℕ} → 3 ≤ length words → x ≡ cond head.stopped 1 0
    → Written 0 leading (λ j. get_or (head_words head) j 0) words (set (set (set words 0 head.taken) 1 head.depth) 2 x)
unfolding head_words
head_written head words {x} l e =
    let one : Written 0 1 (λ j. get_or (head_words head) j 0) words (set words 0 head.taken) = written_more 0 head.taken refl refl (omega arith) (written_none words) in
    let two : Written 0 2 (λ j. get_or (head_words head) j 0) words (set (set words 0 head.taken) 1 head.depth) = written_more 1 head.depth refl refl (omega (arith, one.long)) one in
    written_all 3 leading (omega (arith, leading_is)) (omega (arith, leading_is)) (written_more 2 x refl e (omega (arith, two.long)) two)
