-- Refusals 11 to 13: the number that refuses a letter is given for its reason, and what is so of a letter that none refuses.
use Prim.Native.Nat.{ℕ, ◌<◌, ◌≤◌}
use mathlib.Core.Bool.{Bool, true, false}
use mathlib.Core.List.{List}
use mathlib.Core.Logic.{◌↔◌}
use mathlib.Core.Path.{◌≡◌, refl, sym, subst, ◌∙◌}
use native.Mathlib.Omega.{arith}
use borrow.Author.Tests.{ltb-true, ltb-false, leb-true, leb-false, lt-ltb, le-ltb, le-leb}
use lib.Dec.{ltb, leb}
use Rattle.vpa.specs.Automaton.{opening}
use Rattle.vpa.specs.ReaderComputed.{ReaderState}
use Rattle.vpa.specs.TableOnDisk.{Table, letter_count, kind_in, is_kind?}
use Rattle.vpa.proofs.TableMoves.{kind_eq, kind_test}
use Rattle.table.specs.Logs.{longest_log}
use Rattle.reader.specs.declared.Head.{Head}
use Rattle.reader.specs.Layout.{deepest, depth_of}
use Rattle.reader.specs.Refusals.{too_deep?, letter_verdict, LetterReason, past_letters, log_full, open_too_deep}
use Rattle.reader.specs.Steps.{state_with}
use Rattle.reader.proofs.Words.{blocks_length}

-- A letter is refused for the reason there is, or there is none and it may be taken.
module _ (t : Table) (r : ReaderState) (a : ℕ) where
  pub data Judged : Type 0 where
    may_go : letter_verdict t r a ≡ 0 → a < letter_count t → r.taken < longest_log → (kind_in t a ≡ opening → depth_of r < deepest) → Judged
    may_not : (k : ℕ) → letter_verdict t r a ≡ k → LetterReason t r a k → Judged

  pub judged : Judged
  unfolding letter_verdict too_deep?
  judged = by (ltb a (letter_count t)) refl (ltb r.taken longest_log) refl (is_kind? (kind_in t a) opening) refl (leb deepest (depth_of r)) refl where
    by : (b : Bool) → ltb a (letter_count t) ≡ b → (c : Bool) → ltb r.taken longest_log ≡ c → (o : Bool) → is_kind? (kind_in t a) opening ≡ o
        → (d : Bool) → leb deepest (depth_of r) ≡ d → Judged
    by false e c f o g d h = may_not 11 (rw e) (past_letters (ltb-false _ _ e))
    by true e false f o g d h = may_not 12 (rw (e, f)) (log_full (ltb-true _ _ e) (ltb-false _ _ f))
    by true e true f true g true h =
        may_not 13 (rw (e, f, g, h)) (open_too_deep (ltb-true _ _ e) (ltb-true _ _ f) (kind_eq (kind_in t a) opening (rw g tt)) (leb-true _ _ h))
    by true e true f true g false h = may_go (rw (e, f, g, h)) (ltb-true _ _ e) (ltb-true _ _ f) (λ k. leb-false _ _ h)
    by true e true f false g d h = may_go (rw (e, f, g)) (ltb-true _ _ e) (ltb-true _ _ f) (λ k. absurd (rw g at (kind_test (kind_in t a) opening k)))

  pub reason_verdict : {k : ℕ} → LetterReason t r a k → letter_verdict t r a ≡ k
  unfolding letter_verdict too_deep? is_kind?
  reason_verdict (past_letters l) = rw (le-ltb _ _ l)
  reason_verdict (log_full l g) = rw (lt-ltb _ _ l, le-ltb _ _ g)
  reason_verdict (open_too_deep l g k d) = rw (lt-ltb _ _ l, lt-ltb _ _ g, k, le-leb _ _ d)

  pub reason_number : {k : ℕ} → LetterReason t r a k → (11 ≤ k) × (k ≤ 13)
  reason_number (past_letters l) = (omega arith, omega arith)
  reason_number (log_full l g) = (omega arith, omega arith)
  reason_number (open_too_deep l g k d) = (omega arith, omega arith)

  -- The number is exact.
  pub letter_verdict_iff : (k : ℕ) → ((letter_verdict t r a ≡ k) × (k ≡ 0 → ⊥)) ↔ LetterReason t r a k
  letter_verdict_iff k = (λ h. by judged h, λ w. (reason_verdict w, λ z. omega (arith, reason_number w))) where
    by : Judged → (letter_verdict t r a ≡ k) × (k ≡ 0 → ⊥) → LetterReason t r a k
    by (may_go e l g d) (f, n) = absurd (n (sym f ∙ e))
    by (may_not j e w) (f, n) = subst (LetterReason t r a) (sym e ∙ f) w

  -- Where there is no reason there is no number, and the other way round.
  pub verdict_none : a < letter_count t → r.taken < longest_log → (kind_in t a ≡ opening → depth_of r < deepest) → letter_verdict t r a ≡ 0
  verdict_none own more low = by judged where
    none : {k : ℕ} → LetterReason t r a k → ⊥
    none (past_letters l) = omega arith
    none (log_full l g) = omega arith
    none (open_too_deep l g o d) = omega (arith, low o)

    by : Judged → letter_verdict t r a ≡ 0
    by (may_go v l g d) = v
    by (may_not k v w) = absurd (none w)

  pub verdict_zero : letter_verdict t r a ≡ 0 → (a < letter_count t) × (r.taken < longest_log) × (kind_in t a ≡ opening → depth_of r < deepest)
  verdict_zero z = by judged where
    by : Judged → (a < letter_count t) × (r.taken < longest_log) × (kind_in t a ≡ opening → depth_of r < deepest)
    by (may_go v l g d) = (l, g, d)
    by (may_not k v w) = absurd (omega (arith, reason_number w))

-- The same of a head.
pub record Takes (t : Table) (head : Head) (a : ℕ) : Type 0 where
  pub own : a < letter_count t
  pub more : head.taken < longest_log
  pub low : kind_in t a ≡ opening → head.depth < deepest

pub takes : (t : Table) (head : Head) (words : List ℕ) (a : ℕ) → letter_verdict t (state_with head words) a ≡ 0 → Takes t head a
unfolding state_with
takes t head words a e =
    let v = verdict_zero t (state_with head words) a e in
    record { own = v.0; more = v.1; low = λ kind. omega (arith, v.2 kind, blocks_length words head.depth) }
