-- Laws of a log's balance and of its lowest: the counts that it is the difference of, how far from 0 it can be, that the computed lowest is the lowest, what one
-- letter more does; and that along a run the balance is what the stack has grown by, so that an accepted log has 0 for both.
use Prim.Native.Nat.{ℕ, zero, suc, ◌+◌, ◌≤◌}
use native.Mathlib.Omega.{arith}
use mathlib.Core.Bool.{Bool, true, false, cond}
use mathlib.Core.List.{List, [], ◌∷◌, ◌++◌, append-nil}
use mathlib.Core.Logic.{◌↔◌}
use mathlib.Core.Path.{◌≡◌, refl, sym, ap, ◌∙◌, subst}
use lib.Dec.{T, leb→le, le→leb, ltb→lt, leb-zero, leb-suc-zero, leb-suc-suc}
use lib.IntN.{ℤ, pos, negsuc, suc_ℤ, pred_ℤ, neg_ℤ, nat_abs, ◌+ℤ◌, ◌-ℤ◌, suc-pred, neg_ℤ-suc_ℤ, +ℤ-suc_ℤ, +ℤ-pred_ℤ, suc_ℤ-+ℤ, pred_ℤ-+ℤ, +ℤ_idl, +ℤ_idr, +ℤ_assoc}
use lib.ListN.{length, length-append}
use lib.Signed.{lt_z, le_z, ◌≤ℤ◌, ◌<ℤ◌, lt_z_yes, lt_z_no, le_z_yes, ≤ℤ_refl, <ℤ-≤ℤ_trans, clash_ℤ}
use Rattle.vpa.specs.Automaton.{Kind, plain, opening, closing, Move, letter, move_kind, Vpa, Run, run_done, run_plain, run_open, run_close, spells, Accepts}
use Rattle.vpa.specs.Balance.{change, balance, letters_of, IsLowest, lesser, lowest}
use Rattle.vpa.specs.Lists.{sift}
use Rattle.vpa.specs.TableOnDisk.{is_kind?}

-- The order of whole numbers, as far as the library leaves it out.
less_at_most : (x y : ℤ) → T (lt_z x y) → T (le_z x y)
less_at_most (pos a) (pos b) h = le→leb a b (omega (arith, ltb→lt a b h))
less_at_most (pos a) (negsuc b) h = absurd h
less_at_most (negsuc a) (pos b) h = tt
less_at_most (negsuc a) (negsuc b) h = le→leb b a (omega (arith, ltb→lt b a h))

at_most_both : (x y : ℤ) → T (le_z x y) → T (le_z y x) → x ≡ y
at_most_both (pos a) (pos b) h k = ap pos (omega (arith, leb→le a b h, leb→le b a k))
at_most_both (pos a) (negsuc b) h k = absurd h
at_most_both (negsuc a) (pos b) h k = absurd k
at_most_both (negsuc a) (negsuc b) h k = ap negsuc (omega (arith, leb→le b a h, leb→le a b k))

≤ℤ_antisym : {x y : ℤ} → x ≤ℤ y → y ≤ℤ x → x ≡ y
≤ℤ_antisym {x} {y} h k = at_most_both x y h.le k.le

not_less : {x y : ℤ} → (y <ℤ x → ⊥) → x ≤ℤ y
not_less {x} {y} n = by (lt_z y x) refl where
  by : (b : Bool) → lt_z y x ≡ b → x ≤ℤ y
  by true e = absurd (n (lt_z_yes (rw e tt)))
  by false e = lt_z_no (rw e tt)

≤ℤ_trans : {x y z : ℤ} → x ≤ℤ y → y ≤ℤ z → x ≤ℤ z
≤ℤ_trans h k = not_less (λ l. clash_ℤ (<ℤ-≤ℤ_trans l h) k)

suc_less : (x y : ℤ) → lt_z (suc_ℤ x) (suc_ℤ y) ≡ lt_z x y
suc_less (pos a) (pos b) = leb-suc-suc (suc a) b
suc_less (pos a) (negsuc zero) = leb-suc-zero (suc a)
suc_less (pos a) (negsuc (suc b)) = refl
suc_less (negsuc zero) (pos b) = leb-suc-suc 0 b ∙ leb-zero b
suc_less (negsuc zero) (negsuc zero) = refl
suc_less (negsuc zero) (negsuc (suc b)) = sym (leb-suc-zero (suc b))
suc_less (negsuc (suc a)) (pos b) = refl
suc_less (negsuc (suc a)) (negsuc zero) = sym (leb-suc-suc 0 a ∙ leb-zero a)
suc_less (negsuc (suc a)) (negsuc (suc b)) = sym (leb-suc-suc (suc b) a)

pred_less : (x y : ℤ) → lt_z (pred_ℤ x) (pred_ℤ y) ≡ lt_z x y
pred_less x y = sym (suc_less (pred_ℤ x) (pred_ℤ y)) ∙ rw (suc-pred x, suc-pred y)

-- What a letter adds, as the next number and the one before.
add_plain : (x : ℤ) → change plain +ℤ x ≡ x
unfolding change
add_plain x = +ℤ_idl x

add_open : (x : ℤ) → change opening +ℤ x ≡ suc_ℤ x
unfolding change
add_open x = suc_ℤ-+ℤ (pos 0) x ∙ ap suc_ℤ (+ℤ_idl x)

add_close : (x : ℤ) → change closing +ℤ x ≡ pred_ℤ x
unfolding change
add_close x = pred_ℤ-+ℤ (pos 0) x ∙ ap pred_ℤ (+ℤ_idl x)

suc_within : (z : ℤ) → nat_abs (suc_ℤ z) ≤ nat_abs z + 1
suc_within (pos n) = omega arith
suc_within (negsuc zero) = omega arith
suc_within (negsuc (suc n)) = omega arith

pred_within : (z : ℤ) → nat_abs (pred_ℤ z) ≤ nat_abs z + 1
pred_within (pos zero) = omega arith
pred_within (pos (suc n)) = omega arith
pred_within (negsuc n) = omega arith

change_less : (k : Kind) (x y : ℤ) → lt_z (change k +ℤ x) (change k +ℤ y) ≡ lt_z x y
change_less plain x y = rw (add_plain x, add_plain y)
change_less opening x y = rw (add_open x, add_open y, suc_less x y)
change_less closing x y = rw (add_close x, add_close y, pred_less x y)

change_at_most : (k : Kind) {x y : ℤ} → x ≤ℤ y → (change k +ℤ x) ≤ℤ (change k +ℤ y)
change_at_most k {x} {y} h = not_less (λ l. clash_ℤ (lt_z_yes (rw (change_less k y x) at l.lt)) h)

change_within : (k : Kind) (z : ℤ) → nat_abs (change k +ℤ z) ≤ nat_abs z + 1
change_within plain z = rw (add_plain z) (omega arith)
change_within opening z = rw (add_open z) (suc_within z)
change_within closing z = rw (add_close z) (pred_within z)

-- The lesser of two numbers.
module _ (x y : ℤ) where
  lesser_left : lesser x y ≤ℤ x
  lesser_left = by (lt_z y x) refl where
    by : (b : Bool) → lt_z y x ≡ b → cond b y x ≤ℤ x
    by true e = le_z_yes (less_at_most y x (rw e tt))
    by false e = ≤ℤ_refl x

  lesser_right : lesser x y ≤ℤ y
  lesser_right = by (lt_z y x) refl where
    by : (b : Bool) → lt_z y x ≡ b → cond b y x ≤ℤ y
    by true e = ≤ℤ_refl y
    by false e = lt_z_no (rw e tt)

change_lesser : (k : Kind) (x y : ℤ) → change k +ℤ lesser x y ≡ lesser (change k +ℤ x) (change k +ℤ y)
change_lesser k x y = by (lt_z y x) ∙ rw (change_less k y x) where
  by : (b : Bool) → change k +ℤ cond b y x ≡ cond b (change k +ℤ y) (change k +ℤ x)
  by true = refl
  by false = refl

lesser_assoc : (x y z : ℤ) → lesser x (lesser y z) ≡ lesser (lesser x y) z
lesser_assoc x y z = by (lt_z z y) refl (lt_z y x) refl (lt_z z x) refl where
  by : (p : Bool) → lt_z z y ≡ p → (q : Bool) → lt_z y x ≡ q → (r : Bool) → lt_z z x ≡ r → lesser x (cond p z y) ≡ lesser (cond q y x) z
  by true d true e true f = rw (d, f)
  by true d true e false f = clash_ℤ (<ℤ-≤ℤ_trans (lt_z_yes {a = z} {b = y} (rw d tt)) (le_z_yes (less_at_most y x (rw e tt)))) (lt_z_no (rw f tt))
  by true d false e r f = refl
  by false d true e r f = rw (d, e)
  by false d false e true f = clash_ℤ (<ℤ-≤ℤ_trans (lt_z_yes {a = z} {b = x} (rw f tt)) (lt_z_no {a = y} {b = x} (rw e tt))) (lt_z_no (rw d tt))
  by false d false e false f = rw (e, f)

-- The balance is the number of opens less that of closes.
counted_more : (a : ℕ) (k : Kind) {z : ℤ} (opens closes : List ℕ) → z ≡ pos (length opens) -ℤ pos (length closes)
    → change k +ℤ z
    ≡ pos (length {A = ℕ} (elim (is_kind? k opening) as (λ b. List ℕ) [ true ↦ a ∷ opens | false ↦ opens ]))
    -ℤ pos (length {A = ℕ} (elim (is_kind? k closing) as (λ b. List ℕ) [ true ↦ a ∷ closes | false ↦ closes ]))
unfolding is_kind?
counted_more a plain {z} opens closes e = add_plain z ∙ e
counted_more a opening {z} opens closes e = add_open z ∙ ap suc_ℤ e ∙ sym (suc_ℤ-+ℤ (pos (length opens)) (neg_ℤ (pos (length closes))))
counted_more a closing {z} opens closes e =
    add_close z ∙ ap pred_ℤ e ∙ sym (+ℤ-pred_ℤ (pos (length opens)) (neg_ℤ (pos (length closes)))) ∙ ap (λ (y : ℤ). pos (length opens) +ℤ y) (sym (neg_ℤ-suc_ℤ (pos (length closes))))

pub balance_counts : (kind : ℕ → Kind) (w : List ℕ) → balance kind w ≡ pos (length (letters_of kind opening w)) -ℤ pos (length (letters_of kind closing w))
unfolding balance letters_of sift
balance_counts kind [] = refl
balance_counts kind (a ∷ w) = counted_more a (kind a) _ _ (balance_counts kind w)

module _ (kind : ℕ → Kind) where
  pub balance_append : (u v : List ℕ) → balance kind (u ++ v) ≡ balance kind u +ℤ balance kind v
  unfolding balance
  balance_append [] v = sym (+ℤ_idl (balance kind v))
  balance_append (a ∷ u) v = ap (λ (z : ℤ). change (kind a) +ℤ z) (balance_append u v) ∙ sym (+ℤ_assoc (change (kind a)) (balance kind u) (balance kind v))

  -- One letter at the end.
  pub balance_more : (w : List ℕ) (a : ℕ) → balance kind (w ++ (a ∷ [])) ≡ balance kind w +ℤ change (kind a)
  unfolding balance
  balance_more w a = balance_append w (a ∷ []) ∙ ap (λ (z : ℤ). balance kind w +ℤ z) (+ℤ_idr (change (kind a)))

  pub lowest_more : (w : List ℕ) (a : ℕ) → lowest kind (w ++ (a ∷ [])) ≡ lesser (lowest kind w) (balance kind (w ++ (a ∷ [])))
  unfolding balance lowest
  lowest_more [] a = refl
  lowest_more (b ∷ w) a =
      ap (λ (z : ℤ). lesser (pos 0) (change (kind b) +ℤ z)) (lowest_more w a) ∙ ap (lesser (pos 0)) (change_lesser (kind b) (lowest kind w) (balance kind (w ++ (a ∷ []))))
      ∙ lesser_assoc (pos 0) (change (kind b) +ℤ lowest kind w) (change (kind b) +ℤ balance kind (w ++ (a ∷ [])))

  -- No further from 0 than there are letters.
  pub balance_within : (w : List ℕ) → nat_abs (balance kind w) ≤ length w
  unfolding balance
  balance_within [] = omega arith
  balance_within (a ∷ w) = omega (arith, change_within (kind a) (balance kind w), balance_within w)

  -- The computed lowest is the lowest.
  lowest_reached : (w : List ℕ) → (u : List ℕ) × (v : List ℕ) × (u ++ v ≡ w) × (balance kind u ≡ lowest kind w)
  unfolding balance lowest
  lowest_reached [] = ([], [], refl, refl)
  lowest_reached (a ∷ w) = by (lt_z (change (kind a) +ℤ lowest kind w) (pos 0)) (lowest_reached w) where
    by : (b : Bool) → ((u : List ℕ) × (v : List ℕ) × (u ++ v ≡ w) × (balance kind u ≡ lowest kind w))
        → (u : List ℕ) × (v : List ℕ) × (u ++ v ≡ a ∷ w) × (balance kind u ≡ cond b (change (kind a) +ℤ lowest kind w) (pos 0))
    by true (u, v, e, f) = (a ∷ u, v, ap (λ (x : List ℕ). a ∷ x) e, ap (λ (z : ℤ). change (kind a) +ℤ z) f)
    by false r = ([], a ∷ w, refl, refl)

  lowest_of_prefixes : (u v : List ℕ) → lowest kind (u ++ v) ≤ℤ balance kind u
  unfolding balance lowest
  lowest_of_prefixes [] [] = ≤ℤ_refl (pos 0)
  lowest_of_prefixes [] (a ∷ v) = lesser_left (pos 0) (change (kind a) +ℤ lowest kind v)
  lowest_of_prefixes (a ∷ u) v = ≤ℤ_trans (lesser_right (pos 0) (change (kind a) +ℤ lowest kind (u ++ v))) (change_at_most (kind a) (lowest_of_prefixes u v))

  pub lowest_iff : (w : List ℕ) (z : ℤ) → IsLowest kind w z ↔ (lowest kind w ≡ z)
  lowest_iff w z = (there, back) where
    least : IsLowest kind w (lowest kind w)
    least = record { reached = lowest_reached w; none_lower = λ u v e. subst (λ (x : List ℕ). lowest kind x ≤ℤ balance kind u) e (lowest_of_prefixes u v) }

    there : IsLowest kind w z → lowest kind w ≡ z
    there h =
        let r = least.reached in
        let q = h.reached in
        ≤ℤ_antisym (subst (λ (x : ℤ). lowest kind w ≤ℤ x) q.3 (least.none_lower _ _ q.2)) (subst (λ (x : ℤ). z ≤ℤ x) r.3 (h.none_lower _ _ r.2))

    back : lowest kind w ≡ z → IsLowest kind w z
    back e = subst (IsLowest kind w) e least

  -- At most 0, at most the balance, and no further from 0 than there are letters.
  pub lowest_at_most : (w : List ℕ) → (lowest kind w ≤ℤ pos 0) × (lowest kind w ≤ℤ balance kind w)
  unfolding balance
  lowest_at_most w =
      let h = (lowest_iff w (lowest kind w)).1 refl in
      (h.none_lower [] w refl, h.none_lower w [] (append-nil w))

  pub lowest_within : (w : List ℕ) → nat_abs (lowest kind w) ≤ length w
  lowest_within w =
      let r = lowest_reached w in
      omega (arith, ap nat_abs r.3, balance_within r.0, length-append r.0 r.1, ap length r.2)

-- No further from 0 than n: from -n to n.
pub between : (n : ℕ) (z : ℤ) → nat_abs z ≤ n → (neg_ℤ (pos n) ≤ℤ z) × (z ≤ℤ pos n)
between zero (pos m) h = (le_z_yes (le→leb 0 m (omega arith)), le_z_yes (le→leb m 0 h))
between zero (negsuc m) h = absurd (omega arith)
between (suc n) (pos m) h = (le_z_yes tt, le_z_yes (le→leb m (suc n) h))
between (suc n) (negsuc m) h = (le_z_yes (le→leb m n (omega arith)), le_z_yes tt)

-- A stack below, and a letter that opens or closes: as with a stack that is higher by one, or lower.
stack_open : (n : ℕ) (z : ℤ) → pos n +ℤ (change opening +ℤ z) ≡ pos (suc n) +ℤ z
stack_open n z = ap (λ (x : ℤ). pos n +ℤ x) (add_open z) ∙ +ℤ-suc_ℤ (pos n) z ∙ sym (suc_ℤ-+ℤ (pos n) z)

stack_close : (n : ℕ) (z : ℤ) → pos (suc n) +ℤ (change closing +ℤ z) ≡ pos n +ℤ z
stack_close n z = ap (λ (x : ℤ). pos (suc n) +ℤ x) (add_close z) ∙ +ℤ-pred_ℤ (pos (suc n)) z ∙ sym (pred_ℤ-+ℤ (pos (suc n)) z)

not_below : (n : ℕ) (z : ℤ) → pos 0 ≤ℤ (pos n +ℤ z) → pos 0 ≤ℤ (pos n +ℤ lesser (pos 0) z)
not_below n z h = by (lt_z z (pos 0)) where
  by : (b : Bool) → pos 0 ≤ℤ (pos n +ℤ cond b z (pos 0))
  by true = h
  by false = le_z_yes (le→leb 0 (n + 0) (omega arith))

-- Along a run the balance is what the stack has grown by, and no prefix takes off more than there was.
module _ {Q Γ : Type 0} (A : Vpa Q Γ) where
  pub run_balance : {p q : Q} {σ τ : List Γ} {ms : List (Move Q Γ)} → Run A p σ ms q τ → pos (length σ) +ℤ balance A.kind (spells ms) ≡ pos (length τ)
  unfolding balance spells letter move_kind
  run_balance (run_done {σ = σ}) = +ℤ_idr (pos (length σ))
  run_balance (run_plain h r) = rw (A.fits _ h, add_plain) (run_balance r)
  run_balance (run_open h r) = rw (A.fits _ h, stack_open) (run_balance r)
  run_balance (run_close h r) = rw (A.fits _ h, stack_close) (run_balance r)

  -- The lowest of the prefixes that begin with a.
  abbrev first : ℕ → List (Move Q Γ) → ℤ
  first a ms = change (A.kind a) +ℤ lowest A.kind (spells ms)

  pub run_lowest : {p q : Q} {σ τ : List Γ} {ms : List (Move Q Γ)} → Run A p σ ms q τ → pos 0 ≤ℤ (pos (length σ) +ℤ lowest A.kind (spells ms))
  unfolding lowest spells letter move_kind
  run_lowest (run_done {σ = σ}) = le_z_yes (le→leb 0 (length σ + 0) (omega arith))
  run_lowest (run_plain {a = a} {σ = σ} {ms = ms} h r) = not_below (length σ) (first a ms) (rw (A.fits _ h, add_plain) (run_lowest r))
  run_lowest (run_open {a = a} {σ = σ} {ms = ms} h r) = not_below (length σ) (first a ms) (rw (A.fits _ h, stack_open) (run_lowest r))
  run_lowest (run_close {a = a} {γ = γ} {σ = σ} {ms = ms} h r) = not_below (length (γ ∷ σ)) (first a ms) (rw (A.fits _ h, stack_close) (run_lowest r))

  pub accepted_balance : {w : List ℕ} → Accepts A w → (balance A.kind w ≡ pos 0) × (lowest A.kind w ≡ pos 0)
  accepted_balance {w} h =
      let r = h.accepting.runs in
      let low : pos 0 ≤ℤ lowest A.kind w = rw (+ℤ_idl, h.spelt) at (run_lowest r) in
      (rw (+ℤ_idl, h.spelt) at (run_balance r), ≤ℤ_antisym (lowest_at_most A.kind w).0 low)
