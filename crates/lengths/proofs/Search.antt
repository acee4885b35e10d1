-- The search for the least lengths: a pair is taken from those that are due and settled, less work is left, and what holds of the lengths found so far
-- holds again; where nothing is due they are the least ones.
use Prim.Native.Nat.{ℕ, ◌+◌, ◌*◌, ◌%◌, ◌^◌, ◌<◌, ◌≤◌}
use mathlib.Core.List.{List}
use mathlib.Core.Logic.{⊎_elim}
use mathlib.Core.Path.{◌≡◌, sym, ap, ◌∙◌}
use native.Mathlib.Decide.{ℕ_discrete, dec_lt}
use native.Mathlib.Omega.{arith}
use lib.Bits.{bit_xor}
use lib.ListN.{length, get_or, set, get_or-eq_default}
use lib.Seq.{get_or-set_same, get_or-set_other}
use Rattle.vpa.specs.Automaton.{open_move, close_move}
use Rattle.vpa.specs.Shortest.{AtMost}
use Rattle.vpa.specs.TableOnDisk.{Table, state_count, InTable, IsTable}
use Rattle.vpa.proofs.TableMoves.{plain_bounds, open_bounds, close_bounds}
use Rattle.table.specs.Layout.{Storable}
use Rattle.relation.specs.Digits.{bit, total}
use Rattle.relation.specs.Relations.{Holds}
use Rattle.relation.proofs.Digits.{Drop, without, one_shifted, bit_lt, total_grows_below, total_equal, total_one_more}
use Rattle.relation.proofs.Relations.{digit_of, digit_none, no_digit}
use Rattle.lengths.specs.Limit.{over}
use Rattle.lengths.specs.Steps.{length_in, Least, Lowered, Settled, NoLengths, DueLengths, Searched, Taken, work_left}
use Rattle.lengths.proofs.Lowering.{at_most_less}

same_pair? : (x y p q : ℕ) → Dec ((x ≡ p) × (y ≡ q))
same_pair? x y p q = go (ℕ_discrete x p) (ℕ_discrete y q) where
  go : Dec (x ≡ p) → Dec (y ≡ q) → Dec ((x ≡ p) × (y ≡ q))
  go (yes d) (yes e) = yes (d, e)
  go (yes d) (no e) = no (λ w. e w.1)
  go (no d) e = no (λ w. d w.0)

-- The work that one pair leaves.
abbrev work : List ℕ → List ℕ → ℕ → ℕ → ℕ
work s due p q = 2 * length_in s p q + bit (get_or due p 0) q

-- The pair (p, q) taken out of row p, as the code does it.
module _ (due : List ℕ) (p q : ℕ) (low : q < 64) (e : bit (get_or due p 0) q ≡ 1) where
  abbrev row : ℕ
  row = bit_xor (get_or due p 0) (1 * 2 ^ q % 2 ^ 64)

  drop : Drop 64 (get_or due p 0) q row
  drop = rw (one_shifted 64 low) (without low e)

  here : get_or (set due p row) p 0 ≡ row
  here = get_or-set_same due p row 0 (inside (dec_lt p (length due))) where
    inside : Dec (p < length due) → p < length due
    inside (yes l) = l
    inside (no l) = absurd (no_digit q (get_or-eq_default due 0 {n = p} (omega arith)) e)

  kept_digit : (x y : ℕ) → ((x ≡ p) × (y ≡ q) → ⊥) → bit (get_or (set due p row) x 0) y ≡ bit (get_or due x 0) y
  kept_digit x y n = go (ℕ_discrete x p) where
    go : Dec (x ≡ p) → bit (get_or (set due p row) x 0) y ≡ bit (get_or due x 0) y
    go (yes d) = rw (d, here) (drop.kept y (λ f. n (d, f)))
    go (no d) = ap (λ (z : ℕ). bit z y) (get_or-set_other due p x row 0 d)

  pub taken_out : Taken p q due (set due p row)
  taken_out = record {
    low = low;
    was = record { digit = e };
    gone = λ h. absurd (omega (arith, rw here at h.digit, drop.gone));
    rest = λ x y n. (λ h. record { digit = sym (kept_digit x y n) ∙ h.digit }, λ h. record { digit = kept_digit x y n ∙ h.digit });
  }

module _ {p q : ℕ} {due due' : List ℕ} (taken : Taken p q due due') where
  taken_had : (x y : ℕ) → Holds due' x y → Holds due x y
  taken_had x y h = go (same_pair? x y p q) where
    go : Dec ((x ≡ p) × (y ≡ q)) → Holds due x y
    go (yes e) = rw (e.0, e.1) taken.was
    go (no n) = (taken.rest x y n).0 h

  digit_same : (x y : ℕ) → ((x ≡ p) × (y ≡ q) → ⊥) → bit (get_or due x 0) y ≡ bit (get_or due' x 0) y
  digit_same x y n = omega (arith, digit_of (taken.rest x y n).0, digit_of (taken.rest x y n).1)

  pub work_taken : (s : List ℕ) → p < 64 → work_left s due' < work_left s due
  unfolding work_left
  work_taken s l =
      let one_less =
      total_one_more 64 (λ x. total 64 (work s due x)) (λ x. total 64 (work s due' x)) l
      (total_one_more 64 (work s due p) (work s due' p) taken.low (omega (arith, taken.was.digit, digit_none taken.gone))
      (λ y n. omega (arith, digit_same p y (λ e. n e.1))))
      (λ x n. total_equal 64 (work s due x) (work s due' x) (λ y m. omega (arith, digit_same x y (λ e. n e.0)))) in
      omega arith

  dues_taken : {s : List ℕ} → DueLengths s due → DueLengths s due'
  dues_taken d = record { most = d.most; has = λ x y l m h. d.has x y l m (taken_had x y h) }

-- A pair that is due anew counts once, and its length has fallen, which counts twice.
module _ {s due s' due' : List ℕ} (lowered : Lowered s due s' due') where
  pub work_lowered : work_left s' due' ≤ work_left s due
  unfolding work_left
  work_lowered =
      total_grows_below 64 (λ p. total 64 (work s' due' p)) (λ p. total 64 (work s due p))
      (λ p l. total_grows_below 64 (work s' due' p) (work s due p) (λ q m. at p q l m (ℕ_discrete (bit (get_or due' p 0) q) 1)))
    where
      at : (p q : ℕ) → p < 64 → q < 64 → Dec (bit (get_or due' p 0) q ≡ 1) → work s' due' p q ≤ work s due p q
      at p q l m (no n) = omega (arith, lowered.less p q l m, bit_lt (get_or due' p 0) q)
      at p q l m (yes e) =
          ⊎_elim (λ (h : Holds due p q). omega (arith, lowered.less p q l m, h.digit)) (λ (k : length_in s' p q < length_in s p q). omega arith)
          (lowered.gained p q l m (record { digit = e }))

  pub dues_lowered : DueLengths s due → DueLengths s' due'
  dues_lowered d = record {
    most = λ p q l m. omega (arith, lowered.less p q l m, d.most p q l m);
    has = λ p q l m h.
        ⊎_elim (λ (g : Holds due p q). omega (arith, lowered.less p q l m, d.has p q l m g))
        (λ (k : length_in s' p q < length_in s p q). omega (arith, d.most p q l m)) (lowered.gained p q l m h);
  }

pub dues_none : {s due : List ℕ} → NoLengths s → ((p q : ℕ) → Holds due p q → ⊥) → DueLengths s due
dues_none none empty = record { most = λ p q l m. omega (arith, none.none p q l m); has = λ p q l m h. absurd (empty p q h) }

-- What is not due after (p, q) is settled has the length it had, and was not due before unless it is (p, q): what follows from it is then what was settled.
module _ {t : Table} (is : Storable t) {n p q : ℕ} (all : n ≡ state_count t) {s due due₁ s₂ due₂ : List ℕ} where
  pub searched_settled : p < n → Searched t s due → Taken p q due due₁ → Settled t n p q (length_in s p q) s due₁ s₂ due₂ → Searched t s₂ due₂
  searched_settled inside before taken settled = record {
    sound = settled.sound before.sound (before.sound.has p q low taken.low (before.dues.has p q low taken.low taken.was));
    dues = dues_lowered lowered (dues_taken taken before.dues);
    same = λ x l. omega (arith, less x x l l, before.same x l);
    step = λ x y a m. let b = plain_bounds t fit m in omega (arith, less x y b.0 b.2, before.step x y a m);
    join = λ x y z l m n h g. join x y z l m n h g (same_pair? x y p q) (same_pair? y z p q);
    nest = λ p' x y q' a b γ m n h. nest p' x y q' a b γ m n h (same_pair? x y p q);
  }
    where
      fit : IsTable t
      fit = is.table

      small : {x : ℕ} → x < state_count t → x < 64
      small l = omega (arith, is.states)

      low : p < 64
      low = small (omega arith)

      lowered : Lowered s due₁ s₂ due₂
      lowered = settled.lowered

      less : (x y : ℕ) → x < state_count t → y < state_count t → length_in s₂ x y ≤ length_in s x y
      less x y l m = lowered.less x y (small l) (small m)

      kept : (x y : ℕ) → x < state_count t → y < state_count t → (Holds due₂ x y → ⊥) → length_in s₂ x y ≡ length_in s x y
      kept x y l m h = ⊎_elim (λ e. e) (λ g. absurd (h g)) (lowered.told x y (small l) (small m))

      free : {x y : ℕ} → ((x ≡ p) × (y ≡ q) → ⊥) → (Holds due₂ x y → ⊥) → Holds due x y → ⊥
      free {x} {y} n h g = h (lowered.stays x y ((taken.rest x y n).1 g))

      join : (x y z : ℕ) → x < state_count t → y < state_count t → z < state_count t → (Holds due₂ x y → ⊥) → (Holds due₂ y z → ⊥)
          → Dec ((x ≡ p) × (y ≡ q)) → Dec ((y ≡ p) × (z ≡ q)) → length_in s₂ x y ≤ over → length_in s₂ y z ≤ over
          → AtMost over (length_in s₂ x z) (length_in s₂ x y + length_in s₂ y z)
      join x y z l m n h g d e a b = rw (kept x y l m h, kept y z m n g) (go d e (rw (kept x y l m h) at a) (rw (kept y z m n g) at b)) where
        go : Dec ((x ≡ p) × (y ≡ q)) → Dec ((y ≡ p) × (z ≡ q)) → length_in s x y ≤ over → length_in s y z ≤ over
            → AtMost over (length_in s₂ x z) (length_in s x y + length_in s y z)
        go (yes d) e a b = rw (d.0, d.1) (settled.after z (omega arith) (rw d.1 at b))
        go (no d) (yes e) a b = rw (e.0, e.1) (settled.before x (omega arith) (rw e.0 at a))
        go (no d) (no e) a b = at_most_less (before.join x y z l m n (free d h) (free e g) a b) (less x z l n)

      nest : (p' x y q' a b γ : ℕ) → InTable t (open_move p' a γ x) → InTable t (close_move y b γ q') → (Holds due₂ x y → ⊥) → Dec ((x ≡ p) × (y ≡ q))
          → length_in s₂ x y ≤ over → AtMost over (length_in s₂ p' q') (length_in s₂ x y + 2)
      nest p' x y q' a b γ m n h d k =
          let o = open_bounds t fit m in
          let c = close_bounds t fit n in
          let same = kept x y o.3 c.0 h in
          rw same (go d (rw same at k))
        where
          go : Dec ((x ≡ p) × (y ≡ q)) → length_in s x y ≤ over → AtMost over (length_in s₂ p' q') (length_in s x y + 2)
          go (yes d) k = rw (d.0, d.1) (settled.around p' q' a b γ (rw d.0 at m) (rw d.1 at n))
          go (no d) k = at_most_less (before.nest p' x y q' a b γ m n (free d h) k) (less p' q' (open_bounds t fit m).0 (close_bounds t fit n).3)

-- Where nothing is due, the rules lower nothing any more.
pub searched_all : {t : Table} {n : ℕ} {s due : List ℕ} → Storable t → n ≡ state_count t → ((x : ℕ) → x < n → get_or due x 0 ≡ 0) → Searched t s due → Least t s
searched_all {t} {n} {s} {due} is all none h = record {
  closed = record {
    same = h.same;
    join = λ x y z l m k. h.join x y z l m k (free x y l) (free y z m);
    step = h.step;
    nest = λ p' x y q' a b γ m k. h.nest p' x y q' a b γ m k (free x y (open_bounds t is.table m).3);
  };
  has = λ x y l m. h.sound.has x y (omega (arith, is.states)) (omega (arith, is.states));
}
  where
    free : (x y : ℕ) → x < state_count t → Holds due x y → ⊥
    free x y l g = no_digit y (none x (omega arith)) g.digit
