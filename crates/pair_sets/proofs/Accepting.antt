-- The first pairs, and the search for a pair of an initial and a final state.
use Prim.Native.Nat.{ℕ, ◌+◌, ◌-◌, ◌^◌, ◌≤◌, ◌<◌}
use mathlib.Core.Bool.{Bool, true, false}
use mathlib.Core.List.{List, ◌++◌}
use mathlib.Core.Logic.{◌↔◌, ◌⊎◌, inl, inr, ⊎_elim}
use mathlib.Core.Path.{◌≡◌, refl, sym, subst, ◌∙◌}
use native.Mathlib.Decide.{ℕ_discrete, dec_lt}
use native.Mathlib.Nat.{eq-or-lt_of_le}
use native.Mathlib.Omega.{arith}
use lib.Bits.{bit_or}
use lib.Dec.{T}
use lib.ListN.{length, get_or, set, take, drop, replicate, length-set, get_or-append}
use lib.Seq.{length-take-le, get_or-set_same, get_or-set_other, get_or-drop, get_or-append_right}
use Rattle.vpa.specs.Reader.{Started, FinishedBlock}
use Rattle.vpa.specs.TableOnDisk.{Table, state_count, initial?, final?, automaton}
use Rattle.std.specs.List.{Any, list_any}
use Rattle.std.proofs.lemmas.List.Folds.{Any-from_list_any, list_any-from_Any}
use Rattle.vpa.proofs.Lists.{is_true}
use Rattle.vpa.proofs.TableMoves.{initial_bound}
use Rattle.relation.specs.Digits.{bit, ones_of}
use Rattle.relation.specs.Relations.{Holds, HoldsExactly, DigitsExactly}
use Rattle.relation.proofs.Digits.{bit_inside}
use Rattle.relation.proofs.OnesListed.{ones_iff}
use Rattle.relation.proofs.Relations.{zero_row, no_digit, or_digit}
use Rattle.pair_sets.specs.Steps.{FromInitial, FinalAmong}

-- A test that came out true, or false.
holds : {b : Bool} → b ≡ true → T b
holds e = subst T (sym e) tt

fails : {b : Bool} → b ≡ false → T b → ⊥
fails e h = subst T e h

-- A row of the first pairs.
pub started_row : {t : Table} {p : ℕ} (y : ℕ) → ((k : ℕ) → (bit y k ≡ 1) ↔ ((k ≡ p) × T (initial? t k))) → (k : ℕ) → (bit y k ≡ 1) ↔ Started (automaton t) p k
started_row {t} {p} y h k = (
  λ e. let w = (h k).0 e in record { alone = sym w.0; begins = subst (λ i. T (initial? t i)) w.0 w.1 },
  λ w. (h k).1 (sym w.alone, subst (λ i. T (initial? t i)) w.alone w.begins),
)

-- The rows of the first n numbers, those below i filled as P says.
pub record RowsTo (P : ℕ → ℕ → Type 0) (n i : ℕ) (rows : List ℕ) : Type 0 where
  pub long : length rows ≡ n
  pub at : (j k : ℕ) → j < i → (bit (get_or rows j 0) k ≡ 1) ↔ P j k

module _ {P : ℕ → ℕ → Type 0} {n : ℕ} where
  pub to_none : n ≤ 64 → RowsTo P n 0 (take n (replicate 64 0))
  to_none l = record { long = length-take-le n (replicate 64 0) l; at = λ j k m. absurd (omega arith) }

  pub to_more : {i : ℕ} (y : ℕ) {rows : List ℕ} → i < n → RowsTo P n i rows → ((k : ℕ) → (bit y k ≡ 1) ↔ P i k) → RowsTo P n (i + 1) (set rows i y)
  to_more {i} y {rows} l h row = record { long = length-set rows i y ∙ h.long; at = λ j k m. go j k m (ℕ_discrete j i) } where
    go : (j k : ℕ) → j < i + 1 → Dec (j ≡ i) → (bit (get_or (set rows i y) j 0) k ≡ 1) ↔ P j k
    go j k m (yes e) = rw (e, get_or-set_same rows i y 0 (omega (arith, h.long))) (row k)
    go j k m (no d) = rw (get_or-set_other rows i j y 0 d) (h.at j k (omega arith))

  -- With zeros after them they are all rows.
  pub to_all : {i : ℕ} {rows : List ℕ} → n ≤ 64 → n ≤ i → ((j k : ℕ) → P j k → j < n) → RowsTo P n i rows → HoldsExactly (rows ++ drop n (replicate 64 0)) P
  to_all {i} {rows} l g low h = record { at = λ j k. by j k (dec_lt j n) } where
    by : (j k : ℕ) → Dec (j < n) → Holds (rows ++ drop n (replicate 64 0)) j k ↔ P j k
    by j k (yes m) =
        let e : get_or (rows ++ drop n (replicate 64 0)) j 0 ≡ get_or rows j 0 = get_or-append rows (drop n (replicate 64 0)) 0 j (omega (arith, h.long)) in
        (λ o. (h.at j k (omega arith)).0 (rw e at o.digit), λ w. record { digit = rw e ((h.at j k (omega arith)).1 w) })
    by j k (no m) =
        let e : get_or (rows ++ drop n (replicate 64 0)) j 0 ≡ 0 =
        get_or-append_right rows (drop n (replicate 64 0)) j 0 (omega (arith, h.long)) ∙ get_or-drop n (replicate 64 0) (j - length rows) 0 ∙ zero_row 64 (n + (j - length rows)) in
        (λ o. absurd (no_digit k e o.digit), λ w. absurd (m (low j k w)))

-- The second halves of the pairs from initial states, one state after the other.
module _ {t : Table} {pairs : List ℕ} where
  pub from_none : DigitsExactly 0 (FromInitial t 0 pairs)
  from_none = record { at = λ k. (λ e. absurd (no_digit k refl e), λ w. absurd (omega (arith, w.low))) }

  module _ {n : ℕ} where
    later : {k : ℕ} → FromInitial t n pairs k → FromInitial t (n + 1) pairs k
    later w = record { i = w.i; low = omega (arith, w.low); begins = w.begins; pair = w.pair }

    last : {k : ℕ} (w : FromInitial t (n + 1) pairs k) → (w.i ≡ n) ⊎ FromInitial t n pairs k
    last w = ⊎_elim inl (λ l. inr (record { i = w.i; low = l; begins = w.begins; pair = w.pair })) (eq-or-lt_of_le (omega (arith, w.low)))

    -- One more state looked at: it is initial, or not.
    module _ {x : ℕ} {b : Bool} (h : DigitsExactly x (FromInitial t n pairs)) (tested : initial? t n ≡ b) where
      pub from_past : b ≡ false → DigitsExactly x (FromInitial t (n + 1) pairs)
      from_past e = record {
        at = λ k. (
          λ d. later ((h.at k).0 d),
          λ w. ⊎_elim (λ d. absurd (fails (tested ∙ e) (subst (λ i. T (initial? t i)) d w.begins))) (h.at k).1 (last w),
        );
      }

      pub from_here : b ≡ true → DigitsExactly (bit_or x (get_or pairs n 0)) (FromInitial t (n + 1) pairs)
      from_here e = record { at = λ k. (λ d. forth k ((or_digit _ _ k).0 d), λ w. (or_digit _ _ k).1 (back k w (last w))) } where
        forth : (k : ℕ) → (bit x k ≡ 1) ⊎ (bit (get_or pairs n 0) k ≡ 1) → FromInitial t (n + 1) pairs k
        forth k (inl d) = later ((h.at k).0 d)
        forth k (inr d) = record { i = n; low = omega arith; begins = holds (tested ∙ e); pair = record { digit = d } }

        back : (k : ℕ) (w : FromInitial t (n + 1) pairs k) → (w.i ≡ n) ⊎ FromInitial t n pairs k → (bit x k ≡ 1) ⊎ (bit (get_or pairs n 0) k ≡ 1)
        back k w (inl d) = inr (rw d at w.pair).digit
        back k w (inr v) = inl ((h.at k).1 v)

  pub from_all : {n m x : ℕ} → m ≤ n → n ≤ m → DigitsExactly x (FromInitial t n pairs) → DigitsExactly x (FromInitial t m pairs)
  from_all {n} {m} {x} l g h = subst (λ i. DigitsExactly x (FromInitial t i pairs)) (omega arith) h

-- A digit of x names a final state exactly if one of the list of those that are 1 does.
module _ {t : Table} {x : ℕ} (fits : x < 2 ^ 64) where
  pub final_iff : T (list_any (final? t) (ones_of x)) ↔ FinalAmong t x
  final_iff = (λ h. forth (Any-from_list_any (final? t) (ones_of x) (is_true _ h)), λ w. holds (list_any-from_Any (final? t) (ones_of x) (back w))) where
    forth : Any (λ p. final? t p ≡ true) (ones_of x) → FinalAmong t x
    forth (k, p, l, here, e) = record { f = p; among = ((ones_iff x p).0 (k, l, here)).1; ends = holds e }

    back : FinalAmong t x → Any (λ p. final? t p ≡ true) (ones_of x)
    back w =
        let m = (ones_iff x w.f).1 (bit_inside 64 x w.f fits w.among, w.among) in
        (m.0, w.f, m.1, m.2, is_true _ w.ends)

-- A final state among the second halves of the pairs from initial states is what finishes.
pub finished_iff : {t : Table} {states x : ℕ} {pairs : List ℕ} → state_count t ≤ states → DigitsExactly x (FromInitial t states pairs)
    → FinalAmong t x ↔ FinishedBlock (automaton t) (Holds pairs)
finished_iff {t} all h = (
  λ w. let v = (h.at w.f).0 w.among in record { i = v.i; f = w.f; pair = v.pair; begins = v.begins; ends = w.ends },
  λ w. record {
    f = w.f;
    among = (h.at w.f).1 (record { i = w.i; low = omega (arith, initial_bound t w.i w.begins); begins = w.begins; pair = w.pair });
    ends = w.ends;
  },
)
