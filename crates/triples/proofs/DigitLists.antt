-- The digits of a number as a list: which they are, how many, how a walk from the lowest finds them, and rows of digits as a list of pairs.
use Prim.Native.Nat.{ℕ, zero, suc, ◌^◌, ◌≤◌, ◌<◌}
use native.Mathlib.Numerals.{add-one}
use native.Mathlib.Omega.{arith}
use mathlib.Core.Bool.{Bool, true, false, cond, ◌&&◌}
use mathlib.Core.List.Memᴰ
use mathlib.Core.List.{List, [], ◌∷◌, map, Memᴰ}
use mathlib.Core.Logic.{◌↔◌, inl, inr}
use mathlib.Core.Path.{◌≡◌, refl, sym, ap, ◌∙◌}
use borrow.Author.Tests.{eqb-false}
use lib.Bits.{bit_and}
use lib.Count.{ones}
use lib.Dec.{T, eqb, eqb→eq}
use lib.ListN.{length, get_or, length-append}
use Rattle.vpa.specs.Lists.{Pair, sift, each, up_from, below, Sorted, PairBefore}
use Rattle.vpa.proofs.Lists.{both, and, sift_intro, sift_elim, each_intro, each_elim, below_intro, below_elim, sorted_sift, sorted_map, sorted_each, sorted_below}
use Rattle.vpa.proofs.Each.{sorted_same, pair_one_way, each_sift, below_more, sift_below, sift_append}
use Rattle.std.specs.List.{filter, range_with_len}
use Rattle.relation.specs.Digits.{bit, total, ones_of}
use Rattle.relation.specs.Relations.{Holds, holds?, HoldsExactly, IsRelation}
use Rattle.relation.proofs.Digits.{bit_lt, ones_total, total_equal}
use Rattle.relation.proofs.Relations.{held_iff_test, holds_inside, and_digit}
use Rattle.nesting.proofs.ListedRows.{Listed}
use Rattle.triples.specs.Listing.{digits_of}

pub digits_iff : (x k : ℕ) → Memᴰ k (digits_of x) ↔ ((k < 64) × (bit x k ≡ 1))
unfolding digits_of
digits_iff x k = (
  λ m. let s = sift_elim _ (below 64) m in (below_elim s.0, eqb→eq (bit x k) 1 s.1),
  λ h. sift_intro _ (below_intro h.0) (rw h.1 tt),
)

pub digits_sorted : (x : ℕ) → Sorted ◌<◌ (digits_of x)
unfolding digits_of
digits_sorted x = sorted_sift ◌<◌ _ (sorted_below 64)

-- Of the lists in order, one only has these digits.
these_digits : (x : ℕ) {xs : List ℕ} → Sorted ◌<◌ xs → ((k : ℕ) → Memᴰ k xs ↔ ((k < 64) × (bit x k ≡ 1))) → digits_of x ≡ xs
these_digits x d h = sorted_same (λ i j l m. omega arith) (digits_sorted x) d (λ k. (λ m. (h k).1 ((digits_iff x k).0 m), λ m. (digits_iff x k).1 ((h k).0 m)))

-- They are what the iterator over a word gives.
sift_filter : (f : ℕ → Bool) (n a : ℕ) → sift f (up_from n a) ≡ filter f (range_with_len a n)
unfolding sift up_from
sift_filter f zero a = refl
sift_filter f (suc n) a = rw (add-one a, sym (sift_filter f n (suc a))) (by (f a)) where
  by : (b : Bool) → elim b [ true ↦ a ∷ sift f (up_from n (suc a)) | false ↦ sift f (up_from n (suc a)) ] ≡ cond b (a ∷ sift f (up_from n (suc a))) (sift f (up_from n (suc a)))
  by true = refl
  by false = refl

pub digits_ones : (x : ℕ) → ones_of x ≡ digits_of x
unfolding digits_of ones_of below
digits_ones x = sym (sift_filter (λ k. eqb (bit x k) 1) 64 0)

-- As many numbers pass a test as its values, 1 where it passes, add up to.
sift_length : (f : ℕ → Bool) (n : ℕ) → length (sift f (below n)) ≡ total n (λ k. cond (f k) 1 0)
unfolding below up_from sift total
sift_length f zero = refl
sift_length f (suc n) =
    ap (λ m. length (sift f (below m))) (sym (add-one n)) ∙ ap (λ xs. length (sift f xs)) (below_more n) ∙ ap length (sift_append f (below n) (n ∷ []))
    ∙ omega (arith, length-append (sift f (below n)) (sift f (n ∷ [])), last (f n), sift_length f n)
  where
    last : (b : Bool) → length {A = ℕ} (elim b [ true ↦ n ∷ [] | false ↦ [] ]) ≡ cond b 1 0
    last true = refl
    last false = refl

pub digits_length : (x : ℕ) → x < 2 ^ 64 → length (digits_of x) ≡ ones x
unfolding digits_of
digits_length x l = sift_length _ 64 ∙ total_equal 64 _ (bit x) (λ k m. go (bit x k) (bit_lt x k)) ∙ sym (ones_total 64 x l)
  where
    go : (b : ℕ) → b < 2 → cond (eqb b 1) 1 0 ≡ b
    go zero l = refl
    go (suc zero) l = refl
    go (suc (suc b)) l = absurd (omega arith)

-- The digits that a test says are the numbers that pass it.
pub digits_sift : {n : ℕ} (x : ℕ) (f : ℕ → Bool) → n ≤ 64 → ((k : ℕ) → (bit x k ≡ 1) ↔ ((k < n) × T (f k))) → digits_of x ≡ sift f (below n)
digits_sift {n} x f l h = these_digits x (sorted_sift ◌<◌ f (sorted_below n)) (λ k. (
  λ m. let s = sift_elim f (below n) m in let b = below_elim s.0 in (omega arith, (h k).1 (b, s.1)),
  λ e. let s = (h k).0 e.1 in sift_intro f (below_intro s.0) s.1,
))

-- The digits of a row, told as what it holds.
pub digit_iff : {P : Type 0} (r : List ℕ) (j k : ℕ) → Holds r j k ↔ P → (bit (get_or r j 0) k ≡ 1) ↔ P
digit_iff r j k h = (λ e. h.0 (record { digit = e }), λ p. (h.1 p).digit)

pub digit_test : (r : List ℕ) (j k : ℕ) → (bit (get_or r j 0) k ≡ 1) ↔ T (holds? r j k)
digit_test r j k = digit_iff r j k ((held_iff_test r j k).1, (held_iff_test r j k).0)

-- The digits that two rows have in common, where tests say what the digits of each are.
pub digits_both : (x y : ℕ) (f g : ℕ → Bool) → ((j : ℕ) → (bit x j ≡ 1) ↔ T (f j)) → ((j : ℕ) → (bit y j ≡ 1) ↔ T (g j))
    → digits_of (bit_and x y) ≡ sift (λ j. f j && g j) (below 64)
unfolding digits_of
digits_both x y f g p q = sift_below _ _ (λ j. (
  λ h. let d = (and_digit x y j).0 (eqb→eq _ 1 h.1) in (h.0, and (f j) (g j) ((p j).0 d.0) ((q j).0 d.1)),
  λ h. let d = both (f j) (g j) h.1 in (h.0, rw ((and_digit x y j).1 ((p j).1 d.0, (q j).1 d.1)) tt),
))

-- Where the other numbers give nothing, a walk over the digits finds what one over all numbers finds.
pub each_digits : {Y : Type 0} (f : ℕ → List Y) {n : ℕ} (z : ℕ) → n ≤ 64 → ((k : ℕ) → bit z k ≡ 1 → k < n) → ((k : ℕ) → k < n → (bit z k ≡ 1 → ⊥) → f k ≡ [])
    → each f (below n) ≡ each f (digits_of z)
each_digits f {n} z l inside none =
    each_sift f _ (below n) (λ k m e. none k (below_elim m) (eqb-false (bit z k) 1 e))
    ∙ ap (each f) (sym (digits_sift z (λ k. eqb (bit z k) 1) l (λ k. (λ e. (inside k e, rw e tt), λ h. eqb→eq (bit z k) 1 h.1))))

-- Rows of digits as pairs, row after row: the pairs of a relation in order.
module _ (r : List ℕ) where
  abbrev row : ℕ → List Pair
  row o = map (λ q. (o, q)) (digits_of (get_or r o 0))

  row_first : (o : ℕ) {x : Pair} → Memᴰ x (row o) → x.0 ≡ o
  row_first o m = sym (ap (λ (y : Pair). y.0) (Memᴰ.of_map _ (digits_of (get_or r o 0)) m).2)

  rows_sorted : Sorted PairBefore (each row (below 64))
  rows_sorted = sorted_each ◌<◌ PairBefore row (λ o. sorted_map ◌<◌ PairBefore (λ q. (o, q)) (λ i j h. inr (refl, h)) (digits_sorted (get_or r o 0)))
      (λ o p x y h m l. inl (omega (arith, row_first o m, row_first p l))) (sorted_below 64)

pub pairs_by_rows : {r : List ℕ} {xs : List Pair} → Sorted PairBefore xs → IsRelation r → HoldsExactly r (Listed xs)
    → xs ≡ each (λ o. map (λ q. (o, q)) (digits_of (get_or r o 0))) (below 64)
pairs_by_rows {r} {xs} d is h = sorted_same pair_one_way d (rows_sorted r) (λ x. (forth x, back x))
  where
    forth : (x : Pair) → Memᴰ x xs → Memᴰ x (each (row r) (below 64))
    forth x m =
        let held : Holds r x.0 x.1 = (h.at x.0 x.1).1 (record { member = m }) in
        let b = holds_inside is held in
        each_intro (row r) (below_intro b.0) (Memᴰ.map (λ q. (x.0, q)) ((digits_iff (get_or r x.0 0) x.1).1 (b.1, held.digit)))

    back : (x : Pair) → Memᴰ x (each (row r) (below 64)) → Memᴰ x xs
    back x m =
        let e = each_elim (row r) (below 64) m in
        let w = Memᴰ.of_map (λ (q : ℕ). (e.0, q)) (digits_of (get_or r e.0 0)) e.2 in
        Memᴰ.cast (sym w.2) ((h.at e.0 w.0).0 (record { digit = ((digits_iff (get_or r e.0 0) w.0).0 w.1).1 })).member
