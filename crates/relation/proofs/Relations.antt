-- Laws of relations held as rows: what is held lies in range, decides the array, and is counted by its size; and how arrays come to hold what they should.
use Prim.Native.Nat.{ℕ, zero, suc, ◌+◌, ◌*◌, ◌%◌, ◌^◌, ◌≤◌, ◌<◌}
use mathlib.Core.List.{List}
use mathlib.Core.Logic.{◌↔◌, ◌⊎◌, inl, inr, ⊎_elim}
use mathlib.Core.Path.{◌≡◌, refl, sym, ap, ◌∙◌}
use native.Mathlib.Decide.{ℕ_discrete, dec_lt}
use native.Mathlib.Nat.{zero-mul}
use native.Mathlib.Omega.{arith}
use lib.Bits.{bit_or, bit_and, or_lt}
use lib.Dec.{T, eqb→eq, ltb}
use Rattle.std.proofs.Common.{Bool, true, false, cond, lt-ltb, ltb-true, true≢false}
use lib.ListN.{length, get_or, set, replicate, length-set, get_or-eq_default}
use lib.Pow.{pow-lt}
use lib.Seq.{ext_get_or, get_or-set_same, get_or-set_other}
use Rattle.relation.specs.Digits.{bit, total}
use Rattle.relation.specs.Relations.{Holds, holds?, HoldsExactly, IsRelation, RowsBelow, NoPair, Identity, Diagonal, With, Either, Both, size_of}
use Rattle.relation.proofs.Digits.{bit_lt, bit_of_or, bit_of_and, bit_zero, bit_pow_same, bit_pow_other, one_shifted, bit_inside, bit_ext, total_most, total_grows, total_same, total_equal, total_one_more}

pub held_iff_test : (r : List ℕ) (j k : ℕ) → T (holds? r j k) ↔ Holds r j k
unfolding holds?
held_iff_test r j k = (λ h. record { digit = eqb→eq (bit (get_or r j 0) k) 1 h }, λ h. rw h.digit tt)

-- What holds exactly one thing holds exactly what says the same.
pub exactly : {r : List ℕ} {P Q : ℕ → ℕ → Type 0} → HoldsExactly r P → ((j k : ℕ) → P j k → Q j k) → ((j k : ℕ) → Q j k → P j k) → HoldsExactly r Q
exactly h f g = record { at = λ j k. (λ x. f j k ((h.at j k).0 x), λ y. (h.at j k).1 (g j k y)) }

-- Nothing is held past the last row or the last digit.
pub holds_inside : {r : List ℕ} → IsRelation r → {j k : ℕ} → Holds r j k → (j < 64) × (k < 64)
holds_inside {r} is {j} {k} h = (row (dec_lt j 64), bit_inside 64 (get_or r j 0) k (is.fits j) h.digit) where
  row : Dec (j < 64) → j < 64
  row (yes p) = p
  row (no p) = absurd (omega (arith, h.digit, bit_zero k, ap (λ (x : ℕ). bit x k) (get_or-eq_default r 0 {n = j} (omega (arith, is.rows)))))

pub digit_of : {r s : List ℕ} {j k : ℕ} → (Holds r j k → Holds s j k) → bit (get_or r j 0) k ≤ bit (get_or s j 0) k
digit_of {r} {s} {j} {k} f = go (bit (get_or r j 0) k) refl where
  go : (b : ℕ) → bit (get_or r j 0) k ≡ b → bit (get_or r j 0) k ≤ bit (get_or s j 0) k
  go zero e = omega arith
  go (suc zero) e = omega (arith, f (record { digit = e }))
  go (suc (suc b)) e = omega (arith, bit_lt (get_or r j 0) k)

-- Two relations that hold the same pairs are the same array.
pub same_pairs : {r s : List ℕ} → IsRelation r → IsRelation s → ((j k : ℕ) → Holds r j k ↔ Holds s j k) → r ≡ s
same_pairs {r} {s} a b h =
    ext_get_or 0 r s (a.rows ∙ sym b.rows)
    (λ j l. bit_ext 64 (get_or r j 0) (get_or s j 0) (a.fits j) (b.fits j) (λ k m. omega (arith, digit_of (h j k).0, digit_of (h j k).1)))

pub same_relation : {r s : List ℕ} {P : ℕ → ℕ → Type 0} → IsRelation r → IsRelation s → HoldsExactly r P → HoldsExactly s P → r ≡ s
same_relation a b h l = same_pairs a b (λ j k. (λ x. (l.at j k).1 ((h.at j k).0 x), λ x. (h.at j k).1 ((l.at j k).0 x)))

-- At most 64 times 64 pairs; more pairs, a larger size; and none more where the size is the same.
row_most : (x : ℕ) → total 64 (bit x) ≤ 64
row_most x = omega (arith, total_most 64 1 (bit x) (λ k l. omega (arith, bit_lt x k)))

pub size_most : (r : List ℕ) → size_of r ≤ 4096
unfolding size_of
size_most r = omega (arith, total_most 64 64 (λ j. total 64 (bit (get_or r j 0))) (λ j l. row_most (get_or r j 0)))

module _ {r s : List ℕ} (sub : (j k : ℕ) → Holds r j k → Holds s j k) where
  row_grows : (j : ℕ) → total 64 (bit (get_or r j 0)) ≤ total 64 (bit (get_or s j 0))
  row_grows j = total_grows 64 (bit (get_or r j 0)) (bit (get_or s j 0)) (λ k. digit_of (sub j k))

  pub size_grows : size_of r ≤ size_of s
  unfolding size_of
  size_grows = total_grows 64 (λ j. total 64 (bit (get_or r j 0))) (λ j. total 64 (bit (get_or s j 0))) row_grows

  pub same_size : IsRelation r → IsRelation s → size_of r ≡ size_of s → r ≡ s
  unfolding size_of
  same_size a b e =
      ext_get_or 0 r s (a.rows ∙ sym b.rows)
      (λ j l. bit_ext 64 (get_or r j 0) (get_or s j 0) (a.fits j) (b.fits j)
      (total_same 64 (bit (get_or r j 0)) (bit (get_or s j 0)) (λ k. digit_of (sub j k))
      (total_same 64 (λ j. total 64 (bit (get_or r j 0))) (λ j. total 64 (bit (get_or s j 0))) row_grows e j (omega (arith, a.rows)))))

-- No pair, size 0; one pair more, one more in size.
pub digit_none : {r : List ℕ} {j k : ℕ} → (Holds r j k → ⊥) → bit (get_or r j 0) k ≡ 0
digit_none {r} {j} {k} h =
    let no_one : bit (get_or r j 0) k ≡ 1 → ⊥ = λ e. h (record { digit = e }) in
    omega (arith, bit_lt (get_or r j 0) k)

pub size_nothing : {r : List ℕ} → ((j k : ℕ) → Holds r j k → ⊥) → size_of r ≡ 0
unfolding size_of
size_nothing {r} h =
    omega (
      arith,
      total_most 64 0 (λ j. total 64 (bit (get_or r j 0)))
          (λ j l. omega (arith, total_most 64 0 (bit (get_or r j 0)) (λ k m. omega (arith, digit_none (h j k))))),
    )

module _ {r s : List ℕ} {a b : ℕ} (new : Holds r a b → ⊥) (h : HoldsExactly s (With r a b)) where
  digit_kept : (j k : ℕ) → ((j ≡ a) × (k ≡ b) → ⊥) → bit (get_or s j 0) k ≡ bit (get_or r j 0) k
  digit_kept j k q =
      let kept : Holds s j k → Holds r j k = λ x. ⊎_elim (λ y. y) (λ e. absurd (q e)) ((h.at j k).0 x).is in
      let had : Holds r j k → Holds s j k = λ x. (h.at j k).1 (record { is = inl x }) in
      omega (arith, digit_of kept, digit_of had)

  digit_added : bit (get_or s a 0) b ≡ suc (bit (get_or r a 0) b)
  digit_added = omega (arith, ((h.at a b).1 (record { is = inr (refl, refl) })).digit, digit_none new)

  pub size_with : a < 64 → b < 64 → size_of s ≡ suc (size_of r)
  unfolding size_of
  size_with ha hb =
      total_one_more 64 (λ j. total 64 (bit (get_or s j 0))) (λ j. total 64 (bit (get_or r j 0))) ha
      (total_one_more 64 (bit (get_or s a 0)) (bit (get_or r a 0)) hb digit_added (λ k q. digit_kept a k (λ e. q e.1)))
      (λ j q. total_equal 64 (bit (get_or s j 0)) (bit (get_or r j 0)) (λ k l. digit_kept j k (λ e. q e.0)))

-- Zeros.
pub zero_row : (n j : ℕ) → get_or {A = ℕ} (replicate n 0) j 0 ≡ 0
zero_row zero j = refl
zero_row (suc n) zero = refl
zero_row (suc n) (suc j) = zero_row n j

pub no_digit : {x : ℕ} (k : ℕ) → x ≡ 0 → bit x k ≡ 1 → ⊥
no_digit {x} k z e = omega (arith, ap (λ (y : ℕ). bit y k) z, bit_zero k)

-- A pair that is held begins below where the rows end.
pub row_low : {n : ℕ} {r : List ℕ} → RowsBelow n r → {j k : ℕ} → Holds r j k → j < n
row_low {n} {r} below {j} {k} h = by (dec_lt j n) where
  by : Dec (j < n) → j < n
  by (yes l) = l
  by (no g) = absurd (no_digit k (below.past j (omega arith)) h.digit)

pub zeros_relation : IsRelation (replicate 64 0)
zeros_relation = record { rows = refl; fits = λ j. rw (zero_row 64 j) (omega arith) }

pub zeros_hold : HoldsExactly (replicate 64 0) NoPair
zeros_hold = record { at = λ j k. (λ h. absurd (no_digit k (zero_row 64 j) h.digit), λ h. elim h [ ]) }

-- One row written anew.
set_relation : {s : List ℕ} (n : ℕ) {y : ℕ} → IsRelation s → y < 2 ^ 64 → IsRelation (set s n y)
set_relation {s} n {y} is l = record { rows = length-set s n y ∙ is.rows; fits = λ j. go j (ℕ_discrete j n) (dec_lt j 64) } where
  go : (j : ℕ) → Dec (j ≡ n) → Dec (j < 64) → get_or (set s n y) j 0 < 2 ^ 64
  go j (yes p) (yes q) = rw (p, get_or-set_same s n y 0 (omega (arith, is.rows))) l
  go j (yes p) (no q) = rw (get_or-eq_default (set s n y) 0 {n = j} (omega (arith, length-set s n y, is.rows))) (omega arith)
  go j (no p) q = rw (get_or-set_other s n j y 0 p) (is.fits j)

pub one_digit : {j : ℕ} → j < 64 → (k : ℕ) → (bit (1 * 2 ^ j % 2 ^ 64) k ≡ 1) ↔ (k ≡ j)
one_digit {j} l k = (λ e. forth e (ℕ_discrete j k), λ e. rw (one_shifted 64 l, e) (bit_pow_same j)) where
  forth : bit (1 * 2 ^ j % 2 ^ 64) k ≡ 1 → Dec (j ≡ k) → k ≡ j
  forth e (yes p) = sym p
  forth e (no p) = absurd (omega (arith, ap (λ (y : ℕ). bit y k) (one_shifted 64 l), bit_pow_other j k p))

-- What `|` and `&` of two rows have.
pub or_digit : (x y k : ℕ) → (bit (bit_or x y) k ≡ 1) ↔ ((bit x k ≡ 1) ⊎ (bit y k ≡ 1))
or_digit x y k = (λ e. forth e (ℕ_discrete (bit x k) 1), ⊎_elim (λ e. omega (arith, bit_of_or x y k, bit_lt y k)) (λ e. omega (arith, bit_of_or x y k, bit_lt x k))) where
  forth : bit (bit_or x y) k ≡ 1 → Dec (bit x k ≡ 1) → (bit x k ≡ 1) ⊎ (bit y k ≡ 1)
  forth e (yes p) = inl p
  forth e (no p) = inr (omega (arith, bit_of_or x y k, bit_lt x k))

pub and_digit : (x y k : ℕ) → (bit (bit_and x y) k ≡ 1) ↔ ((bit x k ≡ 1) × (bit y k ≡ 1))
and_digit x y k = (
  λ e. (omega (arith, bit_of_and x y k, bit_lt x k, bit_lt y k), omega (arith, bit_of_and x y k, bit_lt x k, bit_lt y k)),
  λ e. omega (arith, bit_of_and x y k, e.0, e.1),
)

-- The digits of one row of a union, of what two have in common, and of the identity.
pub either_row : (r s : List ℕ) (j k : ℕ) → (bit (bit_or (get_or r j 0) (get_or s j 0)) k ≡ 1) ↔ Either r s j k
either_row r s j k = (
  λ e. record { is = ⊎_elim (λ d. inl (record { digit = d })) (λ d. inr (record { digit = d })) ((or_digit _ _ k).0 e) },
  λ e. (or_digit _ _ k).1 (⊎_elim (λ h. inl h.digit) (λ h. inr h.digit) e.is),
)

pub both_row : (r s : List ℕ) (j k : ℕ) → (bit (bit_and (get_or r j 0) (get_or s j 0)) k ≡ 1) ↔ Both r s j k
both_row r s j k = (
  λ e. let d = (and_digit _ _ k).0 e in record { first = record { digit = d.0 }; second = record { digit = d.1 } },
  λ e. (and_digit _ _ k).1 (e.first.digit, e.second.digit),
)

pub identity_row : {n j : ℕ} → j < 64 → j < n → (k : ℕ) → (bit (1 * 2 ^ j % 2 ^ 64) k ≡ 1) ↔ Identity n j k
identity_row l m k = (λ e. record { same = sym ((one_digit l k).0 e); low = m }, λ e. (one_digit l k).1 (sym e.same))

pub identity_rows : (n : ℕ) {j : ℕ} → j < 64 → (k : ℕ) → (bit (cond (ltb j n) 1 0 * 2 ^ j % 2 ^ 64) k ≡ 1) ↔ Identity n j k
identity_rows n {j} l k = go (ltb j n) refl where
  nothing : 0 * 2 ^ j % 2 ^ 64 ≡ 0
  nothing = rw (zero-mul (2 ^ j)) refl

  go : (b : Bool) → ltb j n ≡ b → (bit (cond b 1 0 * 2 ^ j % 2 ^ 64) k ≡ 1) ↔ Identity n j k
  go true e = identity_row l (ltb-true _ _ e) k
  go false e = (λ d. absurd (omega (arith, bit_zero k, ap (λ (v : ℕ). bit v k) nothing)), λ d. absurd (true≢false (sym (lt-ltb _ _ d.low) ∙ e)))

pub diagonal_row : {j : ℕ} (x : ℕ) → j < 64 → (k : ℕ) → (bit (bit_and x (1 * 2 ^ j % 2 ^ 64)) k ≡ 1) ↔ Diagonal x j k
diagonal_row {j} x l k = (
  λ e. let w = (and_digit x (1 * 2 ^ j % 2 ^ 64) k).0 e in let same = (one_digit l k).0 w.1 in record { same = sym same; digit = rw (← same) w.0 },
  λ w. (and_digit x (1 * 2 ^ j % 2 ^ 64) k).1 (rw (← w.same) w.digit, (one_digit l k).1 (sym w.same)),
)

-- One pair more, as the code writes it.
module _ {r : List ℕ} (is : IsRelation r) {a b : ℕ} (ha : a < 64) (hb : b < 64) where
  abbrev more : List ℕ
  more = set r a (bit_or (get_or r a 0) (1 * 2 ^ b % 2 ^ 64))

  pub with_relation : IsRelation more
  with_relation = set_relation a is (or_lt 64 _ _ (is.fits a) (rw (one_shifted 64 hb) (pow-lt hb)))

  pub with_pair : HoldsExactly more (With r a b)
  with_pair = record { at = λ j k. go j k (ℕ_discrete j a) } where
    row : (k : ℕ) → (bit (get_or more a 0) k ≡ 1) ↔ ((bit (get_or r a 0) k ≡ 1) ⊎ (k ≡ b))
    row k = rw (get_or-set_same r a (bit_or (get_or r a 0) (1 * 2 ^ b % 2 ^ 64)) 0 (omega (arith, is.rows))) (
      λ e. ⊎_elim inl (λ d. inr ((one_digit hb k).0 d)) ((or_digit _ _ k).0 e),
      λ e. (or_digit _ _ k).1 (⊎_elim inl (λ d. inr ((one_digit hb k).1 d)) e),
    )

    go : (j k : ℕ) → Dec (j ≡ a) → Holds more j k ↔ With r a b j k
    go j k (yes p) = rw p (
      λ h. record { is = ⊎_elim (λ e. inl (record { digit = e })) (λ e. inr (refl, e)) ((row k).0 h.digit) },
      λ w. record { digit = (row k).1 (⊎_elim (λ h. inl h.digit) (λ e. inr e.1) w.is) },
    )
    go j k (no p) =
        let e : get_or more j 0 ≡ get_or r j 0 = get_or-set_other r a j _ 0 p in
        (λ h. record { is = inl (record { digit = rw e at h.digit }) }, λ w. record { digit = rw e (⊎_elim (λ h. h.digit) (λ q. absurd (p q.0)) w.is) })

-- 64 rows, each with the digits that P says: nothing that P says lies past them.
pub held_by_rows : {P : ℕ → ℕ → Type 0} {s : List ℕ} → length s ≡ 64 → ((j k : ℕ) → P j k → j < 64) → ((j k : ℕ) → j < 64 → (bit (get_or s j 0) k ≡ 1) ↔ P j k) → HoldsExactly s P
held_by_rows {P} {s} long low row = record { at = λ j k. (λ x. forth j k x (dec_lt j 64), λ p. record { digit = (row j k (low j k p)).1 p }) } where
  forth : (j k : ℕ) → Holds s j k → Dec (j < 64) → P j k
  forth j k x (yes l) = (row j k l).0 x.digit
  forth j k x (no l) = absurd (omega (arith, x.digit, bit_zero k, ap (λ (v : ℕ). bit v k) (get_or-eq_default s 0 {n = j} (omega (arith, long)))))

-- An array of zeros filled row by row: below n row j holds the pairs (j, k) that P says, and from n on nothing is held.
pub record Built (P : ℕ → ℕ → Type 0) (n : ℕ) (s : List ℕ) : Type 0 where
  pub is : IsRelation s
  pub at : (j k : ℕ) → j < n → Holds s j k ↔ P j k
  pub past : (j k : ℕ) → n ≤ j → Holds s j k → ⊥

pub built_none : (P : ℕ → ℕ → Type 0) → Built P 0 (replicate 64 0)
built_none P = record { is = zeros_relation; at = λ j k l. absurd (omega arith); past = λ j k l h. elim ((zeros_hold.at j k).0 h) [ ] }

pub built_empty : {s : List ℕ} (P : ℕ → ℕ → Type 0) → IsRelation s → HoldsExactly s NoPair → Built P 0 s
built_empty P is h = record { is = is; at = λ j k l. absurd (omega arith); past = λ j k l x. elim ((h.at j k).0 x) [ ] }

pub built_more : {P : ℕ → ℕ → Type 0} {n : ℕ} {s : List ℕ} {y : ℕ} → y < 2 ^ 64 → n < 64 → Built P n s → ((k : ℕ) → (bit y k ≡ 1) ↔ P n k) → Built P (n + 1) (set s n y)
built_more {P} {n} {s} {y} f l h r = record {
  is = set_relation n h.is f;
  at = λ j k m. go j k m (ℕ_discrete j n);
  past = λ j k m x. h.past j k (omega arith) (record { digit = rw (other j (omega arith)) at x.digit });
}
  where
    other : (j : ℕ) → (j ≡ n → ⊥) → get_or (set s n y) j 0 ≡ get_or s j 0
    other j p = get_or-set_other s n j y 0 p

    go : (j k : ℕ) → j < n + 1 → Dec (j ≡ n) → Holds (set s n y) j k ↔ P j k
    go j k m (yes p) =
        let e : get_or (set s n y) n 0 ≡ y = get_or-set_same s n y 0 (omega (arith, h.is.rows)) in
        rw p (λ x. (r k).0 (rw e at x.digit), λ x. record { digit = rw e ((r k).1 x) })
    go j k m (no p) = (λ x. (h.at j k (omega arith)).0 (record { digit = rw (other j p) at x.digit }), λ x. record { digit = rw (other j p) ((h.at j k (omega arith)).1 x).digit })

-- A row that P says nothing of is left as it is.
pub built_skip : {P : ℕ → ℕ → Type 0} {n : ℕ} {s : List ℕ} → ((k : ℕ) → P n k → ⊥) → Built P n s → Built P (n + 1) s
built_skip {P} {n} {s} none h = record { is = h.is; at = λ j k m. go j k m (ℕ_discrete j n); past = λ j k m. h.past j k (omega arith) } where
  go : (j k : ℕ) → j < n + 1 → Dec (j ≡ n) → Holds s j k ↔ P j k
  go j k m (yes p) = rw p (λ x. absurd (h.past n k (omega arith) x), λ x. absurd (none k x))
  go j k m (no p) = h.at j k (omega arith)

pub built_all : {P : ℕ → ℕ → Type 0} {n m : ℕ} {s : List ℕ} → m ≤ n → ((j k : ℕ) → P j k → j < m) → Built P n s → HoldsExactly s P
built_all {P} {n} {m} {s} l p h = record { at = λ j k. (λ x. forth j k x (dec_lt j n), λ x. (h.at j k (omega (arith, p j k x))).1 x) } where
  forth : (j k : ℕ) → Holds s j k → Dec (j < n) → P j k
  forth j k x (yes q) = (h.at j k q).0 x
  forth j k x (no q) = absurd (h.past j k (omega arith) x)
