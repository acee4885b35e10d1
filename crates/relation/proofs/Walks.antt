-- What the loops over rows and over the digits of a row hold on to.
use Prim.Native.Nat.{ℕ, zero, suc, ◌+◌, ◌-◌, ◌*◌, ◌%◌, ◌^◌, ◌≤◌, ◌<◌}
use mathlib.Core.List.{List, [], ◌∷◌, ◌++◌}
use mathlib.Core.Logic.{◌↔◌, ◌⊎◌, inl, inr, ⊎_elim}
use mathlib.Core.Path.{◌≡◌, refl, sym, ap, subst, ◌∙◌}
use native.Mathlib.Nat.{eq-or-lt_of_le, pow-suc}
use native.Mathlib.Omega.{arith}
use lib.Bits.{bit_or}
use lib.Count.{ones, count_trailing_zeros}
use lib.ListN.{length, get_or, set, replicate, drop}
use Rattle.std.proofs.Common.{length-take-le, length-drop, get_or-take, get_or-drop}
use Rattle.std.proofs.lemmas.List.Sums.{sum_by-cons}
use Rattle.std.specs.List.{Contains, fold, sum_by, slice_range}
use Rattle.std.proofs.lemmas.List.Elements.{Contains-append_left, Contains-push, Contains-push_cases}
use Rattle.relation.specs.Digits.{bit, total, ones_of}
use Rattle.relation.specs.Relations.{Holds, HoldsExactly, IsRelation, With, Joined, Turned, DigitsExactly, InSome, SecondHalf, size_of}
use Rattle.relation.specs.Rows.{Reached, Spread}
use Rattle.relation.proofs.OnesListed.{ones_iff}
use Rattle.relation.proofs.Digits.{bit_zero, bit_inside, Drop, lowest, Walked, Part, part_all, walked_none, walked_all, part_less, walked_more, ones_total, total_equal}
use Rattle.relation.proofs.Relations.{holds_inside, zeros_relation, zeros_hold, or_digit, with_relation, with_pair}

-- y has what the digits of x walked so far give: digit i gives each l of which P says so.
pub record JoinedSoFar (x : ℕ) (P : ℕ → ℕ → Type 0) (z y : ℕ) : Type 0 where
  pub part : Part x z
  pub at : (l : ℕ) → (bit y l ≡ 1) ↔ ((i : ℕ) × Walked x z i × P i l)

pub joined_none : (x : ℕ) (P : ℕ → ℕ → Type 0) → JoinedSoFar x P x 0
joined_none x P = record { part = part_all x; at = λ l. (λ e. absurd (omega (arith, bit_zero l)), λ w. absurd (walked_none w.1)) }

pub joined_more : {n x : ℕ} {P : ℕ → ℕ → Type 0} {z y k z' v : ℕ} → JoinedSoFar x P z y → Drop n z k z' → DigitsExactly v (P k) → JoinedSoFar x P z' (bit_or y v)
joined_more {n} {x} {P} {z} {y} {k} {z'} {v} h d g = record {
  part = part_less h.part d;
  at = λ l. (λ e. forth l ((or_digit _ _ l).0 e), λ w. (or_digit _ _ l).1 (back l w ((walked_more h.part d w.0).0 w.1)));
}
  where
    forth : (l : ℕ) → (bit y l ≡ 1) ⊎ (bit v l ≡ 1) → (i : ℕ) × Walked x z' i × P i l
    forth l (inl e) = let w = (h.at l).0 e in (w.0, (walked_more h.part d w.0).1 (inl w.1), w.2)
    forth l (inr e) = (k, (walked_more h.part d k).1 (inr refl), (g.at l).0 e)

    back : (l : ℕ) (w : (i : ℕ) × Walked x z' i × P i l) → Walked x z w.0 ⊎ (w.0 ≡ k) → (bit y l ≡ 1) ⊎ (bit v l ≡ 1)
    back l w (inl o) = inl ((h.at l).1 (w.0, o, w.2))
    back l w (inr e) = inr ((g.at l).1 (subst (λ i. P i l) e w.2))

pub joined_all : {x : ℕ} {P : ℕ → ℕ → Type 0} {y : ℕ} → JoinedSoFar x P 0 y → (l : ℕ) → (bit y l ≡ 1) ↔ ((i : ℕ) × (bit x i ≡ 1) × P i l)
joined_all h l = (λ e. let w = (h.at l).0 e in (w.0, w.1.had, w.2), λ w. (h.at l).1 (w.0, walked_all w.1, w.2))

-- A row gives what it holds.
pub row_digits : (s : List ℕ) (k : ℕ) → DigitsExactly (get_or s k 0) (Holds s k)
row_digits s k = record { at = λ l. (λ e. record { digit = e }, λ h. h.digit) }

-- A joined row is a row of two relations joined.
pub joined_digits : {r s : List ℕ} {j y : ℕ} → DigitsExactly y (Reached (get_or r j 0) s) → (k : ℕ) → (bit y k ≡ 1) ↔ Joined r s j k
joined_digits h k = (
  λ d. let w = (h.at k).0 d in record { by = w.by; first = record { digit = w.first }; second = w.second },
  λ w. (h.at k).1 (record { by = w.by; first = w.first.digit; second = w.second }),
)

-- s is r with the pairs (i, j) for the numbers i that have come.
pub record SpreadBy (r : List ℕ) (xs : List ℕ) (j : ℕ) (s : List ℕ) : Type 0 where
  pub is : IsRelation s
  pub at : (a b : ℕ) → Holds s a b ↔ (Holds r a b ⊎ (Contains xs a × (b ≡ j)))

pub spread_nothing : {r : List ℕ} (j : ℕ) → IsRelation r → SpreadBy r [] j r
spread_nothing j is = record { is = is; at = λ a b. (inl, ⊎_elim (λ h. h) (λ w. absurd (omega (arith, w.0.1)))) }

pub spread_next : {r xs s : List ℕ} {j k : ℕ} → j < 64 → k < 64 → SpreadBy r xs j s → SpreadBy r (xs ++ k ∷ []) j (set s k (bit_or (get_or s k 0) (1 * 2 ^ j % 2 ^ 64)))
spread_next {r} {xs} {s} {j} {k} hj hk h = record {
  is = with_relation h.is hk hj;
  at = λ a b. (λ e. forth a b ((put.at a b).0 e).is, λ e. (put.at a b).1 (record { is = back a b e }));
}
  where
    put : HoldsExactly (set s k (bit_or (get_or s k 0) (1 * 2 ^ j % 2 ^ 64))) (With s k j)
    put = with_pair h.is hk hj

    forth : (a b : ℕ) → Holds s a b ⊎ ((a ≡ k) × (b ≡ j)) → Holds r a b ⊎ (Contains (xs ++ k ∷ []) a × (b ≡ j))
    forth a b (inl e) = ⊎_elim inl (λ w. inr (Contains-append_left xs (k ∷ []) a w.0, w.1)) ((h.at a b).0 e)
    forth a b (inr e) = inr (rw e.0 (Contains-push xs k), e.1)

    back : (a b : ℕ) → Holds r a b ⊎ (Contains (xs ++ k ∷ []) a × (b ≡ j)) → Holds s a b ⊎ ((a ≡ k) × (b ≡ j))
    back a b (inl e) = inl ((h.at a b).1 (inl e))
    back a b (inr w) = ⊎_elim (λ m. inl ((h.at a b).1 (inr (m, w.1)))) (λ e. inr (sym e, w.1)) (Contains-push_cases xs k a w.0)

pub spread_whole : {r s : List ℕ} {x j : ℕ} → x < 2 ^ 64 → SpreadBy r (ones_of x) j s → Spread r x j s
spread_whole {r} {s} {x} {j} f h = record {
  is = h.is;
  at = λ a b. (
    λ e. ⊎_elim inl (λ w. inr (((ones_iff x a).0 w.0).1, w.1)) ((h.at a b).0 e),
    λ e. (h.at a b).1 (⊎_elim inl (λ w. inr ((ones_iff x a).1 (bit_inside 64 x a f w.0, w.0), w.1)) e),
  );
}

-- t has the pairs of the first n rows of r, turned round.
pub record TurnedSoFar (r : List ℕ) (n : ℕ) (t : List ℕ) : Type 0 where
  pub is : IsRelation t
  pub at : (a b : ℕ) → Holds t a b ↔ (Holds r b a × (b < n))

pub turned_none : (r : List ℕ) → TurnedSoFar r 0 (replicate 64 0)
turned_none r = record { is = zeros_relation; at = λ a b. (λ h. elim ((zeros_hold.at a b).0 h) [ ], λ w. absurd (omega (arith, w.1))) }

pub turned_more : {r : List ℕ} {n : ℕ} {t s : List ℕ} → TurnedSoFar r n t → Spread t (get_or r n 0) n s → TurnedSoFar r (n + 1) s
turned_more {r} {n} {t} {s} h d = record { is = d.is; at = λ a b. (λ e. forth a b ((d.at a b).0 e), λ w. (d.at a b).1 (back a b w (eq-or-lt_of_le (omega (arith, w.1))))) } where
  forth : (a b : ℕ) → Holds t a b ⊎ ((bit (get_or r n 0) a ≡ 1) × (b ≡ n)) → Holds r b a × (b < n + 1)
  forth a b (inl e) = let w = (h.at a b).0 e in (w.0, omega (arith, w.1))
  forth a b (inr e) = rw e.1 (record { digit = e.0 }, omega arith)

  back : (a b : ℕ) → Holds r b a × (b < n + 1) → (b ≡ n) ⊎ (b < n) → Holds t a b ⊎ ((bit (get_or r n 0) a ≡ 1) × (b ≡ n))
  back a b w (inl e) = inr ((rw e at w.0).digit, e)
  back a b w (inr l) = inl ((h.at a b).1 (w.0, l))

pub turned_all : {r : List ℕ} {n : ℕ} {t : List ℕ} → 64 ≤ n → IsRelation r → TurnedSoFar r n t → HoldsExactly t (Turned r)
turned_all l is h = record {
  at = λ a b. (
    λ e. record { back = ((h.at a b).0 e).0 },
    λ w. (h.at a b).1 (w.back, omega (arith, holds_inside is w.back)),
  );
}

-- Words put together one after the other.
pub gathered : (words : List ℕ) (y k : ℕ) → (bit (fold bit_or y words) k ≡ 1) ↔ ((bit y k ≡ 1) ⊎ ((i : ℕ) × (i < length words) × (bit (get_or words i 0) k ≡ 1)))
gathered [] y k = (inl, ⊎_elim (λ e. e) (λ w. absurd (omega (arith, w.1))))
gathered (x ∷ words) y k = (
  λ e. ⊎_elim (λ d. ⊎_elim inl (λ d. inr (0, omega arith, d)) ((or_digit y x k).0 d)) (λ w. inr (suc w.0, omega (arith, w.1), w.2)) ((gathered words (bit_or y x) k).0 e),
  λ w. (gathered words (bit_or y x) k).1 (⊎_elim (λ d. inl ((or_digit y x k).1 (inl d))) (λ v. later v.0 v.1 v.2) w),
)
  where
    later : (i : ℕ) → i < length (x ∷ words) → bit (get_or (x ∷ words) i 0) k ≡ 1 → (bit (bit_or y x) k ≡ 1) ⊎ ((i : ℕ) × (i < length words) × (bit (get_or words i 0) k ≡ 1))
    later zero l d = inl ((or_digit y x k).1 (inr d))
    later (suc i) l d = inr (i, omega (arith, l), d)

pub gathered_range : (words : List ℕ) {from to : ℕ} → from ≤ to → to ≤ length words → DigitsExactly (fold bit_or 0 (slice_range words from to)) (InSome words from to)
gathered_range words {from} {to} l m = record {
  at = λ k. (
    λ e. ⊎_elim (λ d. absurd (omega (arith, d, bit_zero k))) (λ w. forth k w.0 w.1 w.2) ((gathered (slice_range words from to) 0 k).0 e),
    λ w. (gathered (slice_range words from to) 0 k).1 (inr (w.place - from, omega (arith, long, w.before, w.after), back k w)),
  );
}
  where
    long : length (slice_range words from to) ≡ to - from
    long = length-take-le (to - from) (drop from words) (omega (arith, length-drop from words))

    same : (i : ℕ) → i < to - from → get_or (slice_range words from to) i 0 ≡ get_or words (from + i) 0
    same i h = get_or-take (to - from) (drop from words) i 0 h ∙ get_or-drop from words i 0

    forth : (k i : ℕ) → i < length (slice_range words from to) → bit (get_or (slice_range words from to) i 0) k ≡ 1 → InSome words from to k
    forth k i h d = record { place = from + i; after = omega arith; before = omega (arith, long); digit = ap (λ (x : ℕ). bit x k) (sym (same i (omega (arith, long)))) ∙ d }

    back : (k : ℕ) (w : InSome words from to k) → bit (get_or (slice_range words from to) (w.place - from) 0) k ≡ 1
    back k w =
        let at : from + (w.place - from) ≡ w.place = omega (arith, w.after) in
        ap (λ (x : ℕ). bit x k) (same (w.place - from) (omega (arith, w.before, w.after)) ∙ ap (λ (i : ℕ). get_or words i 0) at) ∙ w.digit

pub gathered_all : {r : List ℕ} {n y : ℕ} → 64 ≤ n → IsRelation r → DigitsExactly y (InSome r 0 n) → DigitsExactly y (SecondHalf r)
gathered_all l is h = record {
  at = λ k. (
    λ e. let w = (h.at k).0 e in record { first = w.place; held = record { digit = w.digit } },
    λ w. (h.at k).1 (record { place = w.first; after = omega arith; before = omega (arith, holds_inside is w.held); digit = w.held.digit }),
  );
}

-- A number is 0 exactly if no digit of it is 1.
below_pow : (x : ℕ) → x < 2 ^ x
below_pow zero = omega arith
below_pow (suc x) = omega (arith, below_pow x, pow-suc 2 x)

pub some_digit : (x : ℕ) → (x ≡ 0 → ⊥) → (k : ℕ) × (bit x k ≡ 1)
some_digit x n = (count_trailing_zeros x x, (lowest x x (omega (arith, n)) (below_pow x)).set)

-- The digits of all words, counted.
total_first : (n : ℕ) (f : ℕ → ℕ) → total (suc n) f ≡ f 0 + total n (λ i. f (suc i))
unfolding total
total_first zero f = refl
total_first (suc n) f = omega (arith, total_first n f)

sum_total : (h : ℕ → ℕ) (xs : List ℕ) → sum_by h xs ≡ total (length xs) (λ j. h (get_or xs j 0))
unfolding total
sum_total h [] = refl
sum_total h (x ∷ xs) = sum_by-cons h x xs ∙ ap (λ (n : ℕ). h x + n) (sum_total h xs) ∙ sym (total_first (length xs) (λ j. h (get_or (x ∷ xs) j 0)))

pub size_sum : {r : List ℕ} → IsRelation r → size_of r ≡ sum_by ones r
unfolding size_of
size_sum {r} is =
    total_equal 64 _ _ (λ j l. sym (ones_total 64 (get_or r j 0) (is.fits j))) ∙ ap (λ (n : ℕ). total n (λ j. ones (get_or r j 0))) (sym is.rows) ∙ sym (sum_total ones r)
