-- One round of each search, put together from joins, unions and moves; and that a round that adds nothing ends it.
use Prim.Native.Nat.{ℕ, ◌+◌, ◌-◌, ◌<◌}
use mathlib.Core.List.{List}
use mathlib.Core.Logic.{◌↔◌, ◌⊎◌, inl, inr, ⊎_elim}
use mathlib.Core.Path.{◌≡◌, sym, subst}
use native.Mathlib.Nat.{eq-or-lt_of_le}
use native.Mathlib.Omega.{arith}
use lib.Bits.{bit_and, bit_or}
use lib.Dec.{T}
use lib.ListN.{get_or}
use Rattle.vpa.specs.Automaton.{Kind, plain, opening, closing}
use Rattle.vpa.specs.PairsComputed.{pairs, levels}
use Rattle.vpa.specs.TableOnDisk.{Table, state_count, initial?, final?, IsTable}
use Rattle.relation.specs.Digits.{bit}
use Rattle.relation.specs.Relations.{Holds, HoldsExactly, IsRelation, NoPair, Identity, Joined, Either, Both, Turned, size_of}
use Rattle.relation.proofs.Digits.{bit_zero}
use Rattle.relation.proofs.Relations.{exactly, holds_inside, size_most, size_grows, same_size, or_digit, and_digit}
use Rattle.nesting.specs.Calls.{rows}
use Rattle.nesting.specs.Steps.{MoveOf, AroundBy, Around, PairStart, PairRound, TopBack, InitialBelow, Beside, OpenedBack, LevelRound}
use Rattle.nesting.proofs.LevelSearch.{LevelsUnder, levels_exact}
use Rattle.nesting.proofs.ListedRows.{Listed, listed_rows}
use Rattle.nesting.proofs.PairSearch.{PairsUnder, pairs_exact}

-- Around one mark, two joins; around all, one more with each mark.
pub around_by : {t : Table} {before after : Kind} {γ : ℕ} {first r inner last s : List ℕ} → HoldsExactly first (MoveOf t before γ) → HoldsExactly inner (Joined first r)
    → HoldsExactly last (MoveOf t after γ) → HoldsExactly s (Joined inner last) → HoldsExactly s (AroundBy t before after r γ)
around_by {t} {before} {after} {γ} {first} {r} {inner} {last} {s} a b c d = exactly d forth back where
  forth : (j l : ℕ) → Joined inner last j l → AroundBy t before after r γ j l
  forth j l w =
      let v = (b.at j w.by).0 w.first in
      record { p = v.by; q = w.by; first = (a.at j v.by).0 v.first; inside = v.second; last = (c.at w.by l).0 w.second }

  back : (j l : ℕ) → AroundBy t before after r γ j l → Joined inner last j l
  back j l w = record {
    by = w.q;
    first = (b.at j w.q).1 (record { by = w.p; first = (a.at j w.p).1 w.first; second = w.inside });
    second = (c.at w.q l).1 w.last;
  }

pub around_none : {t : Table} {before after : Kind} {r s : List ℕ} → HoldsExactly s NoPair → HoldsExactly s (Around t before after r 0)
around_none h = exactly h (λ j l x. elim x [ ]) (λ j l w. absurd (omega (arith, w.low)))

pub around_more : {t : Table} {before after : Kind} {r s one u : List ℕ} {n : ℕ} → HoldsExactly s (Around t before after r n) → HoldsExactly one (AroundBy t before after r n)
    → HoldsExactly u (Either s one) → HoldsExactly u (Around t before after r (n + 1))
around_more {t} {before} {after} {r} {s} {one} {u} {n} h o e =
    exactly e (λ j l x. forth j l x.is) (λ j l w. record { is = back j l w (eq-or-lt_of_le (omega (arith, w.low))) }) where
      forth : (j l : ℕ) → Holds s j l ⊎ Holds one j l → Around t before after r (n + 1) j l
      forth j l (inl x) = let w = (h.at j l).0 x in record { γ = w.γ; low = omega (arith, w.low); by = w.by }
      forth j l (inr x) = record { γ = n; low = omega arith; by = (o.at j l).0 x }

      back : (j l : ℕ) (w : Around t before after r (n + 1) j l) → (w.γ ≡ n) ⊎ (w.γ < n) → Holds s j l ⊎ Holds one j l
      back j l w (inl e) = inr ((o.at j l).1 (rw e at w.by))
      back j l w (inr b) = inl ((h.at j l).1 (record { γ = w.γ; low = b; by = w.by }))

-- The searches: their starts and rounds.
pub pair_start : {t : Table} {n : ℕ} {own moves s : List ℕ} → n ≡ state_count t → HoldsExactly own (Identity n) → HoldsExactly moves (MoveOf t plain 0)
    → HoldsExactly s (Either own moves) → HoldsExactly s (PairStart t)
pair_start e a b h =
    exactly h (λ j k x. record { is = ⊎_elim (λ y. inl (rw (← e) ((a.at j k).0 y))) (λ y. inr ((b.at j k).0 y)) x.is })
    (λ j k w. record { is = ⊎_elim (λ y. inl ((a.at j k).1 (rw e y))) (λ y. inr ((b.at j k).1 y)) w.is })

pub pair_round : {t : Table} {g : ℕ} {r nested joined more s : List ℕ} → g ≡ t.mark_count → HoldsExactly nested (Around t opening closing r g) → HoldsExactly joined (Joined r r)
    → HoldsExactly more (Either joined nested) → HoldsExactly s (Either r more) → HoldsExactly s (PairRound t r)
pair_round {t} {g} {r} {nested} {joined} {more} e a b c h =
    exactly h (λ j k x. record { is = ⊎_elim inl (λ y. inr (forth j k ((c.at j k).0 y).is)) x.is }) (λ j k w. record { is = back j k w.is }) where
      forth : (j k : ℕ) → Holds joined j k ⊎ Holds nested j k → Joined r r j k ⊎ Around t opening closing r t.mark_count j k
      forth j k (inl y) = inl ((b.at j k).0 y)
      forth j k (inr y) = inr (subst (λ g. Around t opening closing r g j k) e ((a.at j k).0 y))

      back : (j k : ℕ) → Holds r j k ⊎ (Joined r r j k ⊎ Around t opening closing r t.mark_count j k) → Holds r j k ⊎ Holds more j k
      back j k (inl y) = inl y
      back j k (inr (inl y)) = inr ((c.at j k).1 (record { is = inl ((b.at j k).1 y) }))
      back j k (inr (inr y)) = inr ((c.at j k).1 (record { is = inr ((a.at j k).1 (subst (λ g. Around t opening closing r g j k) (sym e) y)) }))

pub beside_joins : {b live u s : List ℕ} → HoldsExactly u (Joined b live) → HoldsExactly s (Joined u b) → HoldsExactly s (Beside b live)
beside_joins {b} {live} {u} {s} a h = record {
  at = λ i x. (
    λ y. (let w = (h.at i x).0 y in let v = (a.at i w.by).0 w.first in
        record { q = v.by; o = w.by; after = v.first; level = v.second; before = w.second }),
    λ w. (h.at i x).1 (record { by = w.o; first = (a.at i w.o).1 (record { by = w.q; first = w.after; second = w.level }); second = w.before }),
  );
}

pub level_round : {t : Table} {g : ℕ} {b back live outside opened inner s : List ℕ} → g ≡ t.mark_count → HoldsExactly outside (Beside b live)
    → HoldsExactly opened (Around t closing opening outside g) → HoldsExactly inner (Both back opened) → HoldsExactly s (Either live inner) → HoldsExactly s (LevelRound t b back live)
level_round {t} {g} {b} {back} {live} {outside} {opened} {inner} e o a c h = record {
  at = λ q o. (
    λ x. record { is = ⊎_elim inl (λ y. (let w = (c.at q o).0 y in inr (w.first, forth q o ((a.at q o).0 w.second)))) ((h.at q o).0 x).is },
    λ w. (h.at q o).1 (record { is = ⊎_elim inl (λ y. inr ((c.at q o).1 (record { first = y.0; second = (a.at q o).1 (backward q o y.1) }))) w.is }),
  );
}
  where
    forth : (q' o' : ℕ) → Around t closing opening outside g q' o' → OpenedBack t b live q' o'
    forth q' o' w =
        let v = w.by in
        record { γ = w.γ; low = rw (← e) w.low; s = v.p; x = v.q; closed = v.first; beside = (o.at v.p v.q).0 v.inside; opened = v.last }

    backward : (q' o' : ℕ) → OpenedBack t b live q' o' → Around t closing opening outside g q' o'
    backward q' o' w = record {
      γ = w.γ;
      low = rw e w.low;
      by = record { p = w.s; q = w.x; first = w.closed; inside = (o.at w.s w.x).1 w.beside; last = w.opened };
    }

-- The rows of top levels, and the initial states as digits.
pub top_row : {t : Table} {back : List ℕ} {initial : ℕ} (q y : ℕ) → InitialBelow t 64 initial → IsRelation back
    → ((o : ℕ) → (bit y o ≡ 1) ↔ ((bit (bit_and (get_or back q 0) initial) o ≡ 1) × T (final? t q))) → (o : ℕ) → (bit y o ≡ 1) ↔ TopBack t back q o
top_row {initial = initial} q y i is h o = (
  λ e. (let w = (h o).0 e in let v = (and_digit _ initial o).0 w.0 in
      record { pair = record { digit = v.0 }; begins = ((i.at o).0 v.1).1; ends = w.1 }),
  λ w. (h o).1 ((and_digit _ initial o).1 (w.pair.digit, (i.at o).1 ((holds_inside is w.pair).1, w.begins)), w.ends),
)

pub initial_none : (t : Table) → InitialBelow t 0 0
initial_none t = record { at = λ o. (λ e. absurd (omega (arith, bit_zero o)), λ w. absurd (omega (arith, w.0))) }

pub initial_more : {t : Table} {n x : ℕ} (y : ℕ) → InitialBelow t n x → ((o : ℕ) → (bit y o ≡ 1) ↔ ((o ≡ n) × T (initial? t o))) → InitialBelow t (n + 1) (bit_or x y)
initial_more {x = x} y h d = record {
  at = λ o. (
    λ e. ⊎_elim (λ f. let w = (h.at o).0 f in (omega (arith, w.0), w.1)) (λ f. let w = (d o).0 f in (omega (arith, w.0), w.1)) ((or_digit x y o).0 e),
    λ w. (or_digit x y o).1 (⊎_elim (λ e. inr ((d o).1 (e, w.1))) (λ l. inl ((h.at o).1 (l, w.1))) (eq-or-lt_of_le (omega (arith, w.0)))),
  );
}

-- What a round does to the size: it grows, and there are at most 4,096 pairs; or the relation is the same.
pub larger : {r s : List ℕ} → ((j k : ℕ) → Holds r j k → Holds s j k) → (size_of s ≡ size_of r → ⊥) → 4096 - size_of s < 4096 - size_of r
larger {r} {s} sub n = omega (arith, size_grows sub, size_most s)

pub pair_round_keeps : {t : Table} {r s : List ℕ} → HoldsExactly s (PairRound t r) → (j k : ℕ) → Holds r j k → Holds s j k
pair_round_keeps h j k x = (h.at j k).1 (record { is = inl x })

pub level_round_keeps : {t : Table} {b back r s : List ℕ} → HoldsExactly s (LevelRound t b back r) → (j k : ℕ) → Holds r j k → Holds s j k
level_round_keeps h j k x = (h.at j k).1 (record { is = inl x })

pub pairs_done : (t : Table) (fit : IsTable t) {r s : List ℕ} → IsRelation r → IsRelation s → PairsUnder t r → HoldsExactly s (PairRound t r) → size_of r ≡ size_of s → r ≡ rows (pairs t)
pairs_done t fit {r} is more under h e =
    let same : r ≡ _ = same_size (pair_round_keeps h) is more e in
    listed_rows is (pairs_exact t fit under (subst (λ x. HoldsExactly x (PairRound t r)) (sym same) h))

pub levels_done : (t : Table) (fit : IsTable t) {b back live s r : List ℕ} → HoldsExactly b (Listed (pairs t)) → HoldsExactly back (Turned b)
    → IsRelation live → IsRelation s → LevelsUnder t back live → HoldsExactly s (LevelRound t b back live) → size_of live ≡ size_of s
    → IsRelation r → HoldsExactly r (Turned live) → r ≡ rows (levels t)
levels_done t fit {b} {back} {live} p q is more under h e last turned =
    let same : live ≡ _ = same_size (level_round_keeps h) is more e in
    listed_rows last (levels_exact t fit p q under (subst (λ x. HoldsExactly x (LevelRound t b back live)) (sym same) h) turned)
