-- The loops that find the least top, and what it says of the table: no log is accepted, every one is too long, or a shortest one has that many letters.
use Prim.Native.Nat.{ℕ, suc, ◌+◌, ◌<◌, ◌≤◌}
use mathlib.Core.Bool.{Bool, true, false, ◌&&◌}
use mathlib.Core.List.{List, ◌++◌}
use mathlib.Core.Logic.{◌⊎◌, inl, inr, ⊎_elim}
use mathlib.Core.Option.{none, some}
use mathlib.Core.Path.{◌≡◌, refl, sym, ap, subst, ◌∙◌}
use native.Mathlib.Decide.{dec_le, dec_lt}
use native.Mathlib.Nat.{eq-or-lt_of_le}
use native.Mathlib.Omega.{arith}
use borrow.Author.Tests.{ltb-true, lt-ltb}
use lib.Dec.{T, ltb}
use lib.ListN.{length, take, drop, take-append-drop}
use lib.Seq.{length-take-le}
use Rattle.vpa.specs.Shortest.{Shortest}
use Rattle.vpa.specs.TableOnDisk.{Table, state_count, initial?, final?, automaton, IsTable}
use Rattle.vpa.proofs.Lists.{is_true}
use Rattle.vpa.proofs.ShortestLogs.{table_top_none, table_top_over, table_top_least}
use Rattle.vpa.proofs.TableMoves.{initial_bound, final_bound}
use Rattle.table.specs.Answers.{refused, answered}
use Rattle.table.proofs.All.{both, and_true}
use Rattle.nesting.specs.Scratch.{KeptFrom}
use Rattle.nesting.proofs.Cleared.{kept_drop}
use Rattle.lengths.specs.Limit.{most_shown, over}
use Rattle.lengths.specs.Steps.{length_in, Least}
use Rattle.lengths.proofs.Lowering.{some_over}
use Rattle.shortest.specs.declared.Top.{Top}
use Rattle.shortest.specs.Calls.{ShowsLog, shows_none, shows_long, shows_no_room, shows_log}
use Rattle.shortest.specs.Steps.{held_at, LeastTop, TopFrom, LesserTop, Wrote}
use Rattle.std.proofs.Common.{Option, Some, None}
use Rattle.std.specs.Option.{unwrap_or}

-- A test that came out true, or false.
holds : {b : Bool} → b ≡ true → T b
holds e = subst T (sym e) tt

fails : {b : Bool} → b ≡ false → T b → ⊥
fails e h = subst T e h

some_inj : {x y : Top} → Some x ≡ Some y → x ≡ y
some_inj {x} e = ap (λ o. unwrap_or o x) e

module _ {t : Table} {s : List ℕ} where
  -- One more end looked at: it is final and nearer than those before, or not.
  module _ {n i v h₀ : ℕ} {best top : Option Top} {b : Bool} (h : LesserTop t s n i best top) (held : length_in s i n ≡ v) (most : h₀ ≡ held_at top)
      (tested : final? t n ≡ b) where
    pub lesser_here : ltb v h₀ && b ≡ true → LesserTop t s (n + 1) i best (Some (record { first = i; last = n; moves = v }))
    lesser_here e =
        let w = both (ltb v h₀) b e in
        let l : v < h₀ = ltb-true _ _ w.0 in
        record {
          is = inr (record { pair = _; is = refl; first = refl; last = holds (tested ∙ w.1); held = held; less = omega (arith, h.most, most) });
          most = omega (arith, h.most, most);
          least = λ f low g short.
              ⊎_elim (λ (d : f ≡ n). rw d (omega arith)) (λ (m : f < n). omega (arith, h.least f m g short, most)) (eq-or-lt_of_le (omega arith));
        }

    pub lesser_past : ltb v h₀ && b ≡ false → LesserTop t s (n + 1) i best top
    lesser_past e = record {
      is = h.is;
      most = h.most;
      least = λ f low g short. ⊎_elim (λ (d : f ≡ n). near f d g) (λ (m : f < n). h.least f m g short) (eq-or-lt_of_le (omega arith));
    }
      where
        near : (f : ℕ) → f ≡ n → T (final? t f) → held_at top ≤ length_in s i f
        near f d g = rw d (by (dec_lt v h₀)) where
          by : Dec (v < h₀) → held_at top ≤ length_in s i n
          by (yes l) = absurd (fails e (holds (and_true (lt-ltb _ _ l) (sym tested ∙ is_true _ (rw d at g)))))
          by (no l) = omega (arith, most)

  -- One more beginning looked at: it is initial, and its ends were looked at, or not.
  module _ {n : ℕ} {best : Option Top} {b : Bool} (h : LeastTop t s n best) (tested : initial? t n ≡ b) where
    pub least_past : b ≡ false → LeastTop t s (n + 1) best
    least_past e = record {
      found = h.found;
      least = λ i f low g end short.
          ⊎_elim (λ (d : i ≡ n). absurd (fails (tested ∙ e) (subst (λ x. T (initial? t x)) d g))) (λ (m : i < n). h.least i f m g end short) (eq-or-lt_of_le (omega arith));
    }

    high : (x : Option Top) → best ≡ x → held_at best ≤ suc over
    high None e = rw e (omega arith)
    high (Some pair) e = let w = h.found pair e in rw e (omega (arith, w.1))

    pub least_here : {top : Option Top} → b ≡ true → LesserTop t s (state_count t) n best top → LeastTop t s (n + 1) top
    least_here {top} e k = record {
      found = λ pair d. by pair d k.is;
      least = λ i f low g end short.
          ⊎_elim (λ (d : i ≡ n). subst (λ x. held_at top ≤ length_in s x f) (sym d) (k.least f (omega (arith, final_bound t f end)) end (subst (λ x. length_in s x f ≤ over) d short)))
          (λ (m : i < n). omega (arith, k.most, h.least i f m g end short)) (eq-or-lt_of_le (omega arith));
    }
      where
        Found : Top → Type 0
        Found x = ((T (initial? t x.first) × T (final? t x.last)) × (length_in s x.first x.last ≡ x.moves)) × (x.moves ≤ over)

        from : (f : TopFrom t s n (held_at best) top) → Found f.pair
        from f =
            let start = subst (λ x. T (initial? t x)) (sym f.first) (holds (tested ∙ e)) in
            (((start, f.last), subst (λ x. length_in s x f.pair.last ≡ f.pair.moves) (sym f.first) f.held), omega (arith, f.less, high best refl))

        by : (pair : Top) → top ≡ Some pair → (top ≡ best) ⊎ TopFrom t s n (held_at best) top → Found pair
        by pair d (inl same) = h.found pair (sym same ∙ d)
        by pair d (inr f) = subst Found (some_inj (sym f.is ∙ d)) (from f)

-- What lies past n letters that were written is as it was.
kept_after : {n : ℕ} {out out' : List ℕ} → KeptFrom n out out' → out' ≡ take n out' ++ drop n out
kept_after {n} {out} {out'} h = sym (take-append-drop n out') ∙ ap (λ (x : List ℕ). take n out' ++ x) (kept_drop {q = n} h (omega arith))

-- The least of all tops, and what is shown of the table then.
over_more : over ≡ suc most_shown
unfolding over
over_more = refl

module _ {t : Table} (fit : IsTable t) {s : List ℕ} (held : Least t s) (out : List ℕ) where
  pub shows_no_log : LeastTop t s (state_count t) None → ShowsLog t out (answered none) out
  shows_no_log h = shows_none (table_top_none t fit some_over (length_in s) held (λ i f b e. by i f b e (dec_le (length_in s i f) over))) where
    by : (i f : ℕ) → T (initial? t i) → T (final? t f) → Dec (length_in s i f ≤ over) → over < length_in s i f
    by i f b e (yes m) = absurd (omega (arith, h.least i f (initial_bound t i b) b e m))
    by i f b e (no m) = omega arith

  module _ {top : Top} (h : LeastTop t s (state_count t) (Some top)) where
    least : (i f : ℕ) → T (initial? t i) → T (final? t f) → length_in s i f ≤ over → top.moves ≤ length_in s i f
    least i f b e l = h.least i f (initial_bound t i b) b e l

    pub not_past : top.moves ≤ over
    not_past = (h.found top refl).1

    pub shows_too_long : top.moves ≡ over → ShowsLog t out (refused 10) out
    shows_too_long d =
        let w = (h.found top refl).0 in
        let k = table_top_over t fit some_over (length_in s) held w.0.0 w.0.1 (w.1 ∙ d) (λ i f b e l. omega (arith, least i f b e l)) in
        shows_long k.0.1 (λ v a. omega (arith, k.1 v a, over_more))

    shortest_top : top.moves < over → Shortest (automaton t) top.moves
    shortest_top l =
        let w = (h.found top refl).0 in
        rw w.1 at (table_top_least t fit some_over (length_in s) held w.0.0 w.0.1 (omega (arith, w.1)) (λ i f b e m. omega (arith, least i f b e m, w.1)))

    pub shows_past : top.moves < over → length out < top.moves → ShowsLog t out (refused 9) out
    shows_past l m = shows_no_room (shortest_top l) (omega (arith, over_more)) m

    pub shows_written : {out' : List ℕ} → top.moves < over → top.moves ≤ length out → Wrote t top.moves out out' → ShowsLog t out (answered (some top.moves)) out'
    shows_written {out'} l m w =
        shows_log w.accepted (length-take-le top.moves out' (omega (arith, w.rest.long))) (shortest_top l).none_shorter (omega (arith, over_more)) m (kept_after w.rest)
