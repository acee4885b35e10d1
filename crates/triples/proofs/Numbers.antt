-- Rows of numbers by their values: how the loops fill them, and what of a trimmed table the rows of a plan hold.
use Prim.Native.Nat.{ℕ, ◌+◌, ◌*◌, ◌%◌, ◌^◌, ◌≤◌, ◌<◌}
use mathlib.Core.List.{List, Memᴰ}
use mathlib.Core.Logic.{◌⊎◌, inl, inr, ⊎_elim}
use mathlib.Core.Path.{◌≡◌, refl, sym, subst, ◌∙◌}
use native.Mathlib.Nat.{eq-or-lt_of_le}
use native.Mathlib.Omega.{arith}
use lib.Bits.{bit_or, bit_and, and_le_l}
use lib.ListN.{get_or, set, replicate}
use Rattle.vpa.specs.Lists.{Trio}
use Rattle.vpa.specs.TableOnDisk.{Table}
use Rattle.vpa.specs.TrimComputed.{no_trio, trim_states, trim_marks}
use Rattle.vpa.proofs.TableLevels.{levels_complete}
use Rattle.vpa.proofs.TablePairs.{pairs_complete}
use Rattle.vpa.proofs.TrimmedStates.{trim_state_of, trim_mark_of}
use Rattle.table.specs.Layout.{parse}
use Rattle.table.specs.Refusals.{verdict}
use Rattle.table.proofs.Tables.{good_storable, good_table}
use Rattle.relation.specs.Relations.{Holds, HoldsExactly, IsRelation, Joined, Turned}
use Rattle.relation.proofs.Relations.{zeros_relation, zeros_hold, with_relation, with_pair, and_digit, exactly, Built, built_more, built_all}
use Rattle.triples.specs.Steps.{Columns, WayIn, WayOut, WaysOf, NumberAt, OnLevel, SameValues, Turning, StandsFor, SameLevel, MarkLevel, Entered, Left, Plans}
use Rattle.triples.specs.declared.Trios.{Trios}
use Rattle.triples.specs.declared.Ways.{Ways}

-- NUMBERS BY VALUE

-- Number j, one of the first n, has the value v and passes.
pub record Passing (P : ℕ → Type 0) (values : List ℕ) (n v j : ℕ) : Type 0 where
  pub low : j < n
  pub is : get_or values j 0 ≡ v
  pub of : P j

-- The relation that holds those.
pub record NumbersSoFar (P : ℕ → Type 0) (values : List ℕ) (n : ℕ) (r : List ℕ) : Type 0 where
  pub is : IsRelation r
  pub at : HoldsExactly r (Passing P values n)

pub numbers_none : (P : ℕ → Type 0) (values : List ℕ) → NumbersSoFar P values 0 (replicate 64 0)
numbers_none P values = record { is = zeros_relation; at = record { at = λ v j. (λ h. elim ((zeros_hold.at v j).0 h) [ ], λ w. absurd (omega arith)) } }

module _ {P : ℕ → Type 0} {values : List ℕ} {n : ℕ} where
  later : {v j : ℕ} → Passing P values n v j → Passing P values (n + 1) v j
  later w = record { low = omega arith; is = w.is; of = w.of }

  -- Of the first n + 1, the one at n or one of the first n.
  last : {v j : ℕ} → Passing P values (n + 1) v j → (j ≡ n) ⊎ Passing P values n v j
  last w = ⊎_elim inl (λ l. inr (record { low = l; is = w.is; of = w.of })) (eq-or-lt_of_le (omega arith))

  module _ {r : List ℕ} (h : NumbersSoFar P values n r) where
    pub numbers_skip : (P n → ⊥) → NumbersSoFar P values (n + 1) r
    numbers_skip q = record {
      is = h.is;
      at = exactly h.at (λ v j. later) (λ v j w. ⊎_elim (λ e. absurd (q (subst P e w.of))) (λ x. x) (last w));
    }

    pub numbers_take : P n → (value : get_or values n 0 < 64) (low : n < 64)
        → NumbersSoFar P values (n + 1) (set r (get_or values n 0) (bit_or (get_or r (get_or values n 0) 0) (1 * 2 ^ n % 2 ^ 64)))
    numbers_take p value low = record {
      is = with_relation h.is value low;
      at = exactly (with_pair h.is value low) (λ v j w. forth v j w.is) (λ v j w. record { is = back v j w (last w) });
    }
      where
        forth : (v j : ℕ) → Holds r v j ⊎ ((v ≡ get_or values n 0) × (j ≡ n)) → Passing P values (n + 1) v j
        forth v j (inl x) = later ((h.at.at v j).0 x)
        forth v j (inr e) = rw (e.0, e.1) (record { low = omega arith; is = refl; of = p })

        back : (v j : ℕ) → Passing P values (n + 1) v j → (j ≡ n) ⊎ Passing P values n v j → Holds r v j ⊎ ((v ≡ get_or values n 0) × (j ≡ n))
        back v j w (inl e) = inr (rw (← e) (sym w.is), e)
        back v j w (inr x) = inl ((h.at.at v j).1 x)

-- The whole loop done.
pub numbers_all : {values r : List ℕ} {n m : ℕ} → n ≤ m → m ≤ n → NumbersSoFar (λ j. Unit {0}) values n r → HoldsExactly r (NumberAt values m)
numbers_all l g h = exactly h.at (λ v j w. record { low = omega arith; is = w.is }) (λ v j w. record { low = omega arith; is = w.is; of = tt })

pub turning_all : {near far third r : List ℕ} {n m : ℕ} → n ≤ m → m ≤ n → NumbersSoFar (λ j. get_or third j 0 ≡ get_or near j 0) far n r
    → HoldsExactly r (Turning near far third m)
turning_all l g h =
    exactly h.at (λ v j w. record { low = omega arith; is = w.is; here = w.of }) (λ v j w. record { low = omega arith; is = w.is; of = w.here })

-- LEVELS

-- One row of the loop, and the whole loop done.
module _ {begun ending first second : List ℕ} {n i : ℕ} where
  pub levels_more : {r : List ℕ} → IsRelation begun → i < n → i < 64 → Built (OnLevel begun ending first second n) i r
      → Built (OnLevel begun ending first second n) (i + 1) (set r i (bit_and (get_or begun (get_or first i 0) 0) (get_or ending (get_or second i 0) 0)))
  levels_more is low l h = built_more (omega (arith, is.fits (get_or first i 0), and_le_l (get_or begun (get_or first i 0) 0) (get_or ending (get_or second i 0) 0))) l h (λ k. (
    λ e. let d = (and_digit _ _ k).0 e in record { low = low; begins = record { digit = d.0 }; ends = record { digit = d.1 } },
    λ w. (and_digit _ _ k).1 (w.begins.digit, w.ends.digit),
  ))

  pub levels_all : {r : List ℕ} → n ≤ i → Built (OnLevel begun ending first second n) i r → HoldsExactly r (OnLevel begun ending first second n)
  levels_all l h = built_all l (λ j k w. w.low) h

-- THE PLAN

-- With the columns of ss, and the ways of ms, what is said of values is said of these lists.
module _ {ss : List Trio} {states : Trios} (s : Columns ss states) where
  stands : {r : List ℕ} → HoldsExactly r (NumberAt states.third states.count) → HoldsExactly r (StandsFor ss)
  stands h =
      exactly h (λ p j x. record { low = omega arith; is = sym (s.third j x.low) ∙ x.is })
      (λ p j x. let l : j < states.count = omega arith in record { low = l; is = s.third j l ∙ x.is })

  same_level : {r : List ℕ} → HoldsExactly r (SameValues states.first states.second states.count states.first states.second states.count)
      → HoldsExactly r (SameLevel ss)
  same_level h =
      exactly h
      (λ i j x. record {
        from = omega arith;
        to = omega arith;
        begins = sym (s.first i x.from) ∙ x.begins ∙ s.first j x.to;
        ends = sym (s.second i x.from) ∙ x.ends ∙ s.second j x.to;
      })
      (λ i j x.
      let a : i < states.count = omega arith in
      let b : j < states.count = omega arith in
      record { from = a; to = b; begins = s.first i a ∙ x.begins ∙ sym (s.first j b); ends = s.second i a ∙ x.ends ∙ sym (s.second j b) })

  mark_level : {ms : List Trio} {marks : Trios} {r : List ℕ} → Columns ms marks
      → HoldsExactly r (SameValues marks.second marks.third marks.count states.first states.second states.count) → HoldsExactly r (MarkLevel ss ms)
  mark_level {ms} {marks} m h =
      exactly h
      (λ k j x. record {
        mark = omega arith;
        state = omega arith;
        begins = sym (m.second k x.from) ∙ x.begins ∙ s.first j x.to;
        ends = sym (m.third k x.from) ∙ x.ends ∙ s.second j x.to;
      })
      (λ k j x.
      let a : k < marks.count = omega arith in
      let b : j < states.count = omega arith in
      record { from = a; to = b; begins = m.second k a ∙ x.begins ∙ sym (s.first j b); ends = m.third k a ∙ x.ends ∙ sym (s.second j b) })

  module _ {t : Table} {ms : List Trio} {ways : Ways} (w : WaysOf t ms ways) where
    enters : {starts r : List ℕ} → HoldsExactly starts (Turning states.first states.second states.third states.count)
        → HoldsExactly r (Joined ways.closes starts) → HoldsExactly r (Entered t ss ms)
    enters f h =
        exactly h
        (λ k j x.
        let a = (w.closes.at k x.by).0 x.first in
        let b = (f.at x.by j).0 x.second in
        record {
          mark = a.low;
          state = omega arith;
          begins = sym (s.third j b.low) ∙ b.here ∙ s.first j b.low;
          way = (subst (WayOut t ms k) (sym b.is ∙ s.second j b.low) a).test;
        })
        (λ k j x.
        let l : j < states.count = omega arith in
        record {
          by = (get_or ss j no_trio).1;
          first = (w.closes.at k _).1 (record { low = x.mark; test = x.way });
          second = (f.at _ j).1 (record { low = l; is = s.second j l; here = s.third j l ∙ x.begins ∙ sym (s.first j l) });
        })

    leaves : {ends left r : List ℕ} → HoldsExactly ends (Turning states.second states.first states.third states.count)
        → HoldsExactly left (Joined ways.opens ends) → HoldsExactly r (Turned left) → HoldsExactly r (Left t ss ms)
    leaves f g h =
        exactly h
        (λ i k y.
        let x = (g.at k i).0 y.back in
        let a = (w.opens.at k x.by).0 x.first in
        let b = (f.at x.by i).0 x.second in
        record {
          state = omega arith;
          mark = a.low;
          ends = sym (s.third i b.low) ∙ b.here ∙ s.second i b.low;
          way = (subst (WayIn t ms k) (sym b.is ∙ s.first i b.low) a).test;
        })
        (λ i k x.
        let l : i < states.count = omega arith in
        record {
          back = (g.at k i).1 (record {
            by = (get_or ss i no_trio).0;
            first = (w.opens.at k _).1 (record { low = x.mark; test = x.way });
            second = (f.at _ i).1 (record { low = l; is = s.first i l; here = s.third i l ∙ x.ends ∙ sym (s.second i l) });
          });
        })

-- Put together as the code does.
pub plans : {states marks : Trios} {ways : Ways} {level outer ends left starts here pushes pops entered : List ℕ}
    → HoldsExactly level (SameValues states.first states.second states.count states.first states.second states.count)
    → HoldsExactly outer (SameValues marks.second marks.third marks.count states.first states.second states.count)
    → HoldsExactly ends (Turning states.second states.first states.third states.count) → HoldsExactly left (Joined ways.opens ends)
    → HoldsExactly starts (Turning states.first states.second states.third states.count) → HoldsExactly here (NumberAt states.third states.count)
    → HoldsExactly pushes (Turned outer) → HoldsExactly pops (Turned left) → HoldsExactly entered (Joined ways.closes starts)
    → Plans states marks ways (record {
      count = states.count;
      state = states.third;
      here = here;
      level = level;
      pushes = pushes;
      pops = pops;
      mark = marks.first;
      entered = entered;
      outer = outer;
    })
plans hlevel houter hends hleft hstarts hhere hpushes hpops hentered = record {
  of = λ t s m w.
      let returns = mark_level s m houter in
      record {
        guides = record {
          states = omega arith;
          marks = omega arith;
          stands = stands s hhere;
          marked = λ k l. m.first k (omega arith);
          enters = enters s w hstarts hentered;
          returns = returns;
        };
        count = s.count;
        state = s.third;
        level = same_level s hlevel;
        pushes = λ i k. (λ x. (returns.at k i).0 ((hpushes.at i k).0 x).back, λ x. (hpushes.at i k).1 (record { back = (returns.at k i).1 x }));
        pops = leaves s w hends hleft hpops;
      };
}

-- THE NUMBERS OF A TRIMMED STATE

-- The three numbers of a trimmed state, and the last two of a trimmed mark, are states of the table, so they are below 64.
module _ (s : List ℕ) (good : verdict s ≡ 0) where
  pub state_numbers : {x : Trio} → Memᴰ x (trim_states (parse s)) → (x.0 < 64) × (x.1 < 64) × (x.2 < 64)
  state_numbers m =
      let w = trim_state_of (parse s) m in
      let l = levels_complete (parse s) (good_table s good) w.live in
      let p = pairs_complete (parse s) (good_table s good) w.begun l.0 in
      (omega (arith, l.0, (good_storable s good).states), omega (arith, l.1, (good_storable s good).states), omega (arith, p.0, (good_storable s good).states))

  pub mark_numbers_lem : {x : Trio} → Memᴰ x (trim_marks (parse s)) → (x.1 < 64) × (x.2 < 64)
  mark_numbers_lem m =
      let l = levels_complete (parse s) (good_table s good) (trim_mark_of (parse s) m).live in
      (omega (arith, l.0, (good_storable s good).states), omega (arith, l.1, (good_storable s good).states))
