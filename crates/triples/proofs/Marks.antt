-- The trimmed marks over one mark of the table: which levels they stand for, how their rows lie in scratch, and the ways in and out that are gathered for
-- each of them by its number.
use Prim.Native.Nat.{ℕ, ◌+◌, ◌*◌, ◌-◌, ◌<◌, ◌≤◌}
use mathlib.Core.List.Memᴰ
use mathlib.Core.List.{List, ◌++◌, map, map-map, Memᴰ}
use mathlib.Core.Logic.{◌↔◌}
use mathlib.Core.Path.{◌≡◌, refl, sym, ap, subst, ◌∙◌}
use native.Mathlib.Decide.{dec_lt}
use native.Mathlib.Omega.{arith}
use lib.Dec.{T, eqb, eqb→eq}
use lib.ListN.{length, get_or, replicate, length-append, get_or-append, get_or-eq_default}
use lib.Seq.{get_or-append-add}
use Rattle.vpa.specs.Automaton.{opening, closing}
use Rattle.vpa.specs.Lists.{Pair, Trio, each, up_from, below, among, Sorted, PairBefore}
use Rattle.vpa.specs.PairsComputed.{open?, close?, opens_to?, closes_to?, opens?, pairs, levels}
use Rattle.vpa.specs.TableOnDisk.{entry, Table, kind_in, is_kind?}
use Rattle.vpa.specs.TrimComputed.{openers, no_trio, trim_marks, trim_marks_of}
use Rattle.vpa.proofs.Each.{each_same, map_each, each_below_more}
use Rattle.vpa.proofs.Lists.{both, and, any_intro, any_elim, sift_intro, sift_elim, mem_of_among, among_of_mem, sorted_sift, get_mem}
use Rattle.vpa.proofs.TableLevels.{levels_sorted, opens_to_to, closes_to_to}
use Rattle.vpa.proofs.TableMoves.{kind_eq, entry_cast}
use Rattle.vpa.proofs.TablePairs.{pairs_balanced, pairs_bounds}
use Rattle.table.specs.Layout.{parse}
use Rattle.table.specs.Refusals.{verdict}
use Rattle.table.proofs.Tables.{good_table}
use Rattle.relation.specs.Relations.{Holds, HoldsExactly, IsRelation, Joined, Both, Turned}
use Rattle.relation.proofs.Relations.{exactly, zeros_hold}
use Rattle.nesting.specs.Calls.{rows}
use Rattle.nesting.specs.Steps.{MoveOf}
use Rattle.nesting.proofs.CallLaws.{levels_inside, held_pairs}
use Rattle.nesting.proofs.ListedRows.{Listed, Inside, rows_listed}
use Rattle.nesting.proofs.PairSearch.{open_of, close_of}
use Rattle.triples.specs.declared.Ways.{Ways}
use Rattle.triples.specs.Listing.{digits_of, rows_with, trio_rows, Appended}
use Rattle.triples.specs.Steps.{InBy, OutBy, marks_of, WayIn, WayOut, WaysOf, MoreWays, Gathers}
use Rattle.triples.proofs.DigitLists.{pairs_by_rows}
use Rattle.triples.proofs.Laying.{capped_under, appended_none, appended_then, appended_same, appended_count}
use Rattle.triples.proofs.Rows.{trios_length, trios_append, trio_at}

module _ (t : Table) (γ : ℕ) where
  -- The tests for a way in and a way out, taken apart.
  in_parts : (o o' : ℕ) → T (opens_to? t (pairs t) o γ o') → (x : ℕ) × Memᴰ (o, x) (pairs t) × MoveOf t opening γ x o'
  unfolding opens_to? open?
  in_parts o o' h =
      let k = any_elim _ t.moves h in
      let e = k.0 in
      let u = both (is_kind? (kind_in t e.letter) opening) _ k.2 in
      let v = both (eqb e.to o') _ u.1 in
      let w = both (eqb e.mark γ) _ v.1 in (
        e.from,
        mem_of_among (o, e.from) (pairs t) w.1,
        record {
          letter = e.letter;
          stands = entry_cast e refl refl (eqb→eq e.mark γ w.0) (eqb→eq e.to o' v.0) k.1;
          of = kind_eq (kind_in t e.letter) opening u.0;
        },
      )

  out_parts : (q' q : ℕ) → T (closes_to? t (pairs t) q' γ q) → (x : ℕ) × MoveOf t closing γ q' x × Memᴰ (x, q) (pairs t)
  unfolding closes_to? close?
  out_parts q' q h =
      let k = any_elim _ t.moves h in
      let e = k.0 in
      let u = both (is_kind? (kind_in t e.letter) closing) _ k.2 in
      let v = both (eqb e.from q') _ u.1 in
      let w = both (eqb e.mark γ) _ v.1 in (
        e.to,
        record {
          letter = e.letter;
          stands = entry_cast e (eqb→eq e.from q' v.0) refl (eqb→eq e.mark γ w.0) refl k.1;
          of = kind_eq (kind_in t e.letter) closing u.0;
        },
        mem_of_among (e.to, q) (pairs t) w.1,
      )

  -- The live levels with a way in, then a balanced pair, then a way out are those that open a level.
  opening_levels : {live b inward outward inner around r : List ℕ} → HoldsExactly live (Listed (levels t)) → HoldsExactly b (Listed (pairs t))
      → HoldsExactly inward (InBy t γ) → HoldsExactly outward (OutBy t γ) → HoldsExactly inner (Joined inward b) → HoldsExactly around (Joined inner outward)
      → HoldsExactly r (Both live around) → HoldsExactly r (Listed (openers t (pairs t) (levels t) γ))
  unfolding openers opens?
  opening_levels {live} {b} {inward} {outward} {inner} {around} l p i u d e h =
      exactly h (λ o q w. record { member = forth o q w }) (λ o q w. back o q w.member)
    where
      forth : (o q : ℕ) → Both live around o q → Memᴰ (o, q) (openers t (pairs t) (levels t) γ)
      forth o q w =
          let outer = (e.at o q).0 w.second in
          let q' = outer.by in
          let nested = (d.at o q').0 outer.first in
          let o' = nested.by in
          let m = ((p.at o' q').0 nested.second).member in
          sift_intro _ ((l.at o q).0 w.first).member
          (any_intro _ m (and (among (o', q') (pairs t)) _ (among_of_mem (o', q') m)
          (and (opens_to? t (pairs t) o γ o') (closes_to? t (pairs t) q' γ q) ((i.at o o').0 nested.first).test ((u.at q' q).0 outer.second).test)))

      back : (o q : ℕ) → Memᴰ (o, q) (openers t (pairs t) (levels t) γ) → Both live around o q
      back o q m =
          let v = sift_elim _ (levels t) m in
          let w = any_elim _ (pairs t) v.1 in
          let o' = w.0.0 in
          let q' = w.0.1 in
          let ways = both (opens_to? t (pairs t) o γ o') (closes_to? t (pairs t) q' γ q) (both (among w.0 (pairs t)) _ w.2).1 in
          record {
            first = (l.at o q).1 (record { member = v.0 });
            second = (e.at o q).1 (record {
              by = q';
              first = (d.at o q').1 (record { by = o'; first = (i.at o o').1 (record { test = ways.0 }); second = (p.at o' q').1 (record { member = w.1 }) });
              second = (u.at q' q).1 (record { test = ways.1 });
            });
          }

  openers_sorted : Sorted PairBefore (openers t (pairs t) (levels t) γ)
  unfolding openers
  openers_sorted = sorted_sift PairBefore _ (levels_sorted t)

  -- So their rows, one digit after the other, are those of the trimmed marks.
  mark_rows : {r : List ℕ} → IsRelation r → HoldsExactly r (Listed (openers t (pairs t) (levels t) γ))
      → each (λ o. rows_with 0 γ o (digits_of (get_or r o 0))) (below 64) ≡ trio_rows (marks_of t γ)
  unfolding rows_with trio_rows marks_of
  mark_rows {r} is h =
      let row : Pair → _ = λ x. entry 0 γ x.0 x.1 in
      sym (map-map (λ (c : Trio). entry 0 c.0 c.1 c.2) (λ x. (γ, x.0, x.1)) (openers t (pairs t) (levels t) γ)
      ∙ ap (map row) (pairs_by_rows openers_sorted is h)
      ∙ map_each row _ (below 64)
      ∙ each_same _ _ (below 64) (λ o m. map-map row (λ q. (o, q)) (digits_of (get_or r o 0))))

-- For a table that was checked, s being its bytes; b and live hold its pairs and levels.
module _ (s : List ℕ) (good : verdict s ≡ 0) (γ : ℕ) where
  module _ {b : List ℕ} (is : b ≡ rows (pairs (parse s))) where
    balanced : HoldsExactly b (Listed (pairs (parse s)))
    balanced = held_pairs s good is

    pub ways_in : {moves r : List ℕ} → HoldsExactly moves (MoveOf (parse s) opening γ) → HoldsExactly r (Joined b moves) → HoldsExactly r (InBy (parse s) γ)
    ways_in {moves} opened h = exactly h forth (λ o o' w. back o o' (in_parts (parse s) γ o o' w.test)) where
      forth : (o o' : ℕ) → Joined b moves o o' → InBy (parse s) γ o o'
      forth o o' w =
          let m = ((balanced.at o w.by).0 w.first).member in
          let n = (opened.at w.by o').0 w.second in
          record {
            test = opens_to_to (parse s) (good_table s good) (pairs_bounds (parse s) m).0
                (record { x = w.by; a = n.letter; before = pairs_balanced (parse s) o w.by m; opened = open_of (parse s) n });
          }

      back : (o o' : ℕ) → (x : ℕ) × Memᴰ (o, x) (pairs (parse s)) × MoveOf (parse s) opening γ x o' → Joined b moves o o'
      back o o' w = record { by = w.0; first = (balanced.at o w.0).1 (record { member = w.1 }); second = (opened.at w.0 o').1 w.2 }

    pub ways_out : {moves r : List ℕ} → HoldsExactly moves (MoveOf (parse s) closing γ) → HoldsExactly r (Joined moves b) → HoldsExactly r (OutBy (parse s) γ)
    ways_out {moves} closed h = exactly h forth (λ q' q w. back q' q (out_parts (parse s) γ q' q w.test)) where
      forth : (q' q : ℕ) → Joined moves b q' q → OutBy (parse s) γ q' q
      forth q' q w =
          let n = (closed.at q' w.by).0 w.first in
          let m = ((balanced.at w.by q).0 w.second).member in
          record {
            test = closes_to_to (parse s) (good_table s good)
                (record { s = w.by; b = n.letter; closed = close_of (parse s) n; after = pairs_balanced (parse s) w.by q m });
          }

      back : (q' q : ℕ) → (x : ℕ) × MoveOf (parse s) closing γ q' x × Memᴰ (x, q) (pairs (parse s)) → Joined moves b q' q
      back q' q w = record { by = w.0; first = (closed.at q' w.0).1 w.1; second = (balanced.at w.0 q).1 (record { member = w.2 }) }

  -- Listed by rows of digits, the levels that open one are the rows of the trimmed marks.
  pub marks_listed : {b live inward outward inner around r before after : List ℕ} {n m : ℕ} → b ≡ rows (pairs (parse s)) → live ≡ rows (levels (parse s))
      → HoldsExactly inward (InBy (parse s) γ) → HoldsExactly outward (OutBy (parse s) γ) → HoldsExactly inner (Joined inward b)
      → HoldsExactly around (Joined inner outward) → HoldsExactly r (Both live around) → IsRelation r
      → Appended 64 (each (λ o. rows_with 0 γ o (digits_of (get_or r o 0))) (below 64)) before n after m
      → Appended 64 (trio_rows (marks_of (parse s) γ)) before n after m
  marks_listed {live = live} e f i u d g h is =
      let held : HoldsExactly live (Listed (levels (parse s))) = rw f (rows_listed (levels (parse s)) (levels_inside s good)) in
      appended_same (mark_rows (parse s) γ is (opening_levels (parse s) γ held (balanced e) i u d g h))

-- Rows gathered, each by itself.
old_row : (rows after : List ℕ) → length rows ≡ 64 → length after ≡ 64 → (k : ℕ) → (k < 64 → get_or after k 0 ≡ get_or rows k 0) → Dec (k < 64)
    → get_or after k 0 ≡ get_or rows k 0
old_row rows after long made k h (yes l) = h l
old_row rows after long made k h (no l) = get_or-eq_default after 0 (omega (arith, made)) ∙ sym (get_or-eq_default rows 0 (omega (arith, long)))

module _ {rows s r after : List ℕ} {from to place : ℕ} (long : length rows ≡ 64) (made : length after ≡ 64) where
  pub gathers_made : to ≤ 64 → ((k : ℕ) → k < 64 → from ≤ k → k < to → get_or after k 0 ≡ get_or r (get_or s (4 * k + place) 0) 0)
      → ((k : ℕ) → k < 64 → k < from → get_or after k 0 ≡ get_or rows k 0) → ((k : ℕ) → k < 64 → to ≤ k → get_or after k 0 ≡ get_or rows k 0)
      → Gathers rows from to s place r after
  gathers_made most new before past = record {
    new = λ k l m. new k (omega arith) l m;
    before = λ k l. old_row _ _ long made k (λ m. before k m l) (dec_lt k 64);
    past = λ k l. old_row _ _ long made k (λ m. past k m l) (dec_lt k 64);
  }

-- W says of a list of marks what their rows hold: row k what P says of mark number k. Rows of further marks gathered after theirs make the rows of all.
module _ (W : List Trio → ℕ → ℕ → Type 0) (P : Trio → ℕ → Type 0) (means : (ms : List Trio) (k y : ℕ) → W ms k y ↔ ((k < length ms) × P (get_or ms k no_trio) y)) where
  ways_with : (xs ms : List Trio) (f : Trio → ℕ) {rows s r after : List ℕ} {from to place : ℕ} → length xs ≡ from → to ≡ from + length ms
      → HoldsExactly rows (W xs) → Gathers rows from to s place r after → ((j : ℕ) → j < length ms → get_or s (4 * (from + j) + place) 0 ≡ f (get_or ms j no_trio))
      → ((j y : ℕ) → j < length ms → Holds r (f (get_or ms j no_trio)) y ↔ P (get_or ms j no_trio) y) → HoldsExactly after (W (xs ++ ms))
  ways_with xs ms f {rows} {r = r} {after} {from} {to} first all old g named holds = record { at = λ k y. go k y (dec_lt k from) (dec_lt k to) } where
    long : length (xs ++ ms) ≡ to
    long = omega (arith, length-append xs ms)

    -- Row k is a row that is known.
    by : {k y j : ℕ} {u : List ℕ} {x : Trio} → k < to → get_or after k 0 ≡ get_or u j 0 → get_or (xs ++ ms) k no_trio ≡ x → Holds u j y ↔ P x y
        → Holds after k y ↔ W (xs ++ ms) k y
    by {k} {y} l e d w = (
      λ h. (means (xs ++ ms) k y).1 (omega (arith, long), rw d (w.0 (record { digit = rw e at h.digit }))),
      λ v. record { digit = rw e (w.1 (rw d at ((means (xs ++ ms) k y).0 v).1)).digit },
    )

    go : (k y : ℕ) → Dec (k < from) → Dec (k < to) → Holds after k y ↔ W (xs ++ ms) k y
    go k y (yes l) m =
        by (omega arith) (g.before k l) (get_or-append xs ms no_trio k (omega arith))
        (λ h. ((means xs k y).0 ((old.at k y).0 h)).1, λ p. (old.at k y).1 ((means xs k y).1 (omega arith, p)))
    go k y (no l) (yes m) =
        let j = k - from in
        let e : from + j ≡ k = omega arith in
        let d : length xs + j ≡ k = omega arith in
        by m (g.new k (omega arith) m ∙ ap (λ i. get_or r i 0) (rw e at (named j (omega arith)))) (rw d at (get_or-append-add xs ms j no_trio)) (holds j y (omega arith))
    go k y (no l) (no m) = (
      λ h. absurd (omega (arith, ((means xs k y).0 ((old.at k y).0 (record { digit = rw (g.past k (omega arith)) at h.digit }))).0)),
      λ v. absurd (omega (arith, long, ((means (xs ++ ms) k y).0 v).0)),
    )

module _ (t : Table) (inside : Inside (levels t)) (γ : ℕ) where
  -- The three numbers of a trimmed mark over γ.
  mark_parts : (j : ℕ) → j < length (marks_of t γ)
      → ((get_or (marks_of t γ) j no_trio).0 ≡ γ) × ((get_or (marks_of t γ) j no_trio).1 < 64) × ((get_or (marks_of t γ) j no_trio).2 < 64)
  unfolding marks_of openers
  mark_parts j l =
      let w = Memᴰ.of_map _ (openers t (pairs t) (levels t) γ) (get_mem no_trio (marks_of t γ) j l) in
      let b = inside w.0 (sift_elim _ (levels t) w.1).0 in
      subst (λ (x : Trio). (x.0 ≡ γ) × (x.1 < 64) × (x.2 < 64)) w.2 (refl, b.0, b.1)

  module _ {a s : List ℕ} {count total : ℕ} (listed : Appended 64 (trio_rows (marks_of t γ)) a count s total) (few : total ≤ 64) where
    counted : total ≡ count + length (marks_of t γ)
    counted = omega (arith, capped_under 64 (count + length (trio_rows (marks_of t γ))) (omega arith), trios_length (marks_of t γ))

    -- Their rows in scratch name them.
    named : (j : ℕ) → j < length (marks_of t γ)
        → (get_or s (4 * (count + j) + 2) 0 ≡ (get_or (marks_of t γ) j no_trio).1) × (get_or s (4 * (count + j) + 3) 0 ≡ (get_or (marks_of t γ) j no_trio).2)
    named j l =
        let e : 4 * count + 4 * j ≡ 4 * (count + j) = omega arith in
        let w = trio_at (marks_of t γ) (listed.laid few) j l in
        (rw e at w.1, rw e at w.2)

    pub named_low : (k : ℕ) → count ≤ k → k < total → (get_or s (4 * k + 2) 0 < 64) × (get_or s (4 * k + 3) 0 < 64)
    named_low k l m =
        let j = k - count in
        let e : count + j ≡ k = omega arith in
        let b = mark_parts j (omega (arith, counted)) in
        let n = named j (omega (arith, counted)) in
        rw (← e) (omega (arith, n.0, b.1), omega (arith, n.1, b.2))

    pub more_ways : {w : Ways} {inward outward back opens closes : List ℕ} → w.count ≡ count → HoldsExactly inward (InBy t γ)
        → Gathers w.opens count total s 2 inward opens → HoldsExactly outward (OutBy t γ) → HoldsExactly back (Turned outward)
        → Gathers w.closes count total s 3 back closes → MoreWays t γ w (record { count = total; opens = opens; closes = closes })
    more_ways e i g u d f = record {
      of = λ xs l h. record {
        opens =
            ways_with (WayIn t) (λ x y. T (opens_to? t (pairs t) x.1 x.0 y)) (λ ms k y. (λ v. (v.low, v.test), λ v. record { low = v.0; test = v.1 }))
            xs (marks_of t γ) (λ x. x.1) (l ∙ e) counted h.opens g (λ j m. (named j m).0)
            (λ j y m. rw (mark_parts j m).0 (λ o. ((i.at _ y).0 o).test, λ v. (i.at _ y).1 (record { test = v })));
        closes =
            ways_with (WayOut t) (λ x y. T (closes_to? t (pairs t) y x.0 x.2)) (λ ms k y. (λ v. (v.low, v.test), λ v. record { low = v.0; test = v.1 }))
            xs (marks_of t γ) (λ x. x.2) (l ∙ e) counted h.closes f (λ j m. (named j m).1)
            (λ j y m. rw (mark_parts j m).0 (
              λ o. ((u.at y _).0 ((d.at _ y).0 o).back).test,
              λ v. (d.at _ y).1 (record { back = (u.at y _).1 (record { test = v }) }),
            ));
      };
    }

-- The marks over the first n, listed from the start of scratch on, and their ways as long as they are few enough.
pub record MarksSoFar (t : Table) (n : ℕ) (before after : List ℕ) (w : Ways) : Type 0 where
  pub listed : Appended 64 (trio_rows (each (marks_of t) (below n))) before 0 after w.count
  pub ways : w.count ≤ 64 → WaysOf t (each (marks_of t) (below n)) w

-- Zeros hold nothing, where P says nothing.
zeros_none : {P : ℕ → ℕ → Type 0} → ((k y : ℕ) → P k y → ⊥) → HoldsExactly (replicate 64 0) P
zeros_none f = exactly zeros_hold (λ k y h. elim h [ ]) (λ k y p. absurd (f k y p))

module _ (t : Table) where
  pub marks_none : (s : List ℕ) → MarksSoFar t 0 s s (record { count = 0; opens = replicate 64 0; closes = replicate 64 0 })
  unfolding trio_rows each below up_from
  marks_none s = record {
    listed = appended_none s (omega arith);
    ways = λ l. record { opens = zeros_none (λ k y v. omega (arith, v.low)); closes = zeros_none (λ k y v. omega (arith, v.low)) };
  }

  pub marks_more : {n : ℕ} {a b c : List ℕ} {w v : Ways} → MarksSoFar t n a b w → Appended 64 (trio_rows (marks_of t n)) b w.count c v.count
      → (v.count ≤ 64 → MoreWays t n w v) → MarksSoFar t (n + 1) a c v
  marks_more {n} {w = w} h k m = record {
    listed = rw (each_below_more (marks_of t) n, trios_append (each (marks_of t) (below n)) (marks_of t n)) (appended_then h.listed k);
    ways = λ l.
        let few : w.count ≤ 64 = omega (arith, capped_under 64 (w.count + length (trio_rows (marks_of t n))) (omega arith)) in
        let xs = each (marks_of t) (below n) in
        rw (each_below_more (marks_of t) n) ((m l).of xs (sym (appended_count h.listed few ∙ trios_length xs)) (h.ways few));
  }

  pub marks_all : {n : ℕ} {s a : List ℕ} {w : Ways} → n ≡ t.mark_count → MarksSoFar t n s a w
      → Appended 64 (trio_rows (trim_marks t)) s 0 a w.count × (w.count ≤ 64 → WaysOf t (trim_marks t) w)
  unfolding trim_marks_of marks_of
  marks_all {s = s} {a} {w} e h = let k = subst (λ n. MarksSoFar t n s a w) e h in (k.listed, k.ways)
