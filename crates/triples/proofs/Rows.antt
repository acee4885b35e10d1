-- How rows come to be listed, and how they are read back: a walk over the digits of a row, from the lowest on, that writes or appends rows for each of
-- them, one over all numbers below a bound, and columns of the rows.
use Prim.Native.Nat.{ℕ, ◌+◌, ◌*◌, ◌^◌, ◌<◌, ◌≤◌}
use mathlib.Core.Bool.{Bool, ◌&&◌}
use mathlib.Core.List.{List, [], ◌∷◌, ◌++◌, map, map-map, map-append, append-nil}
use mathlib.Core.Logic.{◌↔◌}
use mathlib.Core.Path.{◌≡◌, sym, ap, ◌∙◌}
use native.Mathlib.Nat.{zero-add}
use native.Mathlib.Omega.{arith}
use lib.Bits.{bit_and}
use lib.Count.{ones}
use lib.Dec.{T}
use lib.ListN.{length, get_or, take, drop, length-append, length-map, get_or-map}
use Rattle.vpa.specs.Lists.{Pair, Trio, sift, each, up_from, below, among}
use Rattle.vpa.specs.TableOnDisk.{Entry, entry, state_count}
use Rattle.vpa.specs.PairsComputed.{pairs, levels}
use Rattle.vpa.specs.TrimComputed.{states_of, trim_states_of, trim_states, no_trio}
use Rattle.vpa.proofs.Lists.{both, and, mem_of_among, among_of_mem}
use Rattle.vpa.proofs.Each.{each_append, each_same, each_each, each_map, map_each, each_below_more, sift_below}
use Rattle.vpa.proofs.TablePairs.{pairs_bounds}
use Rattle.vpa.proofs.TableLevels.{levels_sorted}
use Rattle.table.specs.Layout.{move_bytes, parse}
use Rattle.table.specs.Refusals.{verdict}
use Rattle.relation.specs.Relations.{holds?, HoldsExactly, Turned}
use Rattle.relation.specs.Digits.{ones_of}
use Rattle.relation.proofs.OnesListed.{Come, come_none, come_more, come_next, come_all}
use Rattle.relation.proofs.Relations.{held_iff_test}
use Rattle.relation.proofs.RowsOf.{rows_relation}
use Rattle.nesting.specs.Calls.{rows}
use Rattle.nesting.proofs.ListedRows.{rows_listed}
use Rattle.nesting.proofs.CallLaws.{pairs_inside, levels_inside}
use Rattle.triples.specs.Listing.{digits_of, rows_with, trio_rows, Laid, Appended}
use Rattle.triples.specs.declared.Trios.{Trios}
use Rattle.triples.specs.Steps.{Column, Columns, states_on, states_from, state_rows}
use Rattle.triples.proofs.DigitLists.{digits_ones, digits_length, digit_iff, digit_test, digits_both, pairs_by_rows}
use Rattle.triples.proofs.Laying.{laid_none, appended_none, appended_then, appended_same, appended_count, rows_skip, rows_laid, row_more, row_at, rows_one, rows_length}

-- Rows appended for each of the digits of a word that have come.
pub record WalkedRows (most : ℕ) (f : ℕ → List Entry) (row : ℕ) (done left before : List ℕ) (count : ℕ) (after : List ℕ) (total : ℕ) : Type 0 where
  pub come : Come row done left
  pub appended : Appended most (each f done) before count after total

module _ {most : ℕ} {f : ℕ → List Entry} {row : ℕ} where
  pub walk_none : {left : List ℕ} {count : ℕ} (s : List ℕ) → left ≡ ones_of row → count ≤ most + 1 → WalkedRows most f row [] left s count s count
  unfolding each
  walk_none s e m = record { come = come_none e; appended = appended_none s m }

  module _ {done left : List ℕ} {n m : ℕ} {a b : List ℕ} (w : WalkedRows most f row done left a n b m) where
    pub walk_more : {q k : ℕ} {next c : List ℕ} → left ≡ q ∷ next → Appended most (f q) b m c k → WalkedRows most f row (done ++ q ∷ []) next a n c k
    unfolding each
    walk_more {q} e h = record {
      come = come_more w.come e;
      appended = appended_same (sym (each_append f done (q ∷ []) ∙ ap (λ es. each f done ++ es) (append-nil (f q)))) (appended_then w.appended h);
    }

    pub walk_low : {q : ℕ} {next : List ℕ} → left ≡ q ∷ next → q < 64
    walk_low e = (come_next w.come e).0

    pub walk_all : left ≡ [] → Appended most (each f (digits_of row)) a n b m
    walk_all e = appended_same (ap (each f) (come_all w.come e ∙ digits_ones row)) w.appended

-- Rows appended for each number below n.
pub record ListedBelow (most : ℕ) (f : ℕ → List Entry) (n : ℕ) (before : List ℕ) (count : ℕ) (after : List ℕ) (total : ℕ) : Type 0 where
  pub appended : Appended most (each f (below n)) before count after total

module _ {most : ℕ} {f : ℕ → List Entry} where
  pub listed_none : {count : ℕ} (s : List ℕ) → count ≤ most + 1 → ListedBelow most f 0 s count s count
  unfolding each below up_from
  listed_none s l = record { appended = appended_none s l }

  pub listed_more : {n i m k : ℕ} {a b c : List ℕ} → ListedBelow most f n a i b m → Appended most (f n) b m c k → ListedBelow most f (n + 1) a i c k
  listed_more {n} h g = record { appended = appended_same (sym (each_below_more f n)) (appended_then h.appended g) }

  pub listed_all : {n i m : ℕ} {a b : List ℕ} → n ≡ 64 → ListedBelow most f n a i b m → Appended most (each f (below 64)) a i b m
  listed_all e h = appended_same (ap (λ n. each f (below n)) e) h.appended

-- Rows written for each of the digits of a word that have come.
pub record WrittenSoFar (count x y z last : ℕ) (before done left : List ℕ) (at : ℕ) (after : List ℕ) : Type 0 where
  pub come : Come last done left
  pub place : at ≡ 4 * count + 4 * length done
  pub laid : Laid (4 * count) (move_bytes (rows_with x y z done)) before after

module _ {count x y z last : ℕ} where
  pub written_none : {left : List ℕ} (s : List ℕ) → left ≡ ones_of last → WrittenSoFar count x y z last s [] left (4 * count) s
  unfolding rows_with move_bytes
  written_none s e = record { come = come_none e; place = omega arith; laid = laid_none (4 * count) s }

  module _ {at : ℕ} {before done left after : List ℕ} (w : WrittenSoFar count x y z last before done left at after) where
    module _ {k : ℕ} {next : List ℕ} (e : left ≡ k ∷ next) where
      pub written_low : k < 64
      written_low = (come_next w.come e).0

      pub written_room : count + length (digits_of last) ≤ 1024 → at + 4 ≤ 4096
      written_room l =
          omega (arith, w.place, ap length (w.come.all ∙ digits_ones last), length-append done left, ap length e)

      pub written_more : {row : List ℕ} {n : ℕ} → row ≡ x ∷ y ∷ z ∷ k ∷ [] → n ≡ 4 → at + 4 ≤ length before
          → WrittenSoFar count x y z last before (done ++ k ∷ []) next (at + 4) (take at after ++ (row ++ drop n (drop at after)))
      written_more is four l = record {
        come = come_more w.come e;
        place = omega (arith, w.place, length-append done (k ∷ []));
        laid =
            rw (rows_one x y z k done, is, four)
            (row_more (rows_with x y z done) x y z k w.laid (omega (arith, w.place, rows_length x y z done)) l);
      }

    pub written_all : left ≡ [] → Laid (4 * count) (move_bytes (rows_with x y z (digits_of last))) before after
    written_all e = rw (come_all w.come e ∙ digits_ones last) at w.laid

-- Rows appended or left out, by the number of digits.
module _ (x y z : ℕ) {last : ℕ} (fits : last < 2 ^ 64) where
  rows_ones : length (rows_with x y z (digits_of last)) ≡ ones last
  rows_ones = rows_length x y z (digits_of last) ∙ digits_length last fits

  pub append_skip : {most count : ℕ} {s : List ℕ} → most < count + ones last → Appended most (rows_with x y z (digits_of last)) s count s (most + 1)
  append_skip l = rows_skip (omega (arith, rows_ones))

  pub append_laid : {most count : ℕ} {a b : List ℕ} → count + ones last ≤ most → Laid (4 * count) (move_bytes (rows_with x y z (digits_of last))) a b
      → Appended most (rows_with x y z (digits_of last)) a count b (count + ones last)
  append_laid l h = rw (sym rows_ones) (rows_laid (omega (arith, rows_ones)) h)

-- The states between o and q: a row of the pairs, and a row of the pairs turned round.
module _ (b : List ℕ) {back : List ℕ} (turned : HoldsExactly back (Turned b)) where
  between : (o q : ℕ) → digits_of (bit_and (get_or b o 0) (get_or back q 0)) ≡ sift (λ p. holds? b o p && holds? b p q) (below 64)
  between o q = digits_both (get_or b o 0) (get_or back q 0) (holds? b o) (λ p. holds? b p q) (digit_test b o) (λ p. digit_iff back q p (
    λ h. (held_iff_test b p q).1 ((turned.at q p).0 h).back,
    λ t. (turned.at q p).1 (record { back = (held_iff_test b p q).0 t }),
  ))

  module _ (l : List ℕ) where
    states_row : (o : ℕ) → each (λ q. rows_with 0 o q (digits_of (bit_and (get_or b o 0) (get_or back q 0)))) (digits_of (get_or l o 0)) ≡ states_from b l o
    unfolding states_from states_on
    states_row o = each_same _ _ (digits_of (get_or l o 0)) (λ q m. ap (rows_with 0 o q) (between o q))

    pub states_more : {o i m k : ℕ} {x y z : List ℕ} → ListedBelow 64 (states_from b l) o x i y m
        → Appended 64 (each (λ q. rows_with 0 o q (digits_of (bit_and (get_or b o 0) (get_or back q 0)))) (digits_of (get_or l o 0))) y m z k
        → ListedBelow 64 (states_from b l) (o + 1) x i z k
    states_more {o} h g = listed_more h (appended_same (states_row o) g)

pub states_all : (b l : List ℕ) {n i m : ℕ} {x y : List ℕ} → n ≡ 64 → ListedBelow 64 (states_from b l) n x i y m → Appended 64 (state_rows b l) x i y m
unfolding state_rows
states_all b l e h = listed_all e h

-- Trios as rows.
abbrev trio_row : Trio → Entry
trio_row c = entry 0 c.0 c.1 c.2

pub trios_length : (xs : List Trio) → length (trio_rows xs) ≡ length xs
unfolding trio_rows
trios_length xs = length-map xs trio_row

pub trios_append : (xs ys : List Trio) → trio_rows (xs ++ ys) ≡ trio_rows xs ++ trio_rows ys
unfolding trio_rows
trios_append xs ys = map-append trio_row xs ys

pub trio_at : (xs : List Trio) {place : ℕ} {a b : List ℕ} → Laid place (move_bytes (trio_rows xs)) a b → (i : ℕ) → i < length xs
    → (get_or b (place + 4 * i + 1) 0 ≡ (get_or xs i no_trio).0)
    × (get_or b (place + 4 * i + 2) 0 ≡ (get_or xs i no_trio).1)
    × (get_or b (place + 4 * i + 3) 0 ≡ (get_or xs i no_trio).2)
unfolding trio_rows
trio_at xs h i l =
    let r = row_at (trio_rows xs) h i (omega (arith, trios_length xs)) (trio_row no_trio) in
    let e = get_or-map trio_row xs i no_trio in
    (r.1 ∙ ap (λ w. w.letter) e, r.2 ∙ ap (λ w. w.mark) e, r.3 ∙ ap (λ w. w.to) e)

-- For a table, the rows that the two relations give are those of its trimmed states.
module _ (s : List ℕ) (good : verdict s ≡ 0) where
  abbrev held? : ℕ → ℕ → Bool
  held? j k = holds? (rows (pairs (parse s))) j k

  abbrev pair? : ℕ → ℕ → Bool
  pair? j k = among (j, k) (pairs (parse s))

  pair_test : (j k : ℕ) → T (held? j k) ↔ T (pair? j k)
  pair_test j k =
      let held = (rows_listed (pairs (parse s)) (pairs_inside s good)).at j k in
      let test = held_iff_test (rows (pairs (parse s))) j k in
      (λ h. among_of_mem (j, k) (held.0 (test.0 h)).member, λ h. test.1 (held.1 (record { member = mem_of_among (j, k) (pairs (parse s)) h })))

  pair_low : (j k : ℕ) → T (pair? j k) → (k < state_count (parse s)) × (k < 64)
  pair_low j k h = let m = mem_of_among (j, k) (pairs (parse s)) h in ((pairs_bounds (parse s) m).1, (pairs_inside s good (j, k) m).1)

  states_of_lem : (o q : ℕ) → sift (λ p. held? o p && held? p q) (below 64) ≡ states_of (parse s) (pairs (parse s)) (o, q)
  unfolding states_of
  states_of_lem o q = sift_below _ _ (λ p. (
    λ h.
        let t = both (held? o p) (held? p q) h.1 in
        let m = (pair_test o p).0 t.0 in
        ((pair_low o p m).0, and (pair? o p) (pair? p q) m ((pair_test p q).0 t.1)),
    λ h.
        let t = both (pair? o p) (pair? p q) h.1 in
        ((pair_low o p t.0).1, and (held? o p) (held? p q) ((pair_test o p).1 t.0) ((pair_test p q).1 t.1)),
  ))

  pub state_rows_lem : state_rows (rows (pairs (parse s))) (rows (levels (parse s))) ≡ trio_rows (trim_states (parse s))
  unfolding state_rows states_from states_on trio_rows trim_states_of rows_with rows
  state_rows_lem =
      each_same _ _ (below 64) (λ o m.
      each_same _ _ (digits_of (get_or (rows (levels (parse s))) o 0)) (λ q k. between_rows o q) ∙ sym (each_map on (λ q. (o, q)) _))
      ∙ sym (each_each on _ (below 64))
      ∙ sym (ap (each on) (pairs_by_rows (levels_sorted (parse s)) (rows_relation _) (rows_listed (levels (parse s)) (levels_inside s good))))
      ∙ sym (map_each trio_row _ (levels (parse s)))
    where
      on : Pair → List Entry
      on x = map trio_row (map (λ p. (x.0, x.1, p)) (states_of (parse s) (pairs (parse s)) x))

      between_rows : (o q : ℕ) → map (λ p. entry 0 o q p) (sift (λ p. held? o p && held? p q) (below 64)) ≡ on (o, q)
      between_rows o q = ap (map (λ p. entry 0 o q p)) (states_of_lem o q) ∙ sym (map-map trio_row (λ p. (o, q, p)) (states_of (parse s) (pairs (parse s)) (o, q)))

-- Trios that were listed and read back are the trios.
pub column_trios : (xs : List Trio) {a b : List ℕ} {n : ℕ} {r : Trios} → Appended 64 (trio_rows xs) a 0 b n → n ≤ 64
    → (r.count ≡ n) × (Column b 1 n r.first × (Column b 2 n r.second × Column b 3 n r.third)) → Columns xs r
column_trios xs {b = b} {n} {r} h l c = record {
  count = c.0 ∙ many;
  most = omega (arith, c.0);
  first = λ i m. c.1.0.at i (omega (arith, c.0)) ∙ (row i (omega (arith, c.0))).0;
  second = λ i m. c.1.1.0.at i (omega (arith, c.0)) ∙ (row i (omega (arith, c.0))).1;
  third = λ i m. c.1.1.1.at i (omega (arith, c.0)) ∙ (row i (omega (arith, c.0))).2;
} where
  many : n ≡ length xs
  many = appended_count h l ∙ trios_length xs

  row : (i : ℕ) → i < n
      → (get_or b (4 * i + 1) 0 ≡ (get_or xs i no_trio).0) × (get_or b (4 * i + 2) 0 ≡ (get_or xs i no_trio).1) × (get_or b (4 * i + 3) 0 ≡ (get_or xs i no_trio).2)
  row i m = rw zero-add at (trio_at xs (h.laid l) i (omega (arith, many)))
