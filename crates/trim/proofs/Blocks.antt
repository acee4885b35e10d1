-- The bytes of the moves that a state has by a letter: where they stand in the moves' part, and where those with one mark lead.
use Prim.Native.Nat.{ℕ, zero, suc, ◌+◌, ◌*◌, ◌-◌, ◌/◌, ◌<◌, ◌≤◌}
use mathlib.Core.Bool.{Bool, true, false, ◌&&◌}
use mathlib.Core.List.{List, [], Memᴰ}
use mathlib.Core.Logic.{◌↔◌, ◌⊎◌, inl, inr, ⊎_elim}
use mathlib.Core.Path.{◌≡◌, refl, sym, ap, subst, ◌∙◌}
use native.Mathlib.Decide.{dec_lt}
use native.Mathlib.Nat.{eq-or-lt_of_le}
use native.Mathlib.Omega.{arith}
use lib.Bits.{bit_and, bit_or}
use borrow.Author.Tests.{ltb-true, ltb-false}
use lib.Dec.{T, ltb, eqb, eqb_refl, eqb→eq}
use lib.ListN.{length, get_or, take, drop, length-take, length-drop}
use lib.Seq.{get_or-take, get_or-drop}
use Rattle.std.specs.Prelude.{Option, Some, None}
use Rattle.std.specs.List.{AllWithin, HoldsAt}
use Rattle.std.specs.Option.{MatchOption, unwrap_or}
use Rattle.std.specs.List.Sorted.{IsPartitionedBy, IsPartitionPoint}
use Rattle.std.specs.Simd.{first_chunks}
use Rattle.std.proofs.lemmas.List.Sorted.{IsPartitionedBy-ltb, IsNonDecreasingBy-from_default}
use Rattle.vpa.specs.Lists.{any?, Sorted}
use Rattle.vpa.specs.TableOnDisk.{Entry, entry, EntryBefore, letter_count}
use Rattle.vpa.proofs.Lists.{and, both, any_intro, any_elim}
use Rattle.table.specs.Bytes.{byte, word}
use Rattle.table.specs.Layout.{entries, moves_part, parse}
use Rattle.table.specs.Refusals.{verdict}
use Rattle.table.proofs.Entries.{sorted_apart, count_entries, move_in, part_move, entries_get, entry_here, entry_place}
use Rattle.table.proofs.Parts.{length_part}
use Rattle.table.proofs.Quads.{quad_byte}
use Rattle.table.proofs.Tables.{good_storable, good_table}
use Rattle.relation.specs.Digits.{bit}
use Rattle.relation.specs.Relations.{Holds, holds?}
use Rattle.relation.proofs.Digits.{bit_zero}
use Rattle.relation.proofs.Relations.{held_iff_test, or_digit}
use Rattle.triples.specs.Listing.{digits_of, rows_with, Appended}
use Rattle.trim.specs.Steps.{Rising, CutBefore, CutFrom, Cut, BlockOf, EndsLow, arrives?, marked_by}
use Rattle.triples.proofs.DigitLists.{digit_test, digits_both}
use Rattle.triples.proofs.Laying.{appended_same}

-- A byte of a move, in the fours that the library cuts a slice into.
pub quad_at : (xs : List ℕ) {ms : List (List ℕ)} → ms ≡ first_chunks 4 (length xs / 4) xs → length ms ≡ length xs / 4 → (k j : ℕ) (d : List ℕ) → k < length ms → j < 4
    → get_or (get_or ms k d) j 0 ≡ byte xs (4 * k + j)
quad_at xs e f k j d l m = rw e (quad_byte xs k j d (omega arith) m)

-- THE CUTS

pub before_next : {part : List ℕ} {key at : ℕ} → Cut part key at → CutBefore part (key + 1) at
before_next c = record { inside = c.before.inside; at = λ j l. omega (arith, c.before.at j l) }

pub from_none : {part : List ℕ} {k : ℕ} (key : ℕ) → length part / 4 ≤ k → CutFrom part key k
from_none key l = record { at = λ j m g. absurd (omega arith) }

pub cut_of : {part : List ℕ} {key low high : ℕ} → CutBefore part key low → CutFrom part key high → high ≤ low → Cut part key low
cut_of b f l = record { before = b; after = record { at = λ j m g. f.at j (omega arith) g } }

pub cut_same : {part : List ℕ} {key other at : ℕ} → key ≡ other → Cut part key at → Cut part other at
cut_same {part} {at = at} e c = subst (λ k. Cut part k at) e c

-- One move that was looked at says it of all before it, or of all after it.
pub before_to : {part : List ℕ} {key m : ℕ} → Rising part → m < length part / 4 → word part (4 * m) < key → CutBefore part key (m + 1)
before_to {m = m} r l h = record { inside = omega arith; at = λ j g. omega (arith, r.at j m (omega arith) l) }

pub from_here : {part : List ℕ} {key : ℕ} (m : ℕ) → Rising part → key ≤ word part (4 * m) → CutFrom part key m
from_here m r h = record { at = λ j l g. omega (arith, r.at m j l g) }

-- The same of the fours that the library cuts the part into: their keys rise, so those before a key are in front, and the library finds how many.
module _ (part : List ℕ) {ms : List (List ℕ)} (same : ms ≡ first_chunks 4 (length part / 4) part) (count : length ms ≡ length part / 4) where
  key_here : (k : ℕ) (d : List ℕ) → k < length ms → word (get_or ms k d) 0 ≡ word part (4 * k)
  key_here k d l =
      let from = quad_at part same count k 0 d l (omega arith) in
      let letter = quad_at part same count k 1 d l (omega arith) in
      let e : 4 * k + 0 ≡ 4 * k = omega arith in
      let f : byte part (4 * k + 0) ≡ byte part (4 * k) = ap (byte part) e in
      omega arith

  pub keys_rise : Rising part → (key : ℕ) → IsPartitionedBy (λ m. ltb (word m 0) key) ms
  keys_rise r key =
      IsPartitionedBy-ltb (λ m. word m 0) ms key
      (IsNonDecreasingBy-from_default (λ m. word m 0) ms [] (λ j k l m. omega (arith, key_here j [] (omega arith), key_here k [] m, r.at j k l (omega arith))))

  pub cut_found : {key n : ℕ} → n ≤ length ms → IsPartitionPoint (λ m. ltb (word m 0) key ≡ true) (λ m. ltb (word m 0) key ≡ false) ms n → Cut part key n
  cut_found {key} {n} l p = record {
    before = record {
      inside = omega arith;
      at = λ j m. let t = ltb-true (word (get_or ms j []) 0) key (p.0 j [] (omega arith) m) in omega (arith, key_here j [] (omega arith));
    };
    after = record {
      at = λ j m g. let t = ltb-false (word (get_or ms j []) 0) key (p.1 j [] m (omega arith)) in omega (arith, key_here j [] (omega arith));
    };
  }

  -- Of the moves from a cut on, the first with another key stands where the next key begins.
  module _ {key at : ℕ} (rising : Rising part) (cut : Cut part key at) where
    abbrev rest : List (List ℕ)
    rest = take (length ms - at) (drop at ms)

    rest_count : length rest ≡ length ms - at
    rest_count = omega (arith, length-take (length ms - at) (drop at ms), length-drop at ms)

    rest_key : (k : ℕ) → k < length rest → word (get_or rest k []) 0 ≡ word part (4 * (at + k))
    rest_key k l =
        ap (λ m. word m 0) (get_or-take (length ms - at) (drop at ms) k [] (omega (arith, rest_count)) ∙ get_or-drop at ms k [])
        ∙ key_here (at + k) [] (omega (arith, rest_count))

    until : (n : ℕ) → n ≤ length rest → AllWithin (λ m. word m 0 ≡ key) rest 0 n → CutBefore part (key + 1) (at + n)
    until zero l a = subst (CutBefore part (key + 1)) (omega arith) (before_next cut)
    until (suc n) l a =
        let e = a n [] (omega arith) (omega arith) in
        let inside : at + n < length part / 4 = omega (arith, rest_count) in
        subst (CutBefore part (key + 1)) (omega arith) (before_to rising inside (omega (arith, rest_key n (omega arith))))

    found : (r : Option ℕ) → MatchOption r (AllWithin (λ m. word m 0 ≡ key) rest 0 (length rest)) (λ i. (i < length rest) × HoldsAt (λ m. word m 0 ≡ key → ⊥) rest i × AllWithin (λ m. word m 0 ≡ key) rest 0 i)
        → Cut part (key + 1) (at + unwrap_or r (length rest))
    found None a = cut_of {high = at + length rest} (until (length rest) (omega arith) a) (from_none _ (omega (arith, rest_count, cut.before.inside))) (omega arith)
    found (Some i) w =
        let here = rest_key i w.0 in
        let inside : at + i < length part / 4 = omega (arith, rest_count) in
        let from = cut.after.at (at + i) (omega arith) inside in
        cut_of {high = at + i} (until i (omega (arith, w.0)) w.2) (from_here (at + i) rising (next (λ e. w.1 [] (here ∙ e)) from)) (omega arith)
      where
        next : {x : ℕ} → (x ≡ key → ⊥) → key ≤ x → key + 1 ≤ x
        next {x} f l = ⊎_elim (λ e. absurd (f (sym e))) (λ g. omega arith) (eq-or-lt_of_le l)

    pub end_found : (r : Option ℕ) {n : ℕ} → MatchOption r (AllWithin (λ m. word m 0 ≡ key) rest 0 (length rest)) (λ i. (i < length rest) × HoldsAt (λ m. word m 0 ≡ key → ⊥) rest i × AllWithin (λ m. word m 0 ≡ key) rest 0 i)
        → n ≡ unwrap_or r (length rest) → (at ≤ at + n) × Cut part (key + 1) (at + n)
    end_found r w e = (omega arith, rw e (found r w))

-- On which side of a cut a move stands.
cut_past : {part : List ℕ} {key at k : ℕ} → Cut part key at → key ≤ word part (4 * k) → at ≤ k
cut_past {part} {key} {at} {k} c l = by (dec_lt k at) where
  by : Dec (k < at) → at ≤ k
  by (yes m) = absurd (omega (arith, c.before.at k m))
  by (no m) = omega arith

cut_under : {part : List ℕ} {key at k : ℕ} → Cut part key at → k < length part / 4 → word part (4 * k) < key → k < at
cut_under {part} {key} {at} {k} c g l = by (dec_lt k at) where
  by : Dec (k < at) → k < at
  by (yes m) = m
  by (no m) = absurd (omega (arith, c.after.at k (omega arith) g))

-- WHERE THE MOVES OF A BLOCK WITH ONE MARK LEAD

-- One of the first n moves of a block has the mark γ and ends at a state that number j stands for.
pub record ArrivesBelow (block : List ℕ) (γ : ℕ) (here : List ℕ) (n j : ℕ) : Type 0 where
  pub k : ℕ
  pub low : k < n
  pub mark : byte block (4 * k + 2) ≡ γ
  pub held : Holds here (byte block (4 * k + 3)) j

-- The digits of r are those j.
pub record ArrivedSoFar (block : List ℕ) (γ : ℕ) (here : List ℕ) (n r : ℕ) : Type 0 where
  pub at : (j : ℕ) → (bit r j ≡ 1) ↔ ArrivesBelow block γ here n j

pub arrived_none : (block : List ℕ) (γ : ℕ) (here : List ℕ) → ArrivedSoFar block γ here 0 0
arrived_none block γ here = record { at = λ j. (λ e. absurd (omega (arith, bit_zero j)), λ w. absurd (omega (arith, w.low))) }

module _ {block : List ℕ} {γ : ℕ} {here : List ℕ} {n : ℕ} where
  later : {j : ℕ} → ArrivesBelow block γ here n j → ArrivesBelow block γ here (n + 1) j
  later w = record { k = w.k; low = omega arith; mark = w.mark; held = w.held }

  -- Of the first n + 1, one of the first n or the one at n.
  last : {j : ℕ} (w : ArrivesBelow block γ here (n + 1) j) → (w.k ≡ n) ⊎ ArrivesBelow block γ here n j
  last w = ⊎_elim inl (λ l. inr (record { k = w.k; low = l; mark = w.mark; held = w.held })) (eq-or-lt_of_le (omega (arith, w.low)))

  module _ {r : ℕ} (h : ArrivedSoFar block γ here n r) where
    pub arrived_skip : (byte block (4 * n + 2) ≡ γ → ⊥) → ArrivedSoFar block γ here (n + 1) r
    arrived_skip other = record {
      at = λ j. (λ e. later ((h.at j).0 e), λ w. ⊎_elim (λ e. absurd (other (rw (← e) w.mark))) (h.at j).1 (last w));
    }

    pub arrived_take : {q : ℕ} → byte block (4 * n + 2) ≡ γ → byte block (4 * n + 3) ≡ q → ArrivedSoFar block γ here (n + 1) (bit_or r (get_or here q 0))
    arrived_take {q} m e = record { at = λ j. (λ d. forth j ((or_digit _ _ j).0 d), λ w. (or_digit _ _ j).1 (back j w (last w))) } where
      forth : (j : ℕ) → (bit r j ≡ 1) ⊎ (bit (get_or here q 0) j ≡ 1) → ArrivesBelow block γ here (n + 1) j
      forth j (inl d) = later ((h.at j).0 d)
      forth j (inr d) = record { k = n; low = omega arith; mark = m; held = rw e (record { digit = d }) }

      back : (j : ℕ) (w : ArrivesBelow block γ here (n + 1) j) → (w.k ≡ n) ⊎ ArrivesBelow block γ here n j → (bit r j ≡ 1) ⊎ (bit (get_or here q 0) j ≡ 1)
      back j w (inl d) = inr (rw (← e, ← d) w.held.digit)
      back j w (inr v) = inl ((h.at j).1 v)

pub arrived_all : {block : List ℕ} {γ : ℕ} {here : List ℕ} {n r : ℕ} → n ≤ length block / 4 → length block / 4 ≤ n → ArrivedSoFar block γ here n r
    → (j : ℕ) → (bit r j ≡ 1) ↔ T (arrives? (entries block) γ here j)
unfolding arrives?
arrived_all {block} {γ} {here} {n} {r} l g h j = (λ e. forth ((h.at j).0 e), λ t. (h.at j).1 (back (any_elim test (entries block) t))) where
  test : Entry → Bool
  test e = eqb e.mark γ && holds? here e.to j

  forth : ArrivesBelow block γ here n j → T (any? test (entries block))
  forth w = any_intro test (entry_here block w.k (omega (arith, w.low))) (rw w.mark (and (eqb γ γ) (holds? here _ j) (eqb_refl γ) ((held_iff_test here _ j).1 w.held)))

  back : (e : Entry) × Memᴰ e (entries block) × T (test e) → ArrivesBelow block γ here n j
  back (e, m, t) =
      let p = entry_place block m in
      let s = both (eqb e.mark γ) (holds? here e.to j) t in
      record {
        k = p.0;
        low = omega (arith, p.1);
        mark = sym (ap (λ x. x.mark) p.2) ∙ eqb→eq _ γ s.0;
        held = subst (λ x. Holds here x.to j) p.2 ((held_iff_test here _ j).0 s.1);
      }

-- THE ROWS OF THE MOVES WITH ONE MARK

pub marked_row : (block : List ℕ) (i a : ℕ) (here mark to : List ℕ) (k r : ℕ) {most n m : ℕ} {before after : List ℕ}
    → ((j : ℕ) → (bit r j ≡ 1) ↔ T (arrives? (entries block) (get_or mark k 0) here j))
    → Appended most (rows_with i a k (digits_of (bit_and r (get_or to k 0)))) before n after m → Appended most (marked_by block i a here mark to k) before n after m
unfolding marked_by
marked_row block i a here mark to k r h =
    appended_same (ap (rows_with i a k) (digits_both r (get_or to k 0) (arrives? (entries block) (get_or mark k 0) here) (holds? to k) h (digit_test to k)))

-- THE MOVES OF A CHECKED TABLE

-- Where letters are bytes, moves in order are in order by state and letter taken as one number.
word_up : (d e : Entry) → EntryBefore d e → d.letter < 256 → d.from * 256 + d.letter ≤ e.from * 256 + e.letter
word_up d e (inl l) b = omega arith
word_up d e (inr (f, inl l)) b = omega arith
word_up d e (inr (f, inr (g, h))) b = omega arith

module _ (s : List ℕ) (good : verdict s ≡ 0) where
  pub letter_byte : {a : ℕ} → a < letter_count (parse s) → a < 256
  letter_byte l = omega (arith, (good_storable s good).letters)

  pub ends_low : {p a : ℕ} {block : List ℕ} → BlockOf (parse s) p a block → EndsLow block
  ends_low {block = block} b = record {
    at = λ k l. omega (arith, (good_table s good).to _ ((b.at _).0 (entry_here block k l)).0, (good_storable s good).states);
  }

  -- From here on u is the moves' part.
  module _ {u : List ℕ} (part : u ≡ moves_part s) where
    these : entries u ≡ (parse s).moves
    unfolding parse
    these = ap entries part

    here : (k : ℕ) → k < length u / 4 → Memᴰ (move_in u (4 * k)) (parse s).moves
    here k l = subst (Memᴰ (move_in u (4 * k))) these (entry_here u k l)

    pub rising_part : Rising u
    rising_part = record { at = λ j k l m. ⊎_elim (λ e. rw e (omega arith)) (λ g. apart j k g m) (eq-or-lt_of_le l) } where
      apart : (j k : ℕ) → j < k → k < length u / 4 → word u (4 * j) ≤ word u (4 * k)
      apart j k g m =
          let b = sorted_apart (entry 0 0 0 0) EntryBefore (subst (Sorted EntryBefore) (sym these) (good_table s good).rising) j k g (omega (arith, count_entries u)) in
          word_up (move_in u (4 * j)) (move_in u (4 * k)) (rw (entries_get (entry 0 0 0 0) u j (omega arith), entries_get (entry 0 0 0 0) u k m) at b)
          (letter_byte ((good_table s good).letter _ (here j (omega arith))))

    -- A move from p by a stands between the two cuts.
    between : {p a key at end : ℕ} → key ≡ 256 * p + a → Cut u key at → Cut u (key + 1) end → {e : Entry} → Memᴰ e (parse s).moves
        → (e.from ≡ p) × (e.letter ≡ a) → (k : ℕ) × (at ≤ k) × (k < end) × (e ≡ move_in u (4 * k))
    between {key = key} is from to {e} m h =
        let w = entry_place u (subst (Memᴰ e) (sym these) m) in
        let q : word u (4 * w.0) ≡ key = omega (arith, is, h.0, h.1, ap (λ (x : Entry). x.from) w.2, ap (λ (x : Entry). x.letter) w.2) in
        (w.0, cut_past from (omega arith), cut_under to w.1 (omega arith), w.2)

    pub block_none : {p a key at end : ℕ} → key ≡ 256 * p + a → Cut u key at → Cut u (key + 1) end → end ≤ at
        → (e : Entry) → Memᴰ e (parse s).moves → (e.from ≡ p) × (e.letter ≡ a) → ⊥
    block_none is from to l e m h = let w = between is from to m h in omega (arith, w.1, w.2)

    pub block_of : {p a key at end : ℕ} → key ≡ 256 * p + a → a < letter_count (parse s) → Cut u key at → Cut u (key + 1) end
        → BlockOf (parse s) p a (take (4 * end - 4 * at) (drop (4 * at) u))
    block_of {p} {a} {key} {at} {end} is low from to =
        record { at = λ e. (λ m. forth e (entry_place block m), λ h. back e (between is from to h.0 h.1)) }
      where
        block : List ℕ
        block = take (4 * end - 4 * at) (drop (4 * at) u)

        count : length block / 4 ≡ end - at
        count = omega (arith, length_part u (4 * at) (4 * end - 4 * at) (omega (arith, from.before.inside, to.before.inside)))

        move : (i k : ℕ) → at + i ≡ k → k < end → move_in block (4 * i) ≡ move_in u (4 * k)
        move i k e l =
            let q : 4 * at + 4 * i ≡ 4 * k = omega arith in
            part_move u (4 * at) (4 * end - 4 * at) (4 * i) (omega arith) ∙ ap (move_in u) q

        -- Between the cuts state and letter are the key, and the letter is a byte.
        forth : (e : Entry) → (i : ℕ) × (i < length block / 4) × (e ≡ move_in block (4 * i)) → Memᴰ e (parse s).moves × ((e.from ≡ p) × (e.letter ≡ a))
        forth e (i, l, q) =
            let k = at + i in
            let h : k < end = omega (arith, count) in
            let g : k < length u / 4 = omega (arith, to.before.inside) in
            let b = from.after.at k (omega arith) g in
            let c = to.before.at k h in
            let d = letter_byte ((good_table s good).letter _ (here k g)) in
            let n = (good_storable s good).letters in
            rw (q ∙ move i k refl h) (here k g, (omega arith, omega arith))

        back : (e : Entry) → (k : ℕ) × (at ≤ k) × (k < end) × (e ≡ move_in u (4 * k)) → Memᴰ e (entries block)
        back e (k, l, h, q) = rw (q ∙ sym (move (k - at) k (omega arith) h)) (entry_here block (k - at) (omega (arith, count)))
