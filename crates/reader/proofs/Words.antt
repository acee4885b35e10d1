-- What stands among the words: rows and the pairs that they hold, and blocks. Which states words can stand for.
use Prim.Native.Nat.{ℕ, zero, suc, ◌+◌, ◌^◌, ◌<◌, ◌≤◌}
use mathlib.Core.Bool.{true}
use mathlib.Core.List.{List, [], ◌∷◌, Memᴰ}
use mathlib.Core.Logic.{◌↔◌}
use mathlib.Core.Path.{◌≡◌, refl, sym, ap, subst, ◌∙◌}
use native.Mathlib.Decide.{ℕ_discrete, dec_lt}
use native.Mathlib.Omega.{arith}
use borrow.Author.Tests.{eq-eqb, ne_eqb}
use lib.ListN.{length, get_or, get_or-eq_default}
use lib.Seq.{ext_get_or}
use Rattle.vpa.specs.Lists.{Pair, PairBefore, Sorted, square}
use Rattle.vpa.specs.ReaderComputed.{Blocks, ReaderState, ListsPairs}
use Rattle.vpa.specs.TableOnDisk.{Table, state_count}
use Rattle.vpa.proofs.Each.{sorted_same, pair_one_way}
use Rattle.vpa.proofs.Lists.{sift_intro, sift_elim, square_intro, square_elim, sorted_sift, sorted_square}
use Rattle.table.specs.Logs.{longest_log}
use Rattle.table.proofs.All.{both}
use Rattle.table.proofs.Parts.{length_part, byte_in_part}
use Rattle.relation.specs.Relations.{Holds, HoldsExactly, IsRelation}
use Rattle.relation.proofs.Relations.{held_iff_test, holds_inside}
use Rattle.nesting.specs.Calls.{rows}
use Rattle.nesting.proofs.ListedRows.{listed_rows}
use Rattle.reader.specs.Layout.{leading, row_count, deepest, state_size, block_place, letter_in, rows_in, pairs_in, block_in, blocks_in, block_words, word_of}
use Rattle.reader.specs.Refusals.{letter_word?, rows?, block?}
use Rattle.reader.proofs.Numbers.{leading_is, deepest_is, state_size_lem, block_place_lem}
use Rattle.reader.proofs.Rows.{digits_below, rows_told, rows_tell}

-- A state that words can stand for: not too long, not too deep, each block with a letter that it may have and with pairs of states, in order.
pub record FitBlock (t : Table) (d : ℕ) (b : ℕ × List Pair) : Type 0 where
  pub letter : letter_word? t d b.0 ≡ true
  pub inside : (p q : ℕ) → Memᴰ (p, q) b.1 → (p < state_count t) × (q < state_count t)
  pub sorted : Sorted PairBefore b.1

pub data FitBlocks (t : Table) : Blocks → Type 0 where
  fit_last : {b : ℕ × List Pair} → FitBlock t 0 b → FitBlocks t (b ∷ [])
  fit_more : {b : ℕ × List Pair} {bs : Blocks} → FitBlock t (length bs) b → FitBlocks t bs → FitBlocks t (b ∷ bs)

pub record Fits (t : Table) (r : ReaderState) : Type 0 where
  pub taken : r.taken ≤ longest_log
  pub low : length r.blocks ≤ suc deepest
  pub blocks : FitBlocks t r.blocks

-- The rows of a block among the words.
module _ (words : List ℕ) (d : ℕ) where
  pub row_at : (j : ℕ) → j < 64 → get_or (rows_in words d) j 0 ≡ get_or words (suc (block_place d) + j) 0
  unfolding rows_in row_count
  row_at j l = byte_in_part words (suc (block_place d)) 64 j l

  pub rows_length : d ≤ deepest → state_size ≤ length words → length (rows_in words d) ≡ 64
  unfolding rows_in row_count
  rows_length l long = length_part words (suc (block_place d)) 64 (omega (arith, deepest_is, state_size_lem, block_place_lem d))

pub blocks_length : (words : List ℕ) (d : ℕ) → length (blocks_in words d) ≡ suc d
unfolding blocks_in
blocks_length words zero = refl
blocks_length words (suc d) = ap suc (blocks_length words d)

-- The same blocks to a depth where the words to there are the same.
block_same : (a b : List ℕ) (d : ℕ) → d ≤ deepest → state_size ≤ length a → state_size ≤ length b
    → ((i : ℕ) → leading ≤ i → i < block_place (suc d) → get_or a i 0 ≡ get_or b i 0) → block_in a d ≡ block_in b d
unfolding letter_in
block_same a b d l la lb h = rw (
  h (block_place d) (omega (arith, leading_is, block_place_lem d)) (omega (arith, block_place_lem d, block_place_lem (suc d))),
  ext_get_or 0 (rows_in a d) (rows_in b d) (rows_length a d l la ∙ sym (rows_length b d l lb)) row,
)
  where
    row : (j : ℕ) → j < length (rows_in a d) → get_or (rows_in a d) j 0 ≡ get_or (rows_in b d) j 0
    row j m =
        let k : j < 64 = omega (arith, rows_length a d l la) in
        row_at a d j k ∙ h (suc (block_place d) + j) (omega (arith, leading_is, block_place_lem d)) (omega (arith, block_place_lem d, block_place_lem (suc d))) ∙ sym (row_at b d j k)

pub blocks_same : (a b : List ℕ) (d : ℕ) → d ≤ deepest → state_size ≤ length a → state_size ≤ length b
    → ((i : ℕ) → leading ≤ i → i < block_place (suc d) → get_or a i 0 ≡ get_or b i 0) → blocks_in a d ≡ blocks_in b d
unfolding blocks_in
blocks_same a b zero l la lb h = rw (block_same a b 0 l la lb h)
blocks_same a b (suc d) l la lb h = rw (
  block_same a b (suc d) l la lb h,
  blocks_same a b d (omega arith) la lb (λ i m k. h i m (omega (arith, block_place_lem (suc d), block_place_lem (suc (suc d))))),
)

-- Rows that name only states are a relation.
pub tested_relation : (n : ℕ) (r : List ℕ) → rows? n r ≡ true → n ≤ 64 → length r ≡ 64 → IsRelation r
tested_relation n r h small long = record { rows = long; fits = λ j. go j (dec_lt j 64) } where
  go : (j : ℕ) → Dec (j < 64) → get_or r j 0 < 2 ^ 64
  go j (yes l) = digits_below 64 _ (λ k e. omega (arith, (rows_told n r h j k l (record { digit = e })).1))
  go j (no l) = rw (get_or-eq_default r 0 {n = j} (omega arith)) (omega arith)

-- The pairs of rows, listed in order.
pairs_sorted : (r : List ℕ) → Sorted PairBefore (pairs_in r)
unfolding pairs_in
pairs_sorted r = sorted_sift PairBefore _ (sorted_square row_count)

pairs_member : (r : List ℕ) (p q : ℕ) → Memᴰ (p, q) (pairs_in r) ↔ ((p < 64) × (q < 64) × Holds r p q)
unfolding pairs_in row_count
pairs_member r p q = (
  λ m. let s = sift_elim _ (square 64) m in let l = square_elim 64 s.0 in (l.0, l.1, (held_iff_test r p q).0 s.1),
  λ h. sift_intro _ (square_intro h.0 h.1) ((held_iff_test r p q).1 h.2),
)

pub pairs_listed : (t : Table) {r : List ℕ} → state_count t ≤ 64 → length r ≡ 64 → rows? (state_count t) r ≡ true → ListsPairs t (pairs_in r) (Holds r)
pairs_listed t {r} small long h =
    let is = tested_relation (state_count t) r h small long in
    record {
      sound = λ p q m. ((pairs_member r p q).0 m).2;
      complete = λ p q x. let l = holds_inside is x in (pairs_member r p q).1 (l.0, l.1, x);
      bound = λ p q x. (rows_told (state_count t) r h p q (holds_inside is x).0 x).0;
    }

-- Rows that hold exactly what a list in order lists are read as that list.
pub pairs_are : (t : Table) {r : List ℕ} {xs : List Pair} {S : ℕ → ℕ → Type 0} → state_count t ≤ 64 → Sorted PairBefore xs → ListsPairs t xs S
    → ((p q : ℕ) → S p q → q < state_count t) → HoldsExactly r S → pairs_in r ≡ xs
pairs_are t {r} small sorted lists second h = sorted_same pair_one_way (pairs_sorted r) sorted (λ x. (
  λ m. lists.complete x.0 x.1 ((h.at x.0 x.1).0 ((pairs_member r x.0 x.1).0 m).2),
  λ m. let s = lists.sound x.0 x.1 m in
      (pairs_member r x.0 x.1).1 (omega (arith, lists.bound x.0 x.1 s), omega (arith, second x.0 x.1 s), (h.at x.0 x.1).1 s),
))

-- The rows of the pairs that rows hold are those rows.
pub pairs_kept : (r : List ℕ) → IsRelation r → rows (pairs_in r) ≡ r
pairs_kept r is = sym (listed_rows is (record {
  at = λ j k. (λ x. let l = holds_inside is x in record { member = (pairs_member r j k).1 (l.0, l.1, x) }, λ l. ((pairs_member r j k).0 l.member).2);
}))

-- Such rows name no state past the table's.
pub rows_fit : (t : Table) {r : List ℕ} {S : ℕ → ℕ → Type 0} → ((p q : ℕ) → S p q → (p < state_count t) × (q < state_count t)) → HoldsExactly r S
    → rows? (state_count t) r ≡ true
rows_fit t {r} bounds h = rows_tell (state_count t) r (λ p q l held. bounds p q ((h.at p q).0 held))

-- The word of a block on top of others, of those below it, and above it; and of the blocks among words.
module _ (b : ℕ × List Pair) (bs : Blocks) (d j : ℕ) where
  pub word_top : d ≡ length bs → word_of (b ∷ bs) d j ≡ get_or (block_words b) j 0
  unfolding word_of
  word_top e = rw (eq-eqb d (length bs) e)

  pub word_below : (d ≡ length bs → ⊥) → word_of (b ∷ bs) d j ≡ word_of bs d j
  unfolding word_of
  word_below e = rw (ne_eqb d (length bs) e)

pub word_above : (bs : Blocks) (d j : ℕ) → length bs ≤ d → word_of bs d j ≡ 0
unfolding word_of
word_above [] d j l = refl
word_above (b ∷ bs) d j l = word_below b bs d j (λ e. omega arith) ∙ word_above bs d j (omega arith)

pub word_in : (words : List ℕ) (e d j : ℕ) → d ≤ e → word_of (blocks_in words e) d j ≡ get_or (block_words (block_in words d)) j 0
unfolding blocks_in
word_in words zero d j l = let z : d ≡ 0 = omega arith in word_top _ [] d j z ∙ rw z
word_in words (suc e) d j l = go (ℕ_discrete d (suc e)) (word_in words e d j) where
  go : Dec (d ≡ suc e) → (d ≤ e → word_of (blocks_in words e) d j ≡ get_or (block_words (block_in words d)) j 0)
      → word_of (block_in words (suc e) ∷ blocks_in words e) d j ≡ get_or (block_words (block_in words d)) j 0
  go (yes p) h = word_top _ (blocks_in words e) d j (p ∙ sym (blocks_length words e)) ∙ rw p
  go (no p) h = word_below _ (blocks_in words e) d j (λ q. p (q ∙ blocks_length words e)) ∙ h (omega arith)

-- Blocks that pass the test fit.
module _ (t : Table) (words : List ℕ) where
  fit_block : (d : ℕ) → block? t words d ≡ true → FitBlock t d (block_in words d)
  unfolding block?
  fit_block d h =
      let tests = both (letter_word? t d (letter_in words d)) _ h in
      record {
        letter = tests.0;
        inside = λ p q m. let x = (pairs_member (rows_in words d) p q).0 m in rows_told (state_count t) (rows_in words d) tests.1 p q x.0 x.2;
        sorted = pairs_sorted (rows_in words d);
      }

  pub fit_blocks : (e : ℕ) → ((d : ℕ) → d ≤ e → block? t words d ≡ true) → FitBlocks t (blocks_in words e)
  unfolding blocks_in
  fit_blocks zero h = fit_last (fit_block 0 (h 0 (omega arith)))
  fit_blocks (suc e) h =
      let top = subst (λ d. FitBlock t d (block_in words (suc e))) (sym (blocks_length words e)) (fit_block (suc e) (h (suc e) (omega arith))) in
      fit_more top (fit_blocks e (λ d l. h d (omega arith)))
