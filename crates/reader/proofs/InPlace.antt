-- A state put in place among the words: it is read back there and is legal; and the state of words that are legal stands in place.
use Prim.Native.Nat.{ℕ, zero, suc, ◌+◌, ◌*◌, ◌-◌, ◌/◌, ◌%◌, ◌<◌, ◌≤◌}
use mathlib.Core.Bool.{Bool, true, false, cond}
use mathlib.Core.List.{List, [], ◌∷◌, ◌++◌}
use mathlib.Core.Path.{◌≡◌, refl, sym, ap, subst, ◌∙◌}
use native.Mathlib.Decide.{dec_lt}
use native.Mathlib.Omega.{arith}
use borrow.Author.Tests.{eqb-true, eqb-false, leb-true}
use lib.Dec.{eqb, leb}
use lib.ListN.{length, get_or, take, drop, length-append, length-drop, take-append-drop, get_or-append}
use lib.Seq.{take_at, drop_at, get_or-drop, ext_get_or, get_or-take, length-take-le}
use Rattle.vpa.specs.Lists.{Pair}
use Rattle.vpa.specs.ReaderComputed.{Blocks, ReaderState}
use Rattle.vpa.specs.TableOnDisk.{Table, state_count}
use Rattle.table.specs.Bytes.{all?}
use Rattle.table.specs.Logs.{longest_log}
use Rattle.table.proofs.All.{both, and_true, all_elim}
use Rattle.relation.specs.Relations.{HoldsExactly}
use Rattle.relation.proofs.RowsOf.{length_list, get_list, rows_relation}
use Rattle.nesting.specs.Calls.{rows}
use Rattle.nesting.specs.Scratch.{KeptFrom}
use Rattle.nesting.proofs.ListedRows.{Listed, rows_listed}
use Rattle.reader.specs.Layout.{leading, row_count, block_size, deepest, state_size, taken_in, depth_in, stopped_in, block_place, letter_in, rows_in, pairs_in, block_in, blocks_in, state_in, block_words, word_of, state_words, in_place}
use Rattle.reader.specs.Refusals.{letter_word?, rows?, block?, leading?, legal?}
use Rattle.reader.specs.Steps.{Ready}
use Rattle.reader.proofs.Legal.{legal_ready, ready_legal}
use Rattle.reader.proofs.Numbers.{deepest_is, state_size_lem, block_place_lem}
use Rattle.reader.proofs.Words.{FitBlock, FitBlocks, fit_last, fit_more, Fits, row_at, rows_length, blocks_length, tested_relation, pairs_are, pairs_kept, rows_fit, word_top, word_below, word_above, word_in, fit_blocks}

-- Words in which a block that fits stands at its depth: it is read back, and is legal there.
module _ (t : Table) (small : state_count t ≤ 64) {d : ℕ} {b : ℕ × List Pair} (fit : FitBlock t d b) where
  rows_hold_block : HoldsExactly (rows b.1) (Listed b.1)
  rows_hold_block = rows_listed b.1 (λ x m. let l = fit.inside x.0 x.1 m in (omega arith, omega arith))

  pairs_back : pairs_in (rows b.1) ≡ b.1
  pairs_back = pairs_are t small fit.sorted (record {
    sound = λ p q m. record { member = m };
    complete = λ p q l. l.member;
    bound = λ p q l. (fit.inside p q l.member).0;
  }) (λ p q l. (fit.inside p q l.member).1) rows_hold_block

  rows_legal : rows? (state_count t) (rows b.1) ≡ true
  unfolding rows
  rows_legal = rows_fit t (λ p q l. fit.inside p q l.member) rows_hold_block

  module _ (words : List ℕ) (long : state_size ≤ length words) (low : d ≤ deepest) (at : (j : ℕ) → j < 65 → get_or words (block_place d + j) 0 ≡ get_or (block_words b) j 0) where
    letter_back : letter_in words d ≡ b.0
    unfolding letter_in block_words
    letter_back = ap (λ (i : ℕ). get_or words i 0) (omega arith) ∙ at 0 (omega arith)

    rows_back : rows_in words d ≡ rows b.1
    unfolding rows block_words
    rows_back = ext_get_or 0 _ _ (rows_length words d low long ∙ sym (rows_relation _).rows) (λ j l.
        let m : j < 64 = omega (arith, rows_length words d low long) in
        row_at words d j m ∙ ap (λ (i : ℕ). get_or words i 0) (omega arith) ∙ at (suc j) (omega arith))

    block_back : (block_in words d ≡ b) × (block? t words d ≡ true)
    unfolding block?
    block_back = (rw (letter_back, rows_back, pairs_back) refl, rw (letter_back, rows_back, fit.letter) rows_legal)

-- Words in which blocks that fit stand, each at its depth: they are read back, and all are legal there.
blocks_back : (t : Table) (words : List ℕ) (e : ℕ) {bs : Blocks} → state_count t ≤ 64 → state_size ≤ length words → e ≤ deepest → length bs ≡ suc e
    → FitBlocks t bs → ((d j : ℕ) → d < length bs → j < 65 → get_or words (block_place d + j) 0 ≡ word_of bs d j)
    → (blocks_in words e ≡ bs) × (all? (block? t words) (suc e) ≡ true)
unfolding blocks_in all?
blocks_back t words zero small long low n (fit_last {b} f) h =
    let one = block_back t small f words long low (λ j l. h 0 j (omega arith) l ∙ word_top b [] 0 j refl) in
    (rw one.0 refl, one.1)
blocks_back t words zero small long low n (fit_more {bs = []} f fs) h = elim fs [ ]
blocks_back t words zero small long low n (fit_more {bs = c ∷ cs} f fs) h = absurd (omega arith)
blocks_back t words (suc e) small long low n (fit_last f) h = absurd (omega arith)
blocks_back t words (suc e) small long low n (fit_more {b} {bs} f fs) h =
    let same : length bs ≡ suc e = omega arith in
    let one = block_back t small (rw same at f) words long low (λ j l. h (suc e) j (omega arith) l ∙ word_top b bs (suc e) j (sym same)) in
    let rest = blocks_back t words e small long (omega arith) same fs (λ d j l m. h d j (omega arith) m ∙ word_below b bs d j (λ e. omega arith)) in
    (rw (one.0, rest.0) refl, and_true rest.1 one.1)

-- The words of a state, and where they stand when they are put in place.
module _ (r : ReaderState) where
  pub state_length : length (state_words r) ≡ state_size
  unfolding state_words state_size leading block_size row_count deepest
  state_length = ap (λ (n : ℕ). suc (suc (suc n))) (length_list _ _)

  state_word : (k : ℕ) → k < 2145 → get_or (state_words r) (suc (suc (suc k))) 0 ≡ word_of r.blocks (k / 65) (k % 65)
  unfolding state_words block_size row_count deepest
  state_word k l = get_list 2145 _ k l

  module _ (words : List ℕ) where
    pub in_place_long : state_size ≤ length (in_place r words)
    unfolding in_place
    in_place_long = omega (arith, length-append (state_words r) (drop state_size words), state_length)

    pub in_place_front : take state_size (in_place r words) ≡ state_words r
    unfolding in_place
    in_place_front = take_at (state_words r) (drop state_size words) state_size state_length

    -- Further words are as they were, and there are as many.
    pub in_place_further : drop state_size (in_place r words) ≡ drop state_size words
    unfolding in_place
    in_place_further = drop_at (state_words r) (drop state_size words) state_size state_length

    pub in_place_length : state_size ≤ length words → length (in_place r words) ≡ length words
    unfolding in_place
    in_place_length l = omega (arith, length-append (state_words r) (drop state_size words), state_length, length-drop state_size words)

    pub in_place_keeps : state_size ≤ length words → KeptFrom state_size words (in_place r words)
    in_place_keeps l = record { long = in_place_length l; rest = λ i g. past i (i - state_size) (omega arith) } where
      past : (i k : ℕ) → state_size + k ≡ i → get_or (in_place r words) i 0 ≡ get_or words i 0
      past i k e = rw (← e, ← get_or-drop state_size (in_place r words) k 0, ← get_or-drop state_size words k 0, in_place_further)

    in_place_word : (d j : ℕ) → d ≤ deepest → j < 65 → get_or (in_place r words) (block_place d + j) 0 ≡ word_of r.blocks d j
    unfolding in_place
    in_place_word d j l m =
        let place : block_place d + j ≡ suc (suc (suc (65 * d + j))) = omega (arith, block_place_lem d) in
        get_or-append (state_words r) (drop state_size words) 0 (block_place d + j) (omega (arith, state_length, state_size_lem, deepest_is, block_place_lem d))
        ∙ ap (λ (i : ℕ). get_or (state_words r) i 0) place ∙ state_word (65 * d + j) (omega (arith, deepest_is))
        ∙ (λ i. word_of r.blocks (depth i) (inside i))
      where
        depth : (65 * d + j) / 65 ≡ d
        depth = omega arith

        inside : (65 * d + j) % 65 ≡ j
        inside = omega arith

-- What stands for stopped or running is read back.
pub flag : (b : Bool) → (eqb (cond b 1 0) 1 ≡ b) × (cond {A = ℕ} b 1 0 ≤ 1)
flag true = (refl, omega arith)
flag false = (refl, omega arith)

-- A state put over another.
pub in_place_over : (r q : ReaderState) (words : List ℕ) → in_place r (in_place q words) ≡ in_place r words
unfolding in_place
in_place_over r q words = ap (λ (x : List ℕ). state_words r ++ x) (in_place_further q words)

-- A state that fits and is put in place is read back, and is legal there.
module _ (t : Table) (r : ReaderState) (words : List ℕ) (small : state_count t ≤ 64) (fits : Fits t r) where
  abbrev placed : List ℕ
  placed = in_place r words

  -- One block at least, so the depth counts the others.
  deep : suc (length r.blocks - 1) ≡ length r.blocks
  deep = some fits.blocks where
    some : {bs : Blocks} → FitBlocks t bs → suc (length bs - 1) ≡ length bs
    some (fit_last f) = omega arith
    some (fit_more f fs) = omega arith

  back : (blocks_in placed (length r.blocks - 1) ≡ r.blocks) × (all? (block? t placed) (suc (length r.blocks - 1)) ≡ true)
  back = blocks_back t placed (length r.blocks - 1) small (in_place_long r words) (omega (arith, fits.low, deep)) (sym deep) fits.blocks
      (λ d j l m. in_place_word r words d j (omega (arith, fits.low)) m)

  above : (i : ℕ) → block_place (length r.blocks) ≤ i → i < state_size → get_or placed i 0 ≡ 0
  above i l m =
      let d : ℕ = (i - 3) / 65 in
      let j : ℕ = (i - 3) % 65 in
      let place : i ≡ block_place d + j = omega (arith, block_place_lem (length r.blocks), block_place_lem d) in
      ap (λ (i : ℕ). get_or placed i 0) place ∙ in_place_word r words d j (omega (arith, state_size_lem, deepest_is)) (omega arith)
      ∙ word_above r.blocks d j (omega (arith, block_place_lem (length r.blocks)))

  pub in_place_back : state_in (in_place r words) ≡ r
  unfolding state_in in_place state_words
  in_place_back = λ i. record { taken = r.taken; stopped = (flag r.stopped).0 i; blocks = back.0 i }

  pub in_place_legal : legal? t (in_place r words) ≡ true
  unfolding in_place state_words
  in_place_legal = ready_legal t placed (record {
    long = in_place_long r words;
    low = omega (arith, deep, fits.low);
    block = λ d l. all_elim (block? t placed) (length r.blocks) (rw deep at back.1) d (omega (arith, deep));
    above = λ i l m. above i (rw deep at l) m;
  }) fits.taken (flag r.stopped).1

-- Words that are legal stand for a state that fits, and it stands in place there.
module _ (t : Table) (words : List ℕ) (small : state_count t ≤ 64) where
  pub legal_fits : legal? t words ≡ true → Fits t (state_in words)
  unfolding legal? leading? state_in
  legal_fits h =
      let tests = both (leading? words) _ h in
      let first = both (leb (taken_in words) longest_log) (leb (depth_in words) deepest) (both _ (leb (stopped_in words) 1) tests.0).0 in
      let blocks = (both (all? (block? t words) (suc (depth_in words))) _ tests.1).0 in
      record {
        taken = leb-true _ _ first.0;
        low = omega (arith, blocks_length words (depth_in words), leb-true (depth_in words) deepest first.1);
        blocks = fit_blocks t words (depth_in words) (λ d l. all_elim (block? t words) (suc (depth_in words)) blocks d (omega arith));
      }

  block_word : state_size ≤ length words → (d j : ℕ) → d ≤ deepest → block? t words d ≡ true → j < 65
      → get_or (block_words (block_in words d)) j 0 ≡ get_or words (block_place d + j) 0
  unfolding block? block_words letter_in
  block_word long d zero low h l = ap (λ (i : ℕ). get_or words i 0) (omega arith)
  block_word long d (suc j) low h l =
      let tested = (both (letter_word? t d (letter_in words d)) _ h).1 in
      let is = tested_relation (state_count t) (rows_in words d) tested small (rows_length words d low long) in
      ap (λ r. get_or r j 0) (pairs_kept (rows_in words d) is) ∙ row_at words d j (omega arith) ∙ ap (λ (i : ℕ). get_or words i 0) (omega arith)

  ready_word : (e k : ℕ) → Ready t words e → k < 2145 → word_of (blocks_in words e) (k / 65) (k % 65) ≡ get_or words (suc (suc (suc k))) 0
  ready_word e k ready l = by (dec_lt e (k / 65)) where
    by : Dec (e < k / 65) → word_of (blocks_in words e) (k / 65) (k % 65) ≡ get_or words (suc (suc (suc k))) 0
    by (yes above) = word_above (blocks_in words e) (k / 65) (k % 65) (omega (arith, blocks_length words e))
        ∙ sym (ready.above (suc (suc (suc k))) (omega (arith, block_place_lem (suc e))) (omega (arith, state_size_lem)))
    by (no below) =
        let in_depth : k / 65 ≤ e = omega arith in
        let low : k / 65 ≤ deepest = omega (arith, ready.low) in
        word_in words e (k / 65) (k % 65) in_depth ∙ block_word ready.long (k / 65) (k % 65) low (ready.block (k / 65) in_depth) (omega arith)
        ∙ ap (λ (i : ℕ). get_or words i 0) (omega (arith, block_place_lem (k / 65)))

  module _ (ready : Ready t words (depth_in words)) (stopped : stopped_in words ≤ 1) where
    legal_word : (i : ℕ) → i < state_size → get_or (state_words (state_in words)) i 0 ≡ get_or words i 0
    unfolding state_in state_words
    legal_word zero l = refl
    legal_word (suc zero) l = omega (arith, blocks_length words (depth_in words))
    legal_word (suc (suc zero)) l = by (eqb (stopped_in words) 1) refl where
      by : (b : Bool) → eqb (stopped_in words) 1 ≡ b → cond b 1 0 ≡ stopped_in words
      by true e = sym (eqb-true (stopped_in words) 1 e)
      by false e = let other = eqb-false (stopped_in words) 1 e in omega arith
    legal_word (suc (suc (suc k))) l =
        let m : k < 2145 = omega (arith, state_size_lem) in
        state_word (state_in words) k m ∙ ready_word (depth_in words) k ready m

    legal_words : state_words (state_in words) ≡ take state_size words
    legal_words =
        let same = state_length (state_in words) in
        ext_get_or 0 _ _ (same ∙ sym (length-take-le state_size words ready.long))
        (λ i l. legal_word i (omega arith) ∙ sym (get_or-take state_size words i 0 (omega arith)))

  pub legal_in_place : state_size ≤ length words → legal? t words ≡ true → in_place (state_in words) words ≡ words
  unfolding in_place
  legal_in_place long h =
      let facts = legal_ready t words long h in
      ap (λ s. s ++ drop state_size words) (legal_words facts.0 facts.2) ∙ take-append-drop state_size words

-- Words that begin alike stand for the same state: further words are not looked at.
module _ (t : Table) (words other : List ℕ) (small : state_count t ≤ 64) (long : state_size ≤ length words) (alike : take state_size words ≡ take state_size other)
    (legal : legal? t words ≡ true) where
  alike_in_place : in_place (state_in words) other ≡ other
  unfolding in_place
  alike_in_place =
      let facts = legal_ready t words long legal in
      ap (λ s. s ++ drop state_size other) (legal_words t words small facts.0 facts.2 ∙ alike) ∙ take-append-drop state_size other

  pub alike_legal : legal? t other ≡ true
  alike_legal = subst (λ (w : List ℕ). legal? t w ≡ true) alike_in_place (in_place_legal t (state_in words) other small (legal_fits t words small legal))

  pub alike_state : state_in other ≡ state_in words
  alike_state = ap state_in (sym alike_in_place) ∙ in_place_back t (state_in words) other small (legal_fits t words small legal)
