-- The head put in front of words whose blocks are ready: the words then are what the state, put in place, makes of the words before.
use Prim.Native.Nat.{ℕ, suc, ◌+◌, ◌<◌, ◌≤◌}
use mathlib.Core.Bool.{Bool, true, false, not, cond}
use mathlib.Core.List.{List, [], ◌∷◌, ◌++◌}
use mathlib.Core.Logic.{◌↔◌, inl, inr}
use mathlib.Core.Path.{◌≡◌, refl, sym, ap, subst, ◌∙◌}
use native.Mathlib.Omega.{arith}
use lib.Dec.{T}
use lib.ListN.{length, get_or}
use Rattle.vpa.specs.Lists.{PairBefore, Sorted}
use Rattle.vpa.specs.Reader.{Started, begin, Going}
use Rattle.vpa.specs.ReaderComputed.{ReaderState, start_pairs, holds?, begin_state, letter_state}
use Rattle.vpa.specs.TableOnDisk.{Table, state_count, automaton}
use Rattle.vpa.proofs.Lists.{sorted_sift, sorted_square}
use Rattle.vpa.proofs.TableMoves.{initial_bound}
use Rattle.vpa.proofs.TableReader.{lists_start, shows_begin, holds_iff_going}
use Rattle.vpa.proofs.ReaderStates.{taken_most}
use Rattle.table.specs.Logs.{longest_log}
use Rattle.relation.specs.Relations.{Holds, HoldsExactly, IsRelation, TellsNone}
use Rattle.nesting.specs.Scratch.{KeptFrom}
use Rattle.nesting.proofs.Cleared.{kept_then, kept_more, kept_drop}
use Rattle.reader.specs.declared.Head.{Head}
use Rattle.reader.specs.Layout.{leading, state_size, taken_in, depth_in, stopped_in, block_place, letter_in, rows_in, blocks_in, state_in, state_words, in_place}
use Rattle.reader.specs.Refusals.{letter_word?, block?, legal?, letter_verdict}
use Rattle.reader.specs.Steps.{state_with, Ready, Stepped, Written, head_words}
use Rattle.reader.proofs.InPlace.{legal_in_place, flag}
use Rattle.reader.proofs.Legal.{ready_legal}
use Rattle.reader.proofs.Numbers.{leading_is, state_size_lem, block_place_lem}
use Rattle.reader.proofs.Verdicts.{verdict_zero}
use Rattle.reader.proofs.Words.{blocks_same, pairs_are, rows_fit}
use Rattle.reader.proofs.LentRows.{rows_are}

-- Of the words that a state is put into, those past its own alone are asked.
pub in_place_kept : (r : ReaderState) {a b : List ℕ} → KeptFrom state_size a b → in_place r b ≡ in_place r a
unfolding in_place
in_place_kept r h = ap (λ (x : List ℕ). state_words r ++ x) (kept_drop {q = state_size} h (omega arith))

-- Words that are the same from the first block on have the same blocks.
block_kept : (t : Table) {a b : List ℕ} → KeptFrom leading a b → (d : ℕ) → block? t b d ≡ block? t a d
unfolding block? letter_in rows_in
block_kept t h d = rw (h.rest (block_place d) (omega (arith, leading_is, block_place_lem d)), kept_drop {q = suc (block_place d)} h (omega (arith, leading_is, block_place_lem d)))

module _ (t : Table) (head : Head) {words after last : List ℕ} (small : state_count t ≤ 64) (ready : Ready t after head.depth) (most : head.taken ≤ longest_log)
    (kept : KeptFrom state_size words after) (put : Written 0 leading (λ j. get_or (head_words head) j 0) after last) where
  put_taken : taken_in last ≡ head.taken
  unfolding head_words
  put_taken = put.inside 0 (omega (arith, leading_is))

  put_depth : depth_in last ≡ head.depth
  unfolding head_words
  put_depth = put.inside 1 (omega (arith, leading_is))

  put_stopped : stopped_in last ≡ cond head.stopped 1 0
  unfolding head_words
  put_stopped = put.inside 2 (omega (arith, leading_is))

  put_kept : KeptFrom leading after last
  put_kept = record { long = put.long; rest = λ i l. put.outside i (inr (omega arith)) }

  put_ready : Ready t last head.depth
  put_ready = record {
    long = omega (arith, ready.long, put.long);
    low = ready.low;
    block = λ d l. block_kept t put_kept d ∙ ready.block d l;
    above = λ i l g. put_kept.rest i (omega (arith, leading_is, block_place_lem (suc head.depth))) ∙ ready.above i l g;
  }

  put_state : state_in last ≡ state_with head after
  unfolding state_in state_with
  put_state = rw (
    put_taken,
    put_depth,
    put_stopped,
    (flag head.stopped).0,
    blocks_same last after head.depth ready.low put_ready.long ready.long (λ i l g. put_kept.rest i l),
  )

  put_legal : legal? t last ≡ true
  put_legal = ready_legal t last (rw put_depth put_ready) (omega (arith, put_taken)) (rw put_stopped (flag head.stopped).1)

  pub placed : last ≡ in_place (state_with head after) words
  placed =
      sym (legal_in_place t last small put_ready.long put_legal) ∙ ap (λ r. in_place r last) put_state
      ∙ in_place_kept (state_with head after) (kept_then kept (kept_more (omega (arith, leading_is, state_size_lem)) put_kept))

-- After a step.
pub stepped_placed : (t : Table) (a : ℕ) {head next : Head} {words after last : List ℕ} → state_count t ≤ 64 → letter_verdict t (state_with head words) a ≡ 0
    → Stepped t a head words next after → Written 0 leading (λ j. get_or (head_words next) j 0) after last → last ≡ in_place (letter_state t a (state_with head words)) words
unfolding state_with
stepped_placed t a {head} {next} {words} small zero h put =
    placed t next small h.ready (omega (arith, ap (λ r. r.taken) h.state, taken_most t a (state_with head words), (verdict_zero t (state_with head words) a zero).1))
    (record { long = h.changed.long; rest = λ i l. h.changed.rest i (inr l) }) put
    ∙ ap (λ r. in_place r words) h.state

-- The first pairs are listed in order.
start_sorted : (t : Table) → Sorted PairBefore (start_pairs t)
unfolding start_pairs
start_sorted t = sorted_sift _ _ (sorted_square (state_count t))

-- Begin: rows of the first pairs in words that are zeros.
module _ (t : Table) {pairs : List ℕ} (begun : HoldsExactly pairs (Started (automaton t))) where
  -- Stopped where there is no pair.
  pub begun_stopped : {b : Bool} → TellsNone b ((j : ℕ) × (k : ℕ) × Holds pairs j k) → b ≡ (begin_state t).stopped
  unfolding begin_state
  begun_stopped {b} tells = by b refl (holds? ((0, start_pairs t) ∷ [])) refl where
    going : T (holds? ((0, start_pairs t) ∷ [])) ↔ Going (begin (automaton t))
    going = holds_iff_going t ((0, start_pairs t) ∷ []) (begin (automaton t)) (shows_begin t)

    by : (c : Bool) → b ≡ c → (h : Bool) → holds? ((0, start_pairs t) ∷ []) ≡ h → c ≡ not h
    by true e true f = let g = going.0 (subst T (sym f) tt) in absurd (tells.none e (g.p, g.q, (begun.at g.p g.q).1 g.pair))
    by true e false f = refl
    by false e true f = refl
    by false e false f = let s = tells.some e in absurd (subst T f (going.1 (record { p = s.0; q = s.1; pair = (begun.at s.0 s.1).0 s.2 })))

  module _ (head : Head) {words zeros after last : List ℕ} (small : state_count t ≤ 64) (long : state_size ≤ length words) (rows : IsRelation pairs)
      (is : head ≡ record { taken = 0; depth = 0; stopped = (begin_state t).stopped }) (clear : Written 0 state_size (λ j. 0) words zeros)
      (store : Written (suc (block_place 0)) 64 (λ j. get_or pairs j 0) zeros after) (put : Written 0 leading (λ j. get_or (head_words head) j 0) after last) where
    zero_at : (i : ℕ) → i < state_size → get_or zeros i 0 ≡ 0
    zero_at i l = let e : i ≡ 0 + i = omega arith in ap (λ i. get_or zeros i 0) e ∙ clear.inside i l

    stored_long : state_size ≤ length after
    stored_long = omega (arith, store.long, clear.long)

    stored_letter : letter_in after 0 ≡ 0
    unfolding letter_in
    stored_letter = store.outside (block_place 0) (inl (omega arith)) ∙ zero_at (block_place 0) (omega (arith, block_place_lem 0, state_size_lem))

    stored_rows : rows_in after 0 ≡ pairs
    stored_rows = rows_are after 0 (omega arith) stored_long rows.rows (λ j l. store.inside j l)

    inside : (p q : ℕ) → Started (automaton t) p q → (p < state_count t) × (q < state_count t)
    inside p q s = let l = initial_bound t p s.begins in (l, subst (λ q. q < state_count t) s.alone l)

    stored_ready : Ready t after 0
    unfolding block? letter_word?
    stored_ready = record {
      long = stored_long;
      low = omega arith;
      block = λ d l. let e : d ≡ 0 = omega arith in rw (e, stored_letter, stored_rows) (rows_fit t inside begun);
      above = λ i l g. store.outside i (inr (omega (arith, block_place_lem 0, block_place_lem 1))) ∙ zero_at i g;
    }

    stored_state : state_with head after ≡ begin_state t
    unfolding state_with begin_state blocks_in
    stored_state = rw (is, stored_letter, stored_rows, pairs_are t small (start_sorted t) (lists_start t) (λ p q s. (inside p q s).1) begun)

    pub begun_placed : last ≡ in_place (begin_state t) words
    begun_placed =
        placed t head small (rw is stored_ready) (rw is (omega arith))
        (record { long = store.long ∙ clear.long; rest = λ i l. store.outside i (inr (omega (arith, block_place_lem 0, state_size_lem))) ∙ clear.outside i (inr (omega arith)) }) put
        ∙ ap (λ r. in_place r words) stored_state
