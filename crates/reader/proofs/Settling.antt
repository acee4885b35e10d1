-- From what a letter settles on the rows of a head to the next state in the words.
use Prim.Native.Nat.{ℕ, zero, suc, ◌+◌, ◌-◌, ◌<◌, ◌≤◌}
use mathlib.Core.Bool.{true, false}
use mathlib.Core.List.{List, [], ◌∷◌, Memᴰ}
use mathlib.Core.Logic.{◌⊎◌, inl, inr}
use mathlib.Core.Path.{◌≡◌, refl, sym, ap, ◌∙◌}
use native.Mathlib.Decide.{dec_lt}
use native.Mathlib.Numerals.{add-one}
use native.Mathlib.Omega.{arith}
use borrow.Author.Tests.{lt-ltb}
use lib.Dec.{T}
use lib.ListN.{length, get_or}
use Rattle.vpa.specs.Automaton.{plain, opening, closing, plain_move, open_move}
use Rattle.vpa.specs.Lists.{Pair, PairBefore, Sorted}
use Rattle.vpa.specs.Reader.{Extended, Opened, Joined}
use Rattle.vpa.specs.ReaderComputed.{Blocks, extend_pairs, open_pairs, join_pairs, candidate_blocks, next_blocks, holds?, ListsPairs}
use Rattle.vpa.specs.TableOnDisk.{Table, state_count, letter_count, kind_in, automaton, InTable, in_plain, in_open, IsTable, is_kind?}
use Rattle.vpa.proofs.Lists.{sorted_sift, sorted_square}
use Rattle.vpa.proofs.TableMoves.{plain_bounds, open_bounds, close_bounds}
use Rattle.vpa.proofs.TableReader.{lists_extend, lists_open, lists_join, letter_taken, letter_stops}
use Rattle.table.proofs.All.{both}
use Rattle.relation.specs.Relations as relation
use Rattle.relation.specs.Relations.{Holds}
use Rattle.relation.proofs.Relations.{exactly}
use Rattle.pair_sets.specs.Steps.{LeadsBy, ByLetter}
use Rattle.reader.specs.declared.Head.{Head}
use Rattle.reader.specs.Layout.{leading, deepest, state_size, block_place, letter_in, rows_in, pairs_in, block_in, blocks_in}
use Rattle.reader.specs.Refusals.{letter_word?, rows?, block?}
use Rattle.reader.specs.Steps.{state_with, Ready, BlocksChanged, Stepped, letter_rows, OpenedRows, ClosedRows, Extends, Opens, Closes, Settled, goes_on, stops}
use Rattle.reader.proofs.Legal.{ready_long, ready_rows}
use Rattle.reader.proofs.Numbers.{leading_is, deepest_is, state_size_lem, block_place_lem}
use Rattle.reader.proofs.LentRows.{rows_are, row_leads, leads_row}
use Rattle.reader.proofs.Words.{row_at, rows_length, blocks_same, pairs_listed, pairs_are, rows_fit}

-- The blocks below a depth.
abbrev under : List ℕ → ℕ → Blocks
under words zero = []
under words (suc d) = blocks_in words d

blocks_top : (words : List ℕ) (d : ℕ) → blocks_in words d ≡ block_in words d ∷ under words d
unfolding blocks_in
blocks_top words zero = refl
blocks_top words (suc d) = refl

-- Words where the block of a depth was given the letter c and the rows r: below it they are as they were, and above it zeros.
record Topped (words : List ℕ) (depth c : ℕ) (r after : List ℕ) : Type 0 where
  pub letter : letter_in after depth ≡ c
  pub rows : rows_in after depth ≡ r
  pub below : (i : ℕ) → leading ≤ i → i < block_place depth → get_or after i 0 ≡ get_or words i 0
  pub above : (i : ℕ) → block_place (suc depth) ≤ i → i < state_size → get_or after i 0 ≡ 0
  pub changed : BlocksChanged words after

module _ {words : List ℕ} {depth c : ℕ} {r after : List ℕ} (top : Topped words depth c r after) (low : depth ≤ deepest) (long : state_size ≤ length words) where
  long_after : state_size ≤ length after
  long_after = omega (arith, top.changed.long)

  under_same : under after depth ≡ under words depth
  under_same = by depth low top.below where
    by : (depth : ℕ) → depth ≤ deepest → ((i : ℕ) → leading ≤ i → i < block_place depth → get_or after i 0 ≡ get_or words i 0) → under after depth ≡ under words depth
    by zero l h = refl
    by (suc d) l h = blocks_same after words d (omega arith) long_after long h

  topped_blocks : blocks_in after depth ≡ (c, pairs_in r) ∷ under words depth
  topped_blocks = blocks_top after depth ∙ rw (top.letter, top.rows, under_same)

  block_same : (t : Table) (d : ℕ) → d < depth → block? t after d ≡ block? t words d
  unfolding block? letter_in
  block_same t d l =
      let same : (i : ℕ) → block_place d ≤ i → i ≤ block_place d + 64 → get_or after i 0 ≡ get_or words i 0 =
      λ i g m. top.below i (omega (arith, leading_is, block_place_lem d)) (omega (arith, block_place_lem d, block_place_lem depth)) in
      let rows : rows_in after d ≡ rows_in words d = rows_are after d (omega arith) long_after (rows_length words d (omega arith) long)
      (λ j m. same (suc (block_place d) + j) (omega arith) (omega arith) ∙ sym (row_at words d j m)) in
      rw (same (block_place d) (omega arith) (omega arith), rows)

  topped_ready : {t : Table} {d : ℕ} → Ready t words d → depth ≤ suc d → letter_word? t depth c ≡ true → rows? (state_count t) r ≡ true → Ready t after depth
  unfolding block?
  topped_ready {t} {d} ready near letter rows = record {
    long = long_after;
    low = low;
    block = λ e l. by e l (dec_lt e depth);
    above = top.above;
  }
    where
      own : block? t after depth ≡ true
      own = rw (top.letter, top.rows, letter) rows

      by : (e : ℕ) → e ≤ depth → Dec (e < depth) → block? t after e ≡ true
      by e l (yes m) = block_same t e m ∙ ready.block e (omega arith)
      by e l (no m) = let same : e ≡ depth = omega arith in rw same own

-- Each way for rows to go, in the words of the block that is then the top one. A close changes the rows of the lower of two blocks and all of the upper.
module _ {t : Table} {words : List ℕ} {depth : ℕ} (ready : Ready t words depth) {r after : List ℕ} (rows : length r ≡ 64) where
  extends_topped : Extends depth r words after → Topped words depth (letter_in words depth) r after
  unfolding letter_in
  extends_topped w = record {
    letter = w.outside (block_place depth) (inl (omega arith));
    rows = rows_are after depth ready.low (omega (arith, w.long, ready.long)) rows w.inside;
    below = λ i g l. w.outside i (inl (omega arith));
    above = λ i g l. w.outside i (inr (omega (arith, block_place_lem depth, block_place_lem (suc depth)))) ∙ ready.above i g l;
    changed = record { long = w.long; rest = λ i o. w.outside i (aside i o) };
  }
    where
      aside : (i : ℕ) → (i < leading) ⊎ (state_size ≤ i) → (i < suc (block_place depth)) ⊎ (suc (block_place depth) + 64 ≤ i)
      aside i (inl l) = inl (omega (arith, leading_is, block_place_lem depth))
      aside i (inr g) = inr (omega (arith, ready.low, deepest_is, state_size_lem, block_place_lem depth))

  opens_topped : (a : ℕ) → depth < deepest → Opens a depth r words after → Topped words (suc depth) a r after
  unfolding letter_in
  opens_topped a low w = record {
    letter = here _ 0 (omega arith) (omega arith);
    rows = rows_are after (suc depth) low (omega (arith, w.long, ready.long)) rows (λ j l. here _ (suc j) (omega arith) (omega arith));
    below = λ i g l. w.outside i (inl l);
    above = λ i g l. w.outside i (inr (omega (arith, block_place_lem (suc depth), block_place_lem (suc (suc depth)))))
        ∙ ready.above i (omega (arith, block_place_lem (suc depth), block_place_lem (suc (suc depth)))) l;
    changed = record { long = w.long; rest = λ i o. w.outside i (aside i o) };
  }
    where
      here : (i j : ℕ) → i ≡ block_place (suc depth) + j → j < 65 → get_or after i 0 ≡ get_or (a ∷ r) j 0
      here i j e l = rw e (w.inside j l)

      aside : (i : ℕ) → (i < leading) ⊎ (state_size ≤ i) → (i < block_place (suc depth)) ⊎ (block_place (suc depth) + 65 ≤ i)
      aside i (inl l) = inl (omega (arith, leading_is, block_place_lem (suc depth)))
      aside i (inr g) = inr (omega (arith, low, deepest_is, state_size_lem, block_place_lem (suc depth)))

  closes_topped : {d : ℕ} → depth ≡ suc d → Closes depth r words after → Topped words d (letter_in words d) r after
  unfolding letter_in
  closes_topped {d} e w = record {
    letter = kept (block_place d) (inl (omega arith));
    rows = rows_are after d (omega (arith, ready.low)) (omega (arith, w.joins.long, w.clears.long, ready.long)) rows
        (λ j l. w.clears.outside (suc (block_place d) + j) (inl (omega (arith, top))) ∙ rw below at (w.joins.inside j l));
    below = λ i g l. kept i (inl (omega arith));
    above = λ i g l. by i g l (dec_lt i (block_place d + 130));
    changed = record { long = w.clears.long ∙ w.joins.long; rest = λ i o. kept i (aside i o) };
  }
    where
      top : block_place depth ≡ block_place d + 65
      top = omega (arith, block_place_lem depth, block_place_lem d)

      below : block_place (depth - 1) ≡ block_place d
      below = ap block_place (omega arith)

      kept : (i : ℕ) → (i < suc (block_place d)) ⊎ (block_place d + 130 ≤ i) → get_or after i 0 ≡ get_or words i 0
      kept i (inl l) = w.clears.outside i (inl (omega (arith, top))) ∙ w.joins.outside i (inl (omega (arith, below)))
      kept i (inr g) = w.clears.outside i (inr (omega (arith, top))) ∙ w.joins.outside i (inr (omega (arith, below)))

      aside : (i : ℕ) → (i < leading) ⊎ (state_size ≤ i) → (i < suc (block_place d)) ⊎ (block_place d + 130 ≤ i)
      aside i (inl l) = inl (omega (arith, leading_is, block_place_lem d))
      aside i (inr g) = inr (omega (arith, ready.low, deepest_is, state_size_lem, block_place_lem d))

      gone : (i j : ℕ) → i ≡ block_place depth + j → j < 65 → get_or after i 0 ≡ 0
      gone i j e l = rw e (w.clears.inside j l)

      by : (i : ℕ) → block_place (suc d) ≤ i → i < state_size → Dec (i < block_place d + 130) → get_or after i 0 ≡ 0
      by i g l (yes m) = gone i (i - block_place depth) (omega (arith, top, block_place_lem d, block_place_lem (suc d))) (omega (arith, top))
      by i g l (no m) = kept i (inr (omega arith)) ∙ ready.above i (omega (arith, block_place_lem (suc depth), block_place_lem d)) l

-- A letter that would make the block of a depth the top one, with the letter c and the pairs of xs, which are those that P says.
record Makes (t : Table) (a : ℕ) (head : Head) (words : List ℕ) (depth c : ℕ) (xs : List Pair) (P : ℕ → ℕ → Type 0) : Type 0 where
  pub next : next_blocks t a (state_with head words) ≡ (c, xs) ∷ under words depth
  pub may : letter_word? t depth c ≡ true
  pub low : depth ≤ deepest
  pub near : depth ≤ suc head.depth
  pub sorted : Sorted PairBefore xs
  pub lists : ListsPairs t xs P
  pub second : (p q : ℕ) → P p q → q < state_count t

-- The top block holds a pair exactly if one is listed.
module _ (c : ℕ) (ks : Blocks) where
  holds_listed : {xs : List Pair} {x : Pair} → Memᴰ x xs → T (holds? ((c, xs) ∷ ks))
  unfolding holds?
  holds_listed (Memᴰ.head e) = tt
  holds_listed (Memᴰ.tail m) = tt

  listed_holds : (xs : List Pair) → T (holds? ((c, xs) ∷ ks)) → (x : Pair) × Memᴰ x xs
  unfolding holds?
  listed_holds [] h = absurd h
  listed_holds (x ∷ xs) h = (x, Memᴰ.head refl)

-- The head stops where the candidate holds no pair.
module _ (t : Table) (a : ℕ) (head : Head) (words : List ℕ) (ready : Ready t words head.depth) (runs : head.stopped ≡ false) where
  stop_step : (T (holds? (next_blocks t a (state_with head words))) → ⊥)
      → Stepped t a head words (record { taken = head.taken; depth = head.depth; stopped = true }) words
  unfolding state_with
  stop_step none = record {
    ready = ready;
    state = sym (letter_stops t a (state_with head words) runs none);
    changed = record { long = refl; rest = λ i o. refl };
  }

  none_step : {P : ℕ → ℕ → Type 0} {Puts : List ℕ → List ℕ → List ℕ → Type 0} {depth : ℕ} {next : Head} {after : List ℕ}
      → ((p q : ℕ) → P p q → ⊥) → (T (holds? (next_blocks t a (state_with head words))) → ⊥)
      → Settled P Puts head depth words next after → Stepped t a head words next after
  none_step empty none (goes_on r after is holds j k p w) = absurd (empty j k p)
  none_step empty none (stops h) = stop_step none

  module _ {depth c : ℕ} {xs : List Pair} {P : ℕ → ℕ → Type 0} {Puts : List ℕ → List ℕ → List ℕ → Type 0}
      (small : state_count t ≤ 64) (makes : Makes t a head words depth c xs P)
      (topped : (r after : List ℕ) → length r ≡ 64 → Puts r words after → Topped words depth c r after) where
    settled_step : {next : Head} {after : List ℕ} → Settled P Puts head depth words next after → Stepped t a head words next after
    unfolding state_with
    settled_step (goes_on r after is holds j k p w) =
        let top = topped r after is.rows w in
        let pairs : pairs_in r ≡ xs = pairs_are t small makes.sorted makes.lists makes.second holds in
        let blocks : blocks_in after depth ≡ next_blocks t a (state_with head words) = topped_blocks top makes.low ready.long ∙ rw pairs (sym makes.next) in
        let held : T (holds? (next_blocks t a (state_with head words))) = rw makes.next (holds_listed c (under words depth) (makes.lists.complete j k p)) in
        record {
          ready = topped_ready top makes.low ready.long ready makes.near makes.may
              (rows_fit t (λ p q h. (makes.lists.bound p q h, makes.second p q h)) holds);
          state = rw (blocks, add-one) (sym (letter_taken t a (state_with head words) runs held));
          changed = top.changed;
        }
    settled_step (stops none) = stop_step (λ h.
        let m = listed_holds c (under words depth) xs (rw makes.next at h) in
        none m.0.0 m.0.1 (makes.lists.sound m.0.0 m.0.1 m.1))

-- Moves lead where their letters do.
plain_leads : {t : Table} {p a q : ℕ} → InTable t (plain_move p a q) → LeadsBy t a p q
plain_leads (in_plain γ m k) = record { mark = γ; leads = record { stands = m } }

open_leads : {t : Table} {p a γ q : ℕ} → InTable t (open_move p a γ q) → LeadsBy t a p q
open_leads {γ = γ} (in_open m k) = record { mark = γ; leads = record { stands = m } }

-- What settles for the pairs P settles for those that S says, if these are the same.
settled_as : {P S : ℕ → ℕ → Type 0} {Puts : List ℕ → List ℕ → List ℕ → Type 0} {head : Head} {depth : ℕ} {words : List ℕ} {next : Head} {after : List ℕ}
    → ((p q : ℕ) → P p q → S p q) → ((p q : ℕ) → S p q → P p q) → Settled P Puts head depth words next after → Settled S Puts head depth words next after
settled_as f g (goes_on r after is holds j k p w) = goes_on r after is (exactly holds f g) j k (f j k p) w
settled_as f g (stops none) = stops (λ j k h. none j k (g j k h))

module _ (t : Table) (fit : IsTable t) (small : state_count t ≤ 64) (head : Head) (words : List ℕ) (ready : Ready t words head.depth) where
  abbrev top : List ℕ
  top = rows_in words head.depth

  listed : (d : ℕ) → d ≤ head.depth → ListsPairs t (pairs_in (rows_in words d)) (Holds (rows_in words d))
  listed d l = pairs_listed t small (ready_long t words ready d l) (ready_rows t words ready d l)

  may_stay : (d : ℕ) → d ≤ head.depth → letter_word? t d (letter_in words d) ≡ true
  unfolding block?
  may_stay d l = (both _ _ (ready.block d l)).0

  makes_plain : (a : ℕ) → kind_in t a ≡ plain
      → Makes t a head words head.depth (letter_in words head.depth) (extend_pairs t a (pairs_in top)) (Extended (automaton t) a (Holds top))
  unfolding candidate_blocks state_with extend_pairs
  makes_plain a kind = record {
    next = rw (kind, blocks_top words head.depth);
    may = may_stay head.depth (omega arith);
    low = ready.low;
    near = omega arith;
    sorted = sorted_sift PairBefore _ (sorted_square (state_count t));
    lists = lists_extend t fit (pairs_in top) (Holds top) (listed head.depth (omega arith)) a;
    second = λ p q e. (plain_bounds t fit e.moved).2;
  }

  makes_open : (a : ℕ) → a < letter_count t → kind_in t a ≡ opening → head.depth < deepest
      → Makes t a head words (suc head.depth) a (open_pairs t a (pairs_in top)) (Opened (automaton t) a (Holds top))
  unfolding candidate_blocks state_with open_pairs letter_word? is_kind?
  makes_open a letter kind low = record {
    next = rw (kind, blocks_top words head.depth);
    may = rw (lt-ltb a (letter_count t) letter, kind);
    low = low;
    near = omega arith;
    sorted = sorted_sift PairBefore _ (sorted_square (state_count t));
    lists = lists_open t fit (pairs_in top) (Holds top) (listed head.depth (omega arith)) a;
    second = λ q q' e. rw (← e.alone) (open_bounds t fit e.opened).3;
  }

  makes_close : (a d : ℕ) → kind_in t a ≡ closing → head.depth ≡ suc d
      → Makes t a head words d (letter_in words d) (join_pairs t (pairs_in (rows_in words d)) (letter_in words head.depth) (pairs_in top) a)
      (Joined (automaton t) (Holds (rows_in words d)) (letter_in words head.depth) (Holds top) a)
  unfolding candidate_blocks state_with join_pairs
  makes_close a d kind deep = record {
    next = rw (kind, deep, blocks_top words (suc d), blocks_top words d);
    may = may_stay d (omega arith);
    low = omega (arith, ready.low);
    near = omega arith;
    sorted = sorted_sift PairBefore _ (sorted_square (state_count t));
    lists = lists_join t fit (pairs_in top) (Holds top) (listed head.depth (omega arith)) (pairs_in (rows_in words d)) (Holds (rows_in words d)) (listed d (omega arith))
        (letter_in words head.depth) a;
    second = λ p q e. (close_bounds t fit e.closed).3;
  }

  -- Each kind of letter: what it settles is the next state.
  module _ (runs : head.stopped ≡ false) {a : ℕ} {next : Head} {after : List ℕ} where
    pub plain_step : {moves : List ℕ} → ByLetter t moves → a < 32 → kind_in t a ≡ plain
        → Settled (relation.Joined top (letter_rows moves a)) (Extends head.depth) head head.depth words next after → Stepped t a head words next after
    plain_step {moves} rows letter kind s =
        settled_step t a head words ready runs small (makes_plain a kind) (λ r after. extends_topped ready)
        (settled_as (λ p q j. let w = row_leads t fit small moves rows letter j.second in
        record { q = j.by; was = j.first; moved = in_plain w.mark w.leads.stands kind })
        (λ p q e. record { by = e.q; first = e.was; second = leads_row t fit small moves rows letter (plain_leads e.moved) }) s)

    pub open_step : {moves : List ℕ} → ByLetter t moves → a < 32 → a < letter_count t → kind_in t a ≡ opening → head.depth < deepest
        → Settled (OpenedRows top (letter_rows moves a)) (Opens a head.depth) head (head.depth + 1) words next after → Stepped t a head words next after
    open_step {moves} rows letter own kind low s =
        settled_step t a head words ready runs small (makes_open a own kind low) (λ r after long. opens_topped ready long a low)
        (settled_as (λ q q' o. let w = row_leads t fit small moves rows letter o.leads in
        record { alone = o.same; p = o.half.first; r = o.by; γ = w.mark; was = o.half.held; opened = in_open w.leads.stands kind })
        (λ q q' o.
        record { same = o.alone; by = o.r; half = record { first = o.p; held = o.was }; leads = leads_row t fit small moves rows letter (open_leads o.opened) })
        (rw add-one at s))

    pub close_step : kind_in t a ≡ closing
        → Settled (ClosedRows t words head.depth a) (Closes head.depth) head (head.depth - 1) words next after → Stepped t a head words next after
    unfolding candidate_blocks state_with blocks_in holds?
    close_step kind s = by head.depth refl where
      by : (depth : ℕ) → head.depth ≡ depth → Stepped t a head words next after
      by zero e = none_step t a head words ready runs (λ p q w. omega (arith, w.deep)) (λ h. rw (kind, e) at h) s
      by (suc d) e =
          let below : head.depth - 1 ≡ d = omega arith in
          settled_step t a head words ready runs small (makes_close a d kind e) (λ r after long. closes_topped ready long e)
          (settled_as (λ p q w. rw below at w.joined) (λ p q j. record { deep = omega arith; joined = rw below j }) (rw below at s))
