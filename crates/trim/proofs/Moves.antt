-- The trimmed moves of one state by one letter: what is listed for a plain, an open and a close letter is what `trim_table` has; and so all moves.
use Prim.Native.Nat.{ℕ, ◌≤◌, ◌<◌}
use mathlib.Core.Bool.{Bool, ◌&&◌}
use mathlib.Core.List.{List, [], map, append-nil, Memᴰ}
use mathlib.Core.Logic.{◌↔◌}
use mathlib.Core.Path.{◌≡◌, refl, sym, ap, subst, ◌∙◌}
use native.Mathlib.Omega.{arith}
use lib.Bits.{bit_and}
use lib.Dec.{T, eqb, eqb→eq, eqb_refl}
use lib.ListN.{length, get_or}
use Rattle.vpa.specs.Automaton.{Kind, plain, opening, closing, plain_move, open_move, close_move}
use Rattle.vpa.specs.Lists.{Trio, sift, each, below}
use Rattle.vpa.specs.PairsComputed.{opens_to?, closes_to?, pairs}
use Rattle.vpa.specs.TableOnDisk.{Entry, entry, Table, letter_count, kind_in, MarkFits, IsTable, InTable, in_plain, in_open, in_close, has?}
use Rattle.vpa.specs.TrimComputed.{no_trio, trim_states, trim_marks, trim_plain?, trim_open?, trim_close?, trim_move?, mark_numbers, trim_moves_of, trim_from, trim_table}
use Rattle.vpa.proofs.Each.{each_same, each_none, sift_below}
use Rattle.vpa.proofs.Lists.{and, both, any_intro, any_elim, sift_elim, get_mem, no_members, below_elim}
use Rattle.vpa.proofs.TableMoves.{entry_cast, has_iff}
use Rattle.table.specs.Layout.{entries, parse}
use Rattle.table.specs.Refusals.{verdict}
use Rattle.relation.specs.Digits.{bit}
use Rattle.relation.specs.Relations.{Holds, holds?, HoldsExactly}
use Rattle.relation.proofs.Relations.{held_iff_test, and_digit}
use Rattle.triples.specs.Listing.{digits_of, rows_with, Appended}
use Rattle.triples.specs.Steps.{StandsFor, Guides, PlanOf}
use Rattle.trim.specs.Steps.{IsFrom, moves_as, moves_by, moves_from, BlockOf, arrives?, marked_by, marked_rows}
use Rattle.trim.specs.declared.Origin.{Origin}
use Rattle.triples.specs.declared.Plan.{Plan}
use Rattle.trim.proofs.Blocks.{letter_byte}
use Rattle.triples.proofs.DigitLists.{digits_iff, digits_sift, digit_iff, each_digits}
use Rattle.triples.proofs.Laying.{appended_same}
use Rattle.triples.proofs.Numbers.{state_numbers}
use Rattle.triples.proofs.Rows.{ListedBelow}

-- Tests as facts.
eq_iff : (x y : ℕ) → T (eqb x y) ↔ (x ≡ y)
eq_iff x y = (eqb→eq x y, λ e. subst (λ z. T (eqb x z)) e (eqb_refl x))

two : {x y z w : ℕ} → T (eqb x y && eqb z w) → (x ≡ y) × (z ≡ w)
two {x} {y} {z} {w} h = let b = both (eqb x y) (eqb z w) h in (eqb→eq x y b.0, eqb→eq z w b.1)

two_test : {x y z w : ℕ} → x ≡ y → z ≡ w → T (eqb x y && eqb z w)
two_test {x} {y} {z} {w} e f = and (eqb x y) (eqb z w) ((eq_iff x y).1 e) ((eq_iff z w).1 f)

-- State number j and mark number k.
abbrev state_trio : Table → ℕ → Trio
state_trio t j = get_or (trim_states t) j no_trio

abbrev mark_trio : Table → ℕ → Trio
mark_trio t k = get_or (trim_marks t) k no_trio

sift_none : {n : ℕ} (f : ℕ → Bool) → ((j : ℕ) → j < n → T (f j) → ⊥) → sift f (below n) ≡ []
sift_none {n} f h = no_members _ (λ j m. let s = sift_elim f (below n) m in h j (below_elim s.0) s.1)

-- A block has the moves of its state and letter, so an arrival at number j is a move to the state that j stands for.
arrives_iff : {t : Table} {p a : ℕ} {block here : List ℕ} → BlockOf t p a block → HoldsExactly here (StandsFor (trim_states t)) → (γ j : ℕ)
    → T (arrives? (entries block) γ here j) ↔ ((j < length (trim_states t)) × Memᴰ (entry p a γ (state_trio t j).2) t.moves)
unfolding arrives?
arrives_iff {t} {p} {a} {block} {here} is stands γ j = (forth, back) where
  forth : T (arrives? (entries block) γ here j) → (j < length (trim_states t)) × Memᴰ (entry p a γ (state_trio t j).2) t.moves
  forth h =
      let w = any_elim (λ e. eqb e.mark γ && holds? here e.to j) (entries block) h in
      let b = both (eqb w.0.mark γ) (holds? here w.0.to j) w.2 in
      let m = (is.at w.0).0 w.1 in
      let s = (stands.at w.0.to j).0 ((held_iff_test here w.0.to j).0 b.1) in
      (s.low, entry_cast w.0 m.1.0 m.1.1 (eqb→eq w.0.mark γ b.0) (sym s.is) m.0)

  back : (j < length (trim_states t)) × Memᴰ (entry p a γ (state_trio t j).2) t.moves → T (arrives? (entries block) γ here j)
  back h =
      let q = (state_trio t j).2 in
      any_intro (λ e. eqb e.mark γ && holds? here e.to j) ((is.at (entry p a γ q)).1 (h.1, (refl, refl)))
      (and (eqb γ γ) (holds? here q j) (eqb_refl γ) ((held_iff_test here q j).1 ((stands.at q j).1 (record { low = h.0; is = refl }))))

-- The tests for a trimmed move from state number i to state number j, with mark number k, fact by fact.
four_iff : (b : Bool) (x y z w u v : ℕ) (c : Bool) → T (b && ((eqb x y && eqb z w) && (eqb u v && c))) ↔ (T b × (x ≡ y) × (z ≡ w) × (u ≡ v) × T c)
four_iff b x y z w u v c = (
  λ h.
      let f = both b _ h in
      let g = both (eqb x y && eqb z w) _ f.1 in
      let e = two g.0 in
      let k = both (eqb u v) c g.1 in
      (f.0, e.0, e.1, eqb→eq u v k.0, k.1),
  λ h. and b _ h.0 (and (eqb x y && eqb z w) _ (two_test h.1 h.2) (and (eqb u v) c ((eq_iff u v).1 h.3) h.4)),
)

module _ (t : Table) (i a j : ℕ) where
  plain_iff : T (trim_plain? t (state_trio t i) a (state_trio t j))
      ↔ (T (has? t (plain_move (state_trio t i).2 a (state_trio t j).2)) × ((state_trio t i).0 ≡ (state_trio t j).0) × ((state_trio t i).1 ≡ (state_trio t j).1))
  unfolding trim_plain?
  plain_iff = (
    λ h. let f = both (has? t (plain_move (state_trio t i).2 a (state_trio t j).2)) _ h in let e = two f.1 in (f.0, e.0, e.1),
    λ h. and (has? t (plain_move (state_trio t i).2 a (state_trio t j).2)) _ h.0 (two_test h.1 h.2),
  )

  open_iff : (k : ℕ) → T (trim_open? t (pairs t) (state_trio t i) a (mark_trio t k) (state_trio t j))
      ↔ (T (has? t (open_move (state_trio t i).2 a (mark_trio t k).0 (state_trio t j).2))
      × ((mark_trio t k).1 ≡ (state_trio t i).0) × ((mark_trio t k).2 ≡ (state_trio t i).1)
      × ((state_trio t j).2 ≡ (state_trio t j).0) × T (closes_to? t (pairs t) (state_trio t j).1 (mark_trio t k).0 (state_trio t i).1))
  unfolding trim_open?
  open_iff k = four_iff (has? t (open_move (state_trio t i).2 a (mark_trio t k).0 (state_trio t j).2)) _ _ _ _ _ _ (closes_to? t (pairs t) (state_trio t j).1 (mark_trio t k).0 (state_trio t i).1)

  close_iff : (k : ℕ) → T (trim_close? t (pairs t) (state_trio t i) a (mark_trio t k) (state_trio t j))
      ↔ (T (has? t (close_move (state_trio t i).2 a (mark_trio t k).0 (state_trio t j).2))
      × ((mark_trio t k).1 ≡ (state_trio t j).0) × ((mark_trio t k).2 ≡ (state_trio t j).1)
      × ((state_trio t i).2 ≡ (state_trio t i).1) × T (opens_to? t (pairs t) (state_trio t j).0 (mark_trio t k).0 (state_trio t i).0))
  unfolding trim_close?
  close_iff k = four_iff (has? t (close_move (state_trio t i).2 a (mark_trio t k).0 (state_trio t j).2)) _ _ _ _ _ _ (opens_to? t (pairs t) (state_trio t j).0 (mark_trio t k).0 (state_trio t i).0)

-- The moves of a table, by the kind of their letter.
module _ (t : Table) {p a q : ℕ} where
  plain_in : InTable t (plain_move p a q) → (γ : ℕ) × Memᴰ (entry p a γ q) t.moves
  plain_in (in_plain γ m k) = (γ, m)

  open_in : {γ : ℕ} → InTable t (open_move p a γ q) → Memᴰ (entry p a γ q) t.moves
  open_in (in_open m k) = m

  close_in : {γ : ℕ} → InTable t (close_move p a γ q) → Memᴰ (entry p a γ q) t.moves
  close_in (in_close m k) = m

  has_plain : IsTable t → kind_in t a ≡ plain → T (has? t (plain_move p a q)) ↔ Memᴰ (entry p a 0 q) t.moves
  has_plain fits e = (
    λ h.
        let m = plain_in ((has_iff t _).0 h) in
        subst (λ γ. Memᴰ (entry p a γ q) t.moves) (subst (λ k. MarkFits k m.0 t.mark_count) e (fits.mark _ m.1)) m.1,
    λ m. (has_iff t _).1 (in_plain 0 m e),
  )

  has_open : {γ : ℕ} → kind_in t a ≡ opening → T (has? t (open_move p a γ q)) ↔ Memᴰ (entry p a γ q) t.moves
  has_open e = (λ h. open_in ((has_iff t _).0 h), λ m. (has_iff t _).1 (in_open m e))

  has_close : {γ : ℕ} → kind_in t a ≡ closing → T (has? t (close_move p a γ q)) ↔ Memᴰ (entry p a γ q) t.moves
  has_close e = (λ h. close_in ((has_iff t _).0 h), λ m. (has_iff t _).1 (in_close m e))

by_kind : (t : Table) (i a : ℕ) {kind : Kind} → kind_in t a ≡ kind → moves_by t i a ≡ moves_as t i a kind
unfolding moves_by
by_kind t i a e = ap (moves_as t i a) e

-- Rows by the marks of a row of digits. The test for a move says of a mark that is not in the row that there is none.
marked_rows_lem : (block here mark to : List ℕ) (i a row : ℕ) {n g : ℕ} (move? : ℕ → ℕ → Bool) → n ≤ 64 → g ≤ 64 → ((k : ℕ) → bit row k ≡ 1 → k < g)
    → ((k j : ℕ) → k < g → ((j < n) × T (move? k j)) ↔ ((bit row k ≡ 1) × T (arrives? (entries block) (get_or mark k 0) here j) × Holds to k j))
    → marked_rows block i a row here mark to ≡ each (λ k. map (λ j. entry i a k j) (sift (move? k) (below n))) (below g)
unfolding marked_rows marked_by rows_with
marked_rows_lem block here mark to i a row {n} {g} move? few most inside moves =
    each_same (marked_by block i a here mark to) f (digits_of row) (λ k m. same k ((digits_iff row k).0 m).1) ∙ sym (each_digits f row most inside others)
  where
    f : ℕ → List Entry
    f k = map (λ j. entry i a k j) (sift (move? k) (below n))

    same : (k : ℕ) → bit row k ≡ 1 → marked_by block i a here mark to k ≡ f k
    same k e = ap (map (λ j. entry i a k j)) (sift_below _ (move? k) (λ j. (
      λ h.
          let b = both (arrives? (entries block) (get_or mark k 0) here j) (holds? to k j) h.1 in
          (moves k j (inside k e)).1 (e, b.0, (held_iff_test to k j).0 b.1),
      λ h.
          let w = (moves k j (inside k e)).0 h in
          (omega arith, and (arrives? (entries block) (get_or mark k 0) here j) (holds? to k j) w.1 ((held_iff_test to k j).1 w.2)),
    )))

    others : (k : ℕ) → k < g → (bit row k ≡ 1 → ⊥) → f k ≡ []
    others k l x = ap (map (λ j. entry i a k j)) (sift_none (move? k) (λ j b h. x ((moves k j l).0 (b, h)).0))

-- What is listed by a letter, given the block of its moves, is the moves by it.
module _ {t : Table} {here mark entered outer : List ℕ} {from : Origin} {a : ℕ} {block : List ℕ} (guides : Guides t here mark entered outer) (is-from : IsFrom t from)
    (block_of : BlockOf t from.state a block) where
  arrived : (γ j : ℕ) → T (arrives? (entries block) γ here j) ↔ ((j < length (trim_states t)) × Memᴰ (entry (state_trio t from.number).2 a γ (state_trio t j).2) t.moves)
  arrived = arrives_iff (rw is-from.state at block_of) guides.stands

  arrived_by : (k j : ℕ) → k < length (trim_marks t)
      → T (arrives? (entries block) (get_or mark k 0) here j) ↔ ((j < length (trim_states t)) × Memᴰ (entry (state_trio t from.number).2 a (mark_trio t k).0 (state_trio t j).2) t.moves)
  arrived_by k j l = rw (guides.marked k l) (arrived (mark_trio t k).0 j)

  -- A plain move stays on the level.
  pub plain_rows : IsTable t → kind_in t a ≡ plain → (x : ℕ) → ((j : ℕ) → (bit x j ≡ 1) ↔ T (arrives? (entries block) 0 here j))
      → rows_with from.number a 0 (digits_of (bit_and x from.level)) ≡ moves_by t from.number a
  unfolding rows_with each moves_as mark_numbers trim_move?
  plain_rows fits kind x digit =
      ap (map (λ j. entry from.number a 0 j))
      (digits_sift (bit_and x from.level) (λ j. trim_plain? t (state_trio t from.number) a (state_trio t j)) guides.states (λ j. (
        λ e.
            let b = (and_digit x from.level j).0 e in
            let w = (arrived 0 j).0 ((digit j).0 b.0) in
            let l = (is-from.level j).0 b.1 in
            (w.0, (plain_iff t from.number a j).1 ((has_plain t fits kind).1 w.1, l.begins, l.ends)),
        λ h.
            let w = (plain_iff t from.number a j).0 h.1 in
            (and_digit x from.level j).1 (
              (digit j).1 ((arrived 0 j).1 (h.0, (has_plain t fits kind).0 w.0)),
              (is-from.level j).1 (record { from = is-from.low; to = h.0; begins = w.1; ends = w.2 }),
            ),
      )))
      ∙ sym (by_kind t from.number a kind ∙ append-nil _)

  -- A push: the mark is of the state's level, and the state that it leads to begins the level that the mark is popped at the end of.
  pub open_rows : kind_in t a ≡ opening → marked_rows block from.number a from.pushes here mark entered ≡ moves_by t from.number a
  unfolding moves_as mark_numbers trim_move?
  open_rows kind =
      marked_rows_lem block here mark entered from.number a from.pushes (λ k j. trim_open? t (pairs t) (state_trio t from.number) a (mark_trio t k) (state_trio t j))
      guides.states guides.marks (λ k e. ((is-from.pushes k).0 e).mark) (λ k j l. (
        λ h.
            let w = (open_iff t from.number a j k).0 h.1 in (
              (is-from.pushes k).1 (record { mark = l; state = is-from.low; begins = w.1; ends = w.2 }),
              (arrived_by k j l).1 (h.0, (has_open t kind).0 w.0),
              (guides.enters.at k j).1 (record { mark = l; state = h.0; begins = w.3; way = rw w.2 w.4 }),
            ),
        λ h.
            let v = (is-from.pushes k).0 h.0 in
            let w = (arrived_by k j l).0 h.1 in
            let n = (guides.enters.at k j).0 h.2 in
            (w.0, (open_iff t from.number a j k).1 ((has_open t kind).1 w.1, v.begins, v.ends, n.begins, rw v.ends at n.way)),
      ))
      ∙ sym (by_kind t from.number a kind)

  -- A pop: the state that it leads to is of the mark's level, and the state ends a level that the mark is pushed at the beginning of.
  pub close_rows : kind_in t a ≡ closing → marked_rows block from.number a from.pops here mark outer ≡ moves_by t from.number a
  unfolding moves_as mark_numbers trim_move?
  close_rows kind =
      marked_rows_lem block here mark outer from.number a from.pops (λ k j. trim_close? t (pairs t) (state_trio t from.number) a (mark_trio t k) (state_trio t j))
      guides.states guides.marks (λ k e. ((is-from.pops k).0 e).mark) (λ k j l. (
        λ h.
            let w = (close_iff t from.number a j k).0 h.1 in (
              (is-from.pops k).1 (record { state = is-from.low; mark = l; ends = w.3; way = rw w.1 w.4 }),
              (arrived_by k j l).1 (h.0, (has_close t kind).0 w.0),
              (guides.returns.at k j).1 (record { mark = l; state = h.0; begins = w.1; ends = w.2 }),
            ),
        λ h.
            let v = (is-from.pops k).0 h.0 in
            let w = (arrived_by k j l).0 h.1 in
            let n = (guides.returns.at k j).0 h.2 in
            (w.0, (close_iff t from.number a j k).1 ((has_close t kind).1 w.1, n.begins, n.ends, v.ends, rw n.begins at v.way)),
      ))
      ∙ sym (by_kind t from.number a kind)

-- By a letter that no move of the state has there is no trimmed move.
some_move : (t : Table) (i a : ℕ) (kind : Kind) (k j : ℕ) → T (trim_move? t (pairs t) (trim_states t) (trim_marks t) i a kind k j)
    → (γ : ℕ) × Memᴰ (entry (state_trio t i).2 a γ (state_trio t j).2) t.moves
unfolding trim_move?
some_move t i a plain k j h = plain_in t ((has_iff t _).0 ((plain_iff t i a j).0 h).0)
some_move t i a opening k j h = (_, open_in t ((has_iff t _).0 ((open_iff t i a j k).0 h).0))
some_move t i a closing k j h = (_, close_in t ((has_iff t _).0 ((close_iff t i a j k).0 h).0))

pub no_rows : {t : Table} {from : Origin} {a : ℕ} → IsFrom t from → ((e : Entry) → Memᴰ e t.moves → (e.from ≡ from.state) × (e.letter ≡ a) → ⊥)
    → moves_by t from.number a ≡ []
unfolding moves_by moves_as
no_rows {t} {from} {a} is-from never =
    each_none _ _ (λ k m. ap (map (λ j. entry from.number a k j))
    (sift_none _ (λ j l h. never _ (some_move t from.number a (kind_in t a) k j h).1 (sym is-from.state, refl))))

-- The numbers in a row of these moves fit a place of scratch.
pub number_low : {t : Table} {here mark entered outer : List ℕ} {from : Origin} → Guides t here mark entered outer → IsFrom t from → from.number < 65536
number_low g f = omega (arith, g.states, f.low)

pub letter_low : (s : List ℕ) {a : ℕ} → verdict s ≡ 0 → a < letter_count (parse s) → a < 65536
letter_low s good l = omega (arith, letter_byte s good l)

-- The state that a trimmed state stands for.
pub state_low : (s : List ℕ) {from : Origin} → verdict s ≡ 0 → IsFrom (parse s) from → from.state < 64
state_low s {from} good f = rw f.state (state_numbers s good (get_mem no_trio (trim_states (parse s)) from.number f.low)).2

-- One trimmed state of a plan.
pub plan_from : {t : Table} {plan : Plan} {i : ℕ} → PlanOf t plan → i < plan.count → IsFrom t (record {
  number = i;
  state = get_or plan.state i 0;
  level = get_or plan.level i 0;
  pushes = get_or plan.pushes i 0;
  pops = get_or plan.pops i 0;
})
plan_from {plan = plan} {i} of l = record {
  low = omega (arith, of.count);
  state = of.state i l;
  level = λ j. digit_iff plan.level i j (of.level.at i j);
  pushes = λ k. digit_iff plan.pushes i k (of.pushes i k);
  pops = λ k. digit_iff plan.pops i k (of.pops.at i k);
}

-- All moves from one state, and all moves.
pub from_all : (t : Table) (i : ℕ) {letter n m : ℕ} {a b : List ℕ} → letter ≡ letter_count t → ListedBelow 1024 (moves_by t i) letter a n b m
    → Appended 1024 (moves_from t i) a n b m
unfolding moves_from
from_all t i e h = appended_same (ap (λ letter. each (moves_by t i) (below letter)) e) h.appended

pub moves_all : (t : Table) {count n m : ℕ} {a b : List ℕ} → count ≡ length (trim_states t) → ListedBelow 1024 (moves_from t) count a n b m
    → Appended 1024 (trim_table t).moves a n b m
unfolding moves_from moves_by moves_as trim_table trim_from trim_moves_of
moves_all t e h = appended_same (ap (λ count. each (moves_from t) (below count)) e) h.appended
