-- The moves listed for the trimmed table are the moves of the trimmed automaton, with numbers for its states and marks, in rising order.
use Prim.Native.Nat.{ℕ, ◌<◌}
use native.Mathlib.Omega.{arith}
use mathlib.Core.Path.{◌≡◌, refl, sym, ap, ap₂, ◌∙◌, subst, subst₂, subst₃}
use mathlib.Core.Bool.{◌&&◌}
use mathlib.Core.List.Memᴰ
use mathlib.Core.List.{List, map, Memᴰ}
use mathlib.Core.Logic.{◌↔◌, inl, inr}
use lib.ListN.{length, get_or}
use lib.Dec.{T, eqb, eqb→eq, eqb_refl}
use Rattle.vpa.specs.Automaton.{Kind, plain, opening, closing, Move, plain_move, open_move, close_move, letter, move_kind, rename}
use Rattle.vpa.specs.PairsLevelsTrimmed.{join, Triple, triple, MarkOn, mark_on, TrimmedState, TrimmedMark, TrimmedMove, trimmed_plain, trimmed_open, trimmed_close}
use Rattle.vpa.specs.Lists.{Trio, sift, each, below, position, Sorted}
use Rattle.vpa.specs.TableOnDisk.{Entry, entry, Table, letter_count, kind_in, has?, InTable, in_plain, in_open, in_close, automaton, MarkFits, EntryBefore, IsTable, table_fits}
use Rattle.vpa.specs.PairsComputed.{opens_to?, closes_to?, pairs}
use Rattle.vpa.specs.TrimComputed.{trim_plain?, trim_open?, trim_close?, no_trio, trim_move?, mark_numbers, trim_moves_of, TrimEntry, trim_from, trim_table, trim_states, trim_marks, state_at, mark_at, state_number, mark_number}
use Rattle.vpa.proofs.Lists.{and, and_l, and_r, sift_intro, sift_elim, each_intro, each_elim, below_intro, below_elim, sorted_sift, sorted_map, sorted_each, sorted_one, sorted_below, get_mem, at_position, position_at}
use Rattle.vpa.proofs.Trimming.{open_mark, open_target, close_mark, close_source, close_target}
use Rattle.vpa.proofs.TableMoves.{has_iff, plain_bounds, open_bounds, close_bounds}
use Rattle.vpa.proofs.TableLevels.{opens_to_of, closes_to_of, opens_to_to, closes_to_to, levels_complete}
use Rattle.vpa.proofs.TrimmedStates.{trim_state_of, trim_state_in, trim_mark_in, trim_states_distinct, trim_marks_distinct}

abbrev triple_of : Trio → Triple ℕ
triple_of c = triple c.0 c.1 c.2

pub mark_fits : (k : Kind) (n g : ℕ) → Memᴰ n (mark_numbers k g) → MarkFits k n g
unfolding mark_numbers
mark_fits plain n g m = Memᴰ.eq_of_singleton m
mark_fits opening n g m = below_elim m
mark_fits closing n g m = below_elim m

module _ (t : Table) where
  pub made_of : {e : Entry} → Memᴰ e (trim_table t).moves → TrimEntry t e
  unfolding trim_table trim_from trim_moves_of
  made_of m =
      let i = each_elim _ (below (length (trim_states t))) m in
      let a = each_elim _ (below (letter_count t)) i.2 in
      let k = each_elim _ (mark_numbers (kind_in t a.0) (length (trim_marks t))) a.2 in
      let j = Memᴰ.of_map _ _ k.2 in
      let s = sift_elim _ (below (length (trim_states t))) j.1 in
      subst (TrimEntry t) j.2 (record { from = below_elim i.1; to = below_elim s.0; letter = below_elim a.1; mark = k.1; test = s.1 })

  made_in : {i a k j : ℕ} → TrimEntry t (entry i a k j) → Memᴰ (entry i a k j) (trim_table t).moves
  unfolding trim_table trim_from trim_moves_of
  made_in {i} {a} {k} {j} w =
      each_intro _ (below_intro w.from) (each_intro _ (below_intro w.letter) (each_intro _ w.mark (Memᴰ.map (λ j. entry i a k j) (sift_intro _ (below_intro w.to) w.test))))

  -- The entries listed are those with numbers in range that pass the test.
  pub trim_moves_iff : (i a k j : ℕ) → Memᴰ (entry i a k j) (trim_table t).moves ↔ TrimEntry t (entry i a k j)
  trim_moves_iff i a k j = (λ m. made_of m, λ w. made_in w)

  -- The letters stay.
  pub trimmed_kinds : (trim_table t).kinds ≡ t.kinds
  unfolding trim_table trim_from
  trimmed_kinds = refl

  pub kind_kept : (a : ℕ) → kind_in (trim_table t) a ≡ kind_in t a
  unfolding kind_in
  kind_kept a = rw trimmed_kinds

  -- The test that an entry passed and the mark it has, by the kind of its letter.
  test_by : {i a k j : ℕ} {c : Kind} → TrimEntry t (entry i a k j) → kind_in (trim_table t) a ≡ c → T (trim_move? t (pairs t) (trim_states t) (trim_marks t) i a c k j)
  test_by {i} {a} {k} {j} w e = subst (λ c. T (trim_move? t (pairs t) (trim_states t) (trim_marks t) i a c k j)) (sym (kind_kept a) ∙ e) w.test

  mark_by : {i a k j : ℕ} {c : Kind} → TrimEntry t (entry i a k j) → kind_in (trim_table t) a ≡ c → MarkFits c k (length (trim_marks t))
  mark_by {a = a} {k = k} w e = subst (λ c. MarkFits c k (length (trim_marks t))) (sym (kind_kept a) ∙ e) (mark_fits (kind_in t a) k (length (trim_marks t)) w.mark)

  -- The three tests, and the three rules.
  plain_of : (c d : Trio) (a : ℕ) → Memᴰ c (trim_states t) → Memᴰ d (trim_states t) → T (trim_plain? t c a d) → TrimmedMove (automaton t) (plain_move (triple_of c) a (triple_of d))
  unfolding trim_plain?
  plain_of c d a mc md h =
      let i : T (has? t (plain_move c.2 a d.2)) = search and_l in
      let j : T (eqb c.0 d.0) = search (and_l, and_r) in
      let k : T (eqb c.1 d.1) = search (and_l, and_r) in
      let e = eqb→eq c.0 d.0 j in
      let f = eqb→eq c.1 d.1 k in
      subst₂ (λ x y. TrimmedMove (automaton t) (plain_move (triple_of c) a (triple x y d.2))) e f
      (trimmed_plain ((has_iff t (plain_move c.2 a d.2)).0 i) (trim_state_of t mc) (subst₂ (λ x y. TrimmedState (automaton t) x y d.2) (sym e) (sym f) (trim_state_of t md)))

  open_of : (c m d : Trio) (a : ℕ) → Memᴰ c (trim_states t) → Memᴰ d (trim_states t) → T (trim_open? t (pairs t) c a m d)
      → TrimmedMove (automaton t) (open_move (triple_of c) a (mark_on m.0 m.1 m.2) (triple_of d))
  unfolding trim_open?
  open_of c m d a mc md h =
      let i : T (has? t (open_move c.2 a m.0 d.2)) = search and_l in
      let j : T (eqb m.1 c.0) = search (and_l, and_r) in
      let k : T (eqb m.2 c.1) = search (and_l, and_r) in
      let l : T (eqb d.2 d.0) = search (and_l, and_r) in
      let n : T (closes_to? t (pairs t) d.1 m.0 c.1) = search (and_l, and_r) in
      let e = eqb→eq d.2 d.0 l in
      let s = trim_state_of t md in
      subst₃ (λ x y z. TrimmedMove (automaton t) (open_move (triple_of c) a (mark_on m.0 x y) (triple d.0 d.1 z)))
      (sym (eqb→eq m.1 c.0 j)) (sym (eqb→eq m.2 c.1 k)) (sym e)
      (trimmed_open (subst (λ z. InTable t (open_move c.2 a m.0 z)) e ((has_iff t (open_move c.2 a m.0 d.2)).0 i))
      (join s.begun s.ending) (closes_to_of t d.1 m.0 c.1 n) (trim_state_of t mc))

  close_of : (c m d : Trio) (a : ℕ) → Memᴰ c (trim_states t) → Memᴰ d (trim_states t) → T (trim_close? t (pairs t) c a m d)
      → TrimmedMove (automaton t) (close_move (triple_of c) a (mark_on m.0 m.1 m.2) (triple_of d))
  unfolding trim_close?
  close_of c m d a mc md h =
      let i : T (has? t (close_move c.2 a m.0 d.2)) = search and_l in
      let j : T (eqb m.1 d.0) = search (and_l, and_r) in
      let k : T (eqb m.2 d.1) = search (and_l, and_r) in
      let l : T (eqb c.2 c.1) = search (and_l, and_r) in
      let n : T (opens_to? t (pairs t) d.0 m.0 c.0) = search (and_l, and_r) in
      let e = eqb→eq c.2 c.1 l in
      let s = trim_state_of t mc in
      let r = trim_state_of t md in
      subst₃ (λ x y z. TrimmedMove (automaton t) (close_move (triple c.0 c.1 z) a (mark_on m.0 x y) (triple_of d)))
      (sym (eqb→eq m.1 d.0 j)) (sym (eqb→eq m.2 d.1 k)) (sym e)
      (trimmed_close (subst (λ z. InTable t (close_move z a m.0 d.2)) e ((has_iff t (close_move c.2 a m.0 d.2)).0 i))
      r.ending (opens_to_of t d.0 m.0 c.0 n) r.live (join s.begun s.ending))

  -- A move of the trimmed table is one of the trimmed automaton.
  pub moves_down : (m : Move ℕ ℕ) → InTable (trim_table t) m → TrimmedMove (automaton t) (rename (state_at t) (mark_at t) m)
  unfolding rename state_at mark_at trim_move?
  moves_down m (in_plain {p = i} {a = a} {q = j} k e c) =
      let w = made_of e in
      plain_of (get_or (trim_states t) i no_trio) (get_or (trim_states t) j no_trio) a (get_mem no_trio (trim_states t) i w.from) (get_mem no_trio (trim_states t) j w.to)
      (test_by w c)
  moves_down m (in_open {p = i} {a = a} {γ = k} {q = j} e c) =
      let w = made_of e in
      open_of (get_or (trim_states t) i no_trio) (get_or (trim_marks t) k no_trio) (get_or (trim_states t) j no_trio) a (get_mem no_trio (trim_states t) i w.from) (get_mem no_trio (trim_states t) j w.to)
      (test_by w c)
  moves_down m (in_close {p = i} {a = a} {γ = k} {q = j} e c) =
      let w = made_of e in
      close_of (get_or (trim_states t) i no_trio) (get_or (trim_marks t) k no_trio) (get_or (trim_states t) j no_trio) a (get_mem no_trio (trim_states t) i w.from) (get_mem no_trio (trim_states t) j w.to)
      (test_by w c)

-- Numbers there and back.
module _ (t : Table) where
  pub state_back : (i : ℕ) → i < length (trim_states t) → state_number t (state_at t i) ≡ i
  unfolding state_at state_number
  state_back i h = position_at no_trio (trim_states_distinct t) i h

  mark_back : (k : ℕ) → k < length (trim_marks t) → mark_number t (mark_at t k) ≡ k
  unfolding mark_at mark_number
  mark_back k h = position_at no_trio (trim_marks_distinct t) k h

  pub moves_back : (m : Move ℕ ℕ) → InTable (trim_table t) m → rename (state_number t) (mark_number t) (rename (state_at t) (mark_at t) m) ≡ m
  unfolding rename
  moves_back m (in_plain {p = i} {a = a} {q = j} k e c) = let w = made_of t e in ap₂ (λ x y. plain_move x a y) (state_back i w.from) (state_back j w.to)
  moves_back m (in_open {p = i} {a = a} {γ = k} {q = j} e c) =
      let w = made_of t e in
      let b = mark_back k (mark_by t w c) in
      λ x. open_move (state_back i w.from x) a (b x) (state_back j w.to x)
  moves_back m (in_close {p = i} {a = a} {γ = k} {q = j} e c) =
      let w = made_of t e in
      let b = mark_back k (mark_by t w c) in
      λ x. close_move (state_back i w.from x) a (b x) (state_back j w.to x)

  -- An entry between two trimmed states.
  entry_in : (k : Kind) (c d : Trio) (a n : ℕ) → kind_in t a ≡ k → a < letter_count t → Memᴰ c (trim_states t) → Memᴰ d (trim_states t)
      → Memᴰ n (mark_numbers k (length (trim_marks t))) → T (trim_move? t (pairs t) (trim_states t) (trim_marks t) (position c (trim_states t)) a k n (position d (trim_states t)))
      → Memᴰ (entry (position c (trim_states t)) a n (position d (trim_states t))) (trim_table t).moves
  entry_in k c d a n e h mc md mn w = made_in t (record {
    from = (at_position no_trio c mc).0;
    letter = h;
    mark = subst (λ k. Memᴰ n (mark_numbers k (length (trim_marks t)))) (sym e) mn;
    to = (at_position no_trio d md).0;
    test = subst (λ k. T (trim_move? t (pairs t) (trim_states t) (trim_marks t) (position c (trim_states t)) a k n (position d (trim_states t)))) (sym e) w;
  })

  module _ (fit : IsTable t) where
    pub state_there : {o q p : ℕ} → TrimmedState (automaton t) o q p → state_at t (state_number t (triple o q p)) ≡ triple o q p
    unfolding state_at state_number
    state_there w = ap (λ (x : Trio). triple x.0 x.1 x.2) (at_position no_trio _ (trim_state_in t fit w)).1

    mark_there : {γ o q : ℕ} → TrimmedMark (automaton t) γ o q → mark_at t (mark_number t (mark_on γ o q)) ≡ mark_on γ o q
    unfolding mark_at mark_number
    mark_there w = ap (λ (x : Trio). mark_on x.0 x.1 x.2) (at_position no_trio _ (trim_mark_in t fit w)).1

    pub moves_there : (m : Move (Triple ℕ) (MarkOn ℕ ℕ)) → TrimmedMove (automaton t) m → rename (state_at t) (mark_at t) (rename (state_number t) (mark_number t) m) ≡ m
    unfolding rename
    moves_there m (trimmed_plain {a = a} h s s') = ap₂ (λ c d. plain_move c a d) (state_there s) (state_there s')
    moves_there m (trimmed_open {a = a} h b c s) =
        λ i. open_move (state_there s i) a (mark_there (open_mark (automaton t) h b c s) i) (state_there (open_target (automaton t) h b c s) i)
    moves_there m (trimmed_close {b = b} h e w l k) =
        λ i. close_move (state_there (close_source (automaton t) h e w l k) i) b (mark_there (close_mark (automaton t) h e w l k) i) (state_there (close_target (automaton t) h e w l k) i)

    -- A move of the trimmed automaton is one of the trimmed table.
    pub moves_up : (m : Move (Triple ℕ) (MarkOn ℕ ℕ)) → TrimmedMove (automaton t) m → InTable (trim_table t) (rename (state_number t) (mark_number t) m)
    unfolding rename state_number mark_number trim_move? trim_plain? trim_open? trim_close? mark_numbers letter move_kind
    moves_up m (trimmed_plain {o} {q} {p} {p'} {a} h s s') =
        let mc = trim_state_in t fit s in
        let md = trim_state_in t fit s' in
        let kind = table_fits t (plain_move p a p') h in
        in_plain 0 (entry_in plain (o, q, p) (o, q, p') a 0 kind (plain_bounds t fit h).1 mc md (Memᴰ.head refl)
        (subst₂ (λ c d. T (trim_plain? t c a d)) (sym (at_position no_trio (o, q, p) mc).1) (sym (at_position no_trio (o, q, p') md).1)
        (and (has? t (plain_move p a p')) _ ((has_iff t (plain_move p a p')).1 h) (and (eqb o o) (eqb q q) (eqb_refl o) (eqb_refl q)))))
        (kind_kept t a ∙ kind)
    moves_up m (trimmed_open {o} {q} {p} {o'} {q'} {a} {γ} h b c s) =
        let mc = trim_state_in t fit s in
        let md = trim_state_in t fit (open_target (automaton t) h b c s) in
        let mk = trim_mark_in t fit (open_mark (automaton t) h b c s) in
        let kind = table_fits t (open_move p a γ o') h in
        in_open (entry_in opening (o, q, p) (o', q', o') a (position (γ, o, q) (trim_marks t)) kind (open_bounds t fit h).1 mc md (below_intro (at_position no_trio (γ, o, q) mk).0)
        (subst₃ (λ c m d. T (trim_open? t (pairs t) c a m d)) (sym (at_position no_trio (o, q, p) mc).1) (sym (at_position no_trio (γ, o, q) mk).1) (sym (at_position no_trio (o', q', o') md).1)
        (and (has? t (open_move p a γ o')) _ ((has_iff t (open_move p a γ o')).1 h)
        (and (eqb o o && eqb q q) _ (and (eqb o o) (eqb q q) (eqb_refl o) (eqb_refl q))
        (and (eqb o' o') (closes_to? t (pairs t) q' γ q) (eqb_refl o') (closes_to_to t fit c))))))
        (kind_kept t a ∙ kind)
    moves_up m (trimmed_close {o} {q} {s} {o'} {q'} {b} {γ} h e w l k) =
        let mc = trim_state_in t fit (close_source (automaton t) h e w l k) in
        let md = trim_state_in t fit (close_target (automaton t) h e w l k) in
        let mk = trim_mark_in t fit (close_mark (automaton t) h e w l k) in
        let kind = table_fits t (close_move q' b γ s) h in
        in_close (entry_in closing (o', q', q') (o, q, s) b (position (γ, o, q) (trim_marks t)) kind (close_bounds t fit h).1 mc md (below_intro (at_position no_trio (γ, o, q) mk).0)
        (subst₃ (λ c m d. T (trim_close? t (pairs t) c b m d)) (sym (at_position no_trio (o', q', q') mc).1) (sym (at_position no_trio (γ, o, q) mk).1) (sym (at_position no_trio (o, q, s) md).1)
        (and (has? t (close_move q' b γ s)) _ ((has_iff t (close_move q' b γ s)).1 h)
        (and (eqb o o && eqb q q) _ (and (eqb o o) (eqb q q) (eqb_refl o) (eqb_refl q))
        (and (eqb q' q') (opens_to? t (pairs t) o γ o') (eqb_refl q') (opens_to_to t fit (levels_complete t fit l).0 w))))))
        (kind_kept t b ∙ kind)

-- The list rises: by from, then letter, then mark, then to.
sorted_marks : (k : Kind) (g : ℕ) → Sorted ◌<◌ (mark_numbers k g)
unfolding mark_numbers
sorted_marks plain g = sorted_one ◌<◌ 0
sorted_marks opening g = sorted_below g
sorted_marks closing g = sorted_below g

module _ (t : Table) where
  by_to : ℕ → ℕ → ℕ → List Entry
  by_to i a k = map (λ j. entry i a k j) (sift (trim_move? t (pairs t) (trim_states t) (trim_marks t) i a (kind_in t a) k) (below (length (trim_states t))))

  by_mark : ℕ → ℕ → List Entry
  unfolding by_to
  by_mark i a = each (λ k. by_to i a k) (mark_numbers (kind_in t a) (length (trim_marks t)))

  by_letter : ℕ → List Entry
  unfolding by_mark
  by_letter i = each (λ a. by_mark i a) (below (letter_count t))

  in_to : (i a k : ℕ) (e : Entry) → Memᴰ e (by_to i a k) → (i ≡ e.from) × (a ≡ e.letter) × (k ≡ e.mark)
  unfolding by_to
  in_to i a k e l = let w = Memᴰ.of_map _ (sift (trim_move? t (pairs t) (trim_states t) (trim_marks t) i a (kind_in t a) k) (below (length (trim_states t)))) l in
      (ap (λ e. e.from) w.2, ap (λ e. e.letter) w.2, ap (λ e. e.mark) w.2)

  in_mark : (i a : ℕ) (e : Entry) → Memᴰ e (by_mark i a) → (i ≡ e.from) × (a ≡ e.letter)
  unfolding by_mark
  in_mark i a e l = let w = each_elim _ (mark_numbers (kind_in t a) (length (trim_marks t))) l in let f = in_to i a w.0 e w.2 in (f.0, f.1)

  in_letter : (i : ℕ) (e : Entry) → Memᴰ e (by_letter i) → i ≡ e.from
  unfolding by_letter
  in_letter i e l = let w = each_elim _ (below (letter_count t)) l in (in_mark i w.0 e w.2).0

  pub moves_rising : Sorted EntryBefore (trim_table t).moves
  unfolding trim_table trim_from trim_moves_of by_letter by_mark by_to
  moves_rising = sorted_each ◌<◌ EntryBefore by_letter
      (λ i. sorted_each ◌<◌ EntryBefore (by_mark i)
      (λ a. sorted_each ◌<◌ EntryBefore (by_to i a)
      (λ k. sorted_map ◌<◌ EntryBefore (λ j. entry i a k j) (λ x y h. inr (refl, inr (refl, inr (refl, h)))) (sorted_sift ◌<◌ _ (sorted_below (length (trim_states t)))))
      (λ k l c d h u v. let e = in_to i a k c u in let f = in_to i a l d v in inr (sym e.0 ∙ f.0, inr (sym e.1 ∙ f.1, inl (omega arith))))
      (sorted_marks (kind_in t a) (length (trim_marks t))))
      (λ a b c d h u v. let e = in_mark i a c u in let f = in_mark i b d v in inr (sym e.0 ∙ f.0, inl (omega arith)))
      (sorted_below (letter_count t)))
      (λ i j c d h u v. let e = in_letter i c u in let f = in_letter j d v in inl (omega arith))
      (sorted_below (length (trim_states t)))
