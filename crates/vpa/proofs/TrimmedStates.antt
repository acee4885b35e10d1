-- The trimmed states and marks listed for a table are its trimmed states and marks, each list in the document's order.
use Prim.Native.Nat.{ℕ, ◌<◌}
use mathlib.Core.Path.{◌≡◌, refl, sym, ap, ◌∙◌, subst, subst₂}
use mathlib.Core.List.Memᴰ
use mathlib.Core.List.{map, Memᴰ}
use mathlib.Core.Logic.{◌↔◌, inl, inr}
use Rattle.vpa.specs.PairsLevelsTrimmed.{TrimmedState, TrimmedMark}
use Rattle.vpa.specs.Lists.{Pair, Trio, below, among, Sorted, PairBefore, TrioBefore, Distinct}
use Rattle.vpa.specs.TableOnDisk.{Table, state_count, automaton, IsTable}
use Rattle.vpa.specs.PairsComputed.{pairs, levels}
use Rattle.vpa.specs.TrimComputed.{states_of, trim_states_of, openers, trim_marks_of, trim_states, trim_marks}
use Rattle.vpa.proofs.Lists.{both, and, any_intro, any_elim, sift_intro, sift_elim, each_intro, each_elim, below_intro, mem_of_among, among_of_mem, sorted_sift, sorted_map, sorted_each, sorted_below, sorted_distinct, trio_before_itself}
use Rattle.vpa.proofs.TableMoves.{open_bounds}
use Rattle.vpa.proofs.TablePairs.{pairs_balanced, pairs_complete}
use Rattle.vpa.proofs.TableLevels.{opens_of, opens_to, opens_inside, levels_live, levels_complete, levels_sorted}

module _ (t : Table) where
  pub trim_state_of : {x : Trio} → Memᴰ x (trim_states t) → TrimmedState (automaton t) x.0 x.1 x.2
  unfolding trim_states_of states_of
  trim_state_of m =
      let w = each_elim _ (levels t) m in
      let l = w.0 in
      let v = Memᴰ.of_map (λ p. (l.0, l.1, p)) (states_of t (pairs t) l) w.2 in
      let p = v.0 in
      let u = both (among (l.0, p) (pairs t)) (among (p, l.1) (pairs t)) (sift_elim _ (below (state_count t)) v.1).1 in
      subst (λ (y : Trio). TrimmedState (automaton t) y.0 y.1 y.2) v.2
      (record {
        live = levels_live t l.0 l.1 w.1;
        begun = pairs_balanced t l.0 p (mem_of_among (l.0, p) (pairs t) u.0);
        ending = pairs_balanced t p l.1 (mem_of_among (p, l.1) (pairs t) u.1);
      })

  pub trim_mark_of : {x : Trio} → Memᴰ x (trim_marks t) → TrimmedMark (automaton t) x.0 x.1 x.2
  unfolding trim_marks_of openers
  trim_mark_of m =
      let w = each_elim _ (below t.mark_count) m in
      let γ = w.0 in
      let v = Memᴰ.of_map (λ (x : Pair). (γ, x.0, x.1)) (openers t (pairs t) (levels t) γ) w.2 in
      let l = v.0 in
      let s = sift_elim _ (levels t) v.1 in
      let o = any_elim _ (pairs t) s.1 in
      let y = o.0 in
      subst (λ (y : Trio). TrimmedMark (automaton t) y.0 y.1 y.2) v.2
      (record { live = levels_live t l.0 l.1 s.0; o' = y.0; q' = y.1; opens = opens_of t l γ y o.2 })

  -- In order: states by o, then q, then p; marks by γ, then o, then q.
  of_level : (x : Pair) {y : Trio} → Memᴰ y (map (λ p. (x.0, x.1, p)) (states_of t (pairs t) x)) → (x.0 ≡ y.0) × (x.1 ≡ y.1)
  of_level x m = let u = Memᴰ.of_map (λ p. (x.0, x.1, p)) (states_of t (pairs t) x) m in (ap (λ (y : Trio). y.0) u.2, ap (λ (y : Trio). y.1) u.2)

  pub trim_states_sorted : Sorted TrioBefore (trim_states t)
  unfolding trim_states_of states_of
  trim_states_sorted = sorted_each PairBefore TrioBefore _
      (λ x. sorted_map ◌<◌ TrioBefore _ (λ p r h. inr (refl, inr (refl, h))) (sorted_sift ◌<◌ _ (sorted_below (state_count t))))
      (λ x z y w h m l. across x z y w h (of_level x m) (of_level z l))
      (levels_sorted t)
    where
      across : (x z : Pair) (y w : Trio) → PairBefore x z → (x.0 ≡ y.0) × (x.1 ≡ y.1) → (z.0 ≡ w.0) × (z.1 ≡ w.1) → TrioBefore y w
      across x z y w (inl h) e f = inl (subst₂ ◌<◌ e.0 f.0 h)
      across x z y w (inr (k, h)) e f = inr (sym e.0 ∙ (k ∙ f.0), inl (subst₂ ◌<◌ e.1 f.1 h))

  of_mark : (γ : ℕ) {y : Trio} → Memᴰ y (map (λ (x : Pair). (γ, x.0, x.1)) (openers t (pairs t) (levels t) γ)) → γ ≡ y.0
  of_mark γ m = let u = Memᴰ.of_map (λ (x : Pair). (γ, x.0, x.1)) (openers t (pairs t) (levels t) γ) m in ap (λ (y : Trio). y.0) u.2

  pub trim_marks_sorted : Sorted TrioBefore (trim_marks t)
  unfolding trim_marks_of openers
  trim_marks_sorted = sorted_each ◌<◌ TrioBefore _
      (λ γ. sorted_map PairBefore TrioBefore _ (λ x z h. behind γ x z h) (sorted_sift PairBefore _ (levels_sorted t)))
      (λ γ δ y w h m l. inl (subst₂ ◌<◌ (of_mark γ m) (of_mark δ l) h))
      (sorted_below t.mark_count)
    where
      behind : (γ : ℕ) (x z : Pair) → PairBefore x z → TrioBefore (γ, x.0, x.1) (γ, z.0, z.1)
      behind γ x z h = inr (refl, h)

  pub trim_states_distinct : Distinct (trim_states t)
  trim_states_distinct = sorted_distinct trio_before_itself trim_states_sorted

  pub trim_marks_distinct : Distinct (trim_marks t)
  trim_marks_distinct = sorted_distinct trio_before_itself trim_marks_sorted

  module _ (fit : IsTable t) where
    pub trim_state_in : {o q p : ℕ} → TrimmedState (automaton t) o q p → Memᴰ (o, q, p) (trim_states t)
    unfolding trim_states_of states_of
    trim_state_in {o} {q} {p} w =
        let l = levels_complete t fit w.live in
        let u = pairs_complete t fit w.begun l.0 in
        let v = pairs_complete t fit w.ending u.0 in
        each_intro _ l.2 (Memᴰ.map _ (sift_intro _ (below_intro u.0) (and (among (o, p) (pairs t)) (among (p, q) (pairs t)) (among_of_mem (o, p) u.1) (among_of_mem (p, q) v.1))))

    pub trim_mark_in : {γ o q : ℕ} → TrimmedMark (automaton t) γ o q → Memᴰ (γ, o, q) (trim_marks t)
    unfolding trim_marks_of openers
    trim_mark_in {γ} {o} {q} w =
        let n = levels_complete t fit w.live in
        each_intro _ (below_intro (open_bounds t fit w.opens.opens.opened).2)
        (Memᴰ.map (λ (x : Pair). (γ, x.0, x.1)) (sift_intro _ n.2 (any_intro _ (opens_inside t fit w.opens).2 (opens_to t fit n.0 w.opens))))

    -- The states listed are the trimmed states, the marks listed the trimmed marks.
    pub trim_states_iff : (o q p : ℕ) → Memᴰ (o, q, p) (trim_states t) ↔ TrimmedState (automaton t) o q p
    trim_states_iff o q p = (λ m. trim_state_of m, λ w. trim_state_in w)

    pub trim_marks_iff : (γ o q : ℕ) → Memᴰ (γ, o, q) (trim_marks t) ↔ TrimmedMark (automaton t) γ o q
    trim_marks_iff γ o q = (λ m. trim_mark_of m, λ w. trim_mark_in w)
