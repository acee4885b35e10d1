-- The levels computed for a table are its live levels, in order; there is one exactly if the table accepts a log.
use Prim.Native.Nat.{ℕ, ◌<◌}
use mathlib.Core.Path.{◌≡◌, refl, subst}
use mathlib.Core.List.Memᴰ
use mathlib.Core.List.{List, [], Memᴰ}
use mathlib.Core.Logic.{◌↔◌, ◌⊎◌, inl, inr}
use lib.Dec.{T, eqb, eqb→eq, eqb_refl}
use Rattle.vpa.specs.Automaton.{opening, closing, open_move, close_move, Accepts}
use Rattle.vpa.specs.PairsLevelsTrimmed.{Balanced, TopLevel, OpensTo, ClosesTo, Opens, Live, top, inner}
use Rattle.vpa.specs.Lists.{Pair, below, among, square, Sorted, PairBefore, Distinct}
use Rattle.vpa.specs.TableOnDisk.{Table, state_count, kind_in, initial?, final?, is_kind?, InTable, in_open, in_close, automaton, IsTable}
use Rattle.vpa.specs.PairsComputed.{open?, close?, pairs, opens_to?, closes_to?, opens?, initial_to_final?, top_levels, opened_by_live?, level_rule, levels}
use Rattle.vpa.proofs.Lists.{both, and, and_l, and_r, either, or_l, or_r, any_intro, any_elim, sift_intro, sift_elim, no_members, below_intro, mem_of_among, among_of_mem, square_intro, sorted_square, sorted_distinct, pair_before_itself}
use Rattle.vpa.proofs.Saturation.{saturate_closed, saturate_least, saturate_sorted}
use Rattle.vpa.proofs.Trimming.{accepts_iff_top, top_of_live}
use Rattle.vpa.proofs.TableMoves.{kind_eq, kind_test, entry_cast, open_bounds, initial_bound}
use Rattle.vpa.proofs.TablePairs.{pairs_balanced, pairs_complete}

module _ (t : Table) where
  among_balanced : (p q : ℕ) → T (among (p, q) (pairs t)) → Balanced (automaton t) p q
  among_balanced p q h = pairs_balanced t p q (mem_of_among (p, q) (pairs t) h)

  pub opens_to_of : (o γ o' : ℕ) → T (opens_to? t (pairs t) o γ o') → OpensTo (automaton t) o γ o'
  unfolding opens_to? open?
  opens_to_of o γ o' h =
      let k = any_elim _ t.moves h in
      let r = k.0 in
      let c : T (is_kind? (kind_in t r.letter) opening) = search (and_l, and_r) in
      let e : T (eqb r.to o') = search (and_l, and_r) in
      let g : T (eqb r.mark γ) = search (and_l, and_r) in
      let m : T (among (o, r.from) (pairs t)) = search (and_l, and_r) in
      record {
        x = r.from;
        a = r.letter;
        before = among_balanced o r.from m;
        opened = in_open (entry_cast r refl refl (eqb→eq r.mark γ g) (eqb→eq r.to o' e) k.1) (kind_eq (kind_in t r.letter) opening c);
      }

  pub closes_to_of : (q' γ q : ℕ) → T (closes_to? t (pairs t) q' γ q) → ClosesTo (automaton t) q' γ q
  unfolding closes_to? close?
  closes_to_of q' γ q h =
      let k = any_elim _ t.moves h in
      let r = k.0 in
      let c : T (is_kind? (kind_in t r.letter) closing) = search (and_l, and_r) in
      let e : T (eqb r.from q') = search (and_l, and_r) in
      let g : T (eqb r.mark γ) = search (and_l, and_r) in
      let m : T (among (r.to, q) (pairs t)) = search (and_l, and_r) in
      record {
        s = r.to;
        b = r.letter;
        after = among_balanced r.to q m;
        closed = in_close (entry_cast r (eqb→eq r.from q' e) refl (eqb→eq r.mark γ g) refl k.1) (kind_eq (kind_in t r.letter) closing c);
      }

  pub opens_of : (x : Pair) (γ : ℕ) (y : Pair) → T (opens? t (pairs t) x γ y) → Opens (automaton t) x.0 x.1 γ y.0 y.1
  unfolding opens?
  opens_of x γ y h =
      let m : T (among y (pairs t)) = search and_l in
      let o : T (opens_to? t (pairs t) x.0 γ y.0) = search (and_l, and_r) in
      let c : T (closes_to? t (pairs t) y.1 γ x.1) = search (and_l, and_r) in
      record { opens = opens_to_of x.0 γ y.0 o; inside = among_balanced y.0 y.1 m; closes = closes_to_of y.1 γ x.1 c }

  -- The top levels listed are the top levels.
  pub top_of : {x : Pair} → Memᴰ x (top_levels t (pairs t)) → TopLevel (automaton t) x.0 x.1
  unfolding top_levels initial_to_final?
  top_of {x} m =
      let w = sift_elim _ (pairs t) m in
      let k = both (initial? t x.0) (final? t x.1) w.1 in
      record { begins = k.0; balanced = pairs_balanced t x.0 x.1 w.0; ends = k.1 }

  rule_live : (held : List Pair) → ((x : Pair) → Memᴰ x held → Live (automaton t) x.0 x.1) → (y : Pair) → T (level_rule t (pairs t) held y) → Live (automaton t) y.0 y.1
  unfolding level_rule opened_by_live?
  rule_live held ok y h = go (either (among y (top_levels t (pairs t))) (opened_by_live? t (pairs t) held y) h)
    where
      go : T (among y (top_levels t (pairs t))) ⊎ T (opened_by_live? t (pairs t) held y) → Live (automaton t) y.0 y.1
      go (inl k) = top (top_of (mem_of_among y (top_levels t (pairs t)) k))
      go (inr k) =
          let u = any_elim _ held k in
          let v = any_elim _ (below t.mark_count) u.2 in
          inner (ok u.0 u.1) (opens_of u.0 v.0 y v.2)

  pub levels_live : (o q : ℕ) → Memᴰ (o, q) (levels t) → Live (automaton t) o q
  unfolding levels
  levels_live o q m = saturate_least (level_rule t (pairs t)) (square (state_count t)) (λ x. Live (automaton t) x.0 x.1) rule_live (o, q) m

  pub levels_sorted : Sorted PairBefore (levels t)
  unfolding levels
  levels_sorted = saturate_sorted (level_rule t (pairs t)) (square (state_count t)) PairBefore (sorted_square (state_count t))

  pub levels_distinct : Distinct (levels t)
  levels_distinct = sorted_distinct pair_before_itself levels_sorted

  module _ (fit : IsTable t) where
    balanced_among : {p q : ℕ} → Balanced (automaton t) p q → p < state_count t → T (among (p, q) (pairs t))
    balanced_among {p} {q} b h = among_of_mem (p, q) (pairs_complete t fit b h).1

    pub opens_to_to : {o γ o' : ℕ} → o < state_count t → OpensTo (automaton t) o γ o' → T (opens_to? t (pairs t) o γ o')
    unfolding opens_to? open?
    opens_to_to {o} {γ} {o'} h w = go w.before w.opened
      where
        go : {x a : ℕ} → Balanced (automaton t) o x → InTable t (open_move x a γ o') → T (opens_to? t (pairs t) o γ o')
        go {x} {a} b (in_open m k) = any_intro _ m (and (is_kind? (kind_in t a) opening) _ (kind_test (kind_in t a) opening k)
            (and (eqb o' o') _ (eqb_refl o') (and (eqb γ γ) _ (eqb_refl γ) (balanced_among b h))))

    pub closes_to_to : {q' γ q : ℕ} → ClosesTo (automaton t) q' γ q → T (closes_to? t (pairs t) q' γ q)
    unfolding closes_to? close?
    closes_to_to {q'} {γ} {q} w = go w.closed w.after
      where
        go : {s b : ℕ} → InTable t (close_move q' b γ s) → Balanced (automaton t) s q → T (closes_to? t (pairs t) q' γ q)
        go {s} {b} (in_close m k) c = any_intro _ m (and (is_kind? (kind_in t b) closing) _ (kind_test (kind_in t b) closing k)
            (and (eqb q' q') _ (eqb_refl q') (and (eqb γ γ) _ (eqb_refl γ) (balanced_among c (fit.to _ m)))))

    -- The level that a level of the table opens is one of its pairs.
    pub opens_inside : {o q γ o' q' : ℕ} → Opens (automaton t) o q γ o' q' → (o' < state_count t) × (q' < state_count t) × Memᴰ (o', q') (pairs t)
    opens_inside w = let h = (open_bounds t fit w.opens.opened).3 in let k = pairs_complete t fit w.inside h in (h, k.0, k.1)

    pub opens_to : {o q γ o' q' : ℕ} → o < state_count t → Opens (automaton t) o q γ o' q' → T (opens? t (pairs t) (o, q) γ (o', q'))
    unfolding opens?
    opens_to {o} {q} {γ} {o'} {q'} h w =
        and (among (o', q') (pairs t)) _ (among_of_mem (o', q') (opens_inside w).2)
        (and (opens_to? t (pairs t) o γ o') (closes_to? t (pairs t) q' γ q) (opens_to_to h w.opens) (closes_to_to w.closes))

    level_by : {o q : ℕ} → o < state_count t → q < state_count t → T (level_rule t (pairs t) (levels t) (o, q)) → Memᴰ (o, q) (levels t)
    unfolding levels
    level_by h k r = saturate_closed (level_rule t (pairs t)) (square (state_count t)) (square_intro h k) r

    pub top_to : {i f : ℕ} → TopLevel (automaton t) i f → Memᴰ (i, f) (top_levels t (pairs t))
    unfolding top_levels initial_to_final?
    top_to {i} {f} w = sift_intro _ (pairs_complete t fit w.balanced (initial_bound t i w.begins)).1 (and (initial? t i) (final? t f) w.begins w.ends)

    pub levels_complete : {o q : ℕ} → Live (automaton t) o q → (o < state_count t) × (q < state_count t) × Memᴰ (o, q) (levels t)
    unfolding level_rule opened_by_live?
    levels_complete (top {i} {f} w) =
        let h = initial_bound t i w.begins in
        let k = pairs_complete t fit w.balanced h in
        (h, k.0, level_by h k.0 (or_l (among (i, f) (top_levels t (pairs t))) _ (among_of_mem (i, f) (top_to w))))
    levels_complete (inner {o} {q} {o'} {q'} {γ} l w) =
        let n = levels_complete l in
        let u = opens_inside w in (
          u.0,
          u.1,
          level_by u.0 u.1 (or_r (among (o', q') (top_levels t (pairs t))) _
              (any_intro _ n.2 (any_intro _ (below_intro (open_bounds t fit w.opens.opened).2) (opens_to n.0 w)))),
        )

    -- The levels listed are the live ones.
    pub levels_iff : (o q : ℕ) → Memᴰ (o, q) (levels t) ↔ Live (automaton t) o q
    levels_iff o q = (levels_live o q, λ l. (levels_complete l).2)

    -- No top level, no live level, no accepted log: each exactly if the others.
    pub no_top_iff_no_log : (top_levels t (pairs t) ≡ []) ↔ ((w : List ℕ) → Accepts (automaton t) w → ⊥)
    no_top_iff_no_log = (
      λ e w a. let k = (accepts_iff_top (automaton t)).0 (w, a) in Memᴰ.not-nil (subst (λ l. Memᴰ (k.0, k.1) l) e (top_to k.2)),
      λ h. no_members (top_levels t (pairs t)) (λ x m. let k = (accepts_iff_top (automaton t)).1 (x.0, x.1, top_of m) in h k.0 k.1),
    )

    pub no_level_iff_no_log : (levels t ≡ []) ↔ ((w : List ℕ) → Accepts (automaton t) w → ⊥)
    no_level_iff_no_log = (
      λ e w a. let k = (accepts_iff_top (automaton t)).0 (w, a) in Memᴰ.not-nil (subst (λ l. Memᴰ (k.0, k.1) l) e (levels_complete (top k.2)).2),
      λ h. no_members (levels t) (λ x m. let k = (accepts_iff_top (automaton t)).1 (top_of_live (automaton t) (levels_live x.0 x.1 m)) in h k.0 k.1),
    )
