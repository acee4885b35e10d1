-- The pairs computed for a table are its balanced pairs, in order.
use Prim.Native.Nat.{ℕ, ◌<◌}
use mathlib.Core.Path.{◌≡◌, refl, subst}
use mathlib.Core.Bool.{◌&&◌, ◌||◌}
use mathlib.Core.List.{List, Memᴰ}
use mathlib.Core.Logic.{◌↔◌, ◌⊎◌, inl, inr}
use lib.Dec.{T, eqb, eqb→eq, eqb_refl}
use Rattle.vpa.specs.Automaton.{plain, opening, closing}
use Rattle.vpa.specs.PairsLevelsTrimmed.{Balanced, same, join, step, nest}
use Rattle.vpa.specs.Lists.{Pair, among, square, Sorted, PairBefore, Distinct}
use Rattle.vpa.specs.TableOnDisk.{entry, Table, state_count, kind_in, is_kind?, in_plain, in_open, in_close, automaton, IsTable}
use Rattle.vpa.specs.PairsComputed.{plain?, open?, close?, joins?, steps?, ends_nested?, nests?, pair_rule, pairs}
use Rattle.vpa.proofs.Lists.{and, and_l, and_r, either, or_l, or_r, any_intro, any_elim, mem_of_among, among_of_mem, square_intro, square_elim, sorted_square, sorted_distinct, pair_before_itself}
use Rattle.vpa.proofs.Saturation.{saturate_in, saturate_closed, saturate_least, saturate_sorted}
use Rattle.vpa.proofs.TableMoves.{kind_eq, kind_test, entry_cast}

-- What a rule gives is balanced where the pairs held are.
module _ (t : Table) (held : List Pair) (ok : (y : Pair) → Memᴰ y held → Balanced (automaton t) y.0 y.1) where
  held_balanced : (p q : ℕ) → T (among (p, q) held) → Balanced (automaton t) p q
  held_balanced p q h = ok (p, q) (mem_of_among (p, q) held h)

  joins_balanced : (x : Pair) → T (joins? held x) → Balanced (automaton t) x.0 x.1
  unfolding joins?
  joins_balanced x h =
      let k = any_elim _ held h in
      let e : T (eqb k.0.0 x.0) = search (and_l, and_r) in
      let m : T (among (k.0.1, x.1) held) = search (and_l, and_r) in
      join (rw (eqb→eq k.0.0 x.0 e) at (ok k.0 k.1)) (held_balanced k.0.1 x.1 m)

  steps_balanced : (x : Pair) → T (steps? t x) → Balanced (automaton t) x.0 x.1
  unfolding steps? plain?
  steps_balanced x h =
      let k = any_elim _ t.moves h in
      let r = k.0 in
      let p : T (is_kind? (kind_in t r.letter) plain) = search (and_l, and_r) in
      let e : T (eqb r.from x.0) = search (and_l, and_r) in
      let f : T (eqb r.to x.1) = search (and_l, and_r) in
      step (in_plain r.mark (entry_cast r (eqb→eq r.from x.0 e) refl refl (eqb→eq r.to x.1 f) k.1) (kind_eq (kind_in t r.letter) plain p))

  nests_balanced : (x : Pair) → T (nests? t held x) → Balanced (automaton t) x.0 x.1
  unfolding nests? ends_nested? open? close?
  nests_balanced x h =
      let k = any_elim _ t.moves h in
      let r = k.0 in
      let o : T (is_kind? (kind_in t r.letter) opening) = search (and_l, and_r) in
      let e : T (eqb r.from x.0) = search (and_l, and_r) in
      let j : T (ends_nested? t held r.to r.mark x.1) = search (and_l, and_r) in
      let n = any_elim _ t.moves j in
      let s = n.0 in
      let c : T (is_kind? (kind_in t s.letter) closing) = search (and_l, and_r) in
      let f : T (eqb s.to x.1) = search (and_l, and_r) in
      let g : T (eqb s.mark r.mark) = search (and_l, and_r) in
      let m : T (among (r.to, s.from) held) = search (and_l, and_r) in
      nest (in_open (entry_cast r (eqb→eq r.from x.0 e) refl refl refl k.1) (kind_eq (kind_in t r.letter) opening o))
      (held_balanced r.to s.from m)
      (in_close (entry_cast s refl refl (eqb→eq s.mark r.mark g) (eqb→eq s.to x.1 f) n.1) (kind_eq (kind_in t s.letter) closing c))

  rule_balanced : (x : Pair) → T (pair_rule t held x) → Balanced (automaton t) x.0 x.1
  unfolding pair_rule
  rule_balanced x h = go (either (eqb x.0 x.1) (joins? held x || (steps? t x || nests? t held x)) h)
    where
      last : T (steps? t x) ⊎ T (nests? t held x) → Balanced (automaton t) x.0 x.1
      last (inl k) = steps_balanced x k
      last (inr k) = nests_balanced x k

      then : T (joins? held x) ⊎ T (steps? t x || nests? t held x) → Balanced (automaton t) x.0 x.1
      then (inl k) = joins_balanced x k
      then (inr k) = last (either (steps? t x) (nests? t held x) k)

      go : T (eqb x.0 x.1) ⊎ T (joins? held x || (steps? t x || nests? t held x)) → Balanced (automaton t) x.0 x.1
      go (inl e) = subst (Balanced (automaton t) x.0) (eqb→eq x.0 x.1 e) same
      go (inr k) = then (either (joins? held x) (steps? t x || nests? t held x) k)

module _ (t : Table) where
  pub pairs_balanced : (p q : ℕ) → Memᴰ (p, q) (pairs t) → Balanced (automaton t) p q
  unfolding pairs
  pairs_balanced p q m = saturate_least (pair_rule t) (square (state_count t)) (λ x. Balanced (automaton t) x.0 x.1) (rule_balanced t) (p, q) m

  pub pairs_bounds : {x : Pair} → Memᴰ x (pairs t) → (x.0 < state_count t) × (x.1 < state_count t)
  unfolding pairs
  pairs_bounds m = square_elim (state_count t) (saturate_in (pair_rule t) (square (state_count t)) m)

  pub pairs_sorted : Sorted PairBefore (pairs t)
  unfolding pairs
  pairs_sorted = saturate_sorted (pair_rule t) (square (state_count t)) PairBefore (sorted_square (state_count t))

  pub pairs_distinct : Distinct (pairs t)
  pairs_distinct = sorted_distinct pair_before_itself pairs_sorted

  joins_to : {p q r : ℕ} → Memᴰ (p, q) (pairs t) → Memᴰ (q, r) (pairs t) → T (joins? (pairs t) (p, r))
  unfolding joins?
  joins_to {p} {q} {r} m n = any_intro _ m (and (eqb p p) (among (q, r) (pairs t)) (eqb_refl p) (among_of_mem (q, r) n))

  steps_to : {p a q : ℕ} (γ : ℕ) → Memᴰ (entry p a γ q) t.moves → kind_in t a ≡ plain → T (steps? t (p, q))
  unfolding steps? plain?
  steps_to {p} {a} {q} γ m k = any_intro _ m (and (is_kind? (kind_in t a) plain) (eqb p p && eqb q q) (kind_test (kind_in t a) plain k) (and (eqb p p) (eqb q q) (eqb_refl p) (eqb_refl q)))

  nests_to : {p' p q q' a b γ : ℕ} → Memᴰ (entry p' a γ p) t.moves → kind_in t a ≡ opening → Memᴰ (p, q) (pairs t)
      → Memᴰ (entry q b γ q') t.moves → kind_in t b ≡ closing → T (nests? t (pairs t) (p', q'))
  unfolding nests? ends_nested? open? close?
  nests_to {p'} {p} {q} {q'} {a} {b} {γ} m k n m' k' =
      any_intro _ m
      (and (is_kind? (kind_in t a) opening) (eqb p' p' && ends_nested? t (pairs t) p γ q') (kind_test (kind_in t a) opening k)
      (and (eqb p' p') (ends_nested? t (pairs t) p γ q') (eqb_refl p')
      (any_intro _ m'
      (and (is_kind? (kind_in t b) closing) (eqb q' q' && (eqb γ γ && among (p, q) (pairs t))) (kind_test (kind_in t b) closing k')
      (and (eqb q' q') (eqb γ γ && among (p, q) (pairs t)) (eqb_refl q')
      (and (eqb γ γ) (among (p, q) (pairs t)) (eqb_refl γ) (among_of_mem (p, q) n)))))))

  module _ (fit : IsTable t) where
    by_rule : {p q : ℕ} → p < state_count t → q < state_count t → T (pair_rule t (pairs t) (p, q)) → Memᴰ (p, q) (pairs t)
    unfolding pairs
    by_rule h k r = saturate_closed (pair_rule t) (square (state_count t)) (square_intro h k) r

    pub pairs_complete : {p q : ℕ} → Balanced (automaton t) p q → p < state_count t → (q < state_count t) × Memᴰ (p, q) (pairs t)
    unfolding pair_rule
    pairs_complete (same {p}) h = (h, by_rule h h (or_l (eqb p p) _ (eqb_refl p)))
    pairs_complete (join {p} {q} {r} b c) h =
        let k = pairs_complete b h in
        let l = pairs_complete c k.0 in
        (l.0, by_rule h l.0 (or_r (eqb p r) _ (or_l (joins? (pairs t) (p, r)) _ (joins_to k.1 l.1))))
    pairs_complete (step {p} {q} (in_plain γ m k)) h =
        (fit.to _ m, by_rule h (fit.to _ m) (or_r (eqb p q) _ (or_r (joins? (pairs t) (p, q)) _ (or_l (steps? t (p, q)) _ (steps_to γ m k)))))
    pairs_complete (nest {p'} {p} {q} {q'} (in_open m k) b (in_close m' k')) h =
        let n = pairs_complete b (fit.to _ m) in
        (fit.to _ m', by_rule h (fit.to _ m') (or_r (eqb p' q') _ (or_r (joins? (pairs t) (p', q')) _ (or_r (steps? t (p', q')) _ (nests_to m k n.1 m' k')))))

    -- The pairs listed are the balanced pairs of the table's states.
    pub pairs_iff : (p q : ℕ) → Memᴰ (p, q) (pairs t) ↔ ((p < state_count t) × Balanced (automaton t) p q)
    pairs_iff p q = (λ m. ((pairs_bounds m).0, pairs_balanced p q m), λ b. (pairs_complete b.1 b.0).1)
