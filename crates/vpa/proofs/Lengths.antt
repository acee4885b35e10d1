-- Lengths of logs: letters are moves, lengths that the rules do not lower bound every run, and shortest lengths are equal.
use Prim.Native.Nat.{ℕ, ◌+◌, ◌≤◌, ◌<◌}
use native.Mathlib.Omega.{arith}
use mathlib.Core.Path.{◌≡◌, refl, sym, ap, subst, ◌∙◌}
use mathlib.Core.List.{List}
use mathlib.Core.Logic.{◌↔◌, ◌⊎◌, inl, inr, ⊎_elim}
use lib.ListN.{length, length-map}
use Rattle.vpa.specs.Automaton.{Move, plain_move, open_move, close_move, letter, target, spells, Vpa, Accepts}
use Rattle.vpa.specs.TableOnDisk.{Table, state_count, InTable, in_plain, in_open, in_close, IsTable}
use Rattle.vpa.specs.Shortest.{BalancedIn, same_in, join_in, step_in, nest_in, HasLength, AtMost, ClosedLengths, LeastLengths, Shortest}
use Rattle.vpa.proofs.Runs.{balanced_in_iff_run}

-- A log has as many letters as its run has moves.
pub length_spells : {Q Γ : Type 0} (ms : List (Move Q Γ)) → length (spells ms) ≡ length ms
unfolding spells
length_spells ms = length-map ms letter

module _ {Q Γ : Type 0} (A : Vpa Q Γ) where
  -- A log of n letters is accepted exactly if an initial and a final state have n moves between them.
  pub accepts_in_iff : (n : ℕ) → ((w : List ℕ) × Accepts A w × (length w ≡ n)) ↔ ((i : Q) × (f : Q) × A.Initial i × BalancedIn A i f n × A.Final f)
  accepts_in_iff n = (
    λ r. let a = r.1 in
        let e : length a.moves ≡ n = sym (length_spells a.moves) ∙ (ap length a.spelt ∙ r.2) in
        (a.first, a.last, a.accepting.begins, (balanced_in_iff_run A a.first a.last n).1 (a.moves, e, a.accepting.runs), a.accepting.ends),
    λ r. let k = (balanced_in_iff_run A r.0 r.1 n).0 r.3 in
        (spells k.0, record { first = r.0; moves = k.0; last = r.1; accepting = record { begins = r.2; runs = k.2; ends = r.4 }; spelt = refl }, length_spells k.0 ∙ k.1),
  )

  -- Lengths that the four rules do not lower are no longer than any length of the pair, over states that no move leaves.
  module _ (S : Q → Type 0) (stays : (m : Move Q Γ) → A.Has m → S (target m)) {over : ℕ} (some : 0 < over) (d : Q → Q → ℕ) where
    pub least_bound : ClosedLengths A S over d → {p q : Q} {n : ℕ} → S p → BalancedIn A p q n → S q × AtMost over (d p q) n
    unfolding target
    least_bound closed h (same_in {p}) = (h, record { length = omega (arith, closed.same p h); most = omega (arith, closed.same p h) })
    least_bound closed h (join_in {p} {q} {r} b c e) =
        let k = least_bound closed h b in
        let l = least_bound closed k.0 c in
        let m = closed.join p q r h k.0 l.0 k.1.length l.1.length in
        (l.0, record { length = m.length; most = omega (arith, m.most, k.1.most, l.1.most) })
    least_bound closed h (step_in {p} {q} {a} m) =
        let k = closed.step p q a m in
        (stays (plain_move p a q) m, record { length = omega arith; most = k })
    least_bound closed h (nest_in {p'} {p} {q} {q'} {a} {b} {γ} m n c e) =
        let k = least_bound closed (stays (open_move p' a γ p) m) n in
        let l = closed.nest p' p q q' a b γ m c k.1.length in
        (stays (close_move q b γ q') c, record { length = l.length; most = omega (arith, l.most, k.1.most) })

    -- Of the least lengths one below the bound is had, and no pair that has the bound has a length below it.
    module _ (least : LeastLengths A S over d) {p q : Q} (h : S p) (g : S q) where
      pub least_held : d p q < over → BalancedIn A p q (d p q)
      least_held l =
          let k = least.has p q h g (omega arith) in
          ⊎_elim (λ (e : k.moves ≡ d p q). subst (BalancedIn A p q) e k.balanced) (λ (o : (over ≤ d p q) × (over ≤ k.moves)). absurd (omega (arith, o.0))) k.counted

      pub least_over : d p q ≡ over → ((n : ℕ) × BalancedIn A p q n) × ((n : ℕ) → BalancedIn A p q n → over ≤ n)
      least_over e =
          let k = least.has p q h g (omega arith) in
          ((k.moves, k.balanced), λ n b. omega (arith, (least_bound least.closed h b).1.most))

  -- Shortest lengths are equal.
  pub shortest_equal : {m n : ℕ} → Shortest A m → Shortest A n → m ≡ n
  shortest_equal s t = omega (arith, s.long, t.long, s.none_shorter t.log t.accepted, t.none_shorter s.log s.accepted)

-- Numbers that count moves add up as the moves do: where one of them is not below the bound, neither is the sum.
module _ {over : ℕ} where
  counted_sum : {m v n w : ℕ} → (m ≡ v) ⊎ ((over ≤ v) × (over ≤ m)) → (n ≡ w) ⊎ ((over ≤ w) × (over ≤ n)) → (m + n ≡ v + w) ⊎ ((over ≤ v + w) × (over ≤ m + n))
  counted_sum (inl d) (inl e) = inl (omega arith)
  counted_sum (inl d) (inr e) = inr (omega arith, omega arith)
  counted_sum (inr d) e = inr (omega arith, omega arith)

  module _ {Q Γ : Type 0} (A : Vpa Q Γ) where
    pub has_join : {p q r : Q} {v w : ℕ} → HasLength A over p q v → HasLength A over q r w → HasLength A over p r (v + w)
    has_join c d = record { moves = c.moves + d.moves; balanced = join_in c.balanced d.balanced refl; counted = counted_sum c.counted d.counted }

    pub has_nest : {p' p q q' : Q} {a b v : ℕ} {γ : Γ} → A.Has (open_move p' a γ p) → HasLength A over p q v → A.Has (close_move q b γ q') → HasLength A over p' q' (v + 2)
    has_nest o c e = record { moves = c.moves + 2; balanced = nest_in o c.balanced e refl; counted = counted_sum c.counted (inl refl) }

-- For a table: over its states.
pub target_bound : (t : Table) → IsTable t → (m : Move ℕ ℕ) → InTable t m → target m < state_count t
unfolding target
target_bound t fit m (in_plain γ e k) = fit.to _ e
target_bound t fit m (in_open e k) = fit.to _ e
target_bound t fit m (in_close e k) = fit.to _ e
