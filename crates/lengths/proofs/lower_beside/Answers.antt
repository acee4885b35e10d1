use Rattle.std.proofs.Common.{ℕ, List, ◌≡◌, ◌+◌, ◌<◌, ◌≤◌, subst, arith}
use Rattle.vpa.specs.Shortest.{HasLength}
use Rattle.vpa.specs.TableOnDisk.{Table, automaton}
use Rattle.vpa.proofs.Lengths.{has_join}
use Rattle.lengths.specs.Limit.{over}
use Rattle.lengths.specs.Steps.{length_in, Sound}
use Rattle.lengths.proofs.LowerMany.{below_by, below_kept}
use Rattle.lengths.proofs.lower_beside.Goals as goal

-- A way on from q, and one to p.
way_on : {p q r v w : ℕ} {t : Table} {s : List ℕ} → q < 64 → r < 64 → length_in s q r ≡ w → Sound t s → HasLength (automaton t) over p q v → w ≤ over
    → HasLength (automaton t) over p r (v + w)
way_on {t = t} low few e h k l = rw (← e) (has_join (automaton t) k (h.has _ _ low few (omega arith)))

way_to : {p q r v w : ℕ} {t : Table} {s : List ℕ} → r < 64 → p < 64 → length_in s r p ≡ w → Sound t s → HasLength (automaton t) over p q v → w ≤ over
    → HasLength (automaton t) over r q (v + w)
way_to {q = q} {r} {v} {w} {t} few low e h k l =
    subst (λ n. HasLength (automaton t) over r q n) (omega (arith, e)) (has_join (automaton t) (h.has _ _ few low (omega arith)) k)

pub loop-r-preserved : goal.loop-r-preserved
loop-r-preserved c =
    let a = c.requires in
    let h = c.loop-r.invariant in
    let f = c.lower_by.ensures in
    let g = c.lower_by-in-loop-r.ensures in
    let few : c.loop-r.r < 64 = omega arith in
    let on = c.length_at-after.ensures.0 in
    let to = c.length_at-before.ensures.0 in
    let less = h.after.lowered.less _ c.loop-r.r a.1.1.0 few in
    let less_too = h.before.lowered.less c.loop-r.r _ few a.1.0 in
    record {
      after =
          below_kept (below_by h.after f (λ l. (omega arith, omega arith)) (λ t k q l. way_on a.1.1.0 few on k q l) (λ r l. (a.1.0, omega arith))) g.lowered
          (λ t k q. g.sound t k (λ l. way_to few a.1.0 to k q l)) (λ r l. (a.1.0, omega arith));
      before =
          below_by (below_kept h.before f.lowered (λ t k q. f.sound t k (λ l. way_on a.1.1.0 few on k q l)) (λ r l. (omega arith, a.1.1.0))) g
          (λ l. (omega (arith, f.lowered.less c.loop-r.r _ few a.1.0), omega (arith, f.lowered.less c.loop-r.r _ few a.1.0))) (λ t k q l. way_to few a.1.0 to k q l)
          (λ r l. (omega arith, a.1.1.0));
    }
