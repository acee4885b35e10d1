-- Laws of one length in scratch: where it stands, how it is lowered, and the loops that write no length everywhere and lower each state with itself.
use Prim.Native.Nat.{ℕ, ◌+◌, ◌*◌, ◌<◌, ◌≤◌}
use mathlib.Core.List.{List, ◌++◌}
use mathlib.Core.Logic.{◌⊎◌, inl, inr, ⊎_elim}
use mathlib.Core.Path.{◌≡◌, refl, ◌∙◌}
use native.Mathlib.Decide.{ℕ_discrete}
use native.Mathlib.Omega.{arith}
use lib.ListN.{length, get_or, set, take, drop, replicate, length-set}
use lib.Seq.{get_or-take, get_or-set_same, get_or-set_other}
use Rattle.std.proofs.Common.{length-take}
use Rattle.std.proofs.lemmas.Grind.{common_steps}
use Rattle.vpa.specs.Automaton.{Vpa}
use Rattle.vpa.specs.Shortest.{same_in, HasLength}
use Rattle.vpa.specs.TableOnDisk.{Table, automaton}
use Rattle.relation.specs.Relations.{HoldsExactly, With}
use Rattle.nesting.specs.Scratch.{KeptFrom}
use Rattle.lengths.specs.Limit.{over}
use Rattle.lengths.specs.Steps.{length_in, Sound, LoweredTo, LoweredSame, NoLengths}
use Rattle.lengths.proofs.Lowering.{over_is, lowered_none, lowered_then}

pub length_in_lem : (s : List ℕ) (p q : ℕ) → p < 64 → q < 64 → length_in s p q ≡ get_or s (64 * p + q) 0
unfolding length_in
length_in_lem s p q l m = get_or-take 4096 s (64 * p + q) 0 (omega arith)

-- What counts the moves counts them too where it is cut down to the number that stands for all lengths over the most.
has_capped : {Q Γ : Type 0} {A : Vpa Q Γ} {p q : Q} {v c : ℕ} → (c ≡ v) ⊎ (c ≡ 4097) → c ≤ v → HasLength A over p q v → HasLength A over p q c
has_capped {v = v} {c} e l h = record { moves = h.moves; balanced = h.balanced; counted = by e h.counted } where
  by : (c ≡ v) ⊎ (c ≡ 4097) → (h.moves ≡ v) ⊎ ((over ≤ v) × (over ≤ h.moves)) → (h.moves ≡ c) ⊎ ((over ≤ c) × (over ≤ h.moves))
  by (inl d) (inl k) = inl (omega arith)
  by (inl d) (inr k) = inr (omega (arith, k.0), k.1)
  by (inr d) (inl k) = inr (omega (arith, over_is), omega (arith, over_is))
  by (inr d) (inr k) = inr (omega (arith, over_is), k.1)

-- A number written at a place below 4096, and the lengths then held.
set_kept : (s : List ℕ) (i c : ℕ) → i < 4096 → KeptFrom 4096 s (set s i c)
set_kept s i c l = record { long = length-set s i c; rest = λ j m. get_or-set_other s i j c 0 (omega arith) }

module _ (s : List ℕ) {p q : ℕ} (c : ℕ) (low : p < 64) (low-too : q < 64) where
  set_here : 4096 ≤ length s → length_in (set s (64 * p + q) c) p q ≡ c
  set_here long = length_in_lem _ p q low low-too ∙ get_or-set_same s (64 * p + q) c 0 (omega arith)

  set_other : (x y : ℕ) → x < 64 → y < 64 → ((x ≡ p) × (y ≡ q)) ⊎ (length_in (set s (64 * p + q) c) x y ≡ length_in s x y)
  set_other x y l m = by (ℕ_discrete (64 * x + y) (64 * p + q)) where
    by : Dec (64 * x + y ≡ 64 * p + q) → ((x ≡ p) × (y ≡ q)) ⊎ (length_in (set s (64 * p + q) c) x y ≡ length_in s x y)
    by (yes e) = inl (omega arith, omega arith)
    by (no e) = inr (omega (arith, length_in_lem (set s (64 * p + q) c) x y l m, length_in_lem s x y l m, get_or-set_other s (64 * p + q) (64 * x + y) c 0 e))

-- A pair to be lowered to v at most, c being v cut down: it is, or its length is as low already.
module _ {s due : List ℕ} {p q v c : ℕ} (low : p < 64) (low-too : q < 64) (counted : (c ≤ v) × ((c ≤ 4097) × ((c ≡ v) ⊎ (c ≡ 4097)))) where
  pub lower_stays : length_in s p q ≤ c → LoweredTo p q v s due s due
  lower_stays l = record {
    lowered = lowered_none s due;
    here = record { length = omega (arith, counted.1.0, over_is); most = omega (arith, counted.0) };
    sound = λ t h k. h;
  }

  pub lower_one : {due' : List ℕ} → 4096 ≤ length s → c < length_in s p q → HoldsExactly due' (With due p q) → LoweredTo p q v s due (set s (64 * p + q) c) due'
  lower_one long less noted = record {
    lowered = record {
      kept = set_kept s (64 * p + q) c (omega arith);
      less = λ x y l m. ⊎_elim (λ (e : (x ≡ p) × (y ≡ q)). rw (e.0, e.1) (omega (arith, there))) (λ e. omega arith) (set_other s c low low-too x y l m);
      told = λ x y l m. ⊎_elim (λ e. inr ((noted.at x y).1 (record { is = inr e }))) inl (set_other s c low low-too x y l m);
      stays = λ x y h. (noted.at x y).1 (record { is = inl h });
      gained = λ x y l m h. ⊎_elim inl (λ (e : (x ≡ p) × (y ≡ q)). inr (rw (e.0, e.1) (omega (arith, there)))) ((noted.at x y).0 h).is;
    };
    here = record { length = omega (arith, there, counted.1.0, over_is); most = omega (arith, there, counted.0) };
    sound = λ t h k. record { has = λ x y l m g. keeps t h k x y l m g (set_other s c low low-too x y l m) };
  } where
    there : length_in (set s (64 * p + q) c) p q ≡ c
    there = set_here s c low low-too long

    keeps : (t : Table) → Sound t s → HasLength (automaton t) over p q v → (x y : ℕ) → x < 64 → y < 64 → length_in (set s (64 * p + q) c) x y ≤ over
        → ((x ≡ p) × (y ≡ q)) ⊎ (length_in (set s (64 * p + q) c) x y ≡ length_in s x y)
        → HasLength (automaton t) over x y (length_in (set s (64 * p + q) c) x y)
    keeps t h k x y l m g (inl e) = rw (e.0, e.1, there) (has_capped counted.1.1 counted.0 k)
    keeps t h k x y l m g (inr e) = rw e (h.has x y l m (rw e at g))

-- Each state below n with itself.
pub same_more : {n : ℕ} {s due s₁ due₁ s₂ due₂ : List ℕ} → n < 64 → LoweredSame n s due s₁ due₁ → LoweredTo n n 0 s₁ due₁ s₂ due₂
    → LoweredSame (n + 1) s due s₂ due₂
same_more {n} {s₂ = s₂} low f g = record {
  lowered = lowered_then f.lowered g.lowered;
  same = λ p l. at p l (ℕ_discrete p n);
  sound = λ t h. g.sound t (f.sound t h) (record { moves = 0; balanced = same_in; counted = inl refl });
} where
  at : (p : ℕ) → p < n + 1 → Dec (p ≡ n) → length_in s₂ p p ≡ 0
  at p l (yes e) = rw e (omega (arith, g.here.most))
  at p l (no e) = omega (arith, g.lowered.less p p (omega arith) (omega arith), f.same p (omega arith))

-- The first n numbers are v, and the rest is as it was.
filled_kept : (n v : ℕ) (s : List ℕ) → n ≤ length s → KeptFrom n s (replicate n v ++ drop n s)
filled_kept n v s l = record { long = grind (arith, common_steps); rest = λ i m. grind (arith, common_steps) }

filled_there : (n v : ℕ) (s : List ℕ) (i : ℕ) → i < n → get_or (replicate n v ++ drop n s) i 0 ≡ v
filled_there n v s i l = grind (arith, common_steps)

-- The number that stands for no length at each of the places of the lengths.
pub forgotten : {front : List ℕ} (s : List ℕ) → 4096 ≤ length s → front ≡ replicate (length (take 4096 s)) 4098
    → NoLengths (front ++ drop 4096 s) × KeptFrom 4096 s (front ++ drop 4096 s)
forgotten s long e =
    let count : length (take 4096 s) ≡ 4096 = omega (arith, length-take 4096 s) in
    rw (e, count) (
      record { none = λ p q a b. omega (arith, over_is, length_in_lem (replicate 4096 4098 ++ drop 4096 s) p q a b, filled_there 4096 4098 s (64 * p + q) (omega arith)) },
      filled_kept 4096 4098 s long,
    )
