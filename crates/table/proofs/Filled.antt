-- An array of one thing throughout, filled from the front with what a function gives.
use Prim.Native.Nat.{ℕ, zero, suc, ◌+◌, ◌<◌}
use mathlib.Core.Bool.{Bool, true, false, cond}
use mathlib.Core.List.{List}
use mathlib.Core.Path.{◌≡◌, refl}
use native.Mathlib.Omega.{arith}
use lib.Dec.{eqb, ltb}
use lib.ListN.{length, set, get_or, replicate, length-set, length-replicate}
use lib.Seq.{get_or-set_same, get_or-set_other}
use borrow.Author.Tests.{ltb-true, ltb-false, eqb-true, eqb-false, lt-ltb, le-ltb}

pub record Filled {X : Type 0} (f : ℕ → X) (d : X) (size n : ℕ) (u : List X) : Type 0 where
  pub long : length u ≡ size
  pub at : (i : ℕ) → cond (ltb i n) (f i) d ≡ get_or u i d

throughout : {X : Type 0} (d : X) (size i : ℕ) → d ≡ get_or (replicate size d) i d
throughout d zero i = refl
throughout d (suc size) zero = refl
throughout d (suc size) (suc i) = throughout d size i

module _ {X : Type 0} (f : ℕ → X) (d : X) where
  pub filled_none : (size : ℕ) → Filled f d size 0 (replicate size d)
  filled_none size = record { long = length-replicate size d; at = λ i. rw (le-ltb i 0 (omega arith)) (throughout d size i) }

  pub filled_more : {size n : ℕ} {u : List X} (v : X) → n < size → Filled f d size n u → f n ≡ v → Filled f d size (n + 1) (set u n v)
  filled_more {size} {n} {u} v l h e = record { long = rw length-set h.long; at = λ i. here i (eqb i n) refl } where
    same_test : (i : ℕ) (b : Bool) → (i ≡ n → ⊥) → ltb i n ≡ b → ltb i (n + 1) ≡ b
    same_test i true ne p = let q = ltb-true i n p in lt-ltb i (n + 1) (omega arith)
    same_test i false ne p = let q = ltb-false i n p in le-ltb i (n + 1) (omega (arith, ne))

    here : (i : ℕ) (b : Bool) → eqb i n ≡ b → cond (ltb i (n + 1)) (f i) d ≡ get_or (set u n v) i d
    here i true p = rw (eqb-true i n p, lt-ltb n (n + 1) (omega arith), get_or-set_same u n v d (rw h.long l)) e
    here i false p = rw (same_test i (ltb i n) (eqb-false i n p) refl, get_or-set_other u n i v d (eqb-false i n p)) (h.at i)
