-- What a search among the rows finds.
use Prim.Native.Nat.{ℕ, zero, suc, ◌+◌, ◌<◌}
use mathlib.Core.Bool.{Bool, true, false}
use mathlib.Core.List.{List, []}
use mathlib.Core.Path.{◌≡◌, refl, ap, subst}
use lib.ListN.{length}
use native.Mathlib.Nat.{add-zero}
use native.Mathlib.Omega.{arith}
use Rattle.std.proofs.Common.{None, Option}
use Rattle.std.proofs.lemmas.Iterator.{YieldsList}
use Rattle.std.proofs.lemmas.Iterator.Consumers.{YieldsList-end}
use Rattle.std.specs.Iterator.{Drains}
use Rattle.std.specs.List.{filter, range_with_len}

-- An iterator that ends at once has nothing to give.
pub nothing_left : {S A B : Type 0} {steps : S → Option A → S → Type 0} {v : A → B} {s : S} {all : List B} → Drains steps s [] → YieldsList steps v s all
    → [] ≡ all
nothing_left d e = (YieldsList-end e [] d.1.0 d.1.1 None d.0 refl d.1.2).0

all_fail : (test : ℕ → Bool) (a n : ℕ) → [] ≡ filter test (range_with_len a n) → (i : ℕ) → i < n → test (a + i) ≡ false
all_fail test a zero e i l = absurd (omega arith)
all_fail test a (suc n) e i l = go (test a) refl i l (λ others j m. all_fail test (a + 1) n others j m) where
  go : (b : Bool) → test a ≡ b → (i : ℕ) → i < suc n
      → ([] ≡ filter test (range_with_len (a + 1) n) → (j : ℕ) → j < n → test (a + 1 + j) ≡ false) → test (a + i) ≡ false
  go true q i l below = let other = rw q at e in absurd (omega (arith, ap length other))
  go false q zero l below = rw (add-zero a) q
  go false q (suc j) l below = let others = rw q at e in subst (λ k. test k ≡ false) (omega arith) (below others j (omega arith))

-- Where a filter lets nothing below n through, its test fails at each number below n.
pub none_passes : (test : ℕ → Bool) (n : ℕ) → [] ≡ filter test (range_with_len 0 n) → (i : ℕ) → i < n → test i ≡ false
none_passes test n e i l = subst (λ k. test k ≡ false) (omega arith) (all_fail test 0 n e i l)
