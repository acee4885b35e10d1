-- A test of each number of a range, as an iterator answers it.
use Prim.Native.Nat.{ℕ, ◌<◌}
use mathlib.Core.Bool.{Bool, true, false}
use mathlib.Core.Path.{◌≡◌, refl, sym, subst, ◌∙◌}
use native.Mathlib.Nat.{zero-add}
use native.Mathlib.Omega.{arith}
use lib.ListN.{length, get_or}
use Rattle.std.specs.Bool.{MatchBool}
use Rattle.std.specs.List.{range_with_len, AllWithin, HoldsAt}
use Rattle.std.proofs.lemmas.List.FromFn.{length-range_with_len, get_or-range_with_len}
use Rattle.table.specs.Bytes.{all?}
use Rattle.table.proofs.All.{all_intro, all_elim}

module _ (f : ℕ → Bool) (n : ℕ) where
  at : (i : ℕ) → i < n → get_or (range_with_len 0 n) i 0 ≡ i
  at i l = get_or-range_with_len 0 n i 0 l ∙ zero-add i

  pub all_of_range : (r : Bool)
      → MatchBool r (AllWithin (λ d. f d ≡ true) (range_with_len 0 n) 0 (length (range_with_len 0 n)))
      ((k : ℕ) × (k < length (range_with_len 0 n)) × HoldsAt (λ d. f d ≡ false) (range_with_len 0 n) k)
      → all? f n ≡ r
  all_of_range true h = all_intro f n (λ i l. subst (λ d. f d ≡ true) (at i l) (h i 0 (omega arith) (omega (arith, length-range_with_len 0 n))))
  all_of_range false h = go (all? f n) refl where
    fails : f h.0 ≡ false
    fails = subst (λ d. f d ≡ false) (at h.0 (omega (arith, h.1, length-range_with_len 0 n))) (h.2 0)

    go : (b : Bool) → all? f n ≡ b → all? f n ≡ false
    go false e = e
    go true e = let t = all_elim f n e h.0 (omega (arith, h.1, length-range_with_len 0 n)) in let u : true ≡ false = sym t ∙ fails in cc
