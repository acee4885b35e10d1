-- What scratch holds once it is cleared, and what is kept of it.
use Prim.Native.Nat.{ℕ, ◌+◌, ◌<◌, ◌≤◌}
use mathlib.Core.List.{List, ◌++◌}
use mathlib.Core.Path.{◌≡◌, refl, ap, ◌∙◌}
use native.Mathlib.Omega.{arith}
use lib.ListN.{length, take, drop, replicate, get_or, length-drop, length-replicate, get_or-append}
use lib.Seq.{drop_at, get_or-drop, ext_get_or}
use Rattle.std.proofs.Common.{length-take-le}
use Rattle.relation.proofs.Relations.{zero_row}
use Rattle.nesting.specs.Scratch.{scratch_size, cleared, KeptFrom}

pub scratch_size_lem : scratch_size ≡ 16384
unfolding scratch_size
scratch_size_lem = refl

zeros_length : length (replicate {A = ℕ} scratch_size 0) ≡ scratch_size
zeros_length = length-replicate scratch_size 0

-- Zeros where the first numbers were, as many as there were.
pub cleared_by : (scratch : List ℕ) {zeros : List ℕ} → scratch_size ≤ length scratch → zeros ≡ replicate (length (take 16384 scratch)) 0 → zeros ++ drop 16384 scratch ≡ cleared scratch
unfolding cleared
cleared_by scratch l e = rw (e, length-take-le 16384 scratch (omega (arith, scratch_size_lem)), scratch_size_lem) refl

-- Zeros in front, and what lies past them.
pub cleared_zero : (scratch : List ℕ) (i : ℕ) → i < scratch_size → get_or (cleared scratch) i 0 ≡ 0
unfolding cleared
cleared_zero scratch i l =
    get_or-append (replicate scratch_size 0) (drop scratch_size scratch) 0 i (omega (arith, zeros_length)) ∙ zero_row scratch_size i

pub cleared_rest : (scratch : List ℕ) → drop scratch_size (cleared scratch) ≡ drop scratch_size scratch
unfolding cleared
cleared_rest scratch = drop_at (replicate scratch_size 0) (drop scratch_size scratch) scratch_size zeros_length

-- What is kept from a place on.
pub kept_none : (place : ℕ) (s : List ℕ) → KeptFrom place s s
kept_none place s = record { long = refl; rest = λ i l. refl }

pub kept_then : {p : ℕ} {a b c : List ℕ} → KeptFrom p a b → KeptFrom p b c → KeptFrom p a c
kept_then f g = record { long = g.long ∙ f.long; rest = λ i l. g.rest i l ∙ f.rest i l }

pub kept_more : {p q : ℕ} {a b : List ℕ} → p ≤ q → KeptFrom p a b → KeptFrom q a b
kept_more l h = record { long = h.long; rest = λ i m. h.rest i (omega arith) }

pub kept_drop : {p q : ℕ} {a b : List ℕ} → KeptFrom p a b → p ≤ q → drop q b ≡ drop q a
kept_drop {q = q} {a} {b} h l = ext_get_or 0 (drop q b) (drop q a) (simp length-drop (omega (arith, h.long))) (λ i m. simp get_or-drop (h.rest (q + i) (omega arith)))

pub kept_cleared : {p : ℕ} {a b : List ℕ} → KeptFrom p a b → p ≤ scratch_size → cleared b ≡ cleared a
unfolding cleared
kept_cleared h l = ap (λ (x : List ℕ). replicate scratch_size 0 ++ x) (kept_drop h l)
