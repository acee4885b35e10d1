-- Document 01, "Refusal numbers", what it says of scratch, with its number 7: 16-bit numbers that some calls are lent for their work.
use Rattle.std.specs.Prelude.{ℕ, ◌≤◌, List, ◌++◌, ◌≡◌, length, get_or, drop, replicate}
use Rattle.table.specs.Calls.{with_lent}

-- How many numbers such a call must be lent at least.
unfoldable pub scratch_size : ℕ
scratch_size = 16384

-- One thing for bytes that are a table, with enough scratch. Else what is made of the number that refuses.
abbrev pub with_scratch {ℓ} : {X : Type ℓ} → List ℕ → List ℕ → X → (ℕ → X) → X
with_scratch = with_lent scratch_size

-- Scratch that was in use: zeros in front, whatever was there, and what lies past them as it was.
unfoldable pub cleared : List ℕ → List ℕ
cleared scratch = replicate scratch_size 0 ++ drop scratch_size scratch

-- Scratch after a call: numbers 1 to 7 leave it as it was, and it was in use for every other answer.
abbrev pub scratch_after : List ℕ → List ℕ → List ℕ
scratch_after s scratch = with_scratch s scratch (cleared scratch) (λ k. scratch)

-- Memory before and after, scratch or an output: as long, and the same from a place on.
pub record KeptFrom (place : ℕ) (before after : List ℕ) : Type 0 where
  pub long : length after ≡ length before
  pub rest : (i : ℕ) → place ≤ i → get_or after i 0 ≡ get_or before i 0
