-- What owning a `[u64; 64]` tells: it has 64 rows, each below 2 ^ 64.
use Prim.Native.Nat.{ℕ, zero, suc, ◌^◌, ◌<◌}
use mathlib.Core.List.{List, [], ◌∷◌}
use lib.Dec.{lit<}
use lib.ListN.{get_or}
use mir.Syntax.{w64}
use mir.Val.{Val}
use denote.Plain.{UInt}
use denote.Array.{Array, each}
use denote.Laws.{Is}
use denote.Shadow.{shadow}
use Rattle.relation.specs.Relations.{IsRelation}

each_fits : (xs : List ℕ) (us : List Val) → shadow (each ℕ (UInt w64).own_val xs us) → (j : ℕ) → get_or xs j 0 < 2 ^ 64
each_fits [] [] s j = lit< tt
each_fits [] (u ∷ us) s j = absurd s
each_fits (x ∷ xs) [] s j = absurd s
each_fits (x ∷ xs) (u ∷ us) s zero = s.0.1
each_fits (x ∷ xs) (u ∷ us) s (suc j) = each_fits xs us s.1 j

pub owned : (xs : List ℕ) (us : List Val) → Is (Array (UInt w64) 64) xs us → IsRelation xs
owned xs us p = record { rows = p.1.0.1; fits = each_fits xs p.0 p.1.1 }
