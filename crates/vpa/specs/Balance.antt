-- Document 01, "The reader", its last paragraph: the balance of a log, and the lowest that a prefix of it has, for any kinds of letters.
use Rattle.std.specs.Prelude.{ℕ, cond, List, [], ◌∷◌, ◌++◌, ◌≡◌, ℤ, pos, negsuc, ◌+ℤ◌, ◌≤ℤ◌}
use Rattle.std.specs.Int.Signed.{lt_z}
use Rattle.vpa.specs.Automaton.{Kind, plain, opening, closing}
use Rattle.vpa.specs.Lists.{sift}
use Rattle.vpa.specs.TableOnDisk.{is_kind?}

-- What a letter adds: an open 1, a close -1.
unfoldable pub change : Kind → ℤ
change plain = pos 0
change opening = pos 1
change closing = negsuc 0

-- Opens less closes.
unfoldable pub balance : (ℕ → Kind) → List ℕ → ℤ
balance kind [] = pos 0
balance kind (a ∷ w) = change (kind a) +ℤ balance kind w

-- The letters of one kind.
unfoldable pub letters_of : (ℕ → Kind) → Kind → List ℕ → List ℕ
letters_of kind k w = sift (λ a. is_kind? (kind a) k) w

-- z is the lowest that a prefix's balance is: some prefix has it, and none a lower one. The empty log and the log itself are among the prefixes.
pub record IsLowest (kind : ℕ → Kind) (w : List ℕ) (z : ℤ) : Type 0 where
  pub reached : (u : List ℕ) × (v : List ℕ) × (u ++ v ≡ w) × (balance kind u ≡ z)
  pub none_lower : (u v : List ℕ) → u ++ v ≡ w → z ≤ℤ balance kind u

-- The lesser of two numbers.
abbrev pub lesser : ℤ → ℤ → ℤ
lesser x y = cond (lt_z y x) y x

-- The lowest, computed (`lowest_iff`): the lesser of 0, which the empty prefix has, and of the lowest of the rest with what the first letter adds.
unfoldable pub lowest : (ℕ → Kind) → List ℕ → ℤ
lowest kind [] = pos 0
lowest kind (a ∷ w) = lesser (pos 0) (change (kind a) +ℤ lowest kind w)
