-- The order of moves: as strings of four bytes, as entries, and by the numbers in the four bytes. Of bytes the three are the same.
use Prim.Native.Nat.{ℕ, suc, ◌+◌, ◌*◌, ◌<◌, ◌≤◌}
use native.Mathlib.Nat.{eq-or-lt_of_le}
use native.Mathlib.Omega.{arith}
use mathlib.Core.List.{List, [], ◌∷◌}
use mathlib.Core.Logic.{◌↔◌, ◌⊎◌, inl, inr, ⊎_elim}
use mathlib.Core.Path.{◌≡◌, refl}
use lib.ListN.{length, drop}
use lib.Seq.{drop-cons}
use Rattle.vpa.specs.TableOnDisk.{Entry, entry, EntryBefore}
use Rattle.table.specs.Bytes.{byte, quad, part, AreBytes, StringBefore, lower, alike}
use Rattle.table.specs.Layout.{move_bytes}

-- As strings and as entries.
entry_of_string : {a b c d a' b' c' d' : ℕ}
    → StringBefore (a ∷ b ∷ c ∷ d ∷ []) (a' ∷ b' ∷ c' ∷ d' ∷ []) → EntryBefore (entry a b c d) (entry a' b' c' d')
entry_of_string (lower l) = inl l
entry_of_string (alike (lower l)) = inr (refl, inl l)
entry_of_string (alike (alike (lower l))) = inr (refl, inr (refl, inl l))
entry_of_string (alike (alike (alike (lower l)))) = inr (refl, inr (refl, inr (refl, l)))
entry_of_string (alike (alike (alike (alike b)))) = elim b [ ]

string_of_entry : {a b c d a' b' c' d' : ℕ}
    → EntryBefore (entry a b c d) (entry a' b' c' d') → StringBefore (a ∷ b ∷ c ∷ d ∷ []) (a' ∷ b' ∷ c' ∷ d' ∷ [])
string_of_entry (inl l) = lower l
string_of_entry (inr (e, inl l)) = rw e (alike (lower l))
string_of_entry (inr (e, inr (f, inl l))) = rw (e, f) (alike (alike (lower l)))
string_of_entry (inr (e, inr (f, inr (g, l)))) = rw (e, f, g) (alike (alike (alike (lower l))))

pub entries_as_strings : (d e : Entry) → EntryBefore d e ↔ StringBefore (move_bytes (d ∷ [])) (move_bytes (e ∷ []))
unfolding move_bytes
entries_as_strings d e = (string_of_entry, entry_of_string)

before_trans_in : (a b c : ℕ) {P Q S : Type 0} → (P → Q → S) → (a < b) ⊎ ((a ≡ b) × P) → (b < c) ⊎ ((b ≡ c) × Q) → (a < c) ⊎ ((a ≡ c) × S)
before_trans_in a b c f (inl h) (inl k) = inl (omega arith)
before_trans_in a b c f (inl h) (inr k) = inl (omega arith)
before_trans_in a b c f (inr h) (inl k) = inl (omega arith)
before_trans_in a b c f (inr h) (inr k) = inr (omega arith, f h.1 k.1)

pub before_trans : (x y z : Entry) → EntryBefore x y → EntryBefore y z → EntryBefore x z
before_trans x y z = before_trans_in _ _ _ (before_trans_in _ _ _ (before_trans_in _ _ _ (λ (h : x.to < y.to) (k : y.to < z.to). omega arith)))

-- As strings and by numbers.
abbrev four : ℕ → ℕ → ℕ → ℕ → ℕ
four a b c d = (a * 256 + b) * 65536 + (c * 256 + d)

number_of_string : {a b c d a' b' c' d' : ℕ} → b < 256 → c < 256 → d < 256
    → StringBefore (a ∷ b ∷ c ∷ d ∷ []) (a' ∷ b' ∷ c' ∷ d' ∷ []) → four a b c d < four a' b' c' d'
number_of_string lb lc ld (lower l) = omega arith
number_of_string lb lc ld (alike (lower l)) = omega arith
number_of_string lb lc ld (alike (alike (lower l))) = omega arith
number_of_string lb lc ld (alike (alike (alike (lower l)))) = omega arith
number_of_string lb lc ld (alike (alike (alike (alike b)))) = elim b [ ]

-- One byte more in front settles the order, unless it is alike.
front : {a b : ℕ} {u v : List ℕ} → a ≤ b → (a ≡ b → StringBefore u v) → StringBefore (a ∷ u) (b ∷ v)
front {a} {b} l h = ⊎_elim (λ (e : a ≡ b). rw e (alike (h e))) (λ (m : a < b). lower m) (eq-or-lt_of_le l)

string_of_number : {a b c d a' b' c' d' : ℕ} → b' < 256 → c' < 256 → d' < 256
    → four a b c d < four a' b' c' d' → StringBefore (a ∷ b ∷ c ∷ d ∷ []) (a' ∷ b' ∷ c' ∷ d' ∷ [])
string_of_number lb lc ld l =
    front (omega arith) (λ e. front (omega arith) (λ f. front (omega arith) (λ g. front (omega arith) (λ h. absurd (omega arith)))))

part_four : (s : List ℕ) (i : ℕ) → i + 4 ≤ length s → part s i 4 ≡ byte s i ∷ byte s (i + 1) ∷ byte s (i + 2) ∷ byte s (i + 2 + 1) ∷ []
part_four s i l = rw (
  next i (i + 1) (omega arith) (omega arith),
  next (i + 1) (i + 2) (omega arith) (omega arith),
  next (i + 2) (i + 2 + 1) (omega arith) (omega arith),
  next (i + 2 + 1) (i + 4) (omega arith) (omega arith),
) where
  next : (j k : ℕ) → k ≡ suc j → j < length s → drop j s ≡ byte s j ∷ drop k s
  next j k e h = rw (e, drop-cons s j 0)

pub strings_as_numbers : (s : List ℕ) → AreBytes s → (i j : ℕ) → i + 4 ≤ length s → j + 4 ≤ length s
    → StringBefore (part s i 4) (part s j 4) ↔ (quad s i < quad s j)
strings_as_numbers s bytes i j l m =
    rw (part_four s i l, part_four s j m) (number_of_string (bytes _) (bytes _) (bytes _), string_of_number (bytes _) (bytes _) (bytes _))

-- As entries and by numbers.
pub record Small (e : Entry) : Type 0 where
  pub from : e.from < 256
  pub letter : e.letter < 256
  pub mark : e.mark < 256
  pub to : e.to < 256

abbrev pub number : Entry → ℕ
number e = four e.from e.letter e.mark e.to

pub entries_as_numbers : {d e : Entry} → Small d → Small e → EntryBefore d e ↔ (number d < number e)
entries_as_numbers x y = (
  λ b. number_of_string x.letter x.mark x.to (string_of_entry b),
  λ l. entry_of_string (string_of_number y.letter y.mark y.to l),
)
