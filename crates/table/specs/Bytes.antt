-- Document 01, "The table on disk": bytes by their places, numbers in them, strings of them; and tests over places.
use Rattle.std.specs.Prelude.{ℕ, zero, suc, ◌+◌, ◌*◌, ◌/◌, ◌%◌, ◌<◌, Bool, true, ◌&&◌, List, [], ◌∷◌, get_or, take, drop}

-- The byte at place i, and 0 past the end.
abbrev pub byte : List ℕ → ℕ → ℕ
byte s i = get_or s i 0

-- The number in the two bytes at i, the more significant byte first.
abbrev pub word : List ℕ → ℕ → ℕ
word s i = byte s i * 256 + byte s (i + 1)

-- A number as two bytes.
abbrev pub word_bytes : ℕ → List ℕ
word_bytes x = x / 256 ∷ x % 256 ∷ []

-- The number in the four bytes at i.
abbrev pub quad : List ℕ → ℕ → ℕ
quad s i = word s i * 65536 + word s (i + 2)

-- count bytes from a place on, or as many as there are.
abbrev pub part : List ℕ → ℕ → ℕ → List ℕ
part s place count = take count (drop place s)

-- All are bytes, as the elements of a slice of bytes are.
abbrev pub AreBytes : List ℕ → Type 0
AreBytes s = (i : ℕ) → byte s i < 256

-- Strings of one length in order: at the first place where they differ the earlier one has the lower byte.
pub data StringBefore : List ℕ → List ℕ → Type 0 where
  lower : {a b : ℕ} {u v : List ℕ} → a < b → StringBefore (a ∷ u) (b ∷ v)
  alike : {a : ℕ} {u v : List ℕ} → StringBefore u v → StringBefore (a ∷ u) (a ∷ v)

-- Each number below n passes the test.
unfoldable pub all? : (ℕ → Bool) → ℕ → Bool
all? f zero = true
all? f (suc n) = all? f n && f n
