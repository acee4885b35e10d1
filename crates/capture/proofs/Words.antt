-- Words out of bytes, and bytes out of words.
use Prim.Native.Nat.{ℕ, zero, suc, ◌+◌, ◌*◌, ◌/◌, ◌%◌, ◌<◌, ◌≤◌}
use mathlib.Core.List.{List, [], ◌∷◌, ◌++◌, append-nil, append_assoc}
use mathlib.Core.Path.{◌≡◌, refl, sym, ap, ◌∙◌}
use native.Mathlib.Decide.{dec_lt}
use native.Mathlib.Numerals.{add-one}
use native.Mathlib.Omega.{arith}
use lib.ListN.{length, get_or, take, drop, replicate, length-append, length-take, length-drop}
use lib.Seq.{take-suc, take_all, drop-cons, take-add, drop-drop, ext_get_or}
use borrow.Author.Rules.{rules}
use mir.Syntax.{w64}
use borrow.Rule.Slice.PartMut.{put_mid, same_len_mid}
use Rattle.std.specs.Int.{to_le_bytes}
use Rattle.std.proofs.lemmas.List.{places}
use Rattle.table.specs.Bytes.{byte, part, AreBytes}
use Rattle.table.proofs.Parts.{length_part, byte_in_part, byte_past_part}
use Rattle.triples.specs.Listing.{Laid}
use Rattle.triples.proofs.Laying.{laid_none, laid_then, laid_front}
use Rattle.capture.specs.State.{word_at, words_from, bytes_of, bytes_of_words}

-- The words that stand in bytes, by their places.
pub length_words : (bytes : List ℕ) (i n : ℕ) → length (words_from bytes i n) ≡ n
unfolding words_from
length_words bytes i zero = refl
length_words bytes i (suc n) = ap suc (length_words bytes (i + 8) n)

pub word_get : (bytes : List ℕ) (i n k : ℕ) → k < n → get_or (words_from bytes i n) k 0 ≡ word_at bytes (i + 8 * k)
unfolding words_from
word_get bytes i zero k l = absurd (omega arith)
word_get bytes i (suc n) zero l = ap (λ (j : ℕ). word_at bytes j) (omega arith)
word_get bytes i (suc n) (suc k) l = word_get bytes (i + 8) n k (omega arith) ∙ ap (λ (j : ℕ). word_at bytes j) (omega arith)

-- An array of as many, each of them where it belongs.
pub made_words : (bytes : List ℕ) {size : ℕ} {u : List ℕ} → length u ≡ size → ((i : ℕ) → i < size → get_or u i 0 ≡ word_at bytes (8 * i)) → u ≡ words_from bytes 0 size
made_words bytes {size} {u} long at = ext_get_or 0 u (words_from bytes 0 size) (long ∙ sym (length_words bytes 0 size)) each where
  each : (i : ℕ) → i < length u → get_or u i 0 ≡ get_or (words_from bytes 0 size) i 0
  each i l = at i (omega (arith, long)) ∙ sym (word_get bytes 0 size i (omega (arith, long)) ∙ ap (λ (j : ℕ). word_at bytes j) (omega arith))

pub length_bytes : (k x : ℕ) → length (bytes_of k x) ≡ k
unfolding bytes_of
length_bytes zero x = refl
length_bytes (suc k) x = ap suc (length_bytes k (x / 256))

-- A word's eight bytes, as the library writes them.
pub eight_bytes : (x : ℕ) → bytes_of 8 x ≡ to_le_bytes w64 x
unfolding bytes_of
eight_bytes x =
    let two : x / 256 / 256 ≡ x / 65536 = omega arith in
    let three : x / 65536 / 256 ≡ x / 16777216 = omega arith in
    let four : x / 16777216 / 256 ≡ x / 4294967296 = omega arith in
    let five : x / 4294967296 / 256 ≡ x / 1099511627776 = omega arith in
    let six : x / 1099511627776 / 256 ≡ x / 281474976710656 = omega arith in
    let seven : x / 281474976710656 / 256 ≡ x / 72057594037927936 = omega arith in
    rw (two, three, four, five, six, seven) refl

-- What is copied into a part of memory is laid down there.
pub laid_copy : {place size : ℕ} {numbers before : List ℕ} → size ≡ length numbers → place + size ≤ length before → Laid place numbers before (put_mid place size before numbers)
laid_copy {place} {size} {numbers} {before} e room = record {
  long = same_len_mid place size before numbers (simp (length-take, length-drop) (omega arith));
  at = λ i l. search (rules, places);
  front = λ i l. search (rules, places);
  rest = λ i l. search (rules, places);
}

-- The bytes of the first n of some words are laid down.
pub record LaidWords (words before : List ℕ) (n : ℕ) (after : List ℕ) : Type 0 where
  pub laid : Laid 0 (bytes_of_words (take n words)) before after
  pub most : n ≤ length words

pub length_bytes_of_words : (words : List ℕ) → length (bytes_of_words words) ≡ 8 * length words
unfolding bytes_of_words
length_bytes_of_words [] = refl
length_bytes_of_words (w ∷ words) = omega (arith, length-append (bytes_of 8 w) (bytes_of_words words), length_bytes 8 w, length_bytes_of_words words)

words_append : (xs ys : List ℕ) → bytes_of_words (xs ++ ys) ≡ bytes_of_words xs ++ bytes_of_words ys
unfolding bytes_of_words
words_append [] ys = refl
words_append (x ∷ xs) ys = ap (λ (y : List ℕ). bytes_of 8 x ++ y) (words_append xs ys) ∙ sym (append_assoc (bytes_of 8 x) (bytes_of_words xs) (bytes_of_words ys))

pub laid_no_word : (words s : List ℕ) → LaidWords words s 0 s
unfolding bytes_of_words
laid_no_word words s = record { laid = laid_none 0 s; most = omega arith }

pub laid_next : {words before : List ℕ} {n : ℕ} {after later : List ℕ} → LaidWords words before n after → n < length words → Laid (8 * n) (bytes_of 8 (get_or words n 0)) after later
    → LaidWords words before (n + 1) later
unfolding bytes_of_words
laid_next {words} {n = n} h l g = record {
  laid =
      let next : bytes_of_words (take (n + 1) words) ≡ bytes_of_words (take n words) ++ bytes_of 8 (get_or words n 0) =
      rw (add-one n, take-suc words n 0 l, words_append (take n words) (get_or words n 0 ∷ []), append-nil (bytes_of 8 (get_or words n 0))) in
      rw next (laid_then h.laid (omega (arith, length_bytes_of_words (take n words), length-take n words)) g);
  most = omega arith;
}

pub laid_words : {words before : List ℕ} {n size : ℕ} {after : List ℕ} → LaidWords words before n after → length words ≡ size → size ≤ n → 8 * size ≤ length before
    → after ≡ bytes_of_words words ++ drop (8 * size) before
laid_words {words} {before} {n} {size} {after} h e l room =
    let long : length (bytes_of_words words) ≡ 8 * size = omega (arith, length_bytes_of_words words) in
    rw long at (laid_front (rw (take_all n words (omega arith)) at h.laid) (omega arith))

-- Bytes that are read as words and written back are the same. First of the eight bytes of one word.
unfoldable sum : List ℕ → ℕ
sum [] = 0
sum (b ∷ bytes) = b + 256 * sum bytes

bytes_of_sum : (bytes : List ℕ) → AreBytes bytes → bytes_of (length bytes) (sum bytes) ≡ bytes
unfolding bytes_of sum
bytes_of_sum [] low = refl
bytes_of_sum (b ∷ bytes) low =
    let first : (b + 256 * sum bytes) % 256 ≡ b = omega (arith, low 0) in
    let others : (b + 256 * sum bytes) / 256 ≡ sum bytes = omega (arith, low 0) in
    rw (first, others) (ap (λ (x : List ℕ). b ∷ x) (bytes_of_sum bytes (λ i. low (suc i))))

cut : (bytes : List ℕ) (i j k : ℕ) → i + j < length bytes → part bytes (i + j) (suc k) ≡ byte bytes (i + j) ∷ part bytes (i + suc j) k
cut bytes i j k l = let next : suc (i + j) ≡ i + suc j = omega arith in rw (drop-cons bytes (i + j) 0 l, next)

sum_of_part : (bytes : List ℕ) (i : ℕ) → i + 8 ≤ length bytes → sum (part bytes i 8) ≡ word_at bytes i
unfolding sum
sum_of_part bytes i l =
    let start : i ≡ i + 0 = omega arith in
    let parts : part bytes i 8 ≡ byte bytes (i + 0) ∷ byte bytes (i + 1) ∷ byte bytes (i + 2) ∷ byte bytes (i + 3) ∷ byte bytes (i + 4) ∷ byte bytes (i + 5) ∷ byte bytes (i + 6) ∷ byte bytes (i + 7) ∷ [] =
    ap (λ (p : ℕ). part bytes p 8) start
    ∙ rw (
      cut bytes i 0 7 (omega arith),
      cut bytes i 1 6 (omega arith),
      cut bytes i 2 5 (omega arith),
      cut bytes i 3 4 (omega arith),
      cut bytes i 4 3 (omega arith),
      cut bytes i 5 2 (omega arith),
      cut bytes i 6 1 (omega arith),
      cut bytes i 7 0 (omega arith),
    ) in
    rw parts (omega (arith, ap (byte bytes) start))

part_low : (bytes : List ℕ) (i k : ℕ) → AreBytes bytes → AreBytes (part bytes i k)
part_low bytes i k low j = by (dec_lt j k) where
  by : Dec (j < k) → byte (part bytes i k) j < 256
  by (yes l) = rw (byte_in_part bytes i k j l) (low (i + j))
  by (no l) = rw (byte_past_part bytes i k j (omega arith)) (omega arith)

word_back : (bytes : List ℕ) (i : ℕ) → AreBytes bytes → i + 8 ≤ length bytes → bytes_of 8 (word_at bytes i) ≡ part bytes i 8
word_back bytes i low l =
    let long : length (part bytes i 8) ≡ 8 = length_part bytes i 8 l in
    rw (sum_of_part bytes i l, long) at (bytes_of_sum (part bytes i 8) (part_low bytes i 8 low))

-- Then of all.
pub words_back : (bytes : List ℕ) (i n : ℕ) → AreBytes bytes → i + 8 * n ≤ length bytes → bytes_of_words (words_from bytes i n) ≡ part bytes i (8 * n)
unfolding bytes_of_words words_from
words_back bytes i zero low l = refl
words_back bytes i (suc n) low l =
    let more : 8 * suc n ≡ 8 + 8 * n = omega arith in
    rw (more, word_back bytes i low (omega arith), words_back bytes (i + 8) n low (omega arith), take-add 8 (8 * n) (drop i bytes), drop-drop 8 i bytes)

-- The bytes of zeros are zeros.
pub zeros_bytes : (n : ℕ) → bytes_of_words (replicate n 0) ≡ replicate (8 * n) 0
unfolding bytes_of_words bytes_of
zeros_bytes zero = refl
zeros_bytes (suc n) = let more : 8 * suc n ≡ suc (suc (suc (suc (suc (suc (suc (suc (8 * n)))))))) = omega arith in rw (more, zeros_bytes n)
