-- The loops that write a table's bytes, and what a trimmed state's byte is.
use Prim.Native.Nat.{ℕ, ◌+◌, ◌*◌, ◌-◌, ◌<◌, ◌≤◌}
use mathlib.Core.Bool.{Bool, true, false, ◌&&◌}
use mathlib.Core.List.{List}
use mathlib.Core.Path.{◌≡◌, refl, sym, ap, subst, ◌∙◌}
use native.Mathlib.Decide.{ℕ_discrete}
use native.Mathlib.Omega.{arith}
use lib.Dec.{T, eqb}
use mir.Val.{bool_byte}
use lib.ListN.{length, get_or, set, take, drop, length-take, length-drop, length-append}
use lib.Seq.{get_or-take, ext_get_or, get_or-set_same, get_or-set_other}
use Rattle.vpa.specs.PairsComputed.{initial_to_final?}
use Rattle.vpa.specs.TableOnDisk.{Entry, Table, state_count, letter_count, initial?, final?}
use Rattle.vpa.specs.TrimComputed.{no_trio, state_byte, trim_byte, trim_from, trim_table, trim_states}
use Rattle.vpa.proofs.Lists.{get_map}
use Rattle.vpa.proofs.TrimmedMoves.{trimmed_kinds}
use Rattle.vpa.proofs.TrimmedTable.{trimmed_states}
use Rattle.table.specs.Layout.{letters_field, move_bytes, parse, unparse}
use Rattle.table.specs.Refusals.{verdict}
use Rattle.table.proofs.Entries.{length_moves}
use Rattle.table.proofs.Parsing.{moves_bytes}
use Rattle.table.proofs.Tables.{good_letters}
use Rattle.trim.specs.Calls.{within?}
use Rattle.triples.specs.declared.Trios.{Trios}
use Rattle.triples.specs.Listing.{Laid}
use Rattle.triples.specs.Steps.{Columns}
use Rattle.trim.specs.Steps.{head_bytes, ListedIn}
use Rattle.trim.proofs.CallLaws.{within_yes, trimmed_storable}
use Rattle.triples.proofs.Laying.{laid_then}

-- The part of a list that is written.
pub part_count : (place count : ℕ) (s : List ℕ) → place + count ≤ length s → length (take (place + count - place) (drop place s)) ≡ count
part_count place count s l = omega (arith, length-take (place + count - place) (drop place s), length-drop place s)

-- One more number of a list is the other list's.
pub one_more : (xs ys : List ℕ) {i v : ℕ} → ((k : ℕ) → k < i → get_or xs k 0 ≡ get_or ys k 0) → i < length xs → v ≡ get_or ys i 0
    → (k : ℕ) → k < i + 1 → get_or (set xs i v) k 0 ≡ get_or ys k 0
one_more xs ys {i} {v} same l e k m = by (ℕ_discrete k i) where
  by : Dec (k ≡ i) → get_or (set xs i v) k 0 ≡ get_or ys k 0
  by (yes q) = rw q (get_or-set_same xs i v 0 l ∙ e)
  by (no q) = get_or-set_other xs i k v 0 q ∙ same k (omega arith)

-- A trimmed state's byte is the sum of its two bits, which are 0 where the level is not from an initial to a final state.
bits : (i f : Bool) → state_byte i f ≡ bool_byte i + 2 * bool_byte f
unfolding state_byte
bits true true = refl
bits true false = refl
bits false true = refl
bits false false = refl

with_true : (b : Bool) → (b && true) ≡ b
with_true true = refl
with_true false = refl

with_false : (b : Bool) → (b && false) ≡ false
with_false true = refl
with_false false = refl

pub byte_atop : (t : Table) (o q p : ℕ) {a b : Bool} {x y : ℕ} → initial? t o ≡ a → final? t q ≡ b → (a && b) ≡ true → x ≡ bool_byte (eqb p o) → y ≡ bool_byte (eqb p q)
    → trim_byte t (o, q, p) ≡ x + 2 * y
unfolding trim_byte initial_to_final?
byte_atop t o q p i f atop e g = rw (i, f, atop, with_true (eqb p o), with_true (eqb p q), e, g) (bits (eqb p o) (eqb p q))

pub byte_inside : (t : Table) (o q p : ℕ) {a b : Bool} → initial? t o ≡ a → final? t q ≡ b → (a && b) ≡ false → trim_byte t (o, q, p) ≡ 0
unfolding trim_byte initial_to_final? state_byte
byte_inside t o q p i f inside = rw (i, f, inside, with_false (eqb p o), with_false (eqb p q))

-- The byte of state number i, by the columns of the states; there are as many bytes as states.
module _ (t : Table) {r : Trios} (h : Columns (trim_states t) r) where
  pub bytes_count : length (trim_table t).state_bytes ≡ r.count
  bytes_count = trimmed_states t ∙ sym h.count

  pub byte_of : {i : ℕ} → i < r.count → get_or (trim_table t).state_bytes i 0 ≡ trim_byte t (get_or r.first i 0, get_or r.second i 0, get_or r.third i 0)
  unfolding trim_table trim_from
  byte_of {i} l =
      get_map (trim_byte t) no_trio (trim_states t) i (omega (arith, h.count))
      ∙ (λ j. trim_byte t (sym (h.first i l) j, sym (h.second i l) j, sym (h.third i l) j))

-- A table's parts, laid down one after the other, are its bytes.
pub unparse_laid : (t : Table) {a b c d e : List ℕ} → Laid 0 (head_bytes (state_count t) (letter_count t) t.mark_count (length t.moves)) a b → Laid 8 t.kinds b c → Laid (8 + letter_count t) t.state_bytes c d
    → Laid (8 + letter_count t + state_count t) (move_bytes t.moves) d e → Laid 0 (unparse t) a e
unfolding unparse
unparse_laid t f g h k = laid_then (laid_then (laid_then f refl g) (omega arith) h) (omega (arith, length-append t.kinds t.state_bytes)) k

-- What was listed are the bytes of the moves.
pub listed_bytes : {scratch : List ℕ} {count : ℕ} (es : List Entry) → ListedIn scratch count es → take (4 * count) scratch ≡ move_bytes es
listed_bytes {scratch} {count} es h =
    ext_get_or 0 (take (4 * count) scratch) (move_bytes es) (omega (arith, length-take (4 * count) scratch, length_moves es, h.all))
    (λ i l. let low : i < 4 * count = omega (arith, length-take (4 * count) scratch) in get_or-take (4 * count) scratch i 0 low ∙ h.at i low)

-- A trimmed table within the limits can be on disk, and so its moves are bytes.
module _ (s : List ℕ) (good : verdict s ≡ 0) {states : Trios} {moves : ℕ} {scratch : List ℕ}
    (columns : Columns (trim_states (parse s)) states) (marks : (trim_table (parse s)).mark_count ≤ 64) (listed : ListedIn scratch moves (trim_table (parse s)).moves) where
  pub trimmed_within : within? (trim_table (parse s)) ≡ true
  trimmed_within = within_yes (trim_table (parse s)) (omega (arith, trimmed_states (parse s), columns.count, columns.most)) marks (omega (arith, listed.all, listed.most))

  pub listed_low : (i : ℕ) → i < 4 * moves → get_or scratch i 0 < 256
  listed_low i l =
      let storable = trimmed_storable s good (subst T (sym trimmed_within) tt) in
      omega (arith, listed.at i l, moves_bytes storable i)

  -- The four parts of its bytes.
  pub table_laid : {letters marks : ℕ} {head a b c d e : List ℕ} → letters ≡ letter_count (parse s) → marks ≡ (trim_table (parse s)).mark_count
      → head ≡ head_bytes states.count letters marks moves → Laid 0 head a b → Laid 8 (take (8 + letters - 8) (drop 8 s)) b c
      → Laid (8 + letters) (trim_table (parse s)).state_bytes c d → Laid (8 + letters + states.count) (take (4 * moves) scratch) d e → Laid 0 (unparse (trim_table (parse s))) a e
  unfolding parse
  table_laid {letters} {marks} {head} {a} {b} {c} {d} {e} m g h first second third fourth =
      let t = trim_table (parse s) in
      let n : states.count ≡ state_count t = sym (bytes_count (parse s) columns) in
      let l : letters ≡ letter_count t = m ∙ sym (ap length (trimmed_kinds (parse s))) in
      let fields : 8 + letters - 8 ≡ letters_field s = omega (arith, m, good_letters s good) in
      let kinds : take (8 + letters - 8) (drop 8 s) ≡ t.kinds = ap (λ (x : ℕ). take x (drop 8 s)) fields ∙ sym (trimmed_kinds (parse s)) in
      unparse_laid t (subst (λ x. Laid 0 x a b) (h ∙ (λ i. head_bytes (n i) (l i) (g i) (listed.all i))) first)
      (subst (λ x. Laid 8 x b c) kinds second)
      (subst (λ x. Laid (8 + x) t.state_bytes c d) l third)
      (subst (λ x. Laid (8 + x + state_count t) (move_bytes t.moves) d e) l
      (subst (λ x. Laid (8 + letters + x) (move_bytes t.moves) d e) n
      (subst (λ x. Laid (8 + letters + states.count) x d e) (listed_bytes t.moves listed) fourth)))
