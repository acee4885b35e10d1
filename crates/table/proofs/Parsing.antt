-- Tables against bytes: `parse` and `unparse` go back and forth between the bytes that pass the tests and the tables that can be on disk.
use Prim.Native.Nat.{ℕ, zero, suc, ◌+◌, ◌*◌, ◌/◌, ◌%◌, ◌<◌, ◌≤◌}
use mathlib.Core.Path.{◌≡◌, refl, sym, ap, ◌∙◌}
use mathlib.Core.List.{List, [], ◌∷◌, ◌++◌, append_assoc, Memᴰ}
use native.Mathlib.Omega.{arith}
use lib.ListN.{length, get_or, drop, length-append, length-drop, take-append-drop}
use lib.Seq.{drop-cons, drop-drop, take_at, drop_at, take_all}
use Rattle.vpa.specs.Automaton.{Kind, plain, opening, closing}
use Rattle.vpa.specs.TableOnDisk.{Entry, entry, Table, state_count, letter_count, kind_numbered, kind_in, EntryBefore, MarkFits}
use Rattle.vpa.proofs.Lists.{get_mem}
use Rattle.table.specs.Bytes.{byte, word_bytes, quad, part, AreBytes}
use Rattle.table.specs.Layout.{states_field, letters_field, marks_field, moves_field, kinds_place, states_place, moves_place, kinds_part, states_part, moves_part, after_length, entries, move_bytes, parse, unparse, most_marks, most_bytes, Storable}
use Rattle.table.specs.Refusals.{kind_byte, place_of_move, move_letter, move_mark}
use Rattle.table.proofs.Entries.{Rising, rising_sorted, sorted_rising, entries_moves, length_moves, moves_entries, length_entries, move_in, part_move, entries_get, quad_number}
use Rattle.table.proofs.Order.{before_trans, Small, number, entries_as_numbers}
use Rattle.table.proofs.Parts.{mem_get, length_part, byte_in_part, part_most, most_part}
use Rattle.table.proofs.Passes.{InRange, Passes, pass_size}

-- A mark, by the number of its letter's kind.
mark_fits : (n γ g : ℕ) → (n ≡ 0 → γ ≡ 0) → ((n ≡ 0 → ⊥) → γ < g) → MarkFits (kind_numbered n) γ g
unfolding kind_numbered
mark_fits zero γ g h k = h refl
mark_fits (suc zero) γ g h k = k (λ e. omega arith)
mark_fits (suc (suc n)) γ g h k = k (λ e. omega arith)

fits_mark : (n γ g : ℕ) → MarkFits (kind_numbered n) γ g → (n ≡ 0 → γ ≡ 0) × ((n ≡ 0 → ⊥) → γ < g)
unfolding kind_numbered
fits_mark zero γ g h = (λ e. h, λ k. absurd (k refl))
fits_mark (suc zero) γ g h = (λ e. omega arith, λ k. h)
fits_mark (suc (suc n)) γ g h = (λ e. omega arith, λ k. h)

mark_small : (k : Kind) {γ g : ℕ} → g ≤ most_marks → MarkFits k γ g → γ < 256
mark_small plain h e = omega arith
mark_small opening h l = omega arith
mark_small closing h l = omega arith

-- The limits keep the numbers of a move small, which is what the order by four bytes asks for.
storable_small : {t : Table} → Storable t → (e : Entry) → Memᴰ e t.moves → Small e
storable_small {t} r e m = record {
  from = omega (arith, r.table.from e m);
  letter = omega (arith, r.table.letter e m);
  mark = mark_small (kind_in t e.letter) r.marks (r.table.mark e m);
  to = omega (arith, r.table.to e m);
}

next_number : (s : List ℕ) (k : ℕ) → quad s (place_of_move s k + 4) ≡ number (move_in s (place_of_move s (suc k)))
next_number s k = let e : place_of_move s k + 4 ≡ place_of_move s (suc k) = omega arith in rw e (quad_number s (place_of_move s (suc k)))

no_move : Entry
no_move = entry 0 0 0 0

-- Of bytes as long as their counts say: what the table that they mean has in it.
module _ (s : List ℕ) (fits : length s ≡ moves_place s + 4 * moves_field s) where
  pub parsed_states : state_count (parse s) ≡ states_field s
  unfolding parse
  parsed_states = length_part s (states_place s) (states_field s) (omega arith)

  pub parsed_letters : letter_count (parse s) ≡ letters_field s
  unfolding parse
  parsed_letters = length_part s kinds_place (letters_field s) (omega arith)

  pub part_length : length (moves_part s) ≡ 4 * moves_field s
  part_length = length_part s (moves_place s) (4 * moves_field s) (omega arith)

  pub parsed_moves : length (parse s).moves ≡ moves_field s
  unfolding parse
  parsed_moves = length_entries (moves_part s) (moves_field s) part_length

  parsed_move : (k : ℕ) → k < moves_field s → get_or (parse s).moves k no_move ≡ move_in s (place_of_move s k)
  unfolding parse
  parsed_move k h =
      entries_get no_move (moves_part s) k (omega (arith, part_length)) ∙ part_move s (moves_place s) (4 * moves_field s) (4 * k) (omega arith)

  parsed_kind : (a : ℕ) → a < letters_field s → kind_in (parse s) a ≡ kind_numbered (kind_byte s a)
  unfolding parse kind_in
  parsed_kind a h = ap kind_numbered (byte_in_part s kinds_place (letters_field s) a h)

  -- If that table can be on disk, the tests of the moves pass.
  module _ (t : Storable (parse s)) where
    in_moves : (k : ℕ) → k < moves_field s → Memᴰ (move_in s (place_of_move s k)) (parse s).moves
    in_moves k h = rw (parsed_move k h) at (get_mem no_move (parse s).moves k (omega (arith, parsed_moves)))

    in_range_lem : (k : ℕ) → k < moves_field s → InRange s k
    unfolding parse
    in_range_lem k h =
        let m = in_moves k h in
        let l : move_letter s k < letters_field s = rw parsed_letters at (t.table.letter _ m) in
        let f = fits_mark (kind_byte s (move_letter s k)) (move_mark s k) (marks_field s) (rw (parsed_kind (move_letter s k) l) at (t.table.mark _ m)) in
        record { from = rw parsed_states at (t.table.from _ m); letter = l; plain = f.0; marked = f.1; to = rw parsed_states at (t.table.to _ m) }

    rises : (k : ℕ) → k + 1 < moves_field s → quad s (place_of_move s k) < quad s (place_of_move s k + 4)
    rises k h =
        let l : suc k < moves_field s = omega arith in
        let small = storable_small t in
        let b = rw (parsed_move k (omega arith), parsed_move (suc k) l) at (sorted_rising no_move EntryBefore t.table.rising k (omega (arith, parsed_moves))) in
        let n = (entries_as_numbers (small _ (in_moves k (omega arith))) (small _ (in_moves (suc k) l))).0 b in
        omega (arith, quad_number s (place_of_move s k), next_number s k)

-- Bytes that pass mean a table that can be on disk.
module _ {s : List ℕ} (p : Passes s) where
  size : length s ≡ moves_place s + 4 * moves_field s
  size = pass_size p

  pub longest : length s ≤ most_bytes
  longest = omega arith

  each_move : (P : Entry → Type 0) → ((k : ℕ) → k < moves_field s → P (move_in s (place_of_move s k)))
      → (e : Entry) → Memᴰ e (parse s).moves → P e
  each_move P h e m =
      let r = mem_get no_move m in
      let l : r.0 < moves_field s = omega (arith, (parsed_moves s size)) in
      rw (r.2, parsed_move s size r.0 l) (h r.0 l)

  marked : (k : ℕ) → k < moves_field s → MarkFits (kind_numbered (kind_byte s (move_letter s k))) (move_mark s k) (marks_field s)
  marked k h = let r = p.in_range k h in mark_fits _ _ _ r.plain r.marked

  small : (k : ℕ) → k < moves_field s → Small (move_in s (place_of_move s k))
  small k h =
      let r = p.in_range k h in
      let m = mark_small (kind_numbered (kind_byte s (move_letter s k))) p.marks (marked k h) in
      record { from = omega arith; letter = omega arith; mark = m; to = omega arith }

  next_before : Rising no_move EntryBefore (parse s).moves
  next_before k h =
      let l : suc k < moves_field s = omega (arith, (parsed_moves s size)) in
      let q = p.rising k (omega arith) in
      rw (parsed_move s size k (omega arith), parsed_move s size (suc k) l)
      ((entries_as_numbers (small k (omega arith)) (small (suc k) l)).1 (omega (arith, quad_number s (place_of_move s k), next_number s k)))

  pub parse_storable : Storable (parse s)
  unfolding parse
  parse_storable = record {
    table = record {
      kinds = part_most s kinds_place (letters_field s) 2 p.kinds;
      state_bytes = part_most s (states_place s) (states_field s) 3 p.state_bytes;
      from = each_move (λ e. e.from < state_count (parse s)) (λ k h. rw (parsed_states s size) (p.in_range k h).from);
      letter = each_move (λ e. e.letter < letter_count (parse s)) (λ k h. rw (parsed_letters s size) (p.in_range k h).letter);
      mark = each_move (λ e. MarkFits (kind_in (parse s) e.letter) e.mark (marks_field s))
          (λ k h. rw (parsed_kind s size (move_letter s k) (p.in_range k h).letter) (marked k h));
      to = each_move (λ e. e.to < state_count (parse s)) (λ k h. rw (parsed_states s size) (p.in_range k h).to);
      rising = rising_sorted no_move EntryBefore before_trans (parse s).moves next_before;
    };
    states = rw (parsed_states s size) p.states;
    letters = rw (parsed_letters s size) p.letters;
    marks = p.marks;
    moves = rw (parsed_moves s size) p.moves;
  }

-- The bytes of a table: their parts, one after the other, are the table's lists.
pub unparse_length : (t : Table) → length (unparse t) ≡ 2 + after_length (state_count t) (letter_count t) (length t.moves)
unfolding unparse
unparse_length t = simp (length-append, length_moves) (omega arith)

next_part : (s u v : List ℕ) (place : ℕ) → drop place s ≡ u ++ v → (part s place (length u) ≡ u) × (drop (place + length u) s ≡ v)
next_part s u v place e = (rw e (take_at u v (length u) refl), sym (drop-drop (length u) place s) ∙ rw e (drop_at u v (length u) refl))

pub parse_unparse : (t : Table) → parse (unparse t) ≡ t
unfolding parse unparse
parse_unparse t =
    let ms = move_bytes t.moves in
    let a = next_part (unparse t) t.kinds (t.state_bytes ++ ms) kinds_place (append_assoc t.kinds t.state_bytes ms) in
    let b = next_part (unparse t) t.state_bytes ms (kinds_place + letter_count t) a.1 in
    let c : moves_part (unparse t) ≡ ms = rw b.1 (take_all (4 * moves_field (unparse t)) ms (omega (arith, length_moves t.moves))) in
    let d : entries (moves_part (unparse t)) ≡ t.moves = rw c (entries_moves t.moves) in
    λ i. record { kinds = a.0 i; state_bytes = b.0 i; mark_count = t.mark_count; moves = d i }

pub unparse_passes : {t : Table} → Storable t → Passes (unparse t)
unfolding parse unparse
unparse_passes {t} r =
    let s = unparse t in
    let l = unparse_length t in
    let q : Storable (parse s) = rw (parse_unparse t) r in
    let fits : length s ≡ moves_place s + 4 * moves_field s = omega arith in
    record {
      long = omega arith;
      whole = omega arith;
      version = refl;
      states = r.states;
      letters = r.letters;
      marks = r.marks;
      moves = omega arith;
      size = omega arith;
      kinds = most_part s kinds_place (letters_field s) 2 (omega arith) q.table.kinds;
      state_bytes = most_part s (states_place s) (states_field s) 3 (omega arith) q.table.state_bytes;
      in_range = in_range_lem s fits q;
      rising = rises s fits q;
    }

-- All of them are bytes, list by list.
data Low : List ℕ → Type 0 where
  low_none : Low []
  low_more : (x : ℕ) {s : List ℕ} → x < 256 → Low s → Low (x ∷ s)

low_bytes : {s : List ℕ} → Low s → AreBytes s
low_bytes low_none i = omega arith
low_bytes (low_more x h r) zero = h
low_bytes (low_more x h r) (suc i) = low_bytes r i

low_append : {s u : List ℕ} → Low s → Low u → Low (s ++ u)
low_append low_none k = k
low_append (low_more x h r) k = low_more x h (low_append r k)

low_capped : (most : ℕ) → most < 256 → (s : List ℕ) → ((x : ℕ) → Memᴰ x s → x ≤ most) → Low s
low_capped most l [] h = low_none
low_capped most l (x ∷ s) h = low_more x (omega (arith, h x (Memᴰ.head refl))) (low_capped most l s (λ y m. h y (Memᴰ.tail m)))

low_word : (x : ℕ) → x < 65536 → Low (word_bytes x)
low_word x h = low_more (x / 256) (omega arith) (low_more (x % 256) (omega arith) low_none)

low_moves : (es : List Entry) → ((e : Entry) → Memᴰ e es → Small e) → Low (move_bytes es)
unfolding move_bytes
low_moves [] h = low_none
low_moves (e ∷ es) h =
    let r = h e (Memᴰ.head refl) in
    low_more e.from r.from (low_more e.letter r.letter (low_more e.mark r.mark (low_more e.to r.to
    (low_moves es (λ d m. h d (Memᴰ.tail m))))))

pub moves_bytes : {t : Table} → Storable t → AreBytes (move_bytes t.moves)
moves_bytes {t} r = low_bytes (low_moves t.moves (storable_small r))

pub unparse_bytes : {t : Table} → Storable t → AreBytes (unparse t)
unfolding unparse
unparse_bytes {t} r =
    let l = low_word (after_length (state_count t) (letter_count t) (length t.moves)) (omega arith) in
    let g = low_more t.mark_count (omega arith) low_none in
    let v = low_more 1 (omega arith) (low_more (state_count t) (omega arith) (low_more (letter_count t) (omega arith) g)) in
    let w = low_word (length t.moves) (omega arith) in
    let k = low_capped 2 (omega arith) t.kinds r.table.kinds in
    let b = low_capped 3 (omega arith) t.state_bytes r.table.state_bytes in
    low_bytes (low_append (low_append (low_append (low_append (low_append l v) w) k) b) (low_moves t.moves (storable_small r)))

-- Bytes that pass are those of the table that they mean: the head, then the three parts.
head_bytes_lem : (s : List ℕ) → 8 ≤ length s → s ≡ byte s 0 ∷ byte s 1 ∷ byte s 2 ∷ byte s 3 ∷ byte s 4 ∷ byte s 5 ∷ byte s 6 ∷ byte s 7 ∷ drop 8 s
head_bytes_lem s l =
    cc (
      at 0 (omega arith),
      at 1 (omega arith),
      at 2 (omega arith),
      at 3 (omega arith),
      at 4 (omega arith),
      at 5 (omega arith),
      at 6 (omega arith),
      at 7 (omega arith),
    )
  where
    at : (i : ℕ) → i < 8 → drop i s ≡ byte s i ∷ drop (suc i) s
    at i h = drop-cons s i 0 (omega arith)

parts_after_head : {s : List ℕ} → Passes s → drop 8 s ≡ kinds_part s ++ states_part s ++ moves_part s
parts_after_head {s} p =
    let m = letters_field s in
    let n = states_field s in
    let l : length (drop (8 + m + n) s) ≤ 4 * moves_field s = rw length-drop (omega arith) in
    rw (append_assoc, take_all (4 * moves_field s) (drop (8 + m + n) s) l, ← drop-drop n (8 + m) s, take-append-drop n, ← drop-drop m 8 s)
    (sym (take-append-drop m (drop 8 s)))

pub unparse_parse : {s : List ℕ} → AreBytes s → Passes s → unparse (parse s) ≡ s
unfolding unparse parse
unparse_parse {s} b p =
    let e : after_length (states_field s) (letters_field s) (moves_field s) / 256 ≡ byte s 0 = omega (arith, b 1) in
    let f : after_length (states_field s) (letters_field s) (moves_field s) % 256 ≡ byte s 1 = omega (arith, b 1) in
    let g : moves_field s / 256 ≡ byte s 6 = omega (arith, b 7) in
    let h : moves_field s % 256 ≡ byte s 7 = omega (arith, b 7) in
    let m = moves_entries (moves_part s) (moves_field s) (part_length s (pass_size p)) in
    rw (parsed_states s (pass_size p), parsed_letters s (pass_size p), parsed_moves s (pass_size p), e, f, g, h, m) (cc (head_bytes_lem s p.long, parts_after_head p, p.version))
