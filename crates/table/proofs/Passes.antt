-- What the tests say as facts: bytes that no number refuses.
use Prim.Native.Nat.{ℕ, ◌+◌, ◌*◌, ◌-◌, ◌<◌, ◌≤◌}
use native.Mathlib.Omega.{arith}
use mathlib.Core.Bool.{Bool, true, false}
use mathlib.Core.Path.{◌≡◌, refl}
use mathlib.Core.List.{List}
use lib.ListN.{length}
use lib.Dec.{eqb, ltb}
use borrow.Author.Tests.{ltb-true, ltb-false, leb-true, eqb-true, eqb-false, lt-ltb, le-leb, eq-eqb}
use Rattle.table.specs.Bytes.{quad, all?}
use Rattle.table.specs.Layout.{length_field, version_field, states_field, letters_field, marks_field, moves_field, kinds_place, states_place, moves_place, after_length, most_states, most_letters, most_marks, most_moves}
use Rattle.table.specs.Refusals.{kind_byte, state_byte, place_of_move, move_from, move_letter, move_mark, move_to, whole?, version?, small?, sized?, capped?, lists?, mark_bound, in_range?, rises?, moves?, rung, head_rungs, verdict}
use Rattle.table.proofs.All.{both, and_true, all_elim, all_intro}

pub record InRange (s : List ℕ) (k : ℕ) : Type 0 where
  pub from : move_from s k < states_field s
  pub letter : move_letter s k < letters_field s
  pub plain : kind_byte s (move_letter s k) ≡ 0 → move_mark s k ≡ 0
  pub marked : (kind_byte s (move_letter s k) ≡ 0 → ⊥) → move_mark s k < marks_field s
  pub to : move_to s k < states_field s

pub record Passes (s : List ℕ) : Type 0 where
  pub long : 8 ≤ length s
  pub whole : length s ≡ length_field s + 2
  pub version : version_field s ≡ 1
  pub states : states_field s ≤ most_states
  pub letters : letters_field s ≤ most_letters
  pub marks : marks_field s ≤ most_marks
  pub moves : moves_field s ≤ most_moves
  pub size : length_field s ≡ after_length (states_field s) (letters_field s) (moves_field s)
  pub kinds : (a : ℕ) → a < letters_field s → kind_byte s a ≤ 2
  pub state_bytes : (p : ℕ) → p < states_field s → state_byte s p ≤ 3
  pub in_range : (k : ℕ) → k < moves_field s → InRange s k
  pub rising : (k : ℕ) → k + 1 < moves_field s → quad s (place_of_move s k) < quad s (place_of_move s k + 4)

-- A mark's bound, by what the letter is.
pub data Bound (s : List ℕ) (a : ℕ) : Type 0 where
  no_letter : letters_field s ≤ a → mark_bound s a ≡ 0 → Bound s a
  plain_letter : a < letters_field s → kind_byte s a ≡ 0 → mark_bound s a ≡ 1 → Bound s a
  marked_letter : a < letters_field s → (kind_byte s a ≡ 0 → ⊥) → mark_bound s a ≡ marks_field s → Bound s a

pub bound : (s : List ℕ) (a : ℕ) → Bound s a
unfolding mark_bound
bound s a = by (ltb a (letters_field s)) refl (eqb (kind_byte s a) 0) refl where
  by : (b : Bool) → ltb a (letters_field s) ≡ b → (c : Bool) → eqb (kind_byte s a) 0 ≡ c → Bound s a
  by false e c f = no_letter (ltb-false _ _ e) (rw e)
  by true e true f = plain_letter (ltb-true _ _ e) (eqb-true _ _ f) (rw (e, f))
  by true e false f = marked_letter (ltb-true _ _ e) (eqb-false _ _ f) (rw (e, f))

-- What each test says where it holds. The way back is in `verdict_of_passes`, but for the one test that is not plain.
module _ (s : List ℕ) where
  pub whole_facts : whole? s ≡ true → (8 ≤ length s) × (length s ≡ length_field s + 2)
  unfolding whole?
  whole_facts e = let h = both _ _ e in (leb-true _ _ h.0, eqb-true _ _ h.1)

  pub version_facts : version? s ≡ true → version_field s ≡ 1
  unfolding version?
  version_facts e = eqb-true _ _ e

  pub small_facts :
      small? s ≡ true
      → (states_field s ≤ most_states) × (letters_field s ≤ most_letters) × (marks_field s ≤ most_marks) × (moves_field s ≤ most_moves)
  unfolding small?
  small_facts e =
      let h = both _ _ e in
      let g = both _ _ h.0 in
      let f = both _ _ g.0 in
      (leb-true _ _ f.0, leb-true _ _ f.1, leb-true _ _ g.1, leb-true _ _ h.1)

  pub sized_facts : sized? s ≡ true → length_field s ≡ after_length (states_field s) (letters_field s) (moves_field s)
  unfolding sized?
  sized_facts e = eqb-true _ _ e

  pub lists_facts :
      lists? s ≡ true → ((a : ℕ) → a < letters_field s → kind_byte s a ≤ 2) × ((p : ℕ) → p < states_field s → state_byte s p ≤ 3)
  unfolding lists? capped?
  lists_facts e =
      let h = both _ _ e in (
        λ a l. leb-true _ _ (all_elim (capped? s kinds_place 2) _ h.0 a l),
        λ p l. leb-true _ _ (all_elim (capped? s (states_place s) 3) _ h.1 p l),
      )

  pub in_range_facts : (k : ℕ) → in_range? s k ≡ true → InRange s k
  unfolding in_range?
  in_range_facts k e =
      let h = both _ _ e in
      let g = both _ _ h.0 in
      by (ltb-true _ _ g.0) (ltb-true _ _ h.1) (ltb-true _ _ g.1) (bound s (move_letter s k)) where
        by : move_from s k < states_field s → move_to s k < states_field s
            → move_mark s k < mark_bound s (move_letter s k) → Bound s (move_letter s k) → InRange s k
        by f t m (no_letter l b) = absurd (omega arith)
        by f t m (plain_letter l z b) = record { from = f; letter = l; plain = λ _. omega arith; marked = λ n. absurd (n z); to = t }
        by f t m (marked_letter l n b) = record { from = f; letter = l; plain = λ z. absurd (n z); marked = λ _. omega arith; to = t }

  pub in_range_test : (k : ℕ) → InRange s k → in_range? s k ≡ true
  unfolding in_range?
  in_range_test k r = and_true (and_true (lt-ltb _ _ r.from) (lt-ltb _ _ (by (bound s (move_letter s k))))) (lt-ltb _ _ r.to) where
    by : Bound s (move_letter s k) → move_mark s k < mark_bound s (move_letter s k)
    by (no_letter l b) = absurd (omega (arith, r.letter))
    by (plain_letter l z b) = omega (arith, r.plain z)
    by (marked_letter l n b) = omega (arith, r.marked n)

  pub moves_facts :
      moves? s ≡ true
      → ((k : ℕ) → k < moves_field s → InRange s k) × ((k : ℕ) → k + 1 < moves_field s → quad s (place_of_move s k) < quad s (place_of_move s k + 4))
  unfolding moves? rises?
  moves_facts e =
      let h = both (all? (in_range? s) (moves_field s)) (all? (rises? s) (moves_field s - 1)) e in (
        λ k l. in_range_facts k (all_elim (in_range? s) _ h.0 k l),
        λ k l. ltb-true _ _ (all_elim (rises? s) (moves_field s - 1) h.1 k (omega arith)),
      )

-- A rung that gives 0: its test holds, and the rest gives 0.
passed : (ok : Bool) {k rest : ℕ} → 0 < k → rung ok k rest ≡ 0 → (ok ≡ true) × (rest ≡ 0)
passed true l e = (refl, e)
passed false l e = absurd (omega arith)

-- The head's rungs give 0: their tests hold, and the rest gives 0.
pub head_passed : (s : List ℕ) (rest : ℕ) → head_rungs s rest ≡ 0
    → (whole? s ≡ true) × (version? s ≡ true) × (small? s ≡ true) × (sized? s ≡ true) × (rest ≡ 0)
unfolding head_rungs
head_passed s rest e =
    let h1 = passed (whole? s) (omega arith) e in
    let h2 = passed (version? s) (omega arith) h1.1 in
    let h3 = passed (small? s) (omega arith) h2.1 in
    let h4 = passed (sized? s) (omega arith) h3.1 in
    (h1.0, h2.0, h3.0, h4.0, h4.1)

pub passes : (s : List ℕ) → verdict s ≡ 0 → Passes s
unfolding verdict
passes s e =
    let h = head_passed s _ e in
    let h5 = passed (lists? s) (omega arith) h.4 in
    let h6 = passed (moves? s) (omega arith) h5.1 in
    let w = whole_facts s h.0 in
    let c = small_facts s h.2 in
    let l = lists_facts s h5.0 in
    let m = moves_facts s h6.0 in
    record {
      long = w.0;
      whole = w.1;
      version = version_facts s h.1;
      states = c.0;
      letters = c.1;
      marks = c.2;
      moves = c.3;
      size = sized_facts s h.3;
      kinds = l.0;
      state_bytes = l.1;
      in_range = m.0;
      rising = m.1;
    }

pub verdict_of_passes : {s : List ℕ} → Passes s → verdict s ≡ 0
unfolding head_rungs verdict whole? version? small? sized? lists? capped? moves? rises?
verdict_of_passes {s} h =
    let w : whole? s ≡ true = and_true (le-leb _ _ h.long) (eq-eqb _ _ h.whole) in
    let v : version? s ≡ true = eq-eqb _ _ h.version in
    let nm = and_true (le-leb _ _ h.states) (le-leb _ _ h.letters) in
    let c : small? s ≡ true = and_true (and_true nm (le-leb _ _ h.marks)) (le-leb _ _ h.moves) in
    let z : sized? s ≡ true = eq-eqb _ _ h.size in
    let l : lists? s ≡ true = and_true (all_intro _ _ (λ a i. le-leb _ _ (h.kinds a i))) (all_intro _ _ (λ p i. le-leb _ _ (h.state_bytes p i))) in
    let r = all_intro (in_range? s) _ (λ k i. in_range_test s k (h.in_range k i)) in
    let m : moves? s ≡ true = and_true r (all_intro _ _ (λ k i. lt-ltb _ _ (h.rising k (omega arith)))) in
    rw (w, v, c, z, l, m)

-- Bytes that pass end with the last move.
pub pass_size : {s : List ℕ} → Passes s → length s ≡ moves_place s + 4 * moves_field s
pass_size h = omega arith
