-- The tests tell the reasons, so the ladder gives the number that document 01 asks for.
use Prim.Native.Nat.{ℕ, ◌+◌, ◌*◌, ◌-◌, ◌<◌, ◌≤◌}
use native.Mathlib.Nat.{not-le_of_lt}
use native.Mathlib.Omega.{arith}
use mathlib.Core.Bool.{Bool, true, false, ◌&&◌}
use mathlib.Core.Path.{◌≡◌, refl}
use mathlib.Core.Logic.{◌↔◌}
use mathlib.Core.List.{List, ◌∷◌}
use lib.ListN.{length}
use borrow.Author.Tests.{ltb-false, leb-false, eqb-false}
use Rattle.table.specs.Bytes.{quad, AreBytes, StringBefore, all?}
use Rattle.table.specs.Layout.{states_field, letters_field, moves_field, kinds_place, states_place, moves_place}
use Rattle.table.specs.Refusals.{place_of_move, move_string, move_letter, move_mark, Reason, too_short, other_length, other_version, many_states, many_letters, many_marks, many_moves, other_size, kind_past, state_byte_past, from_past, letter_past, to_past, mark_past, plain_mark, not_rising, order, Given, given_none, given_here, given_later, whole?, version?, small?, sized?, capped?, lists?, mark_bound, in_range?, rises?, moves?, rung, head_rungs, verdict}
use Rattle.table.proofs.All.{all_fails}
use Rattle.table.proofs.Order.{strings_as_numbers}
use Rattle.table.proofs.Passes.{Bound, no_letter, plain_letter, marked_letter, bound, whole_facts, version_facts, small_facts, sized_facts, lists_facts, moves_facts}

-- A test tells a number's reasons: there is none where it holds, and one where it fails.
pub record Tells (ok : Bool) (s : List ℕ) (k : ℕ) : Type 0 where
  pub none_if_true : ok ≡ true → Reason s k → ⊥
  pub one_if_false : ok ≡ false → Reason s k

-- Of two tests that do not both hold one fails.
split : {R : Type 0} (a b : Bool) → (a ≡ false → R) → (b ≡ false → R) → a && b ≡ false → R
split true b f g e = g e
split false b f g e = f refl

module _ (s : List ℕ) where
  pub whole_tells : Tells (whole? s) s 1
  unfolding whole?
  whole_tells = record { none_if_true = none; one_if_false = split _ _ (λ e. too_short (leb-false _ _ e)) (λ e. other_length (eqb-false _ _ e)) } where
    none : whole? s ≡ true → Reason s 1 → ⊥
    none e (too_short l) = omega (arith, whole_facts s e)
    none e (other_length n) = n (whole_facts s e).1

  pub version_tells : Tells (version? s) s 2
  unfolding version?
  version_tells = record { none_if_true = none; one_if_false = λ e. other_version (eqb-false _ _ e) } where
    none : version? s ≡ true → Reason s 2 → ⊥
    none e (other_version n) = n (version_facts s e)

  pub small_tells : Tells (small? s) s 3
  unfolding small?
  small_tells = record { none_if_true = none; one_if_false = one } where
    none : small? s ≡ true → Reason s 3 → ⊥
    none e (many_states l) = omega (arith, small_facts s e)
    none e (many_letters l) = omega (arith, small_facts s e)
    none e (many_marks l) = omega (arith, small_facts s e)
    none e (many_moves l) = omega (arith, small_facts s e)

    one : small? s ≡ false → Reason s 3
    one =
        split _ _
        (split _ _ (split _ _ (λ e. many_states (leb-false _ _ e)) (λ e. many_letters (leb-false _ _ e))) (λ e. many_marks (leb-false _ _ e)))
        (λ e. many_moves (leb-false _ _ e))

  pub sized_tells : Tells (sized? s) s 4
  unfolding sized?
  sized_tells = record { none_if_true = none; one_if_false = λ e. other_size (eqb-false _ _ e) } where
    none : sized? s ≡ true → Reason s 4 → ⊥
    none e (other_size n) = n (sized_facts s e)

  pub lists_tells : Tells (lists? s) s 5
  unfolding lists? capped?
  lists_tells = record { none_if_true = none; one_if_false = split _ _ kinds states } where
    kinds : all? (capped? s kinds_place 2) (letters_field s) ≡ false → Reason s 5
    kinds e = let r = all_fails (capped? s kinds_place 2) _ e in kind_past r.0 r.1 (leb-false _ _ r.2)

    states : all? (capped? s (states_place s) 3) (states_field s) ≡ false → Reason s 5
    states e = let r = all_fails (capped? s (states_place s) 3) _ e in state_byte_past r.0 r.1 (leb-false _ _ r.2)

    none : lists? s ≡ true → Reason s 5 → ⊥
    none e (kind_past a l b) = omega (arith, (lists_facts s e).0 a l)
    none e (state_byte_past p l b) = omega (arith, (lists_facts s e).1 p l)

module _ (s : List ℕ) (bytes : AreBytes s) (fits : moves_place s + 4 * moves_field s ≤ length s) where
  pub moves_as_numbers :
      (k : ℕ) → k + 1 < moves_field s
      → StringBefore (move_string s k) (move_string s (k + 1)) ↔ (quad s (place_of_move s k) < quad s (place_of_move s k + 4))
  moves_as_numbers k l =
      let e : place_of_move s (k + 1) ≡ place_of_move s k + 4 = omega arith in
      rw e (strings_as_numbers s bytes (place_of_move s k) (place_of_move s k + 4) (omega arith) (omega arith))

  pub moves_tells : Tells (moves? s) s 6
  unfolding moves? rises? in_range?
  moves_tells = record { none_if_true = none; one_if_false = split (all? (in_range? s) (moves_field s)) _ stray unordered } where
    none : moves? s ≡ true → Reason s 6 → ⊥
    none e (from_past k l b) = omega (arith, ((moves_facts s e).0 k l).from)
    none e (letter_past k l b) = omega (arith, ((moves_facts s e).0 k l).letter)
    none e (to_past k l b) = omega (arith, ((moves_facts s e).0 k l).to)
    none e (mark_past k l a n b) = omega (arith, ((moves_facts s e).0 k l).marked n)
    none e (plain_mark k l a z n) = n (((moves_facts s e).0 k l).plain z)
    none e (not_rising k l n) = n ((moves_as_numbers k l).1 ((moves_facts s e).1 k l))

    marked : (k : ℕ) → k < moves_field s → mark_bound s (move_letter s k) ≤ move_mark s k → Bound s (move_letter s k) → Reason s 6
    marked k l m (no_letter a b) = letter_past k l a
    marked k l m (plain_letter a z b) = plain_mark k l a z (λ o. omega arith)
    marked k l m (marked_letter a n b) = mark_past k l a n (omega arith)

    stray : all? (in_range? s) (moves_field s) ≡ false → Reason s 6
    stray e =
        let r = all_fails (in_range? s) (moves_field s) e in
        split _ _
        (split _ _ (λ f. from_past r.0 r.1 (ltb-false _ _ f)) (λ f. marked r.0 r.1 (ltb-false _ _ f) (bound s (move_letter s r.0))))
        (λ f. to_past r.0 r.1 (ltb-false _ _ f))
        r.2

    unordered : all? (rises? s) (moves_field s - 1) ≡ false → Reason s 6
    unordered e =
        let r = all_fails (rises? s) (moves_field s - 1) e in
        let l : r.0 + 1 < moves_field s = omega arith in
        not_rising r.0 l (λ b. not-le_of_lt ((moves_as_numbers r.0 l).0 b) (ltb-false _ _ r.2))

-- One rung gives its number or what the rest gives, and the rest may count on the rung's test.
given_rung : {s : List ℕ} {k rest : ℕ} {ks : List ℕ} (ok : Bool) → Tells ok s k → (ok ≡ true → Given s ks rest) → Given s (k ∷ ks) (rung ok k rest)
given_rung true t g = given_later (t.none_if_true refl) (g refl)
given_rung false t g = given_here (t.one_if_false refl)

pub verdict_given : (s : List ℕ) → AreBytes s → Given s order (verdict s)
unfolding head_rungs verdict
verdict_given s bytes =
    given_rung (whole? s) (whole_tells s) (λ w.
    given_rung (version? s) (version_tells s) (λ _.
    given_rung (small? s) (small_tells s) (λ _.
    given_rung (sized? s) (sized_tells s) (λ z.
    given_rung (lists? s) (lists_tells s) (λ _.
    given_rung (moves? s) (moves_tells s bytes (omega (arith, whole_facts s w, sized_facts s z))) (λ _.
    given_none))))))

pub given_once : {s : List ℕ} {ks : List ℕ} {j k : ℕ} → Given s ks j → Given s ks k → j ≡ k
given_once given_none given_none = refl
given_once (given_here r) (given_here q) = refl
given_once (given_here r) (given_later n h) = absurd (n r)
given_once (given_later n g) (given_here r) = absurd (n r)
given_once (given_later n g) (given_later m h) = given_once g h
