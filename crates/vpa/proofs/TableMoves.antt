-- The moves of a table: the test for a move is the move, and its numbers are the table's.
use Prim.Native.Nat.{ℕ, zero, suc, ◌<◌, ◌%◌, ◌/◌}
use native.Mathlib.Omega.{arith}
use mathlib.Core.Path.{◌≡◌, refl, sym, subst}
use mathlib.Core.Bool.{Bool, ◌&&◌}
use mathlib.Core.List.Memᴰ
use mathlib.Core.List.{List, [], ◌∷◌, Memᴰ}
use mathlib.Core.Logic.{◌↔◌}
use lib.ListN.{length, get_or}
use lib.Dec.{T, eqb, eqb→eq, eqb_refl}
use Rattle.vpa.specs.Automaton.{Kind, plain, opening, closing, Move, plain_move, open_move, close_move, letter, move_kind, Run, run_done, run_plain, run_open, run_close, spells, Accepts}
use Rattle.vpa.specs.TableOnDisk.{Entry, entry, Table, state_count, letter_count, kind_in, initial?, final?, InTable, in_plain, in_open, in_close, MarkFits, IsTable, automaton, is_kind?, is_move?, has?}
use Rattle.vpa.proofs.Lists.{both, and, any_intro, any_elim}

-- Kinds.
pub kind_eq : (j k : Kind) → T (is_kind? j k) → j ≡ k
unfolding is_kind?
kind_eq plain plain h = refl
kind_eq plain opening h = absurd h
kind_eq plain closing h = absurd h
kind_eq opening plain h = absurd h
kind_eq opening opening h = refl
kind_eq opening closing h = absurd h
kind_eq closing plain h = absurd h
kind_eq closing opening h = absurd h
kind_eq closing closing h = refl

kind_refl : (k : Kind) → T (is_kind? k k)
unfolding is_kind?
kind_refl plain = tt
kind_refl opening = tt
kind_refl closing = tt

pub kind_test : (j k : Kind) → j ≡ k → T (is_kind? j k)
kind_test j k e = subst (λ l. T (is_kind? j l)) e (kind_refl j)

-- An entry by its fields.
pub entry_cast : (e : Entry) {p a γ q : ℕ} {es : List Entry} → e.from ≡ p → e.letter ≡ a → e.mark ≡ γ → e.to ≡ q → Memᴰ e es → Memᴰ (entry p a γ q) es
entry_cast e f l m g w = Memᴰ.cast (sym (λ i. entry (f i) (l i) (m i) (g i))) w

ends_eq : (e : Entry) (p a q : ℕ) → T (eqb e.from p && (eqb e.letter a && eqb e.to q)) → (e.from ≡ p) × (e.letter ≡ a) × (e.to ≡ q)
ends_eq e p a q h =
    let k = both (eqb e.from p) (eqb e.letter a && eqb e.to q) h in
    let l = both (eqb e.letter a) (eqb e.to q) k.1 in
    (eqb→eq e.from p k.0, eqb→eq e.letter a l.0, eqb→eq e.to q l.1)

ends_test : (p a q : ℕ) → T (eqb p p && (eqb a a && eqb q q))
ends_test p a q = and (eqb p p) _ (eqb_refl p) (and (eqb a a) (eqb q q) (eqb_refl a) (eqb_refl q))

-- The test for a move, and the move.
module _ (t : Table) where
  marked_entry : (p a γ q : ℕ) → (w : (e : Entry) × Memᴰ e t.moves × T ((eqb e.from p && (eqb e.letter a && eqb e.to q)) && eqb e.mark γ)) → Memᴰ (entry p a γ q) t.moves
  marked_entry p a γ q w =
      let e = w.0 in
      let k = both (eqb e.from p && (eqb e.letter a && eqb e.to q)) (eqb e.mark γ) w.2 in
      let d = ends_eq e p a q k.0 in
      entry_cast e d.0 d.1 (eqb→eq e.mark γ k.1) d.2 w.1

  has_of : (m : Move ℕ ℕ) → T (has? t m) → InTable t m
  unfolding has? is_move? letter move_kind
  has_of (plain_move p a q) h =
      let k = both (is_kind? (kind_in t a) plain) _ h in
      let w = any_elim _ t.moves k.1 in
      let d = ends_eq w.0 p a q w.2 in
      in_plain w.0.mark (entry_cast w.0 d.0 d.1 refl d.2 w.1) (kind_eq (kind_in t a) plain k.0)
  has_of (open_move p a γ q) h =
      let k = both (is_kind? (kind_in t a) opening) _ h in
      in_open (marked_entry p a γ q (any_elim _ t.moves k.1)) (kind_eq (kind_in t a) opening k.0)
  has_of (close_move p a γ q) h =
      let k = both (is_kind? (kind_in t a) closing) _ h in
      in_close (marked_entry p a γ q (any_elim _ t.moves k.1)) (kind_eq (kind_in t a) closing k.0)

  has_to : (m : Move ℕ ℕ) → InTable t m → T (has? t m)
  unfolding has? is_move? letter move_kind
  has_to m (in_plain {p} {a} {q} γ e k) = and (is_kind? (kind_in t a) plain) _ (kind_test (kind_in t a) plain k) (any_intro _ e (ends_test p a q))
  has_to m (in_open {p} {a} {γ} {q} e k) =
      and (is_kind? (kind_in t a) opening) _ (kind_test (kind_in t a) opening k) (any_intro _ e (and (eqb p p && (eqb a a && eqb q q)) (eqb γ γ) (ends_test p a q) (eqb_refl γ)))
  has_to m (in_close {p} {a} {γ} {q} e k) =
      and (is_kind? (kind_in t a) closing) _ (kind_test (kind_in t a) closing k) (any_intro _ e (and (eqb p p && (eqb a a && eqb q q)) (eqb γ γ) (ends_test p a q) (eqb_refl γ)))

  pub has_iff : (m : Move ℕ ℕ) → T (has? t m) ↔ InTable t m
  has_iff m = (has_of m, has_to m)

-- The numbers of a table's moves.
module _ (t : Table) (fit : IsTable t) where
  entry_bounds : {p a γ q : ℕ} {k : Kind} → Memᴰ (entry p a γ q) t.moves → kind_in t a ≡ k
      → (p < state_count t) × (a < letter_count t) × MarkFits k γ t.mark_count × (q < state_count t)
  entry_bounds {γ = γ} e k = (fit.from _ e, fit.letter _ e, subst (λ j. MarkFits j γ t.mark_count) k (fit.mark _ e), fit.to _ e)

  pub plain_bounds : {p a q : ℕ} → InTable t (plain_move p a q) → (p < state_count t) × (a < letter_count t) × (q < state_count t)
  plain_bounds (in_plain γ e k) = let b = entry_bounds e k in (b.0, b.1, b.3)

  pub open_bounds : {p a γ q : ℕ} → InTable t (open_move p a γ q) → (p < state_count t) × (a < letter_count t) × (γ < t.mark_count) × (q < state_count t)
  open_bounds (in_open e k) = entry_bounds e k

  pub close_bounds : {p a γ q : ℕ} → InTable t (close_move p a γ q) → (p < state_count t) × (a < letter_count t) × (γ < t.mark_count) × (q < state_count t)
  close_bounds (in_close e k) = entry_bounds e k

-- An initial and a final state are the table's: past them the byte 0 is read, which is neither.
get_bound : (f : ℕ → Bool) → (T (f 0) → ⊥) → (l : List ℕ) (p : ℕ) → T (f (get_or l p 0)) → p < length l
get_bound f z [] p h = absurd (z h)
get_bound f z (x ∷ l) zero h = omega arith
get_bound f z (x ∷ l) (suc p) h = omega (arith, get_bound f z l p h)

pub initial_bound : (t : Table) (p : ℕ) → T (initial? t p) → p < state_count t
unfolding initial?
initial_bound t p h = get_bound (λ x. eqb (x % 2) 1) (λ z. z) t.state_bytes p h

pub final_bound : (t : Table) (p : ℕ) → T (final? t p) → p < state_count t
unfolding final?
final_bound t p h = get_bound (λ x. eqb (x / 2) 1) (λ z. z) t.state_bytes p h

-- An accepted log has letters of the table only.
run_letters : (t : Table) → IsTable t → {p q : ℕ} {σ τ : List ℕ} {ms : List (Move ℕ ℕ)} → Run (automaton t) p σ ms q τ
    → {a : ℕ} → Memᴰ a (spells ms) → a < letter_count t
unfolding spells letter
run_letters t fit run_done m = absurd (Memᴰ.not-nil m)
run_letters t fit (run_plain h r) (Memᴰ.head e) = rw e (plain_bounds t fit h).1
run_letters t fit (run_plain h r) (Memᴰ.tail m) = run_letters t fit r m
run_letters t fit (run_open h r) (Memᴰ.head e) = rw e (open_bounds t fit h).1
run_letters t fit (run_open h r) (Memᴰ.tail m) = run_letters t fit r m
run_letters t fit (run_close h r) (Memᴰ.head e) = rw e (close_bounds t fit h).1
run_letters t fit (run_close h r) (Memᴰ.tail m) = run_letters t fit r m

pub accepted_letters : (t : Table) → IsTable t → {w : List ℕ} → Accepts (automaton t) w → {a : ℕ} → Memᴰ a w → a < letter_count t
accepted_letters t fit h {a} m = run_letters t fit h.accepting.runs (subst (Memᴰ a) (sym h.spelt) m)
