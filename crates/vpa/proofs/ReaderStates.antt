-- A reader's state by itself, as it is computed for a table: what it answers, what a letter leaves of it, and which reading its blocks show then.
use Prim.Native.Nat.{ℕ, suc, ◌≤◌}
use native.Mathlib.Omega.{arith}
use mathlib.Core.Bool.{Bool, true, false}
use mathlib.Core.List.{List, [], ◌∷◌, ◌++◌}
use mathlib.Core.Logic.{◌↔◌}
use mathlib.Core.Path.{◌≡◌, refl, ap, ◌∙◌}
use Rattle.vpa.specs.Reader.{Reading, candidate, Going}
use Rattle.vpa.specs.TableOnDisk.{Table, automaton, IsTable}
use Rattle.vpa.specs.ReaderComputed.{holds?, ReaderState, Heard, going, stop_at, settle, next_blocks, letter_state, letters_state, heard, finish_heard, Shows}
use Rattle.vpa.proofs.TableReader.{holds_iff_going, shows_candidate, letter_stopped, letter_taken, letter_stops}

-- Stop is answered exactly for a stopped state, with the number of letters taken as its place, and Going for one that runs.
pub heard_stop_iff : (r : ReaderState) (place : ℕ) → (heard r ≡ stop_at place) ↔ ((r.stopped ≡ true) × (r.taken ≡ place))
unfolding heard
heard_stop_iff r place = by r.stopped where
  by : (b : Bool) → (◌≡◌ {A = Heard} (elim b [ true ↦ stop_at r.taken | false ↦ going ]) (stop_at place)) ↔ ((b ≡ true) × (r.taken ≡ place))
  by true = (λ e. let same : r.taken ≡ place = cc in (refl, same), λ h. ap stop_at h.1)
  by false = (λ e. absurd (let o : ◌≡◌ {A = ℕ} 0 1 = cc in omega arith), λ h. absurd (let o : ◌≡◌ {A = ℕ} 0 1 = cc h.0 in omega arith))

pub heard_going_iff : (r : ReaderState) → (heard r ≡ going) ↔ (r.stopped ≡ false)
unfolding heard
heard_going_iff r = by r.stopped where
  by : (b : Bool) → (◌≡◌ {A = Heard} (elim b [ true ↦ stop_at r.taken | false ↦ going ]) going) ↔ (b ≡ false)
  by true = (λ e. absurd (let o : ◌≡◌ {A = ℕ} 0 1 = cc in omega arith), λ h. absurd (let o : ◌≡◌ {A = ℕ} 0 1 = cc in omega arith))
  by false = (λ e. refl, λ h. refl)

-- A letter that stops a running reader leaves what it held.
pub stop_keeps : (t : Table) (a : ℕ) (r : ReaderState) → r.stopped ≡ false → (letter_state t a r).stopped ≡ true
    → letter_state t a r ≡ record { taken = r.taken; stopped = true; blocks = r.blocks }
stop_keeps t a r running e = by (holds? (next_blocks t a r)) refl where
  by : (b : Bool) → holds? (next_blocks t a r) ≡ b → letter_state t a r ≡ record { taken = r.taken; stopped = true; blocks = r.blocks }
  by true h =
      let goes : (letter_state t a r).stopped ≡ false = ap (λ q. q.stopped) (letter_taken t a r running (rw h tt)) in
      absurd (let o : ◌≡◌ {A = ℕ} 0 1 = cc in omega arith)
  by false h = letter_stops t a r running (λ x. rw h at x)

-- A letter is one more at most.
pub taken_most : (t : Table) (a : ℕ) (r : ReaderState) → (letter_state t a r).taken ≤ suc r.taken
unfolding letter_state settle
taken_most t a r = by r.stopped (holds? (next_blocks t a r)) where
  by : (s b : Bool) → (elim s as (λ s. ReaderState) [ true ↦ r | false ↦ settle r (next_blocks t a r) b ]).taken ≤ suc r.taken
  by true b = omega arith
  by false true = omega arith
  by false false = omega arith

-- A stopped reader stays so.
pub letters_stopped : (t : Table) (log : List ℕ) (r : ReaderState) → r.stopped ≡ true → letters_state t log r ≡ r
unfolding letters_state
letters_stopped t [] r e = refl
letters_stopped t (a ∷ log) r e = ap (letters_state t log) (letter_stopped t a r e) ∙ letters_stopped t log r e

pub finish_stopped : (t : Table) (r : ReaderState) → r.stopped ≡ true → finish_heard t r ≡ stop_at r.taken
unfolding finish_heard
finish_stopped t r e = rw e

-- A letter more, at the end.
pub letters_more : (t : Table) (w : List ℕ) (a : ℕ) (r : ReaderState) → letters_state t (w ++ (a ∷ [])) r ≡ letter_state t a (letters_state t w r)
unfolding letters_state
letters_more t [] a r = refl
letters_more t (b ∷ w) a r = letters_more t w a (letter_state t b r)

-- A running state whose blocks show a reading: where the candidate goes on, the letter is taken and the blocks show the candidate; where it does not, the letter stops
-- the state, which else is as it was.
module _ (t : Table) (fit : IsTable t) (a : ℕ) (r : ReaderState) (k : Reading ℕ) (running : r.stopped ≡ false) (shows : Shows t r.blocks k) where
  shows_next : Shows t (next_blocks t a r) (candidate (automaton t) a k)
  shows_next = shows_candidate t fit a r.blocks k shows

  pub step_goes : Going (candidate (automaton t) a k) → (letter_state t a r ≡ record { taken = suc r.taken; stopped = false; blocks = next_blocks t a r })
      × Shows t (letter_state t a r).blocks (candidate (automaton t) a k)
  step_goes g =
      let e = letter_taken t a r running ((holds_iff_going t (next_blocks t a r) (candidate (automaton t) a k) shows_next).1 g) in
      (e, rw e shows_next)

  pub step_stops : (Going (candidate (automaton t) a k) → ⊥) → letter_state t a r ≡ record { taken = r.taken; stopped = true; blocks = r.blocks }
  step_stops n = letter_stops t a r running (λ h. n ((holds_iff_going t (next_blocks t a r) (candidate (automaton t) a k) shows_next).0 h))
