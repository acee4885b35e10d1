-- The reader computed for a table holds what the reader over relations holds, goes on exactly while it does and answers Accepted exactly if the log is
-- accepted. On a trimmed table a letter stops it exactly if the original accepts no log that goes on from there.
use Prim.Native.Nat.{ℕ, suc, ◌+◌, ◌<◌}
use native.Mathlib.Omega.{arith}
use mathlib.Core.Path.{◌≡◌, refl, sym, ap, subst}
use mathlib.Core.Bool.{Bool, true, false, not}
use mathlib.Core.List.Memᴰ
use mathlib.Core.List.{List, [], ◌∷◌, ◌++◌}
use mathlib.Core.Logic.{◌↔◌}
use lib.ListN.{length}
use lib.Dec.{T, eqb, eqb→eq, eqb_refl}
use Rattle.vpa.specs.Automaton.{Kind, plain, opening, closing, plain_move, open_move, close_move, Accepts}
use Rattle.vpa.specs.Reader.{Rel, Reading, nothing, block, Started, begin, Extended, Opened, Joined, candidate_by, candidate, reads, reading_of, Going, Finished}
use Rattle.vpa.specs.Lists.{Pair, below, square}
use Rattle.vpa.specs.TableOnDisk.{Table, state_count, kind_in, initial?, final?, has?, automaton, IsTable}
use Rattle.vpa.specs.PairsComputed.{initial_to_final?}
use Rattle.vpa.specs.TrimComputed.{trim_table}
use Rattle.vpa.specs.ReaderComputed.{Blocks, start_pairs, extend_pairs, open_pairs, join_pairs, candidate_blocks, holds?, finished?, ReaderState, Heard, accepted, unfinished, stop_at, begin_state, settle, next_blocks, letter_state, letters_state, state_after, finish_heard, ListsPairs, Shows}
use Rattle.vpa.proofs.Lists.{both, and, any_intro, any_elim, sift_intro, sift_elim, below_intro, square_intro}
use Rattle.vpa.proofs.ReaderRuns.{going_prefix, finished_going, finished_iff_accepts}
use Rattle.vpa.proofs.TableMoves.{has_iff, plain_bounds, open_bounds, close_bounds, initial_bound}
use Rattle.vpa.proofs.TrimmedTable.{trimmed_is_table, trimmed_going, trimmed_candidate, trimmed_begin}

-- Begin, and the tests.
module _ (t : Table) where
  pub lists_start : ListsPairs t (start_pairs t) (Started (automaton t))
  unfolding start_pairs
  lists_start = record {
    sound = λ p q m. let h = both (eqb p q) (initial? t p) (sift_elim _ (square (state_count t)) m).1 in record { alone = eqb→eq p q h.0; begins = h.1 };
    complete = λ p q s. let l = initial_bound t p s.begins in
        sift_intro _ (square_intro l (subst (λ q. q < state_count t) s.alone l)) (and (eqb p q) (initial? t p) (subst (λ q. T (eqb p q)) s.alone (eqb_refl p)) s.begins);
    bound = λ p q s. initial_bound t p s.begins;
  }

  pub shows_begin : Shows t ((0, start_pairs t) ∷ []) (begin (automaton t))
  unfolding Shows
  shows_begin = (refl, lists_start, tt)

  pub holds_iff_going : (ks : Blocks) (k : Reading ℕ) → Shows t ks k → T (holds? ks) ↔ Going k
  unfolding holds? Shows
  holds_iff_going [] nothing s = (λ h. absurd h, λ g. g.pair)
  holds_iff_going [] (block c S k) s = absurd s
  holds_iff_going (b ∷ bs) nothing s = absurd s
  holds_iff_going (b ∷ bs) (block c S k) s = go b.1 s.1
    where
      go : (R : List Pair) → ListsPairs t R S → T (elim R [ [] ↦ false | x ∷ xs ↦ true ]) ↔ Going (block c S k)
      go [] l = (λ h. absurd h, λ g. Memᴰ.not-nil (l.complete g.p g.q g.pair))
      go (x ∷ R) l = (λ h. record { p = x.0; q = x.1; pair = l.sound x.0 x.1 (Memᴰ.head refl) }, λ g. tt)

  pub finished_iff : (ks : Blocks) (k : Reading ℕ) → Shows t ks k → T (finished? t ks) ↔ Finished (automaton t) k
  unfolding finished? Shows initial_to_final?
  finished_iff [] nothing s = (λ h. absurd h, λ d. d)
  finished_iff [] (block c S k) s = absurd s
  finished_iff (b ∷ []) nothing s = absurd s
  finished_iff (b ∷ []) (block c S nothing) s = (
    λ h. let w = any_elim _ b.1 h in
        let k = both (initial? t w.0.0) (final? t w.0.1) w.2 in
        record { i = w.0.0; f = w.0.1; pair = s.1.sound w.0.0 w.0.1 w.1; begins = k.0; ends = k.1 },
    λ d. any_intro _ (s.1.complete d.i d.f d.pair) (and (initial? t d.i) (final? t d.f) d.begins d.ends),
  )
  finished_iff (b ∷ []) (block c S (block d S' k)) s = absurd s.2
  finished_iff (b ∷ b' ∷ bs) nothing s = absurd s
  finished_iff (b ∷ b' ∷ bs) (block c S nothing) s = absurd s.2
  finished_iff (b ∷ b' ∷ bs) (block c S (block d S' k)) s = (λ h. absurd h, λ d. absurd d)

-- The pairs of a block after a letter, by the letter's kind.
module _ (t : Table) (fit : IsTable t) where
  module _ (R : List Pair) (S : Rel ℕ) (l : ListsPairs t R S) where
    pub lists_extend : (a : ℕ) → ListsPairs t (extend_pairs t a R) (Extended (automaton t) a S)
    unfolding extend_pairs
    lists_extend a = record {
      sound = λ p q' m.
          let w = any_elim _ R (sift_elim _ (square (state_count t)) m).1 in
          let y = w.0 in
          let h = both (eqb y.0 p) (has? t (plain_move y.1 a q')) w.2 in
          record { q = y.1; was = subst (λ p. S p y.1) (eqb→eq y.0 p h.0) (l.sound y.0 y.1 w.1); moved = (has_iff t _).0 h.1 };
      complete = λ p q' s. sift_intro _ (square_intro (l.bound p s.q s.was) (plain_bounds t fit s.moved).2)
          (any_intro _ (l.complete p s.q s.was) (and (eqb p p) (has? t (plain_move s.q a q')) (eqb_refl p) ((has_iff t _).1 s.moved)));
      bound = λ p q' s. l.bound p s.q s.was;
    }

    pub lists_open : (a : ℕ) → ListsPairs t (open_pairs t a R) (Opened (automaton t) a S)
    unfolding open_pairs
    lists_open a = record {
      sound = λ q q' m.
          let h = both (eqb q q') _ (sift_elim _ (square (state_count t)) m).1 in
          let w = any_elim _ R h.1 in
          let y = w.0 in
          let v = any_elim _ (below t.mark_count) w.2 in
          record { alone = eqb→eq q q' h.0; p = y.0; r = y.1; γ = v.0; was = l.sound y.0 y.1 w.1; opened = (has_iff t _).0 v.2 };
      complete = λ q q' s. let b = open_bounds t fit s.opened in
          sift_intro _ (square_intro b.3 (subst (λ q. q < state_count t) s.alone b.3))
          (and (eqb q q') _ (subst (λ z. T (eqb q z)) s.alone (eqb_refl q))
          (any_intro _ (l.complete s.p s.r s.was) (any_intro _ (below_intro b.2) ((has_iff t _).1 s.opened))));
      bound = λ q q' s. (open_bounds t fit s.opened).3;
    }

    -- R' below, R at the top.
    module _ (R' : List Pair) (S' : Rel ℕ) (l' : ListsPairs t R' S') where
      pub lists_join : (a b : ℕ) → ListsPairs t (join_pairs t R' a R b) (Joined (automaton t) S' a S b)
      unfolding join_pairs
      lists_join a b = record {
        sound = λ p s m.
            let w = any_elim _ R' (sift_elim _ (square (state_count t)) m).1 in
            let y = w.0 in
            let h = both (eqb y.0 p) _ w.2 in
            let v = any_elim _ R h.1 in
            let z = v.0 in
            let u = any_elim _ (below t.mark_count) v.2 in
            let k = both (has? t (open_move y.1 a u.0 z.0)) (has? t (close_move z.1 b u.0 s)) u.2 in
            record {
              q = y.1;
              r = z.0;
              x = z.1;
              γ = u.0;
              below = subst (λ p. S' p y.1) (eqb→eq y.0 p h.0) (l'.sound y.0 y.1 w.1);
              opened = (has_iff t _).0 k.0;
              inside = l.sound z.0 z.1 v.1;
              closed = (has_iff t _).0 k.1;
            };
        complete = λ p s j. sift_intro _ (square_intro (l'.bound p j.q j.below) (close_bounds t fit j.closed).3)
            (any_intro _ (l'.complete p j.q j.below)
            (and (eqb p p) _ (eqb_refl p)
            (any_intro _ (l.complete j.r j.x j.inside)
            (any_intro _ (below_intro (open_bounds t fit j.opened).2)
            (and (has? t (open_move j.q a j.γ j.r)) (has? t (close_move j.x b j.γ s)) ((has_iff t _).1 j.opened) ((has_iff t _).1 j.closed))))));
        bound = λ p s j. l'.bound p j.q j.below;
      }

  -- A letter: blocks that show a reading go over to blocks that show its candidate, whatever the reading.
  shows_by : (j : Kind) (a : ℕ) (ks : Blocks) (k : Reading ℕ) → Shows t ks k → Shows t (candidate_blocks t j a ks) (candidate_by (automaton t) j a k)
  unfolding candidate_blocks candidate_by Shows
  shows_by plain a [] nothing s = tt
  shows_by plain a [] (block c S k) s = absurd s
  shows_by plain a (b ∷ bs) nothing s = absurd s
  shows_by plain a (b ∷ bs) (block c S k) s = (s.0, lists_extend b.1 S s.1 a, s.2)
  shows_by opening a [] nothing s = tt
  shows_by opening a [] (block c S k) s = absurd s
  shows_by opening a (b ∷ bs) nothing s = absurd s
  shows_by opening a (b ∷ bs) (block c S k) s = (refl, lists_open b.1 S s.1 a, s)
  shows_by closing a [] nothing s = tt
  shows_by closing a [] (block c S k) s = absurd s
  shows_by closing a (b ∷ []) nothing s = absurd s
  shows_by closing a (b ∷ []) (block c S nothing) s = tt
  shows_by closing a (b ∷ []) (block c S (block d S' k)) s = absurd s.2
  shows_by closing a (b ∷ b' ∷ bs) nothing s = absurd s
  shows_by closing a (b ∷ b' ∷ bs) (block c S nothing) s = absurd s.2
  shows_by closing a (b ∷ b' ∷ bs) (block c S (block d S' k)) s =
      let r = s.2 in
      (r.0, subst (λ c. ListsPairs t (join_pairs t b'.1 b.0 b.1 a) (Joined (automaton t) S' c S a)) s.0 (lists_join b.1 S s.1 b'.1 S' r.1 b.0 a), r.2)

  pub shows_candidate : (a : ℕ) (ks : Blocks) (k : Reading ℕ) → Shows t ks k → Shows t (candidate_blocks t (kind_in t a) a ks) (candidate (automaton t) a k)
  unfolding candidate
  shows_candidate a = shows_by (kind_in t a) a

-- What a letter does: stopped, nothing; running, the candidate if it holds a pair, else the old reading, stopped.
module _ (t : Table) (a : ℕ) (r : ReaderState) where
  pub letter_stopped : r.stopped ≡ true → letter_state t a r ≡ r
  unfolding letter_state
  letter_stopped e = rw e

  pub letter_taken : r.stopped ≡ false → T (holds? (next_blocks t a r)) → letter_state t a r ≡ record { taken = suc r.taken; stopped = false; blocks = next_blocks t a r }
  unfolding letter_state settle
  letter_taken e h = by r.stopped e (holds? (next_blocks t a r)) h
    where
      by : (s : Bool) → s ≡ false → (b : Bool) → T b
          → ◌≡◌ {A = ReaderState} (elim s [ true ↦ r | false ↦ settle r (next_blocks t a r) b ]) (record { taken = suc r.taken; stopped = false; blocks = next_blocks t a r })
      by true e b h = cc
      by false e true h = refl
      by false e false h = absurd h

  pub letter_stops : r.stopped ≡ false → (T (holds? (next_blocks t a r)) → ⊥) → letter_state t a r ≡ record { taken = r.taken; stopped = true; blocks = r.blocks }
  unfolding letter_state settle
  letter_stops e h = by r.stopped e (holds? (next_blocks t a r)) h
    where
      by : (s : Bool) → s ≡ false → (b : Bool) → (T b → ⊥)
          → ◌≡◌ {A = ReaderState} (elim s [ true ↦ r | false ↦ settle r (next_blocks t a r) b ]) (record { taken = r.taken; stopped = true; blocks = r.blocks })
      by true e b h = cc
      by false e true h = absurd (h tt)
      by false e false h = refl

-- A test does not both pass and fail.
not_both : {X : Type 0} {b : Bool} → b ≡ true → b ≡ false → X
not_both e f = let z : ◌≡◌ {A = ℕ} 0 1 = cc in absurd (omega arith)

-- Accepted: running, at depth 0, with a pair of an initial and a final state.
pub accepted_iff : (t : Table) (r : ReaderState) → (finish_heard t r ≡ accepted) ↔ ((r.stopped ≡ false) × T (finished? t r.blocks))
unfolding finish_heard
accepted_iff t r = by r.stopped (finished? t r.blocks)
  where
    by : (s b : Bool) → (◌≡◌ {A = Heard} (elim s [ true ↦ stop_at r.taken | false ↦ elim b [ true ↦ accepted | false ↦ unfinished ] ]) accepted) ↔ ((s ≡ false) × T b)
    by true b = (λ e. let z : ◌≡◌ {A = ℕ} 0 1 = cc in absurd (omega arith), λ h. cc)
    by false true = (λ e. (refl, tt), λ h. refl)
    by false false = (λ e. let z : ◌≡◌ {A = ℕ} 0 1 = cc in absurd (omega arith), λ h. absurd h.1)

-- After n letters: running, with just the pairs of the reading k, which goes on; or stopped, and k does not.
data Follows (t : Table) (r : ReaderState) (n : ℕ) (k : Reading ℕ) : Type 0 where
  runs_on : r.stopped ≡ false → r.taken ≡ n → Shows t r.blocks k → Going k → Follows t r n k
  stood_still : r.stopped ≡ true → (Going k → ⊥) → Follows t r n k

module _ (t : Table) (fit : IsTable t) where
  follows_begin : Follows t (begin_state t) 0 (begin (automaton t))
  unfolding begin_state
  follows_begin = by (holds? ((0, start_pairs t) ∷ [])) refl
    where
      by : (b : Bool) → holds? ((0, start_pairs t) ∷ []) ≡ b → Follows t (record { taken = 0; stopped = not b; blocks = (0, start_pairs t) ∷ [] }) 0 (begin (automaton t))
      by true e = runs_on refl refl (shows_begin t) ((holds_iff_going t ((0, start_pairs t) ∷ []) (begin (automaton t)) (shows_begin t)).0 (rw e tt))
      by false e = stood_still refl (λ g. rw e at ((holds_iff_going t ((0, start_pairs t) ∷ []) (begin (automaton t)) (shows_begin t)).1 g))

  follows_letter : (a : ℕ) (r : ReaderState) (n : ℕ) (k : Reading ℕ) → Follows t r n k → Follows t (letter_state t a r) (suc n) (candidate (automaton t) a k)
  unfolding reads
  follows_letter a r n k (stood_still e h) =
      subst (λ r. Follows t r (suc n) (candidate (automaton t) a k)) (sym (letter_stopped t a r e)) (stood_still e (λ g. h (going_prefix (automaton t) [] (a ∷ []) k g)))
  follows_letter a r n k (runs_on e c s g) =
      let s' = shows_candidate t fit a r.blocks k s in
      by (holds? (next_blocks t a r)) refl s' (holds_iff_going t (next_blocks t a r) (candidate (automaton t) a k) s')
    where
      by : (b : Bool) → holds? (next_blocks t a r) ≡ b → Shows t (next_blocks t a r) (candidate (automaton t) a k) → T (holds? (next_blocks t a r)) ↔ Going (candidate (automaton t) a k)
          → Follows t (letter_state t a r) (suc n) (candidate (automaton t) a k)
      by true h s' i = subst (λ r. Follows t r (suc n) (candidate (automaton t) a k)) (sym (letter_taken t a r e (rw h tt))) (runs_on refl (ap suc c) s' (i.0 (rw h tt)))
      by false h s' i = subst (λ r. Follows t r (suc n) (candidate (automaton t) a k)) (sym (letter_stops t a r e (λ x. rw h at x))) (stood_still refl (λ g. rw h at (i.1 g)))

  follows_letters : (w : List ℕ) (r : ReaderState) (n : ℕ) (k : Reading ℕ) → Follows t r n k → Follows t (letters_state t w r) (n + length w) (reads (automaton t) w k)
  unfolding letters_state reads
  follows_letters [] r n k f = subst (λ m. Follows t r m k) (omega arith) f
  follows_letters (a ∷ w) r n k f =
      let g = follows_letters w (letter_state t a r) (suc n) (candidate (automaton t) a k) (follows_letter a r n k f) in
      subst (λ m. Follows t (letters_state t w (letter_state t a r)) m (reads (automaton t) w (candidate (automaton t) a k))) (omega arith) g

  follows : (w : List ℕ) → Follows t (state_after t w) (length w) (reading_of (automaton t) w)
  follows w = subst (λ n. Follows t (state_after t w) n (reading_of (automaton t) w)) (omega arith) (follows_letters w (begin_state t) 0 (begin (automaton t)) follows_begin)

  follows_running : {r : ReaderState} {n : ℕ} {k : Reading ℕ} → Follows t r n k → (r.stopped ≡ false) ↔ Going k
  follows_running (runs_on e c s g) = (λ x. g, λ x. e)
  follows_running (stood_still e h) = (λ x. not_both e x, λ g. absurd (h g))

  follows_stopped : {r : ReaderState} {n : ℕ} {k : Reading ℕ} → Follows t r n k → (r.stopped ≡ true) ↔ (Going k → ⊥)
  follows_stopped (runs_on e c s g) = (λ x. not_both x e, λ h. absurd (h g))
  follows_stopped (stood_still e h) = (λ x. h, λ x. e)

  -- After the letters of a log the reader is running exactly if the reading goes on, and then the letters are all taken and just its pairs held.
  pub running_iff_going : (w : List ℕ) → ((state_after t w).stopped ≡ false) ↔ Going (reading_of (automaton t) w)
  running_iff_going w = follows_running (follows w)

  pub running_shows : (w : List ℕ) → (state_after t w).stopped ≡ false → ((state_after t w).taken ≡ length w) × Shows t (state_after t w).blocks (reading_of (automaton t) w)
  running_shows w e = by (follows w)
    where
      by : Follows t (state_after t w) (length w) (reading_of (automaton t) w) → ((state_after t w).taken ≡ length w) × Shows t (state_after t w).blocks (reading_of (automaton t) w)
      by (runs_on d c s g) = (c, s)
      by (stood_still d h) = not_both d e

  -- Finish answers Accepted exactly if the log is accepted.
  pub accepted_iff_accepts : (w : List ℕ) → (finish_heard t (state_after t w) ≡ accepted) ↔ Accepts (automaton t) w
  accepted_iff_accepts w = (
    λ e. let h = (accepted_iff t (state_after t w)).0 e in
        (finished_iff_accepts (automaton t) w).0 ((finished_iff t (state_after t w).blocks (reading_of (automaton t) w) (running_shows w h.0).1).0 h.1),
    λ a. let d = (finished_iff_accepts (automaton t) w).1 a in
        let e = (running_iff_going w).1 (finished_going (automaton t) (reading_of (automaton t) w) d) in
        (accepted_iff t (state_after t w)).1 (e, (finished_iff t (state_after t w).blocks (reading_of (automaton t) w) (running_shows w e).1).1 d),
  )

-- What is so exactly if nothing goes on is so exactly if there is no such log.
none_iff : {S G : Type 0} {P : List ℕ → Type 0} → S ↔ (G → ⊥) → G ↔ ((v : List ℕ) × P v) → S ↔ ((v : List ℕ) → P v → ⊥)
none_iff f c = (λ s v x. f.0 s (c.1 (v, x)), λ h. f.1 (λ g. let k = c.0 g in h k.0 k.1))

-- Demand 3 on logs no letter of which is refused: a reader begun on the trimmed table and given w is stopped by the letter a exactly if no log that the original
-- accepts begins with w and a. (Where w had stopped it already, none does, and it stays so.)
module _ (t : Table) (fit : IsTable t) where
  pub trimmed_stops_iff : (w : List ℕ) (a : ℕ)
      → ((letter_state (trim_table t) a (state_after (trim_table t) w)).stopped ≡ true) ↔ ((v : List ℕ) → Accepts (automaton t) ((w ++ (a ∷ [])) ++ v) → ⊥)
  trimmed_stops_iff w a =
      let fit' = trimmed_is_table t fit in
      let f = follows_letter (trim_table t) fit' a (state_after (trim_table t) w) (length w) (reading_of (automaton (trim_table t)) w) (follows (trim_table t) fit' w) in
      none_iff (follows_stopped (trim_table t) fit' f) (trimmed_candidate t fit w a)

  -- Begin stops it exactly if the original accepts no log at all.
  pub trimmed_begin_stopped_iff : ((begin_state (trim_table t)).stopped ≡ true) ↔ ((v : List ℕ) → Accepts (automaton t) v → ⊥)
  trimmed_begin_stopped_iff =
      let fit' = trimmed_is_table t fit in
      none_iff (follows_stopped (trim_table t) fit' (follows_begin (trim_table t) fit')) (trimmed_begin t fit)

  -- As long as it runs, the log can still be finished.
  pub trimmed_running_finishes : (w : List ℕ) → (state_after (trim_table t) w).stopped ≡ false → (v : List ℕ) × Accepts (automaton t) (w ++ v)
  trimmed_running_finishes w e = (trimmed_going t fit w).0 ((running_iff_going (trim_table t) (trimmed_is_table t fit) w).0 e)
