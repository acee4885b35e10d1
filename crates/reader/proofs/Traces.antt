-- A reader that is begun on a table and kept on it: what stands in its words, that it is never refused with 14, what finish answers, and demand 3, on what it
-- answers on a trimmed table.
use Prim.Native.Nat.{ℕ, ◌≤◌}
use mathlib.Core.Bool.{Bool, true, false}
use mathlib.Core.List.{List, [], ◌∷◌, ◌++◌, Memᴰ}
use mathlib.Core.Logic.{◌↔◌}
use mathlib.Core.Path.{◌≡◌, refl, sym, ap, subst, ◌∙◌}
use native.Mathlib.Omega.{arith}
use lib.ListN.{length, take}
use Rattle.vpa.specs.Automaton.{Accepts}
use Rattle.vpa.specs.Reader.{reads, reading_of, Going}
use Rattle.vpa.specs.ReaderComputed.{ReaderState, Heard, going, accepted, stop_at, begin_state, letter_state, letters_state, state_after, heard, finish_heard, Shows}
use Rattle.vpa.specs.TableOnDisk.{Table, state_count, automaton, IsTable}
use Rattle.vpa.specs.TrimComputed.{trim_table}
use Rattle.vpa.proofs.TableReader.{shows_begin, running_shows, accepted_iff_accepts, trimmed_stops_iff, trimmed_begin_stopped_iff, trimmed_running_finishes, running_iff_going}
use Rattle.vpa.proofs.TrimmedMoves.{trimmed_kinds}
use Rattle.vpa.proofs.ReaderStates.{heard_going_iff, heard_stop_iff, letters_more, stop_keeps}
use Rattle.vpa.proofs.TableMoves.{accepted_letters}
use Rattle.table.specs.Answers.{Answer, refused, answered}
use Rattle.table.specs.Layout.{parse}
use Rattle.table.specs.Refusals.{verdict}
use Rattle.table.proofs.Tables.{good_storable, good_table}
use Rattle.reader.specs.Calls.{begin_call, letter_call, finish_call, IsState}
use Rattle.reader.specs.Layout.{state_size, taken_in, state_in, in_place}
use Rattle.reader.specs.Refusals.{legal?, LetterReason, past_letters}
use Rattle.reader.specs.Traces.{Trace, begun, takes, keeps, elsewhere, asks, Standing, runs, stopped_by_begin, stopped_by_letter}
use Rattle.reader.proofs.CallLaws.{begin_answers, letter_refused, finish_keeps, stopped_letter, stopped_finish, letter_answers, letter_stops_word, finish_answers, letter_number_iff}
use Rattle.reader.proofs.Fitting.{begin_fits, letter_fits}
use Rattle.reader.proofs.InPlace.{in_place_back, in_place_legal, in_place_length, legal_fits, alike_legal, alike_state}
use Rattle.reader.proofs.Verdicts.{reason_number}
use Rattle.reader.proofs.Words.{Fits}

-- A state that fits and was put in place.
low : (s : List ℕ) → verdict s ≡ 0 → state_count (parse s) ≤ 64
low s good = omega (arith, (good_storable s good).states)

placed : (s words : List ℕ) (r : ReaderState) {after : List ℕ} → verdict s ≡ 0 → state_size ≤ length words → Fits (parse s) r → after ≡ in_place r words
    → IsState s after × (state_in after ≡ r)
placed s words r {after} good long fits e = (
  record {
    good = good;
    long = omega (arith, ap length e, in_place_length r words long);
    legal = ap (legal? (parse s)) e ∙ in_place_legal (parse s) r words (low s good) fits;
  },
  ap state_in e ∙ in_place_back (parse s) r words (low s good) fits,
)

-- The words of such a reader stand for a state, and it is that after the letters taken. Call by call.
abbrev Stands : List ℕ → List ℕ → List ℕ → Type 0
Stands s words w = IsState s words × Standing (parse s) (state_in words) w

module _ (s words : List ℕ) where
  begun_stands : (h : Heard) → (begin_call s words).answer ≡ answered h → Stands s (begin_call s words).words []
  unfolding letters_state
  begun_stands h e =
      let b = begin_answers s words h e in
      let p = placed s words (begin_state (parse s)) b.0 b.1 (begin_fits (parse s)) b.3 in
      (p.0, standing p.1 (begin_state (parse s)).stopped refl)
    where
      standing : {r : ReaderState} → r ≡ begin_state (parse s) → (b : Bool) → (begin_state (parse s)).stopped ≡ b → Standing (parse s) r []
      standing d false f = runs d (ap (λ q. q.stopped) d ∙ f)
      standing d true f = stopped_by_begin d (ap (λ q. q.stopped) d ∙ f) refl

  module _ (w : List ℕ) (before : Stands s words w) where
    -- Running, it is what the letters made of the first state.
    running_state : (state_in words).stopped ≡ false → state_in words ≡ state_after (parse s) w
    running_state e = by before.1 where
      by : Standing (parse s) (state_in words) w → state_in words ≡ state_after (parse s) w
      by (runs d f) = d
      by (stopped_by_begin d f g) = absurd (let o : ◌≡◌ {A = ℕ} 0 1 = cc in omega arith)
      by (stopped_by_letter b d f g) = absurd (let o : ◌≡◌ {A = ℕ} 0 1 = cc in omega arith)

    -- And a letter that is not refused leads on from there.
    letter_leads : (state_in words).stopped ≡ false → (a : ℕ) (h : Heard) → (letter_call s words a).answer ≡ answered h
        → IsState s (letter_call s words a).words
        × (state_in (letter_call s words a).words ≡ letter_state (parse s) a (state_after (parse s) w))
        × (h ≡ heard (letter_state (parse s) a (state_after (parse s) w)))
    letter_leads running a h e =
        let is = before.0 in
        let r = letter_answers s words is running a h e in
        let fits = letter_fits (parse s) a (state_in words) (legal_fits (parse s) words (low s is.good) is.legal) r.0 in
        let p = placed s words (letter_state (parse s) a (state_in words)) is.good is.long fits r.2 in
        let same = ap (letter_state (parse s) a) (running_state running) in
        (p.0, p.1 ∙ same, r.1 ∙ ap heard same)

    going_running : (a : ℕ) → (letter_call s words a).answer ≡ answered going → (state_in words).stopped ≡ false
    going_running a g = by (state_in words).stopped refl where
      by : (b : Bool) → (state_in words).stopped ≡ b → b ≡ false
      by false e = refl
      by true e = absurd (let o : ◌≡◌ {A = ℕ} 0 1 = cc (stopped_letter s words before.0 e a).0 in omega arith)

    going_runs : (a : ℕ) → (letter_call s words a).answer ≡ answered going → (state_in (letter_call s words a).words).stopped ≡ false
    going_runs a g =
        let p = letter_leads (going_running a g) a going g in
        ap (λ q. q.stopped) p.1 ∙ (heard_going_iff (letter_state (parse s) a (state_after (parse s) w))).0 (sym p.2)

    takes_stands : (a : ℕ) → (letter_call s words a).answer ≡ answered going → Stands s (letter_call s words a).words (w ++ (a ∷ []))
    takes_stands a g =
        let p = letter_leads (going_running a g) a going g in
        (p.0, runs (p.1 ∙ sym (letters_more (parse s) w a (begin_state (parse s)))) (going_runs a g))

    keeps_stands : (a : ℕ) → ((letter_call s words a).answer ≡ answered going → ⊥) → Stands s (letter_call s words a).words w
    keeps_stands a n = by (letter_call s words a).answer refl (state_in words).stopped refl where
      same : (letter_call s words a).words ≡ words → Stands s (letter_call s words a).words w
      same e = subst (λ x. Stands s x w) (sym e) before

      next : ReaderState
      next = letter_state (parse s) a (state_after (parse s) w)

      stop : {h : Heard} → (letter_call s words a).answer ≡ answered h → h ≡ heard next → {r : ReaderState} → r ≡ next → (state_after (parse s) w).stopped ≡ false
          → (b : Bool) → next.stopped ≡ b → Standing (parse s) r w
      stop e d f g true k = stopped_by_letter a f (ap (λ q. q.stopped) f ∙ k) g
      stop e d f g false k = absurd (n (e ∙ ap answered (d ∙ (heard_going_iff next).1 k)))

      by : (x : Answer Heard) → (letter_call s words a).answer ≡ x → (b : Bool) → (state_in words).stopped ≡ b → Stands s (letter_call s words a).words w
      by (refused k) e b f = same (letter_refused s words a k e)
      by (answered h) e true f = same (stopped_letter s words before.0 f a).1
      by (answered h) e false f =
          let p = letter_leads f a h e in
          (p.0, stop e p.2 p.1 (sym (ap (λ q. q.stopped) (running_state f)) ∙ f) next.stopped refl)

-- Other words that begin alike.
elsewhere_stands : (s words w : List ℕ) → Stands s words w → (other : List ℕ) → state_size ≤ length other → take state_size words ≡ take state_size other → Stands s other w
elsewhere_stands s words w (is, standing) other long alike = (
  record { good = is.good; long = long; legal = alike_legal (parse s) words other (low s is.good) is.long alike is.legal },
  subst (λ r. Standing (parse s) r w) (sym (alike_state (parse s) words other (low s is.good) is.long alike is.legal)) standing,
)

trace_stands : (s : List ℕ) {words w : List ℕ} → Trace s words w → Stands s words w
trace_stands s (begun words h e) = begun_stands s words h e
trace_stands s (takes {words} {w} tr a e) = takes_stands s words w (trace_stands s tr) a e
trace_stands s (keeps {words} {w} tr a e) = keeps_stands s words w (trace_stands s tr) a e
trace_stands s (elsewhere {words} {w} tr other long alike) = elsewhere_stands s words w (trace_stands s tr) other long alike
trace_stands s (asks {words} {w} tr) = subst (λ x. Stands s x w) (sym (finish_keeps s words)) (trace_stands s tr)

-- So it shows the reading of the letters taken, running or stopped, and counts them.
standing_shows : (t : Table) → IsTable t → {r : ReaderState} {w : List ℕ} → Standing t r w → (r.taken ≡ length w) × Shows t r.blocks (reading_of (automaton t) w)
unfolding begin_state reads letters_state
standing_shows t fit {r} {w} (runs d f) = rw d (running_shows t fit w (sym (ap (λ q. q.stopped) d) ∙ f))
standing_shows t fit (stopped_by_begin d f g) = rw (d, g) (refl, shows_begin t)
standing_shows t fit {r} {w} (stopped_by_letter a d f g) = rw (d ∙ stop_keeps t a (state_after t w) g (sym (ap (λ q. q.stopped) d) ∙ f)) (running_shows t fit w g)

module _ (s : List ℕ) {words w : List ℕ} (tr : Trace s words w) where
  pub trace_state : IsState s words
  trace_state = (trace_stands s tr).0

  pub trace_standing : Standing (parse s) (state_in words) w
  trace_standing = (trace_stands s tr).1

  pub trace_shows : Shows (parse s) (state_in words).blocks (reading_of (automaton (parse s)) w)
  trace_shows = (standing_shows (parse s) (good_table s trace_state.good) trace_standing).1

  pub trace_taken : taken_in words ≡ length w
  unfolding state_in
  trace_taken = (standing_shows (parse s) (good_table s trace_state.good) trace_standing).0

  -- Finish is never refused, and a letter with 11, 12 or 13 only, each for its reason; so 14 is never given. The letter is then not taken: the words stay.
  pub trace_finish : (finish_call s words).answer ≡ answered (finish_heard (parse s) (state_in words))
  trace_finish = (finish_answers s words trace_state).0

  pub trace_letter_refused_iff : (a k : ℕ) → ((letter_call s words a).answer ≡ refused k) ↔ (((state_in words).stopped ≡ false) × LetterReason (parse s) (state_in words) a k)
  trace_letter_refused_iff a k = letter_number_iff s words trace_state a k

  pub trace_never_14 : (a : ℕ) → ((letter_call s words a).answer ≡ refused 14 → ⊥) × ((k : ℕ) → (finish_call s words).answer ≡ refused k → ⊥)
  trace_never_14 a = (
    λ e. omega (arith, reason_number (parse s) (state_in words) a ((trace_letter_refused_iff a 14).0 e).1),
    λ k e. let o : ◌≡◌ {A = ℕ} 0 1 = cc trace_finish in omega arith,
  )

  pub refused_not_taken : (a k : ℕ) → (letter_call s words a).answer ≡ refused k → Trace s (letter_call s words a).words w × ((letter_call s words a).words ≡ words)
  refused_not_taken a k e = (keeps tr a (λ g. let o : ◌≡◌ {A = ℕ} 0 1 = cc in omega arith), letter_refused s words a k e)

  -- A stop has the number of letters taken as its place.
  pub trace_stop_place : (a place : ℕ) → (letter_call s words a).answer ≡ answered (stop_at place) → place ≡ length w
  trace_stop_place a place e = by (state_in words).stopped refl ∙ trace_taken where
    by : (b : Bool) → (state_in words).stopped ≡ b → place ≡ taken_in words
    by true f = cc (stopped_letter s words trace_state f a).0
    by false f = (letter_stops_word s words trace_state f a place e).1

  -- Stopped, it answers the same Stop to every letter and at the end.
  pub trace_stopped : (state_in words).stopped ≡ true
      → ((a : ℕ) → (letter_call s words a).answer ≡ answered (stop_at (length w))) × ((finish_call s words).answer ≡ answered (stop_at (length w)))
  trace_stopped e = (λ a. (stopped_letter s words trace_state e a).0 ∙ rw trace_taken, stopped_finish s words trace_state e ∙ rw trace_taken)

  module _ (running : (state_in words).stopped ≡ false) where
    is_after : state_in words ≡ state_after (parse s) w
    is_after = running_state s words w (trace_stands s tr) running

    -- Running, the reading that it shows goes on.
    pub trace_going : Going (reading_of (automaton (parse s)) w)
    trace_going = (running_iff_going (parse s) (good_table s trace_state.good) w).0 (sym (ap (λ q. q.stopped) is_after) ∙ running)

    -- Running, it answers Accepted exactly if the letters taken are an accepted log.
    pub trace_accepted_iff : ((finish_call s words).answer ≡ answered accepted) ↔ Accepts (automaton (parse s)) w
    trace_accepted_iff =
        let i = accepted_iff_accepts (parse s) (good_table s trace_state.good) w in
        let same : (finish_call s words).answer ≡ answered (finish_heard (parse s) (state_after (parse s) w)) = trace_finish ∙ rw is_after in
        (λ e. let d : finish_heard (parse s) (state_after (parse s) w) ≡ accepted = cc in i.0 d, λ w. same ∙ ap answered (i.1 w))

    -- A letter that is not refused stops it exactly if it stops the state after the letters taken.
    letter_stops_iff : (a : ℕ) (h : Heard) → (letter_call s words a).answer ≡ answered h
        → ((letter_call s words a).answer ≡ answered (stop_at (length w))) ↔ ((letter_state (parse s) a (state_after (parse s) w)).stopped ≡ true)
    letter_stops_iff a h e =
        let leads = letter_leads s words w (trace_stands s tr) running a in
        let next = letter_state (parse s) a (state_after (parse s) w) in
        let runs-before = sym (ap (λ q. q.stopped) is_after) ∙ running in
        let counts = (running_shows (parse s) (good_table s trace_state.good) w runs-before).0 in
        let counted : next.stopped ≡ true → next.taken ≡ length w = λ f. ap (λ q. q.taken) (stop_keeps (parse s) a (state_after (parse s) w) runs-before f) ∙ counts in (
          λ d. ((heard_stop_iff next (length w)).0 (sym (leads (stop_at (length w)) d).2)).0,
          λ f. e ∙ ap answered ((leads h e).2 ∙ (heard_stop_iff next (length w)).1 (f, counted f)),
        )

-- Demand 3: the bytes s' are those of the trimmed table of s, and the reader is begun on them.
module _ (s s' : List ℕ) (good : verdict s ≡ 0) (trimmed : parse s' ≡ trim_table (parse s)) where
  -- Begin stops it exactly if the original accepts no log at all.
  pub begin_stops_iff : (words : List ℕ) (h : Heard) → (begin_call s' words).answer ≡ answered h
      → ((begin_call s' words).answer ≡ answered (stop_at 0)) ↔ ((v : List ℕ) → Accepts (automaton (parse s)) v → ⊥)
  unfolding begin_state
  begin_stops_iff words h e =
      let i = heard_stop_iff (begin_state (parse s')) 0 in
      let j = trimmed_begin_stopped_iff (parse s) (good_table s good) in
      let on : Table → Type 0 = λ t. (begin_state t).stopped ≡ true in (
        λ d. j.0 (subst on trimmed (i.0 (sym (begin_answers s' words (stop_at 0) d).2)).0),
        λ n. e ∙ ap answered ((begin_answers s' words h e).2 ∙ i.1 (subst on (sym trimmed) (j.1 n), refl)),
      )

  module _ {words w : List ℕ} (tr : Trace s' words w) (running : (state_in words).stopped ≡ false) where
    -- As long as it runs, some letters more, or none, make an accepted log.
    pub running_finishes : (v : List ℕ) × Accepts (automaton (parse s)) (w ++ v)
    running_finishes =
        let runs_after : (state_after (parse s') w).stopped ≡ false = sym (ap (λ q. q.stopped) (is_after s' tr running)) ∙ running in
        trimmed_running_finishes (parse s) (good_table s good) w (subst (λ t. (state_after t w).stopped ≡ false) trimmed runs_after)

    -- A letter that is not refused stops it exactly if the original accepts no log that goes on from the letters taken with this one.
    pub stops_iff : (a : ℕ) (h : Heard) → (letter_call s' words a).answer ≡ answered h
        → ((letter_call s' words a).answer ≡ answered (stop_at (length w))) ↔ ((v : List ℕ) → Accepts (automaton (parse s)) ((w ++ (a ∷ [])) ++ v) → ⊥)
    stops_iff a h e =
        let i = letter_stops_iff s' tr running a h e in
        let j = trimmed_stops_iff (parse s) (good_table s good) w a in
        let on : Table → Type 0 = λ t. (letter_state t a (state_after t w)).stopped ≡ true in
        (λ d. j.0 (subst on trimmed (i.0 d)), λ n. i.1 (subst on (sym trimmed) (j.1 n)))

  -- It takes the letter exactly if there is such a log.
  pub takes_iff : {words w : List ℕ} (tr : Trace s' words w) (running : (state_in words).stopped ≡ false) (a : ℕ) (h : Heard) → (letter_call s' words a).answer ≡ answered h
      → ((letter_call s' words a).answer ≡ answered going) ↔ ((v : List ℕ) × Accepts (automaton (parse s)) ((w ++ (a ∷ [])) ++ v))
  takes_iff {words} {w} tr running a h e = (
    λ g. running_finishes (takes tr a g) (going_runs s' words w (trace_stands s' tr) a g),
    λ n. by n next.stopped refl,
  ) where
    next : ReaderState
    next = letter_state (parse s') a (state_after (parse s') w)

    by : (v : List ℕ) × Accepts (automaton (parse s)) ((w ++ (a ∷ [])) ++ v) → (b : Bool) → next.stopped ≡ b → (letter_call s' words a).answer ≡ answered going
    by (v, n) true f = absurd ((stops_iff tr running a h e).0 ((letter_stops_iff s' tr running a h e).1 f) v n)
    by n false f = e ∙ ap answered ((letter_leads s' words w (trace_stands s' tr) running a h e).2 ∙ (heard_going_iff next).1 f)

-- So 11 hides none: where the reader refuses a letter with it, no log that the original accepts has that letter.
pub eleven_hides_none : (s s' : List ℕ) → verdict s ≡ 0 → parse s' ≡ trim_table (parse s) → {words w : List ℕ} → Trace s' words w → (a : ℕ)
    → (letter_call s' words a).answer ≡ refused 11 → {v : List ℕ} → Accepts (automaton (parse s)) v → Memᴰ a v → ⊥
eleven_hides_none s s' good trimmed {words} tr a e h m = by ((trace_letter_refused_iff s' tr a 11).0 e).1 where
  by : LetterReason (parse s') (state_in words) a 11 → ⊥
  by (past_letters l) = omega (arith, accepted_letters (parse s) (good_table s good) h m, ap length (ap (λ t. t.kinds) trimmed ∙ trimmed_kinds (parse s)))
