-- What the loop over a log holds on to: the state that the reader's calls would have put into the words.
use Prim.Native.Nat.{ℕ, suc, ◌+◌, ◌≤◌, ◌<◌}
use mathlib.Core.Bool.{true, false}
use mathlib.Core.List.{List, [], ◌∷◌}
use mathlib.Core.Logic.{inr}
use mathlib.Core.Path.{◌≡◌, refl, sym, ap, subst, ◌∙◌}
use native.Mathlib.Omega.{arith}
use lib.ListN.{length, get_or, drop, drop_of_length-le}
use lib.Seq.{drop-cons}
use Rattle.vpa.specs.ReaderComputed.{Blocks, ReaderState, stop_at, begin_state, letter_state, heard, finish_heard}
use Rattle.vpa.specs.TableOnDisk.{state_count}
use Rattle.vpa.proofs.ReaderStates.{heard_going_iff, heard_stop_iff}
use Rattle.table.specs.Answers.{refused, answered}
use Rattle.table.specs.Layout.{parse}
use Rattle.table.specs.Refusals.{verdict}
use Rattle.table.proofs.Lent.{on_lent}
use Rattle.table.proofs.Tables.{good_storable}
use Rattle.nesting.specs.Scratch.{KeptFrom}
use Rattle.nesting.proofs.Cleared.{kept_none, kept_then}
use Rattle.reader.specs.declared.Head.{Head}
use Rattle.reader.specs.Calls.{Reply, reply, begin_call, letter_on, letter_call, finish_call, IsState}
use Rattle.reader.specs.Layout.{state_size, depth_in, blocks_in, state_in, state_words, in_place}
use Rattle.reader.specs.Refusals.{letter_verdict}
use Rattle.reader.specs.Steps.{state_with, Ready, Stepped}
use Rattle.reader.proofs.CallLaws.{on_refused, on_step, on_letter, finish_answers}
use Rattle.reader.proofs.Fitting.{begin_fits, letter_fits}
use Rattle.reader.proofs.InPlace.{in_place_back, in_place_legal, in_place_long, in_place_over, in_place_keeps}
use Rattle.reader.proofs.Legal.{legal_ready}
use Rattle.reader.proofs.Words.{Fits}
use Rattle.whole_log.specs.Calls.{goes?, followed, log_answer}

-- The reply after a state was put into words.
abbrev pub after : ReaderState → List ℕ → Reply
after r words = reply (answered (heard r)) (in_place r words)

refusal_ends : (s log : List ℕ) (k : ℕ) (words : List ℕ) → followed s log (reply (refused k) words) ≡ refused k
unfolding followed goes?
refusal_ends s [] k words = refl
refusal_ends s (a ∷ log) k words = refl

module _ (s : List ℕ) (good : verdict s ≡ 0) where
  small : state_count (parse s) ≤ 64
  small = (good_storable s good).states

  -- A call on words in which a state that fits was put.
  module _ (r : ReaderState) (fits : Fits (parse s) r) (words : List ℕ) where
    is_state : IsState s (in_place r words)
    is_state = record { good = good; long = in_place_long r words; legal = in_place_legal (parse s) r words small fits }

    letter_on_lem : (a : ℕ) → letter_call s (in_place r words) a ≡ letter_on (parse s) (in_place r words) r a
    letter_on_lem a = on_letter s (in_place r words) is_state a ∙ ap (λ q. letter_on (parse s) (in_place r words) q a) (in_place_back (parse s) r words small fits)

    finish_on : (finish_call s (in_place r words)).answer ≡ answered (finish_heard (parse s) r)
    finish_on = (finish_answers s (in_place r words) is_state).0 ∙ ap (λ q. answered (finish_heard (parse s) q)) (in_place_back (parse s) r words small fits)

  -- What follows on a state: nothing more where it is stopped; else finish, or the next letter, which is refused or read.
  pub stop_followed : (log : List ℕ) (r : ReaderState) (words : List ℕ) → r.stopped ≡ true → followed s log (after r words) ≡ answered (stop_at r.taken)
  unfolding followed goes?
  stop_followed [] r words e = rw ((heard_stop_iff r r.taken).1 (e, refl))
  stop_followed (a ∷ log) r words e = rw ((heard_stop_iff r r.taken).1 (e, refl))

  pub end_followed : (r : ReaderState) (words : List ℕ) → Fits (parse s) r → r.stopped ≡ false → followed s [] (after r words) ≡ answered (finish_heard (parse s) r)
  unfolding followed goes?
  end_followed r words fits e = rw ((heard_going_iff r).1 e) (finish_on r fits words)

  module _ (a : ℕ) (log : List ℕ) (r : ReaderState) (words : List ℕ) (fits : Fits (parse s) r) (e : r.stopped ≡ false) where
    letter_followed : followed s (a ∷ log) (after r words) ≡ followed s log (letter_on (parse s) (in_place r words) r a)
    unfolding followed goes?
    letter_followed = rw ((heard_going_iff r).1 e, letter_on_lem r fits words a)

    pub refused_followed : {k : ℕ} → letter_verdict (parse s) r a ≡ k → (k ≡ 0 → ⊥) → followed s (a ∷ log) (after r words) ≡ refused k
    refused_followed {k} v n = letter_followed ∙ ap (followed s log) (on_refused (parse s) (in_place r words) r a e v n) ∙ refusal_ends s log k (in_place r words)

    pub step_followed : letter_verdict (parse s) r a ≡ 0 → followed s (a ∷ log) (after r words) ≡ followed s log (after (letter_state (parse s) a r) words)
    step_followed v =
        letter_followed ∙ ap (followed s log) (on_step (parse s) (in_place r words) r a e v
        ∙ ap (reply (answered (heard (letter_state (parse s) a r)))) (in_place_over (letter_state (parse s) a r) r words))

-- A log that has been read to letter number i: the head runs, its blocks are in the words, and what is answered in the end is what follows from there.
pub record ReadTo (s log before : List ℕ) (i : ℕ) (head : Head) (words : List ℕ) : Type 0 where
  pub low : i ≤ length log
  pub runs : head.stopped ≡ false
  pub ready : Ready (parse s) words head.depth
  pub fits : Fits (parse s) (state_with head words)
  pub kept : KeptFrom state_size before words
  pub answers : followed s (drop i log) (after (state_with head words) before) ≡ log_answer s log before

module _ (s : List ℕ) (good : verdict s ≡ 0) where
  pub begin_put : (words : List ℕ) → state_size ≤ length words → begin_call s words ≡ after (begin_state (parse s)) words
  begin_put words l = on_lent state_size s words _ (λ k. reply (refused k) words) good l

  -- Begin: the words stand for the first state.
  module _ (log before words : List ℕ) (long : state_size ≤ length before) (head : Head)
      (first : head ≡ record { taken = 0; depth = 0; stopped = (begin_state (parse s)).stopped }) (put : words ≡ in_place (begin_state (parse s)) before) where
    long_after : state_size ≤ length words
    long_after = rw put (in_place_long (begin_state (parse s)) before)

    pub begin_kept : KeptFrom state_size before words
    begin_kept = rw put (in_place_keeps (begin_state (parse s)) before long)

    first_fits : Fits (parse s) (begin_state (parse s))
    first_fits = begin_fits (parse s)

    back : state_in words ≡ begin_state (parse s)
    back = ap state_in put ∙ in_place_back (parse s) (begin_state (parse s)) before (small s good) first_fits

    depth_none : depth_in words ≡ 0
    unfolding in_place state_words begin_state
    depth_none = rw put

    with_blocks : Blocks → ReaderState
    with_blocks bs = record { taken = 0; stopped = (begin_state (parse s)).stopped; blocks = bs }

    first_blocks : blocks_in words 0 ≡ (begin_state (parse s)).blocks
    unfolding state_in
    first_blocks = ap (blocks_in words) (sym depth_none) ∙ ap (λ (r : ReaderState). r.blocks) back

    begin_state_lem : state_with head words ≡ begin_state (parse s)
    unfolding state_with begin_state with_blocks
    begin_state_lem = ap (λ (h : Head). state_with h words) first
        ∙ ap (λ (bs : Blocks). with_blocks bs) first_blocks

    begin_answers : followed s log (after (begin_state (parse s)) before) ≡ log_answer s log before
    begin_answers = ap (followed s log) (sym (begin_put before long))

    -- Begun again on these words, the reader would answer the same.
    pub answers_same : log_answer s log words ≡ log_answer s log before
    answers_same =
        ap (followed s log) (begin_put words long_after ∙ ap (reply (answered (heard (begin_state (parse s))))) (ap (in_place (begin_state (parse s))) put ∙ in_place_over (begin_state (parse s)) (begin_state (parse s)) before))
        ∙ begin_answers

    pub begin_stopped : head.stopped ≡ true → answered (stop_at head.taken) ≡ log_answer s log before
    unfolding state_with
    begin_stopped e = sym (stop_followed s good log (state_with head words) before e) ∙ ap (λ r. followed s log (after r before)) begin_state_lem ∙ begin_answers

    pub read_none : head.stopped ≡ false → ReadTo s log words 0 head words
    read_none e = record {
      low = omega arith;
      runs = e;
      ready = subst (Ready (parse s) words) (depth_none ∙ sym (ap (λ (h : Head). h.depth) first))
          (legal_ready (parse s) words long_after (rw put (in_place_legal (parse s) (begin_state (parse s)) before (small s good) first_fits))).0;
      fits = subst (Fits (parse s)) (sym begin_state_lem) first_fits;
      kept = kept_none state_size words;
      answers = ap (λ r. followed s log (after r words)) begin_state_lem ∙ ap (followed s log) (sym (begin_put words long_after));
    }

  -- A letter: it is refused, or the state after it stands in the words, which runs on or is stopped.
  module _ {log before words : List ℕ} {i letter : ℕ} {head : Head} (h : ReadTo s log before i head words) (l : i < length log) (is : letter ≡ get_or log i 0) where
    one : i + 1 ≡ suc i
    one = omega arith

    next_letter : followed s (letter ∷ drop (i + 1) log) (after (state_with head words) before) ≡ log_answer s log before
    next_letter = ap (λ log. followed s log (after (state_with head words) before)) (rw (one, is) (sym (drop-cons log i 0 l))) ∙ h.answers

    runs : (state_with head words).stopped ≡ false
    unfolding state_with
    runs = h.runs

    pub read_refused : {k : ℕ} → letter_verdict (parse s) (state_with head words) letter ≡ k → (k ≡ 0 → ⊥) → refused k ≡ log_answer s log before
    read_refused v n = sym (refused_followed s good letter _ _ before h.fits runs v n) ∙ next_letter

    module _ {next : Head} {later : List ℕ} (v : letter_verdict (parse s) (state_with head words) letter ≡ 0)
        (step : Stepped (parse s) letter head words next later) where
      pub step_kept : KeptFrom state_size before later
      step_kept = kept_then h.kept (record { long = step.changed.long; rest = λ i l. step.changed.rest i (inr l) })

      step_answers : followed s (drop (i + 1) log) (after (state_with next later) before) ≡ log_answer s log before
      step_answers = ap (λ r. followed s (drop (i + 1) log) (after r before)) step.state
          ∙ sym (step_followed s good letter _ _ before h.fits runs v) ∙ next_letter

      pub read_stopped : next.stopped ≡ true → answered (stop_at next.taken) ≡ log_answer s log before
      unfolding state_with
      read_stopped e = sym (stop_followed s good (drop (i + 1) log) (state_with next later) before e) ∙ step_answers

      pub read_more : next.stopped ≡ false → ReadTo s log before (i + 1) next later
      read_more e = record {
        low = omega arith;
        runs = e;
        ready = step.ready;
        fits = subst (Fits (parse s)) (sym step.state) (letter_fits (parse s) letter _ h.fits v);
        kept = step_kept;
        answers = step_answers;
      }

  -- All letters are read: finish.
  pub read_ended : {log before words : List ℕ} {i : ℕ} {head : Head} → ReadTo s log before i head words → length log ≤ i
      → answered (finish_heard (parse s) (state_with head words)) ≡ log_answer s log before
  unfolding state_with
  read_ended {log} {before} {words} {i} {head} h l =
      sym (end_followed s good (state_with head words) before h.fits h.runs)
      ∙ ap (λ log. followed s log (after (state_with head words) before)) (sym (drop_of_length-le log l)) ∙ h.answers
