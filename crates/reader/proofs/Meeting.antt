-- How the code comes to what the calls answer and leave in the words.
use Prim.Native.Nat.{ℕ, zero, suc, ◌<◌, ◌≤◌}
use mathlib.Core.Bool.{Bool, true, false, cond}
use mathlib.Core.List.{List}
use mathlib.Core.Logic.{◌↔◌}
use mathlib.Core.Path.{◌≡◌, refl, sym, ap, subst, ◌∙◌}
use native.Mathlib.Omega.{arith}
use lib.Dec.{T, eqb}
use lib.ListN.{length, get_or}
use Rattle.vpa.specs.Reader.{FinishedBlock, nothing, block}
use Rattle.vpa.specs.ReaderComputed.{ReaderState, Heard, going, accepted, unfinished, stop_at, finished?, begin_state, heard, finish_heard, Shows}
use Rattle.vpa.specs.TableOnDisk.{Table, state_count, automaton}
use Rattle.vpa.proofs.TableReader.{finished_iff}
use Rattle.vpa.proofs.ReaderStates.{finish_stopped}
use Rattle.table.specs.Answers.{Answer, refused, answered}
use Rattle.table.specs.Layout.{parse}
use Rattle.table.specs.Refusals.{verdict}
use Rattle.table.proofs.All.{both}
use Rattle.table.proofs.Lent.{on_no_table, on_short, on_lent}
use Rattle.relation.specs.Relations.{Holds}
use Rattle.reader.specs.declared.Head.{Head}
use Rattle.reader.specs.Calls.{Reply, reply, with_state, with_legal, begin_on, letter_on, finish_call}
use Rattle.reader.specs.Layout.{leading, state_size, taken_in, depth_in, stopped_in, letter_in, rows_in, blocks_in, state_in, depth_of, in_place}
use Rattle.reader.specs.Refusals.{leading?, legal?, letter_verdict}
use Rattle.reader.specs.Steps.{state_with, Ready, Stepped, Written, head_words}
use Rattle.reader.proofs.CallLaws.{on_stopped, on_refused, on_step}
use Rattle.reader.proofs.Legal.{ready_long, ready_rows, legal_ready}
use Rattle.reader.proofs.Placing.{stepped_placed}
use Rattle.reader.proofs.Words.{blocks_length, pairs_listed}

-- The head that stands in words, and its state.
abbrev pub head_of : List ℕ → Head
head_of words = record { taken = taken_in words; depth = depth_in words; stopped = eqb (stopped_in words) 1 }

pub head_state : (words : List ℕ) {head : Head} → head ≡ head_of words → state_with head words ≡ state_in words
unfolding state_with state_in
head_state words e = rw e

-- Legal words: their head may be taken out, and they are ready to its depth.
module _ (t : Table) (words : List ℕ) (legal : legal? t words ≡ true) where
  pub legal_leading : leading? words ≡ true
  unfolding legal?
  legal_leading = (both (leading? words) _ legal).0

  pub head_ready : {head : Head} → state_size ≤ length words → head ≡ head_of words → Ready t words head.depth
  head_ready long e = rw e (legal_ready t words long legal).0

-- Two tests that pass together are the same.
same : (a b : Bool) → (T a → T b) → (T b → T a) → a ≡ b
same true true f g = refl
same true false f g = absurd (f tt)
same false true f g = absurd (g tt)
same false false f g = refl

-- What a head answers is what its state answers.
heard_by_lem : (r : ReaderState) → cond r.stopped (stop_at r.taken) going ≡ heard r
unfolding heard
heard_by_lem r = by r.stopped where
  by : (b : Bool) → ◌≡◌ {A = Heard} (cond b (stop_at r.taken) going) (elim b [ true ↦ stop_at r.taken | false ↦ going ])
  by true = refl
  by false = refl

abbrev HeadAnswers : Head → Answer Heard → Type 0
HeadAnswers head answer = answer ≡ answered (cond head.stopped (stop_at head.taken) going)

head_heard : (head : Head) (words : List ℕ) {r : ReaderState} {answer : Answer Heard} → state_with head words ≡ r → HeadAnswers head answer → answer ≡ answered (heard r)
unfolding state_with
head_heard head words e h = h ∙ ap answered (heard_by_lem (state_with head words) ∙ ap heard e)

-- The depth of a head is that of its state.
pub head_depth : (head : Head) (words : List ℕ) → depth_of (state_with head words) ≡ head.depth
unfolding state_with
head_depth head words = omega (arith, blocks_length words head.depth)

-- THE END OF A LOG

module _ (t : Table) (head : Head) (words : List ℕ) where
  pub end_stopped : head.stopped ≡ true → finish_heard t (state_with head words) ≡ stop_at head.taken
  unfolding state_with
  end_stopped e = finish_stopped t (state_with head words) e

  -- Running: by the test of the blocks.
  end_running : head.stopped ≡ false → (b : Bool) → finished? t (blocks_in words head.depth) ≡ b → finish_heard t (state_with head words) ≡ cond b accepted unfinished
  unfolding finish_heard state_with
  end_running e b f = rw (e, f, finish_heard) (by b) where
    by : (b : Bool) → ◌≡◌ {A = Heard} (elim b [ true ↦ accepted | false ↦ unfinished ]) (cond b accepted unfinished)
    by true = refl
    by false = refl

  -- Not at depth 0.
  deep_blocks : (d : ℕ) → (d ≡ 0 → ⊥) → finished? t (blocks_in words d) ≡ false
  unfolding finished? blocks_in
  deep_blocks zero n = absurd (n refl)
  deep_blocks (suc zero) n = refl
  deep_blocks (suc (suc d)) n = refl

  pub end_deep : head.stopped ≡ false → (head.depth ≡ 0 → ⊥) → finish_heard t (state_with head words) ≡ unfinished
  end_deep e n = end_running e false (deep_blocks head.depth n)

  -- At depth 0: by what the pairs say.
  module _ (small : state_count t ≤ 64) (ready : Ready t words head.depth) (running : head.stopped ≡ false) (flat : head.depth ≡ 0) where
    last_shown : Shows t (blocks_in words 0) (block (letter_in words 0) (Holds (rows_in words 0)) nothing)
    unfolding blocks_in Shows
    last_shown = (refl, pairs_listed t small (ready_long t words ready 0 (omega arith)) (ready_rows t words ready 0 (omega arith)), tt)

    last_test : (b : Bool) → T b ↔ FinishedBlock (automaton t) (Holds (rows_in words 0)) → finished? t (blocks_in words head.depth) ≡ b
    last_test b h = rw flat (same _ b means.0 means.1) where
      means : T (finished? t (blocks_in words 0)) ↔ T b
      means =
          let i = finished_iff t (blocks_in words 0) (block (letter_in words 0) (Holds (rows_in words 0)) nothing) last_shown in
          (λ x. h.1 (i.0 x), λ x. i.1 (h.0 x))

    pub end_flat : (b : Bool) → T b ↔ FinishedBlock (automaton t) (Holds (rows_in words 0)) → finish_heard t (state_with head words) ≡ cond b accepted unfinished
    end_flat b h = end_running running b (last_test b h)

-- REPLIES

abbrev pub Meets : Reply → Answer Heard → List ℕ → Type 0
Meets r answer words = (answer ≡ r.answer) × (words ≡ r.words)

pub meets : {r : Reply} {answer : Answer Heard} {words : List ℕ} → r ≡ reply answer words → Meets r answer words
meets e = (sym (ap (λ r. r.answer) e), sym (ap (λ r. r.words) e))

pub meets_same : {r q : Reply} {answer : Answer Heard} {words : List ℕ} → r ≡ q → Meets q answer words → Meets r answer words
meets_same {answer = answer} {words} e h = subst (λ r. Meets r answer words) (sym e) h

-- A letter, case by case.
module _ (t : Table) (words : List ℕ) (a : ℕ) {head : Head} (is : head ≡ head_of words) where
  -- By the head that stands in the words.
  by_head : letter_on t words (state_in words) a ≡ letter_on t words (state_with head words) a
  by_head = rw (head_state words is)

  pub meets_stopped : {answer : Answer Heard} → head.stopped ≡ true → HeadAnswers head answer → Meets (letter_on t words (state_in words) a) answer words
  unfolding state_with
  meets_stopped {answer} e h = meets (by_head ∙ on_stopped t words (state_with head words) a e ∙ ap (λ (x : Answer Heard). reply x words) (sym (rw e at h)))

  pub meets_verdict : {k : ℕ} → head.stopped ≡ false → letter_verdict t (state_with head words) a ≡ k → (k ≡ 0 → ⊥) → Meets (letter_on t words (state_in words) a) (refused k) words
  unfolding state_with
  meets_verdict e v n = meets (by_head ∙ on_refused t words (state_with head words) a e v n)

  pub meets_letter : {next : Head} {after last : List ℕ} {answer : Answer Heard} → head.stopped ≡ false → letter_verdict t (state_with head words) a ≡ 0 → state_count t ≤ 64
      → Stepped t a head words next after → Written 0 leading (λ j. get_or (head_words next) j 0) after last → HeadAnswers next answer → Meets (letter_on t words (state_in words) a) answer last
  unfolding state_with
  meets_letter {next} {after} e v small h put answers =
      meets (by_head ∙ on_step t words (state_with head words) a e v ∙ rw (head_heard next after h.state answers, stepped_placed t a small v h put))

-- The calls.
module _ (s words : List ℕ) where
  pub meets_no_table : (good : Reply) {k : ℕ} → verdict s ≡ k → (k ≡ 0 → ⊥) → Meets (with_state s words good) (refused k) words
  meets_no_table good v n = meets (on_no_table state_size s words good (λ k. reply (refused k) words) (λ z. n (sym v ∙ z)) ∙ rw v)

  module _ (table : verdict s ≡ 0) where
    pub meets_short : (good : Reply) → length words < state_size → Meets (with_state s words good) (refused 7) words
    meets_short good l = meets (on_short state_size s words good (λ k. reply (refused k) words) table l)

    module _ (long : state_size ≤ length words) where
      pub meets_lent : {good : Reply} {answer : Answer Heard} {after : List ℕ} → Meets good answer after → Meets (with_state s words good) answer after
      meets_lent {good} = meets_same (on_lent state_size s words good (λ k. reply (refused k) words) table long)

      pub meets_legal : {good : Reply} {answer : Answer Heard} {after : List ℕ} → legal? (parse s) words ≡ true → Meets good answer after → Meets (with_legal s words good) answer after
      meets_legal e h = meets_lent (meets_same (rw e) h)

      pub meets_begun : {head : Head} {answer : Answer Heard} {after : List ℕ} → head ≡ record { taken = 0; depth = 0; stopped = (begin_state (parse s)).stopped } → HeadAnswers head answer
          → after ≡ in_place (begin_state (parse s)) words → Meets (with_state s words (begin_on (parse s) words)) answer after
      unfolding begin_state
      meets_begun e h p = meets_lent (h ∙ rw e (ap answered (heard_by_lem (begin_state (parse s)))), p)

      pub meets_finish : {head : Head} {answer : Answer Heard} → legal? (parse s) words ≡ true → head ≡ head_of words → answer ≡ answered (finish_heard (parse s) (state_with head words))
          → Meets (finish_call s words) answer words
      meets_finish legal is h = meets_legal legal (h ∙ rw (head_state words is), refl)

-- Of finish the answer alone is asked.
pub answers : (s words : List ℕ) {answer : Answer Heard} → Meets (finish_call s words) answer words → answer ≡ (finish_call s words).answer
answers s words h = h.0
