-- What the reader's three calls answer and leave, in the words of document 01: each in its cases, which numbers refuse and that these are exact, which words
-- stay. Last, two outcomes that meet a contract are one: it leaves nothing open.
use Prim.Native.Nat.{zero, suc, ℕ, ◌<◌, ◌≤◌}
use mathlib.Core.Bool.{Bool, true, false, cond}
use mathlib.Core.List.{List}
use mathlib.Core.Logic.{◌↔◌, ◌⊎◌, inl, inr, ⊎_elim}
use mathlib.Core.Path.{◌≡◌, refl, sym, ap, subst, ◌∙◌}
use native.Mathlib.Omega.{arith}
use borrow.Author.Tests.{ne_eqb}
use lib.ListN.{length, take, drop, set}
use Rattle.vpa.specs.ReaderComputed as vpa
use Rattle.vpa.specs.ReaderComputed.{ReaderState, going, accepted, unfinished, stop_at, begin_state, letter_state, heard, finish_heard, ListsPairs, Shows}
use Rattle.vpa.specs.TableOnDisk.{Table, state_count, automaton}
use Rattle.vpa.specs.Reader.{Reading, candidate, Going}
use Rattle.vpa.proofs.ReaderStates.{finish_stopped, heard_going_iff, heard_stop_iff, stop_keeps, step_goes, step_stops}
use Rattle.std.specs.Prelude.{Result}
use Rattle.table.specs.declared.refusal.Refusal.{Refusal}
use Rattle.table.specs.Answers.{Answer, refused, answered}
use Rattle.table.specs.Bytes.{AreBytes}
use Rattle.table.specs.Calls.{with_lent}
use Rattle.table.specs.Layout.{parse}
use Rattle.table.specs.Refusals.{verdict}
use Rattle.table.proofs.CallLaws.{told_once}
use Rattle.table.proofs.Lent.{Lent, is_no_table, is_short, is_lent, lent, on_no_table, on_short, on_lent, RefusedFor, lent_refused_iff}
use Rattle.table.proofs.Tables.{good_storable, good_table}
use Rattle.relation.specs.Relations.{Holds}
use Rattle.reader.specs.declared.Heard.{Heard}
use Rattle.reader.specs.declared.Heard.TheVariants as heards
use Rattle.reader.specs.Answers.{heard_meant, heard_as}
use Rattle.reader.specs.Calls.{Reply, reply, with_state, with_legal, begin_on, begin_call, letter_on, letter_call, finish_call, IsState}
use Rattle.reader.specs.Layout.{state_size, taken_in, state_in, state_words, in_place, depth_in, rows_in, pairs_in, blocks_in, reading_in}
use Rattle.reader.specs.Refusals.{Broken, legal?, letter_verdict, LetterReason}
use Rattle.reader.specs.Steps.{Ready}
use Rattle.reader.proofs.Verdicts.{Judged, may_go, may_not, judged, reason_verdict, reason_number}
use Rattle.reader.proofs.Illegal.{illegal_broken}
use Rattle.reader.proofs.Legal.{legal_iff, legal_ready, ready_long, ready_rows}
use Rattle.reader.proofs.InPlace.{in_place_front, in_place_further, in_place_length, legal_in_place, alike_legal, alike_state, in_place_back, legal_fits}
use Rattle.reader.proofs.Fitting.{letter_fits}
use Rattle.reader.proofs.Words.{pairs_listed}

-- A reply, by its two parts.
abbrev pub Replies : Reply → Answer vpa.Heard → List ℕ → Type 0
Replies r answer after = (r.answer ≡ answer) × (r.words ≡ after)

replies : {r : Reply} (answer : Answer vpa.Heard) (after : List ℕ) → r ≡ reply answer after → Replies r answer after
replies answer after e = (ap (λ r. r.answer) e, ap (λ r. r.words) e)

-- A state that is stopped where it stood differs in word 2.
stopped_in_place : (r : ReaderState) (words : List ℕ) → in_place (record { taken = r.taken; stopped = true; blocks = r.blocks }) words ≡ set (in_place r words) 2 1
unfolding in_place state_words
stopped_in_place r words = refl

-- A letter on a state, in its cases.
module _ (t : Table) (words : List ℕ) (r : ReaderState) (a : ℕ) where
  pub on_stopped : r.stopped ≡ true → letter_on t words r a ≡ reply (answered (stop_at r.taken)) words
  unfolding letter_on heard
  on_stopped e = rw e

  pub on_refused : r.stopped ≡ false → {k : ℕ} → letter_verdict t r a ≡ k → (k ≡ 0 → ⊥) → letter_on t words r a ≡ reply (refused k) words
  unfolding letter_on
  on_refused e v n = rw (v, e, ne_eqb _ _ n)

  for_reason : r.stopped ≡ false → {k : ℕ} → LetterReason t r a k → letter_on t words r a ≡ reply (refused k) words
  for_reason e w = on_refused e (reason_verdict t r a w) (λ z. omega (arith, reason_number t r a w))

  pub on_step : r.stopped ≡ false → letter_verdict t r a ≡ 0 → letter_on t words r a ≡ reply (answered (heard (letter_state t a r))) (in_place (letter_state t a r) words)
  unfolding letter_on
  on_step e v = rw (v, e)

  pub on_refused_iff : (k : ℕ) → ((letter_on t words r a).answer ≡ refused k) ↔ ((r.stopped ≡ false) × LetterReason t r a k)
  on_refused_iff k = (λ e. forth e r.stopped refl (judged t r a), λ h. ap (λ x. x.answer) (for_reason h.0 h.1)) where
    forth : (letter_on t words r a).answer ≡ refused k → (b : Bool) → r.stopped ≡ b → Judged t r a → (r.stopped ≡ false) × LetterReason t r a k
    forth e true f j = absurd (let o : ◌≡◌ {A = ℕ} 0 1 = cc (on_stopped f) in omega arith)
    forth e false f (may_go v l g d) = absurd (let o : ◌≡◌ {A = ℕ} 0 1 = cc (on_step f v) in omega arith)
    forth e false f (may_not j v w) = let same : j ≡ k = cc (for_reason f w) in (f, subst (LetterReason t r a) same w)

-- What a letter makes of the state in the words.
abbrev pub next_in : List ℕ → List ℕ → ℕ → ReaderState
next_in s words a = letter_state (parse s) a (state_in words)

-- The calls on words that stand for a state.
module _ (s words : List ℕ) (is : IsState s words) where
  pub on_state : (x : Reply) → with_legal s words x ≡ x
  on_state x = on_lent state_size s words _ (λ k. reply (refused k) words) is.good is.long ∙ rw is.legal

  pub on_letter : (a : ℕ) → letter_call s words a ≡ letter_on (parse s) words (state_in words) a
  on_letter a = on_state (letter_on (parse s) words (state_in words) a)

  -- Finish is not refused. A stopped reader answers the same Stop to every letter and at the end, its place the number of letters taken, and changes nothing.
  pub finish_answers : Replies (finish_call s words) (answered (finish_heard (parse s) (state_in words))) words
  finish_answers = replies _ _ (on_state (reply (answered (finish_heard (parse s) (state_in words))) words))

  pub stopped_finish : (state_in words).stopped ≡ true → (finish_call s words).answer ≡ answered (stop_at (taken_in words))
  unfolding state_in
  stopped_finish e = finish_answers.0 ∙ ap answered (finish_stopped (parse s) (state_in words) e)

  pub stopped_letter : (state_in words).stopped ≡ true → (a : ℕ) → Replies (letter_call s words a) (answered (stop_at (taken_in words))) words
  unfolding state_in
  stopped_letter e a = replies _ _ (on_letter a ∙ on_stopped (parse s) words (state_in words) a e)

  -- A letter can be refused for itself, and 11, 12 and 13 are exact.
  pub letter_number_iff : (a k : ℕ) → ((letter_call s words a).answer ≡ refused k) ↔ (((state_in words).stopped ≡ false) × LetterReason (parse s) (state_in words) a k)
  letter_number_iff a k =
      let i = on_refused_iff (parse s) words (state_in words) a k in
      let d = ap (λ r. r.answer) (on_letter a) in
      (λ e. i.0 (sym d ∙ e), λ w. d ∙ i.1 w)

  module _ (running : (state_in words).stopped ≡ false) (a : ℕ) where
    refused_letter : {k : ℕ} → LetterReason (parse s) (state_in words) a k → Replies (letter_call s words a) (refused k) words
    refused_letter w = replies _ _ (on_letter a ∙ for_reason (parse s) words (state_in words) a running w)

    -- Else a running reader answers by the state that the letter leads to, which is put in place.
    step_letter : letter_verdict (parse s) (state_in words) a ≡ 0 → Replies (letter_call s words a) (answered (heard (next_in s words a))) (in_place (next_in s words a) words)
    step_letter v = replies _ _ (on_letter a ∙ on_step (parse s) words (state_in words) a running v)

    pub letter_answers : (h : vpa.Heard) → (letter_call s words a).answer ≡ answered h
        → (letter_verdict (parse s) (state_in words) a ≡ 0) × (h ≡ heard (next_in s words a)) × ((letter_call s words a).words ≡ in_place (next_in s words a) words)
    letter_answers h e = by (judged (parse s) (state_in words) a) where
      by : Judged (parse s) (state_in words) a
          → (letter_verdict (parse s) (state_in words) a ≡ 0) × (h ≡ heard (next_in s words a)) × ((letter_call s words a).words ≡ in_place (next_in s words a) words)
      by (may_go v l g d) = let same : h ≡ heard (next_in s words a) = cc (step_letter v).0 in (v, same, (step_letter v).1)
      by (may_not k v w) = absurd (let o : ◌≡◌ {A = ℕ} 0 1 = cc (refused_letter w).0 in omega arith)

    -- Where that one is stopped, only word 2 is another.
    pub stop_words : (next_in s words a).stopped ≡ true → (heard (next_in s words a) ≡ stop_at (taken_in words)) × (in_place (next_in s words a) words ≡ set words 2 1)
    unfolding heard state_in
    stop_words e =
        let d = stop_keeps (parse s) a (state_in words) running e in
        let low : state_count (parse s) ≤ 64 = omega (arith, (good_storable s is.good).states) in (
          ap heard d,
          ap (λ r. in_place r words) d
              ∙ stopped_in_place (state_in words) words
              ∙ ap (λ (x : List ℕ). set x 2 1) (legal_in_place (parse s) words low is.long is.legal),
        )

    pub letter_stops_word : (place : ℕ) → (letter_call s words a).answer ≡ answered (stop_at place) → ((letter_call s words a).words ≡ set words 2 1) × (place ≡ taken_in words)
    letter_stops_word place e =
        let r = letter_answers (stop_at place) e in
        let d = stop_words ((heard_stop_iff (next_in s words a) place).0 (sym r.1)).0 in
        let same : place ≡ taken_in words = cc (r.1, d.0) in
        (r.2 ∙ d.1, same)

-- Words that stand for a state show a reading, however they came about.
module _ (s words : List ℕ) (is : IsState s words) where
  shows_to : (d : ℕ) → d ≤ depth_in words → Shows (parse s) (blocks_in words d) (reading_in words d)
  unfolding blocks_in Shows reading_in
  shows_to d l = by d l where
    ready : Ready (parse s) words (depth_in words)
    ready = (legal_ready (parse s) words is.long is.legal).0

    lists : (d : ℕ) → d ≤ depth_in words → ListsPairs (parse s) (pairs_in (rows_in words d)) (Holds (rows_in words d))
    lists d l = pairs_listed (parse s) (good_storable s is.good).states (ready_long (parse s) words ready d l) (ready_rows (parse s) words ready d l)

    by : (d : ℕ) → d ≤ depth_in words → Shows (parse s) (blocks_in words d) (reading_in words d)
    by zero l = (refl, lists zero l, tt)
    by (suc d) l = (refl, lists (suc d) l, by d (omega arith))

  pub state_shows : Shows (parse s) (state_in words).blocks (reading_in words (depth_in words))
  unfolding state_in
  state_shows = shows_to (depth_in words) (omega arith)

  -- A letter that is not refused, on a running state that shows a reading: where the candidate goes on, Going is answered and the state afterwards shows it, with one
  -- letter more; where it does not, Stop.
  module _ (k : Reading ℕ) (shows : Shows (parse s) (state_in words).blocks k) (running : (state_in words).stopped ≡ false) (a : ℕ) (h : vpa.Heard)
      (heard-so : (letter_call s words a).answer ≡ answered h) where
    next_is : (letter_verdict (parse s) (state_in words) a ≡ 0) × (h ≡ heard (next_in s words a)) × ((letter_call s words a).words ≡ in_place (next_in s words a) words)
    next_is = letter_answers s words is running a h heard-so

    pub letter_goes : Going (candidate (automaton (parse s)) a k) → (h ≡ going)
        × Shows (parse s) (state_in (letter_call s words a).words).blocks (candidate (automaton (parse s)) a k)
        × (taken_in (letter_call s words a).words ≡ suc (taken_in words))
    unfolding state_in
    letter_goes g =
        let low = (good_storable s is.good).states in
        let step = step_goes (parse s) (good_table s is.good) a (state_in words) k running shows g in
        let fits = letter_fits (parse s) a (state_in words) (legal_fits (parse s) words low is.legal) next_is.0 in
        let back : state_in (letter_call s words a).words ≡ next_in s words a = ap state_in next_is.2 ∙ in_place_back (parse s) (next_in s words a) words low fits in (
          next_is.1 ∙ (heard_going_iff (next_in s words a)).1 (ap (λ r. r.stopped) step.0),
          subst (λ bs. Shows (parse s) bs (candidate (automaton (parse s)) a k)) (sym (ap (λ r. r.blocks) back)) step.1,
          ap (λ r. r.taken) back ∙ ap (λ r. r.taken) step.0,
        )

    pub letter_halts : (Going (candidate (automaton (parse s)) a k) → ⊥) → (h ≡ stop_at (taken_in words)) × ((letter_call s words a).words ≡ set words 2 1)
    letter_halts n =
        let stop = stop_words s words is running a (ap (λ r. r.stopped) (step_stops (parse s) (good_table s is.good) a (state_in words) k running shows n)) in
        (next_is.1 ∙ stop.0, next_is.2 ∙ stop.1)

-- Letter and finish begin alike: no table, too few words and words that stand for no state are refused, in this order, and the words stay.
data OnWords (s words : List ℕ) (x : Reply) : Type 0 where
  not_a_table : (verdict s ≡ 0 → ⊥) → Replies (with_legal s words x) (refused (verdict s)) words → OnWords s words x
  few_words : verdict s ≡ 0 → length words < state_size → Replies (with_legal s words x) (refused 7) words → OnWords s words x
  not_a_state : verdict s ≡ 0 → state_size ≤ length words → Broken (parse s) words → Replies (with_legal s words x) (refused 14) words → OnWords s words x
  a_state : IsState s words → OnWords s words x

on_words : (s words : List ℕ) (x : Reply) → OnWords s words x
on_words s words x = by (lent state_size s words y (λ k. reply (refused k) words)) (legal? (parse s) words) refl where
  y : Reply
  y = cond (legal? (parse s) words) x (reply (refused 14) words)

  by : Lent state_size s words y (λ k. reply (refused k) words) → (b : Bool) → legal? (parse s) words ≡ b → OnWords s words x
  by (is_no_table n e) b h = not_a_table n (replies _ _ e)
  by (is_short z l e) b h = few_words z l (replies _ _ e)
  by (is_lent z l e) false h = not_a_state z l (illegal_broken (parse s) words h) (replies _ _ (e ∙ rw h))
  by (is_lent z l e) true h = a_state (record { good = z; long = l; legal = h })

-- Replies that answer the same and leave words that begin alike.
abbrev pub SameFront : Reply → Reply → Type 0
SameFront x y = (x.answer ≡ y.answer) × (take state_size x.words ≡ take state_size y.words)

-- Further words are not looked at: words that begin alike, and are enough, get the same answer to a letter and at the end, and begin alike afterwards.
module _ (s words other : List ℕ) (long : state_size ≤ length words) (enough : state_size ≤ length other) (alike : take state_size words ≡ take state_size other) where
  low : verdict s ≡ 0 → state_count (parse s) ≤ 64
  low z = (good_storable s z).states

  same_front : (x y : Reply) → (state_in words ≡ state_in other → SameFront x y) → SameFront (with_legal s words x) (with_legal s other y)
  same_front x y h = by (on_words s words x) (on_words s other y) where
    kept : {k : ℕ} → Replies (with_legal s words x) (refused k) words → Replies (with_legal s other y) (refused k) other → SameFront (with_legal s words x) (with_legal s other y)
    kept a b = (a.0 ∙ sym b.0, rw (a.1, b.1) alike)

    by : OnWords s words x → OnWords s other y → SameFront (with_legal s words x) (with_legal s other y)
    by (not_a_table n a) (not_a_table m b) = kept a b
    by (not_a_table n a) (few_words z l b) = absurd (n z)
    by (not_a_table n a) (not_a_state z l c b) = absurd (n z)
    by (not_a_table n a) (a_state b) = absurd (n b.good)
    by (few_words z l a) b = absurd (omega arith)
    by (not_a_state z l c a) (not_a_table n b) = absurd (n z)
    by (not_a_state z l c a) (few_words m g b) = absurd (omega arith)
    by (not_a_state z l c a) (not_a_state m g d b) = kept a b
    by (not_a_state z l c a) (a_state b) = absurd ((legal_iff (parse s) words).0 (alike_legal (parse s) other words (low b.good) b.long (sym alike) b.legal) c)
    by (a_state a) (not_a_table n b) = absurd (n a.good)
    by (a_state a) (few_words z l b) = absurd (omega arith)
    by (a_state a) (not_a_state z l c b) = absurd ((legal_iff (parse s) other).0 (alike_legal (parse s) words other (low a.good) a.long alike a.legal) c)
    by (a_state a) (a_state b) =
        rw (on_state s words a x, on_state s other b y) (h (sym (alike_state (parse s) words other (low a.good) a.long alike a.legal)))

  pub finish_front : (finish_call s words).answer ≡ (finish_call s other).answer
  finish_front = (same_front _ _ (λ e. (ap (λ r. answered (finish_heard (parse s) r)) e, alike))).0

  pub letter_front : (a : ℕ) → SameFront (letter_call s words a) (letter_call s other a)
  letter_front a = same_front _ _ (λ e. subst (λ r. SameFront (letter_on (parse s) words (state_in words) a) (letter_on (parse s) other r a)) e (on (state_in words) (state_in words).stopped refl (judged (parse s) (state_in words) a)))
    where
      on : (r : ReaderState) (b : Bool) → r.stopped ≡ b → Judged (parse s) r a → SameFront (letter_on (parse s) words r a) (letter_on (parse s) other r a)
      on r true e j = rw (on_stopped (parse s) words r a e, on_stopped (parse s) other r a e) (refl, alike)
      on r false e (may_not k v w) = rw (for_reason (parse s) words r a e w, for_reason (parse s) other r a e w) (refl, alike)
      on r false e (may_go v l g d) =
          rw (on_step (parse s) words r a e v, on_step (parse s) other r a e v)
          (refl, in_place_front (letter_state (parse s) a r) words ∙ sym (in_place_front (letter_state (parse s) a r) other))

-- Begin: what is no table is refused, then too few words, and the words stay; else the first state stands there.
pub data Begins (s words : List ℕ) : Type 0 where
  begin_no_table : (verdict s ≡ 0 → ⊥) → Replies (begin_call s words) (refused (verdict s)) words → Begins s words
  begin_few_words : verdict s ≡ 0 → length words < state_size → Replies (begin_call s words) (refused 7) words → Begins s words
  begins : verdict s ≡ 0 → state_size ≤ length words
      → Replies (begin_call s words) (answered (heard (begin_state (parse s)))) (in_place (begin_state (parse s)) words) → Begins s words

pub begin_does : (s words : List ℕ) → Begins s words
begin_does s words = by (lent state_size s words (begin_on (parse s) words) (λ k. reply (refused k) words)) where
  by : Lent state_size s words (begin_on (parse s) words) (λ k. reply (refused k) words) → Begins s words
  by (is_no_table n e) = begin_no_table n (replies _ _ e)
  by (is_short z l e) = begin_few_words z l (replies _ _ e)
  by (is_lent z l e) = begins z l (replies _ _ e)

-- A letter: after those refusals a stopped reader answers the same Stop again. A running one may refuse the letter for itself. All these leave the words. Else the
-- letter stops the reader, which changes word 2, or it is taken and the next state stands there.
pub data Hears (s words : List ℕ) (a : ℕ) : Type 0 where
  letter_no_table : (verdict s ≡ 0 → ⊥) → Replies (letter_call s words a) (refused (verdict s)) words → Hears s words a
  letter_few_words : verdict s ≡ 0 → length words < state_size → Replies (letter_call s words a) (refused 7) words → Hears s words a
  letter_no_state : verdict s ≡ 0 → state_size ≤ length words → Broken (parse s) words → Replies (letter_call s words a) (refused 14) words → Hears s words a
  letter_after_stop : IsState s words → (state_in words).stopped ≡ true → Replies (letter_call s words a) (answered (stop_at (taken_in words))) words → Hears s words a
  letter_refused_for : IsState s words → (state_in words).stopped ≡ false → (k : ℕ) → LetterReason (parse s) (state_in words) a k
      → Replies (letter_call s words a) (refused k) words → Hears s words a
  letter_stop : IsState s words → (state_in words).stopped ≡ false → letter_verdict (parse s) (state_in words) a ≡ 0 → (next_in s words a).stopped ≡ true
      → Replies (letter_call s words a) (answered (stop_at (taken_in words))) (set words 2 1) → Hears s words a
  letter_going : IsState s words → (state_in words).stopped ≡ false → letter_verdict (parse s) (state_in words) a ≡ 0 → (next_in s words a).stopped ≡ false
      → Replies (letter_call s words a) (answered going) (in_place (next_in s words a) words) → Hears s words a

pub letter_does : (s words : List ℕ) (a : ℕ) → Hears s words a
letter_does s words a = by (on_words s words (letter_on (parse s) words (state_in words) a)) where
  step : IsState s words → (state_in words).stopped ≡ false → letter_verdict (parse s) (state_in words) a ≡ 0 → (b : Bool) → (next_in s words a).stopped ≡ b → Hears s words a
  step is e v true f =
      let r = step_letter s words is e a v in
      let d = stop_words s words is e a f in
      letter_stop is e v f (r.0 ∙ ap answered d.0, r.1 ∙ d.1)
  step is e v false f =
      let r = step_letter s words is e a v in
      letter_going is e v f (r.0 ∙ ap answered ((heard_going_iff (next_in s words a)).1 f), r.1)

  judge : IsState s words → (b : Bool) → (state_in words).stopped ≡ b → Judged (parse s) (state_in words) a → Hears s words a
  judge is true e j = letter_after_stop is e (stopped_letter s words is e a)
  judge is false e (may_go v l g d) = step is e v (next_in s words a).stopped refl
  judge is false e (may_not k v w) = letter_refused_for is e k w (refused_letter s words is e a w)

  by : OnWords s words (letter_on (parse s) words (state_in words) a) → Hears s words a
  by (not_a_table n r) = letter_no_table n r
  by (few_words z l r) = letter_few_words z l r
  by (not_a_state z l b r) = letter_no_state z l b r
  by (a_state is) = judge is (state_in words).stopped refl (judged (parse s) (state_in words) a)

-- Finish: after those refusals it answers by the state. The words always stay.
pub data Finishes (s words : List ℕ) : Type 0 where
  finish_no_table : (verdict s ≡ 0 → ⊥) → Replies (finish_call s words) (refused (verdict s)) words → Finishes s words
  finish_few_words : verdict s ≡ 0 → length words < state_size → Replies (finish_call s words) (refused 7) words → Finishes s words
  finish_no_state : verdict s ≡ 0 → state_size ≤ length words → Broken (parse s) words → Replies (finish_call s words) (refused 14) words → Finishes s words
  finishes : IsState s words → Replies (finish_call s words) (answered (finish_heard (parse s) (state_in words))) words → Finishes s words

pub finish_does : (s words : List ℕ) → Finishes s words
finish_does s words = by (on_words s words (reply (answered (finish_heard (parse s) (state_in words))) words)) where
  by : OnWords s words (reply (answered (finish_heard (parse s) (state_in words))) words) → Finishes s words
  by (not_a_table n r) = finish_no_table n r
  by (few_words z l r) = finish_few_words z l r
  by (not_a_state z l b r) = finish_no_state z l b r
  by (a_state is) = finishes is (finish_answers s words is)

module _ (s words : List ℕ) where
  -- Refused, the words are as they were. Finish changes nothing at all.
  pub begin_refused : (k : ℕ) → (begin_call s words).answer ≡ refused k → (begin_call s words).words ≡ words
  begin_refused k e = by (begin_does s words) where
    by : Begins s words → (begin_call s words).words ≡ words
    by (begin_no_table n r) = r.1
    by (begin_few_words z l r) = r.1
    by (begins z l r) = absurd (let o : ◌≡◌ {A = ℕ} 0 1 = cc r.0 in omega arith)

  pub letter_refused : (a k : ℕ) → (letter_call s words a).answer ≡ refused k → (letter_call s words a).words ≡ words
  letter_refused a k e = by (letter_does s words a) where
    never : {h : vpa.Heard} → (letter_call s words a).answer ≡ answered h → (letter_call s words a).words ≡ words
    never d = absurd (let o : ◌≡◌ {A = ℕ} 0 1 = cc in omega arith)

    by : Hears s words a → (letter_call s words a).words ≡ words
    by (letter_no_table n r) = r.1
    by (letter_few_words z l r) = r.1
    by (letter_no_state z l b r) = r.1
    by (letter_after_stop is e r) = r.1
    by (letter_refused_for is e k w r) = r.1
    by (letter_stop is e v f r) = never r.0
    by (letter_going is e v f r) = never r.0

  pub finish_keeps : (finish_call s words).words ≡ words
  finish_keeps = by (finish_does s words) where
    by : Finishes s words → (finish_call s words).words ≡ words
    by (finish_no_table n r) = r.1
    by (finish_few_words z l r) = r.1
    by (finish_no_state z l b r) = r.1
    by (finishes is r) = r.1

  -- Begin that is not refused has a table and enough words.
  pub begin_answers : (h : vpa.Heard) → (begin_call s words).answer ≡ answered h
      → (verdict s ≡ 0) × (state_size ≤ length words) × (h ≡ heard (begin_state (parse s))) × ((begin_call s words).words ≡ in_place (begin_state (parse s)) words)
  begin_answers h e = by (begin_does s words) where
    by : Begins s words → (verdict s ≡ 0) × (state_size ≤ length words) × (h ≡ heard (begin_state (parse s))) × ((begin_call s words).words ≡ in_place (begin_state (parse s)) words)
    by (begin_no_table n r) = absurd (let o : ◌≡◌ {A = ℕ} 0 1 = cc r.0 in omega arith)
    by (begin_few_words z l r) = absurd (let o : ◌≡◌ {A = ℕ} 0 1 = cc r.0 in omega arith)
    by (begins z l r) = let same : h ≡ heard (begin_state (parse s)) = cc r.0 in (z, l, same, r.1)

  -- What can become of the words: nothing, or a state is put in place. So further words are never changed, nor is their number.
  begin_words : ((begin_call s words).words ≡ words) ⊎ ((state_size ≤ length words) × ((begin_call s words).words ≡ in_place (begin_state (parse s)) words))
  begin_words = by (begin_does s words) where
    by : Begins s words → ((begin_call s words).words ≡ words) ⊎ ((state_size ≤ length words) × ((begin_call s words).words ≡ in_place (begin_state (parse s)) words))
    by (begin_no_table n r) = inl r.1
    by (begin_few_words z l r) = inl r.1
    by (begins z l r) = inr (l, r.1)

  letter_words : (a : ℕ) → ((letter_call s words a).words ≡ words) ⊎ ((state_size ≤ length words) × ((letter_call s words a).words ≡ in_place (next_in s words a) words))
  letter_words a = by (letter_does s words a) where
    by : Hears s words a → ((letter_call s words a).words ≡ words) ⊎ ((state_size ≤ length words) × ((letter_call s words a).words ≡ in_place (next_in s words a) words))
    by (letter_no_table n r) = inl r.1
    by (letter_few_words z l r) = inl r.1
    by (letter_no_state z l b r) = inl r.1
    by (letter_after_stop is f r) = inl r.1
    by (letter_refused_for is f k w r) = inl r.1
    by (letter_stop is f v g r) = inr (is.long, r.1 ∙ sym (stop_words s words is f a g).1)
    by (letter_going is f v g r) = inr (is.long, r.1)

  further : {after : List ℕ} (r : ReaderState) → (after ≡ words) ⊎ ((state_size ≤ length words) × (after ≡ in_place r words))
      → (drop state_size after ≡ drop state_size words) × (length after ≡ length words)
  further r (inl e) = (ap (drop state_size) e, ap length e)
  further r (inr (l, e)) = (ap (drop state_size) e ∙ in_place_further r words, ap length e ∙ in_place_length r words l)

  pub begin_further : (drop state_size (begin_call s words).words ≡ drop state_size words) × (length (begin_call s words).words ≡ length words)
  begin_further = further (begin_state (parse s)) begin_words

  pub letter_further : (a : ℕ) → (drop state_size (letter_call s words a).words ≡ drop state_size words) × (length (letter_call s words a).words ≡ length words)
  letter_further a = further (next_in s words a) (letter_words a)

-- Why words that stand for a state, or do not, and a letter are refused: 14 for the words; else, unless the reader is stopped, 11 to 13 for the letter.
abbrev pub RefusedWords : Table → List ℕ → ℕ → Type 0
RefusedWords t words k = (k ≡ 14) × Broken t words

abbrev pub RefusedLetter : Table → List ℕ → ℕ → ℕ → Type 0
RefusedLetter t words a k = RefusedWords t words k ⊎ ((Broken t words → ⊥) × ((state_in words).stopped ≡ false) × LetterReason t (state_in words) a k)

-- The numbers that refuse: those for the bytes and for too few words, then these, and no other.
module _ (s words : List ℕ) where
  -- The answer, as a call that is lent memory has it.
  answer_lent : (x : Reply) → (with_state s words x).answer ≡ with_lent state_size s words x.answer refused
  answer_lent x = by (lent state_size s words x (λ k. reply (refused k) words)) where
    by : Lent state_size s words x (λ k. reply (refused k) words) → (with_state s words x).answer ≡ with_lent state_size s words x.answer refused
    by (is_no_table n e) = ap (λ r. r.answer) e ∙ sym (on_no_table state_size s words x.answer refused n)
    by (is_short z l e) = ap (λ r. r.answer) e ∙ sym (on_short state_size s words x.answer refused z l)
    by (is_lent z l e) = ap (λ r. r.answer) e ∙ sym (on_lent state_size s words x.answer refused z l)

  pub state_refused_iff : (x : Reply) → AreBytes s → (k : ℕ)
      → ((with_state s words x).answer ≡ refused k) ↔ (RefusedFor state_size s words k ⊎ ((verdict s ≡ 0) × (state_size ≤ length words) × (x.answer ≡ refused k)))
  state_refused_iff x bytes k =
      let reasons = lent_refused_iff state_size s words x.answer bytes k in
      (λ e. reasons.0 (sym (answer_lent x) ∙ e), λ w. answer_lent x ∙ reasons.1 w)

  pub begin_refused_iff : AreBytes s → (k : ℕ) → ((begin_call s words).answer ≡ refused k) ↔ RefusedFor state_size s words k
  begin_refused_iff bytes k =
      let reasons = state_refused_iff (begin_on (parse s) words) bytes k in
      (λ e. ⊎_elim (λ r. r) (λ w. absurd (let o : ◌≡◌ {A = ℕ} 0 1 = cc w.2 in omega arith)) (reasons.0 e), λ r. reasons.1 (inl r))

  -- With a table and enough words.
  further_iff : {X : Type 0} (x : Reply) (k : ℕ) → (x.answer ≡ refused k) ↔ X → AreBytes s
      → ((with_state s words x).answer ≡ refused k) ↔ (RefusedFor state_size s words k ⊎ ((verdict s ≡ 0) × (state_size ≤ length words) × X))
  further_iff x k i bytes =
      let reasons = state_refused_iff x bytes k in (
        λ e. ⊎_elim inl (λ w. inr (w.0, w.1, i.0 w.2)) (reasons.0 e),
        ⊎_elim (λ r. reasons.1 (inl r)) (λ w. reasons.1 (inr (w.0, w.1, i.1 w.2))),
      )

  -- With words that may stand for a state.
  words_refused_iff : (x : Reply) (k : ℕ) → ((cond (legal? (parse s) words) x (reply (refused 14) words)).answer ≡ refused k)
      ↔ (RefusedWords (parse s) words k ⊎ ((Broken (parse s) words → ⊥) × (x.answer ≡ refused k)))
  words_refused_iff x k = by (legal? (parse s) words) refl where
    by : (b : Bool) → legal? (parse s) words ≡ b
        → ((cond b x (reply (refused 14) words)).answer ≡ refused k) ↔ (RefusedWords (parse s) words k ⊎ ((Broken (parse s) words → ⊥) × (x.answer ≡ refused k)))
    by true e =
        let sound : Broken (parse s) words → ⊥ = (legal_iff (parse s) words).0 e in
        (λ d. inr (sound, d), ⊎_elim (λ w. absurd (sound w.1)) (λ w. w.1))
    by false e =
        let broken = illegal_broken (parse s) words e in
        (λ d. let same : k ≡ 14 = cc in inl (same, broken), ⊎_elim (λ w. rw w.0) (λ w. absurd (w.0 broken)))

  pub letter_refused_iff : AreBytes s → (a k : ℕ)
      → ((letter_call s words a).answer ≡ refused k) ↔ (RefusedFor state_size s words k ⊎ ((verdict s ≡ 0) × (state_size ≤ length words) × RefusedLetter (parse s) words a k))
  letter_refused_iff bytes a k =
      let i = words_refused_iff (letter_on (parse s) words (state_in words) a) k in
      let j = on_refused_iff (parse s) words (state_in words) a k in
      further_iff _ k (
        λ e. ⊎_elim inl (λ w. let d = j.0 w.1 in inr (w.0, d.0, d.1)) (i.0 e),
        ⊎_elim (λ w. i.1 (inl w)) (λ w. i.1 (inr (w.0, j.1 (w.1, w.2)))),
      ) bytes

  pub finish_refused_iff : AreBytes s → (k : ℕ)
      → ((finish_call s words).answer ≡ refused k) ↔ (RefusedFor state_size s words k ⊎ ((verdict s ≡ 0) × (state_size ≤ length words) × RefusedWords (parse s) words k))
  finish_refused_iff bytes k =
      let i = words_refused_iff (reply (answered (finish_heard (parse s) (state_in words))) words) k in
      further_iff _ k (
        λ e. ⊎_elim (λ w. w) (λ w. absurd (let o : ◌≡◌ {A = ℕ} 0 1 = cc w.1 in omega arith)) (i.0 e),
        λ w. i.1 (inl w),
      ) bytes

-- Two outcomes that meet one contract are the same.
pub heard_once : (r q : Result Heard Refusal) {x : Answer vpa.Heard} → heard_as r ≡ x → heard_as q ≡ x → r ≡ q
heard_once = told_once heard_meant back back_as where
  back : vpa.Heard → Heard
  back going = heards.Going
  back accepted = heards.Accepted
  back unfinished = heards.Unfinished
  back (stop_at place) = heards.Stop place

  back_as : (h : Heard) → back (heard_meant h) ≡ h
  back_as heards.Going = refl
  back_as heards.Accepted = refl
  back_as heards.Unfinished = refl
  back_as (heards.Stop place) = refl

module _ (s words : List ℕ) (r q : Result Heard Refusal) where
  pub begin_once : (o p : List ℕ) → heard_as r ≡ (begin_call s words).answer → heard_as q ≡ (begin_call s words).answer
      → o ≡ (begin_call s words).words → p ≡ (begin_call s words).words → (r ≡ q) × (o ≡ p)
  begin_once o p e d f g = (heard_once r q e d, f ∙ sym g)

  pub letter_once : (a : ℕ) (o p : List ℕ) → heard_as r ≡ (letter_call s words a).answer → heard_as q ≡ (letter_call s words a).answer
      → o ≡ (letter_call s words a).words → p ≡ (letter_call s words a).words → (r ≡ q) × (o ≡ p)
  letter_once a o p e d f g = (heard_once r q e d, f ∙ sym g)

  pub finish_once : heard_as r ≡ (finish_call s words).answer → heard_as q ≡ (finish_call s words).answer → r ≡ q
  finish_once = heard_once r q
