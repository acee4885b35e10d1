-- What the check of a whole log answers, in the words of document 01: which numbers refuse, exactly when, and what is left in the words; and that a log is
-- Accepted exactly if the table accepts it. Last, two outcomes that meet the contract are one.
use Prim.Native.Nat.{ℕ, ◌+◌, ◌≤◌, ◌<◌}
use mathlib.Core.Bool.{Bool, true, false}
use mathlib.Core.List.{List, [], ◌∷◌, Memᴰ}
use mathlib.Core.Logic.{◌↔◌, ◌⊎◌, inl, inr, ⊎_elim}
use mathlib.Core.Path.{◌≡◌, refl, sym, ap, ◌∙◌}
use native.Mathlib.Decide.{ℕ_discrete, dec_lt}
use native.Mathlib.Omega.{arith}
use borrow.Author.Tests.{lt-ltb, le-ltb}
use lib.ListN.{length}
use Rattle.vpa.specs.Automaton.{Accepts}
use Rattle.vpa.specs.ReaderComputed.{ReaderState, accepted, begin_state, letter_state, letters_state, state_after, finish_heard}
use Rattle.vpa.specs.TableOnDisk.{Table, letter_count, automaton, IsTable}
use Rattle.vpa.proofs.TableReader.{accepted_iff_accepts}
use Rattle.vpa.proofs.ReaderStates.{finish_stopped, letters_stopped, taken_most}
use Rattle.vpa.proofs.TableMoves.{accepted_letters}
use Rattle.std.specs.Prelude.{Result}
use Rattle.table.specs.declared.refusal.Refusal.{Refusal}
use Rattle.table.specs.Answers.{refused, answered}
use Rattle.table.specs.Bytes.{AreBytes}
use Rattle.table.specs.Layout.{parse}
use Rattle.table.specs.Logs.{longest_log}
use Rattle.table.specs.Refusals.{verdict}
use Rattle.table.proofs.Lent.{Lent, is_no_table, is_short, is_lent, lent, RefusedFor}
use Rattle.table.proofs.Tables.{good_table}
use Rattle.reader.specs.declared.Heard.{Heard}
use Rattle.reader.specs.Answers.{heard_as}
use Rattle.reader.specs.Calls.{Reply, reply}
use Rattle.reader.specs.Layout.{state_size, cleared}
use Rattle.reader.specs.Refusals.{letter_verdict, past_letters, log_full, open_too_deep}
use Rattle.reader.proofs.CallLaws.{state_refused_iff, heard_once}
use Rattle.reader.proofs.Fitting.{begin_fits, letter_fits}
use Rattle.reader.proofs.Verdicts.{reason_verdict, reason_number, letter_verdict_iff}
use Rattle.reader.proofs.Words.{Fits}
use Rattle.whole_log.specs.Calls.{followed, log_answer, log_on, log_call, RefusedIn, refused_here, refused_later}
use Rattle.whole_log.proofs.Following.{after, stop_followed, end_followed, refused_followed, step_followed, begin_put}

-- A letter is refused with 11 only if it is not the table's, and else with 13: in a log that is not too long no letter is one too many.
pub refused_number : {t : Table} {r : ReaderState} {log : List ℕ} {k : ℕ} → r.taken + length log ≤ longest_log → RefusedIn t r log k
    → ((k ≡ 11) × ((a : ℕ) × Memᴰ a log × (letter_count t ≤ a))) ⊎ (k ≡ 13)
refused_number low (refused_here {a = a} e (past_letters l)) = inl (refl, (a, Memᴰ.head refl, l))
refused_number low (refused_here e (log_full l g)) = absurd (omega arith)
refused_number low (refused_here e (open_too_deep l g o d)) = inr refl
refused_number {t} low (refused_later {r} {a} e v h) =
    ⊎_elim (λ w. inl (w.0, (w.1.0, Memᴰ.tail w.1.1, w.1.2))) inr (refused_number (omega (arith, taken_most t a r)) h)

-- What follows on a state: a letter is refused, or finish answers of the state after all letters.
module _ (s : List ℕ) (good : verdict s ≡ 0) (words : List ℕ) where
  data Follows (log : List ℕ) (r : ReaderState) : Type 0 where
    a_letter_refused : (k : ℕ) → RefusedIn (parse s) r log k → followed s log (after r words) ≡ refused k → Follows log r
    all_read : followed s log (after r words) ≡ answered (finish_heard (parse s) (letters_state (parse s) log r)) → Follows log r

  stopped_follows : (log : List ℕ) (r : ReaderState) → r.stopped ≡ true → Follows log r
  stopped_follows log r e =
      all_read (stop_followed s good log r words e ∙ ap answered (sym (ap (finish_heard (parse s)) (letters_stopped (parse s) log r e) ∙ finish_stopped (parse s) r e)))

  ended_follows : (r : ReaderState) → Fits (parse s) r → (b : Bool) → r.stopped ≡ b → Follows [] r
  unfolding letters_state
  ended_follows r fits true e = stopped_follows [] r e
  ended_follows r fits false e = all_read (end_followed s good r words fits e)

  letter_follows : (a : ℕ) (log : List ℕ) (r : ReaderState) → Fits (parse s) r → (b : Bool) → r.stopped ≡ b → Dec (letter_verdict (parse s) r a ≡ 0)
      → (letter_verdict (parse s) r a ≡ 0 → Follows log (letter_state (parse s) a r)) → Follows (a ∷ log) r
  unfolding letters_state
  letter_follows a log r fits true e v rest = stopped_follows (a ∷ log) r e
  letter_follows a log r fits false e (no n) rest =
      a_letter_refused _ (refused_here e ((letter_verdict_iff (parse s) r a _).0 (refl, n))) (refused_followed s good a log r words fits e refl n)
  letter_follows a log r fits false e (yes v) rest = onward (rest v) where
    onward : Follows log (letter_state (parse s) a r) → Follows (a ∷ log) r
    onward (a_letter_refused k h d) = a_letter_refused k (refused_later e v h) (step_followed s good a log r words fits e v ∙ d)
    onward (all_read d) = all_read (step_followed s good a log r words fits e v ∙ d)

  follows : (log : List ℕ) (r : ReaderState) → Fits (parse s) r → Follows log r
  follows [] r fits = ended_follows r fits r.stopped refl
  follows (a ∷ log) r fits =
      letter_follows a log r fits r.stopped refl (ℕ_discrete (letter_verdict (parse s) r a) 0)
      (λ v. follows log (letter_state (parse s) a r) (letter_fits (parse s) a r fits v))

  -- A letter that is refused is what is answered.
  refused_follows : {log : List ℕ} {r : ReaderState} {k : ℕ} → Fits (parse s) r → RefusedIn (parse s) r log k → followed s log (after r words) ≡ refused k
  refused_follows fits (refused_here {r} {a} {k} {log} e w) =
      refused_followed s good a log r words fits e (reason_verdict (parse s) r a w) (λ z. omega (arith, reason_number (parse s) r a w))
  refused_follows fits (refused_later {r} {a} {k} {log} e v h) =
      step_followed s good a log r words fits e v ∙ refused_follows (letter_fits (parse s) a r fits v) h

  -- From here on enough words.
  module _ (log : List ℕ) (long : state_size ≤ length words) where
    begins : followed s log (after (begin_state (parse s)) words) ≡ log_answer s log words
    begins = ap (followed s log) (sym (begin_put s good words long))

    -- Letters are refused exactly for their reasons, and else the answer is that of finish after all letters.
    pub log_letter_refused_iff : (k : ℕ) → (log_answer s log words ≡ refused k) ↔ RefusedIn (parse s) (begin_state (parse s)) log k
    log_letter_refused_iff k = (λ e. forth (begins ∙ e) (follows log (begin_state (parse s)) (begin_fits (parse s))), λ h. sym begins ∙ refused_follows (begin_fits (parse s)) h) where
      forth : followed s log (after (begin_state (parse s)) words) ≡ refused k → Follows log (begin_state (parse s)) → RefusedIn (parse s) (begin_state (parse s)) log k
      forth e (a_letter_refused j h d) = let same : j ≡ k = cc in rw (← same) h
      forth e (all_read d) = absurd (let o : ◌≡◌ {A = ℕ} 0 1 = cc in omega arith)

    pub log_read_all : ((k : ℕ) → RefusedIn (parse s) (begin_state (parse s)) log k → ⊥) → log_answer s log words ≡ answered (finish_heard (parse s) (state_after (parse s) log))
    log_read_all none = sym begins ∙ by (follows log (begin_state (parse s)) (begin_fits (parse s))) where
      by : Follows log (begin_state (parse s)) → followed s log (after (begin_state (parse s)) words) ≡ answered (finish_heard (parse s) (state_after (parse s) log))
      by (a_letter_refused k h d) = absurd (none k h)
      by (all_read d) = d

    accepted_iff : length log ≤ longest_log → (log_answer s log words ≡ refused 13 → ⊥) → (log_answer s log words ≡ answered accepted) ↔ Accepts (automaton (parse s)) log
    unfolding begin_state
    accepted_iff low shallow = by (follows log (begin_state (parse s)) (begin_fits (parse s))) where
      fit : IsTable (parse s)
      fit = good_table s good

      by : Follows log (begin_state (parse s)) → (log_answer s log words ≡ answered accepted) ↔ Accepts (automaton (parse s)) log
      by (a_letter_refused k h d) = other (refused_number (omega arith) h) where
        other : ((k ≡ 11) × ((a : ℕ) × Memᴰ a log × (letter_count (parse s) ≤ a))) ⊎ (k ≡ 13) → (log_answer s log words ≡ answered accepted) ↔ Accepts (automaton (parse s)) log
        other (inl (e, (a, m, l))) = (λ x. absurd (let o : ◌≡◌ {A = ℕ} 0 1 = cc (begins, d) in omega arith), λ x. absurd (omega (arith, accepted_letters (parse s) fit x m)))
        other (inr e) = absurd (shallow (sym begins ∙ d ∙ ap refused e))
      by (all_read d) =
          let i = accepted_iff_accepts (parse s) fit log in
          let same : log_answer s log words ≡ answered (finish_heard (parse s) (state_after (parse s) log)) = sym begins ∙ d in
          (λ e. let same : finish_heard (parse s) (state_after (parse s) log) ≡ accepted = cc in i.0 same, λ a. same ∙ ap answered (i.1 a))

-- The call, case by case: it refuses what is no table, too few words and a log that is too long, in this order, and leaves the words; else it answers of the log,
-- and the words are cleared.
pub data Checks (s log words : List ℕ) : Type 0 where
  log_no_table : (verdict s ≡ 0 → ⊥) → log_call s log words ≡ reply (refused (verdict s)) words → Checks s log words
  log_few_words : verdict s ≡ 0 → length words < state_size → log_call s log words ≡ reply (refused 7) words → Checks s log words
  log_too_long : verdict s ≡ 0 → state_size ≤ length words → longest_log < length log → log_call s log words ≡ reply (refused 12) words → Checks s log words
  log_answers : verdict s ≡ 0 → state_size ≤ length words → length log ≤ longest_log → log_call s log words ≡ reply (log_answer s log words) (cleared words) → Checks s log words

pub log_does : (s log words : List ℕ) → Checks s log words
log_does s log words = by (lent state_size s words (log_on s log words) (λ k. reply (refused k) words)) (dec_lt longest_log (length log)) where
  by : Lent state_size s words (log_on s log words) (λ k. reply (refused k) words) → Dec (longest_log < length log) → Checks s log words
  by (is_no_table n e) d = log_no_table n e
  by (is_short z l e) d = log_few_words z l e
  by (is_lent z l e) (yes g) = log_too_long z l g (e ∙ rw (lt-ltb _ _ g))
  by (is_lent z l e) (no g) = let low : length log ≤ longest_log = omega arith in log_answers z l low (e ∙ rw (le-ltb _ _ low))

-- The numbers that refuse: those for the bytes and the words, then 12 for the log itself, then those for its letters; and no other.
pub log_refused_iff : (s log words : List ℕ) → AreBytes s → (k : ℕ)
    → ((log_call s log words).answer ≡ refused k)
    ↔ (RefusedFor state_size s words k
    ⊎ ((verdict s ≡ 0) × (state_size ≤ length words)
    × (((k ≡ 12) × (longest_log < length log)) ⊎ ((length log ≤ longest_log) × RefusedIn (parse s) (begin_state (parse s)) log k))))
log_refused_iff s log words bytes k =
    let reasons = state_refused_iff s words (log_on s log words) bytes k in (
      λ e. ⊎_elim inl (λ w. inr (w.0, w.1, (on_log w.0 w.1).0 w.2)) (reasons.0 e),
      ⊎_elim (λ r. reasons.1 (inl r)) (λ w. reasons.1 (inr (w.0, w.1, (on_log w.0 w.1).1 w.2))),
    )
  where
    Letters : Type 0
    Letters = ((k ≡ 12) × (longest_log < length log)) ⊎ ((length log ≤ longest_log) × RefusedIn (parse s) (begin_state (parse s)) log k)

    on_log : verdict s ≡ 0 → state_size ≤ length words → ((log_on s log words).answer ≡ refused k) ↔ Letters
    on_log z l = by (dec_lt longest_log (length log)) where
      by : Dec (longest_log < length log) → ((log_on s log words).answer ≡ refused k) ↔ Letters
      by (yes g) =
          let d : (log_on s log words).answer ≡ refused 12 = rw (lt-ltb _ _ g) in
          (λ e. let same : k ≡ 12 = cc in inl (same, g), ⊎_elim (λ w. d ∙ ap refused (sym w.0)) (λ w. absurd (omega arith)))
      by (no g) =
          let low : length log ≤ longest_log = omega arith in
          let d : (log_on s log words).answer ≡ log_answer s log words = rw (le-ltb _ _ low) in
          let i = log_letter_refused_iff s z words log l k in
          (λ e. inr (low, i.0 (sym d ∙ e)), ⊎_elim (λ w. absurd (omega arith)) (λ w. d ∙ i.1 w.1))

-- Unless 13 is given, the answer is Accepted exactly if the table accepts the log; and Accepted is never answered of another.
module _ (s log words : List ℕ) (good : verdict s ≡ 0) (long : state_size ≤ length words) (low : length log ≤ longest_log) where
  answers : (log_call s log words).answer ≡ log_answer s log words
  answers = by (log_does s log words) where
    by : Checks s log words → (log_call s log words).answer ≡ log_answer s log words
    by (log_no_table n e) = absurd (n good)
    by (log_few_words z l e) = absurd (omega arith)
    by (log_too_long z l g e) = absurd (omega arith)
    by (log_answers z l g e) = ap (λ (c : Reply). c.answer) e

  pub log_accepted_iff : ((log_call s log words).answer ≡ refused 13 → ⊥) → ((log_call s log words).answer ≡ answered accepted) ↔ Accepts (automaton (parse s)) log
  log_accepted_iff shallow =
      let i = accepted_iff s good words log long low (λ e. shallow (answers ∙ e)) in
      (λ e. i.0 (sym answers ∙ e), λ a. answers ∙ i.1 a)

pub log_accepted : (s log words : List ℕ) → (log_call s log words).answer ≡ answered accepted → Accepts (automaton (parse s)) log
log_accepted s log words e = by (log_does s log words) where
  never : {k : ℕ} → log_call s log words ≡ reply (refused k) words → Accepts (automaton (parse s)) log
  never d = absurd (let o : ◌≡◌ {A = ℕ} 0 1 = cc in omega arith)

  by : Checks s log words → Accepts (automaton (parse s)) log
  by (log_no_table n d) = never d
  by (log_few_words z l d) = never d
  by (log_too_long z l g d) = never d
  by (log_answers z l g d) = (log_accepted_iff s log words z l g (λ f. let o : ◌≡◌ {A = ℕ} 0 1 = cc in omega arith)).0 e

-- Two outcomes are one.
pub log_once : (s log words : List ℕ) (r q : Result Heard Refusal) (a b : List ℕ) → heard_as r ≡ (log_call s log words).answer → heard_as q ≡ (log_call s log words).answer
    → a ≡ (log_call s log words).words → b ≡ (log_call s log words).words → (r ≡ q) × (a ≡ b)
log_once s log words r q a b e d f g = (heard_once r q e d, f ∙ sym g)
