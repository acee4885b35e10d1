-- What the call for a shortest log is answered with, in the words of document 01: which log is written, which numbers refuse and what they leave, and that "no
-- log", 10 and 9 are exact. Last, two outcomes that meet the contract are one, but for which of several shortest logs was written.
use Prim.Native.Nat.{ℕ, ◌<◌, ◌≤◌}
use mathlib.Core.List.{List, ◌++◌}
use mathlib.Core.Logic.{◌↔◌, ◌⊎◌, inl, inr, ⊎_elim}
use mathlib.Core.Option.{Option, none, some}
use mathlib.Core.Path.{◌≡◌, refl, sym, ap, subst, ◌∙◌}
use native.Mathlib.Omega.{arith}
use lib.ListN.{length, take, drop}
use lib.Seq.{take_at}
use Rattle.std.specs.Prelude as rust
use Rattle.std.specs.Prelude.{Result, Ok, Err, Some, None}
use Rattle.vpa.specs.Automaton.{Accepts}
use Rattle.vpa.specs.Shortest.{Shortest}
use Rattle.vpa.specs.TableOnDisk.{Table, automaton}
use Rattle.vpa.proofs.Lengths.{shortest_equal}
use Rattle.table.specs.Answers.{Answer, refused, answered}
use Rattle.table.specs.Bytes.{AreBytes}
use Rattle.table.specs.Layout.{parse}
use Rattle.table.specs.Refusals.{verdict}
use Rattle.table.specs.declared.refusal.Refusal.{Refusal}
use Rattle.table.proofs.CallLaws.{told_once}
use Rattle.nesting.specs.Scratch.{scratch_size, with_scratch, cleared, scratch_after}
use Rattle.table.proofs.Lent.{Lent, is_no_table, is_short, is_lent, lent, on_no_table, on_short, on_lent, RefusedFor, lent_refused_iff}
use Rattle.lengths.specs.Limit.{most_shown}
use Rattle.shortest.specs.Answers.{log_told, shown_as}
use Rattle.shortest.specs.Calls.{ShowsLog, shows_none, shows_long, shows_no_room, shows_log, Refuses, ShortestCall}

-- What can be said of a table: no log is accepted; or some are, but each has too many letters.
abbrev pub NoLog : Table → Type 0
NoLog t = (w : List ℕ) → Accepts (automaton t) w → ⊥

abbrev pub TooLong : Table → Type 0
TooLong t = ((w : List ℕ) × Accepts (automaton t) w) × ((v : List ℕ) → Accepts (automaton t) v → most_shown < length v)

-- Why a table is refused: 10 for its logs, and 9 for the output.
abbrev pub RefusedShortest : Table → List ℕ → ℕ → Type 0
RefusedShortest t out k = ((k ≡ 10) × TooLong t) ⊎ ((k ≡ 9) × ((n : ℕ) × Shortest (automaton t) n × (n ≤ most_shown) × (length out < n)))

-- What each answer says of a table and an output.
abbrev pub Says : Table → List ℕ → Answer (Option ℕ) → Type 0
Says t out (refused k) = RefusedShortest t out k
Says t out (answered none) = NoLog t
Says t out (answered (some n)) = Shortest (automaton t) n × (n ≤ most_shown) × (n ≤ length out)

module _ (t : Table) (out : List ℕ) where
  -- A table shows what its answer says,
  shows_says : {answer : Answer (Option ℕ)} {out_after : List ℕ} → ShowsLog t out answer out_after → Says t out answer
  shows_says (shows_none h) = h
  shows_says (shows_long {w} a l) = inl (refl, ((w, a), l))
  shows_says (shows_no_room {n} m l g) = inr (refl, (n, m, l, g))
  shows_says (shows_log {n} {w} a e h l g d) = (record { log = w; accepted = a; long = e; none_shorter = h }, l, g)

  -- and of no two answers both hold.
  long_not_short : {n : ℕ} → TooLong t → Shortest (automaton t) n → n ≤ most_shown → ⊥
  long_not_short (w, l) m g = omega (arith, l m.log m.accepted, m.long)

  room_not : {n m : ℕ} → Shortest (automaton t) n → length out < n → Shortest (automaton t) m → m ≤ length out → ⊥
  room_not a l b g = omega (arith, shortest_equal (automaton t) a b)

  refused_not_none : {k : ℕ} → RefusedShortest t out k → NoLog t → ⊥
  refused_not_none (inl (e, ((w, a), l))) h = h w a
  refused_not_none (inr (e, (n, m, l, g))) h = h m.log m.accepted

  refused_not_some : {k n : ℕ} → RefusedShortest t out k → Says t out (answered (some n)) → ⊥
  refused_not_some (inl (e, l)) (m, g, r) = long_not_short l m g
  refused_not_some (inr (e, (n, m, l, g))) (j, h, r) = room_not m g j r

  pub says_once : (a b : Answer (Option ℕ)) → Says t out a → Says t out b → a ≡ b
  says_once (refused k) (refused j) (inl (e, l)) (inl (d, m)) = ap refused (e ∙ sym d)
  says_once (refused k) (refused j) (inl (e, l)) (inr (d, (n, m, g, r))) = absurd (long_not_short l m g)
  says_once (refused k) (refused j) (inr (e, (n, m, g, r))) (inl (d, l)) = absurd (long_not_short l m g)
  says_once (refused k) (refused j) (inr (e, l)) (inr (d, m)) = ap refused (e ∙ sym d)
  says_once (refused k) (answered none) r h = absurd (refused_not_none r h)
  says_once (refused k) (answered (some n)) r h = absurd (refused_not_some r h)
  says_once (answered none) (refused k) h r = absurd (refused_not_none r h)
  says_once (answered none) (answered none) h g = refl
  says_once (answered none) (answered (some n)) h g = absurd (h g.0.log g.0.accepted)
  says_once (answered (some n)) (refused k) h r = absurd (refused_not_some r h)
  says_once (answered (some n)) (answered none) g h = absurd (h g.0.log g.0.accepted)
  says_once (answered (some n)) (answered (some m)) g h = ap (λ x. answered (some x)) (shortest_equal (automaton t) g.0 h.0)

  -- So an answer is given exactly where it says what is so.
  shows_iff : {answer : Answer (Option ℕ)} {out_after : List ℕ} → ShowsLog t out answer out_after → (b : Answer (Option ℕ)) → (answer ≡ b) ↔ Says t out b
  shows_iff {answer} h b = (λ e. subst (Says t out) e (shows_says h), λ w. says_once answer b (shows_says h) w)

  -- Only a log changes the output.
  shows_kept : {answer : Answer (Option ℕ)} {out_after : List ℕ} → ShowsLog t out answer out_after → ((n : ℕ) → answer ≡ answered (some n) → ⊥) → out_after ≡ out
  shows_kept (shows_none h) no-log = refl
  shows_kept (shows_long a l) no-log = refl
  shows_kept (shows_no_room m l g) no-log = refl
  shows_kept (shows_log {n} a e h l g d) no-log = absurd (no-log n refl)

-- How the code comes to the contract, refusing or not.
module _ (s scratch out : List ℕ) where
  meets_refused : {k : ℕ} → with_scratch s scratch (ShowsLog (parse s) out (refused k) out) (Refuses out (refused k) out) ≡ Refuses out (refused k) out k
      → scratch_after s scratch ≡ scratch → ShortestCall s scratch out (refused k) scratch out
  meets_refused e d = record { answers = subst (λ X. X) (sym e) (record { number = refl; kept = refl }); leaves = sym d }

  pub meets_no_table : {k : ℕ} → verdict s ≡ k → (k ≡ 0 → ⊥) → ShortestCall s scratch out (refused k) scratch out
  meets_no_table {k} v n =
      let bad : verdict s ≡ 0 → ⊥ = λ z. n (sym v ∙ z) in
      meets_refused
      (on_no_table scratch_size s scratch (ShowsLog (parse s) out (refused k) out) (Refuses out (refused k) out) bad ∙ ap (Refuses out (refused k) out) v)
      (on_no_table scratch_size s scratch (cleared scratch) (λ j. scratch) bad)

  pub meets_short : verdict s ≡ 0 → length scratch < scratch_size → ShortestCall s scratch out (refused 7) scratch out
  meets_short good l =
      meets_refused (on_short scratch_size s scratch (ShowsLog (parse s) out (refused 7) out) (Refuses out (refused 7) out) good l) (on_short scratch_size s scratch (cleared scratch) (λ j. scratch) good l)

  pub meets_shown : {answer : Answer (Option ℕ)} {left out_after : List ℕ} → verdict s ≡ 0 → scratch_size ≤ length scratch
      → ShowsLog (parse s) out answer out_after → left ≡ cleared scratch → ShortestCall s scratch out answer left out_after
  meets_shown {answer} {left} {out_after} good l h e = record {
    answers = subst (λ X. X) (sym (on_lent scratch_size s scratch (ShowsLog (parse s) out answer out_after) (Refuses out answer out_after) good l)) h;
    leaves = e ∙ sym (on_lent scratch_size s scratch (cleared scratch) (λ j. scratch) good l);
  }

  -- The call, case by case: it refuses what is no table, then short scratch, and leaves both memories; else scratch is cleared, and `ShowsLog` says what the table
  -- is answered with: no log is accepted, or each has too many letters, or there is no room for a shortest one, or one stands in front of the output.
  pub data Does (answer : Answer (Option ℕ)) (left out_after : List ℕ) : Type 0 where
    no_table : (verdict s ≡ 0 → ⊥) → answer ≡ refused (verdict s) → left ≡ scratch → out_after ≡ out → Does answer left out_after
    no_scratch : verdict s ≡ 0 → length scratch < scratch_size → answer ≡ refused 7 → left ≡ scratch → out_after ≡ out → Does answer left out_after
    shows : verdict s ≡ 0 → scratch_size ≤ length scratch → ShowsLog (parse s) out answer out_after → left ≡ cleared scratch → Does answer left out_after

  -- Answered with n, the first n letters of the output are a shortest accepted log, and what lies past them is as it was.
  pub record ShownIn (n : ℕ) (out_after : List ℕ) : Type 0 where
    pub good : verdict s ≡ 0
    pub lends : scratch_size ≤ length scratch
    pub accepted : Accepts (automaton (parse s)) (take n out_after)
    pub long : length (take n out_after) ≡ n
    pub none_shorter : (v : List ℕ) → Accepts (automaton (parse s)) v → n ≤ length v
    pub after : out_after ≡ take n out_after ++ drop n out

  -- What may differ between two outcomes, both answered with n: which of several shortest logs stands in front of the output.
  pub record OtherLog (answer : Answer (Option ℕ)) (o p : List ℕ) : Type 0 where
    pub n : ℕ
    pub answers : answer ≡ answered (some n)
    pub none_shorter : (x : List ℕ) → Accepts (automaton (parse s)) x → n ≤ length x
    pub w : List ℕ
    pub v : List ℕ
    pub w_accepted : Accepts (automaton (parse s)) w
    pub v_accepted : Accepts (automaton (parse s)) v
    pub w_long : length w ≡ n
    pub v_long : length v ≡ n
    pub w_after : o ≡ w ++ drop n out
    pub v_after : p ≡ v ++ drop n out

  -- So where only one log is that short, nothing differs.
  pub sole_log : {answer : Answer (Option ℕ)} {o p : List ℕ} (h : OtherLog answer o p)
      → ((w v : List ℕ) → Accepts (automaton (parse s)) w → Accepts (automaton (parse s)) v → length w ≡ h.n → length v ≡ h.n → w ≡ v) → o ≡ p
  sole_log h sole =
      let same = sole h.w h.v h.w_accepted h.v_accepted h.w_long h.v_long in
      h.w_after ∙ ap (λ (x : List ℕ). x ++ drop h.n out) same ∙ sym h.v_after

  -- From here on one outcome of the call.
  module _ {answer : Answer (Option ℕ)} {left out_after : List ℕ} (call : ShortestCall s scratch out answer left out_after) where
    pub shortest_does : Does answer left out_after
    shortest_does = by (lent scratch_size s scratch (ShowsLog (parse s) out answer out_after) (Refuses out answer out_after)) where
      by : Lent scratch_size s scratch (ShowsLog (parse s) out answer out_after) (Refuses out answer out_after) → Does answer left out_after
      by (is_no_table n e) =
          let r : Refuses out answer out_after (verdict s) = subst (λ X. X) e call.answers in
          no_table n r.number (call.leaves ∙ on_no_table scratch_size s scratch (cleared scratch) (λ j. scratch) n) r.kept
      by (is_short z l e) =
          let r : Refuses out answer out_after 7 = subst (λ X. X) e call.answers in
          no_scratch z l r.number (call.leaves ∙ on_short scratch_size s scratch (cleared scratch) (λ j. scratch) z l) r.kept
      by (is_lent z l e) = shows z l (subst (λ X. X) e call.answers) (call.leaves ∙ on_lent scratch_size s scratch (cleared scratch) (λ j. scratch) z l)

    -- The answer, as a call that is lent scratch has it; and what a table with enough scratch is answered with.
    answer_lent : with_scratch s scratch answer refused ≡ answer
    answer_lent = by shortest_does where
      by : Does answer left out_after → with_scratch s scratch answer refused ≡ answer
      by (no_table n e c o) = on_no_table scratch_size s scratch answer refused n ∙ sym e
      by (no_scratch z l e c o) = on_short scratch_size s scratch answer refused z l ∙ sym e
      by (shows z l h c) = on_lent scratch_size s scratch answer refused z l

    shown_here : verdict s ≡ 0 → scratch_size ≤ length scratch → ShowsLog (parse s) out answer out_after
    shown_here good l = subst (λ X. X) (on_lent scratch_size s scratch (ShowsLog (parse s) out answer out_after) (Refuses out answer out_after) good l) call.answers

    says_iff : verdict s ≡ 0 → scratch_size ≤ length scratch → (b : Answer (Option ℕ)) → (answer ≡ b) ↔ Says (parse s) out b
    says_iff good l = shows_iff (parse s) out (shown_here good l)

    -- The numbers that refuse: those for the bytes and the scratch, then 10 and 9, and no other.
    pub shortest_refused_iff : AreBytes s → (k : ℕ)
        → (answer ≡ refused k) ↔ (RefusedFor scratch_size s scratch k ⊎ ((verdict s ≡ 0) × (scratch_size ≤ length scratch) × RefusedShortest (parse s) out k))
    shortest_refused_iff bytes k =
        let reasons = lent_refused_iff scratch_size s scratch answer bytes k in (
          λ e. ⊎_elim inl (λ w. inr (w.0, w.1, (says_iff w.0 w.1 (refused k)).0 e)) (reasons.0 (answer_lent ∙ e)),
          ⊎_elim (λ r. sym answer_lent ∙ reasons.1 (inl r)) (λ w. (says_iff w.0 w.1 (refused k)).1 w.2),
        )

    -- Refused, or answered that there is no log, the output holds what it held.
    shortest_kept : ((n : ℕ) → answer ≡ answered (some n) → ⊥) → out_after ≡ out
    shortest_kept no-log = by shortest_does where
      by : Does answer left out_after → out_after ≡ out
      by (no_table n e c o) = o
      by (no_scratch z l e c o) = o
      by (shows z l h c) = shows_kept (parse s) out h no-log

    pub shortest_refused : (k : ℕ) → answer ≡ refused k → out_after ≡ out
    shortest_refused k e = shortest_kept (λ n d. let o : ◌≡◌ {A = ℕ} 0 1 = cc in omega arith)

    pub shortest_no_log : answer ≡ answered none → out_after ≡ out
    shortest_no_log e = shortest_kept (λ n d. let o : ◌≡◌ {A = ℕ} 0 1 = cc in omega arith)

    pub shortest_shown : (n : ℕ) → answer ≡ answered (some n) → ShownIn n out_after
    shortest_shown n e = by shortest_does where
      never : {k : ℕ} → answer ≡ refused k → ShownIn n out_after
      never d = absurd (let o : ◌≡◌ {A = ℕ} 0 1 = cc in omega arith)

      written : verdict s ≡ 0 → scratch_size ≤ length scratch → {a : Answer (Option ℕ)} {o : List ℕ} → ShowsLog (parse s) out a o → a ≡ answered (some n) → ShownIn n o
      written z l (shows_none h) d = absurd (let o : ◌≡◌ {A = ℕ} 0 1 = cc in omega arith)
      written z l (shows_long a m) d = absurd (let o : ◌≡◌ {A = ℕ} 0 1 = cc in omega arith)
      written z l (shows_no_room m k g) d = absurd (let o : ◌≡◌ {A = ℕ} 0 1 = cc in omega arith)
      written z l (shows_log {n = k} {w} {out_after = o} a long shorter m g after) d =
          let same : k ≡ n = cc in
          let front : take n o ≡ w = ap (take n) after ∙ take_at w (drop k out) n (long ∙ same) in
          record {
            good = z;
            lends = l;
            accepted = rw front a;
            long = ap length front ∙ long ∙ same;
            none_shorter = rw (← same) shorter;
            after = after ∙ rw (same, front);
          }

      by : Does answer left out_after → ShownIn n out_after
      by (no_table m d c o) = never d
      by (no_scratch z l d c o) = never d
      by (shows z l h c) = written z l h e

    -- "No log", 10, 9 and each number of letters are exact, so no shortest log that could be written is refused.
    module _ (good : verdict s ≡ 0) (long : scratch_size ≤ length scratch) where
      pub no_log_exact : (answer ≡ answered none) ↔ ((w : List ℕ) → Accepts (automaton (parse s)) w → ⊥)
      no_log_exact = says_iff good long (answered none)

      pub ten_exact : (answer ≡ refused 10) ↔ (((w : List ℕ) × Accepts (automaton (parse s)) w) × ((v : List ℕ) → Accepts (automaton (parse s)) v → most_shown < length v))
      ten_exact =
          let i = says_iff good long (refused 10) in
          (λ e. ⊎_elim (λ w. w.1) (λ w. absurd (omega (arith, w.0))) (i.0 e), λ w. i.1 (inl (refl, w)))

      pub nine_exact : (answer ≡ refused 9) ↔ ((n : ℕ) × Shortest (automaton (parse s)) n × (n ≤ most_shown) × (length out < n))
      nine_exact =
          let i = says_iff good long (refused 9) in
          (λ e. ⊎_elim (λ w. absurd (omega (arith, w.0))) (λ w. w.1) (i.0 e), λ w. i.1 (inr (refl, w)))

      pub length_exact : (n : ℕ) → (answer ≡ answered (some n)) ↔ (Shortest (automaton (parse s)) n × (n ≤ most_shown) × (n ≤ length out))
      length_exact n = says_iff good long (answered (some n))

  -- The answer, scratch and the output are determined, but for the choice among shortest logs.
  same_answer : {a b : Answer (Option ℕ)} {c d o p : List ℕ} → ShortestCall s scratch out a c o → ShortestCall s scratch out b d p → a ≡ b
  same_answer {a} {b} x y = by (lent scratch_size s scratch a refused) where
    by : Lent scratch_size s scratch a refused → a ≡ b
    by (is_no_table n e) = sym (answer_lent x) ∙ e ∙ sym (on_no_table scratch_size s scratch b refused n) ∙ answer_lent y
    by (is_short z l e) = sym (answer_lent x) ∙ e ∙ sym (on_short scratch_size s scratch b refused z l) ∙ answer_lent y
    by (is_lent z l e) = (says_iff x z l b).1 (shows_says (parse s) out (shown_here y z l))

  pub outcome_once : {a b : Answer (Option ℕ)} {c d o p : List ℕ} → ShortestCall s scratch out a c o → ShortestCall s scratch out b d p
      → (a ≡ b) × (c ≡ d) × ((o ≡ p) ⊎ OtherLog a o p)
  outcome_once {a} {b} {c} {d} {o} {p} x y = (same_answer x y, x.leaves ∙ sym y.leaves, by a x (same_answer x y)) where
    by : (a : Answer (Option ℕ)) → ShortestCall s scratch out a c o → a ≡ b → (o ≡ p) ⊎ OtherLog a o p
    by (refused k) x e = inl (shortest_refused x _ refl ∙ sym (shortest_refused y _ (sym e)))
    by (answered none) x e = inl (shortest_no_log x refl ∙ sym (shortest_no_log y (sym e)))
    by (answered (some n)) x e =
        let shown = shortest_shown x n refl in
        let other = shortest_shown y n (sym e) in
        inr (record {
          n = n;
          answers = refl;
          none_shorter = shown.none_shorter;
          w = take n o;
          v = take n p;
          w_accepted = shown.accepted;
          v_accepted = other.accepted;
          w_long = shown.long;
          v_long = other.long;
          w_after = shown.after;
          v_after = other.after;
        })

  pub shortest_once : (r q : Result (rust.Option ℕ) Refusal) (c d o p : List ℕ) → ShortestCall s scratch out (shown_as r) c o → ShortestCall s scratch out (shown_as q) d p
      → (r ≡ q) × (c ≡ d) × ((o ≡ p) ⊎ OtherLog (shown_as r) o p)
  shortest_once r q c d o p a b = let w = outcome_once a b in (told_once log_told back back_as r q refl (sym w.0), w.1, w.2) where
    back : Option ℕ → rust.Option ℕ
    back none = None
    back (some n) = Some n

    back_as : (o : rust.Option ℕ) → back (log_told o) ≡ o
    back_as None = refl
    back_as (Some n) = refl
