-- What a trim is answered with, in the words of document 01: which bytes are written and what they mean, which numbers refuse and what they leave. Last,
-- two answers that meet the contract are one: it leaves nothing open.
use Prim.Native.Nat.{ℕ, ◌<◌, ◌≤◌}
use mathlib.Core.Bool.{Bool, true, false}
use mathlib.Core.List.{List, [], ◌++◌}
use mathlib.Core.Logic.{◌↔◌, ◌⊎◌, inl, inr, ⊎_elim}
use mathlib.Core.Path.{◌≡◌, refl, sym, ap, subst, ◌∙◌}
use native.Mathlib.Decide.{dec_lt}
use native.Mathlib.Omega.{arith}
use borrow.Author.Tests.{leb-true, lt-ltb, le-ltb, le-leb}
use Rattle.std.specs.Prelude.{Result}
use lib.Dec.{T}
use lib.ListN.{length, take, drop}
use lib.Seq.{take_at}
use Rattle.vpa.specs.Automaton.{Accepts, SameRuns, WeaklyReduced}
use Rattle.vpa.specs.TableOnDisk.{Table, state_count, automaton}
use Rattle.vpa.specs.TrimComputed.{trim_table, state_now, mark_bare}
use Rattle.vpa.proofs.TrimmedMoves.{trimmed_kinds}
use Rattle.vpa.proofs.TrimmedTable.{trimmed_is_table, trimmed_same_runs, trimmed_same_logs, trimmed_weakly_reduced, trims_to_nothing}
use Rattle.table.specs.Answers.{Answer, refused, answered}
use Rattle.table.specs.Bytes.{AreBytes}
use Rattle.table.specs.Layout.{parse, unparse, most_states, most_marks, most_moves, Storable}
use Rattle.table.specs.Refusals.{verdict}
use Rattle.table.proofs.All.{both, and_true}
use Rattle.table.proofs.CallLaws.{told_once}
use Rattle.table.proofs.Parsing.{parse_unparse, unparse_bytes}
use Rattle.table.proofs.Tables.{good_storable, good_table, storable_good}
use Rattle.nesting.specs.Scratch.{scratch_size, with_scratch, cleared}
use Rattle.table.proofs.Lent.{Lent, is_no_table, is_short, is_lent, lent, on_no_table, on_short, on_lent, RefusedFor, lent_refused_iff}
use Rattle.table.specs.declared.refusal.Refusal.{Refusal}
use Rattle.trim.specs.Answers.{trimmed_as}
use Rattle.trim.specs.Calls.{within?, written_answer, written_out, trim_call}

-- The bytes of the trimmed table.
abbrev pub trimmed_bytes : List ℕ → List ℕ
trimmed_bytes s = unparse (trim_table (parse s))

-- The limits on a trimmed table, and what it is to be over them.
abbrev pub Within : Table → Type 0
Within t = (state_count t ≤ most_states) × (t.mark_count ≤ most_marks) × (length t.moves ≤ most_moves)

abbrev pub Over : Table → Type 0
Over t = (most_states < state_count t) ⊎ (most_marks < t.mark_count) ⊎ (most_moves < length t.moves)

-- The test is for these limits, and each of them refuses by itself.
module _ (t : Table) where
  within_facts : within? t ≡ true → Within t
  unfolding within?
  within_facts e = let w = both _ _ e in let v = both _ _ w.1 in (leb-true _ _ w.0, leb-true _ _ v.0, leb-true _ _ v.1)

  pub within_yes : state_count t ≤ most_states → t.mark_count ≤ most_marks → length t.moves ≤ most_moves → within? t ≡ true
  unfolding within?
  within_yes n g m = and_true (le-leb _ _ n) (and_true (le-leb _ _ g) (le-leb _ _ m))

  pub within_iff : T (within? t) ↔ Within t
  within_iff = (λ h. by (within? t) refl h, λ w. subst T (sym (within_yes w.0 w.1 w.2)) tt) where
    by : (b : Bool) → within? t ≡ b → T b → Within t
    by true e h = within_facts e
    by false e h = absurd h

  pub over_iff : (within? t ≡ false) ↔ Over t
  over_iff = (
    λ e. by e (dec_lt most_states (state_count t)) (dec_lt most_marks t.mark_count) (dec_lt most_moves (length t.moves)),
    λ o. back (within? t) refl o,
  ) where
    by : within? t ≡ false → Dec (most_states < state_count t) → Dec (most_marks < t.mark_count) → Dec (most_moves < length t.moves) → Over t
    by e (yes n) g m = inl n
    by e (no n) (yes g) m = inr (inl g)
    by e (no n) (no g) (yes m) = inr (inr m)
    by e (no n) (no g) (no m) = absurd (subst T (sym (within_yes (omega arith) (omega arith) (omega arith)) ∙ e) tt)

    back : (b : Bool) → within? t ≡ b → Over t → b ≡ false
    back false e o = refl
    back true e (inl n) = absurd (omega (arith, (within_facts e).0))
    back true e (inr (inl g)) = absurd (omega (arith, (within_facts e).1))
    back true e (inr (inr m)) = absurd (omega (arith, (within_facts e).2))

  pub within_not_states : most_states < state_count t → within? t ≡ false
  within_not_states n = over_iff.1 (inl n)

  pub within_not_marks : most_marks < t.mark_count → within? t ≡ false
  within_not_marks g = over_iff.1 (inr (inl g))

  pub within_not_moves : most_moves < length t.moves → within? t ≡ false
  within_not_moves m = over_iff.1 (inr (inr m))

-- What the contract says of an answer, of scratch and of output afterwards, and the part of it that is about a trimmed table; and how the code comes to
-- them, refusing or not.
abbrev pub Meets : List ℕ → List ℕ → List ℕ → Answer ℕ → List ℕ → List ℕ → Type 0
Meets s scratch out answer after out_after =
    (answer ≡ (trim_call s scratch out).answer) × ((after ≡ (trim_call s scratch out).scratch) × (out_after ≡ (trim_call s scratch out).out))

abbrev pub MeetsWritten : Table → List ℕ → Answer ℕ → List ℕ → Type 0
MeetsWritten t out answer out_after = (answer ≡ written_answer t out) × (out_after ≡ written_out t out)

module _ (t : Table) (out : List ℕ) where
  pub meets_large : within? t ≡ false → MeetsWritten t out (refused 8) out
  meets_large e = rw e (refl, refl)

  pub meets_no_room : within? t ≡ true → length out < length (unparse t) → MeetsWritten t out (refused 9) out
  meets_no_room e l = rw (e, lt-ltb _ _ l) (refl, refl)

  pub meets_bytes : {n : ℕ} {out_after : List ℕ} → within? t ≡ true → length (unparse t) ≤ length out
      → n ≡ length (unparse t) → out_after ≡ unparse t ++ drop (length (unparse t)) out → MeetsWritten t out (answered n) out_after
  meets_bytes e l d o = rw (e, le-ltb _ _ l) (ap answered d, o)

module _ (s scratch out : List ℕ) where
  meets_refused : {k : ℕ} → ((X : Type 0) (x : X) (f : ℕ → X) → with_scratch s scratch x f ≡ f k) → Meets s scratch out (refused k) scratch out
  meets_refused e = (
    sym (e (Answer ℕ) (written_answer (trim_table (parse s)) out) refused),
    (sym (e (List ℕ) (cleared scratch) (λ j. scratch)), sym (e (List ℕ) (written_out (trim_table (parse s)) out) (λ j. out))),
  )

  pub meets_no_table : {k : ℕ} → verdict s ≡ k → (k ≡ 0 → ⊥) → Meets s scratch out (refused k) scratch out
  meets_no_table v n = meets_refused (λ X x f. on_no_table scratch_size s scratch x f (λ z. n (sym v ∙ z)) ∙ ap f v)

  pub meets_short : verdict s ≡ 0 → length scratch < scratch_size → Meets s scratch out (refused 7) scratch out
  meets_short good l = meets_refused (λ X x f. on_short scratch_size s scratch x f good l)

  pub meets_written : {answer : Answer ℕ} {after out_after : List ℕ} → verdict s ≡ 0 → scratch_size ≤ length scratch
      → MeetsWritten (trim_table (parse s)) out answer out_after → after ≡ cleared scratch → Meets s scratch out answer after out_after
  meets_written good l w e = (
    w.0 ∙ sym (on_lent scratch_size s scratch (written_answer (trim_table (parse s)) out) refused good l),
    (
      e ∙ sym (on_lent scratch_size s scratch (cleared scratch) (λ j. scratch) good l),
      w.1 ∙ sym (on_lent scratch_size s scratch (written_out (trim_table (parse s)) out) (λ j. out) good l),
    ),
  )

-- What becomes of a trimmed table, case by case: it is over the limits, or too long for the output, or written.
pub data Writes (t : Table) (out : List ℕ) : Type 0 where
  writes_over : Over t → MeetsWritten t out (refused 8) out → Writes t out
  writes_past : Within t → length out < length (unparse t) → MeetsWritten t out (refused 9) out → Writes t out
  writes_all : Within t → length (unparse t) ≤ length out → MeetsWritten t out (answered (length (unparse t))) (unparse t ++ drop (length (unparse t)) out) → Writes t out

pub writes : (t : Table) (out : List ℕ) → Writes t out
writes t out = by (within? t) refl (dec_lt (length out) (length (unparse t))) where
  by : (b : Bool) → within? t ≡ b → Dec (length out < length (unparse t)) → Writes t out
  by false e d = writes_over ((over_iff t).0 e) (meets_large t out e)
  by true e (yes l) = writes_past (within_facts t e) l (meets_no_room t out e l)
  by true e (no l) = let long : length (unparse t) ≤ length out = omega arith in writes_all (within_facts t e) long (meets_bytes t out e long refl refl)

-- The call, case by case: it refuses what is no table, then short scratch, and leaves both memories; else scratch is cleared, and it refuses what is over
-- the limits, then what has no room, or the bytes stand in front of the output and what lies past them stays.
pub data Trims (s scratch out : List ℕ) : Type 0 where
  no_table : (verdict s ≡ 0 → ⊥) → Meets s scratch out (refused (verdict s)) scratch out → Trims s scratch out
  no_scratch : verdict s ≡ 0 → length scratch < scratch_size → Meets s scratch out (refused 7) scratch out → Trims s scratch out
  too_large : verdict s ≡ 0 → scratch_size ≤ length scratch → Over (trim_table (parse s)) → Meets s scratch out (refused 8) (cleared scratch) out → Trims s scratch out
  no_room : verdict s ≡ 0 → scratch_size ≤ length scratch → Within (trim_table (parse s)) → length out < length (trimmed_bytes s)
      → Meets s scratch out (refused 9) (cleared scratch) out → Trims s scratch out
  trims : verdict s ≡ 0 → scratch_size ≤ length scratch → Within (trim_table (parse s)) → length (trimmed_bytes s) ≤ length out
      → Meets s scratch out (answered (length (trimmed_bytes s))) (cleared scratch) (trimmed_bytes s ++ drop (length (trimmed_bytes s)) out) → Trims s scratch out

pub trim_does : (s scratch out : List ℕ) → Trims s scratch out
trim_does s scratch out = by (lent scratch_size s scratch out (λ k. out)) (writes (trim_table (parse s)) out) where
  by : Lent scratch_size s scratch out (λ k. out) → Writes (trim_table (parse s)) out → Trims s scratch out
  by (is_no_table n e) w = no_table n (meets_no_table s scratch out refl n)
  by (is_short z l e) w = no_scratch z l (meets_short s scratch out z l)
  by (is_lent z l e) (writes_over o m) = too_large z l o (meets_written s scratch out z l m refl)
  by (is_lent z l e) (writes_past o r m) = no_room z l o r (meets_written s scratch out z l m refl)
  by (is_lent z l e) (writes_all o r m) = trims z l o r (meets_written s scratch out z l m refl)

-- The bytes of the trimmed table mean it, so what `vpa` shows of the trimmed table holds of what is read back: the runs of the original, one for one, the
-- same logs, and every run can be completed.
pub trimmed_parses : (s : List ℕ) → parse (trimmed_bytes s) ≡ trim_table (parse s)
trimmed_parses s = parse_unparse (trim_table (parse s))

module _ (s : List ℕ) (good : verdict s ≡ 0) where
  pub written_same_runs : SameRuns (automaton (parse s)) (automaton (parse (trimmed_bytes s))) (state_now (parse s)) (mark_bare (parse s))
  written_same_runs = rw (trimmed_parses s) (trimmed_same_runs (parse s) (good_table s good))

  pub written_same_logs : (w : List ℕ) → Accepts (automaton (parse (trimmed_bytes s))) w ↔ Accepts (automaton (parse s)) w
  written_same_logs = rw (trimmed_parses s) (trimmed_same_logs (parse s) (good_table s good))

  pub written_weakly_reduced : WeaklyReduced (automaton (parse (trimmed_bytes s)))
  written_weakly_reduced = rw (trimmed_parses s) (trimmed_weakly_reduced (parse s) (good_table s good))

  -- Of a table that accepts no log the letters are left. That is within the limits, so it is not refused with 8.
  pub written_nothing : ((w : List ℕ) → Accepts (automaton (parse s)) w → ⊥)
      → (trim_table (parse s) ≡ record { kinds = (parse s).kinds; state_bytes = []; mark_count = 0; moves = [] }) × Within (trim_table (parse s))
  written_nothing never =
      let e = trims_to_nothing (parse s) (good_table s good) never in
      (e, subst Within (sym e) (omega arith, omega arith, omega arith))

  -- Within the limits it is a table that can be on disk.
  module _ (fits : T (within? (trim_table (parse s)))) where
    pub trimmed_storable : Storable (trim_table (parse s))
    trimmed_storable =
        let w = (within_iff (trim_table (parse s))).0 fits in
        record {
          table = trimmed_is_table (parse s) (good_table s good);
          states = w.0;
          letters = rw (trimmed_kinds (parse s)) (good_storable s good).letters;
          marks = w.1;
          moves = w.2;
        }

    pub trimmed_passes : verdict (trimmed_bytes s) ≡ 0
    trimmed_passes = storable_good trimmed_storable

    pub trimmed_bytes_lem : AreBytes (trimmed_bytes s)
    trimmed_bytes_lem = unparse_bytes trimmed_storable

-- Why a trimmed table is refused: 8 by the limits, and where they give no reason 9 by the output.
abbrev pub RefusedTrimmed : Table → List ℕ → ℕ → Type 0
RefusedTrimmed t out k = ((k ≡ 8) × Over t) ⊎ ((k ≡ 9) × Within t × (length out < length (unparse t)))

pub written_refused_iff : (t : Table) (out : List ℕ) (k : ℕ) → (written_answer t out ≡ refused k) ↔ RefusedTrimmed t out k
written_refused_iff t out k = (λ e. forth e (writes t out), back) where
  forth : written_answer t out ≡ refused k → Writes t out → RefusedTrimmed t out k
  forth e (writes_over o m) = let eight : k ≡ 8 = cc m.0 in inl (eight, o)
  forth e (writes_past w l m) = let nine : k ≡ 9 = cc m.0 in inr (nine, w, l)
  forth e (writes_all w l m) = absurd (let o : ◌≡◌ {A = ℕ} 0 1 = cc m.0 in omega arith)

  back : RefusedTrimmed t out k → written_answer t out ≡ refused k
  back (inl (e, o)) = rw e (sym (meets_large t out ((over_iff t).1 o)).0)
  back (inr (e, w, l)) = rw e (sym (meets_no_room t out (within_yes t w.0 w.1 w.2) l).0)

module _ (s scratch out : List ℕ) where
  -- The numbers that refuse: those for the bytes and the scratch, then 8 and 9, and no other.
  pub trim_refused_iff : AreBytes s → (k : ℕ)
      → ((trim_call s scratch out).answer ≡ refused k)
      ↔ (RefusedFor scratch_size s scratch k ⊎ ((verdict s ≡ 0) × (scratch_size ≤ length scratch) × RefusedTrimmed (trim_table (parse s)) out k))
  trim_refused_iff bytes k =
      let reasons = lent_refused_iff scratch_size s scratch (written_answer (trim_table (parse s)) out) bytes k in
      let further = written_refused_iff (trim_table (parse s)) out k in (
        λ e. ⊎_elim inl (λ w. inr (w.0, w.1, further.0 w.2)) (reasons.0 e),
        ⊎_elim (λ r. reasons.1 (inl r)) (λ w. reasons.1 (inr (w.0, w.1, further.1 w.2))),
      )

  -- Refused, the output holds what it held.
  pub trim_refused : (k : ℕ) → (trim_call s scratch out).answer ≡ refused k → (trim_call s scratch out).out ≡ out
  trim_refused k e = by (trim_does s scratch out) where
    by : Trims s scratch out → (trim_call s scratch out).out ≡ out
    by (no_table n m) = sym m.1.1
    by (no_scratch z l m) = sym m.1.1
    by (too_large z l o m) = sym m.1.1
    by (no_room z l w r m) = sym m.1.1
    by (trims z l w r m) = absurd (let o : ◌≡◌ {A = ℕ} 0 1 = cc m.0 in omega arith)

  -- Answered, the bytes of the trimmed table stand in front: they pass the check and mean a table with the runs of the original, one for one, each of which
  -- can be completed.
  pub record Answered (n : ℕ) : Type 0 where
    pub good : verdict s ≡ 0
    pub within : Within (trim_table (parse s))
    pub counted : n ≡ length (trimmed_bytes s)
    pub after : (trim_call s scratch out).out ≡ trimmed_bytes s ++ drop n out
    pub front : take n (trim_call s scratch out).out ≡ trimmed_bytes s
    pub passes : verdict (take n (trim_call s scratch out).out) ≡ 0
    pub parses : parse (take n (trim_call s scratch out).out) ≡ trim_table (parse s)
    pub same_runs : SameRuns (automaton (parse s)) (automaton (parse (take n (trim_call s scratch out).out))) (state_now (parse s)) (mark_bare (parse s))
    pub reduced : WeaklyReduced (automaton (parse (take n (trim_call s scratch out).out)))

  pub trim_answered : (n : ℕ) → (trim_call s scratch out).answer ≡ answered n → Answered n
  trim_answered n e = by (trim_does s scratch out) where
    never : {k : ℕ} → refused k ≡ (trim_call s scratch out).answer → Answered n
    never d = absurd (let o : ◌≡◌ {A = ℕ} 0 1 = cc in omega arith)

    by : Trims s scratch out → Answered n
    by (no_table m a) = never a.0
    by (no_scratch z l a) = never a.0
    by (too_large z l o a) = never a.0
    by (no_room z l w r a) = never a.0
    by (trims z l w r a) =
        let c : n ≡ length (trimmed_bytes s) = cc a.0 in
        let o : (trim_call s scratch out).out ≡ trimmed_bytes s ++ drop n out = sym a.1.1 ∙ ap (λ i. trimmed_bytes s ++ drop i out) (sym c) in
        let f : take n (trim_call s scratch out).out ≡ trimmed_bytes s = ap (take n) o ∙ take_at (trimmed_bytes s) (drop n out) n (sym c) in
        record {
          good = z;
          within = w;
          counted = c;
          after = o;
          front = f;
          passes = ap verdict f ∙ trimmed_passes s z ((within_iff (trim_table (parse s))).1 w);
          parses = ap parse f ∙ trimmed_parses s;
          same_runs = rw f (written_same_runs s z);
          reduced = rw f (written_weakly_reduced s z);
        }

  -- 8 and 9 are exact, so no trim that could be written is refused.
  module _ (good : verdict s ≡ 0) (long : scratch_size ≤ length scratch) where
    answer_lent : (trim_call s scratch out).answer ≡ written_answer (trim_table (parse s)) out
    answer_lent = on_lent scratch_size s scratch (written_answer (trim_table (parse s)) out) refused good long

    pub eight_exact : ((trim_call s scratch out).answer ≡ refused 8) ↔ Over (trim_table (parse s))
    eight_exact =
        let reasons = written_refused_iff (trim_table (parse s)) out 8 in
        (λ e. ⊎_elim (λ w. w.1) (λ w. absurd (omega (arith, w.0))) (reasons.0 (sym answer_lent ∙ e)), λ o. answer_lent ∙ reasons.1 (inl (refl, o)))

    pub nine_exact : ((trim_call s scratch out).answer ≡ refused 9) ↔ (Within (trim_table (parse s)) × (length out < length (trimmed_bytes s)))
    nine_exact =
        let reasons = written_refused_iff (trim_table (parse s)) out 9 in
        (λ e. ⊎_elim (λ w. absurd (omega (arith, w.0))) (λ w. (w.1, w.2)) (reasons.0 (sym answer_lent ∙ e)), λ w. answer_lent ∙ reasons.1 (inr (refl, w.0, w.1)))

  pub trim_once : (r q : Result ℕ Refusal) (c d o p : List ℕ) → Meets s scratch out (trimmed_as r) c o → Meets s scratch out (trimmed_as q) d p
      → (r ≡ q) × (c ≡ d) × (o ≡ p)
  trim_once r q c d o p a b = (told_once (λ n. n) (λ n. n) (λ n. refl) r q a.0 b.0, a.1.0 ∙ sym b.1.0, a.1.1 ∙ sym b.1.1)
