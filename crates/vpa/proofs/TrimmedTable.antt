-- The trimmed table is a table, and describes the trimmed automaton under the numbering by position: the same runs, one for one, the same logs, every run
-- completed, and the reader's law. Of a table without accepted logs only the letters are left.
use Prim.Native.Nat.{ℕ, ◌≤◌, ◌<◌, ◌%◌, ◌/◌}
use native.Mathlib.Omega.{arith}
use mathlib.Core.Path.{◌≡◌, refl, sym, ap, ◌∙◌, subst}
use mathlib.Core.Bool.{Bool, true, false, ◌&&◌}
use mathlib.Core.List.Memᴰ
use mathlib.Core.List.{List, [], ◌∷◌, ◌++◌, map, Memᴰ}
use mathlib.Core.Logic.{◌↔◌}
use lib.ListN.{length, get_or, length-map}
use lib.Dec.{T, eqb, eqb→eq, eqb_refl}
use Rattle.vpa.specs.Automaton.{Accepts, SameRuns, Renames, WeaklyReduced}
use Rattle.vpa.specs.PairsLevelsTrimmed.{Triple, triple, TrimmedState, TrimmedInitial, trimmed_initial, TrimmedFinal, trimmed_final, trim, now, bare}
use Rattle.vpa.specs.Reader.{begin, candidate, reading_of, Going}
use Rattle.vpa.specs.Lists.{Pair, Trio, sift, each, up_from, below}
use Rattle.vpa.specs.TableOnDisk.{Table, state_count, kind_in, initial?, final?, automaton, IsTable}
use Rattle.vpa.specs.PairsComputed.{initial_to_final?, pairs}
use Rattle.vpa.specs.TrimComputed.{openers, trim_states_of, trim_marks_of, trim_moves_of, no_trio, state_byte, trim_byte, trim_from, trim_table, trim_states, trim_marks, state_at, mark_at, state_now, mark_bare, state_number, mark_number}
use Rattle.vpa.proofs.Lists.{both, and, get_mem, get_map, at_position}
use Rattle.vpa.proofs.Renaming.{renamed_same_runs, renamed_weakly_reduced, same_runs_trans, same_logs}
use Rattle.vpa.proofs.Trimming.{trim_same_runs, trim_weakly_reduced}
use Rattle.vpa.proofs.ReaderRuns.{going_iff_original, candidate_iff_original, begin_iff_original}
use Rattle.vpa.proofs.TableMoves.{initial_bound, final_bound}
use Rattle.vpa.proofs.TableLevels.{no_level_iff_no_log}
use Rattle.vpa.proofs.TrimmedStates.{trim_state_of, trim_state_in}
use Rattle.vpa.proofs.TrimmedMoves.{made_of, trimmed_kinds, kind_kept, mark_fits, moves_rising, moves_down, moves_up, moves_there, moves_back, state_there, state_back}

-- The two bits of a state's byte.
byte_initial : (b c : Bool) → eqb (state_byte b c % 2) 1 ≡ b
unfolding state_byte
byte_initial true true = refl
byte_initial true false = refl
byte_initial false true = refl
byte_initial false false = refl

byte_final : (b c : Bool) → eqb (state_byte b c / 2) 1 ≡ c
unfolding state_byte
byte_final true true = refl
byte_final true false = refl
byte_final false true = refl
byte_final false false = refl

byte_bound : (b c : Bool) → state_byte b c ≤ 3
unfolding state_byte
byte_bound true true = omega arith
byte_bound true false = omega arith
byte_bound false true = omega arith
byte_bound false false = omega arith

module _ (t : Table) where
  pub trimmed_states : state_count (trim_table t) ≡ length (trim_states t)
  unfolding trim_table trim_from
  trimmed_states = length-map (trim_states t) (trim_byte t)

  pub trimmed_marks : (trim_table t).mark_count ≡ length (trim_marks t)
  unfolding trim_table trim_from
  trimmed_marks = refl

  bytes_bound : (b : ℕ) → Memᴰ b (trim_table t).state_bytes → b ≤ 3
  unfolding trim_table trim_from trim_byte
  bytes_bound b m = let w = Memᴰ.of_map (trim_byte t) (trim_states t) m in subst (λ b. b ≤ 3) w.2 (byte_bound _ _)

  -- The trimmed table is a table.
  pub trimmed_is_table : IsTable t → IsTable (trim_table t)
  trimmed_is_table fit = record {
    kinds = λ k m. fit.kinds k (subst (λ l. Memᴰ k l) (trimmed_kinds t) m);
    state_bytes = bytes_bound;
    from = λ e m. subst (λ n. e.from < n) (sym trimmed_states) (made_of t m).from;
    letter = λ e m. subst (λ l. e.letter < length l) (sym (trimmed_kinds t)) (made_of t m).letter;
    mark = λ e m. rw (kind_kept t, trimmed_marks) (mark_fits (kind_in t e.letter) e.mark (length (trim_marks t)) (made_of t m).mark);
    to = λ e m. subst (λ n. e.to < n) (sym trimmed_states) (made_of t m).to;
    rising = moves_rising t;
  }

  -- Which trimmed states are initial and final, as tests.
  first? : Trio → Bool
  first? c = eqb c.2 c.0 && initial_to_final? t (c.0, c.1)

  last? : Trio → Bool
  last? c = eqb c.2 c.1 && initial_to_final? t (c.0, c.1)

  initial_at : (i : ℕ) → i < length (trim_states t) → initial? (trim_table t) i ≡ first? (get_or (trim_states t) i no_trio)
  unfolding initial? trim_table trim_from trim_byte first?
  initial_at i h = ap (λ x. eqb (x % 2) 1) (get_map (trim_byte t) no_trio (trim_states t) i h) ∙ byte_initial _ _

  final_at : (i : ℕ) → i < length (trim_states t) → final? (trim_table t) i ≡ last? (get_or (trim_states t) i no_trio)
  unfolding final? trim_table trim_from trim_byte last? first?
  final_at i h = ap (λ x. eqb (x / 2) 1) (get_map (trim_byte t) no_trio (trim_states t) i h) ∙ byte_final (first? (get_or (trim_states t) i no_trio)) _

  numbered : {i : ℕ} → i < state_count (trim_table t) → i < length (trim_states t)
  numbered {i} h = subst (λ n. i < n) trimmed_states h

  atop_of : (c : Trio) (x : ℕ) → T (eqb c.2 x && initial_to_final? t (c.0, c.1)) → (c.2 ≡ x) × T (initial? t c.0) × T (final? t c.1)
  unfolding initial_to_final?
  atop_of c x h =
      let k = both (eqb c.2 x) (initial? t c.0 && final? t c.1) h in
      let l = both (initial? t c.0) (final? t c.1) k.1 in
      (eqb→eq c.2 x k.0, l.0, l.1)

  first_of : (c : Trio) → Memᴰ c (trim_states t) → T (first? c) → TrimmedInitial (automaton t) (triple c.0 c.1 c.2)
  unfolding first?
  first_of c m h =
      let k = atop_of c c.0 h in
      subst (λ z. TrimmedInitial (automaton t) (triple c.0 c.1 z)) (sym k.0) (trimmed_initial (subst (TrimmedState (automaton t) c.0 c.1) k.0 (trim_state_of t m)) k.1 k.2)

  last_of : (c : Trio) → Memᴰ c (trim_states t) → T (last? c) → TrimmedFinal (automaton t) (triple c.0 c.1 c.2)
  unfolding last?
  last_of c m h =
      let k = atop_of c c.1 h in
      subst (λ z. TrimmedFinal (automaton t) (triple c.0 c.1 z)) (sym k.0) (trimmed_final (subst (TrimmedState (automaton t) c.0 c.1) k.0 (trim_state_of t m)) k.1 k.2)

  initial_down : (i : ℕ) → T (initial? (trim_table t) i) → TrimmedInitial (automaton t) (state_at t i)
  unfolding state_at
  initial_down i h = let l = numbered (initial_bound (trim_table t) i h) in first_of (get_or (trim_states t) i no_trio) (get_mem no_trio (trim_states t) i l) (subst T (initial_at i l) h)

  final_down : (i : ℕ) → T (final? (trim_table t) i) → TrimmedFinal (automaton t) (state_at t i)
  unfolding state_at
  final_down i h = let l = numbered (final_bound (trim_table t) i h) in last_of (get_or (trim_states t) i no_trio) (get_mem no_trio (trim_states t) i l) (subst T (final_at i l) h)

  module _ (fit : IsTable t) where
    initial_up : (c : Triple ℕ) → TrimmedInitial (automaton t) c → T (initial? (trim_table t) (state_number t c))
    unfolding state_number first? initial_to_final?
    initial_up c (trimmed_initial {o} {q} w a b) =
        let k = at_position no_trio (o, q, o) (trim_state_in t fit w) in
        subst T (sym (initial_at _ k.0)) (subst (λ x. T (first? x)) (sym k.1) (and (eqb o o) _ (eqb_refl o) (and (initial? t o) (final? t q) a b)))

    final_up : (c : Triple ℕ) → TrimmedFinal (automaton t) c → T (final? (trim_table t) (state_number t c))
    unfolding state_number last? initial_to_final?
    final_up c (trimmed_final {o} {q} w a b) =
        let k = at_position no_trio (o, q, q) (trim_state_in t fit w) in
        subst T (sym (final_at _ k.0)) (subst (λ x. T (last? x)) (sym k.1) (and (eqb q q) _ (eqb_refl q) (and (initial? t o) (final? t q) a b)))

    initial_there : (c : Triple ℕ) → TrimmedInitial (automaton t) c → state_at t (state_number t c) ≡ c
    initial_there c (trimmed_initial w a b) = state_there t fit w

    final_there : (c : Triple ℕ) → TrimmedFinal (automaton t) c → state_at t (state_number t c) ≡ c
    final_there c (trimmed_final w a b) = state_there t fit w

    -- The trimmed table describes the trimmed automaton, with numbers for its states and marks.
    pub trimmed_renames : Renames (trim (automaton t)) (automaton (trim_table t)) (state_at t) (mark_at t) (state_number t) (mark_number t)
    trimmed_renames = record {
      kinds = kind_kept t;
      down = moves_down t;
      up = moves_up t fit;
      there = moves_there t fit;
      back = moves_back t;
      initial_down = initial_down;
      initial_up = initial_up;
      initial_there = initial_there;
      initial_back = λ i h. state_back t i (numbered (initial_bound (trim_table t) i h));
      final_down = final_down;
      final_up = final_up;
      final_there = final_there;
      final_back = λ i h. state_back t i (numbered (final_bound (trim_table t) i h));
    }

    -- Run for run: the accepting runs of the trimmed table are those of the table, one for one.
    pub trimmed_same_runs : SameRuns (automaton t) (automaton (trim_table t)) (state_now t) (mark_bare t)
    unfolding state_now mark_bare
    trimmed_same_runs = same_runs_trans (automaton t) (trim (automaton t)) (automaton (trim_table t)) now bare (state_at t) (mark_at t)
        (trim_same_runs (automaton t)) (renamed_same_runs _ _ _ _ _ _ trimmed_renames)

    -- So they accept the same logs.
    pub trimmed_same_logs : (w : List ℕ) → Accepts (automaton (trim_table t)) w ↔ Accepts (automaton t) w
    trimmed_same_logs = same_logs (automaton t) (automaton (trim_table t)) (state_now t) (mark_bare t) trimmed_same_runs

    -- Every run of the trimmed table from an initial state can be completed.
    pub trimmed_weakly_reduced : WeaklyReduced (automaton (trim_table t))
    trimmed_weakly_reduced = renamed_weakly_reduced _ _ _ _ _ _ trimmed_renames (trim_weakly_reduced (automaton t))

    -- A reader on the trimmed table goes on after the letters w exactly if some log that the original accepts begins with them;
    pub trimmed_going : (w : List ℕ) → Going (reading_of (automaton (trim_table t)) w) ↔ ((v : List ℕ) × Accepts (automaton t) (w ++ v))
    trimmed_going = going_iff_original (automaton t) (automaton (trim_table t)) (state_now t) (mark_bare t) trimmed_same_runs trimmed_weakly_reduced

    -- the same for one letter more;
    pub trimmed_candidate : (w : List ℕ) (a : ℕ)
        → Going (candidate (automaton (trim_table t)) a (reading_of (automaton (trim_table t)) w)) ↔ ((v : List ℕ) × Accepts (automaton t) ((w ++ (a ∷ [])) ++ v))
    trimmed_candidate = candidate_iff_original (automaton t) (automaton (trim_table t)) (state_now t) (mark_bare t) trimmed_same_runs trimmed_weakly_reduced

    -- and before any letter.
    pub trimmed_begin : Going (begin (automaton (trim_table t))) ↔ ((v : List ℕ) × Accepts (automaton t) v)
    trimmed_begin = begin_iff_original (automaton t) (automaton (trim_table t)) (state_now t) (mark_bare t) trimmed_same_runs trimmed_weakly_reduced

  -- Of a table without accepted logs trimming leaves the letters, and no state, mark or move.
  no_marks_from : (b : List Pair) (gs : List ℕ) → each {Y = Trio} (λ γ. map (λ (x : Pair). (γ, x.0, x.1)) (openers t b [] γ)) gs ≡ []
  unfolding each openers sift
  no_marks_from b [] = refl
  no_marks_from b (γ ∷ gs) = no_marks_from b gs

  no_marks : (b : List Pair) → trim_marks_of t b [] ≡ []
  unfolding trim_marks_of
  no_marks b = no_marks_from b (below t.mark_count)

  pub trims_to_nothing : IsTable t → ((w : List ℕ) → Accepts (automaton t) w → ⊥) → trim_table t ≡ record { kinds = t.kinds; state_bytes = []; mark_count = 0; moves = [] }
  unfolding trim_table trim_from trim_states_of trim_moves_of each below up_from
  trims_to_nothing fit never =
      ap (trim_from t (pairs t)) ((no_level_iff_no_log t fit).1 never)
      ∙ (λ i. record { kinds = t.kinds; state_bytes = []; mark_count = length (no_marks (pairs t) i); moves = [] })
