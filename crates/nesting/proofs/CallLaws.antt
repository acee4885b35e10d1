-- What pairs and levels are answered with, in the words of document 01: which pairs the rows hold, how many, which numbers refuse and what they leave.
-- Last, two answers that meet the contract are one: it leaves nothing open.
use Prim.Native.Nat.{ℕ, ◌<◌, ◌≤◌}
use mathlib.Core.List.{List, Memᴰ}
use mathlib.Core.Logic.{◌↔◌, inl, ⊎_elim}
use mathlib.Core.Path.{◌≡◌, sym, ap, ◌∙◌}
use native.Mathlib.Omega.{arith}
use lib.ListN.{length, replicate}
use Rattle.vpa.specs.Lists.{Pair}
use Rattle.vpa.specs.PairsComputed.{pairs, levels}
use Rattle.vpa.specs.PairsLevelsTrimmed.{Balanced, Live}
use Rattle.vpa.specs.TableOnDisk.{Table, state_count, automaton}
use Rattle.vpa.proofs.TableLevels.{levels_live, levels_distinct, levels_complete, levels_iff}
use Rattle.vpa.proofs.TablePairs.{pairs_bounds, pairs_distinct, pairs_iff}
use Rattle.table.specs.Answers.{Answer, refused, answered}
use Rattle.table.specs.Bytes.{AreBytes}
use Rattle.table.specs.Layout.{parse}
use Rattle.table.specs.Refusals.{verdict}
use Rattle.table.proofs.CallLaws.{told_once}
use Rattle.table.proofs.Tables.{good_storable, good_table}
use Rattle.table.proofs.Lent.{Lent, is_no_table, is_short, is_lent, lent, on_no_table, on_short, on_lent, RefusedFor, lent_refused_iff}
use Rattle.relation.specs.Relations.{Holds, HoldsExactly, size_of}
use Rattle.relation.proofs.Relations.{size_most}
use Rattle.nesting.specs.declared.Nesting.{Nesting}
use Rattle.nesting.specs.Answers.{Sizes, sizes_told, found_as}
use Rattle.nesting.specs.Calls.{rows, sizes_answer, nesting_answer, nesting_pairs, nesting_levels}
use Rattle.nesting.specs.Scratch.{scratch_size, with_scratch, cleared, scratch_after}
use Rattle.nesting.proofs.ListedRows.{Listed, Inside, rows_listed, rows_size}

-- The rows of a list hold a pair exactly where P, if P is what it means for the pair to stand in the list.
held_iff : {xs : List Pair} {P : Type 0} → Inside xs → (j k : ℕ) → Memᴰ (j, k) xs ↔ P → Holds (rows xs) j k ↔ P
held_iff {xs} inside j k means =
    let held = (rows_listed xs inside).at j k in
    (λ h. means.0 (held.0 h).member, λ p. held.1 (record { member = means.1 p }))

module _ (s : List ℕ) (good : verdict s ≡ 0) where
  -- A table has at most 64 states, so there is a row and a digit for each.
  state_low : {p : ℕ} → p < state_count (parse s) → p < 64
  state_low l = omega (arith, (good_storable s good).states)

  pub pairs_inside : Inside (pairs (parse s))
  pairs_inside x m = let b = pairs_bounds (parse s) m in (state_low b.0, state_low b.1)

  pub levels_inside : Inside (levels (parse s))
  levels_inside x m =
      let b = levels_complete (parse s) (good_table s good) (levels_live (parse s) x.0 x.1 m) in
      (state_low b.0, state_low b.1)

  -- Rows that are equal to those of the pairs hold the pairs.
  pub held_pairs : {b : List ℕ} → b ≡ rows (pairs (parse s)) → HoldsExactly b (Listed (pairs (parse s)))
  held_pairs e = rw e (rows_listed (pairs (parse s)) pairs_inside)

  -- The rows hold the balanced pairs of states of the table, and the live levels.
  pub pair_rows_iff : (j k : ℕ) → Holds (rows (pairs (parse s))) j k ↔ ((j < state_count (parse s)) × Balanced (automaton (parse s)) j k)
  pair_rows_iff j k = held_iff pairs_inside j k (pairs_iff (parse s) (good_table s good) j k)

  pub level_rows_iff : (o q : ℕ) → Holds (rows (levels (parse s))) o q ↔ Live (automaton (parse s)) o q
  level_rows_iff o q = held_iff levels_inside o q (levels_iff (parse s) (good_table s good) o q)

  -- The two numbers answered are how many pairs the rows hold.
  pub pair_rows_size : size_of (rows (pairs (parse s))) ≡ length (pairs (parse s))
  pair_rows_size = rows_size (pairs_distinct (parse s)) pairs_inside

  pub level_rows_size : size_of (rows (levels (parse s))) ≡ length (levels (parse s))
  level_rows_size = rows_size (levels_distinct (parse s)) levels_inside

  -- The sizes of both relations are the answer.
  pub sizes_found : {n m : ℕ} → n ≡ size_of (rows (pairs (parse s))) → m ≡ size_of (rows (levels (parse s))) → answered (record { pairs = n; levels = m }) ≡ sizes_answer (parse s)
  sizes_found e d = cc (e ∙ pair_rows_size, d ∙ level_rows_size)

  pub pair_count_most : length (pairs (parse s)) ≤ 4096
  pair_count_most = omega (arith, pair_rows_size, size_most (rows (pairs (parse s))))

  pub level_count_most : length (levels (parse s)) ≤ 4096
  level_count_most = omega (arith, level_rows_size, size_most (rows (levels (parse s))))

-- What every refusal leaves: no pair, no level, and scratch as it was.
abbrev pub Untouched : List ℕ → List ℕ → Type 0
Untouched s scratch = (nesting_pairs s scratch ≡ replicate 64 0) × (nesting_levels s scratch ≡ replicate 64 0) × (scratch_after s scratch ≡ scratch)

untouched : (s scratch : List ℕ) → ((x y : List ℕ) → with_scratch s scratch x (λ k. y) ≡ y) → Untouched s scratch
untouched s scratch refusal = (refusal (rows (pairs (parse s))) (replicate 64 0), refusal (rows (levels (parse s))) (replicate 64 0), refusal (cleared scratch) scratch)

-- The call, case by case: it refuses what is no table, then short scratch; else it answers with both relations and their sizes, and scratch is cleared.
pub data Nests (s scratch : List ℕ) : Type 0 where
  no_table : (verdict s ≡ 0 → ⊥) → nesting_answer s scratch ≡ refused (verdict s) → Untouched s scratch → Nests s scratch
  no_scratch : verdict s ≡ 0 → length scratch < scratch_size → nesting_answer s scratch ≡ refused 7 → Untouched s scratch → Nests s scratch
  nests : verdict s ≡ 0 → scratch_size ≤ length scratch → nesting_answer s scratch ≡ sizes_answer (parse s) → nesting_pairs s scratch ≡ rows (pairs (parse s))
      → nesting_levels s scratch ≡ rows (levels (parse s)) → scratch_after s scratch ≡ cleared scratch → Nests s scratch

pub nesting_does : (s scratch : List ℕ) → Nests s scratch
nesting_does s scratch = by (lent scratch_size s scratch (sizes_answer (parse s)) refused) where
  by : Lent scratch_size s scratch (sizes_answer (parse s)) refused → Nests s scratch
  by (is_no_table n e) = no_table n e (untouched s scratch (λ x y. on_no_table scratch_size s scratch x (λ k. y) n))
  by (is_short z l e) = no_scratch z l e (untouched s scratch (λ x y. on_short scratch_size s scratch x (λ k. y) z l))
  by (is_lent z l e) =
      let good : (x y : List ℕ) → with_scratch s scratch x (λ k. y) ≡ x = λ x y. on_lent scratch_size s scratch x (λ k. y) z l in
      nests z l e (good (rows (pairs (parse s))) (replicate 64 0)) (good (rows (levels (parse s))) (replicate 64 0)) (good (cleared scratch) scratch)

-- So the rows that the call answers hold the balanced pairs of states, and the live levels. (Every number is balanced with itself, so of pairs the first
-- half is asked to be a state; the second then is one.)
module _ (s scratch : List ℕ) (good : verdict s ≡ 0) (long : scratch_size ≤ length scratch) where
  pub nesting_pairs_iff : (j k : ℕ) → Holds (nesting_pairs s scratch) j k ↔ ((j < state_count (parse s)) × Balanced (automaton (parse s)) j k)
  nesting_pairs_iff j k = rw (on_lent scratch_size s scratch (rows (pairs (parse s))) (λ k. replicate 64 0) good long) (pair_rows_iff s good j k)

  pub nesting_levels_iff : (o q : ℕ) → Holds (nesting_levels s scratch) o q ↔ Live (automaton (parse s)) o q
  nesting_levels_iff o q = rw (on_lent scratch_size s scratch (rows (levels (parse s))) (λ k. replicate 64 0) good long) (level_rows_iff s good o q)

no_refusal : (t : Table) {k : ℕ} → sizes_answer t ≡ refused k → ⊥
no_refusal t e = let o : ◌≡◌ {A = ℕ} 0 1 = cc in omega arith

-- The numbers that refuse: those for the bytes and the scratch, and no other.
pub nesting_refused_iff : (s scratch : List ℕ) → AreBytes s → (k : ℕ) → (nesting_answer s scratch ≡ refused k) ↔ RefusedFor scratch_size s scratch k
nesting_refused_iff s scratch bytes k =
    let reasons = lent_refused_iff scratch_size s scratch (sizes_answer (parse s)) bytes k in
    (λ e. ⊎_elim (λ r. r) (λ w. absurd (no_refusal (parse s) w.2)) (reasons.0 e), λ r. reasons.1 (inl r))

pub nesting_refused : (s scratch : List ℕ) (k : ℕ) → nesting_answer s scratch ≡ refused k → Untouched s scratch
nesting_refused s scratch k e = by (nesting_does s scratch) where
  by : Nests s scratch → Untouched s scratch
  by (no_table n d u) = u
  by (no_scratch z l d u) = u
  by (nests z l d p v c) = absurd (no_refusal (parse s) (sym d ∙ e))

-- What the contract says of an answer, of rows and of scratch afterwards; and how the code comes to it, refusing or not.
abbrev pub Meets : List ℕ → List ℕ → Answer Sizes → List ℕ → List ℕ → List ℕ → Type 0
Meets s scratch answer pair_rows level_rows after =
    (answer ≡ nesting_answer s scratch) × ((pair_rows ≡ nesting_pairs s scratch) × ((level_rows ≡ nesting_levels s scratch) × (after ≡ scratch_after s scratch)))

pub meets_refused : (s scratch : List ℕ) {k : ℕ} {answer : Answer Sizes} {p l : List ℕ} → nesting_answer s scratch ≡ refused k
    → answer ≡ refused k → p ≡ replicate 64 0 → l ≡ replicate 64 0 → Meets s scratch answer p l scratch
meets_refused s scratch {k} refusal e f g = let u = nesting_refused s scratch k refusal in (e ∙ sym refusal, (f ∙ sym u.0, (g ∙ sym u.1, sym u.2)))

pub meets_found : (s scratch : List ℕ) {answer : Answer Sizes} {p l after : List ℕ} → verdict s ≡ 0 → scratch_size ≤ length scratch
    → answer ≡ sizes_answer (parse s) → p ≡ rows (pairs (parse s)) → l ≡ rows (levels (parse s)) → after ≡ cleared scratch → Meets s scratch answer p l after
meets_found s scratch good long e f g h = (
  e ∙ sym (on_lent scratch_size s scratch (sizes_answer (parse s)) refused good long),
  (
    f ∙ sym (on_lent scratch_size s scratch (rows (pairs (parse s))) (λ k. replicate 64 0) good long),
    (
      g ∙ sym (on_lent scratch_size s scratch (rows (levels (parse s))) (λ k. replicate 64 0) good long),
      h ∙ sym (on_lent scratch_size s scratch (cleared scratch) (λ k. scratch) good long),
    ),
  ),
)

pub nesting_once : (s scratch : List ℕ) (r q : Nesting) (o p : List ℕ) → Meets s scratch (found_as r.found) r.pairs r.levels o
    → Meets s scratch (found_as q.found) q.pairs q.levels p → (r ≡ q) × (o ≡ p)
nesting_once s scratch r q o p a b =
    let same-found = told_once sizes_told (λ x. record { pairs = x.pairs; levels = x.levels }) (λ x i. x) r.found q.found a.0 b.0 in
    let same_pairs = a.1.0 ∙ sym b.1.0 in
    let same-levels = a.1.1.0 ∙ sym b.1.1.0 in
    (λ i. record { found = same-found i; pairs = same_pairs i; levels = same-levels i }, a.1.1.1 ∙ sym b.1.1.1)
