-- How the code comes to the contract, refusing or not.
use Prim.Native.Nat.{ℕ, ◌≤◌, ◌<◌}
use mathlib.Core.List.{List, ◌++◌}
use mathlib.Core.Logic.{inr}
use mathlib.Core.Path.{◌≡◌, sym, ap, ◌∙◌}
use native.Mathlib.Nat.{zero-add}
use native.Mathlib.Omega.{arith}
use borrow.Author.Tests.{lt-ltb, le-ltb}
use lib.ListN.{length, take, drop, replicate, take-append-drop, length-replicate}
use lib.Seq.{length-take-le, get_or-take, ext_get_or}
use Rattle.vpa.specs.ReaderComputed.{Heard}
use Rattle.table.specs.Answers.{Answer, refused}
use Rattle.table.specs.Logs.{longest_log}
use Rattle.table.specs.Refusals.{verdict}
use Rattle.relation.proofs.Relations.{zero_row}
use Rattle.nesting.specs.Scratch.{KeptFrom}
use Rattle.nesting.proofs.Cleared.{kept_then, kept_drop}
use Rattle.reader.specs.Layout.{state_size, cleared}
use Rattle.reader.specs.Steps.{Written}
use Rattle.reader.proofs.Meeting.{Meets, meets, meets_same, meets_lent}
use Rattle.whole_log.specs.Calls.{log_answer, log_call}

-- The log is too long, or it is read.
module _ (s log words : List ℕ) (good : verdict s ≡ 0) (long : state_size ≤ length words) where
  pub meets_long : longest_log < length log → Meets (log_call s log words) (refused 12) words
  meets_long l = meets_lent s words good long (meets (rw (lt-ltb _ _ l)))

  pub meets_read : length log ≤ longest_log → {answer : Answer Heard} {after : List ℕ} → answer ≡ log_answer s log words → after ≡ cleared words
      → Meets (log_call s log words) answer after
  meets_read l {answer} {after} e d = meets_lent s words good long (meets_same (rw (le-ltb _ _ l)) (e, d))

-- Words that were cleared after the reading: zeros in front, and what lies past them as it was before it.
module _ {before read after : List ℕ} {size : ℕ} (long : state_size ≤ length before) (kept : KeptFrom state_size before read) (all : size ≡ state_size) (zeros : Written 0 size (λ j. 0) read after) where
  rest_kept : KeptFrom state_size before after
  rest_kept = kept_then kept (record { long = zeros.long; rest = λ i l. zeros.outside i (inr (omega arith)) })

  front : take state_size after ≡ replicate state_size 0
  front =
      let size : length (take state_size after) ≡ state_size = length-take-le state_size after (omega (arith, rest_kept.long)) in
      ext_get_or 0 (take state_size after) (replicate state_size 0) (size ∙ sym (length-replicate {A = ℕ} state_size 0))
      (λ i l.
      let m : i < state_size = omega (arith, size) in
      get_or-take state_size after i 0 m ∙ rw (zero-add i) at (zeros.inside i (omega arith)) ∙ sym (zero_row state_size i))

  pub clears : after ≡ cleared before
  unfolding cleared
  clears = sym (take-append-drop state_size after) ∙ ap (λ (x : List ℕ). x ++ drop state_size after) front
      ∙ ap (λ (x : List ℕ). replicate state_size 0 ++ x) (kept_drop {q = state_size} rest_kept (omega arith))
