use Rattle.std.proofs.Common.{rules, arith, ℕ, ◌<◌, ◌≤◌, ◌≡◌, refl, sym, ap, ◌∙◌}
use Rattle.std.specs.Prelude.{Option, Some, None, Result, Ok, Err, IfOk}
use Rattle.std.specs.Result.{result_transpose}
use Rattle.table.specs.Answers.{written_as}
use Rattle.table.specs.declared.refusal.Refusal.{Refusal}
use Rattle.shortest.specs.Answers.{shown_as}
use Rattle.capture.specs.Numbers.{kind_size, numbered, written_number, shown_number}
use Rattle.capture.proofs.Values.{shortest_count}
use Rattle.capture.proofs.nomyugereka_shortest.Goals as goal

-- No log, or what was written or refused, as the answer tells it.
small : (r : Result (Option ℕ) Refusal) (answer : Result ℕ Refusal) → Some answer ≡ result_transpose r → ((n : ℕ) → r ≡ Ok (Some n) → n ≤ 4096) → IfOk answer (λ count. count < kind_size)
small (Ok (Some m)) (Ok n) e low = let q : m ≡ n = cc in omega (arith, low m refl)
small (Ok None) (Ok n) e low = absurd (let q : ◌≡◌ {A = ℕ} 0 1 = cc in omega arith)
small (Err k) (Ok n) e low = absurd (let q : ◌≡◌ {A = ℕ} 0 1 = cc in omega arith)
small r (Err k) e low = search rules

told : (r : Result (Option ℕ) Refusal) (answer : Result ℕ Refusal) → Some answer ≡ result_transpose r → written_number (written_as answer) ≡ shown_number (shown_as r)
told (Ok (Some m)) answer e = cc
told (Ok None) answer e = absurd (let q : ◌≡◌ {A = ℕ} 0 1 = cc in omega arith)
told (Err k) answer e = cc

told_none : (r : Result (Option ℕ) Refusal) → None ≡ result_transpose r → numbered 6 0 ≡ shown_number (shown_as r)
told_none (Ok (Some m)) e = absurd (let q : ◌≡◌ {A = ℕ} 0 1 = cc in omega arith)
told_none (Ok None) e = refl
told_none (Err k) e = absurd (let q : ◌≡◌ {A = ℕ} 0 1 = cc in omega arith)

pub written-requires : goal.written-requires
written-requires c = small c.shortest.result _ (sym c.in-Some.is ∙ c.transpose.ensures) (λ n e. shortest_count _ _ _ c.shortest.ensures (ap shown_as e))

pub returns-in-Some : goal.returns-in-Some
returns-in-Some c = record { answer = _; told = c.written.ensures ∙ told _ _ (sym c.in-Some.is ∙ c.transpose.ensures); meets = c.shortest.ensures }

pub returns-in-None : goal.returns-in-None
returns-in-None c = record { answer = _; told = told_none _ (sym c.in-None.is ∙ c.transpose.ensures); meets = c.shortest.ensures }
