-- What the call for the balance answers, in the words of document 01: which numbers refuse, exactly when; what the two numbers are of the log, and how large they
-- can be; and that both are 0 for a log that the table accepts. Last, two answers that meet the contract are one.
use Prim.Native.Nat.{ℕ, ◌≤◌, ◌<◌}
use mathlib.Core.Bool.{Bool, true, false}
use mathlib.Core.List.{List, Memᴰ}
use mathlib.Core.Logic.{◌↔◌}
use mathlib.Core.Path.{◌≡◌, refl, sym, ap, subst, ◌∙◌}
use native.Mathlib.Decide.{ℕ_discrete, dec_lt}
use native.Mathlib.Omega.{arith}
use borrow.Author.Tests.{lt-ltb, le-ltb}
use lib.Dec.{leb→le}
use lib.IntN.{pos, neg_ℤ, ◌-ℤ◌}
use lib.ListN.{length}
use lib.Signed.{◌≤ℤ◌}
use Rattle.vpa.specs.Automaton.{opening, closing, Accepts}
use Rattle.vpa.specs.Balance.{balance, letters_of, IsLowest, lowest}
use Rattle.vpa.specs.Lists.{any?}
use Rattle.vpa.specs.TableOnDisk.{letter_count, kind_in, automaton}
use Rattle.vpa.proofs.Balances.{balance_counts, balance_within, lowest_within, between, lowest_iff, lowest_at_most, accepted_balance}
use Rattle.vpa.proofs.Lists.{any_elim}
use Rattle.vpa.proofs.TableMoves.{accepted_letters}
use Rattle.std.specs.Prelude.{Result}
use Rattle.table.specs.declared.refusal.Refusal.{Refusal}
use Rattle.table.specs.Answers.{refused, answered}
use Rattle.table.specs.Bytes.{AreBytes}
use Rattle.table.specs.Layout.{parse}
use Rattle.table.specs.Logs.{longest_log}
use Rattle.table.specs.Refusals.{verdict}
use Rattle.table.proofs.CallLaws.{given_verdict, on_good, on_bad, told_once}
use Rattle.table.proofs.Tables.{good_table}
use Rattle.balance.specs.declared.Tally.{Tally}
use Rattle.balance.specs.Answers.{weighed_as}
use Rattle.balance.specs.Calls.{tally_of, past?, letters_weighed, balance_call, BalanceReason, no_table, too_long, past_letter}
use Rattle.balance.proofs.Weighing.{past_refused, none_past_below}

-- Between -16,777,215 and 16,777,215, the ends included; the lowest no more than 0, and no more than the balance.
pub record Bounded (x : Tally) : Type 0 where
  pub balance_least : neg_ℤ (pos longest_log) ≤ℤ x.balance
  pub balance_most : x.balance ≤ℤ pos longest_log
  pub lowest_least : neg_ℤ (pos longest_log) ≤ℤ x.lowest
  pub lowest_most : x.lowest ≤ℤ pos 0
  pub lowest_under : x.lowest ≤ℤ x.balance

module _ (s log : List ℕ) where
  -- What is no table is refused with its number, then a log that is too long with 12; else the letters decide.
  pub of_no_table : (verdict s ≡ 0 → ⊥) → balance_call s log ≡ refused (verdict s)
  of_no_table n = on_bad s _ refused n

  pub of_long_log : verdict s ≡ 0 → longest_log < length log → balance_call s log ≡ refused 12
  of_long_log z l = on_good s _ refused z ∙ rw (lt-ltb _ _ l)

  pub of_letters : verdict s ≡ 0 → length log ≤ longest_log → balance_call s log ≡ letters_weighed (parse s) log
  of_letters z l = on_good s _ refused z ∙ rw (le-ltb _ _ l)

  -- The call, case by case.
  pub data Weighs : Type 0 where
    weighs_no_table : (verdict s ≡ 0 → ⊥) → balance_call s log ≡ refused (verdict s) → Weighs
    weighs_long_log : verdict s ≡ 0 → longest_log < length log → balance_call s log ≡ refused 12 → Weighs
    weighs_past : verdict s ≡ 0 → length log ≤ longest_log → (a : ℕ) → Memᴰ a log → letter_count (parse s) ≤ a → balance_call s log ≡ refused 11 → Weighs
    weighs_all : verdict s ≡ 0 → length log ≤ longest_log → ((a : ℕ) → Memᴰ a log → a < letter_count (parse s)) → balance_call s log ≡ answered (tally_of (parse s) log) → Weighs

  pub balance_does : Weighs
  balance_does = by (ℕ_discrete (verdict s) 0) (dec_lt longest_log (length log)) (any? (past? (parse s)) log) refl where
    by : Dec (verdict s ≡ 0) → Dec (longest_log < length log) → (b : Bool) → any? (past? (parse s)) log ≡ b → Weighs
    by (no n) d b e = weighs_no_table n (of_no_table n)
    by (yes z) (yes l) b e = weighs_long_log z l (of_long_log z l)
    by (yes z) (no l) true e =
        let low : length log ≤ longest_log = omega arith in
        let w = any_elim (past? (parse s)) log (rw e tt) in
        weighs_past z low w.0 w.1 (leb→le _ _ w.2) (of_letters z low ∙ rw e)
    by (yes z) (no l) false e =
        let low : length log ≤ longest_log = omega arith in
        weighs_all z low (λ a m. none_past_below (parse s) log e m) (of_letters z low ∙ rw e)

  -- The numbers that refuse: 1 to 6 for the bytes, then 12 for the log's length, then 11 for a letter that the table does not have; and no other.
  pub balance_refused_iff : AreBytes s → (k : ℕ) → (balance_call s log ≡ refused k) ↔ BalanceReason s log k
  balance_refused_iff bytes k = (λ e. forth e balance_does, back) where
    forth : balance_call s log ≡ refused k → Weighs → BalanceReason s log k
    forth e (weighs_no_table n d) = let v : verdict s ≡ k = cc in no_table ((given_verdict s bytes k).1 v) (λ o. n (v ∙ o))
    forth e (weighs_long_log z l d) = let v : 12 ≡ k = cc in subst (BalanceReason s log) v (too_long z l)
    forth e (weighs_past z l a m g d) = let v : 11 ≡ k = cc in subst (BalanceReason s log) v (past_letter z l m g)
    forth e (weighs_all z l below d) = absurd (let o : ◌≡◌ {A = ℕ} 0 1 = cc in omega arith)

    back : {j : ℕ} → BalanceReason s log j → balance_call s log ≡ refused j
    back (no_table {k = j} g n) = let v = (given_verdict s bytes j).0 g in of_no_table (λ z. n (sym v ∙ z)) ∙ ap refused v
    back (too_long z l) = of_long_log z l
    back (past_letter z l m g) = of_letters z l ∙ past_refused (parse s) log m g

  -- Answered, the balance is the number of opens less that of closes, and the lowest is that of the log's prefixes.
  module _ (x : Tally) (e : balance_call s log ≡ answered x) where
    tally_is : (x ≡ tally_of (parse s) log) × (length log ≤ longest_log)
    tally_is = by balance_does where
      never : {k : ℕ} → balance_call s log ≡ refused k → (x ≡ tally_of (parse s) log) × (length log ≤ longest_log)
      never d = absurd (let o : ◌≡◌ {A = ℕ} 0 1 = cc in omega arith)

      by : Weighs → (x ≡ tally_of (parse s) log) × (length log ≤ longest_log)
      by (weighs_no_table n d) = never d
      by (weighs_long_log z l d) = never d
      by (weighs_past z l a m g d) = never d
      by (weighs_all z l below d) = let same : x ≡ tally_of (parse s) log = cc in (same, l)

    pub balance_told : x.balance ≡ pos (length (letters_of (kind_in (parse s)) opening log)) -ℤ pos (length (letters_of (kind_in (parse s)) closing log))
    balance_told = ap (λ y. y.balance) tally_is.0 ∙ balance_counts (kind_in (parse s)) log

    pub lowest_told : IsLowest (kind_in (parse s)) log x.lowest
    lowest_told = (lowest_iff (kind_in (parse s)) log x.lowest).1 (sym (ap (λ y. y.lowest) tally_is.0))

    pub balance_bounds : Bounded x
    balance_bounds =
        let b = between longest_log (balance (kind_in (parse s)) log) (omega (arith, balance_within (kind_in (parse s)) log, tally_is.1)) in
        let l = between longest_log (lowest (kind_in (parse s)) log) (omega (arith, lowest_within (kind_in (parse s)) log, tally_is.1)) in
        let m = lowest_at_most (kind_in (parse s)) log in
        subst Bounded (sym tally_is.0) (record { balance_least = b.0; balance_most = b.1; lowest_least = l.0; lowest_most = m.0; lowest_under = m.1 })

  -- A log that the table accepts, if it is not too long, has balance 0, and no prefix has a lower one.
  pub accepted_weighs : verdict s ≡ 0 → length log ≤ longest_log → Accepts (automaton (parse s)) log → balance_call s log ≡ answered (record { balance = pos 0; lowest = pos 0 })
  accepted_weighs z l h = by balance_does where
    by : Weighs → balance_call s log ≡ answered (record { balance = pos 0; lowest = pos 0 })
    by (weighs_no_table n d) = absurd (n z)
    by (weighs_long_log g k d) = absurd (omega arith)
    by (weighs_past g k a m p d) = absurd (omega (arith, accepted_letters (parse s) (good_table s z) h m))
    by (weighs_all g k below d) = let b = accepted_balance (automaton (parse s)) h in d ∙ ap answered (λ i. record { balance = b.0 i; lowest = b.1 i })

  -- Two answers are one.
  pub balance_once : (r q : Result Tally Refusal) → weighed_as r ≡ balance_call s log → weighed_as q ≡ balance_call s log → r ≡ q
  balance_once r q = told_once (λ x. x) (λ x. x) (λ x. refl) r q
