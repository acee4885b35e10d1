-- Calls that are lent memory for their work, whatever they answer: which of the three cases they are in, and the numbers they refuse with.
use Prim.Native.Nat.{ℕ, ◌<◌, ◌≤◌}
use mathlib.Core.List.{List}
use mathlib.Core.Logic.{◌↔◌, ◌⊎◌, inl, inr}
use mathlib.Core.Path.{◌≡◌, sym, ap, ◌∙◌}
use native.Mathlib.Decide.{ℕ_discrete, dec_lt}
use native.Mathlib.Omega.{arith}
use borrow.Author.Tests.{lt-ltb, le-ltb}
use lib.ListN.{length}
use Rattle.table.specs.Answers.{Answer, refused}
use Rattle.table.specs.Bytes.{AreBytes}
use Rattle.table.specs.Refusals.{order, Given, verdict}
use Rattle.table.specs.Calls.{with_lent}
use Rattle.table.proofs.CallLaws.{given_verdict, on_good, on_bad}

-- What is no table is refused with the number of the bytes, however much is lent. A table with too little is refused with 7, and the call goes
-- on with a table and enough. (X may be Type 0 itself, where a contract is a type for each case.)
module _ {ℓ} {X : Type ℓ} (size : ℕ) (s memory : List ℕ) (x : X) (f : ℕ → X) where
  pub on_no_table : (verdict s ≡ 0 → ⊥) → with_lent size s memory x f ≡ f (verdict s)
  on_no_table n = on_bad s _ f n

  pub on_short : verdict s ≡ 0 → length memory < size → with_lent size s memory x f ≡ f 7
  on_short z l = on_good s _ f z ∙ rw (lt-ltb _ _ l)

  pub on_lent : verdict s ≡ 0 → size ≤ length memory → with_lent size s memory x f ≡ x
  on_lent z l = on_good s _ f z ∙ rw (le-ltb _ _ l)

pub data Lent {ℓ} {X : Type ℓ} (size : ℕ) (s memory : List ℕ) (x : X) (f : ℕ → X) : Type ℓ where
  is_no_table : (verdict s ≡ 0 → ⊥) → with_lent size s memory x f ≡ f (verdict s) → Lent size s memory x f
  is_short : verdict s ≡ 0 → length memory < size → with_lent size s memory x f ≡ f 7 → Lent size s memory x f
  is_lent : verdict s ≡ 0 → size ≤ length memory → with_lent size s memory x f ≡ x → Lent size s memory x f

pub lent {ℓ} : {X : Type ℓ} (size : ℕ) (s memory : List ℕ) (x : X) (f : ℕ → X) → Lent size s memory x f
lent size s memory x f = by (ℕ_discrete (verdict s) 0) (dec_lt (length memory) size) where
  by : Dec (verdict s ≡ 0) → Dec (length memory < size) → Lent size s memory x f
  by (no n) l = is_no_table n (on_no_table size s memory x f n)
  by (yes z) (yes l) = is_short z l (on_short size s memory x f z l)
  by (yes z) (no l) = let long : size ≤ length memory = omega arith in is_lent z long (on_lent size s memory x f z long)

-- Why a call refuses with k before it has begun to search: 1 to 6 by the bytes, and where they give no reason 7 by what is lent.
abbrev pub RefusedFor : ℕ → List ℕ → List ℕ → ℕ → Type 0
RefusedFor size s memory k = (Given s order k × (k ≡ 0 → ⊥)) ⊎ ((verdict s ≡ 0) × (length memory < size) × (k ≡ 7))

-- It refuses for that, or as its own answer says.
pub lent_refused_iff : {X : Type 0} (size : ℕ) (s memory : List ℕ) (answer : Answer X) → AreBytes s → (k : ℕ)
    → (with_lent size s memory answer refused ≡ refused k) ↔ (RefusedFor size s memory k ⊎ ((verdict s ≡ 0) × (size ≤ length memory) × (answer ≡ refused k)))
lent_refused_iff {X} size s memory answer bytes k = (λ e. forth e (lent size s memory answer refused), back) where
  Reasons : Type 0
  Reasons = RefusedFor size s memory k ⊎ ((verdict s ≡ 0) × (size ≤ length memory) × (answer ≡ refused k))

  forth : with_lent size s memory answer refused ≡ refused k → Lent size s memory answer refused → Reasons
  forth e (is_no_table n d) = let v : verdict s ≡ k = cc in inl (inl ((given_verdict s bytes k).1 v, λ o. n (v ∙ o)))
  forth e (is_short z l d) = let seven : k ≡ 7 = cc in inl (inr (z, l, seven))
  forth e (is_lent z l d) = inr (z, l, sym d ∙ e)

  back : Reasons → with_lent size s memory answer refused ≡ refused k
  back (inl (inl (g, n))) = let v = (given_verdict s bytes k).0 g in on_no_table size s memory answer refused (λ z. n (sym v ∙ z)) ∙ ap refused v
  back (inl (inr (z, l, seven))) = on_short size s memory answer refused z l ∙ ap refused (sym seven)
  back (inr (z, l, e)) = on_lent size s memory answer refused z l ∙ e
