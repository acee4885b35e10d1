-- What the calls' answers come to, in the words of document 01; and that the contracts leave nothing open.
use Prim.Native.Nat.{ℕ, zero, suc, ◌*◌, ◌/◌, ◌<◌, ◌≤◌}
use Rattle.std.specs.Prelude as rust
use Rattle.std.specs.Prelude.{Result, Ok, Err}
use mathlib.Core.Bool.{Bool, true, false, cond}
use mathlib.Core.List.{List, [], ◌∷◌, ◌++◌}
use mathlib.Core.Logic.{◌↔◌}
use mathlib.Core.Option.{Option, none, some}
use mathlib.Core.Path.{◌≡◌, refl, sym, ap, subst, ◌∙◌}
use native.Mathlib.Omega.{arith}
use lib.Dec.{eqb, ltb}
use lib.ListN.{length, drop, get_or, get_elem?}
use borrow.Author.Tests.{eq-eqb, ne_eqb, eqb-true, eqb-false, ltb-true, ltb-false, lt-ltb, le-ltb}
use Rattle.vpa.specs.Automaton.{Kind, plain, opening, closing}
use Rattle.vpa.specs.TableOnDisk.{Entry, entry, state_count, letter_count, kind_numbered, kind_in}
use Rattle.table.specs.declared.Table as declared
use Rattle.table.specs.declared.Move.{Move}
use Rattle.table.specs.declared.kind.Kind as declared_kind
use Rattle.table.specs.declared.kind.Kind.TheVariants as kind
use Rattle.table.specs.declared.refusal.Refusal.{Refusal}
use Rattle.table.specs.declared.refusal.Refusal.TheVariants as refusal
use Rattle.table.specs.Answers.{Answer, refused, answered, Counts, counts_of, number_of, told, counts_told, checked_as, written_as, got_as, kind_as}
use Rattle.table.specs.Bytes.{AreBytes}
use Rattle.table.specs.Calls.{for_table, head_counts, check_answer, moves_answer, move_answer, kind_of, kind_answer, write_answer, write_out}
use Rattle.table.specs.Layout.{moves_field, moves_place, moves_part, move_bytes, parse, unparse}
use Rattle.table.specs.Refusals.{move_from, move_letter, move_mark, move_to, order, Given, verdict}
use Rattle.table.proofs.Entries.{move_in, entry_at, part_move}
use Rattle.table.proofs.Parts.{element, no_element}
use Rattle.table.proofs.Reasons.{verdict_given, given_once}
use Rattle.table.proofs.Tables.{good_back, good_states, good_letters, good_moves, good_part_length, good_part}

-- An answer of the code is known by what it is in document 01, so two answers that meet one contract are the same.
pub once : {A B : Type 0} (f : A → B) (back : B → A) → ((r : A) → back (f r) ≡ r) → (r q : A) {b : B} → f r ≡ b → f q ≡ b → r ≡ q
once f back h r q e d = sym (h r) ∙ ap back (e ∙ sym d) ∙ h q

-- A refusal is known by its number.
pub refusal_numbered : ℕ → Refusal
refusal_numbered k = get_or all k refusal.State where
  all : List Refusal
  all =
      refusal.State
      ∷ refusal.Length
      ∷ refusal.Version
      ∷ refusal.Limit
      ∷ refusal.Size
      ∷ refusal.List
      ∷ refusal.Move
      ∷ refusal.Lent
      ∷ refusal.Large
      ∷ refusal.Room
      ∷ refusal.Long
      ∷ refusal.Letter
      ∷ refusal.Letters
      ∷ refusal.Depth
      ∷ []

numbered_back : (r : Refusal) → refusal_numbered (number_of r) ≡ r
unfolding refusal_numbered
numbered_back refusal.Length = refl
numbered_back refusal.Version = refl
numbered_back refusal.Limit = refl
numbered_back refusal.Size = refl
numbered_back refusal.List = refl
numbered_back refusal.Move = refl
numbered_back refusal.Lent = refl
numbered_back refusal.Large = refl
numbered_back refusal.Room = refl
numbered_back refusal.Long = refl
numbered_back refusal.Letter = refl
numbered_back refusal.Letters = refl
numbered_back refusal.Depth = refl
numbered_back refusal.State = refl

pub same_refusal : (r q : Refusal) → number_of r ≡ number_of q → r ≡ q
same_refusal r q e = sym (numbered_back r) ∙ ap refusal_numbered e ∙ numbered_back q

-- No refusal has the number 0, which stands for none, and none has one over 14.
pub numbered_above : (r : Refusal) → number_of r ≡ 0 → ⊥
numbered_above r e = by r e where
  by : (r : Refusal) → number_of r ≡ 0 → ⊥
  by refusal.Length e = omega arith
  by refusal.Version e = omega arith
  by refusal.Limit e = omega arith
  by refusal.Size e = omega arith
  by refusal.List e = omega arith
  by refusal.Move e = omega arith
  by refusal.Lent e = omega arith
  by refusal.Large e = omega arith
  by refusal.Room e = omega arith
  by refusal.Long e = omega arith
  by refusal.Letter e = omega arith
  by refusal.Letters e = omega arith
  by refusal.Depth e = omega arith
  by refusal.State e = omega arith

-- So two answers of a call that meet one contract are the same, if its values are known by what is made of them.
pub told_once : {X Y : Type 0} (view : X → Y) (unview : Y → X) → ((x : X) → unview (view x) ≡ x) → (r q : Result X Refusal) {b : Answer Y}
    → told view r ≡ b → told view q ≡ b → r ≡ q
told_once {X} {Y} view unview h r q = once (told view) back back_as r q where
  back : Answer Y → Result X Refusal
  back (refused k) = Err (refusal_numbered k)
  back (answered y) = Ok (unview y)

  back_as : (r : Result X Refusal) → back (told view r) ≡ r
  back_as (Err e) = ap Err (numbered_back e)
  back_as (Ok x) = ap Ok (h x)

pub check_once : (s : List ℕ) (r q : Result declared.Table Refusal) → checked_as r ≡ check_answer s → checked_as q ≡ check_answer s → r ≡ q
check_once s r q = told_once counts_told (λ c. record { states = c.n; letters = c.m; marks = c.g; moves = c.t }) (λ t. refl) r q

pub write_once : (s out : List ℕ) (r q : Result ℕ Refusal) (o p : List ℕ) → written_as r ≡ write_answer s out → written_as q ≡ write_answer s out
    → o ≡ write_out s out → p ≡ write_out s out → (r ≡ q) × (o ≡ p)
write_once s out r q o p e d f g = (told_once (λ n. n) (λ n. n) (λ n. refl) r q e d, f ∙ sym g)

pub moves_once : (s r q : List ℕ) → r ≡ moves_answer s → q ≡ moves_answer s → r ≡ q
moves_once s r q e d = e ∙ sym d

pub move_once : (part : List ℕ) (k : ℕ) (r q : rust.Option Move) → got_as r ≡ move_answer part k → got_as q ≡ move_answer part k → r ≡ q
move_once part k r q = once got_as back back_as r q where
  back : Option Entry → rust.Option Move
  back none = rust.None
  back (some e) = rust.Some (record { from = e.from; letter = e.letter; mark = e.mark; to = e.to })

  back_as : (r : rust.Option Move) → back (got_as r) ≡ r
  back_as rust.None = refl
  back_as (rust.Some e) = refl

pub kind_once : (s : List ℕ) (a : ℕ) (r q : rust.Option declared_kind.Kind) → kind_as r ≡ kind_answer s a → kind_as q ≡ kind_answer s a → r ≡ q
kind_once s a r q = once kind_as back back_as r q where
  back : Option Kind → rust.Option declared_kind.Kind
  back none = rust.None
  back (some plain) = rust.Some kind.Plain
  back (some opening) = rust.Some kind.Open
  back (some closing) = rust.Some kind.Close

  back_as : (r : rust.Option declared_kind.Kind) → back (kind_as r) ≡ r
  back_as rust.None = refl
  back_as (rust.Some kind.Plain) = refl
  back_as (rust.Some kind.Open) = refl
  back_as (rust.Some kind.Close) = refl

-- The number that the ladder computes is the one that document 01 gives.
pub given_verdict : (s : List ℕ) → AreBytes s → (k : ℕ) → Given s order k ↔ (verdict s ≡ k)
given_verdict s bytes k = (λ g. given_once (verdict_given s bytes) g, λ e. subst (Given s order) e (verdict_given s bytes))

-- A call that begins with the check goes on exactly where there is nothing to refuse.
pub data Begins {X : Type 0} (s : List ℕ) (x : X) (f : ℕ → X) : Type 0 where
  goes_on : verdict s ≡ 0 → for_table s x f ≡ x → Begins s x f
  refuses : (verdict s ≡ 0 → ⊥) → for_table s x f ≡ f (verdict s) → Begins s x f

pub begins : {X : Type 0} (s : List ℕ) (x : X) (f : ℕ → X) → Begins s x f
begins s x f = by (eqb (verdict s) 0) refl where
  by : (b : Bool) → eqb (verdict s) 0 ≡ b → Begins s x f
  by true e = goes_on (eqb-true _ _ e) (rw e)
  by false e = refuses (eqb-false _ _ e) (rw e)

pub on_good {ℓ} : {X : Type ℓ} (s : List ℕ) (x : X) (f : ℕ → X) → verdict s ≡ 0 → for_table s x f ≡ x
on_good s x f e = rw (eq-eqb _ _ e)

pub on_bad {ℓ} : {X : Type ℓ} (s : List ℕ) (x : X) (f : ℕ → X) → (verdict s ≡ 0 → ⊥) → for_table s x f ≡ f (verdict s)
on_bad s x f n = rw (ne_eqb _ _ n)

-- A check: the counts of the table that the bytes mean, or the number.
pub check_good : (s : List ℕ) → verdict s ≡ 0 → check_answer s ≡ answered (counts_of (parse s))
unfolding parse
check_good s e = on_good s _ refused e ∙ rw (good_states s e, good_letters s e, good_moves s e)

-- What a caller that matches on a check's answer knows in each case.
pub record Counted (s : List ℕ) (t : declared.Table) : Type 0 where
  pub good : verdict s ≡ 0
  pub states : t.states ≡ state_count (parse s)
  pub letters : t.letters ≡ letter_count (parse s)
  pub marks : t.marks ≡ (parse s).mark_count
  pub moves : t.moves ≡ length (parse s).moves

pub when_good : (s : List ℕ) (t : declared.Table) → checked_as (Ok t) ≡ check_answer s → Counted s t
when_good s t e = by (begins s _ refused) where
  counts : Answer Counts → Counts
  counts (refused k) = record { n = 0; m = 0; g = 0; t = 0 }
  counts (answered c) = c

  by : Begins s (answered (head_counts s)) refused → Counted s t
  by (goes_on z d) =
      let c : counts (checked_as (Ok t)) ≡ counts_of (parse s) = ap counts (e ∙ check_good s z) in
      record { good = z; states = ap (λ x. x.n) c; letters = ap (λ x. x.m) c; marks = ap (λ x. x.g) c; moves = ap (λ x. x.t) c }
  by (refuses n d) = absurd (let o : ◌≡◌ {A = ℕ} 0 1 = cc in omega arith)

pub when_refused : (s : List ℕ) (k : ℕ) → refused k ≡ check_answer s → (verdict s ≡ k) × (k ≡ 0 → ⊥)
when_refused s k e = by (begins s _ refused) where
  by : Begins s (answered (head_counts s)) refused → (verdict s ≡ k) × (k ≡ 0 → ⊥)
  by (goes_on z d) = absurd (let o : ◌≡◌ {A = ℕ} 0 1 = cc in omega arith)
  by (refuses n d) = let v : verdict s ≡ k = cc in (v, λ o. n (v ∙ o))

pub check_refused_iff : (s : List ℕ) → AreBytes s → (k : ℕ) → (check_answer s ≡ refused k) ↔ (Given s order k × (k ≡ 0 → ⊥))
check_refused_iff s bytes k = (
  λ e. let w = when_refused s k (sym e) in ((given_verdict s bytes k).1 w.0, w.1),
  λ g. let v = (given_verdict s bytes k).0 g.0 in on_bad s _ refused (λ z. g.1 (sym v ∙ z)) ∙ ap refused v,
)

-- Move k of any bytes: four of them, if there are so many, and else none.
pub move_of_bytes : (part : List ℕ) (k : ℕ) → move_answer part k ≡ cond (ltb k (length part / 4)) (some (move_in part (4 * k))) none
move_of_bytes = entry_at

-- The moves' part: nothing of what is refused; of a table four bytes for each move, and they are its moves by number.
pub moves_refused : (s : List ℕ) → (verdict s ≡ 0 → ⊥) → moves_answer s ≡ []
moves_refused s n = rw (ne_eqb _ _ n)

module _ (s : List ℕ) (good : verdict s ≡ 0) where
  part_good : moves_answer s ≡ moves_part s
  part_good = on_good s (moves_part s) (λ k. []) good

  pub moves_length : length (moves_answer s) ≡ 4 * length (parse s).moves
  moves_length = rw (part_good, good_moves s good) (good_part_length s good)

  pub moves_bytes : moves_answer s ≡ move_bytes (parse s).moves
  moves_bytes = part_good ∙ sym (good_part s good)

  pub move_numbered : (k : ℕ) → move_answer (moves_answer s) k ≡ get_elem? (parse s).moves k
  unfolding parse
  move_numbered k = rw part_good

  pub move_there : (k : ℕ) → k < moves_field s → move_answer (moves_answer s) k ≡ some (entry (move_from s k) (move_letter s k) (move_mark s k) (move_to s k))
  move_there k l = rw (part_good, entry_at, lt-ltb k (length (moves_part s) / 4) (omega (arith, good_part_length s good)), part_move s (moves_place s) (4 * moves_field s) (4 * k) (omega arith))

  pub move_none : (k : ℕ) → moves_field s ≤ k → move_answer (moves_answer s) k ≡ none
  move_none k l = rw (part_good, entry_at, le-ltb k (length (moves_part s) / 4) (omega (arith, good_part_length s good)))

-- A letter's kind: of a letter of the table its kind there, of no other.
pub kind_there : (s : List ℕ) (a : ℕ) → a < letter_count (parse s) → kind_answer s a ≡ some (kind_in (parse s) a)
unfolding kind_of kind_in
kind_there s a l = rw (element (parse s).kinds a l)

pub kind_none : (s : List ℕ) (a : ℕ) → letter_count (parse s) ≤ a → kind_answer s a ≡ none
unfolding kind_of
kind_none s a l = rw (no_element (parse s).kinds a l)

-- A kind that is told is the letter's own, and where none is told the letter counts as plain. Of a letter of the table one is told.
plain_or : Option Kind → Kind
plain_or none = plain
plain_or (some kind) = kind

listed : (l : List ℕ) (a : ℕ) → kind_numbered (get_or l a 0) ≡ plain_or (kind_of (get_elem? l a))
unfolding kind_numbered kind_of plain_or
listed [] a = refl
listed (k ∷ l) zero = refl
listed (k ∷ l) (suc a) = listed l a

pub told_kind : (s : List ℕ) (a : ℕ) {kind : Kind} → some kind ≡ kind_answer s a → kind_in (parse s) a ≡ kind
unfolding kind_in plain_or
told_kind s a e = listed (parse s).kinds a ∙ ap plain_or (sym e)

pub told_plain : (s : List ℕ) (a : ℕ) → none ≡ kind_answer s a → kind_in (parse s) a ≡ plain
unfolding kind_in plain_or
told_plain s a e = listed (parse s).kinds a ∙ ap plain_or (sym e)

pub told_none : (s : List ℕ) {a : ℕ} → a < letter_count (parse s) → none ≡ kind_answer s a → ⊥
told_none s {a} l e = let w : none ≡ some (kind_in (parse s) a) = e ∙ kind_there s a l in let z : ◌≡◌ {A = ℕ} 0 1 = cc in omega arith

-- A write refuses as a check does, then for want of room; else the table stands in front, and what lies past it stays.
pub data Write (s out : List ℕ) : Type 0 where
  no_table : (verdict s ≡ 0 → ⊥) → write_answer s out ≡ refused (verdict s) → write_out s out ≡ out → Write s out
  no_room : verdict s ≡ 0 → length out < length s → write_answer s out ≡ refused 9 → write_out s out ≡ out → Write s out
  writes : verdict s ≡ 0 → length s ≤ length out → write_answer s out ≡ answered (length s) → write_out s out ≡ s ++ drop (length s) out → Write s out

pub write_does : (s out : List ℕ) → Write s out
write_does s out = by (eqb (verdict s) 0) refl (ltb (length out) (length s)) refl where
  by : (b : Bool) → eqb (verdict s) 0 ≡ b → (c : Bool) → ltb (length out) (length s) ≡ c → Write s out
  by false e c f = no_table (eqb-false _ _ e) (rw e) (rw e)
  by true e true f = no_room (eqb-true _ _ e) (ltb-true _ _ f) (rw (e, f)) (rw (e, f))
  by true e false f = writes (eqb-true _ _ e) (ltb-false _ _ f) (rw (e, f)) (rw (e, f))

module _ (s out : List ℕ) where
  -- Refused, the output holds what it held.
  pub write_refused : (k : ℕ) → write_answer s out ≡ refused k → write_out s out ≡ out
  write_refused k e = by (write_does s out) where
    by : Write s out → write_out s out ≡ out
    by (no_table n d o) = o
    by (no_room z l d o) = o
    by (writes z l d o) = absurd (let c : ◌≡◌ {A = ℕ} 0 1 = cc in omega arith)

  -- Written, the bytes in front are the table's own, which are those of the table that was read.
  pub write_back : (n : ℕ) → write_answer s out ≡ answered n
      → (n ≡ length s) × (write_out s out ≡ s ++ drop n out) × (AreBytes s → unparse (parse s) ≡ s)
  write_back n e = by (write_does s out) where
    by : Write s out → (n ≡ length s) × (write_out s out ≡ s ++ drop n out) × (AreBytes s → unparse (parse s) ≡ s)
    by (no_table m d o) = absurd (let c : ◌≡◌ {A = ℕ} 0 1 = cc in omega arith)
    by (no_room z l d o) = absurd (let c : ◌≡◌ {A = ℕ} 0 1 = cc in omega arith)
    by (writes z l d o) = let q : n ≡ length s = cc in (q, rw q o, good_back s z)
