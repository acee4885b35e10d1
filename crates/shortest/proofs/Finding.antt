-- The searches: a move, or two, that fits is found by going along a chain of moves, and the nearest state on a way by looking at every state.
use Prim.Native.Nat.{ℕ, ◌+◌, ◌*◌, ◌/◌, ◌-◌, ◌<◌, ◌≤◌}
use mathlib.Core.Bool.{Bool, true, false, ◌&&◌}
use mathlib.Core.List.{List}
use mathlib.Core.Logic.{⊎_elim}
use mathlib.Core.Path.{◌≡◌, sym, subst, ◌∙◌}
use native.Mathlib.Decide.{dec_lt}
use native.Mathlib.Nat.{add-zero, eq-or-lt_of_le}
use native.Mathlib.Numerals.{add-one}
use native.Mathlib.Omega.{arith}
use borrow.Author.Tests.{ltb-true, lt-ltb, eqb-true, eq-eqb}
use lib.Dec.{T, ltb, eqb}
use lib.ListN.{length, get_or, set}
use Rattle.std.proofs.Common.{Option, Some, None}
use Rattle.vpa.specs.Automaton.{plain, opening, closing}
use Rattle.vpa.specs.TableOnDisk.{Table}
use Rattle.table.specs.Bytes.{byte}
use Rattle.table.specs.Calls.{kind_answer}
use Rattle.table.specs.Layout.{moves_part, parse}
use Rattle.table.specs.Refusals.{verdict}
use Rattle.table.proofs.All.{both, and_true}
use Rattle.nesting.specs.Steps.{of_kind?, move_of?}
use Rattle.nesting.proofs.MovesFound.{taken, skipped, of_kind, other_kind}
use Rattle.lengths.specs.Steps.{length_in, Chained}
use Rattle.lengths.proofs.Chains.{Walked, walked_more}
use Rattle.shortest.specs.declared.Walk.{Walk}
use Rattle.shortest.specs.Steps.{Via, PlainAt, OpenFor, NestAt, MoveFound, WrotePlain, WroteOpen, with_pending}

-- A search along the moves that have x in the column has come to number `next`; P holds of those before.
pub record Searching (part : List ℕ) (column x : ℕ) (P : ℕ → Type 0) (chain : List ℕ) (count next : ℕ) : Type 0 where
  pub chained : Chained part column chain
  pub all : count ≡ length part / 4
  pub passed : Walked part column x next P

module _ {part : List ℕ} {column x : ℕ} {P : ℕ → Type 0} {chain : List ℕ} {count next : ℕ}
    (h : Searching part column x P chain count next) where
  pub searching_low : {k : ℕ} → k < count → k < length part / 4
  searching_low l = omega (arith, h.all)

  pub searching_here : {k : ℕ} → k ≡ next → Walked part column x k P
  searching_here e = rw e h.passed

  pub searching_more : {k : ℕ} {chain' : List ℕ} {count' next' : ℕ} → chain' ≡ chain → count' ≡ count → k ≡ next → k < count → next' ≡ get_or chain (64 + k) 0
      → P k → Searching part column x P chain' count' next'
  searching_more {k} c n e l go p = record {
    chained = rw c h.chained;
    all = n ∙ h.all;
    passed = rw go (walked_more h.chained (searching_low l) p (searching_here e));
  }

-- What is written, the bytes being those of the moves.
pub stepped : {t : Table} {part out : List ℕ} {p q place k letter : ℕ} → letter ≡ byte part (4 * k + 1) → PlainAt t part p q k
    → WrotePlain t part p q place out (set out place letter)
stepped e h = record { k = _; by = h; wrote = rw e }

pub opened : {t : Table} {part s out : List ℕ} {walk : Walk} {via moves place k j letter close here goal : ℕ}
    → letter ≡ byte part (4 * k + 1) → close ≡ byte part (4 * j + 1) → here ≡ byte part (4 * k + 3) → goal ≡ byte part (4 * j)
    → NestAt t part (length_in s) walk.here via moves k j
    → WroteOpen t part walk via moves place s out (with_pending s walk.depth close via walk.goal) (set out place letter)
    (record { here = here; goal = goal; depth = walk.depth + 1; left = walk.left - 1 })
opened l c w g h = record { k = _; j = _; by = h; close = rw c; wrote = rw l; goes = rw (w, g, add-one) }

-- From here on u holds the bytes of a table's moves.
module _ (s : List ℕ) {u : List ℕ} (good : verdict s ≡ 0) (part : u ≡ moves_part s) where
  -- PLAIN MOVES
  module _ {p q k : ℕ} where
    pub plain_found : {P : ℕ → Type 0} {b : Bool} → k < length u / 4 → Walked u 0 p k P → of_kind? (kind_answer s (byte u (4 * k + 1))) plain ≡ b
        → eqb (byte u (4 * k + 3)) q && b ≡ true → PlainAt (parse s) (moves_part s) p q k
    plain_found {b = b} l w d e =
        let t = both (eqb (byte u (4 * k + 3)) q) b e in
        rw (← part) (record { low = l; from = rw add-zero at (w.at l); of = of_kind s good part k plain l d t.1; to = eqb-true _ _ t.0 })

    pub plain_other : {b : Bool} → k < length u / 4 → of_kind? (kind_answer s (byte u (4 * k + 1))) plain ≡ b → eqb (byte u (4 * k + 3)) q && b ≡ false
        → PlainAt (parse s) u p q k → ⊥
    plain_other l d e h = other_kind s good part k plain l d (rw (eq-eqb _ _ h.to) at e) h.of

  -- OPEN MOVES, v being the length held between one and the close move
  module _ {d : ℕ → ℕ → ℕ} (j k : ℕ) {p moves v : ℕ} (l : k < length u / 4) (held : d (byte u (4 * k + 3)) (byte u (4 * j)) ≡ v) where
    pub open_found : {P : ℕ → Type 0} {b : Bool} → Walked u 0 p k P → move_of? s u (4 * k) opening (byte u (4 * j + 2)) ≡ b → eqb (v + 2) moves && b ≡ true
        → OpenFor (parse s) (moves_part s) d p j moves k
    open_found {b = b} w m e =
        let t = both (eqb (v + 2) moves) b e in
        let h = taken s good part k opening _ l m t.1 in
        rw (← part) (record { low = l; from = rw add-zero at (w.at l); of = h.1; mark = h.0; short = rw held (eqb-true _ _ t.0) })

    pub open_other : {b : Bool} → move_of? s u (4 * k) opening (byte u (4 * j + 2)) ≡ b → eqb (v + 2) moves && b ≡ false
        → OpenFor (parse s) u d p j moves k → ⊥
    open_other m e h = skipped s good part k opening _ l m (rw (eq-eqb _ _ (rw held at h.short)) at e) (h.mark, h.of)

  -- NESTINGS: move j is a close move to r, or not, and an open move that fits it was looked for.
  module _ (d : ℕ → ℕ → ℕ) (p r moves : ℕ) (j : ℕ) (l : j < length u / 4) {b : Bool} (kind : of_kind? (kind_answer s (byte u (4 * j + 1))) closing ≡ b) where
    pub nest_tried : (found : Option ℕ) → eqb (byte u (4 * j + 3)) r && b ≡ true → MoveFound (OpenFor (parse s) (moves_part s) d p j moves) found
        → MoveFound (λ k. NestAt (parse s) (moves_part s) d p r moves k j) found
    nest_tried None e f = λ k h. f k h.opener
    nest_tried (Some k) e f =
        let w = both (eqb (byte u (4 * j + 3)) r) b e in
        record { closer = rw (← part) (record { low = l; of = of_kind s good part j closing l kind w.1; to = eqb-true _ _ w.0 }); opener = f }

    pub nest_other : eqb (byte u (4 * j + 3)) r && b ≡ false → MoveFound (λ k. NestAt (parse s) (moves_part s) d p r moves k j) None
    nest_other e = rw (← part) (λ k h. other_kind s good part j closing l kind (rw (eq-eqb _ _ h.closer.to) at e) h.closer.of)

-- THE NEAREST STATE ON A WAY

one_more : (P : ℕ → Type 0) {r : ℕ} → ((x : ℕ) → x < r → P x) → P r → (x : ℕ) → x < r + 1 → P x
one_more P {r} h g x l = ⊎_elim (λ (e : x ≡ r). subst P (sym e) g) (λ (m : x < r). h x m) (eq-or-lt_of_le (omega arith))

-- The nearest of the states below n and of q.
pub record ViaBelow (states : ℕ) (d : ℕ → ℕ → ℕ) (p q n best least : ℕ) : Type 0 where
  pub low : best < states
  pub away : 0 < d p best
  pub held : d p best ≡ least
  pub between : d p best + d best q ≡ d p q
  pub nearest : (x : ℕ) → x < n → 0 < d p x → d p x + d x q ≡ d p q → d p best ≤ d p x

module _ {states : ℕ} {d : ℕ → ℕ → ℕ} {p q : ℕ} where
  pub via_none : {whole : ℕ} → q < states → 0 < d p q → d q q ≡ 0 → d p q ≡ whole → ViaBelow states d p q 0 q whole
  via_none l a z e = record { low = l; away = a; held = e; between = omega arith; nearest = λ x m. absurd (omega arith) }

  pub via_all : {n best least : ℕ} → states ≤ n → ViaBelow states d p q n best least → Via states d p q best
  via_all g h = record { low = h.low; away = h.away; between = h.between; nearest = λ x m. h.nearest x (omega arith) }

  -- A turn of the loop, which takes r where the test says so and else keeps what it has.
  module _ {r best least first second whole : ℕ} (h : ViaBelow states d p q r best least) (f : d p r ≡ first) (g : d r q ≡ second) (e : d p q ≡ whole) where
    abbrev Near : ℕ → ℕ → Type 0
    Near y x = 0 < d p x → d p x + d x q ≡ d p q → d p y ≤ d p x

    abbrev test : Bool
    test = ltb 0 first && (ltb first least && eqb (first + second) whole)

    pub via_nearer : {best' least' : ℕ} → r < states → test ≡ true → best' ≡ r → least' ≡ first → ViaBelow states d p q (r + 1) best' least'
    via_nearer l t same same' =
        let v = both (ltb 0 first) (ltb first least && eqb (first + second) whole) t in
        let w = both (ltb first least) (eqb (first + second) whole) v.1 in
        let nearer = ltb-true first least w.0 in
        rw (same, same') (record {
          low = l;
          away = omega (arith, ltb-true 0 first v.0);
          held = f;
          between = omega (arith, eqb-true (first + second) whole w.1);
          nearest = one_more (Near r) (λ x m a b. omega (arith, h.nearest x m a b, h.held)) (λ a b. omega arith);
        })

    pub via_kept : {best' least' : ℕ} → test ≡ false → best' ≡ best → least' ≡ least → ViaBelow states d p q (r + 1) best' least'
    via_kept t same same' =
        rw (same, same') (record {
          low = h.low;
          away = h.away;
          held = h.held;
          between = h.between;
          nearest = one_more (Near best) h.nearest (λ a b. by a b (dec_lt first least));
        })
      where
        by : 0 < d p r → d p r + d r q ≡ d p q → Dec (first < least) → d p best ≤ d p r
        by a b (yes n) =
            let passed = and_true (lt-ltb 0 first (omega arith)) (and_true (lt-ltb first least n) (eq-eqb (first + second) whole (omega arith))) in
            absurd (subst T (sym passed ∙ t) tt)
        by a b (no n) = omega (arith, h.held)
