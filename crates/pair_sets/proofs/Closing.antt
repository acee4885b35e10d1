-- What a close letter joins: the loops along the moves from a state and over the digits of a row, and the three relations put together.
use Prim.Native.Nat.{ℕ, ◌+◌, ◌*◌, ◌/◌, ◌%◌, ◌^◌, ◌<◌, ◌≤◌}
use mathlib.Core.Bool.{true, false, ◌&&◌}
use mathlib.Core.List.{List, [], ◌∷◌, ◌++◌}
use mathlib.Core.Logic.{◌↔◌, inl, inr, ⊎_elim}
use mathlib.Core.Path.{◌≡◌, refl, sym, ap, subst, ◌∙◌}
use native.Mathlib.Decide.{ℕ_discrete}
use native.Mathlib.Nat.{add-zero}
use native.Mathlib.Omega.{arith}
use borrow.Author.Tests.{eqb-true, eqb-false, eq-eqb}
use lib.Bits.{bit_or}
use lib.Dec.{eqb}
use lib.ListN.{length, get_or, set, replicate, length-set}
use lib.Seq.{get_or-set_same, get_or-set_other}
use Rattle.std.specs.List.{Contains}
use Rattle.std.specs.Simd.{first_chunks}
use Rattle.std.proofs.lemmas.List.Elements.{Contains-push, Contains-push_cases, Contains-append_left}
use Rattle.vpa.specs.Automaton.{opening, closing, open_move, close_move}
use Rattle.vpa.specs.Reader as reader
use Rattle.vpa.specs.TableOnDisk.{Table, entry, kind_in, InTable, in_open, in_close, automaton}
use Rattle.vpa.proofs.TableMoves.{entry_cast}
use Rattle.table.specs.Bytes.{byte}
use Rattle.table.specs.Layout.{moves_part, parse}
use Rattle.table.specs.Refusals.{verdict}
use Rattle.table.proofs.All.{both}
use Rattle.table.proofs.Entries.{move_in}
use Rattle.table.proofs.Quads.{quad_byte}
use Rattle.table.proofs.Tables.{good_part_length, move_place}
use Rattle.relation.specs.Digits.{bit, ones_of}
use Rattle.relation.specs.Relations.{Holds, HoldsExactly, RowsBelow, Joined, DigitsExactly, InSome}
use Rattle.relation.proofs.Digits.{bit_zero, bit_inside}
use Rattle.relation.proofs.OnesListed.{ones_iff}
use Rattle.relation.proofs.Relations.{exactly, row_low, zero_row, no_digit, one_digit, or_digit}
use Rattle.nesting.proofs.MovesFound.{move_at}
use Rattle.lengths.specs.Steps.{Chained}
use Rattle.lengths.proofs.Chains.{Walked, walked_map, walked_none, walked_more, walked_all}
use Rattle.pair_sets.specs.Steps.{Leads, Closes, Linked, LinkedFrom}

-- ALONG THE MOVES FROM A STATE, where P says what move k gives

-- One of the moves from x gives s.
pub record Given (u : List ℕ) (x : ℕ) (P : ℕ → ℕ → Type 0) (s : ℕ) : Type 0 where
  pub k : ℕ
  pub low : k < length u / 4
  pub from : byte u (4 * k + 0) ≡ x
  pub gives : P k s

-- The loop has come to number k, and y has what the moves before give.
pub record Gathered (u : List ℕ) (x : ℕ) (P : ℕ → ℕ → Type 0) (k y : ℕ) : Type 0 where
  pub walked : Walked u 0 x k (λ j. (s : ℕ) → P j s → bit y s ≡ 1)
  pub sound : (s : ℕ) → bit y s ≡ 1 → Given u x P s

module _ {u : List ℕ} {x : ℕ} {P : ℕ → ℕ → Type 0} where
  pub gathered_all : {k y : ℕ} → length u / 4 ≤ k → Gathered u x P k y → DigitsExactly y (Given u x P)
  gathered_all l h = record { at = λ s. (h.sound s, λ g. walked_all l h.walked g.k g.low g.from s g.gives) }

  module _ {chain : List ℕ} (chained : Chained u 0 chain) where
    pub gathered_none : x < 64 → Gathered u x P (get_or chain x 0) 0
    gathered_none l = record { walked = walked_none chained l; sound = λ s e. absurd (omega (arith, bit_zero s)) }

    module _ {k y : ℕ} (l : k < length u / 4) (h : Gathered u x P k y) where
      pub gathered_skip : ((s : ℕ) → P k s → ⊥) → Gathered u x P (get_or chain (64 + k) 0) y
      gathered_skip none = record { walked = walked_more chained l (λ s p. absurd (none s p)) h.walked; sound = h.sound }

      pub gathered_more : {v : ℕ} → DigitsExactly v (P k) → Gathered u x P (get_or chain (64 + k) 0) (bit_or y v)
      gathered_more {v} d = record {
        walked = walked_more chained l (λ s p. (or_digit y v s).1 (inr ((d.at s).1 p)))
            (walked_map (λ j m f s p. (or_digit y v s).1 (inl (f s p))) h.walked);
        sound = λ s e. ⊎_elim (h.sound s) (λ b. record { k = k; low = l; from = h.walked.at l; gives = (d.at s).0 b }) ((or_digit y v s).0 e);
      }

-- Move k has this letter and mark and leads to s.
pub record LeadsAt (u : List ℕ) (a γ k s : ℕ) : Type 0 where
  pub by : byte u (4 * k + 1) ≡ a
  pub mark : byte u (4 * k + 2) ≡ γ
  pub to : byte u (4 * k + 3) ≡ s

-- Move k has letter a, and from where it leads a pair inside and letter b with the same mark lead to s.
pub record LinksAt (t : Table) (u : List ℕ) (a : ℕ) (inside : List ℕ) (b k s : ℕ) : Type 0 where
  pub by : byte u (4 * k + 1) ≡ a
  pub closes : Closes t (get_or inside (byte u (4 * k + 3)) 0) b (byte u (4 * k + 2)) s

-- The pieces of four that a table's moves are cut into: a byte of move k.
pub quad_of : {u part : List ℕ} {quads : List (List ℕ)} → part ≡ u → quads ≡ first_chunks 4 (length part / 4) part → (k : ℕ) → k < length u / 4 → (j : ℕ) → j < 4
    → get_or (get_or quads k []) j 0 ≡ byte u (4 * k + j)
quad_of {u} part front k l j m = rw (front, part) (quad_byte u k j [] l m)

-- What the tests of a move tell, which is read as a piece of four.
module _ {u : List ℕ} {a k : ℕ} (piece : List ℕ) (at : (j : ℕ) → j < 4 → get_or piece j 0 ≡ byte u (4 * k + j)) where
  module _ {γ : ℕ} where
    pub leads_here : eqb (get_or piece 1 0) a && eqb (get_or piece 2 0) γ ≡ true → get_or piece 3 0 < 64
        → DigitsExactly (1 * 2 ^ get_or piece 3 0 % 2 ^ 64) (LeadsAt u a γ k)
    leads_here e l =
        let w = both (eqb (get_or piece 1 0) a) (eqb (get_or piece 2 0) γ) e in
        record {
          at = λ s. (
            λ d. record { by = sym (at 1 (omega arith)) ∙ eqb-true _ _ w.0; mark = sym (at 2 (omega arith)) ∙ eqb-true _ _ w.1; to = sym ((one_digit l s).0 d ∙ at 3 (omega arith)) },
            λ m. (one_digit l s).1 (sym (at 3 (omega arith) ∙ m.to)),
          );
        }

    pub leads_other : eqb (get_or piece 1 0) a && eqb (get_or piece 2 0) γ ≡ false → (s : ℕ) → LeadsAt u a γ k s → ⊥
    leads_other e s m = eqb-false _ _ (rw (eq-eqb _ _ (at 1 (omega arith) ∙ m.by)) at e) (at 2 (omega arith) ∙ m.mark)

  module _ {t : Table} {inside : List ℕ} {b : ℕ} where
    pub links_here : get_or piece 1 0 ≡ a → {v : ℕ} → DigitsExactly v (Closes t (get_or inside (get_or piece 3 0) 0) b (get_or piece 2 0))
        → DigitsExactly v (LinksAt t u a inside b k)
    links_here e d = let c = rw (at 3 (omega arith), at 2 (omega arith)) at d in
        record { at = λ s. (λ o. record { by = sym (at 1 (omega arith)) ∙ e; closes = (c.at s).0 o }, λ m. (c.at s).1 m.closes) }

    pub links_other : (get_or piece 1 0 ≡ a → ⊥) → (s : ℕ) → LinksAt t u a inside b k s → ⊥
    links_other n s m = n (at 1 (omega arith) ∙ m.by)

-- u holds the bytes of a table's moves.
module _ (z : List ℕ) (good : verdict z ≡ 0) {u : List ℕ} (part : u ≡ moves_part z) where
  leads_given : {p a γ s : ℕ} → Leads (parse z) p a γ s → Given u p (LeadsAt u a γ) s
  leads_given {p} {a} {γ} {s} h =
      let w = move_place z good h.stands in
      let e = subst (λ u. move_in u (4 * w.0) ≡ entry p a γ s) (sym part) (sym w.2) in
      record {
        k = w.0;
        low = rw part (omega (arith, w.1, good_part_length z good));
        from = rw (add-zero (4 * w.0)) (ap (λ m. m.from) e);
        gives = record { by = ap (λ m. m.letter) e; mark = ap (λ m. m.mark) e; to = ap (λ m. m.to) e };
      }

  given_leads : {p a γ s : ℕ} → Given u p (LeadsAt u a γ) s → Leads (parse z) p a γ s
  given_leads g = record {
    stands = entry_cast _ (rw (add-zero (4 * g.k)) at g.from) g.gives.by g.gives.mark g.gives.to (move_at z good part g.k g.low);
  }

  pub led_all : {p a γ k y : ℕ} → length u / 4 ≤ k → Gathered u p (LeadsAt u a γ) k y → DigitsExactly y (Leads (parse z) p a γ)
  led_all l h = let d = gathered_all l h in record { at = λ s. (λ e. given_leads ((d.at s).0 e), λ m. (d.at s).1 (leads_given m)) }

  pub linked_all : {q a b k y : ℕ} {inside : List ℕ} → length u / 4 ≤ k → Gathered u q (LinksAt (parse z) u a inside b) k y
      → DigitsExactly y (Linked (parse z) a inside b q)
  linked_all {q} {a} {b} {inside = inside} l h = let d = gathered_all l h in record { at = λ s. (λ e. forth ((d.at s).0 e), λ m. (d.at s).1 (back m)) } where
    forth : {s : ℕ} → Given u q (LinksAt (parse z) u a inside b) s → Linked (parse z) a inside b q s
    forth g =
        let c = g.gives.closes in
        record {
          r = byte u (4 * g.k + 3);
          x = c.by;
          γ = byte u (4 * g.k + 2);
          opened = given_leads (record { k = g.k; low = g.low; from = g.from; gives = record { by = g.gives.by; mark = refl; to = refl } });
          held = record { digit = c.among };
          closed = c.closed;
        }

    back : {s : ℕ} → Linked (parse z) a inside b q s → Given u q (LinksAt (parse z) u a inside b) s
    back m =
        let g = leads_given m.opened in
        record {
          k = g.k;
          low = g.low;
          from = g.from;
          gives = record { by = g.gives.by; closes = rw (g.gives.to, g.gives.mark) (record { by = m.x; among = m.held.digit; closed = m.closed }) };
        }

-- THE PAIRS BELOW, THEN THE LINKS

-- The rows of the links from the states xs, and from no other.
pub record LinkedRows (t : Table) (a : ℕ) (inside : List ℕ) (b : ℕ) (xs rows : List ℕ) : Type 0 where
  pub long : length rows ≡ 64
  pub at : (q s : ℕ) → Holds rows q s ↔ (Contains xs q × Linked t a inside b q s)

module _ {t : Table} {a b : ℕ} {inside : List ℕ} where
  pub rows_none : LinkedRows t a inside b [] (replicate 64 0)
  rows_none = record { long = refl; at = λ q s. (λ h. absurd (no_digit s (zero_row 64 q) h.digit), λ w. absurd (omega (arith, w.0.1))) }

  pub rows_more : {xs rows : List ℕ} {q y : ℕ} → q < 64 → DigitsExactly y (Linked t a inside b q) → LinkedRows t a inside b xs rows → LinkedRows t a inside b (xs ++ q ∷ []) (set rows q y)
  rows_more {xs} {rows} {q} {y} l d h = record { long = length-set rows q y ∙ h.long; at = λ p s. go p s (ℕ_discrete p q) } where
    go : (p s : ℕ) → Dec (p ≡ q) → Holds (set rows q y) p s ↔ (Contains (xs ++ q ∷ []) p × Linked t a inside b p s)
    go p s (yes e) =
        let same : get_or (set rows q y) q 0 ≡ y = get_or-set_same rows q y 0 (omega (arith, h.long)) in
        rw e (λ o. (Contains-push xs q, (d.at s).0 (rw same at o.digit)), λ w. record { digit = rw same ((d.at s).1 w.1) })
    go p s (no n) =
        let kept : get_or (set rows q y) p 0 ≡ get_or rows p 0 = get_or-set_other rows q p y 0 n in (
          λ o. let w = (h.at p s).0 (record { digit = rw kept at o.digit }) in (Contains-append_left xs (q ∷ []) p w.0, w.1),
          λ w. ⊎_elim (λ m. record { digit = rw kept (((h.at p s).1 (m, w.1)).digit) }) (λ e. absurd (n (sym e))) (Contains-push_cases xs q p w.0),
        )

  pub rows_all : {halves : ℕ} {rows : List ℕ} → halves < 2 ^ 64 → LinkedRows t a inside b (ones_of halves) rows → HoldsExactly rows (LinkedFrom t halves a inside b)
  rows_all {halves} fits h = record {
    at = λ q s. (
      λ o. let w = (h.at q s).0 o in record { from = ((ones_iff halves q).0 w.0).1; linked = w.1 },
      λ w. (h.at q s).1 ((ones_iff halves q).1 (bit_inside 64 halves q fits w.from, w.from), w.linked),
    );
  }

-- The links are asked for only from where the pairs below end.
pub joined_links : {t : Table} {n halves a b : ℕ} {below through inside r : List ℕ} → kind_in t a ≡ opening → kind_in t b ≡ closing → RowsBelow n below
    → DigitsExactly halves (InSome below 0 n)
    → HoldsExactly through (LinkedFrom t halves a inside b)
    → HoldsExactly r (Joined below through)
    → HoldsExactly r (reader.Joined (automaton t) (Holds below) a (Holds inside) b)
joined_links {t} {n} {halves} {a} {b} {below} {through} {inside} opens closes rows ends links h = exactly h forth back where
  forth : (p s : ℕ) → Joined below through p s → reader.Joined (automaton t) (Holds below) a (Holds inside) b p s
  forth p s j =
      let m = ((links.at j.by s).0 j.second).linked in
      record {
        q = j.by;
        r = m.r;
        x = m.x;
        γ = m.γ;
        below = j.first;
        opened = in_open m.opened.stands opens;
        inside = m.held;
        closed = in_close m.closed.stands closes;
      }

  opened : {q γ r : ℕ} → InTable t (open_move q a γ r) → Leads t q a γ r
  opened (in_open e i) = record { stands = e }

  closed : {x γ s : ℕ} → InTable t (close_move x b γ s) → Leads t x b γ s
  closed (in_close e i) = record { stands = e }

  back : (p s : ℕ) → reader.Joined (automaton t) (Holds below) a (Holds inside) b p s → Joined below through p s
  back p s j =
      let end = (ends.at j.q).1 (record { place = p; after = omega arith; before = row_low rows j.below; digit = j.below.digit }) in
      let link : Linked t a inside b j.q s = record { r = j.r; x = j.x; γ = j.γ; opened = opened j.opened; held = j.inside; closed = closed j.closed } in
      record { by = j.q; first = j.below; second = (links.at j.q s).1 (record { from = end; linked = link }) }
