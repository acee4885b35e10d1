-- Laws of a log that is written letter by letter: what each of the three kinds of letters does to a walk, what the nearest state on a way tells, and the loop.
use Prim.Native.Nat.{ℕ, suc, ◌+◌, ◌*◌, ◌-◌, ◌<◌, ◌≤◌}
use mathlib.Core.List.{List, [], ◌∷◌, ◌++◌}
use mathlib.Core.Path.{◌≡◌, refl, sym, ap, subst, ◌∙◌}
use native.Mathlib.Decide.{ℕ_discrete}
use native.Mathlib.Numerals.{add-one}
use native.Mathlib.Omega.{arith}
use lib.ListN.{length, get_or, set, take, length-set}
use lib.Seq.{get_or-set_same, get_or-set_other, take-set-le, take-suc-set}
use Rattle.std.proofs.Common.{Some}
use Rattle.vpa.specs.Automaton.{plain_move, open_move, close_move, Reaches, Accepts}
use Rattle.vpa.specs.Lists.{Trio}
use Rattle.vpa.specs.Shortest.{LeastLengths}
use Rattle.vpa.specs.TableOnDisk.{Table, state_count, InTable, in_plain, in_open, in_close, automaton}
use Rattle.vpa.proofs.ShortestLogs.{Unsplit, by_step, by_nest, reaches_start, reaches_plain, reaches_open, reaches_close, reaches_accepts, table_d_zero, table_unsplit}
use Rattle.vpa.proofs.TableMoves.{entry_cast, open_bounds, close_bounds, initial_bound, final_bound}
use Rattle.table.specs.Bytes.{byte}
use Rattle.table.specs.Layout.{moves_part, parse}
use Rattle.table.specs.Refusals.{verdict}
use Rattle.table.proofs.Tables.{good_storable, good_table}
use Rattle.nesting.specs.Scratch.{KeptFrom}
use Rattle.nesting.proofs.MovesFound.{move_at, stands_at}
use Rattle.nesting.proofs.Cleared.{kept_none, kept_then, kept_more}
use Rattle.lengths.specs.Limit.{over}
use Rattle.lengths.specs.Steps.{length_in, Least}
use Rattle.lengths.proofs.Lowering.{over_is, some_over}
use Rattle.shortest.specs.Steps.{Owed, owed_none, owed_more, Pending, pending_none, pending_more, Walking, Writing, WroteLetter, Wrote, with_pending, Via, PlainAt, OpenAt, CloseAt, SomePlain, SomeNest, WrotePlain, WroteOpen, LeastTop}
use Rattle.shortest.specs.declared.Top.{Top}
use Rattle.shortest.specs.declared.Walk.{Walk}

-- The lengths are those of the first 4096 numbers.
lengths_same : (s s' : List ℕ) → take 4096 s ≡ take 4096 s' → length_in s ≡ length_in s'
unfolding length_in
lengths_same s s' e = ap {B = ℕ → ℕ → ℕ} (λ x p q. get_or x (64 * p + q) 0) e

-- PENDING: what is to be done after the goal of a level is reached.

-- A pending close laid down as number k: what it holds, and what stays as it was.
module _ (s : List ℕ) (k b r q : ℕ) where
  abbrev once : List ℕ
  once = set s (4096 + 3 * k) b

  abbrev twice : List ℕ
  twice = set once (4096 + 3 * k + 1) r

  pending_long : length (with_pending s k b r q) ≡ length s
  pending_long = length-set twice (4096 + 3 * k + 2) q ∙ length-set once (4096 + 3 * k + 1) r ∙ length-set s (4096 + 3 * k) b

  pending_other : (i : ℕ) → (i ≡ 4096 + 3 * k → ⊥) → (i ≡ 4096 + 3 * k + 1 → ⊥) → (i ≡ 4096 + 3 * k + 2 → ⊥) → get_or (with_pending s k b r q) i 0 ≡ get_or s i 0
  pending_other i f g h =
      get_or-set_other twice (4096 + 3 * k + 2) i q 0 h ∙ get_or-set_other once (4096 + 3 * k + 1) i r 0 g ∙ get_or-set_other s (4096 + 3 * k) i b 0 f

  pending_lengths : take 4096 (with_pending s k b r q) ≡ take 4096 s
  pending_lengths =
      take-set-le 4096 twice (4096 + 3 * k + 2) q (omega arith)
      ∙ take-set-le 4096 once (4096 + 3 * k + 1) r (omega arith)
      ∙ take-set-le 4096 s (4096 + 3 * k) b (omega arith)

  pending_kept : k < 4096 → KeptFrom 16384 s (with_pending s k b r q)
  pending_kept l = record { long = pending_long; rest = λ i m. pending_other i (λ e. omega arith) (λ e. omega arith) (λ e. omega arith) }

  pending_new : {pending : List Trio} → k < 4096 → 16384 ≤ length s → Pending s pending k → Pending (with_pending s k b r q) ((b, r, q) ∷ pending) (suc k)
  pending_new l long f = pending_more
      (get_or-set_other twice (4096 + 3 * k + 2) (4096 + 3 * k) q 0 (λ e. omega arith)
      ∙ get_or-set_other once (4096 + 3 * k + 1) (4096 + 3 * k) r 0 (λ e. omega arith)
      ∙ get_or-set_same s (4096 + 3 * k) b 0 (omega arith))
      (get_or-set_other twice (4096 + 3 * k + 2) (4096 + 3 * k + 1) q 0 (λ e. omega arith)
      ∙ get_or-set_same once (4096 + 3 * k + 1) r 0 (omega (arith, length-set s (4096 + 3 * k) b)))
      (get_or-set_same twice (4096 + 3 * k + 2) q 0 (omega (arith, length-set once (4096 + 3 * k + 1) r, length-set s (4096 + 3 * k) b)))
      (kept f (λ i m. pending_other i (λ e. omega arith) (λ e. omega arith) (λ e. omega arith)))
    where
      kept : {s' : List ℕ} {pending : List Trio} {j : ℕ} → Pending s pending j → ((i : ℕ) → i < 4096 + 3 * j → get_or s' i 0 ≡ get_or s i 0) → Pending s' pending j
      kept pending_none same = pending_none
      kept (pending_more {k = j} e g h f) same = pending_more
          (same (4096 + 3 * j) (omega arith) ∙ e)
          (same (4096 + 3 * j + 1) (omega arith) ∙ g)
          (same (4096 + 3 * j + 2) (omega arith) ∙ h)
          (kept f (λ i l. same i (omega arith)))

-- Each pending close asks for a letter at least.
owed_depth : {t : Table} {d : ℕ → ℕ → ℕ} {q n k : ℕ} {σ s : List ℕ} {pending : List Trio} → Owed t d q σ pending n → Pending s pending k → k ≤ n
owed_depth (owed_none f) pending_none = omega arith
owed_depth (owed_more c l u o e) (pending_more x y z f) = omega (arith, owed_depth o f)

pub walk_depth : {t : Table} {s out : List ℕ} {place : ℕ} {walk : Walk} → Writing t s out place walk → length_in s walk.here walk.goal + walk.depth ≤ 4096
walk_depth w = let h = w.walking in omega (arith, owed_depth h.owing h.stacked, h.all, w.most, over_is)

reaches_goal : {t : Table} {d : ℕ → ℕ → ℕ} {s log : List ℕ} {walk : Walk} (h : Walking t d s log walk) → walk.here ≡ walk.goal
    → Reaches (automaton t) log walk.goal h.marks
reaches_goal {t} {log = log} h e = subst (λ q. Reaches (automaton t) log q h.marks) e h.reaches

-- What the innermost of k pending closes says where its level is to be closed and n letters are left.
pub record Closing (t : Table) (s log : List ℕ) (k n : ℕ) : Type 0 where
  pub deep : 0 < k
  pub letter : get_or s (4096 + 3 * (k - 1)) 0 < 256
  pub walking : Walking t (length_in s) s (log ++ (get_or s (4096 + 3 * (k - 1)) 0 ∷ []))
      (record { here = get_or s (4096 + 3 * (k - 1) + 1) 0; goal = get_or s (4096 + 3 * (k - 1) + 2) 0; depth = k - 1; left = n - 1 })

-- MOVES: what is found in the bytes of a table, and why it is there.

-- What is known of a table's moves by their numbers.
module _ (bytes : List ℕ) (good : verdict bytes ≡ 0) where
  abbrev t : Table
  t = parse bytes

  abbrev part : List ℕ
  part = moves_part bytes

  close_small : {p a γ q : ℕ} → InTable t (close_move p a γ q) → (p < state_count t) × (a < 256) × (q < state_count t)
  close_small m = let b = close_bounds t (good_table bytes good) m in (b.0, omega (arith, b.1, (good_storable bytes good).letters), b.3)

  open_small : {p a γ q : ℕ} → InTable t (open_move p a γ q) → q < state_count t
  open_small m = (open_bounds t (good_table bytes good) m).3

  plain_in : {p q k : ℕ} → PlainAt t part p q k → InTable t (plain_move p (byte part (4 * k + 1)) q)
  plain_in {k = k} h = in_plain (byte part (4 * k + 2)) (entry_cast _ h.from refl refl h.to (move_at bytes good refl k h.low)) h.of

  close_in : {r j : ℕ} → CloseAt t part r j → InTable t (close_move (byte part (4 * j)) (byte part (4 * j + 1)) (byte part (4 * j + 2)) r)
  close_in {j = j} h = in_close (entry_cast _ refl refl refl h.to (move_at bytes good refl j h.low)) h.of

  open_in : {d : ℕ → ℕ → ℕ} {p γ q v k : ℕ} → OpenAt t part d p γ q v k → InTable t (open_move p (byte part (4 * k + 1)) γ (byte part (4 * k + 3)))
  open_in {k = k} h = in_open (entry_cast _ h.from refl h.mark refl (move_at bytes good refl k h.low)) h.of

  some_plain : {p a q : ℕ} → InTable t (plain_move p a q) → SomePlain t part p q
  some_plain {a = a} (in_plain γ m of) =
      let w = stands_at bytes good refl (record { letter = a; stands = m; of = of }) in
      record { k = w.k; at = record { low = w.low; from = w.from; of = w.of; to = w.to } }

  some_nest : {d : ℕ → ℕ → ℕ} {p p₁ q₁ r a b γ v : ℕ} → InTable t (open_move p a γ p₁) → InTable t (close_move q₁ b γ r) → d p₁ q₁ + 2 ≡ v
      → SomeNest t part d p r v
  some_nest {d} {p₁ = p₁} {a = a} {b = b} (in_open m of) (in_close m' of') short =
      let w = stands_at bytes good refl (record { letter = a; stands = m; of = of }) in
      let w' = stands_at bytes good refl (record { letter = b; stands = m'; of = of' }) in
      let same : d (byte part (4 * w.k + 3)) (byte part (4 * w'.k)) ≡ d p₁ (byte part (4 * w'.k)) = ap (λ x. d x (byte part (4 * w'.k))) w.to in
      let same-too = ap (d p₁) w'.from in
      record {
        k = w.k;
        j = w'.k;
        at = record {
          closer = record { low = w'.low; of = w'.of; to = w'.to };
          opener = record { low = w.low; from = w.from; of = w.of; mark = w.mark ∙ sym w'.mark; short = omega (arith, same-too) };
        };
      }

  -- From here on s holds the least lengths.
  module _ (s : List ℕ) (least : Least t s) where
    abbrev d : ℕ → ℕ → ℕ
    d = length_in s

    d_zero : {p q : ℕ} → p < state_count t → q < state_count t → d p q ≡ 0 → p ≡ q
    d_zero = table_d_zero t (good_table bytes good) some_over d least

    -- No state splits the way to the nearest one: it would be nearer.
    unsplit : {p q r : ℕ} → p < state_count t → q < state_count t → d p q < over → Via (state_count t) d p q r → Unsplit (automaton t) d p r
    unsplit {p} {q} {r} low low-too short via =
        let between = via.between in
        table_unsplit t (good_table bytes good) some_over d least low via.low via.away (omega arith) (λ x l a b e.
        let j = least.closed.join x r q l via.low low-too (omega arith) (omega arith) in
        let i = least.closed.join p x q low l low-too (omega arith) j.length in
        let near : d p x + d x q ≡ d p q = omega (arith, j.most, i.most) in
        omega (arith, via.nearest x l a near))

    closing : {q k n m : ℕ} {log σ : List ℕ} {pending : List Trio}
        → Reaches (automaton t) log q σ → Owed t d q σ pending m → Pending s pending k → n ≡ m → 0 < n → Closing t s log k n
    closing r (owed_none f) g e l = absurd (omega arith)
    closing r (owed_more c l u o i) (pending_more {k = k} x y z f) e m = let one : suc k - 1 ≡ k = omega arith in record {
      deep = omega arith;
      letter = rw (one, x) (close_small c).1;
      walking = rw (one, x, y, z) record {
        marks = _;
        pending = _;
        owed = _;
        reaches = reaches_close (automaton t) r c;
        owing = o;
        stacked = f;
        here_low = (close_small c).2;
        goal_low = l;
        short = u;
        all = omega arith;
      };
    }

    -- LETTERS: the next one, of each of the three kinds.
    module _ {out : List ℕ} {place : ℕ} {walk : Walk} (w : Writing t s out place walk) where
      now : Walking t d s (take place out) walk
      now = w.walking

      pub closes : walk.here ≡ walk.goal → Closing t s (take place out) walk.depth walk.left
      closes e =
          let zero : d walk.here walk.goal ≡ 0 = rw e (least.closed.same walk.goal now.goal_low) in
          closing (reaches_goal now e) now.owing now.stacked (omega (arith, now.all)) w.some

      -- A letter written, at the place after the log.
      wrote : (a : ℕ) {s' : List ℕ} {walk' : Walk} → Walking t d s' (take place out ++ (a ∷ [])) walk' → suc walk'.left ≡ walk.left
          → take 4096 s' ≡ take 4096 s → KeptFrom 16384 s s' → WroteLetter t s out place walk s' (set out place a) walk'
      wrote a {s'} {walk'} h one lengths kept = record {
        walking = subst (λ log. Walking t d s' log walk') (sym (take-suc-set out place a w.room)) h;
        one = one;
        lengths = lengths;
        kept = kept;
        rest = record { long = length-set out place a; rest = λ i l. get_or-set_other out place i a 0 (λ e. omega arith) };
      }

      pub wrote_close : {out' : List ℕ} {walk' : Walk} → walk.here ≡ walk.goal → out' ≡ set out place (get_or s (4096 + 3 * (walk.depth - 1)) 0)
          → walk' ≡ record {
            here = get_or s (4096 + 3 * (walk.depth - 1) + 1) 0;
            goal = get_or s (4096 + 3 * (walk.depth - 1) + 2) 0;
            depth = walk.depth - 1;
            left = walk.left - 1;
          }
          → WroteLetter t s out place walk s out' walk'
      wrote_close e put goes = rw (put, goes) (wrote _ (closes e).walking (omega (arith, w.some)) refl (kept_none 16384 s))

      -- A way is left to the goal.
      pub far : (walk.here ≡ walk.goal → ⊥) → 0 < d walk.here walk.goal
      far n = by (ℕ_discrete (d walk.here walk.goal) 0) where
        by : Dec (d walk.here walk.goal ≡ 0) → 0 < d walk.here walk.goal
        by (yes e) = absurd (n (d_zero now.here_low now.goal_low e))
        by (no f) = omega arith

      pub walk_low : (walk.here < 64) × (walk.goal < 64)
      walk_low = let most = (good_storable bytes good).states in (omega (arith, now.here_low), omega (arith, now.goal_low))

      -- From here on r is the nearest state on the way, and v is how far it is.
      module _ {n r v : ℕ} (count : n ≡ state_count t) (via : Via n d walk.here walk.goal r) (long : d walk.here r ≡ v) where
        unsplit_here : Unsplit (automaton t) d walk.here r
        unsplit_here = unsplit now.here_low now.goal_low now.short (rw count at via)

        -- A nesting has two letters at least, and a plain move one.
        pub via_plain : v ≡ 1 → SomePlain t part walk.here r
        via_plain one = by unsplit_here where
          by : Unsplit (automaton t) d walk.here r → SomePlain t part walk.here r
          by (by_step a m e) = some_plain m
          by (by_nest p₁ q₁ a b γ m c e) = absurd (omega arith)

        pub via_nest : (v ≡ 1 → ⊥) → SomeNest t part d walk.here r v
        via_nest more = by unsplit_here where
          by : Unsplit (automaton t) d walk.here r → SomeNest t part d walk.here r v
          by (by_step a m e) = absurd (more (omega arith))
          by (by_nest p₁ q₁ a b γ m c e) = some_nest m c (e ∙ long)

        pub wrote_plain : {out' : List ℕ} {walk' : Walk} → v ≡ 1 → WrotePlain t part walk.here r place out out'
            → walk' ≡ record { here = r; goal = walk.goal; depth = walk.depth; left = walk.left - 1 } → WroteLetter t s out place walk s out' walk'
        wrote_plain one step goes = rw (step.wrote, goes) (wrote _ record {
          marks = now.marks;
          pending = now.pending;
          owed = now.owed;
          reaches = reaches_plain (automaton t) now.reaches (plain_in step.by);
          owing = now.owing;
          stacked = now.stacked;
          here_low = omega (arith, via.low);
          goal_low = now.goal_low;
          short = omega (arith, now.short, via.between);
          all = omega (arith, now.all, via.between);
        } (omega (arith, w.some)) refl (kept_none 16384 s))

        pub via_deep : walk.depth < 4096
        via_deep = omega (arith, walk_depth w, via.between, via.away)

        pub wrote_open : {s' out' : List ℕ} {walk' : Walk} → 16384 ≤ length s → WroteOpen t part walk r v place s out s' out' walk'
            → WroteLetter t s out place walk s' out' walk'
        wrote_open size opened =
            let b = opened.by in
            let c = close_in b.closer in
            rw (opened.close, opened.wrote, opened.goes) (wrote _ record {
              marks = _ ∷ now.marks;
              pending = _ ∷ now.pending;
              owed = suc (d r walk.goal + now.owed);
              reaches = reaches_open (automaton t) now.reaches (open_in b.opener);
              owing = owed_more c now.goal_low (omega (arith, now.short, via.between)) now.owing refl;
              stacked = pending_new s walk.depth _ r walk.goal via_deep size now.stacked;
              here_low = open_small (open_in b.opener);
              goal_low = (close_small c).0;
              short = omega (arith, b.opener.short, now.short, via.between);
              all = omega (arith, b.opener.short, now.all, via.between);
            } (omega (arith, w.some)) (pending_lengths s walk.depth _ r walk.goal) (pending_kept s walk.depth _ r walk.goal via_deep))

-- THE LOOP

-- After the turns before place, of n: a log of so many letters is written.
pub record LogSoFar (t : Table) (n : ℕ) (s out : List ℕ) (place : ℕ) (s' out' : List ℕ) (walk : Walk) : Type 0 where
  pub walking : Walking t (length_in s) s' (take place out') walk
  pub left : walk.left + place ≡ n
  pub lengths : take 4096 s' ≡ take 4096 s
  pub kept : KeptFrom 16384 s s'
  pub rest : KeptFrom place out out'

pub log_none : {t : Table} {s out : List ℕ} {n : ℕ} {top : Top} → LeastTop t s n (Some top) → top.moves < over
    → LogSoFar t top.moves s out 0 s out (record { here = top.first; goal = top.last; depth = 0; left = top.moves })
log_none {t} {s} {out} least most =
    let f = (least.found _ refl).0 in
    record {
      walking = record {
        marks = [];
        pending = [];
        owed = 0;
        reaches = reaches_start (automaton t) f.0.0;
        owing = owed_none f.0.1;
        stacked = pending_none;
        here_low = initial_bound t _ f.0.0;
        goal_low = final_bound t _ f.0.1;
        short = omega (arith, f.1);
        all = omega (arith, f.1);
      };
      left = omega arith;
      lengths = refl;
      kept = kept_none 16384 s;
      rest = kept_none 0 out;
    }

module _ {t : Table} {n place : ℕ} {s out s' out' : List ℕ} {walk : Walk} (h : LogSoFar t n s out place s' out' walk) where
  -- What the next turn asks for, and what it leaves.
  pub log_least : Least t s → Least t s'
  log_least least = subst (λ d. LeastLengths (automaton t) (λ p. p < state_count t) over d) (sym (lengths_same s' s h.lengths)) least

  pub log_writing : place < n → n < over → n ≤ length out → Writing t s' out' place walk
  log_writing l most room = record {
    walking = subst (λ d. Walking t d s' (take place out') walk) (sym (lengths_same s' s h.lengths)) h.walking;
    some = omega (arith, h.left);
    most = omega (arith, h.left);
    room = omega (arith, h.rest.long);
  }

  pub log_more : {s'' out'' : List ℕ} {walk'' : Walk} → WroteLetter t s' out' place walk s'' out'' walk'' → LogSoFar t n s out (place + 1) s'' out'' walk''
  log_more {s''} {out''} {walk''} g = rw add-one record {
    walking = subst (λ d. Walking t d s'' (take (suc place) out'') walk'') (lengths_same s' s h.lengths) g.walking;
    left = omega (arith, h.left, g.one);
    lengths = g.lengths ∙ h.lengths;
    kept = kept_then h.kept g.kept;
    rest = kept_then (kept_more (omega arith) h.rest) g.rest;
  }

-- Where no letter is left, the goal is reached and nothing is owed.
pub log_all : (bytes : List ℕ) → verdict bytes ≡ 0 → (s : List ℕ) → Least (parse bytes) s → {n place : ℕ} {out s' out' : List ℕ} {walk : Walk}
    → n ≤ place → LogSoFar (parse bytes) n s out place s' out' walk → Wrote (parse bytes) n out out'
log_all bytes good s least {n} {place} {out} {s'} {out'} {walk} l h =
    let w = h.walking in
    let e = d_zero bytes good s least w.here_low w.goal_low (omega (arith, w.all, h.left)) in
    let all : place ≡ n = omega (arith, h.left) in
    record {
      accepted = subst (λ k. Accepts (automaton (parse bytes)) (take k out')) all (done (reaches_goal w e) w.owing (omega (arith, w.all, h.left)));
      rest = subst (λ k. KeptFrom k out out') all h.rest;
    }
  where
    done : {t : Table} {d : ℕ → ℕ → ℕ} {q m : ℕ} {log σ : List ℕ} {pending : List Trio}
        → Reaches (automaton t) log q σ → Owed t d q σ pending m → m ≡ 0 → Accepts (automaton t) log
    done {t} r (owed_none f) e = reaches_accepts (automaton t) r f
    done r (owed_more c l u o i) e = absurd (omega arith)
