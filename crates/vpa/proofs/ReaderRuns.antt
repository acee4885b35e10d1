-- The reader, for every choice of states and marks: it goes on exactly while a run does, and is finished exactly if the log is accepted. On an automaton that is
-- weakly reduced and has the runs of an original it goes on exactly while some log that the original accepts begins with the letters taken.
use Prim.Native.Nat.{ℕ}
use mathlib.Core.Path.{◌≡◌, refl, ap, ap₂, ◌∙◌, subst}
use mathlib.Core.List.{List, [], ◌∷◌, ◌++◌}
use mathlib.Core.Logic.{◌↔◌}
use Rattle.vpa.specs.Automaton.{Kind, plain, opening, closing, Move, plain_move, open_move, close_move, letter, move_kind, spells, Vpa, Run, run_done, run_plain, run_open, run_close, Accepts, Reaches, SameRuns, WeaklyReduced}
use Rattle.vpa.specs.PairsLevelsTrimmed.{trim, now, bare}
use Rattle.vpa.specs.Reader.{Rel, Reading, nothing, block, held, Started, begin, Extended, Opened, Joined, candidate_by, candidate, reads, reading_of, Going, Finished}
use Rattle.vpa.proofs.Runs.{run_append, spells_append, completed}
use Rattle.vpa.proofs.Renaming.{same_logs}
use Rattle.vpa.proofs.Trimming.{trim_weakly_reduced, trim_same_runs}

-- The configurations that a reading stands for: the blocks' pairs, each begun by an open move from the block below.
data Stands {Q Γ : Type 0} (A : Vpa Q Γ) : Reading Q → Q → List Γ → Type 1 where
  ground : {c : ℕ} {R : Rel Q} {q : Q} (p : Q) → R p q → Stands A (block c R nothing) q []
  above : {a : ℕ} {R : Rel Q} {k : Reading Q} {x r q : Q} {γ : Γ} {σ : List Γ}
      → Stands A k x σ → A.Has (open_move x a γ r) → R r q → Stands A (block a R k) q (γ ∷ σ)

module _ {Q Γ : Type 0} (A : Vpa Q Γ) where
  -- One letter, forwards.
  stands_plain : {k : Reading Q} {p q : Q} {a : ℕ} {σ : List Γ} → Stands A k p σ → A.Has (plain_move p a q) → Stands A (candidate_by A plain a k) q σ
  unfolding candidate_by
  stands_plain {a = a} (ground {R = R} {q = p} i w) h = ground {R = Extended A a R} i (record { q = p; was = w; moved = h })
  stands_plain {a = a} (above {R = R} {q = p} s o w) h = above {R = Extended A a R} s o (record { q = p; was = w; moved = h })

  stands_open : {k : Reading Q} {p q : Q} {a : ℕ} {γ : Γ} {σ : List Γ} → Stands A k p σ → A.Has (open_move p a γ q) → Stands A (candidate_by A opening a k) q (γ ∷ σ)
  unfolding candidate_by
  stands_open {a = a} {γ = γ} (ground {R = R} {q = p} i w) h =
      above {R = Opened A a R} (ground i w) h (record { alone = refl; p = i; r = p; γ = γ; was = w; opened = h })
  stands_open {a = a} {γ = γ} (above {R = R} {r = i} {q = p} s o w) h =
      above {R = Opened A a R} (above s o w) h (record { alone = refl; p = i; r = p; γ = γ; was = w; opened = h })

  stands_close : {k : Reading Q} {p q : Q} {b : ℕ} {γ : Γ} {σ : List Γ} → Stands A k p (γ ∷ σ) → A.Has (close_move p b γ q) → Stands A (candidate_by A closing b k) q σ
  unfolding candidate_by
  stands_close {b = b} {γ = γ} (above {a = a} {R = R} {r = r} {q = x} (ground {R = S} {q = y} i v) o w) h =
      ground {R = Joined A S a R b} i (record { q = y; r = r; x = x; γ = γ; below = v; opened = o; inside = w; closed = h })
  stands_close {b = b} {γ = γ} (above {a = a} {R = R} {r = r} {q = x} (above {R = S} {q = y} s o' v) o w) h =
      above {R = Joined A S a R b} s o' (record { q = y; r = r; x = x; γ = γ; below = v; opened = o; inside = w; closed = h })

  -- A log, forwards: where the run goes, the reading stands.
  stands_run : {p q : Q} {σ τ : List Γ} {ms : List (Move Q Γ)} (k : Reading Q) → Run A p σ ms q τ → Stands A k p σ → Stands A (reads A (spells ms) k) q τ
  unfolding spells reads candidate letter move_kind
  stands_run k run_done s = s
  stands_run k (run_plain {p = p} {q = q} {a = a} h t) s = stands_run (candidate A a k) t (rw (A.fits (plain_move p a q) h) (stands_plain s h))
  stands_run k (run_open {p = p} {q = q} {a = a} {γ = γ} h t) s = stands_run (candidate A a k) t (rw (A.fits (open_move p a γ q) h) (stands_open s h))
  stands_run k (run_close {p = p} {q = q} {a = a} {γ = γ} h t) s = stands_run (candidate A a k) t (rw (A.fits (close_move p a γ q) h) (stands_close s h))

  -- One letter, backwards.
  Came : Reading Q → ℕ → Q → List Γ → Type 1
  Came k a q τ = (p : Q) × (σ : List Γ) × (m : Move Q Γ) × Stands A k p σ × Run A p σ (m ∷ []) q τ × (letter m ≡ a)

  came : (j : Kind) (a : ℕ) (k : Reading Q) {q : Q} {τ : List Γ} → Stands A (candidate_by A j a k) q τ → Came k a q τ
  unfolding candidate_by Came letter
  came plain a nothing s = elim s [ ]
  came plain a (block c R k) {q} {τ} (ground i w) = (w.q, [], plain_move w.q a q, ground i w.was, run_plain w.moved run_done, refl)
  came plain a (block c R k) {q} {τ} (above s o w) = (w.q, τ, plain_move w.q a q, above s o w.was, run_plain w.moved run_done, refl)
  came opening a nothing s = elim s [ ]
  came opening a (block c R k) (above {x = x} {r = r} {q = q} {γ = γ} {σ = σ} s o w) =
      (x, σ, open_move x a γ q, s, run_open (rw w.alone at o) run_done, refl)
  came closing b nothing s = elim s [ ]
  came closing b (block a R nothing) s = elim s [ ]
  came closing b (block a R (block c S k)) {q} (ground i w) =
      (w.x, w.γ ∷ [], close_move w.x b w.γ q, above (ground i w.below) w.opened w.inside, run_close w.closed run_done, refl)
  came closing b (block a R (block c S k)) {q} {τ} (above s o w) =
      (w.x, w.γ ∷ τ, close_move w.x b w.γ q, above (above s o w.below) w.opened w.inside, run_close w.closed run_done, refl)

  -- A log, backwards: where the reading stands, a run goes.
  stands_came : (w : List ℕ) (k : Reading Q) {q : Q} {τ : List Γ} → Stands A (reads A w k) q τ
      → (p : Q) × (σ : List Γ) × (ms : List (Move Q Γ)) × Stands A k p σ × Run A p σ ms q τ × (spells ms ≡ w)
  unfolding reads candidate spells Came
  stands_came [] k {q} {τ} s = (q, τ, [], s, run_done, refl)
  stands_came (a ∷ w) k {q} {τ} s =
      let t = stands_came w (candidate A a k) s in
      let u = came (A.kind a) a k t.3 in
      (u.0, u.1, u.2 ∷ t.2, u.3, run_append A u.4 t.4, ap₂ (λ b v. b ∷ v) u.5 t.5)

-- Each pair of a block begins where the block below lets it begin, and each pair of depth 0 at an initial state.
data Rooted {Q Γ : Type 0} (A : Vpa Q Γ) : Reading Q → Type 1 where
  off : Rooted A nothing
  base : {c : ℕ} {R : Rel Q} → ((p q : Q) → R p q → A.Initial p) → Rooted A (block c R nothing)
  more : {a : ℕ} {R : Rel Q} {k : Reading Q}
      → ((r q : Q) → R r q → (x : Q) × (γ : Γ) × (σ : List Γ) × A.Has (open_move x a γ r) × Stands A k x σ) → Rooted A k → Rooted A (block a R k)

module _ {Q Γ : Type 0} (A : Vpa Q Γ) where
  rooted_stands : {k : Reading Q} (p q : Q) → Rooted A k → held k p q → (σ : List Γ) × Stands A k q σ
  rooted_stands p q off w = elim w [ ]
  rooted_stands p q (base f) w = ([], ground p w)
  rooted_stands p q (more f g) w = let t = f p q w in (t.1 ∷ t.2, above t.4 t.3 w)

  rooted_candidate : (j : Kind) (a : ℕ) {k : Reading Q} → Rooted A k → Rooted A (candidate_by A j a k)
  unfolding candidate_by
  rooted_candidate plain a off = off
  rooted_candidate plain a (base {R = R} f) = base {R = Extended A a R} (λ p q w. f p w.q w.was)
  rooted_candidate plain a (more {R = R} f g) = more {R = Extended A a R} (λ p q w. f p w.q w.was) g
  rooted_candidate opening a off = off
  rooted_candidate opening a (base {c} {R} f) = more {R = Opened A a R} (λ r q w. let t = rooted_stands w.p w.r (base {c = c} f) w.was in (w.r, w.γ, t.0, w.opened, t.1)) (base f)
  rooted_candidate opening a (more {R = R} f g) = more {R = Opened A a R} (λ r q w. let t = rooted_stands w.p w.r (more f g) w.was in (w.r, w.γ, t.0, w.opened, t.1)) (more f g)
  rooted_candidate closing b off = off
  rooted_candidate closing b (base f) = off
  rooted_candidate closing b (more f off) = off
  rooted_candidate closing b (more {a = a} {R = R} f (base {R = S} g)) = base {R = Joined A S a R b} (λ p q w. g p w.q w.below)
  rooted_candidate closing b (more {a = a} {R = R} f (more {R = S} g h)) = more {R = Joined A S a R b} (λ p q w. g p w.q w.below) h

  rooted_reads : (w : List ℕ) {k : Reading Q} → Rooted A k → Rooted A (reads A w k)
  unfolding reads candidate
  rooted_reads [] r = r
  rooted_reads (a ∷ w) r = rooted_reads w (rooted_candidate (A.kind a) a r)

  rooted : (w : List ℕ) → Rooted A (reading_of A w)
  rooted w = rooted_reads w (base {R = Started A} (λ p q s. s.begins))

  -- After the letters w the reading stands for just the configurations that runs on w reach.
  stands_of_reaches : {w : List ℕ} {q : Q} {σ : List Γ} → Reaches A w q σ → Stands A (reading_of A w) q σ
  stands_of_reaches {w} {q} {σ} r = subst (λ v. Stands A (reading_of A v) q σ) r.spelt
      (stands_run A (begin A) r.runs (ground r.first (record { alone = refl; begins = r.begins })))

  from_begin : {p : Q} {σ : List Γ} → Stands A (begin A) p σ → A.Initial p × (σ ≡ [])
  from_begin (ground i w) = (rw w.alone at w.begins, refl)
  from_begin (above s o w) = elim s [ ]

  reaches_of_stands : (w : List ℕ) {q : Q} {σ : List Γ} → Stands A (reading_of A w) q σ → Reaches A w q σ
  reaches_of_stands w {q} {σ} s =
      let t = stands_came A w (begin A) s in
      let u = from_begin t.3 in
      record { first = t.0; moves = t.2; begins = u.0; runs = rw u.1 at t.4; spelt = t.5 }

  -- The reader goes on after the letters w exactly if a run from an initial state is on them.
  pub going_iff_reaches : (w : List ℕ) → Going (reading_of A w) ↔ ((q : Q) × (σ : List Γ) × Reaches A w q σ)
  going_iff_reaches w = (
    λ g. let t = rooted_stands g.p g.q (rooted w) g.pair in (g.q, t.0, reaches_of_stands w t.1),
    λ r. going (stands_of_reaches r.2),
  )
    where
      going : {k : Reading Q} {q : Q} {σ : List Γ} → Stands A k q σ → Going k
      going {q = q} (ground i w) = record { p = i; q = q; pair = w }
      going {q = q} (above {r = r} s o w) = record { p = r; q = q; pair = w }

  -- Where the candidate has a pair, the reading had one.
  going_before : (j : Kind) (a : ℕ) (k : Reading Q) → Going (candidate_by A j a k) → Going k
  unfolding candidate_by
  going_before plain a nothing g = absurd g.pair
  going_before opening a nothing g = absurd g.pair
  going_before closing b nothing g = absurd g.pair
  going_before closing b (block a R nothing) g = absurd g.pair
  going_before plain a (block c R k) g = record { p = g.p; q = g.pair.q; pair = g.pair.was }
  going_before opening a (block c R k) g = record { p = g.pair.p; q = g.pair.r; pair = g.pair.was }
  going_before closing b (block a R (block c S k)) g = record { p = g.pair.r; q = g.pair.x; pair = g.pair.inside }

  pub going_prefix : (w v : List ℕ) (k : Reading Q) → Going (reads A (w ++ v) k) → Going (reads A w k)
  unfolding reads candidate
  going_prefix [] [] k g = g
  going_prefix [] (a ∷ v) k g = going_before (A.kind a) a k (going_prefix [] v (candidate A a k) g)
  going_prefix (a ∷ w) v k g = going_prefix w v (candidate A a k) g

  pub reads_append : (w v : List ℕ) (k : Reading Q) → reads A (w ++ v) k ≡ reads A v (reads A w k)
  unfolding reads
  reads_append [] v k = refl
  reads_append (a ∷ w) v k = reads_append w v (candidate A a k)

  -- Finished exactly if the log is accepted.
  pub finished_iff_accepts : (w : List ℕ) → Finished A (reading_of A w) ↔ Accepts A w
  finished_iff_accepts w = (
    λ d. let t = here (reading_of A w) d in let r = reaches_of_stands w t.2 in
        record { first = r.first; moves = r.moves; last = t.0; spelt = r.spelt; accepting = record { begins = r.begins; runs = r.runs; ends = t.1 } },
    λ a. there (rooted w)
        (stands_of_reaches (record { first = a.first; moves = a.moves; begins = a.accepting.begins; runs = a.accepting.runs; spelt = a.spelt }))
        a.accepting.ends,
  )
    where
      here : (k : Reading Q) → Finished A k → (f : Q) × A.Final f × Stands A k f []
      here nothing d = absurd d
      here (block c R nothing) d = (d.f, d.ends, ground d.i d.pair)
      here (block c R (block e S k)) d = absurd d

      there : {k : Reading Q} {f : Q} → Rooted A k → Stands A k f [] → A.Final f → Finished A k
      there off s e = elim s [ ]
      there {f = f} (base g) (ground i w) e = record { i = i; f = f; pair = w; begins = g i f w; ends = e }
      there {f = f} (more g h) (ground i w) e = nowhere (g i f w).4
        where
          nowhere : {X : Type 0} {q : Q} {σ : List Γ} → Stands A nothing q σ → X
          nowhere s = elim s [ ]

  pub finished_going : (k : Reading Q) → Finished A k → Going k
  finished_going nothing d = absurd d
  finished_going (block c R nothing) d = record { p = d.i; q = d.f; pair = d.pair }
  finished_going (block c R (block e S k)) d = absurd d

  -- A close at depth 0 leaves no block, so no run is on it.
  pub close_at_depth_0 : (b c : ℕ) (R : Rel Q) → A.kind b ≡ closing → candidate A b (block c R nothing) ≡ nothing
  unfolding candidate candidate_by
  close_at_depth_0 b c R e = rw (e, candidate_by)

  pub no_close_at_depth_0 : (w : List ℕ) {c b : ℕ} {R : Rel Q} → reading_of A w ≡ block c R nothing → A.kind b ≡ closing
      → {q : Q} {σ : List Γ} → Reaches A (w ++ (b ∷ [])) q σ → ⊥
  unfolding reads
  no_close_at_depth_0 w {c} {b} {R} e k {q} {σ} r =
      let g = (going_iff_reaches (w ++ (b ∷ []))).1 (q, σ, r) in
      (subst Going (reads_append w (b ∷ []) (begin A) ∙ (ap (candidate A b) e ∙ close_at_depth_0 b c R k)) g).pair

-- On a weakly reduced automaton the reader goes on exactly while some accepted log begins with the letters taken.
pub going_iff_prefix : {Q Γ : Type 0} (A : Vpa Q Γ) → WeaklyReduced A → (w : List ℕ) → Going (reading_of A w) ↔ ((v : List ℕ) × Accepts A (w ++ v))
going_iff_prefix A red w = (
  λ g. let r = ((going_iff_reaches A w).0 g).2 in
      let k = completed A red r.begins r.runs in (
        spells k.0,
        record { first = r.first; moves = r.moves ++ k.0; last = k.1; accepting = k.2; spelt = spells_append r.moves k.0 ∙ ap (λ u. u ++ spells k.0) r.spelt },
      ),
  λ a. let t = a.1 in
      going_prefix A w a.0 (begin A)
      ((going_iff_reaches A (w ++ a.0)).1
      (t.last, [], record { first = t.first; moves = t.moves; begins = t.accepting.begins; runs = t.accepting.runs; spelt = t.spelt })),
)

-- And if it has the runs of an original A: while some log that A accepts begins with them. The same for one letter more, which is demand 3; and before
-- any letter.
module _ {Q Γ Q' Γ' : Type 0} (A : Vpa Q Γ) (B : Vpa Q' Γ') (f : Q' → Q) (u : Γ' → Γ) (n : SameRuns A B f u) (red : WeaklyReduced B) where
  pub going_iff_original : (w : List ℕ) → Going (reading_of B w) ↔ ((v : List ℕ) × Accepts A (w ++ v))
  going_iff_original w = (
    λ g. let k = (going_iff_prefix B red w).0 g in (k.0, (same_logs A B f u n (w ++ k.0)).0 k.1),
    λ a. (going_iff_prefix B red w).1 (a.0, (same_logs A B f u n (w ++ a.0)).1 a.1),
  )

  pub candidate_iff_original : (w : List ℕ) (a : ℕ) → Going (candidate B a (reading_of B w)) ↔ ((v : List ℕ) × Accepts A ((w ++ (a ∷ [])) ++ v))
  unfolding reads
  candidate_iff_original w a =
      subst (λ k. Going k ↔ ((v : List ℕ) × Accepts A ((w ++ (a ∷ [])) ++ v))) (reads_append B w (a ∷ []) (begin B)) (going_iff_original (w ++ (a ∷ [])))

  pub begin_iff_original : Going (begin B) ↔ ((v : List ℕ) × Accepts A v)
  unfolding reads
  begin_iff_original = going_iff_original []

-- On the trimmed automaton.
module _ {Q Γ : Type 0} (A : Vpa Q Γ) where
  pub trim_going : (w : List ℕ) → Going (reading_of (trim A) w) ↔ ((v : List ℕ) × Accepts A (w ++ v))
  trim_going = going_iff_original A (trim A) now bare (trim_same_runs A) (trim_weakly_reduced A)

  pub trim_candidate : (w : List ℕ) (a : ℕ) → Going (candidate (trim A) a (reading_of (trim A) w)) ↔ ((v : List ℕ) × Accepts A ((w ++ (a ∷ [])) ++ v))
  trim_candidate = candidate_iff_original A (trim A) now bare (trim_same_runs A) (trim_weakly_reduced A)

  pub trim_begin : Going (begin (trim A)) ↔ ((v : List ℕ) × Accepts A v)
  trim_begin = begin_iff_original A (trim A) now bare (trim_same_runs A) (trim_weakly_reduced A)
