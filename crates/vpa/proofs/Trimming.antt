-- Trimming, over any states and marks: the trimmed automaton has the accepting runs of its original, one for one, and is weakly reduced.
use Prim.Native.Nat.{ℕ}
use native.Mathlib.Omega.{arith}
use mathlib.Core.Path.{◌≡◌, refl, sym, ap, ap₂, ◌∙◌, subst}
use mathlib.Core.List.{List, [], ◌∷◌, ◌++◌, map, map-append}
use mathlib.Core.Logic.{◌↔◌}
use Rattle.vpa.specs.Automaton.{Move, plain_move, open_move, close_move, rename, Vpa, Run, run_done, run_plain, run_open, run_close, Accepting, Accepts, Completes, SameRuns, WeaklyReduced, spells}
use Rattle.vpa.specs.PairsLevelsTrimmed.{Balanced, same, join, step, nest, Nested, empty, flat, deep, TopLevel, OpensTo, ClosesTo, Opens, Live, top, inner, Triple, triple, MarkOn, mark_on, TrimmedState, TrimmedMark, TrimmedInitial, trimmed_initial, TrimmedFinal, trimmed_final, TrimmedMove, trimmed_plain, trimmed_open, trimmed_close, trim, now, bare}
use Rattle.vpa.proofs.Runs.{run_append, balanced_of_nested, nested_of_run, nested_of_balanced, balanced_iff_run}
use Rattle.vpa.proofs.Renaming.{run_rename, same_runs, same_logs}

abbrev TrimmedMoves : Type 0 → Type 0 → Type 0
TrimmedMoves Q Γ = List (Move (Triple Q) (MarkOn Q Γ))

-- The original's moves.
abbrev project : {Q Γ : Type 0} → TrimmedMoves Q Γ → List (Move Q Γ)
project ns = map (rename now bare) ns

-- A log is accepted exactly if there is a top level, and a level is live only then.
module _ {Q Γ : Type 0} (A : Vpa Q Γ) where
  pub accepts_iff_top : ((w : List ℕ) × Accepts A w) ↔ ((i : Q) × (f : Q) × TopLevel A i f)
  accepts_iff_top = (
    λ r. let a = r.1.accepting in
        (r.1.first, r.1.last, record { begins = a.begins; balanced = (balanced_iff_run A r.1.first r.1.last).1 (r.1.moves, a.runs); ends = a.ends }),
    λ r. let t = r.2 in
        let k = (balanced_iff_run A r.0 r.1).0 t.balanced in
        (spells k.0, record { first = r.0; moves = k.0; last = r.1; accepting = record { begins = t.begins; runs = k.1; ends = t.ends }; spelt = refl }),
  )

  pub top_of_live : {o q : Q} → Live A o q → (i : Q) × (f : Q) × TopLevel A i f
  top_of_live (top {i} {f} t) = (i, f, t)
  top_of_live (inner l w) = top_of_live l

-- The ends and the mark of a trimmed move are trimmed states and a trimmed mark. The definition asks that of a plain move's ends and of an open's
-- beginning only: the rest follows.
module _ {Q Γ : Type 0} (A : Vpa Q Γ) where
  module _ {o q p o' q' : Q} {a : ℕ} {γ : Γ} (h : A.Has (open_move p a γ o')) (b : Balanced A o' q') (c : ClosesTo A q' γ q) (s : TrimmedState A o q p) where
    open_opens : Opens A o q γ o' q'
    open_opens = record { opens = record { x = p; a = a; before = s.begun; opened = h }; inside = b; closes = c }

    pub open_mark : TrimmedMark A γ o q
    open_mark = record { live = s.live; o' = o'; q' = q'; opens = open_opens }

    pub open_target : TrimmedState A o' q' o'
    open_target = record { live = inner s.live open_opens; begun = same; ending = b }

  module _ {o q s o' q' : Q} {b : ℕ} {γ : Γ} (h : A.Has (close_move q' b γ s)) (e : Balanced A s q) (w : OpensTo A o γ o') (l : Live A o q) (k : Balanced A o' q') where
    close_opens : Opens A o q γ o' q'
    close_opens = record { opens = w; inside = k; closes = record { s = s; b = b; closed = h; after = e } }

    pub close_mark : TrimmedMark A γ o q
    close_mark = record { live = l; o' = o'; q' = q'; opens = close_opens }

    pub close_source : TrimmedState A o' q' q'
    close_source = record { live = inner l close_opens; begun = k; ending = same }

    pub close_target : TrimmedState A o q s
    close_target = record { live = l; begun = join w.before (nest w.opened k h); ending = e }

-- A trimmed mark is pushed by some trimmed open.
module _ {Q Γ : Type 0} (A : Vpa Q Γ) where
  pub mark_pushed : {γ : Γ} {o q : Q} → TrimmedMark A γ o q → (c : Triple Q) × (a : ℕ) × (d : Triple Q) × TrimmedMove A (open_move c a (mark_on γ o q) d)
  mark_pushed {o = o} {q = q} w =
      let i = w.opens.opens in
      let c = w.opens.closes in
      let s : TrimmedState A o q i.x = record { live = w.live; begun = i.before; ending = join (nest i.opened w.opens.inside c.closed) c.after } in
      (triple o q i.x, i.a, triple w.o' w.q' w.o', trimmed_open i.opened w.opens.inside c s)

-- A level and the marks below it, as a run of the trimmed automaton from an initial state leaves them.
data Good {Q Γ : Type 0} (A : Vpa Q Γ) : Q → Q → List (MarkOn Q Γ) → Type 0 where
  ground : {i f : Q} → TopLevel A i f → Good A i f []
  above : {o q o' q' : Q} {γ : Γ} {τ : List (MarkOn Q Γ)} → Opens A o q γ o' q' → Good A o q τ → Good A o' q' (mark_on γ o q ∷ τ)

data Sound {Q Γ : Type 0} (A : Vpa Q Γ) : Triple Q → List (MarkOn Q Γ) → Type 0 where
  sound : {o q p : Q} {τ : List (MarkOn Q Γ)} → Good A o q τ → Balanced A o p → Balanced A p q → Sound A (triple o q p) τ

module _ {Q Γ : Type 0} (A : Vpa Q Γ) where
  good_live : {o q : Q} {τ : List (MarkOn Q Γ)} → Good A o q τ → Live A o q
  good_live (ground t) = top t
  good_live (above w g) = inner (good_live g) w

  sound_initial : {c : Triple Q} → TrimmedInitial A c → Sound A c []
  sound_initial (trimmed_initial s i f) = sound (ground (record { begins = i; balanced = s.ending; ends = f })) same s.ending

  sound_plain : {c d : Triple Q} {a : ℕ} {τ : List (MarkOn Q Γ)} → TrimmedMove A (plain_move c a d) → Sound A c τ → Sound A d τ
  sound_plain (trimmed_plain h s t) (sound g b e) = sound g t.begun t.ending

  sound_open : {c d : Triple Q} {a : ℕ} {m : MarkOn Q Γ} {τ : List (MarkOn Q Γ)} → TrimmedMove A (open_move c a m d) → Sound A c τ → Sound A d (m ∷ τ)
  sound_open (trimmed_open h b c s) (sound g d e) = sound (above (open_opens A h b c s) g) same b

  sound_close : {c d : Triple Q} {a : ℕ} {m : MarkOn Q Γ} {τ : List (MarkOn Q Γ)} → TrimmedMove A (close_move c a m d) → Sound A c (m ∷ τ) → Sound A d τ
  sound_close (trimmed_close h d o l b) (sound (above w g) k e) = let s = close_target A h d o l b in sound g s.begun s.ending

  sound_run : {c d : Triple Q} {σ τ : List (MarkOn Q Γ)} {ms : TrimmedMoves Q Γ} → Run (trim A) c σ ms d τ → Sound A c σ → Sound A d τ
  sound_run run_done s = s
  sound_run (run_plain h t) s = sound_run t (sound_plain h s)
  sound_run (run_open h t) s = sound_run t (sound_open h s)
  sound_run (run_close h t) s = sound_run t (sound_close h s)

  project_deep : (u v : TrimmedMoves Q Γ) (c d : Triple Q) (b : ℕ) (m : MarkOn Q Γ) {ms ns : List (Move Q Γ)}
      → project u ≡ ms → project v ≡ ns → project (u ++ (close_move c b m d ∷ v)) ≡ ms ++ (close_move (now c) b (bare m) (now d) ∷ ns)
  unfolding rename
  project_deep u v c d b m e k = map-append (rename now bare) u (close_move c b m d ∷ v) ∙ ap₂ (λ x y. x ++ (close_move (now c) b (bare m) (now d) ∷ y)) e k

  -- Nested moves, at a live level and with its end ahead, are moves of the trimmed automaton.
  lift_nested : {p r : Q} {ms : List (Move Q Γ)} → Nested A p ms r
      → (o q : Q) → Live A o q → Balanced A o p → Balanced A r q
      → (ns : TrimmedMoves Q Γ) × (project ns ≡ ms) × ((τ : List (MarkOn Q Γ)) → Run (trim A) (triple o q p) τ ns (triple o q r) τ)
  unfolding rename now bare
  lift_nested empty o q l b e = ([], refl, λ τ. run_done)
  lift_nested (flat {p} {q = p'} {a = a} h n) o q l b e =
      let e' = join (balanced_of_nested A n) e in
      let k = lift_nested n o q l (join b (step h)) e in (
        plain_move (triple o q p) a (triple o q p') ∷ k.0,
        ap (λ ns. plain_move p a p' ∷ ns) k.1,
        λ τ. run_plain (trimmed_plain h (record { live = l; begun = b; ending = join (step h) e' }) (record { live = l; begun = join b (step h); ending = e' })) (k.2 τ),
      )
  lift_nested (deep {p} {p'} {q = q₁} {s = s} {a = a} {b = b₁} {γ = γ} h n c n') o q l b e =
      let inside = balanced_of_nested A n in
      let around = nest h inside c in
      let after = join (balanced_of_nested A n') e in
      let opens : OpensTo A o γ p' = record { x = p; a = a; before = b; opened = h } in
      let closes : ClosesTo A q₁ γ q = record { s = s; b = b₁; closed = c; after = after } in
      let k = lift_nested n p' q₁ (inner l (record { opens = opens; inside = inside; closes = closes })) same same in
      let k' = lift_nested n' o q l (join b around) e in (
        open_move (triple o q p) a (mark_on γ o q) (triple p' q₁ p') ∷ (k.0 ++ (close_move (triple p' q₁ q₁) b₁ (mark_on γ o q) (triple o q s) ∷ k'.0)),
        ap (λ ns. open_move p a γ p' ∷ ns) (project_deep k.0 k'.0 (triple p' q₁ q₁) (triple o q s) b₁ (mark_on γ o q) k.1 k'.1),
        λ τ. run_open (trimmed_open h inside closes (record { live = l; begun = b; ending = join around after }))
            (run_append (trim A) (k.2 (mark_on γ o q ∷ τ)) (run_close (trimmed_close c after opens l inside) (k'.2 τ))),
      )

  -- From a state of a level to the level's end.
  to_end : {o q p : Q} → Live A o q → Balanced A o p → Balanced A p q
      → (ns : TrimmedMoves Q Γ) × ((τ : List (MarkOn Q Γ)) → Run (trim A) (triple o q p) τ ns (triple o q q) τ)
  to_end {o} {q} l b e = let u = lift_nested (nested_of_balanced A e).1 o q l b same in (u.0, u.2)

  -- From a sound configuration the run goes on to an accepting end: to the end of its level, through the close, and so on down.
  sound_completes : {c : Triple Q} {τ : List (MarkOn Q Γ)} → Sound A c τ → Completes (trim A) c τ
  sound_completes (sound g b e) = go g b e
    where
      go : {o q p : Q} {τ : List (MarkOn Q Γ)} → Good A o q τ → Balanced A o p → Balanced A p q → Completes (trim A) (triple o q p) τ
      go {o} {q} {p} (ground t) b e =
          let u = to_end (top t) b e in
          record { moves = u.0; last = triple o q q; runs = u.1 []; ends = trimmed_final (record { live = top t; begun = t.balanced; ending = same }) t.begins t.ends }
      go {o} {q} {p} (above {o = o₁} {q = q₁} {γ = γ} {τ = τ} w g) b e =
          let c = w.closes in
          let u = to_end (inner (good_live g) w) b e in
          let v = go g (join w.opens.before (nest w.opens.opened w.inside c.closed)) c.after in
          record {
            moves = u.0 ++ (close_move (triple o q q) c.b (mark_on γ o₁ q₁) (triple o₁ q₁ c.s) ∷ v.moves);
            last = v.last;
            runs = run_append (trim A) (u.1 (mark_on γ o₁ q₁ ∷ τ)) (run_close (trimmed_close c.closed c.after w.opens (good_live g) w.inside) v.runs);
            ends = v.ends;
          }

  -- Every run of the trimmed automaton from an initial state can be completed.
  pub trim_weakly_reduced : WeaklyReduced (trim A)
  trim_weakly_reduced = record { completes = λ r. sound_completes (sound_run r.runs (sound_initial r.begins)) }

  -- An accepting run of the trimmed automaton is one of the original.
  project_has : (m : Move (Triple Q) (MarkOn Q Γ)) → TrimmedMove A m → A.Has (rename now bare m)
  unfolding rename now bare
  project_has m (trimmed_plain h s t) = h
  project_has m (trimmed_open h b c s) = h
  project_has m (trimmed_close h d o l b) = h

  project_initial : {c : Triple Q} → TrimmedInitial A c → A.Initial (now c)
  unfolding now
  project_initial (trimmed_initial t i f) = i

  project_final : {c : Triple Q} → TrimmedFinal A c → A.Final (now c)
  unfolding now
  project_final (trimmed_final t i f) = f

  project_accepting : (i f : Triple Q) (ns : TrimmedMoves Q Γ) → Accepting (trim A) i ns f → Accepting A (now i) (project ns) (now f)
  project_accepting i f ns r =
      record { begins = project_initial r.begins; runs = run_rename (trim A) A now bare project_has r.runs; ends = project_final r.ends }

  -- And every accepting run of the original is one of the trimmed automaton.
  lift_accepting : (i f : Q) (ms : List (Move Q Γ)) → Accepting A i ms f
      → (i' : Triple Q) × (ns : TrimmedMoves Q Γ) × (f' : Triple Q) × Accepting (trim A) i' ns f' × (now i' ≡ i) × (project ns ≡ ms)
  unfolding now
  lift_accepting i f ms r =
      let n = nested_of_run A r.runs in
      let b = balanced_of_nested A n in
      let l = top (record { begins = r.begins; balanced = b; ends = r.ends }) in
      let k = lift_nested n i f l same same in (
        triple i f i,
        k.0,
        triple i f f,
        record {
          begins = trimmed_initial (record { live = l; begun = same; ending = b }) r.begins r.ends;
          runs = k.2 [];
          ends = trimmed_final (record { live = l; begun = b; ending = same }) r.begins r.ends;
        },
        refl,
        k.1,
      )

-- Moves of the trimmed automaton over moves of the original.
data Over {Q Γ : Type 0} : List (Move Q Γ) → TrimmedMoves Q Γ → Type 0 where
  over_none : Over [] []
  over_plain : {o q p o' q' p' : Q} {a : ℕ} {ms : List (Move Q Γ)} {ns : TrimmedMoves Q Γ}
      → Over ms ns → Over (plain_move p a p' ∷ ms) (plain_move (triple o q p) a (triple o' q' p') ∷ ns)
  over_open : {o q p o' q' p' oᵐ qᵐ : Q} {a : ℕ} {γ : Γ} {ms : List (Move Q Γ)} {ns : TrimmedMoves Q Γ}
      → Over ms ns → Over (open_move p a γ p' ∷ ms) (open_move (triple o q p) a (mark_on γ oᵐ qᵐ) (triple o' q' p') ∷ ns)
  over_close : {o q p o' q' p' oᵐ qᵐ : Q} {a : ℕ} {γ : Γ} {ms : List (Move Q Γ)} {ns : TrimmedMoves Q Γ}
      → Over ms ns → Over (close_move p a γ p' ∷ ms) (close_move (triple o q p) a (mark_on γ oᵐ qᵐ) (triple o' q' p') ∷ ns)

over : {Q Γ : Type 0} (ns : TrimmedMoves Q Γ) → Over (project ns) ns
unfolding rename now bare
over [] = over_none
over (plain_move (triple o q p) a (triple o' q' p') ∷ ns) = over_plain (over ns)
over (open_move (triple o q p) a (mark_on γ oᵐ qᵐ) (triple o' q' p') ∷ ns) = over_open (over ns)
over (close_move (triple o q p) a (mark_on γ oᵐ qᵐ) (triple o' q' p') ∷ ns) = over_close (over ns)

over_is : {Q Γ : Type 0} {ms : List (Move Q Γ)} {ns : TrimmedMoves Q Γ} → Over ms ns → ms ≡ project ns
unfolding rename now bare
over_is over_none = refl
over_is (over_plain v) = ap₂ (λ m us. m ∷ us) refl (over_is v)
over_is (over_open v) = ap₂ (λ m us. m ∷ us) refl (over_is v)
over_is (over_close v) = ap₂ (λ m us. m ∷ us) refl (over_is v)

-- Stacks, and configurations, that agree but for the states in which their levels are to end.
data AlikeStacks {Q Γ : Type 0} : List (MarkOn Q Γ) → List (MarkOn Q Γ) → Type 0 where
  alike_none : AlikeStacks [] []
  alike_more : {γ₁ γ₂ : Γ} {o₁ o₂ q₁ q₂ : Q} {τ₁ τ₂ : List (MarkOn Q Γ)}
      → γ₁ ≡ γ₂ → o₁ ≡ o₂ → AlikeStacks τ₁ τ₂ → AlikeStacks (mark_on γ₁ o₁ q₁ ∷ τ₁) (mark_on γ₂ o₂ q₂ ∷ τ₂)

data Alike {Q Γ : Type 0} : Triple Q → List (MarkOn Q Γ) → Triple Q → List (MarkOn Q Γ) → Type 0 where
  alike : {o₁ o₂ q₁ q₂ p₁ p₂ : Q} {τ₁ τ₂ : List (MarkOn Q Γ)}
      → o₁ ≡ o₂ → p₁ ≡ p₂ → AlikeStacks τ₁ τ₂ → Alike (triple o₁ q₁ p₁) τ₁ (triple o₂ q₂ p₂) τ₂

module _ {Q Γ : Type 0} (A : Vpa Q Γ) where
  -- Two runs over the same moves from alike configurations to accepting ends are one: the ends decide the levels, from the last move back.
  over_once : {c₁ c₂ d₁ d₂ : Triple Q} {τ₁ τ₂ : List (MarkOn Q Γ)} {ms : List (Move Q Γ)} {ns₁ ns₂ : TrimmedMoves Q Γ}
      → Run (trim A) c₁ τ₁ ns₁ d₁ [] → Run (trim A) c₂ τ₂ ns₂ d₂ [] → Over ms ns₁ → Over ms ns₂ → TrimmedFinal A d₁ → TrimmedFinal A d₂ → Alike c₁ τ₁ c₂ τ₂
      → (c₁ ≡ c₂) × (τ₁ ≡ τ₂) × (ns₁ ≡ ns₂)
  unfolding rename now bare
  over_once run_done run_done over_none over_none (trimmed_final _ _ _) (trimmed_final _ _ _) (alike b e k) = ((cc), refl, refl)
  over_once (run_plain (trimmed_plain _ _ _) t₁) (run_plain (trimmed_plain _ _ _) t₂) (over_plain v₁) (over_plain v₂) f₁ f₂ (alike b e k) =
      let i = over_once t₁ t₂ v₁ v₂ f₁ f₂ (alike b refl k) in ((cc), (cc), (cc))
  over_once (run_open (trimmed_open _ _ _ _) t₁) (run_open (trimmed_open _ _ _ _) t₂) (over_open v₁) (over_open v₂) f₁ f₂ (alike b e k) =
      let i = over_once t₁ t₂ v₁ v₂ f₁ f₂ (alike refl refl (alike_more refl b k)) in ((cc), (cc), (cc))
  over_once (run_close (trimmed_close _ _ _ _ _) t₁) (run_close (trimmed_close _ _ _ _ _) t₂) (over_close v₁) (over_close v₂) f₁ f₂ (alike b e (alike_more g h k)) =
      let i = over_once t₁ t₂ v₁ v₂ f₁ f₂ (alike h refl k) in ((cc), (cc), (cc))
  over_once r₁ r₂ v₁ v₂ f₁ f₂ k = absurd (let e = sym (over_is v₁) ∙ over_is v₂ in let z : ◌≡◌ {A = ℕ} 0 1 = cc in omega arith)

  alike_initial : {i₁ i₂ : Triple Q} → TrimmedInitial A i₁ → TrimmedInitial A i₂ → now i₁ ≡ now i₂ → Alike {Γ = Γ} i₁ [] i₂ []
  unfolding now
  alike_initial (trimmed_initial _ _ _) (trimmed_initial _ _ _) e = alike e e alike_none

  accepting_once : (i₁ i₂ f₁ f₂ : Triple Q) (ns₁ ns₂ : TrimmedMoves Q Γ)
      → Accepting (trim A) i₁ ns₁ f₁ → Accepting (trim A) i₂ ns₂ f₂ → now i₁ ≡ now i₂ → project ns₁ ≡ project ns₂ → (i₁ ≡ i₂) × (ns₁ ≡ ns₂)
  accepting_once i₁ i₂ f₁ f₂ ns₁ ns₂ r₁ r₂ e k =
      let u = over_once r₁.runs r₂.runs (subst (λ ms. Over ms ns₁) k (over ns₁)) (over ns₂) r₁.ends r₂.ends (alike_initial r₁.begins r₂.begins e) in
      (u.0, u.2)

  -- The accepting runs of the trimmed automaton are those of the original, one for one, with the same letters and corresponding ends.
  pub trim_same_runs : SameRuns A (trim A) now bare
  trim_same_runs = same_runs A (trim A) now bare (project_accepting A) (lift_accepting A) accepting_once

  pub trim_same_logs : (w : List ℕ) → Accepts (trim A) w ↔ Accepts A w
  trim_same_logs = same_logs A (trim A) now bare trim_same_runs
