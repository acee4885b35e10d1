-- Automata that differ in the names of their states and marks: the same runs, one for one, hence the same logs.
use Prim.Native.Nat.{ℕ}
use mathlib.Core.Path.{◌≡◌, refl, sym, ap, ap₂, ◌∙◌, subst, subst₂}
use mathlib.Core.List.{List, [], ◌∷◌, map}
use mathlib.Core.Logic.{◌↔◌}
use Rattle.vpa.specs.Automaton.{Move, plain_move, open_move, close_move, letter, rename, spells, Vpa, Run, run_done, run_plain, run_open, run_close, Accepting, Accepts, SameRuns, Renames, WeaklyReduced}
use Rattle.vpa.proofs.Runs.{same_end}

-- A renaming that takes moves to moves takes runs to runs.
pub run_rename : {Q Γ Q' Γ' : Type 0} (A : Vpa Q Γ) (B : Vpa Q' Γ') (f : Q → Q') (u : Γ → Γ') → ((m : Move Q Γ) → A.Has m → B.Has (rename f u m))
    → {p q : Q} {σ τ : List Γ} {ms : List (Move Q Γ)} → Run A p σ ms q τ → Run B (f p) (map u σ) (map (rename f u) ms) (f q) (map u τ)
unfolding rename
run_rename A B f u k run_done = run_done
run_rename A B f u k (run_plain h t) = run_plain (k _ h) (run_rename A B f u k t)
run_rename A B f u k (run_open h t) = run_open (k _ h) (run_rename A B f u k t)
run_rename A B f u k (run_close h t) = run_close (k _ h) (run_rename A B f u k t)

-- It keeps the letters.
letter_rename : {Q Γ Q' Γ' : Type 0} (f : Q → Q') (u : Γ → Γ') (m : Move Q Γ) → letter (rename f u m) ≡ letter m
unfolding rename letter
letter_rename f u (plain_move p a q) = refl
letter_rename f u (open_move p a γ q) = refl
letter_rename f u (close_move p a γ q) = refl

pub spells_rename : {Q Γ Q' Γ' : Type 0} (f : Q → Q') (u : Γ → Γ') (ms : List (Move Q Γ)) → spells (map (rename f u) ms) ≡ spells ms
unfolding spells
spells_rename f u [] = refl
spells_rename f u (m ∷ ms) = ap₂ (λ a w. a ∷ w) (letter_rename f u m) (spells_rename f u ms)

-- The ends in `SameRuns` follow from the rest, since a run's start and moves decide its end.
pub same_runs : {Q Γ Q' Γ' : Type 0} (A : Vpa Q Γ) (B : Vpa Q' Γ') (f : Q' → Q) (u : Γ' → Γ)
    → ((i j : Q') (ns : List (Move Q' Γ')) → Accepting B i ns j → Accepting A (f i) (map (rename f u) ns) (f j))
    → ((i j : Q) (ms : List (Move Q Γ)) → Accepting A i ms j
    → (i' : Q') × (ns : List (Move Q' Γ')) × (j' : Q') × Accepting B i' ns j' × (f i' ≡ i) × (map (rename f u) ns ≡ ms))
    → ((i₁ i₂ j₁ j₂ : Q') (ns₁ ns₂ : List (Move Q' Γ')) → Accepting B i₁ ns₁ j₁ → Accepting B i₂ ns₂ j₂
    → f i₁ ≡ f i₂ → map (rename f u) ns₁ ≡ map (rename f u) ns₂ → (i₁ ≡ i₂) × (ns₁ ≡ ns₂))
    → SameRuns A B f u
same_runs A B f u down up once = record {
  projects = λ {i} {j} {ns} r. down i j ns r;
  lifts = λ {i} {j} {ms} r. let k = up i j ms r in
      let back = subst₂ (λ s ns. Run A s [] ns (f k.2) []) k.4 k.5 (down _ _ _ k.3).runs in
      (k.0, k.1, k.2, k.3, k.4, k.5, (same_end A back r.runs).0);
  once = λ {i₁} {i₂} {j₁} {j₂} {ns₁} {ns₂} r₁ r₂ e k. let l = once i₁ i₂ j₁ j₂ ns₁ ns₂ r₁ r₂ e k in
      (l.0, l.1, (same_end B (subst₂ (λ s ns. Run B s [] ns j₁ []) l.0 l.1 r₁.runs) r₂.runs).0);
}

-- A renaming forth and back that is the identity on each move is so on a run's moves.
run_back : {Q Γ Q' Γ' : Type 0} (A : Vpa Q Γ) (f : Q → Q') (u : Γ → Γ') (g : Q' → Q) (v : Γ' → Γ) → ((m : Move Q Γ) → A.Has m → rename g v (rename f u m) ≡ m)
    → {p q : Q} {σ τ : List Γ} {ms : List (Move Q Γ)} → Run A p σ ms q τ → map (rename g v) (map (rename f u) ms) ≡ ms
run_back A f u g v k run_done = refl
run_back A f u g v k (run_plain h t) = ap₂ (λ m ns. m ∷ ns) (k _ h) (run_back A f u g v k t)
run_back A f u g v k (run_open h t) = ap₂ (λ m ns. m ∷ ns) (k _ h) (run_back A f u g v k t)
run_back A f u g v k (run_close h t) = ap₂ (λ m ns. m ∷ ns) (k _ h) (run_back A f u g v k t)

module _ {Q Γ Q' Γ' : Type 0} (A : Vpa Q Γ) (B : Vpa Q' Γ') (f : Q' → Q) (u : Γ' → Γ) (g : Q → Q') (v : Γ → Γ') (n : Renames A B f u g v) where
  pub renamed_same_runs : SameRuns A B f u
  renamed_same_runs = same_runs A B f u
      (λ i j ns r. record { begins = n.initial_down i r.begins; runs = run_rename B A f u n.down r.runs; ends = n.final_down j r.ends })
      (λ i j ms r. (
        g i,
        map (rename g v) ms,
        g j,
        record { begins = n.initial_up i r.begins; runs = run_rename A B g v n.up r.runs; ends = n.final_up j r.ends },
        n.initial_there i r.begins,
        run_back A g v f u n.there r.runs,
      ))
      (λ i₁ i₂ j₁ j₂ ns₁ ns₂ r₁ r₂ e k. (
        sym (n.initial_back i₁ r₁.begins) ∙ (ap g e ∙ n.initial_back i₂ r₂.begins),
        sym (run_back B f u g v n.back r₁.runs) ∙ (ap (map (rename g v)) k ∙ run_back B f u g v n.back r₂.runs),
      ))

-- One for one, twice.
map_rename : {Q Γ Q' Γ' Q'' Γ'' : Type 0} (f : Q' → Q) (u : Γ' → Γ) (g : Q'' → Q') (v : Γ'' → Γ') (ms : List (Move Q'' Γ''))
    → map (rename f u) (map (rename g v) ms) ≡ map (rename (λ q. f (g q)) (λ γ. u (v γ))) ms
unfolding rename
map_rename f u g v [] = refl
map_rename f u g v (plain_move p a q ∷ ms) = ap (λ ns. plain_move (f (g p)) a (f (g q)) ∷ ns) (map_rename f u g v ms)
map_rename f u g v (open_move p a γ q ∷ ms) = ap (λ ns. open_move (f (g p)) a (u (v γ)) (f (g q)) ∷ ns) (map_rename f u g v ms)
map_rename f u g v (close_move p a γ q ∷ ms) = ap (λ ns. close_move (f (g p)) a (u (v γ)) (f (g q)) ∷ ns) (map_rename f u g v ms)

pub same_runs_trans : {Q Γ Q' Γ' Q'' Γ'' : Type 0} (A : Vpa Q Γ) (B : Vpa Q' Γ') (C : Vpa Q'' Γ'') (f : Q' → Q) (u : Γ' → Γ) (g : Q'' → Q') (v : Γ'' → Γ')
    → SameRuns A B f u → SameRuns B C g v → SameRuns A C (λ q. f (g q)) (λ γ. u (v γ))
same_runs_trans A B C f u g v m n = same_runs A C (λ q. f (g q)) (λ γ. u (v γ))
    (λ i j ns r. subst (λ ms. Accepting A (f (g i)) ms (f (g j))) (map_rename f u g v ns) (m.projects (n.projects r)))
    (λ i j ms r. let k = m.lifts r in let l = n.lifts k.3 in
    (l.0, l.1, l.2, l.3, ap f l.4 ∙ k.4, sym (map_rename f u g v l.1) ∙ (ap (map (rename f u)) l.5 ∙ k.5)))
    (λ i₁ i₂ j₁ j₂ ns₁ ns₂ r₁ r₂ e k.
    let l = m.once (n.projects r₁) (n.projects r₂) e (map_rename f u g v ns₁ ∙ (k ∙ sym (map_rename f u g v ns₂))) in
    let o = n.once r₁ r₂ l.0 l.1 in (o.0, o.1))

module _ {Q Γ Q' Γ' : Type 0} (A : Vpa Q Γ) (B : Vpa Q' Γ') (f : Q' → Q) (u : Γ' → Γ) (n : SameRuns A B f u) where
  -- Automata with the same accepting runs accept the same logs.
  pub same_logs : (w : List ℕ) → Accepts B w ↔ Accepts A w
  same_logs w = (
    λ r. record { first = f r.first; moves = map (rename f u) r.moves; last = f r.last; accepting = n.projects r.accepting; spelt = spells_rename f u r.moves ∙ r.spelt },
    λ r. let k = n.lifts r.accepting in
        record { first = k.0; moves = k.1; last = k.2; accepting = k.3; spelt = sym (spells_rename f u k.1) ∙ (ap spells k.5 ∙ r.spelt) },
  )

-- An automaton is weakly reduced if one that differs in names only is.
pub renamed_weakly_reduced : {Q Γ Q' Γ' : Type 0} (A : Vpa Q Γ) (B : Vpa Q' Γ') (f : Q' → Q) (u : Γ' → Γ) (g : Q → Q') (v : Γ → Γ')
    → Renames A B f u g v → WeaklyReduced A → WeaklyReduced B
renamed_weakly_reduced A B f u g v n red = record {
  completes = λ {w} {q} {σ} r.
      let t = run_rename B A f u n.down r.runs in
      let k = red.completes (record { first = f r.first; moves = map (rename f u) r.moves; begins = n.initial_down r.first r.begins; runs = t; spelt = refl }) in
      let back = subst₂ (λ s ns. Run B s [] ns (g (f q)) (map v (map u σ))) (n.initial_back r.first r.begins) (run_back B f u g v n.back r.runs) (run_rename A B g v n.up t) in
      let e = same_end B back r.runs in
      record {
        moves = map (rename g v) k.moves;
        last = g k.last;
        runs = subst₂ (λ c τ. Run B c τ (map (rename g v) k.moves) (g k.last) []) e.0 e.1 (run_rename A B g v n.up k.runs);
        ends = n.final_up k.last k.ends;
      };
}
