-- Runs compose and stand over any stack. Those that begin and end with the empty stack are the nested ones; balanced pairs are their ends, and their lengths
-- the lengths of the pairs.
use Prim.Native.Nat.{ℕ, suc, ◌+◌}
use native.Mathlib.Omega.{arith}
use mathlib.Core.Path.{◌≡◌, refl, subst}
use mathlib.Core.List.{List, [], ◌∷◌, ◌++◌, append_assoc, map-append}
use mathlib.Core.Logic.{◌↔◌}
use lib.ListN.{length, length-append}
use Rattle.vpa.specs.Automaton.{Move, plain_move, open_move, close_move, letter, Vpa, Run, run_done, run_plain, run_open, run_close, Accepting, WeaklyReduced, spells}
use Rattle.vpa.specs.PairsLevelsTrimmed.{Balanced, same, join, step, nest, Nested, empty, flat, deep}
use Rattle.vpa.specs.Shortest.{BalancedIn, same_in, join_in, step_in, nest_in}

pub spells_append : {Q Γ : Type 0} (u v : List (Move Q Γ)) → spells (u ++ v) ≡ spells u ++ spells v
unfolding spells
spells_append u v = map-append letter u v

module _ {Q Γ : Type 0} (A : Vpa Q Γ) where
  -- Runs compose.
  pub run_append : {p q r : Q} {σ τ ρ : List Γ} {u v : List (Move Q Γ)}
      → Run A p σ u q τ → Run A q τ v r ρ → Run A p σ (u ++ v) r ρ
  run_append run_done k = k
  run_append (run_plain h t) k = run_plain h (run_append t k)
  run_append (run_open h t) k = run_open h (run_append t k)
  run_append (run_close h t) k = run_close h (run_append t k)

  -- A run stays one over any stack below.
  pub run_over : {p q : Q} {σ τ : List Γ} {u : List (Move Q Γ)} (ρ : List Γ)
      → Run A p σ u q τ → Run A p (σ ++ ρ) u q (τ ++ ρ)
  run_over ρ run_done = run_done
  run_over ρ (run_plain h t) = run_plain h (run_over ρ t)
  run_over ρ (run_open h t) = run_open h (run_over ρ t)
  run_over ρ (run_close h t) = run_close h (run_over ρ t)

  -- Equal moves from one configuration end alike. Both configurations and both lists have names of their own, since a run is matched at free indices.
  same_end_at : {p p' q q' : Q} {σ σ' τ τ' : List Γ} {u u' : List (Move Q Γ)}
      → Run A p σ u q τ → Run A p' σ' u' q' τ' → p ≡ p' → σ ≡ σ' → u ≡ u' → (q ≡ q') × (τ ≡ τ')
  same_end_at run_done run_done e s w = (e, s)
  same_end_at (run_plain h t) (run_plain h' t') e s w = same_end_at t t' (cc) s (cc)
  same_end_at (run_open h t) (run_open h' t') e s w = same_end_at t t' (cc) (cc) (cc)
  same_end_at (run_close h t) (run_close h' t') e s w = same_end_at t t' (cc) (cc) (cc)
  same_end_at r r' e s w = absurd (let z : ◌≡◌ {A = ℕ} 0 1 = cc in omega arith)

  pub same_end : {p q q' : Q} {σ τ τ' : List Γ} {u : List (Move Q Γ)} → Run A p σ u q τ → Run A p σ u q' τ' → (q ≡ q') × (τ ≡ τ')
  same_end r r' = same_end_at r r' refl refl refl

-- What a run that ends on the empty stack has ahead of it: a nested part, then the close of the top mark, and so on down.
data Descends {Q Γ : Type 0} (A : Vpa Q Γ) : Q → List Γ → List (Move Q Γ) → Q → Type 0 where
  bottom : {p q : Q} {ms : List (Move Q Γ)} → Nested A p ms q → Descends A p [] ms q
  down : {p q s r : Q} {b : ℕ} {γ : Γ} {σ : List Γ} {ms ns : List (Move Q Γ)}
      → Nested A p ms q → A.Has (close_move q b γ s) → Descends A s σ ns r
      → Descends A p (γ ∷ σ) (ms ++ (close_move q b γ s ∷ ns)) r

module _ {Q Γ : Type 0} (A : Vpa Q Γ) where
  flat_down : {p q r : Q} {a : ℕ} {σ : List Γ} {ms : List (Move Q Γ)}
      → A.Has (plain_move p a q) → Descends A q σ ms r → Descends A p σ (plain_move p a q ∷ ms) r
  flat_down h (bottom n) = bottom (flat h n)
  flat_down h (down n c d) = down (flat h n) c d

  deep_down : {p p' r : Q} {a : ℕ} {γ : Γ} {σ : List Γ} {ms : List (Move Q Γ)}
      → A.Has (open_move p a γ p') → Descends A p' (γ ∷ σ) ms r → Descends A p σ (open_move p a γ p' ∷ ms) r
  deep_down h (down n c (bottom n')) = bottom (deep h n c n')
  deep_down h (down n c (down n' c' d)) = rw append_assoc at (down (deep h n c n') c' d)

  descends : {p q : Q} {σ : List Γ} {ms : List (Move Q Γ)} → Run A p σ ms q [] → Descends A p σ ms q
  descends run_done = bottom empty
  descends (run_plain h t) = flat_down h (descends t)
  descends (run_open h t) = deep_down h (descends t)
  descends (run_close h t) = down empty h (descends t)

  -- The runs between empty stacks are the nested ones, move by move; and nested moves are a run over any stack.
  pub nested_of_run : {p q : Q} {ms : List (Move Q Γ)} → Run A p [] ms q [] → Nested A p ms q
  nested_of_run t = go (descends t)
    where
      go : {p q : Q} {ms : List (Move Q Γ)} → Descends A p [] ms q → Nested A p ms q
      go (bottom n) = n

  pub run_of_nested : {p q : Q} {ms : List (Move Q Γ)} (σ : List Γ) → Nested A p ms q → Run A p σ ms q σ
  run_of_nested σ empty = run_done
  run_of_nested σ (flat h n) = run_plain h (run_of_nested σ n)
  run_of_nested σ (deep {γ = γ} h n c n') = run_open h (run_append A (run_of_nested (γ ∷ σ) n) (run_close c (run_of_nested σ n')))

  pub nested_iff_run : (p q : Q) (ms : List (Move Q Γ)) → Nested A p ms q ↔ Run A p [] ms q []
  nested_iff_run p q ms = (λ n. run_of_nested [] n, λ r. nested_of_run r)

  -- Nested moves, counted, are a length of the pair; and a length of a pair is that of a run, over any stack.
  in_of_nested : {p q : Q} {ms : List (Move Q Γ)} → Nested A p ms q → BalancedIn A p q (length ms)
  in_of_nested empty = same_in
  in_of_nested (flat {ms = ms} h n) = join_in {k = suc (length ms)} (step_in h) (in_of_nested n) (omega arith)
  in_of_nested (deep {q = q} {s = s} {b = b} {γ = γ} {ms = ms} {ns = ns} h n c n') =
      join_in {n = length ms + 2} {k = suc (length (ms ++ (close_move q b γ s ∷ ns)))} (nest_in {k = length ms + 2} h (in_of_nested n) c refl) (in_of_nested n')
      (omega (arith, length-append ms (close_move q b γ s ∷ ns)))

  pub run_of_in : {p q : Q} {n : ℕ} → BalancedIn A p q n → (ms : List (Move Q Γ)) × (length ms ≡ n) × ((σ : List Γ) → Run A p σ ms q σ)
  run_of_in same_in = ([], refl, λ σ. run_done)
  run_of_in (join_in b c e) = let k = run_of_in b in let l = run_of_in c in
      (k.0 ++ l.0, omega (arith, length-append k.0 l.0, k.1, l.1), λ σ. run_append A (k.2 σ) (l.2 σ))
  run_of_in (step_in {p} {q} {a} h) = (plain_move p a q ∷ [], refl, λ σ. run_plain h run_done)
  run_of_in (nest_in {p'} {p} {q} {q'} {a} {b} {γ} h n c e) = let k = run_of_in n in (
    open_move p' a γ p ∷ (k.0 ++ (close_move q b γ q' ∷ [])),
    omega (arith, length-append k.0 (close_move q b γ q' ∷ []), k.1),
    λ σ. run_open h (run_append A (k.2 (γ ∷ σ)) (run_close c run_done)),
  )

  pub balanced_in_iff_run : (p q : Q) (n : ℕ) → BalancedIn A p q n ↔ ((ms : List (Move Q Γ)) × (length ms ≡ n) × Run A p [] ms q [])
  balanced_in_iff_run p q n = (λ t. let k = run_of_in t in (k.0, k.1, k.2 []), λ r. subst (BalancedIn A p q) r.1 (in_of_nested (nested_of_run r.2)))

  -- A pair is balanced exactly if it has a length.
  balanced_of_in : {p q : Q} {n : ℕ} → BalancedIn A p q n → Balanced A p q
  balanced_of_in same_in = same
  balanced_of_in (join_in b c e) = join (balanced_of_in b) (balanced_of_in c)
  balanced_of_in (step_in h) = step h
  balanced_of_in (nest_in h n c e) = nest h (balanced_of_in n) c

  in_of_balanced : {p q : Q} → Balanced A p q → (n : ℕ) × BalancedIn A p q n
  in_of_balanced same = (0, same_in)
  in_of_balanced (join b c) = let k = in_of_balanced b in let l = in_of_balanced c in (k.0 + l.0, join_in {k = k.0 + l.0} k.1 l.1 refl)
  in_of_balanced (step h) = (1, step_in h)
  in_of_balanced (nest h n c) = let k = in_of_balanced n in (k.0 + 2, nest_in {k = k.0 + 2} h k.1 c refl)

  pub balanced_iff_in : (p q : Q) → Balanced A p q ↔ ((n : ℕ) × BalancedIn A p q n)
  balanced_iff_in p q = (in_of_balanced, λ r. balanced_of_in r.1)

  -- A balanced pair has a run, over any stack.
  pub run_of_balanced : {p q : Q} → Balanced A p q → (ms : List (Move Q Γ)) × ((σ : List Γ) → Run A p σ ms q σ)
  run_of_balanced b = let k = run_of_in (in_of_balanced b).1 in (k.0, k.2)

  pub nested_of_balanced : {p q : Q} → Balanced A p q → (ms : List (Move Q Γ)) × Nested A p ms q
  nested_of_balanced b = let k = run_of_balanced b in (k.0, nested_of_run (k.1 []))

  pub balanced_of_nested : {p q : Q} {ms : List (Move Q Γ)} → Nested A p ms q → Balanced A p q
  balanced_of_nested n = balanced_of_in (in_of_nested n)

  -- A pair is balanced exactly if a run leads from one state to the other, the stack empty at both ends.
  pub balanced_iff_run : (p q : Q) → Balanced A p q ↔ ((ms : List (Move Q Γ)) × Run A p [] ms q [])
  balanced_iff_run p q = (λ b. let k = run_of_balanced b in (k.0, k.1 []), λ r. balanced_of_nested (nested_of_run r.1))

-- In a weakly reduced automaton every run from an initial state goes on to an accepting one.
pub completed : {Q Γ : Type 0} (A : Vpa Q Γ) → WeaklyReduced A → {i c : Q} {τ : List Γ} {ms : List (Move Q Γ)} → A.Initial i → Run A i [] ms c τ
    → (ns : List (Move Q Γ)) × (f : Q) × Accepting A i (ms ++ ns) f
completed A red {i} {ms = ms} b t =
    let k = red.completes (record { first = i; moves = ms; begins = b; runs = t; spelt = refl }) in
    (k.moves, k.last, record { begins = b; runs = run_append A t k.runs; ends = k.ends })
