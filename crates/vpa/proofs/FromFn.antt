-- What `std::array::from_fn` makes, where each call of the closure leaves it as it was.
use Prim.Native.Nat.{ℕ, zero, suc, ◌+◌, ◌≤◌, ◌<◌}
use mathlib.Core.List.{List}
use mathlib.Core.Path.{◌≡◌, refl, sym, subst}
use native.Mathlib.Decide.{ℕ_discrete}
use native.Mathlib.Omega.{arith}
use denote.Param.Members.{Mut}
use lib.ListN.{get_or}
use Rattle.std.specs.Fn.{Called}
use Rattle.std.specs.Array.{IsFromFnResult, IsFromFnResultFrom}

module _ {F B : Type 0} {g : Mut F (ℕ × Unit {0}) B} {f : F} (P : ℕ → B → Type 0) (call : (i : ℕ) (y : B) (q : F) → Called g f (i, tt) y q → (q ≡ f) × P i y) where
  made_from : (n i : ℕ) (p : F) (ys : List B) → p ≡ f → IsFromFnResultFrom g p ys i n → (d : B) (j : ℕ) → i ≤ j → j < i + n → P j (get_or ys j d)
  made_from zero i p ys e m d j l k = absurd (omega arith)
  made_from (suc n) i p ys e m d j l k =
      let c = call i m.1 m.0 (subst (λ q. Called g q (i, tt) m.1 m.0) e m.3) in
      go c (made_from n (i + 1) m.0 ys c.0 m.4 d j) (ℕ_discrete i j)
    where
      go : (m.0 ≡ f) × P i m.1 → (i + 1 ≤ j → j < i + 1 + n → P j (get_or ys j d)) → Dec (i ≡ j) → P j (get_or ys j d)
      go c r (yes q) = subst (λ a. P a (get_or ys a d)) q (subst (P i) (sym (m.2.1 d)) c.1)
      go c r (no q) = r (omega arith) (omega arith)

  -- P holds of the element at each place, where it holds of what the closure gives.
  pub made_each : {n : ℕ} {ys : List B} → IsFromFnResult g f ys n → (d : B) (j : ℕ) → j < n → P j (get_or ys j d)
  made_each {n} {ys} m d j l = made_from n 0 f ys refl m.each d j (omega arith) (omega arith)

-- Where the closure gives h of the place, so does the array.
pub made_by : {F B : Type 0} {g : Mut F (ℕ × Unit {0}) B} {f : F} (h : ℕ → B) → ((i : ℕ) (y : B) (q : F) → Called g f (i, tt) y q → (q ≡ f) × (y ≡ h i))
    → {n : ℕ} {ys : List B} → IsFromFnResult g f ys n → (d : B) (j : ℕ) → j < n → get_or ys j d ≡ h j
made_by h = made_each (λ i y. y ≡ h i)
