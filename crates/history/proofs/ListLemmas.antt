-- Lists: what is at a place of a list that was set, or that stands after another.
use Rattle.std.proofs.Common.{◌≡◌, ◌≢◌, ◌⊎◌, ℕ, zero, suc, ◌+◌, ◌<◌, ◌++◌, ◌∷◌, [], List, length, set, Some, refl, ap, arith, inl, inr}
use Rattle.std.specs.Prelude.{slice_get}

pub get_set_same : {X : Type 0} (xs : List X) (c : ℕ) (x : X) → c < length xs → slice_get (set xs c x) c ≡ Some x
get_set_same [] c x within = absurd (omega arith)
get_set_same (w ∷ xs) zero x within = refl
get_set_same (w ∷ xs) (suc c) x within = get_set_same xs c x (omega (arith, within))

pub get_set_other : {X : Type 0} (xs : List X) (c d : ℕ) (x : X) → d ≢ c → slice_get (set xs c x) d ≡ slice_get xs d
get_set_other [] c d x other = refl
get_set_other (w ∷ xs) zero zero x other = absurd (other refl)
get_set_other (w ∷ xs) zero (suc d) x other = refl
get_set_other (w ∷ xs) (suc c) zero x other = refl
get_set_other (w ∷ xs) (suc c) (suc d) x other = get_set_other xs c d x (λ same. other (ap suc same))

-- what is in two lists in a row
pub get_append : {X : Type 0} (xs ys : List X) (k : ℕ) (v : X) → slice_get (xs ++ ys) k ≡ Some v → ((k < length xs) × (slice_get xs k ≡ Some v)) ⊎ ((i : ℕ) × (k ≡ length xs + i) × (slice_get ys i ≡ Some v))
get_append [] ys k v there = inr (k, omega arith, there)
get_append (x ∷ xs) ys zero v there = inl (omega arith, there)
get_append (x ∷ xs) ys (suc k) v there =
    elim (get_append xs ys k v there) [
      | inl front ↦ inl (omega (arith, front.0), front.1)
      | inr back ↦ inr (back.0, omega (arith, back.1), back.2)
    ]
