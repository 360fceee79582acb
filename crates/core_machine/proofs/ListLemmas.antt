-- Lists: one item is set, two stand in a row, one stands alone.
use Rattle.std.proofs.Common.{◌≡◌, ◌≢◌, ℕ, zero, suc, ◌+◌, ◌<◌, ◌≤◌, ◌++◌, ◌∷◌, [], ◌⊎◌, length, List, Bool, true, false, cond, Some, get_or, set, refl, sym, ap, ◌∙◌, subst, arith, inl, inr}
use Rattle.std.specs.Prelude.{slice_get}
use Rattle.std.specs.List.{All, count_by}
use Rattle.std.proofs.lemmas.List.Elements.{All-nil, All-cons}
use Rattle.std.proofs.lemmas.Bool.{cases_Bool}
use Rattle.std.proofs.lemmas.List.Sums.{sum_by-cons, sum_by-set}
use Rattle.std.proofs.lemmas.Option.{slice_get_within, get_or_from_slice_get}
pub use Rattle.history.proofs.ListLemmas.{get_set_same, get_set_other, get_append}

-- what stands at d afterwards
pub get_set : {X : Type 0} (xs : List X) (c d : ℕ) (x y : X) → slice_get (set xs c x) d ≡ Some y → ((d ≡ c) × (x ≡ y)) ⊎ ((d ≢ c) × (slice_get xs d ≡ Some y))
get_set [] c d x y e = absurd cc
get_set (w ∷ xs) zero zero x y e = inl (refl, cc)
get_set (w ∷ xs) zero (suc d) x y e = inr (λ same. omega (arith, same), e)
get_set (w ∷ xs) (suc c) zero x y e = inr (λ same. omega (arith, same), e)
get_set (w ∷ xs) (suc c) (suc d) x y e =
    elim (get_set xs c d x y e) [
      | inl here ↦ inl (ap suc here.0, here.1)
      | inr there ↦ inr (λ same. there.0 (omega (arith, same)), there.1)
    ]

-- what holds of the new item and of each other one
pub each_set : {X : Type 0} (P : ℕ → X → Type 0) (xs : List X) (c : ℕ) (x : X) → P c x → ((d : ℕ) (y : X) → d ≢ c → slice_get xs d ≡ Some y → P d y) → (d : ℕ) (y : X) → slice_get (set xs c x) d ≡ Some y → P d y
each_set P xs c x here away d y there =
    elim (get_set xs c d x y there) [
      | inl same ↦ subst (P d) same.1 (subst (λ (n : ℕ). P n x) (sym same.0) here)
      | inr other ↦ away d y other.0 other.1
    ]

pub get_set_here : {X : Type 0} (xs : List X) (c : ℕ) (a x : X) → slice_get xs c ≡ Some a → slice_get (set xs c x) c ≡ Some x
get_set_here xs c a x at = get_set_same xs c x (slice_get_within xs c a at)

pub get_front : {X : Type 0} (xs ys : List X) (k : ℕ) (v : X) → slice_get xs k ≡ Some v → slice_get (xs ++ ys) k ≡ Some v
get_front [] ys k v there = absurd cc
get_front (x ∷ xs) ys zero v there = there
get_front (x ∷ xs) ys (suc k) v there = get_front xs ys k v there

abbrev pub one : Bool → ℕ
one b = cond b 1 0

-- how many pass a test afterwards
pub count_set : {X : Type 0} (p : X → Bool) (xs : List X) (c : ℕ) (old new : X) → slice_get xs c ≡ Some old → count_by p (set xs c new) + one (p old) ≡ count_by p xs + one (p new)
count_set {X = X} p xs c old new at =
    let here : get_or xs c old ≡ old = get_or_from_slice_get xs c old old at in
    ap (λ (x : X). count_by p (set xs c new) + one (p x)) (sym here) ∙ sum_by-set (λ x. one (p x)) xs c new old (slice_get_within xs c old at)

pub count_cons : {X : Type 0} (p : X → Bool) (xs : List X) (x : X) → count_by p (x ∷ xs) ≡ one (p x) + count_by p xs
count_cons p xs x = sum_by-cons (λ y. one (p y)) x xs

pub some_pass : {X : Type 0} (p : X → Bool) (xs : List X) (c : ℕ) (a : X) → slice_get xs c ≡ Some a → p a ≡ true → 1 ≤ count_by p xs
some_pass p [] c a at passes = absurd cc
some_pass p (x ∷ xs) zero a at passes = let first : one (p x) ≡ 1 = (let same : x ≡ a = cc in rw (same, passes) refl) in omega (arith, first, count_cons p xs x)
some_pass p (x ∷ xs) (suc c) a at passes = omega (arith, some_pass p xs c a at passes, count_cons p xs x)

-- where fewer than two pass, they are one
pub pass_once : {X : Type 0} (p : X → Bool) (xs : List X) (c d : ℕ) (a y : X) → count_by p xs < 2 → slice_get xs c ≡ Some a → slice_get xs d ≡ Some y → p a ≡ true → p y ≡ true → d ≡ c
pass_once p [] c d a y few at there first second = absurd cc
pass_once p (x ∷ xs) zero zero a y few at there first second = refl
pass_once p (x ∷ xs) zero (suc d) a y few at there first second =
    let here : one (p x) ≡ 1 = (let same : x ≡ a = cc in rw (same, first) refl) in absurd (omega (arith, few, here, count_cons p xs x, some_pass p xs d y there second))
pass_once p (x ∷ xs) (suc c) zero a y few at there first second =
    let here : one (p x) ≡ 1 = (let same : x ≡ y = cc in rw (same, second) refl) in absurd (omega (arith, few, here, count_cons p xs x, some_pass p xs c a at first))
pass_once p (x ∷ xs) (suc c) (suc d) a y few at there first second = ap suc (pass_once p xs c d a y (omega (arith, few, count_cons p xs x)) at there first second)

pub count_none : {X : Type 0} (p : X → Bool) (xs : List X) → ((d : ℕ) (y : X) → slice_get xs d ≡ Some y → p y ≡ false) → count_by p xs ≡ 0
count_none p [] none = refl
count_none p (x ∷ xs) none =
    let here : one (p x) ≡ 0 = ap one (none 0 x refl) in omega (arith, here, count_cons p xs x, count_none p xs (λ d y there. none (suc d) y there))

-- at most one passes: how many do
pub count_alone : {X : Type 0} (p : X → Bool) (xs : List X) (c : ℕ) (a : X) → slice_get xs c ≡ Some a → ((d : ℕ) (y : X) → d ≢ c → slice_get xs d ≡ Some y → p y ≡ false) → count_by p xs ≡ one (p a)
count_alone p [] c a at others = absurd cc
count_alone p (x ∷ xs) zero a at others =
    let here : one (p x) ≡ one (p a) = (let same : x ≡ a = cc in ap (λ z. one (p z)) same) in
    omega (arith, here, count_cons p xs x, count_none p xs (λ d y there. others (suc d) y (λ e. omega (arith, e)) there))
count_alone p (x ∷ xs) (suc c) a at others =
    let here : one (p x) ≡ 0 = ap one (others 0 x (λ e. omega (arith, e)) refl) in
    omega (arith, here, count_cons p xs x, count_alone p xs c a at (λ d y apart there. others (suc d) y (λ e. apart (omega (arith, e))) there))

pub some_or_none : {X : Type 0} (p : X → Bool) (xs : List X) → (count_by p xs ≡ 0) ⊎ ((c : ℕ) × (x : X) × (slice_get xs c ≡ Some x) × (p x ≡ true))
some_or_none p [] = inl refl
some_or_none p (x ∷ xs) =
    elim (cases_Bool (p x)) [
      | inl passes ↦ inr (0, x, refl, passes)
      | inr fails ↦ elim (some_or_none p xs) [
        | inl none ↦ inl (let here : one (p x) ≡ 0 = ap one fails in omega (arith, here, none, count_cons p xs x))
        | inr some ↦ inr (suc some.0, some.1, some.2, some.3)
      ]
    ]

pub none_passes : {X : Type 0} (p : X → Bool) (xs : List X) (c : ℕ) (x : X) → count_by p xs ≡ 0 → slice_get xs c ≡ Some x → p x ≡ false
none_passes p xs c x none there =
    elim (cases_Bool (p x)) [ inr fails ↦ fails | inl passes ↦ absurd (let some = some_pass p xs c x there passes in omega (arith, none, some)) ]

pub all_one : {X : Type 0} (P : X → Type 0) (x : X) → P x → All P (x ∷ [])
all_one P x here = All-cons P x [] here (All-nil P)

pub get_last : {X : Type 0} (xs ys : List X) (v : X) → ys ≡ v ∷ [] → slice_get (xs ++ ys) (length xs) ≡ Some v
get_last [] ys v is = rw is refl
get_last (x ∷ xs) ys v is = get_last xs ys v is
