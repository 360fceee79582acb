-- Lemmas on lists of walks, oldest first.
use Rattle.std.proofs.Common.{◌≡◌, ℕ, ◌-◌, ◌≤◌, Bool, List, [], ◌∷◌, ◌++◌, length, drop, map, reverse, Option, Some, None, true, false, cond, MatchOption, IfSome, IfNone, refl, sym, ap, ◌∙◌, subst, arith, if◌then◌else◌}
use Rattle.std.specs.List.{find, All}
use Rattle.std.specs.Option.{option_or, option_map}
use Rattle.std.proofs.lemmas.List.Folds.{find-append}
use Rattle.std.proofs.lemmas.List.Elements.{All-nil, All-cons}
use Rattle.std.proofs.lemmas.List.{reverse-append, drop-append-le, drop-drop, length-drop, length-append, length-map, drop-map, append-nil, append_assoc}
use Rattle.walk_cache.specs.declared.walk.Walk.{Walk}
use Rattle.walk_cache.specs.Rings.{covers, newest_by, newest_of, last_of, noted, all_noted, IsLastCovering}

-- ---- the newest that covers an address

-- of two lists, one after the other
newest_by_parts : {A : Type 0} (test : A → Bool) (xs ys : List A) → newest_by test (xs ++ ys) ≡ option_or (newest_by test ys) (newest_by test xs)
newest_by_parts {A = A} test xs ys =
    subst (λ (l : List A). find test l ≡ option_or (newest_by test ys) (newest_by test xs)) (sym (reverse-append xs ys)) (find-append test (reverse ys) (reverse xs))

pub newest_of_parts : (xs ys : List Walk) (pa : ℕ) → newest_of (xs ++ ys) pa ≡ option_or (newest_of ys pa) (newest_of xs pa)
newest_of_parts xs ys pa = newest_by_parts (λ w. covers w pa) xs ys

-- by a test of what is read of each
or_map : {A B : Type 0} (f : A → B) (a b : Option A) → option_or (option_map f a) (option_map f b) ≡ option_map f (option_or a b)
or_map f None b = refl
or_map f (Some x) b = refl

one_map : {A B : Type 0} (f : A → B) (b : Bool) (x : A) → cond b (Some (f x)) None ≡ option_map f (cond b (Some x) None)
one_map f true x = refl
one_map f false x = refl

pub newest_map : {A B : Type 0} (f : A → B) (test : B → Bool) (xs : List A) → newest_by test (map f xs) ≡ option_map f (newest_by (λ x. test (f x)) xs)
newest_map f test [] = refl
newest_map {A = A} {B = B} f test (x ∷ xs) =
    let read : A → Bool = λ y. test (f y) in
    newest_by_parts test (f x ∷ []) (map f xs)
    ∙ ap (λ (o : Option B). option_or o (newest_by test (f x ∷ []))) (newest_map f test xs)
    ∙ ap (λ (o : Option B). option_or (option_map f (newest_by read xs)) o) (one_map f (test (f x)) x)
    ∙ or_map f (newest_by read xs) (newest_by read (x ∷ []))
    ∙ ap (option_map f) (sym (newest_by_parts read (x ∷ []) xs))

abbrev Finds : List Walk → ℕ → Option Walk → Type 0
Finds walks pa r = MatchOption r (All (λ w. covers w pa ≡ false) walks) (λ w. IsLastCovering walks pa w)

finds_more : (x : Walk) (xs : List Walk) (pa : ℕ) (r : Option Walk) (b : Bool) → covers x pa ≡ b → Finds xs pa r → Finds (x ∷ xs) pa (option_or r (cond b (Some x) None))
finds_more x xs pa (Some w) b is f = record {
  earlier = x ∷ f.earlier;
  later = f.later;
  parts = ap (λ l. x ∷ l) f.parts;
  here = f.here;
  not_later = f.not_later;
}
finds_more x xs pa None true is f =
    record { earlier = []; later = xs; parts = refl; here = is; not_later = f }
finds_more x xs pa None false is f = All-cons (λ w. covers w pa ≡ false) x xs is f

pub finds : (walks : List Walk) (pa : ℕ) → Finds walks pa (newest_of walks pa)
finds [] pa = All-nil (λ w. covers w pa ≡ false)
finds (x ∷ xs) pa =
    subst (Finds (x ∷ xs) pa) (sym (newest_of_parts (x ∷ []) xs pa))
    (finds_more x xs pa (newest_of xs pa) (covers x pa) refl (finds xs pa))

pub if_found : (walks : List Walk) (pa : ℕ) (r : Option Walk) → r ≡ newest_of walks pa → IfSome r (λ w. IsLastCovering walks pa w)
if_found walks pa (Some w) is = subst (Finds walks pa) (sym is) (finds walks pa)
if_found walks pa None is = tt

pub if_none : (walks : List Walk) (pa : ℕ) (r : Option Walk) → r ≡ newest_of walks pa → IfNone r (All (λ w. covers w pa ≡ false) walks)
if_none walks pa (Some w) is = tt
if_none walks pa None is = subst (Finds walks pa) (sym is) (finds walks pa)

pub ruleset newest_facts = (if_found, if_none)

-- ---- the walks that are kept

-- the last n of a list whose beginning was cut down to its last n already
pub last_again : {A : Type 0} (n : ℕ) (xs ys : List A) → last_of n (last_of n xs ++ ys) ≡ last_of n (xs ++ ys)
last_again {A = A} n xs ys =
    let cut = drop-append-le (length xs - n) xs ys (omega arith) in
    let long = length-append xs ys in
    subst (λ (l : List A). last_of n l ≡ last_of n (xs ++ ys)) cut
    (drop-drop (length (drop (length xs - n) (xs ++ ys)) - n) (length xs - n) (xs ++ ys)
    ∙ ap (λ (k : ℕ). drop k (xs ++ ys))
    (let short = length-drop (length xs - n) (xs ++ ys) in omega (arith, short, long)))

-- a ring of at most n walks
noted_is_last : (n : ℕ) (x : Walk) (walks : List Walk) → 1 ≤ n → length walks ≤ n → noted n x walks ≡ last_of n (walks ++ x ∷ [])
noted_is_last n x walks low within = grind (arith, length-append, drop-append-le)

pub length-last : {A : Type 0} (n : ℕ) (xs : List A) → length (last_of n xs) ≤ n
length-last n xs = let short = length-drop (length xs - n) xs in omega (arith, short)

pub kept : (n : ℕ) (later walks : List Walk) → 1 ≤ n → length walks ≤ n → all_noted n later walks ≡ last_of n (walks ++ later)
kept n [] walks low within = grind (arith, append-nil)
kept n (x ∷ later) walks low within =
    let is = noted_is_last n x walks low within in
    kept n later (noted n x walks) low (subst (λ (l : List Walk). length l ≤ n) (sym is) (length-last n (walks ++ x ∷ [])))
    ∙ ap (λ (l : List Walk). last_of n (l ++ later)) is
    ∙ last_again n (walks ++ x ∷ []) later
    ∙ ap (λ (l : List Walk). last_of n l) (append_assoc walks (x ∷ []) later)

-- what is read of each
pub last_map : {A B : Type 0} (f : A → B) (n : ℕ) (xs : List A) → map f (last_of n xs) ≡ last_of n (map f xs)
last_map {B = B} f n xs = sym (drop-map f (length xs - n) xs) ∙ ap (λ (k : ℕ). drop (k - n) (map f xs)) (sym (length-map xs f))

-- ---- the newest after a note

noted_parts : (n : ℕ) (x : Walk) (walks : List Walk) → 1 ≤ n → length walks ≤ n → noted n x walks ≡ last_of (n - 1) walks ++ x ∷ []
noted_parts n x walks low within = grind arith

last_or : (x : Walk) (b : Bool) (o : Option Walk) → option_or (cond b (Some x) None) o ≡ (if b then Some x else o)
last_or x true o = refl
last_or x false o = refl

pub newest_noted : (n : ℕ) (x : Walk) (walks : List Walk) (pa : ℕ) → 1 ≤ n → length walks ≤ n → newest_of (noted n x walks) pa ≡ (if covers x pa then Some x else newest_of (last_of (n - 1) walks) pa)
newest_noted n x walks pa low within =
    ap (λ (l : List Walk). newest_of l pa) (noted_parts n x walks low within)
    ∙ newest_of_parts (last_of (n - 1) walks) (x ∷ []) pa
    ∙ last_or x (covers x pa) (newest_of (last_of (n - 1) walks) pa)

pub ruleset ring_laws = (kept, newest_noted)
