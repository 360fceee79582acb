-- Kept walks, and the changes whose generation isn't raised yet: what a step of one caller leaves of them.
use Rattle.std.proofs.Common.{◌≡◌, ◌≢◌, ℕ, zero, suc, ◌/◌, ◌<◌, ◌≤◌, ◌⊎◌, ◌++◌, ◌∷◌, [], List, Bool, true, false, eqb, Some, None, set, refl, sym, ap, ◌∙◌, subst, arith, inl, inr, if◌then◌else◌}
use Rattle.std.specs.Prelude.{slice_get, Contains}
use Rattle.std.specs.List.{flat_map}
use Rattle.std.proofs.lemmas.Bool.{cases_Bool, cases_eq, eq-eqb}
use Rattle.std.proofs.lemmas.List.Concat.{flat_map-cons}
use Rattle.core_machine.proofs.Names.{Gpi, Size, GeometryData, Entry, Caller, Scene, map_in, granule_bytes, size_bytes, generation_word, open_by, number_by, pairs_of, region_of}
use Rattle.core_machine.proofs.Names.caller
use Rattle.gpt_descriptors.specs.Sizes.{granule_number}
use Rattle.gpt_descriptors.proofs.PlaceLemmas.{generation_named}
use Rattle.walk_cache.specs.declared.walk.Walk.{Walk}
use Rattle.walk_cache.specs.Rings.{covers}
use Rattle.history.specs.Stamps.{Gave}
use Rattle.history.proofs.StampLemmas.{gave_later}
use Rattle.core_machine.specs.InnerCallers.{unraised_by, walks_by}
use Rattle.core_machine.specs.InnerInvariant.{OpenAreHeld}
use Rattle.core_machine.specs.InnerWalks.{In, SomeHas, walk_size, walk_generation, generation_around, WalkHolds, PairsNumbered}
use Rattle.core_machine.proofs.ListLemmas.{get_set, get_set_here, get_set_other}
use Rattle.core_machine.proofs.StampLemmas.{Rises, region_around}

-- ---- lists

pub in_front : {A : Type 0} (x : A) (xs ys : List A) → In x xs → In x (xs ++ ys)
in_front x [] ys here = absurd here
in_front x (y ∷ xs) ys (inl is) = inl is
in_front x (y ∷ xs) ys (inr more) = inr (in_front x xs ys more)

pub in_back : {A : Type 0} (x : A) (xs ys : List A) → In x ys → In x (xs ++ ys)
in_back x [] ys here = here
in_back x (y ∷ xs) ys here = inr (in_back x xs ys here)

pub in_parts : {A : Type 0} (x : A) (xs ys : List A) → In x (xs ++ ys) → In x xs ⊎ In x ys
in_parts x [] ys here = inr here
in_parts x (y ∷ xs) ys (inl is) = inl (inl is)
in_parts x (y ∷ xs) ys (inr more) = elim (in_parts x xs ys more) [ inl front ↦ inl (inr front) | inr back ↦ inr back ]

pub in_if : {A : Type 0} (x : A) (b : Bool) (xs : List A) → In x (if b then xs else []) → (b ≡ true) × In x xs
in_if x true xs here = (refl, here)
in_if x false xs here = absurd here

pub in_pairs : (k : ℕ) (v : Gpi) (b : Bool) (xs : List (ℕ × Gpi)) → In (k, v) (if b then xs else []) → (b ≡ true) × In (k, v) xs
in_pairs k v b xs here = in_if (k, v) b xs here

-- of one pair alone
pub one_pair : (n k : ℕ) (u v : Gpi) → In {A = ℕ × Gpi} (k, v) ((n, u) ∷ []) → (n ≡ k) × (u ≡ v)
one_pair n k u v (inl is) = (ap (λ (p : ℕ × Gpi). p.0) is, ap (λ (p : ℕ × Gpi). p.1) is)
one_pair n k u v (inr none) = absurd none

pub in_contains : {A : Type 0} (x : A) (xs : List A) → In x xs → Contains xs x
in_contains x [] here = absurd here
in_contains x (y ∷ xs) (inl is) = (0, omega arith, is)
in_contains x (y ∷ xs) (inr more) = let there = in_contains x xs more in (suc there.0, omega (arith, there.1), there.2)

-- ---- callers

-- a pair that some caller had is of the acting one or still there
pub some_moves : {A : Type 0} (callers : List Caller) (c : ℕ) (me x : Caller) (by : Caller → List A) (pair : A) → slice_get callers c ≡ Some me → SomeHas callers by pair → SomeHas (set callers c x) by pair ⊎ In pair (by me)
some_moves callers c me x by pair at some =
    elim (cases_eq some.number c) [
      | inl same ↦ inr (let here : some.caller ≡ me = (let both : Some some.caller ≡ Some me = sym some.at ∙ ap (slice_get callers) same ∙ at in cc) in subst (λ (y : Caller). In pair (by y)) here some.has)
      | inr away ↦ inl (record { number = some.number; caller = some.caller; at = get_set_other callers c some.number x away ∙ some.at; has = some.has })
    ]

pub some_here : {A : Type 0} (callers : List Caller) (c : ℕ) (me x : Caller) (by : Caller → List A) (pair : A) → slice_get callers c ≡ Some me → In pair (by x) → SomeHas (set callers c x) by pair
some_here callers c me x by pair at has = record { number = c; caller = x; at = get_set_here callers c me x at; has = has }

-- what some caller has open is open
in_flat : (callers : List Caller) (d : ℕ) (y : Caller) (pair : ℕ × Gpi) → slice_get callers d ≡ Some y → In pair (open_by y) → In pair (flat_map open_by callers)
in_flat [] d y pair at has = absurd cc
in_flat (z ∷ callers) zero y pair at has =
    let same : z ≡ y = cc in
    subst (In pair) (sym (flat_map-cons open_by z callers)) (in_front pair (open_by z) (flat_map open_by callers) (subst (λ (x : Caller). In pair (open_by x)) (sym same) has))
in_flat (z ∷ callers) (suc d) y pair at has =
    subst (In pair) (sym (flat_map-cons open_by z callers)) (in_back pair (open_by z) (flat_map open_by callers) (in_flat callers d y pair at has))

in_filtered : (granule : ℕ) (v : Gpi) (pairs : List (ℕ × Gpi)) → In (granule, v) pairs → In (granule, v) (pairs_of granule pairs)
in_filtered granule v [] has = absurd has
in_filtered granule v (p ∷ pairs) (inl is) =
    let same : p.0 ≡ granule = ap (λ (q : ℕ × Gpi). q.0) is in rw (eq-eqb p.0 granule same) (inl is)
in_filtered granule v (p ∷ pairs) (inr more) =
    elim (cases_Bool (eqb p.0 granule)) [ inl passes ↦ rw passes (inr (in_filtered granule v pairs more)) | inr fails ↦ rw fails (in_filtered granule v pairs more) ]

in_unfiltered : (granule : ℕ) (pair : ℕ × Gpi) (pairs : List (ℕ × Gpi)) → In pair (pairs_of granule pairs) → In pair pairs
in_unfiltered granule pair [] has = absurd has
in_unfiltered granule pair (p ∷ pairs) has =
    elim (cases_Bool (eqb p.0 granule)) [
      | inl passes ↦ elim (rw passes at has) [ inl is ↦ inl is | inr more ↦ inr (in_unfiltered granule pair pairs more) ]
      | inr fails ↦ inr (in_unfiltered granule pair pairs (rw fails at has))
    ]

pub open_held : (opened : List (ℕ × Gpi)) (callers : List Caller) (d granule : ℕ) (v : Gpi) (y : Caller) → OpenAreHeld opened callers → slice_get callers d ≡ Some y → In (granule, v) (open_by y) → Contains opened (granule, v)
open_held opened callers d granule v y held at has =
    in_contains (granule, v) opened
    (in_unfiltered granule (granule, v) opened (subst (In (granule, v)) (sym (held granule)) (in_filtered granule v (flat_map open_by callers) (in_flat callers d y (granule, v) at has))))

-- ---- a step

-- What a step does to the changes of its caller whose generations aren't raised: what were `before` are `later`. Where it
-- changes the map it has the former GPI there for each size; what leaves had its generation raised; and what comes, or
-- stays with its generation, is numbered by that.
pub record Tracks (g : GeometryData) (s : Scene) (before later : Size → List (ℕ × Gpi)) (after : List ℕ) (m : ℕ → Gpi) (h : List Entry) : Type 0 where
  pub changed : (k : ℕ) → (m k ≡ map_in s k) ⊎ ((y : Size) → In (k, map_in s k) (later y))
  pub ends : (y : Size) (k : ℕ) (v : Gpi) → In (k, v) (before y) → In (k, v) (later y) ⊎ (generation_around g s.words y k < generation_around g after y k)
  pub pairs : (y : Size) (k : ℕ) (v : Gpi) → In (k, v) (later y)
      → (In (k, v) (before y) × (generation_around g after y k ≡ generation_around g s.words y k))
      ⊎ Gave s.first g.setup.first (granule_bytes g.setup) k y (generation_around g after y k) v h

-- one that leaves the map, the generations and these changes
pub tracks_same : (g : GeometryData) (s : Scene) (before later : Size → List (ℕ × Gpi)) (after : List ℕ) (m : ℕ → Gpi) (h : List Entry) → ((k : ℕ) → m k ≡ map_in s k) → ((y : Size) → later y ≡ before y)
    → ((y : Size) (k : ℕ) (v : Gpi) → In (k, v) (before y) → generation_around g after y k ≡ generation_around g s.words y k) → Tracks g s before later after m h
tracks_same g s before later after m h map same left = record {
  changed = λ k. inl (map k);
  ends = λ y k v has. inl (subst (In (k, v)) (sym (same y)) has);
  pairs = λ y k v has. let was = subst (In (k, v)) (same y) has in inl (was, left y k v was);
}

-- a granule of a pair, and the region of a walk that covers it
walk_region : (g : GeometryData) (words : List ℕ) (m : ℕ → Gpi) (callers : List Caller) (w : Walk) (pa : ℕ) → WalkHolds g words m callers w → covers w pa ≡ true
    → region_of (granule_bytes g.setup) (walk_size w) (granule_number g.setup pa) ≡ w.first / size_bytes (walk_size w)
walk_region g words m callers w pa holds covered = region_around g.setup (walk_size w) pa ∙ holds.home pa covered

-- a walk that holds before a step holds after it
pub walk_stays : (g : GeometryData) (s : Scene) (c : ℕ) (me x : Caller) (after : List ℕ) (m : ℕ → Gpi) (h : List Entry) (w : Walk) → slice_get s.callers c ≡ Some me → Rises g s.words after
    → Tracks g s (λ y. unraised_by y me) (λ y. unraised_by y x) after m h → WalkHolds g s.words (map_in s) s.callers w → WalkHolds g after m (set s.callers c x) w
walk_stays g s c me x after m h w at rises tracks old =
    let z : Size = walk_size w in
    let more : walk_generation g s.words w ≤ walk_generation g after w = rises z (w.first / size_bytes z) (generation_named g z w.first old.inside) in
    let low = old.low in
    record {
      inside = old.inside;
      home = old.home;
      low = omega (arith, low, more);
      says = λ same pa covered.
          let was = old.says (omega (arith, same, low, more)) pa covered in
          let k : ℕ = granule_number g.setup pa in
          let v : Gpi = was.gpi in
          let here : In (k, v) (unraised_by z x) → SomeHas (set s.callers c x) (unraised_by z) (k, v) = some_here s.callers c me x (unraised_by z) (k, v) at in
          record {
            gpi = v;
            gives = was.gives;
            known = elim was.known [
              | inl map ↦ elim (tracks.changed k) [
                | inl stays ↦ inl (stays ∙ map)
                | inr pending ↦ inr (here (subst (λ (u : Gpi). In (k, u) (unraised_by z x)) map (pending z)))
              ]
              | inr some ↦ elim (some_moves s.callers c me x (unraised_by z) (k, v) at some) [
                | inl still ↦ inr still
                | inr own ↦ elim (tracks.ends z k v own) [
                  | inl still ↦ inr (here still)
                  | inr rose ↦
                      absurd (let region = walk_region g s.words (map_in s) s.callers w pa old covered in
                      let first : generation_around g s.words z k ≡ walk_generation g s.words w = ap (generation_word g s.words z) region in
                      let second : generation_around g after z k ≡ walk_generation g after w = ap (generation_word g after z) region in
                      omega (arith, same, low, more, rose, first, second))
                ]
              ]
            ];
          };
    }

-- the pairs of the others stay where their generations do
pub pairs_stay : (g : GeometryData) (s : Scene) (c : ℕ) (me x : Caller) (after : List ℕ) (m : ℕ → Gpi) (made : List Entry) → slice_get s.callers c ≡ Some me → Tracks g s (λ y. unraised_by y me) (λ y. unraised_by y x) after m (s.history ++ made)
    → ((d : ℕ) (u : Caller) → d ≢ c → slice_get s.callers d ≡ Some u → (y : Size) (k : ℕ) (v : Gpi) → In (k, v) (unraised_by y u) → generation_around g after y k ≡ generation_around g s.words y k)
    → PairsNumbered g s.first s.words s.callers s.history → PairsNumbered g s.first after (set s.callers c x) (s.history ++ made)
pairs_stay g s c me x after m made at tracks others numbered y k v some =
    let gives : ℕ → Type 0 = λ n. Gave s.first g.setup.first (granule_bytes g.setup) k y n v (s.history ++ made) in
    let later : Gave s.first g.setup.first (granule_bytes g.setup) k y (generation_around g s.words y k) v s.history → gives (generation_around g s.words y k) =
    gave_later s.first g.setup.first (granule_bytes g.setup) k y (generation_around g s.words y k) v s.history made (s.history ++ made) refl in
    elim (get_set s.callers c some.number x some.caller some.at) [
      | inl here ↦ elim (tracks.pairs y k v (subst (λ (u : Caller). In (k, v) (unraised_by y u)) (sym here.1) some.has)) [
        | inl was ↦ subst gives (sym was.1) (later (numbered y k v (record { number = c; caller = me; at = at; has = was.0 })))
        | inr new ↦ new
      ]
      | inr away ↦
          subst gives (sym (others some.number some.caller away.0 away.1 y k v some.has))
          (later (numbered y k v (record { number = some.number; caller = some.caller; at = away.1; has = some.has })))
    ]

-- ---- who keeps none

pub no_walks : (x : Caller) (w : Walk) → number_by x ≡ None → In w (walks_by x) → ⊥
no_walks (caller.Agent a) w none has = has
no_walks (caller.Cpu q) w none has = absurd cc
