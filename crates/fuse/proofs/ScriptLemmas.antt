-- What the steps of merging make is its script.
use Rattle.std.proofs.Common.{◌≡◌, ◌≢◌, ℕ, zero, suc, ◌+◌, ◌-◌, ◌<◌, true, false, List, [], ◌∷◌, ◌++◌, map, Option, Some, None, refl, sym, ap, ◌∙◌, subst, arith, inl, inr, append_assoc}
use Rattle.std.specs.List.{range_with_len}
use Rattle.std.proofs.lemmas.Bool.{cases_Bool, cases_eq, eq-eqb, ne_eqb}
use Rattle.std.proofs.lemmas.List.{append-nil, map-append}
use Rattle.gpi_values.specs.declared.gpi.Gpi.{Gpi}
use Rattle.gpi_values.proofs.Numbers.{map_range-append}
use Rattle.gpt_descriptors.specs.declared.size.Size.{Size}
use Rattle.gpt_descriptors.specs.declared.size.Size.TheVariants as size
use Rattle.gpt_descriptors.specs.declared.size.MaxBlock.{MaxBlock}
use Rattle.gpt_descriptors.specs.Sizes.{is_permitted}
use Rattle.gpt_descriptors.specs.Fields.{granules_of, equal_gpi}
use Rattle.gpt_descriptors.proofs.BlockLemmas.{permits_two, permits_thirty_two}
use Rattle.gpt_descriptors.proofs.PackedLemmas.{equal_of, equal_found, equal_none}
use Rattle.shared_words.specs.declared.act.Act.{Act}
use Rattle.shared_words.specs.declared.act.Act.TheVariants as act
use Rattle.shared_words.specs.Events.{Event, acts_in}
use Rattle.table_meaning.specs.declared.fusing.Fusing.{Fusing}
use Rattle.table_meaning.specs.declared.fusing.Fusing.TheVariants.{Testing, Storing, Ended}
use Rattle.table_meaning.specs.Fusing.{block_words, loads_of, load_at, needed_word, test_or_store, passed, failed, loaded, stored, begun}
use Rattle.fuse.specs.declared.outcome.Fused.TheVariants as fused
use Rattle.fuse.specs.Merging.{FuseData, act_at, next_of, after_at, took_of, outcome_at, outcome_of, Around, gpi_or_none, begin_of}
use Rattle.fuse.specs.Script.{load_event, passing, IsStopped, whole_test, tests_to, IsUntested, EndsTests, store_act, stores_of, MergesNothing, MergesTo, IsMerging, IsPart, Walks, StepsAreMerging, StepsArePart, MergingIsSteps}

-- merging around a at a step
abbrev pub at_step : Around → Gpi → Fusing → FuseData
at_step a v f = record { first = a.first; own = a.own; two = a.two; max = a.max; gpi = v; step = f }

-- the tests before that of a size
abbrev before : Around → Gpi → Size → List Event
before a v size.Two = []
before a v size.ThirtyTwo = tests_to a v size.Two
before a v size.FiveTwelve = tests_to a v size.ThirtyTwo

before_test : (a : Around) (v : Gpi) (z : Size) → before a v z ++ passing a v z (loads_of a.two z) ≡ tests_to a v z
before_test a v size.Two = refl
before_test a v size.ThirtyTwo = refl
before_test a v size.FiveTwelve = refl

-- what was made when merging is at a step
abbrev Made : Around → Gpi → Fusing → List Event → Type 0
Made a v (Testing z k) events = (is_permitted a.max z ≡ true) × (k < loads_of a.two z) × (events ≡ before a v z ++ passing a v z k)
Made a v (Storing z k) events =
    (last : List Event) × (made : List Event) × (is_permitted a.max z ≡ true) × (k < block_words a.two z) × EndsTests a v z last
    × (acts_in made ≡ map (store_act a v z) (range_with_len 0 k)) × (events ≡ tests_to a v z ++ (last ++ made))
Made a v (Ended o) events = IsMerging a (outcome_at (Ended o)) events

passing_more : (a : Around) (v : Gpi) (z : Size) (k : ℕ) → passing a v z (k + 1) ≡ passing a v z k ++ load_event a z k (needed_word v z) ∷ []
passing_more a v z k =
    map_range-append (λ j. load_event a z j (needed_word v z)) 0 k 1
    ∙ ap (λ (n : ℕ). passing a v z k ++ load_event a z n (needed_word v z) ∷ []) (let same : 0 + k ≡ k = omega arith in same)

acts_more : (a : Around) (v : Gpi) (z : Size) (k : ℕ) → map (store_act a v z) (range_with_len 0 (k + 1)) ≡ map (store_act a v z) (range_with_len 0 k) ++ store_act a v z k ∷ []
acts_more a v z k =
    map_range-append (store_act a v z) 0 k 1
    ∙ ap (λ (n : ℕ). map (store_act a v z) (range_with_len 0 k) ++ store_act a v z n ∷ []) (let same : 0 + k ≡ k = omega arith in same)

words_low : (a : Around) (z : Size) → 0 < a.two → 0 < block_words a.two z
words_low a size.Two some = some
words_low a size.ThirtyTwo some = omega (arith, some)
words_low a size.FiveTwelve some = omega (arith, some)

-- ---- a load

made_failed : (a : Around) (v : Gpi) (z : Size) (k word : ℕ) (events : List Event) → 0 < a.two → a.word ≡ granules_of v → word ≢ needed_word v z → Made a v (Testing z k) events
    → Made a v (failed z) (events ++ load_event a z k word ∷ [])
made_failed a v size.Two k word events some own differs (permitted, low, is) =
    inr (inr (v, own, permitted, (k, word, low, differs, ap (λ (xs : List Event). xs ++ load_event a size.Two k word ∷ []) is)))
made_failed a v size.ThirtyTwo k word events some own differs (permitted, low, is) =
    let last : List Event = passing a v size.ThirtyTwo k ++ load_event a size.ThirtyTwo k word ∷ [] in (
      last,
      [],
      permits_two a.max size.ThirtyTwo permitted,
      words_low a size.Two some,
      inr (permitted, (k, word, low, differs, refl)),
      refl,
      ap (λ (xs : List Event). xs ++ load_event a size.ThirtyTwo k word ∷ []) is
          ∙ append_assoc (tests_to a v size.Two) (passing a v size.ThirtyTwo k) (load_event a size.ThirtyTwo k word ∷ [])
          ∙ ap (λ (xs : List Event). tests_to a v size.Two ++ xs) (sym (append-nil last)),
    )
made_failed a v size.FiveTwelve k word events some own differs (permitted, low, is) =
    let last : List Event = passing a v size.FiveTwelve k ++ load_event a size.FiveTwelve k word ∷ [] in (
      last,
      [],
      permits_thirty_two a.max permitted,
      words_low a size.ThirtyTwo some,
      inr (permitted, (k, word, low, differs, refl)),
      refl,
      ap (λ (xs : List Event). xs ++ load_event a size.FiveTwelve k word ∷ []) is
          ∙ append_assoc (tests_to a v size.ThirtyTwo) (passing a v size.FiveTwelve k) (load_event a size.FiveTwelve k word ∷ [])
          ∙ ap (λ (xs : List Event). tests_to a v size.ThirtyTwo ++ xs) (sym (append-nil last)),
    )

-- the test of a size passed
made_passed : (a : Around) (v : Gpi) (z : Size) (events : List Event) → 0 < a.two → is_permitted a.max z ≡ true → events ≡ tests_to a v z → Made a v (passed a.max z) events
made_passed a v size.Two events some permitted is =
    elim (cases_Bool (is_permitted a.max size.ThirtyTwo)) [
      | inl larger ↦ rw larger (larger, omega arith, is ∙ sym (append-nil (tests_to a v size.Two)))
      | inr refused ↦ rw refused ([], [], permitted, words_low a size.Two some, inl (refused, refl), refl, is ∙ sym (append-nil (tests_to a v size.Two)))
    ]
made_passed a v size.ThirtyTwo events some permitted is =
    elim (cases_Bool (is_permitted a.max size.FiveTwelve)) [
      | inl larger ↦ rw larger (larger, omega arith, is ∙ sym (append-nil (tests_to a v size.ThirtyTwo)))
      | inr refused ↦ rw refused ([], [], permitted, words_low a size.ThirtyTwo some, inl (refused, refl), refl, is ∙ sym (append-nil (tests_to a v size.ThirtyTwo)))
    ]
made_passed a v size.FiveTwelve events some permitted is =
    ([], [], permitted, words_low a size.FiveTwelve some, refl, refl, is ∙ sym (append-nil (tests_to a v size.FiveTwelve)))

made_load : (a : Around) (v : Gpi) (z : Size) (k word : ℕ) (events : List Event) → 0 < a.two → a.word ≡ granules_of v → Made a v (Testing z k) events
    → Made a v (loaded a.two a.max v z k word) (events ++ load_event a z k word ∷ [])
made_load a v z k word events some own (permitted, low, is) =
    elim (cases_eq word (needed_word v z)) [
      | inl same ↦
          let more : events ++ load_event a z k word ∷ [] ≡ before a v z ++ passing a v z (k + 1) =
          ap (λ (xs : List Event). xs ++ load_event a z k word ∷ []) is
          ∙ append_assoc (before a v z) (passing a v z k) (load_event a z k word ∷ [])
          ∙ ap (λ (n : ℕ). before a v z ++ (passing a v z k ++ load_event a z k n ∷ [])) same
          ∙ ap (λ (xs : List Event). before a v z ++ xs) (sym (passing_more a v z k)) in
          elim (cases_eq (k + 1) (loads_of a.two z)) [
            | inl all ↦
                rw (eq-eqb _ _ same, eq-eqb _ _ all)
                (made_passed a v z (events ++ load_event a z k word ∷ []) some permitted
                (more ∙ ap (λ (n : ℕ). before a v z ++ passing a v z n) all ∙ before_test a v z))
            | inr rest ↦ rw (eq-eqb _ _ same, ne_eqb _ _ rest) (permitted, omega (arith, low, rest), more)
          ]
      | inr other ↦ rw (ne_eqb _ _ other) (made_failed a v z k word events some own other (permitted, low, is))
    ]

-- ---- a store

made_store : (a : Around) (v : Gpi) (z : Size) (k : ℕ) (e : Event) (events : List Event) → a.word ≡ granules_of v → e.act ≡ store_act a v z k → Made a v (Storing z k) events
    → Made a v (stored a.two z k) (events ++ e ∷ [])
made_store a v z k e events own act_is (last, made, permitted, low, ends, acts, is) =
    let acts_now : acts_in (made ++ e ∷ []) ≡ map (store_act a v z) (range_with_len 0 (k + 1)) =
    map-append (λ (x : Event). x.act) made (e ∷ []) ∙ ap (λ (xs : List Act). xs ++ e.act ∷ []) acts
    ∙ ap (λ (x : Act). map (store_act a v z) (range_with_len 0 k) ++ x ∷ []) act_is ∙ sym (acts_more a v z k) in
    let now : events ++ e ∷ [] ≡ tests_to a v z ++ (last ++ (made ++ e ∷ [])) =
    ap (λ (xs : List Event). xs ++ e ∷ []) is ∙ append_assoc (tests_to a v z) (last ++ made) (e ∷ [])
    ∙ ap (λ (xs : List Event). tests_to a v z ++ xs) (append_assoc last made (e ∷ [])) in
    elim (cases_eq (k + 1) (block_words a.two z)) [
      | inl all ↦
          rw (eq-eqb _ _ all)
          (v, last, made ++ e ∷ [], own, permitted, ends, acts_now ∙ ap (λ (n : ℕ). map (store_act a v z) (range_with_len 0 n)) all, now)
      | inr rest ↦ rw (ne_eqb _ _ rest) (last, made ++ e ∷ [], permitted, omega (arith, low, rest), ends, acts_now, now)
    ]

-- ---- a walk

-- an act that was made next, with its answer, is the event
one_step : (a : Around) (v : Gpi) (f : Fusing) (e : Event) (events : List Event) → 0 < a.two → a.word ≡ granules_of v → Made a v f events
    → act_at a.first a.own a.two v f ≡ Some e.act → Made a v (after_at a.two a.max v f e.old) (events ++ e ∷ [])
one_step a v (Testing z k) e events some own made next =
    let act_is : act.Load (a.first + load_at a.two a.own z k) ≡ e.act = cc in
    let event : load_event a z k e.old ≡ e = ap (λ (x : Act). let now : Event = record { act = x; old = e.old } in now) act_is in
    subst (λ (x : Event). Made a v (loaded a.two a.max v z k e.old) (events ++ x ∷ [])) event (made_load a v z k e.old events some own made)
one_step a v (Storing z k) e events some own made next = made_store a v z k e events own (let both : store_act a v z k ≡ e.act = cc in sym both) made
one_step a v (Ended o) e events some own made next = absurd cc

walk_made : (a : Around) (v : Gpi) (f : Fusing) (events first : List Event) (e : FuseData) → 0 < a.two → a.word ≡ granules_of v → Made a v f first
    → Walks (at_step a v f) events e → (h : Fusing) × (e ≡ at_step a v h) × Made a v h (first ++ events)
walk_made a v f [] first e some own made same = (f, sym same, subst (Made a v f) (sym (append-nil first)) made)
walk_made a v f (x ∷ events) first e some own made (next, walk) =
    let after = walk_made a v (after_at a.two a.max v f x.old) events (first ++ x ∷ []) e some own (one_step a v f x first some own made next) walk in
    (after.0, after.1, subst (Made a v after.0) (append_assoc first (x ∷ []) events) after.2)

-- ---- the start

made_begun : (a : Around) (v : Gpi) → 0 < a.two → a.word ≡ granules_of v → Made a v (begun a.max (Some v)) []
made_begun a v some own =
    elim (cases_Bool (is_permitted a.max size.Two)) [
      | inl permitted ↦ rw permitted (permitted, some, refl)
      | inr refused ↦ rw refused (inl (refused, refl))
    ]

-- of a word of sixteen granules
begin_equal : (a : Around) (v : Gpi) → a.word ≡ granules_of v → begin_of a ≡ at_step a v (begun a.max (Some v))
begin_equal a v own =
    ap (λ (o : Option Gpi). let d : FuseData = record { first = a.first; own = a.own; two = a.two; max = a.max; gpi = gpi_or_none o; step = begun a.max o } in d)
    (ap equal_gpi own ∙ equal_of v)

-- of any other word: merging has ended
begin_mixed : (a : Around) → equal_gpi a.word ≡ None → begin_of a ≡ at_step a (gpi_or_none None) (Ended None)
begin_mixed a none =
    ap (λ (o : Option Gpi). let d : FuseData = record { first = a.first; own = a.own; two = a.two; max = a.max; gpi = gpi_or_none o; step = begun a.max o } in d) none

-- ---- the steps make a merging

ended_walk : (a : Around) (v : Gpi) (o : Option Size) (events : List Event) (e : FuseData) → Walks (at_step a v (Ended o)) events e → (events ≡ []) × (e ≡ at_step a v (Ended o))
ended_walk a v o [] e same = (refl, sym same)
ended_walk a v o (x ∷ events) e (next, walk) = absurd cc

made_ended : (a : Around) (v : Gpi) (h : Fusing) (events : List Event) → act_at a.first a.own a.two v h ≡ None → Made a v h events → IsMerging a (outcome_at h) events
made_ended a v (Testing z k) events none made = absurd cc
made_ended a v (Storing z k) events none made = absurd cc
made_ended a v (Ended o) events none made = made

are_merging : (a : Around) (o : Option Gpi) (events : List Event) (e : FuseData) → equal_gpi a.word ≡ o → 0 < a.two → Walks (begin_of a) events e → next_of e ≡ None → IsMerging a (outcome_of e) events
are_merging a None events e mixed some walk none =
    let ended = ended_walk a (gpi_or_none None) None events e (subst (λ (d : FuseData). Walks d events e) (begin_mixed a mixed) walk) in
    subst (λ (d : FuseData). IsMerging a (outcome_of d) events) (sym ended.1) (inr (inl (equal_none a.word mixed, ended.0)))
are_merging a (Some v) events e equal some walk none =
    let own = equal_found a.word v equal in
    let made = walk_made a v (begun a.max (Some v)) events [] e some own (made_begun a v some own) (subst (λ (d : FuseData). Walks d events e) (begin_equal a v own) walk) in
    subst (λ (d : FuseData). IsMerging a (outcome_of d) events) (sym made.1)
    (made_ended a v made.0 events (subst (λ (d : FuseData). next_of d ≡ None) made.1 none) made.2)

pub steps_are_merging : StepsAreMerging
steps_are_merging a events e some walk none = are_merging a (equal_gpi a.word) events e refl some walk none

-- ---- what they have made is a prefix of one

abbrev store_event : Around → Gpi → Size → ℕ → Event
store_event a v z k = record { act = store_act a v z k; old = 0 }

store_events : (a : Around) (v : Gpi) (z : Size) (k m : ℕ) → acts_in (map (store_event a v z) (range_with_len k m)) ≡ map (store_act a v z) (range_with_len k m)
store_events a v z k zero = refl
store_events a v z k (suc m) = ap (λ (xs : List Act). store_act a v z k ∷ xs) (store_events a v z (k + 1) m)

storing_part : (a : Around) (v : Gpi) (z : Size) (k : ℕ) (events : List Event) → a.word ≡ granules_of v → Made a v (Storing z k) events → IsPart a events
storing_part a v z k events own (last, made, permitted, low, ends, acts, is) =
    let n : ℕ = block_words a.two z in
    let rest : List Event = map (store_event a v z) (range_with_len k (n - k)) in
    let whole : k + (n - k) ≡ n = omega (arith, low) in
    let start : 0 + k ≡ k = omega arith in
    let all : acts_in (made ++ rest) ≡ stores_of a v z =
    map-append (λ (x : Event). x.act) made rest ∙ ap (λ (xs : List Act). xs ++ acts_in rest) acts
    ∙ ap (λ (xs : List Act). map (store_act a v z) (range_with_len 0 k) ++ xs)
    (store_events a v z k (n - k) ∙ ap (λ (j : ℕ). map (store_act a v z) (range_with_len j (n - k))) (sym start))
    ∙ sym (map_range-append (store_act a v z) 0 k (n - k)) ∙ ap (λ (j : ℕ). map (store_act a v z) (range_with_len 0 j)) whole in (
      rest,
      fused.To z,
      (
        v,
        last,
        made ++ rest,
        own,
        permitted,
        ends,
        all,
        ap (λ (xs : List Event). xs ++ rest) is ∙ append_assoc (tests_to a v z) (last ++ made) rest
            ∙ ap (λ (xs : List Event). tests_to a v z ++ xs) (append_assoc last made rest),
      ),
    )

-- one event more
part_more : (a : Around) (events : List Event) (e : Event) → IsPart a (events ++ e ∷ []) → IsPart a events
part_more a events e (rest, o, merging) = (e ∷ rest, o, subst (IsMerging a o) (append_assoc events (e ∷ []) rest) merging)

failed_part : (a : Around) (v : Gpi) (z : Size) (events : List Event) → a.word ≡ granules_of v → Made a v (failed z) events → IsPart a events
failed_part a v size.Two events own made = ([], fused.No, subst (MergesNothing a) (sym (append-nil events)) made)
failed_part a v size.ThirtyTwo events own made = storing_part a v size.Two 0 events own made
failed_part a v size.FiveTwelve events own made = storing_part a v size.ThirtyTwo 0 events own made

ended_part : (a : Around) (o : Option Size) (events : List Event) → IsMerging a (outcome_at (Ended o)) events → IsPart a events
ended_part a o events merging = ([], outcome_at (Ended o), subst (IsMerging a (outcome_at (Ended o))) (sym (append-nil events)) merging)

made_part : (a : Around) (v : Gpi) (h : Fusing) (events : List Event) → 0 < a.two → a.word ≡ granules_of v → Made a v h events → IsPart a events
made_part a v (Testing z k) events some own made =
    let word : ℕ = needed_word v z + 1 in
    let differs : word ≢ needed_word v z = λ e. omega (arith, e) in
    part_more a events (load_event a z k word) (failed_part a v z (events ++ load_event a z k word ∷ []) own (made_failed a v z k word events some own differs made))
made_part a v (Storing z k) events some own made = storing_part a v z k events own made
made_part a v (Ended o) events some own made = ended_part a o events made

are_part : (a : Around) (o : Option Gpi) (events : List Event) (e : FuseData) → equal_gpi a.word ≡ o → 0 < a.two → Walks (begin_of a) events e → IsPart a events
are_part a None events e mixed some walk =
    let ended = ended_walk a (gpi_or_none None) None events e (subst (λ (d : FuseData). Walks d events e) (begin_mixed a mixed) walk) in
    ended_part a None events (inr (inl (equal_none a.word mixed, ended.0)))
are_part a (Some v) events e equal some walk =
    let own = equal_found a.word v equal in
    let made = walk_made a v (begun a.max (Some v)) events [] e some own (made_begun a v some own) (subst (λ (d : FuseData). Walks d events e) (begin_equal a v own) walk) in
    made_part a v made.0 events some own made.2

pub steps_are_part : StepsArePart
steps_are_part a events e some walk = are_part a (equal_gpi a.word) events e refl some walk

-- ---- every merging is made by the steps

walk_append : (d e f : FuseData) (xs ys : List Event) → Walks d xs e → Walks e ys f → Walks d (xs ++ ys) f
walk_append d e f [] ys same walk = subst (λ (x : FuseData). Walks x ys f) (sym same) walk
walk_append d e f (x ∷ xs) ys (next, rest) walk = (next, walk_append (took_of d x.old) e f xs ys rest walk)

load_step : (a : Around) (v : Gpi) (z : Size) (k word : ℕ) (f : Fusing) → loaded a.two a.max v z k word ≡ f → Walks (at_step a v (Testing z k)) (load_event a z k word ∷ []) (at_step a v f)
load_step a v z k word f is = (refl, ap (at_step a v) is)

loaded_more : (a : Around) (v : Gpi) (z : Size) (k : ℕ) → k + 1 ≢ loads_of a.two z → loaded a.two a.max v z k (needed_word v z) ≡ Testing z (k + 1)
loaded_more a v z k rest = rw (eq-eqb (needed_word v z) (needed_word v z) refl, ne_eqb _ _ rest) refl

loaded_all : (a : Around) (v : Gpi) (z : Size) (k : ℕ) → k + 1 ≡ loads_of a.two z → loaded a.two a.max v z k (needed_word v z) ≡ passed a.max z
loaded_all a v z k all = rw (eq-eqb (needed_word v z) (needed_word v z) refl, eq-eqb _ _ all) refl

loaded_other : (a : Around) (v : Gpi) (z : Size) (k word : ℕ) → word ≢ needed_word v z → loaded a.two a.max v z k word ≡ failed z
loaded_other a v z k word other = rw (ne_eqb _ _ other) refl

passing_walk : (a : Around) (v : Gpi) (z : Size) (k : ℕ) → k < loads_of a.two z → Walks (at_step a v (Testing z 0)) (passing a v z k) (at_step a v (Testing z k))
passing_walk a v z zero low = refl
passing_walk a v z (suc k) low =
    let next : k + 1 ≡ suc k = omega arith in
    subst (λ (n : ℕ). Walks (at_step a v (Testing z 0)) (passing a v z n) (at_step a v (Testing z n))) next
    (subst (λ (xs : List Event). Walks (at_step a v (Testing z 0)) xs (at_step a v (Testing z (k + 1)))) (sym (passing_more a v z k))
    (walk_append (at_step a v (Testing z 0)) (at_step a v (Testing z k)) (at_step a v (Testing z (k + 1))) (passing a v z k) (load_event a z k (needed_word v z) ∷ [])
    (passing_walk a v z k (omega (arith, low)))
    (load_step a v z k (needed_word v z) (Testing z (k + 1)) (loaded_more a v z k (λ e. omega (arith, low, e))))))

loads_low : (a : Around) (z : Size) → 0 < a.two → 0 < loads_of a.two z
loads_low a size.Two some = some
loads_low a size.ThirtyTwo some = omega arith
loads_low a size.FiveTwelve some = omega arith

test_walk : (a : Around) (v : Gpi) (z : Size) → 0 < a.two → Walks (at_step a v (Testing z 0)) (whole_test a v z) (at_step a v (passed a.max z))
test_walk a v z some =
    let low = loads_low a z some in
    let k : ℕ = loads_of a.two z - 1 in
    let all : k + 1 ≡ loads_of a.two z = omega (arith, low) in
    subst (λ (n : ℕ). Walks (at_step a v (Testing z 0)) (passing a v z n) (at_step a v (passed a.max z))) all
    (subst (λ (xs : List Event). Walks (at_step a v (Testing z 0)) xs (at_step a v (passed a.max z))) (sym (passing_more a v z k))
    (walk_append (at_step a v (Testing z 0)) (at_step a v (Testing z k)) (at_step a v (passed a.max z)) (passing a v z k) (load_event a z k (needed_word v z) ∷ [])
    (passing_walk a v z k (omega (arith, low)))
    (load_step a v z k (needed_word v z) (passed a.max z) (loaded_all a v z k all))))

stop_walk : (a : Around) (v : Gpi) (z : Size) (events : List Event) → IsStopped a v z events → Walks (at_step a v (Testing z 0)) events (at_step a v (failed z))
stop_walk a v z events (k, word, low, differs, is) =
    subst (λ (xs : List Event). Walks (at_step a v (Testing z 0)) xs (at_step a v (failed z))) (sym is)
    (walk_append (at_step a v (Testing z 0)) (at_step a v (Testing z k)) (at_step a v (failed z)) (passing a v z k) (load_event a z k word ∷ [])
    (passing_walk a v z k low) (load_step a v z k word (failed z) (loaded_other a v z k word differs)))

-- a step whose word is known
at_same : (a : Around) (v : Gpi) (f h : Fusing) (events : List Event) (e : FuseData) → f ≡ h → Walks (at_step a v f) events e → Walks (at_step a v h) events e
at_same a v f h events e same walk = subst (λ (x : Fusing). Walks (at_step a v x) events e) same walk

test_next : (max : MaxBlock) (z before : Size) → is_permitted max z ≡ true → test_or_store max z before ≡ Testing z 0
test_next max z before permitted = rw permitted refl

store_next : (max : MaxBlock) (z before : Size) → is_permitted max z ≡ false → test_or_store max z before ≡ Storing before 0
store_next max z before refused = rw refused refl

begun_test : (max : MaxBlock) (v : Gpi) → is_permitted max size.Two ≡ true → begun max (Some v) ≡ Testing size.Two 0
begun_test max v permitted = rw permitted refl

two_walk : (a : Around) (v : Gpi) → 0 < a.two → is_permitted a.max size.Two ≡ true → Walks (at_step a v (begun a.max (Some v))) (whole_test a v size.Two) (at_step a v (passed a.max size.Two))
two_walk a v some permitted =
    at_same a v (Testing size.Two 0) (begun a.max (Some v)) (whole_test a v size.Two) (at_step a v (passed a.max size.Two)) (sym (begun_test a.max v permitted)) (test_walk a v size.Two some)

thirty_two_walk : (a : Around) (v : Gpi) → 0 < a.two → is_permitted a.max size.ThirtyTwo ≡ true
    → Walks (at_step a v (begun a.max (Some v))) (tests_to a v size.ThirtyTwo) (at_step a v (passed a.max size.ThirtyTwo))
thirty_two_walk a v some permitted =
    walk_append (at_step a v (begun a.max (Some v))) (at_step a v (passed a.max size.Two)) (at_step a v (passed a.max size.ThirtyTwo)) (whole_test a v size.Two) (whole_test a v size.ThirtyTwo)
    (two_walk a v some (permits_two a.max size.ThirtyTwo permitted))
    (at_same a v (Testing size.ThirtyTwo 0) (passed a.max size.Two) (whole_test a v size.ThirtyTwo) (at_step a v (passed a.max size.ThirtyTwo))
    (sym (test_next a.max size.ThirtyTwo size.Two permitted)) (test_walk a v size.ThirtyTwo some))

tests_walk : (a : Around) (v : Gpi) (z : Size) → 0 < a.two → is_permitted a.max z ≡ true → Walks (at_step a v (begun a.max (Some v))) (tests_to a v z) (at_step a v (passed a.max z))
tests_walk a v size.Two some permitted = two_walk a v some permitted
tests_walk a v size.ThirtyTwo some permitted = thirty_two_walk a v some permitted
tests_walk a v size.FiveTwelve some permitted =
    walk_append (at_step a v (begun a.max (Some v))) (at_step a v (passed a.max size.ThirtyTwo)) (at_step a v (passed a.max size.FiveTwelve)) (tests_to a v size.ThirtyTwo) (whole_test a v size.FiveTwelve)
    (thirty_two_walk a v some (permits_thirty_two a.max permitted))
    (at_same a v (Testing size.FiveTwelve 0) (passed a.max size.ThirtyTwo) (whole_test a v size.FiveTwelve) (at_step a v (passed a.max size.FiveTwelve))
    (sym (test_next a.max size.FiveTwelve size.ThirtyTwo permitted)) (test_walk a v size.FiveTwelve some))

untested_walk : (a : Around) (v : Gpi) (z before : Size) (last : List Event) → failed z ≡ Storing before 0 → IsUntested a v z last → Walks (at_step a v (test_or_store a.max z before)) last (at_step a v (Storing before 0))
untested_walk a v z before last fails (inl (refused, none)) =
    subst (λ (xs : List Event). Walks (at_step a v (test_or_store a.max z before)) xs (at_step a v (Storing before 0))) (sym none) (ap (at_step a v) (store_next a.max z before refused))
untested_walk a v z before last fails (inr (permitted, stopped)) =
    at_same a v (Testing z 0) (test_or_store a.max z before) last (at_step a v (Storing before 0)) (sym (test_next a.max z before permitted))
    (subst (λ (f : Fusing). Walks (at_step a v (Testing z 0)) last (at_step a v f)) fails (stop_walk a v z last stopped))

last_walk : (a : Around) (v : Gpi) (z : Size) (last : List Event) → EndsTests a v z last → Walks (at_step a v (passed a.max z)) last (at_step a v (Storing z 0))
last_walk a v size.Two last ends = untested_walk a v size.ThirtyTwo size.Two last refl ends
last_walk a v size.ThirtyTwo last ends = untested_walk a v size.FiveTwelve size.ThirtyTwo last refl ends
last_walk a v size.FiveTwelve last none = subst (λ (xs : List Event). Walks (at_step a v (Storing size.FiveTwelve 0)) xs (at_step a v (Storing size.FiveTwelve 0))) (sym none) refl

no_acts : (events : List Event) → acts_in events ≡ [] → events ≡ []
no_acts [] e = refl
no_acts (x ∷ events) e = absurd cc

stores_walk : (a : Around) (v : Gpi) (z : Size) (m k : ℕ) (made : List Event) → k + suc m ≡ block_words a.two z → acts_in made ≡ map (store_act a v z) (range_with_len k (suc m))
    → Walks (at_step a v (Storing z k)) made (at_step a v (Ended (Some z)))
stores_walk a v z m k [] size acts = absurd cc
stores_walk a v z zero k (x ∷ xs) size acts =
    let act_is : x.act ≡ store_act a v z k = cc in
    let rest : acts_in xs ≡ [] = cc in
    let last : stored a.two z k ≡ Ended (Some z) = (let all : k + 1 ≡ block_words a.two z = omega (arith, size) in rw (eq-eqb _ _ all) refl) in (
      ap (λ (t : Act). Some t) (sym act_is),
      subst (λ (ys : List Event). Walks (at_step a v (stored a.two z k)) ys (at_step a v (Ended (Some z)))) (sym (no_acts xs rest)) (ap (at_step a v) last),
    )
stores_walk a v z (suc m) k (x ∷ xs) size acts =
    let act_is : x.act ≡ store_act a v z k = cc in
    let rest : acts_in xs ≡ map (store_act a v z) (range_with_len (k + 1) (suc m)) = cc in
    let next : stored a.two z k ≡ Storing z (k + 1) = (let more : k + 1 ≢ block_words a.two z = λ e. omega (arith, size, e) in rw (ne_eqb _ _ more) refl) in (
      ap (λ (t : Act). Some t) (sym act_is),
      at_same a v (Storing z (k + 1)) (stored a.two z k) xs (at_step a v (Ended (Some z))) (sym next) (stores_walk a v z m (k + 1) xs (omega (arith, size)) rest),
    )

-- all stores of a block
block_walk : (a : Around) (v : Gpi) (z : Size) (made : List Event) → 0 < a.two → acts_in made ≡ stores_of a v z → Walks (at_step a v (Storing z 0)) made (at_step a v (Ended (Some z)))
block_walk a v z made some acts =
    let low = words_low a z some in
    let n : ℕ = block_words a.two z - 1 in
    let all : suc n ≡ block_words a.two z = omega (arith, low) in
    stores_walk a v z n 0 made (omega (arith, low)) (acts ∙ ap (λ (j : ℕ). map (store_act a v z) (range_with_len 0 j)) (sym all))

from_begin : (a : Around) (v : Gpi) (events : List Event) (e : FuseData) → a.word ≡ granules_of v → Walks (at_step a v (begun a.max (Some v))) events e → Walks (begin_of a) events e
from_begin a v events e own walk = subst (λ (d : FuseData). Walks d events e) (sym (begin_equal a v own)) walk

-- a merging that has ended at once
ended_begin : (a : Around) (o : Option Gpi) → begun a.max o ≡ Ended None → equal_gpi a.word ≡ o → (events : List Event) → events ≡ []
    → (e : FuseData) × Walks (begin_of a) events e × (next_of e ≡ None) × (outcome_of e ≡ fused.No)
ended_begin a o ended equal events none =
    let begin : begun a.max (equal_gpi a.word) ≡ Ended None = ap (begun a.max) equal ∙ ended in
    let gpi : Gpi = gpi_or_none (equal_gpi a.word) in (
      begin_of a,
      subst (λ (xs : List Event). Walks (begin_of a) xs (begin_of a)) (sym none) refl,
      ap (act_at a.first a.own a.two gpi) begin,
      ap outcome_at begin,
    )

refused_begun : (max : MaxBlock) (o : Option Gpi) → is_permitted max size.Two ≡ false → begun max o ≡ Ended None
refused_begun max None refused = refl
refused_begun max (Some v) refused = rw refused refl

mixed_equal : (a : Around) (o : Option Gpi) → equal_gpi a.word ≡ o → ((v : Gpi) → a.word ≢ granules_of v) → o ≡ None
mixed_equal a None equal mixed = refl
mixed_equal a (Some v) equal mixed = absurd (mixed v (equal_found a.word v equal))

nothing_steps : (a : Around) (events : List Event) → 0 < a.two → MergesNothing a events → (e : FuseData) × Walks (begin_of a) events e × (next_of e ≡ None) × (outcome_of e ≡ fused.No)
nothing_steps a events some (inl (refused, none)) = ended_begin a (equal_gpi a.word) (refused_begun a.max (equal_gpi a.word) refused) refl events none
nothing_steps a events some (inr (inl (mixed, none))) = ended_begin a None refl (mixed_equal a (equal_gpi a.word) refl mixed) events none
nothing_steps a events some (inr (inr (v, own, permitted, stopped))) = (
  at_step a v (Ended None),
  from_begin a v events (at_step a v (Ended None)) own
      (at_same a v (Testing size.Two 0) (begun a.max (Some v)) events (at_step a v (Ended None)) (sym (begun_test a.max v permitted)) (stop_walk a v size.Two events stopped)),
  refl,
  refl,
)

to_steps : (a : Around) (z : Size) (events : List Event) → 0 < a.two → MergesTo a z events → (e : FuseData) × Walks (begin_of a) events e × (next_of e ≡ None) × (outcome_of e ≡ fused.To z)
to_steps a z events some (v, last, made, own, permitted, ends, acts, is) =
    let end : FuseData = at_step a v (Ended (Some z)) in
    let tail : Walks (at_step a v (passed a.max z)) (last ++ made) end =
    walk_append (at_step a v (passed a.max z)) (at_step a v (Storing z 0)) end last made (last_walk a v z last ends) (block_walk a v z made some acts) in (
      end,
      from_begin a v events end own
          (subst (λ (xs : List Event). Walks (at_step a v (begun a.max (Some v))) xs end) (sym is)
          (walk_append (at_step a v (begun a.max (Some v))) (at_step a v (passed a.max z)) end (tests_to a v z) (last ++ made) (tests_walk a v z some permitted) tail)),
      refl,
      refl,
    )

pub merging_is_steps : MergingIsSteps
merging_is_steps a events fused.No some merging = nothing_steps a events some merging
merging_is_steps a events (fused.To z) some merging = to_steps a z events some merging
