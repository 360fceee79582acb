-- Merging by its acts and the words that they answered, with no step: which lists of events are a
-- whole merging with an outcome, and which are a prefix of one. The test of a size loads its words
-- in rising order and ends at the first that differs from the needed one; a size is tested where it
-- is permitted and the one before it passed; the words of the largest block whose tests all passed
-- are stored in rising order.
use Rattle.std.specs.Prelude.{◌≡◌, ◌≢◌, ℕ, ◌+◌, ◌<◌, ◌⊎◌, true, false, List, [], ◌∷◌, ◌++◌, map, Some, None}
use Rattle.std.specs.List.{range_with_len}
use Rattle.gpi_values.specs.declared.gpi.Gpi.{Gpi}
use Rattle.gpt_descriptors.specs.declared.size.Size.{Size}
use Rattle.gpt_descriptors.specs.declared.size.Size.TheVariants as size
use Rattle.gpt_descriptors.specs.declared.entry.L1Entry.TheVariants as l1
use Rattle.gpt_descriptors.specs.Sizes.{is_permitted}
use Rattle.gpt_descriptors.specs.Entries.{l1_word}
use Rattle.gpt_descriptors.specs.Fields.{granules_of}
use Rattle.shared_words.specs.declared.act.Act.{Act}
use Rattle.shared_words.specs.declared.act.Act.TheVariants as act
use Rattle.shared_words.specs.Events.{Event, acts_in}
use Rattle.table_meaning.specs.Fusing.{block_words, loads_of, load_at, store_at, needed_word}
use Rattle.fuse.specs.declared.outcome.Fused.{Fused}
use Rattle.fuse.specs.declared.outcome.Fused.TheVariants as fused
use Rattle.fuse.specs.Merging.{FuseData, next_of, took_of, outcome_of, Around, begin_of}

-- ---- tests

-- load k of the test of a size, answered by this word
abbrev pub load_event : Around → Size → ℕ → ℕ → Event
load_event a z k word = record { act = act.Load (a.first + load_at a.two a.own z k); old = word }

-- the first k loads of the test of a size, each answered by the needed word
abbrev pub passing : Around → Gpi → Size → ℕ → List Event
passing a v z k = map (λ j. load_event a z j (needed_word v z)) (range_with_len 0 k)

-- a test that ends at the first word that differs
abbrev pub IsStopped : Around → Gpi → Size → List Event → Type 0
IsStopped a v z events =
    (k : ℕ) × (word : ℕ) × (k < loads_of a.two z) × (word ≢ needed_word v z)
    × (events ≡ passing a v z k ++ load_event a z k word ∷ [])

-- a whole test that passed, and the tests up to that of a size
abbrev pub whole_test : Around → Gpi → Size → List Event
whole_test a v z = passing a v z (loads_of a.two z)

abbrev pub tests_to : Around → Gpi → Size → List Event
tests_to a v size.Two = whole_test a v size.Two
tests_to a v size.ThirtyTwo = whole_test a v size.Two ++ whole_test a v size.ThirtyTwo
tests_to a v size.FiveTwelve =
    (whole_test a v size.Two ++ whole_test a v size.ThirtyTwo) ++ whole_test a v size.FiveTwelve

-- a size isn't tested where it isn't permitted, and else its test stops
abbrev pub IsUntested : Around → Gpi → Size → List Event → Type 0
IsUntested a v z events =
    ((is_permitted a.max z ≡ false) × (events ≡ []))
    ⊎ ((is_permitted a.max z ≡ true) × IsStopped a v z events)

-- the tests beyond that of a size, which is the largest one that passed
abbrev pub EndsTests : Around → Gpi → Size → List Event → Type 0
EndsTests a v size.Two events = IsUntested a v size.ThirtyTwo events
EndsTests a v size.ThirtyTwo events = IsUntested a v size.FiveTwelve events
EndsTests a v size.FiveTwelve events = events ≡ []

-- ---- stores

-- store k of a block of a size
abbrev pub store_act : Around → Gpi → Size → ℕ → Act
store_act a v z k = act.Store (a.first + store_at a.two a.own z k) (l1_word (l1.Contig z v))

abbrev pub stores_of : Around → Gpi → Size → List Act
stores_of a v z = map (store_act a v z) (range_with_len 0 (block_words a.two z))

-- ---- a whole merging, and a prefix of one

-- no size is permitted, the word isn't that of sixteen granules of one GPI, or a word of its 2 MB
-- differs from it
abbrev pub MergesNothing : Around → List Event → Type 0
MergesNothing a events =
    ((is_permitted a.max size.Two ≡ false) × (events ≡ []))
    ⊎ ((((v : Gpi) → a.word ≢ granules_of v) × (events ≡ []))
    ⊎ ((v : Gpi) × (a.word ≡ granules_of v) × (is_permitted a.max size.Two ≡ true)
    × IsStopped a v size.Two events))

-- all tests of this size passed, none of a larger one did, and the words of its block were stored
abbrev pub MergesTo : Around → Size → List Event → Type 0
MergesTo a z events =
    (v : Gpi) × (last : List Event) × (made : List Event)
    × (a.word ≡ granules_of v) × (is_permitted a.max z ≡ true)
    × EndsTests a v z last × (acts_in made ≡ stores_of a v z)
    × (events ≡ tests_to a v z ++ (last ++ made))

abbrev pub IsMerging : Around → Fused → List Event → Type 0
IsMerging a fused.No events = MergesNothing a events
IsMerging a (fused.To z) events = MergesTo a z events

abbrev pub IsPart : Around → List Event → Type 0
IsPart a events = (rest : List Event) × (o : Fused) × IsMerging a o (events ++ rest)

-- ---- the steps walk it

-- from one state to another the steps make these acts, answered by these words
abbrev pub Walks : FuseData → List Event → FuseData → Type 0
Walks d [] e = d ≡ e
Walks d (v ∷ events) e = (next_of d ≡ Some v.act) × Walks (took_of d v.old) events e

-- where they end, what they made is a whole merging with their outcome
abbrev pub StepsAreMerging : Type 0
StepsAreMerging =
    (a : Around) (events : List Event) (e : FuseData) → 0 < a.two → Walks (begin_of a) events e
    → next_of e ≡ None → IsMerging a (outcome_of e) events

-- before, it is a prefix of one
abbrev pub StepsArePart : Type 0
StepsArePart =
    (a : Around) (events : List Event) (e : FuseData) → 0 < a.two → Walks (begin_of a) events e
    → IsPart a events

-- and they can make every whole merging
abbrev pub MergingIsSteps : Type 0
MergingIsSteps =
    (a : Around) (events : List Event) (o : Fused) → 0 < a.two → IsMerging a o events
    → (e : FuseData) × Walks (begin_of a) events e × (next_of e ≡ None) × (outcome_of e ≡ o)
