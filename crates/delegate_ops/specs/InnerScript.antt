-- The events of an agent by its stage: the machinery that shows that it follows its script.
use Rattle.std.specs.Prelude.{◌≡◌, ℕ, List, [], ◌∷◌, ◌++◌, length, drop, map, Option, Some, None}
use Rattle.std.specs.List.{All}
use Rattle.gpi_values.specs.declared.gpi.Space.TheVariants as space
use Rattle.gpt_descriptors.specs.declared.size.Size.{Size}
use Rattle.gpt_descriptors.specs.declared.size.Size.TheVariants as size
use Rattle.gpt_descriptors.specs.declared.size.Generations.{Generations}
use Rattle.gpt_descriptors.specs.Fields.{granules_of}
use Rattle.gpt_descriptors.specs.Places.{GeometryData, l1_index_of, l1_place_of}
use Rattle.shared_words.specs.Events.{Event}
use Rattle.shatter.specs.Splitting.{splitting_stores}
use Rattle.fuse.specs.Merging.{FuseData, fuse_of}
use Rattle.fuse.specs.Script.{Walks}
use Rattle.invalidate.specs.Generations.{gen_load_of, gen_raise_of}
use Rattle.invalidate.specs.Barrier.{BarrierData}
use Rattle.history.specs.declared.call.Task.{Task}
use Rattle.history.specs.declared.call.Task.TheVariants as task
use Rattle.history.specs.Events.{CallEvent, plain, plain_event}
use Rattle.delegate_ops.specs.declared.stage.Change.{Change}
use Rattle.delegate_ops.specs.declared.stage.Change.TheVariants as change
use Rattle.delegate_ops.specs.declared.stage.Line.{Line}
use Rattle.delegate_ops.specs.declared.stage.Line.TheVariants as line
use Rattle.delegate_ops.specs.declared.stage.Kept.{Kept}
use Rattle.delegate_ops.specs.InnerStages.{Stage}
use Rattle.delegate_ops.specs.InnerStages as stage
use Rattle.delegate_ops.specs.Deciding.{address_of, looked_answer}
use Rattle.delegate_ops.specs.Changing.{changed_word, raised_at, raised, target_space, former_space}
use Rattle.delegate_ops.specs.Script.{IsWait, TakesLock, Looks, Part, Passes, IsBusy, ArePassed, plain_part, cleans, Changes, Decides, AreCallEvents, last_raise, raises, change_parts, kept_after, kept_split, transition_parts, all_parts, last_word, last_generations}
use Rattle.delegate_ops.specs.InnerAgents.{AgentData, task_of, IsBarrierOf}

-- the loads of generations before that of this size
abbrev pub reads_before : GeometryData → ℕ → Size → Generations → List CallEvent
reads_before g pa size.Two k = []
reads_before g pa size.ThirtyTwo k = plain (gen_load_of g size.Two pa) k.two ∷ []
reads_before g pa size.FiveTwelve k = plain (gen_load_of g size.Two pa) k.two
    ∷ plain (gen_load_of g size.ThirtyTwo pa) k.thirty_two ∷ []

pub record IsReading (g : GeometryData) (t : Task) (z : Size) (k : Kept) (events : List CallEvent)
    : Type 0 where
  pub place : ℕ
  pub looking : List CallEvent
  pub looked : Looks g t place k.word [] looking
  pub needed : looked_answer g t k.word ≡ None
  pub parts : events ≡ looking ++ reads_before g (address_of t) z k.generations

-- the raises from that of this size on, with the barrier after them, and what is kept after them
abbrev pub raises_at : GeometryData → ℕ → ℕ → Task → Size → Generations → List Part
raises_at g c n t size.Two k = raises g c n t k
raises_at g c n t size.ThirtyTwo k =
    plain_part (gen_raise_of g size.ThirtyTwo (address_of t) k.thirty_two)
    ∷ last_raise g c n t k ∷ Passes ∷ []
raises_at g c n t size.FiveTwelve k = last_raise g c n t k ∷ Passes ∷ []

abbrev pub kept_raised_at : Size → Kept → Kept
kept_raised_at size.Two k = record { word = k.word; generations = raised k.generations }
kept_raised_at size.ThirtyTwo k = record {
  word = k.word;
  generations = raised_at size.FiveTwelve (raised_at size.ThirtyTwo k.generations);
}
kept_raised_at size.FiveTwelve k = record {
  word = k.word;
  generations = raised_at size.FiveTwelve k.generations;
}

-- the parts that are still to come after the barrier of a change: the cleans from this line on, and
-- what follows them
abbrev pub last_cleans : GeometryData → Task → List Part
last_cleans g (task.Delegate pa source) = cleans g (task.Delegate pa source) space.NonSecure
last_cleans g t = []

abbrev pub parts_from : GeometryData → ℕ → ℕ → Task → ℕ → Change → Line → Kept → List Part
parts_from g c n t place change.First line.Former k =
    cleans g t (former_space t change.First)
    ++ (cleans g t space.NonSecure ++ change_parts g c n t place change.Last k)
parts_from g c n t place change.First line.NonSecure k =
    cleans g t space.NonSecure ++ change_parts g c n t place change.Last k
parts_from g c n t place change.Last l k = last_cleans g t

abbrev pub parts_after : GeometryData → ℕ → ℕ → Task → ℕ → Change → Kept → List Part
parts_after g c n t place ch k = parts_from g c n t place ch line.Former k

-- from a change on
abbrev pub change_on : GeometryData → ℕ → ℕ → Task → ℕ → Change → Kept → List Part
change_on g c n t place ch k =
    change_parts g c n t place ch k ++ parts_after g c n t place ch (kept_after g t ch k)

-- what they leave of generations and word
abbrev pub generations_after : Change → Generations → Generations
generations_after change.First k = raised k
generations_after change.Last k = k

abbrev pub word_after_change : GeometryData → Task → Change → ℕ → ℕ
word_after_change g t change.First word = changed_word g t change.Last word
word_after_change g t change.Last word = word

-- a transition that has made its loads and the first of its other parts up to merging, so that these
-- are still to come
pub record IsChanging (g : GeometryData) (c n : ℕ) (t : Task) (place : ℕ) (to_come : List Part)
    (last : Generations) (word : ℕ) (events : List CallEvent) : Type 0 where
  pub kept : Kept
  pub made : List Part
  pub changes : Changes g t place kept made events
  pub whole : made ++ to_come ≡ all_parts g c n t place kept
  pub generations : last ≡ last_generations t kept.generations
  pub word_is : word ≡ last_word g t (kept_split kept).word

-- a barrier that has passed some processors, and waits for the next one
pub record IsPassing (g : GeometryData) (passed : ℕ) (events : List CallEvent) : Type 0 where
  pub before : List CallEvent
  pub waits : List CallEvent
  pub are : ArePassed g passed before
  pub busy : All (IsBusy g passed) waits
  pub parts : events ≡ before ++ waits

-- a transition that is in the barrier after a change
pub record IsPassingAt (g : GeometryData) (c n : ℕ) (t : Task) (place : ℕ) (d : BarrierData)
    (to_come : List Part) (last : Generations) (word : ℕ) (events : List CallEvent)
    : Type 0 where
  pub changing : List CallEvent
  pub passing : List CallEvent
  pub barrier : IsBarrierOf g d
  pub changed : IsChanging g c n t place (Passes ∷ to_come) last word changing
  pub passes : IsPassing g d.passed passing
  pub parts : events ≡ changing ++ passing

-- a transition that has changed its granule, and made some acts of merging
pub record IsMergingAt (g : GeometryData) (c n : ℕ) (t : Task) (f : FuseData) (last : Generations)
    (events : List CallEvent) : Type 0 where
  pub place : ℕ
  pub word : ℕ
  pub index : ℕ
  pub changing : List CallEvent
  pub merging : List Event
  pub there : l1_index_of g (address_of t) ≡ Some index
  pub changed : IsChanging g c n t place [] last word changing
  pub walks : Walks (fuse_of g index word) merging f
  pub parts : events ≡ changing ++ map plain_event merging

-- the events of the call under way, at each stage
abbrev pub IsPrefix : GeometryData → ℕ → ℕ → Stage → Option Task → List CallEvent → Type 0
IsPrefix g c n s None events = events ≡ []
IsPrefix g c n stage.Locking (Some t) events = All (IsWait g t) events
IsPrefix g c n stage.Looking (Some t) events = TakesLock g t events
IsPrefix g c n (stage.Reading z k) (Some t) events = IsReading g t z k events
IsPrefix g c n (stage.Splitting z d k) (Some t) events =
    (place : ℕ) × (l1_place_of g (address_of t) ≡ Some place)
    × IsChanging g c n t place
    (map plain_part (drop d.made (splitting_stores d))
    ++ transition_parts g c n t place (record { word = granules_of d.gpi; generations = k }))
    (last_generations t k) (last_word g t (granules_of d.gpi)) events
IsPrefix g c n (stage.Preparing k) (Some t) events =
    (place : ℕ) × (l1_place_of g (address_of t) ≡ Some place)
    × IsChanging g c n t place
    (cleans g t (target_space t) ++ change_on g c n t place change.Last k)
    (raised k.generations) (changed_word g t change.Last k.word) events
IsPrefix g c n (stage.Changing ch k) (Some t) events =
    (place : ℕ) × (l1_place_of g (address_of t) ≡ Some place)
    × IsChanging g c n t place (change_on g c n t place ch k)
    (generations_after ch (raised k.generations)) (word_after_change g t ch
    (changed_word g t ch k.word)) events
IsPrefix g c n (stage.Raising ch z k) (Some t) events =
    (place : ℕ) × (l1_place_of g (address_of t) ≡ Some place)
    × IsChanging g c n t place
    (raises_at g c n t z k.generations ++ parts_after g c n t place ch (kept_raised_at z k))
    (generations_after ch (kept_raised_at z k).generations) (word_after_change g t ch k.word) events
IsPrefix g c n (stage.Passing ch d k) (Some t) events =
    (place : ℕ) × (l1_place_of g (address_of t) ≡ Some place)
    × IsPassingAt g c n t place d (parts_after g c n t place ch k)
    (generations_after ch k.generations) (word_after_change g t ch k.word) events
IsPrefix g c n (stage.Cleaning ch l k) (Some t) events =
    (place : ℕ) × (l1_place_of g (address_of t) ≡ Some place)
    × IsChanging g c n t place (parts_from g c n t place ch l k)
    (generations_after ch k.generations) (word_after_change g t ch k.word) events
IsPrefix g c n (stage.Merging f k) (Some t) events = IsMergingAt g c n t f k events
IsPrefix g c n (stage.Releasing given) (Some t) events = Decides g c n t given events

-- Caller c, an agent, has come to its stage by these events.
pub record HasWalked (c : ℕ) (a : AgentData) (events : List CallEvent) : Type 0 where
  pub calls : List CallEvent
  pub last : List CallEvent
  pub parts : events ≡ calls ++ last
  pub answered : AreCallEvents a.geometry c 0 a.tasks a.answers calls
  pub under_way : IsPrefix a.geometry c (length a.answers) a.stage (task_of a) last
