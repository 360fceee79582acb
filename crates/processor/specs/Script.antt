-- The script of an access: its acts in their order, each with the word that it answered and the
-- entries that it makes in the history; and what it leaves of the processor's kept walks. A processor
-- is shown to follow it. That the generations are loaded before the L1 word and that of the word's
-- reach again after it, and that an allowed access makes its line resident before its duty word is
-- cleared, is this project's own order.
use Rattle.std.specs.Prelude.{◌≡◌, ◌≢◌, ◌⊎◌, ℕ, ◌+◌, Bool, true, List, [], ◌∷◌, ◌++◌, length, slice_get, Option, Some, None, MatchOption}
use Rattle.gpi_values.specs.declared.gpi.Gpi.{Gpi}
use Rattle.gpi_values.specs.declared.gpi.Space.{Space}
use Rattle.gpt_descriptors.specs.declared.size.Size.TheVariants as size
use Rattle.gpt_descriptors.specs.declared.size.Generations.{Generations}
use Rattle.gpt_descriptors.specs.Sizes.{tag_size_of}
use Rattle.gpt_descriptors.specs.Places.{GeometryData, gen_place_of, l1_place_of, block_gpi_of}
use Rattle.shared_words.specs.declared.act.Act.{Act}
use Rattle.shared_words.specs.declared.act.Act.TheVariants as act
use Rattle.invalidate.specs.Duty.{on_act, off_act}
use Rattle.invalidate.specs.Generations.{gen_load_of}
use Rattle.alias_clean.specs.Lines.{touch_of}
use Rattle.walk_cache.specs.declared.walk.Walk.{Walk}
use Rattle.walk_cache.specs.Rings.{newest_of, last_of}
use Rattle.history.specs.declared.call.Task.{Task}
use Rattle.history.specs.declared.call.Task.TheVariants as task
use Rattle.history.specs.declared.call.Access.{Access}
use Rattle.history.specs.declared.call.OldWalk.{OldWalk}
use Rattle.history.specs.declared.call.Answer.{Answer}
use Rattle.history.specs.declared.call.Answer.TheVariants as answer
use Rattle.history.specs.declared.call.Via.TheVariants as via
use Rattle.history.specs.Events.{CallEvent, plain}
use Rattle.history.specs.Stamps.{walked}
use Rattle.processor.specs.Accesses.{block_answer, walk_of, walk_gpi, table_access, looked_entry}

-- ---- the acts of one access at an L1 table

-- a load that decides the access, and so makes its entry
abbrev pub deciding_load : GeometryData → ℕ → ℕ → ℕ → Space → ℕ → ℕ → Gpi → CallEvent
deciding_load g c n pa space place old gpi = record {
  act = act.Load place;
  old = old;
  made = looked_entry g c n pa space gpi ∷ [];
}

-- It is hit: after its duty word is set, the generation of the newest kept walk that covers its
-- address is loaded, is that walk's tag, and the walk decides.
pub record Hits (g : GeometryData) (p c n pa : ℕ) (space : Space) (kept : List Walk)
    (given : Access) (events : List CallEvent) : Type 0 where
  pub set : ℕ
  pub walk : Walk
  pub gpi : Gpi
  pub newest : newest_of kept pa ≡ Some walk
  pub gives : walk_gpi g pa walk ≡ Some gpi
  pub parts : events ≡ plain (on_act g p) set
      ∷ deciding_load g c n pa space (gen_place_of g (tag_size_of walk.reach) pa) walk.tag gpi ∷ []
  pub is : given ≡ table_access space gpi (via.Hit walk.reach walk.tag)

-- there is no such walk, or its generation was loaded and isn't its tag
abbrev pub IsMissed : Option Walk → Option OldWalk → Type 0
IsMissed None None = Unit {0}
IsMissed (Some walk) (Some old) =
    (old.reach ≡ walk.reach) × (old.tag ≡ walk.tag) × (old.at ≢ walk.tag)
IsMissed found missed = ⊥

abbrev pub tries : GeometryData → ℕ → Option OldWalk → List CallEvent
tries g pa None = []
tries g pa (Some old) = plain (gen_load_of g (tag_size_of old.reach) pa) old.at ∷ []

-- the three generations around an address are loaded
abbrev pub loads : GeometryData → ℕ → Generations → List CallEvent
loads g pa k =
    plain (gen_load_of g size.Two pa) k.two ∷ plain (gen_load_of g size.ThirtyTwo pa) k.thirty_two
    ∷ plain (gen_load_of g size.FiveTwelve pa) k.five_twelve ∷ []

-- It walks the tables: after its duty word is set and no kept walk was hit, it loads the three
-- generations, the L1 word, which decides, and the generation of the word's reach again. The walk is
-- kept as the newest.
pub record Walks (g : GeometryData) (p c n pa : ℕ) (space : Space) (kept : List Walk)
    (given : Access) (later : List Walk) (events : List CallEvent) : Type 0 where
  pub set : ℕ
  pub missed : Option OldWalk
  pub generations : Generations
  pub place : ℕ
  pub word : ℕ
  pub walk : Walk
  pub gpi : Gpi
  pub hi : ℕ
  pub newest : IsMissed (newest_of kept pa) missed
  pub there : l1_place_of g pa ≡ Some place
  pub found : walk_of pa generations word ≡ Some walk
  pub gives : walk_gpi g pa walk ≡ Some gpi
  pub parts : events ≡ plain (on_act g p) set ∷ tries g pa missed ++ loads g pa generations
      ++ deciding_load g c n pa space place word gpi
      ∷ plain (gen_load_of g (tag_size_of walk.reach) pa) hi ∷ []
  pub is : given ≡ table_access space gpi (walked missed walk.reach walk.tag hi)
  pub noted : later ≡ last_of g.setup.ring (kept ++ walk ∷ [])

-- what is found out, and the walks that are kept then
abbrev pub Decides : GeometryData → ℕ → ℕ → ℕ → ℕ → Space → List Walk → Access → List Walk
    → List CallEvent → Type 0
Decides g p c n pa space kept given later events =
    (Hits g p c n pa space kept given events × (later ≡ kept))
    ⊎ Walks g p c n pa space kept given later events

-- the touch of an access, where it is allowed
abbrev pub touches : Option Act → Bool → ℕ → List CallEvent
touches (Some touch) true old = plain touch old ∷ []
touches o allowed old = []

-- Call n of caller c, processor p, is an access at an L1 table. Where it is allowed, it makes the
-- line of its granule in its space resident. Last, its duty word is cleared.
pub record Looks (g : GeometryData) (p c n pa : ℕ) (space : Space) (kept : List Walk)
    (given : Answer) (later : List Walk) (events : List CallEvent) : Type 0 where
  pub access : Access
  pub deciding : List CallEvent
  pub touched : ℕ
  pub cleared : ℕ
  pub decided : Decides g p c n pa space kept access later deciding
  pub parts : events ≡ deciding ++ touches (touch_of g pa space) access.allowed touched
      ++ plain (off_act g p) cleared ∷ []
  pub is : given ≡ answer.Seen access

-- ---- the calls of a processor

-- the events of an access below this L0 block, if there is one: none there
abbrev pub IsLook : GeometryData → ℕ → ℕ → ℕ → ℕ → Space → Option Gpi → List Walk → Answer
    → List Walk → List CallEvent → Type 0
IsLook g p c n pa space (Some gpi) kept given later events =
    (given ≡ block_answer space gpi) × (later ≡ kept) × (events ≡ [])
IsLook g p c n pa space None kept given later events = Looks g p c n pa space kept given later events

-- the events of call n of caller c, processor p, with this answer, and the walks kept before it and
-- after it
abbrev pub IsCall : GeometryData → ℕ → ℕ → ℕ → Task → List Walk → Answer → List Walk
    → List CallEvent → Type 0
IsCall g p c n (task.Look pa space) kept given later events =
    IsLook g p c n pa space (block_gpi_of g pa) kept given later events
IsCall g p c n t kept given later events = ⊥

-- the events of the answered calls, from call n on, in their order
abbrev pub AreCallEvents : GeometryData → ℕ → ℕ → ℕ → List Task → List Walk → List Answer
    → List Walk → List CallEvent → Type 0
AreCallEvents g p c n tasks kept [] later events = (later ≡ kept) × (events ≡ [])
AreCallEvents g p c n [] kept (a ∷ answers) later events = ⊥
AreCallEvents g p c n (t ∷ tasks) kept (a ∷ answers) later events =
    (own : List CallEvent) × (rest : List CallEvent) × (then : List Walk) × (events ≡ own ++ rest)
    × IsCall g p c n t kept a then own
    × AreCallEvents g p c (n + 1) tasks then answers later rest

-- The call under way has acts, and its events are a proper prefix of those that the script allows
-- it.
pub record IsUnderWay (g : GeometryData) (p c n : ℕ) (t : Task) (kept : List Walk)
    (events : List CallEvent) : Type 0 where
  pub rest : List CallEvent
  pub given : Answer
  pub later : List Walk
  pub whole : IsCall g p c n t kept given later (events ++ rest)
  pub proper : rest ≢ []

-- Processor p, which is caller c, follows its script: its events are those of its answered calls,
-- whole and in their order, and then those of the next call, if there is one. Before its first call
-- it keeps no walk.
pub record Follows (g : GeometryData) (p c : ℕ) (tasks : List Task) (answers : List Answer)
    (events : List CallEvent) : Type 0 where
  pub calls : List CallEvent
  pub last : List CallEvent
  pub kept : List Walk
  pub parts : events ≡ calls ++ last
  pub answered : AreCallEvents g p c 0 tasks [] answers kept calls
  pub under_way : MatchOption (slice_get tasks (length answers))
      (last ≡ []) (λ t. IsUnderWay g p c (length answers) t kept last)
