-- Runs of an agent's stores: those of a splitting and of merging.
use Rattle.std.specs.Prelude.{◌≡◌, ℕ, zero, suc, ◌<◌, ◌⊎◌, Some}
use Rattle.shared_words.specs.declared.act.StoreRun.{StoreRun}
use Rattle.shared_words.specs.Acts.{store_in}
use Rattle.shatter.specs.Splitting as splitting
use Rattle.fuse.specs.Merging as fuse
use Rattle.delegate_ops.specs.InnerStages.{Stage}
use Rattle.delegate_ops.specs.InnerStages as stage
use Rattle.delegate_ops.specs.InnerAgents.{AgentData, next_of, took_of, split_stage, merged_stage}
use Rattle.delegate_ops.specs.InnerTransition.{TransitionData, goes_by}

-- the agent after its next n acts, which are stores
unfoldable pub stored_by : ℕ → AgentData → AgentData
stored_by zero a = a
stored_by (suc n) a = took_of (stored_by n a) 0

-- the stores of this run are its next acts
abbrev pub AreNext : StoreRun → AgentData → Type 0
AreNext run a = (k : ℕ) → k < run.count → next_of (stored_by k a) ≡ Some (store_in run k)

-- the next act is a store of a splitting or of merging
abbrev pub IsStoring : Stage → Type 0
IsStoring (stage.Splitting z d k) = Unit {0}
IsStoring (stage.Merging f k) = fuse.IsStoring f.step
IsStoring s = ⊥

-- ---- a transition that makes one

-- these are its next stores, and it goes on after them
abbrev pub MakesStores : Stage → TransitionData → StoreRun → TransitionData → Type 0
MakesStores (stage.Splitting z s k) d run e =
    splitting.AreNext run s
    × (e ≡ goes_by d (split_stage d.task z (splitting.advanced_by run.count s) k))
MakesStores (stage.Merging f k) d run e =
    fuse.AreNext run f × (e ≡ goes_by d (merged_stage (fuse.stored_by run.count f) k))
MakesStores s d run e = ⊥

-- it makes no store, or these
abbrev pub MakesRun : TransitionData → StoreRun → TransitionData → Type 0
MakesRun d run e =
    ((run.count ≡ 0) × (e ≡ d)) ⊎ ((0 < run.count) × MakesStores d.stage d run e)
