-- An agent as plain data, its next act, and the agent after an act.
use Rattle.std.specs.Prelude.{◌≡◌, ℕ, ◌+◌, ◌-◌, ◌≤◌, Bool, true, false, not, nat_lt, List, [], ◌∷◌, ◌++◌, length, drop, slice_get, Option, Some, None, ◌==◌, if◌then◌else◌, IsTrue, IsSome, is_some, option_and_then}
use Rattle.std.specs.List.{All}
use Rattle.std.specs.Option.{option_map}
use Rattle.std.specs.Int.Bits.{bit_and}
use Rattle.gpt_descriptors.specs.declared.size.Size.{Size}
use Rattle.gpt_descriptors.specs.declared.size.Size.TheVariants as size
use Rattle.gpt_descriptors.specs.declared.size.Generations.{Generations}
use Rattle.gpt_descriptors.specs.Sizes.{generation_last}
use Rattle.gpt_descriptors.specs.declared.entry.L1Entry.{L1Entry}
use Rattle.gpt_descriptors.specs.declared.entry.L1Entry.TheVariants as l1
use Rattle.gpt_descriptors.specs.Sizes.{words_of}
use Rattle.gpt_descriptors.specs.Entries.{l1_entry}
use Rattle.gpt_descriptors.specs.Fields.{granules_of}
use Rattle.gpt_descriptors.specs.Places.{GeometryData, IsGeometry, Level1, place_of, l1_index_of, l1_place_of}
use Rattle.shatter.specs.Splitting.{SplittingData, next_store, advanced}
use Rattle.fuse.specs.Merging.{FuseData}
use Rattle.fuse.specs.Merging as fuse
use Rattle.shared_words.specs.declared.act.Act.{Act}
use Rattle.shared_words.specs.declared.act.Act.TheVariants as act
use Rattle.bit_locks.specs.Locks.{take_act, release_act}
use Rattle.invalidate.specs.Generations.{gen_load_of, gen_raise_of}
use Rattle.invalidate.specs.Barrier.{BarrierData, next_load, one_passed}
use Rattle.invalidate.specs.Barrier as barrier
use Rattle.alias_clean.specs.Lines.{clean_of}
use Rattle.history.specs.declared.call.Task.{Task}
use Rattle.history.specs.declared.call.Task.TheVariants as task
use Rattle.history.specs.declared.call.Answer.{Answer}
use Rattle.history.specs.declared.call.Answer.TheVariants as answer
use Rattle.delegate_ops.specs.declared.stage.Change.{Change}
use Rattle.delegate_ops.specs.declared.stage.Change.TheVariants as change
use Rattle.delegate_ops.specs.declared.stage.Line.{Line}
use Rattle.delegate_ops.specs.declared.stage.Line.TheVariants as line
use Rattle.delegate_ops.specs.declared.stage.Kept.{Kept}
pub use Rattle.delegate_ops.specs.InnerStages.{Stage, kept_read}
use Rattle.delegate_ops.specs.InnerStages as stage
pub use Rattle.delegate_ops.specs.Deciding.{is_look}
use Rattle.delegate_ops.specs.Deciding.{address_of, idle_answer, looked_answer, generation_in, worn_answer}
use Rattle.delegate_ops.specs.Changing.{first_change, changed_word, raised_at, target_space, space_of_line, word_in_block, splitting_of}
use Rattle.delegate_ops.specs.Script.{lock_bit_of}

pub record AgentData : Type 0 where
  pub geometry : GeometryData
  pub tasks : List Task
  pub answers : List Answer
  pub stage : Stage
  pub waited : Bool

-- ---- tasks

-- the task under way, the first one without an answer
abbrev pub task_of : AgentData → Option Task
task_of a = slice_get a.tasks (length a.answers)

-- an answer, where there is one, and those after it
abbrev pub answered_first : Option Answer → List Answer → List Answer
answered_first None answers = []
answered_first (Some a) answers = a ∷ answers

-- the answers of the tasks without acts that a list begins with
abbrev pub idle_answers : GeometryData → List Task → List Answer
idle_answers g [] = []
idle_answers g (t ∷ tasks) = answered_first (idle_answer g t) (idle_answers g tasks)

-- an agent before its first act
abbrev pub fresh : GeometryData → List Task → AgentData
fresh g tasks = record {
  geometry = g;
  tasks = tasks;
  answers = idle_answers g tasks;
  stage = stage.Locking;
  waited = false;
}

-- ---- acts

-- a place or an index that is there
abbrev pub number_of : Option ℕ → ℕ
number_of None = 0
number_of (Some n) = n

-- the next act of a task at a stage
abbrev pub act_at : GeometryData → Stage → Task → Option Act
act_at g stage.Locking t = Some (take_act (lock_bit_of g t))
act_at g stage.Looking t = option_map act.Load (l1_place_of g (address_of t))
act_at g (stage.Reading z k) t = Some (gen_load_of g z (address_of t))
act_at g (stage.Splitting z d k) t = next_store d
act_at g (stage.Preparing k) t = clean_of g (address_of t) (target_space t)
act_at g (stage.Changing c k) t =
    option_map (λ place. act.Store place (changed_word g t c k.word)) (l1_place_of g (address_of t))
act_at g (stage.Raising c z k) t =
    Some (gen_raise_of g z (address_of t) (generation_in z k.generations))
act_at g (stage.Passing c d k) t = next_load g d
act_at g (stage.Cleaning c l k) t = clean_of g (address_of t) (space_of_line t c l)
act_at g (stage.Merging f k) t = fuse.next_of f
act_at g (stage.Releasing answer) t = Some (release_act (lock_bit_of g t))

-- each task is answered
abbrev pub has_ended : AgentData → Bool
has_ended a = not (is_some (task_of a))

-- the next act of an agent
abbrev pub next_of : AgentData → Option Act
next_of a = option_and_then (act_at a.geometry a.stage) (task_of a)

-- ---- steps

-- the call under way is answered, and with it those after it that have no acts
abbrev pub after_answer : AgentData → Answer → AgentData
after_answer a answer = record {
  geometry = a.geometry;
  tasks = a.tasks;
  answers =
      (a.answers ++ answer ∷ []) ++ idle_answers a.geometry (drop (length a.answers + 1) a.tasks);
  stage = stage.Locking;
  waited = false;
}

-- the call under way goes on, or waits
abbrev pub goes_to : AgentData → Stage → AgentData
goes_to a s = record {
  geometry = a.geometry;
  tasks = a.tasks;
  answers = a.answers;
  stage = s;
  waited = false;
}

abbrev pub waits_at : AgentData → AgentData
waits_at a = record {
  geometry = a.geometry;
  tasks = a.tasks;
  answers = a.answers;
  stage = a.stage;
  waited = true;
}

-- where a transition goes on that has loaded its L1 word and was refused so, if it was
abbrev pub looked_stage : Option Answer → ℕ → Stage
looked_stage (Some refused) word = stage.Releasing refused
looked_stage None word = stage.Reading size.Two (record {
  word = word;
  generations = record { two = 0; thirty_two = 0; five_twelve = 0 };
})

-- where it goes on to its first change
abbrev pub first_stage : Task → Kept → Stage
first_stage (task.Delegate pa source) k = stage.Preparing k
first_stage t k = stage.Changing (first_change t) k

-- where it goes on with all generations loaded, and worn so, if they are
abbrev pub loaded_stage : GeometryData → Task → Option L1Entry → Kept → Stage
loaded_stage g t (Some (l1.Contig z v)) k =
    stage.Splitting z (splitting_of g (address_of t) (number_of (l1_place_of g
    (address_of t))) z v) k.generations
loaded_stage g t e k = first_stage t k

abbrev pub read_all : GeometryData → Option Answer → Task → Kept → Stage
read_all g (Some worn) t k = stage.Releasing worn
read_all g None t k = loaded_stage g t (l1_entry k.word) k

-- where it goes on that has loaded the generation of this size
abbrev pub read_stage : GeometryData → Task → Size → Kept → Stage
read_stage g t size.Two k = stage.Reading size.ThirtyTwo k
read_stage g t size.ThirtyTwo k = stage.Reading size.FiveTwelve k
read_stage g t size.FiveTwelve k = read_all g (worn_answer k.generations) t k

-- where it goes on that has made this much of a splitting
abbrev pub split_stage : Task → Size → SplittingData → Generations → Stage
split_stage t z d k =
    if nat_lt d.made d.words then stage.Splitting z d k else
    first_stage t (record { word = granules_of d.gpi; generations = k })

-- where it goes on that has made this much of merging
abbrev pub merging_stage : Option Act → FuseData → Generations → Stage
merging_stage (Some next) f k = stage.Merging f k
merging_stage None f k = stage.Releasing (answer.Done k)

abbrev pub merged_stage : FuseData → Generations → Stage
merged_stage f k = merging_stage (fuse.next_of f) f k

-- where it goes on to merging, and releases its lock where that has no acts
abbrev pub last_stage : GeometryData → Task → Kept → Stage
last_stage g t k =
    merged_stage (fuse.fuse_of g (number_of (l1_index_of g (address_of t))) k.word) k.generations

-- where it goes on that has passed all processors after a change
abbrev pub passed_stage : GeometryData → Task → Change → Kept → Stage
passed_stage g (task.Undelegate pa source) change.Last k =
    last_stage g (task.Undelegate pa source) k
passed_stage g t c k = stage.Cleaning c line.Former k

-- where it goes on that has come so far in the barrier after a change
abbrev pub passing_stage : GeometryData → Task → Change → BarrierData → Kept → Stage
passing_stage g t c d k =
    if nat_lt d.passed d.cpus then stage.Passing c d k else passed_stage g t c k

-- where it goes on that has cleaned a line after a change
abbrev pub cleaned_stage : GeometryData → Task → Change → Line → Kept → Stage
cleaned_stage g t change.First line.Former k = stage.Cleaning change.First line.NonSecure k
cleaned_stage g t change.First line.NonSecure k = stage.Changing change.Last k
cleaned_stage g t change.Last l k = last_stage g t k

-- where it goes on that has raised the generation of this size
abbrev pub raised_stage : GeometryData → Task → Change → Size → Kept → Stage
raised_stage g t c size.Two k = stage.Raising c size.ThirtyTwo k
raised_stage g t c size.ThirtyTwo k = stage.Raising c size.FiveTwelve k
raised_stage g t c size.FiveTwelve k = passing_stage g t c (barrier.begun g.cpus) k

-- what is kept after an act
abbrev pub kept_changed : GeometryData → Task → Change → Kept → Kept
kept_changed g t c k = record { word = changed_word g t c k.word; generations = k.generations }

abbrev pub kept_raised : Size → Kept → Kept
kept_raised z k = record { word = k.word; generations = raised_at z k.generations }

-- where a task goes on after its act at a stage that answered this word, if it neither waits nor
-- ends there
abbrev pub stage_after : GeometryData → Task → Stage → ℕ → Stage
stage_after g t stage.Locking old = stage.Looking
stage_after g t stage.Looking old = looked_stage (looked_answer g t old) old
stage_after g t (stage.Reading z k) old = read_stage g t z (kept_read z old k)
stage_after g t (stage.Splitting z d k) old = split_stage t z (advanced d) k
stage_after g t (stage.Preparing k) old = stage.Changing change.Last k
stage_after g t (stage.Changing c k) old = stage.Raising c size.Two (kept_changed g t c k)
stage_after g t (stage.Raising c z k) old = raised_stage g t c z (kept_raised z k)
stage_after g t (stage.Passing c d k) old = passing_stage g t c (one_passed d) k
stage_after g t (stage.Cleaning c l k) old = cleaned_stage g t c l k
stage_after g t (stage.Merging f k) old = merged_stage (fuse.took_of f old) k
stage_after g t (stage.Releasing given) old = stage.Releasing given

-- the act was a lock that wasn't free, or a load of a duty word that wasn't 0
abbrev pub is_held : GeometryData → Task → Stage → ℕ → Bool
is_held g t stage.Locking old = not (bit_and old (lock_bit_of g t).mask == 0)
is_held g t (stage.Passing c d k) old = not (old == 0)
is_held g t s old = false

-- the agent after the act of a task at a stage that answered this word
abbrev pub took_at : AgentData → Task → Stage → ℕ → AgentData
took_at a t (stage.Releasing answer) old = after_answer a answer
took_at a t s old =
    if is_held a.geometry t s old then waits_at a else goes_to a (stage_after a.geometry t s old)

abbrev pub took_under_way : AgentData → Option Task → ℕ → AgentData
took_under_way a None old = a
took_under_way a (Some t) old = took_at a t a.stage old

-- the agent after an act that answered this word
abbrev pub took_of : AgentData → ℕ → AgentData
took_of a old = took_under_way a (task_of a) old

-- a turn has changed nothing: there was no next act, or it was a wait after a wait
abbrev pub IsStill : Option Act → Bool → Bool → Type 0
IsStill None before after = Unit {0}
IsStill (Some next) before after = (before ≡ true) × (after ≡ true)

-- ---- which agents there are

-- a word that is loaded as an L1 word is a descriptor
abbrev pub IsReadable : Stage → ℕ → Type 0
IsReadable stage.Looking old = IsTrue (is_some (l1_entry old))
IsReadable s old = Unit {0}

-- the task under way has acts
abbrev pub HasActs : GeometryData → Option Task → Type 0
HasActs g None = Unit {0}
HasActs g (Some t) = idle_answer g t ≡ None

-- a transition makes this change: a delegate the last one alone
abbrev pub IsChangeOf : Task → Change → Type 0
IsChangeOf (task.Delegate pa source) change.Last = Unit {0}
IsChangeOf (task.Undelegate pa source) c = Unit {0}
IsChangeOf t c = ⊥

-- it cleans a line before its change
abbrev pub IsPrepared : Task → Type 0
IsPrepared (task.Delegate pa source) = Unit {0}
IsPrepared t = ⊥

-- it cleans this line after this change
abbrev pub IsCleaned : Task → Change → Line → Type 0
IsCleaned (task.Delegate pa source) change.Last line.Former = Unit {0}
IsCleaned (task.Undelegate pa source) change.First l = Unit {0}
IsCleaned t c l = ⊥

-- each generation can be raised so often before it passes the last one
pub record HasRoom (k : Generations) (l m n : ℕ) : Type 0 where
  pub two : k.two + l ≤ generation_last
  pub thirty_two : k.thirty_two + m ≤ generation_last
  pub five_twelve : k.five_twelve + n ≤ generation_last

-- the raises of a generation from a change on, and after it
abbrev pub raises_from : Change → ℕ
raises_from change.First = 2
raises_from change.Last = 1

abbrev pub raises_after : Change → ℕ
raises_after change.First = 1
raises_after change.Last = 0

abbrev pub HasRoomFor : ℕ → Generations → Type 0
HasRoomFor n k = HasRoom k n n n

-- the next store of splitting is one of the block of a size around the L1 word of an address
pub record IsSplittingOf (g : GeometryData) (pa : ℕ) (z : Size) (d : SplittingData) : Type 0 where
  pub place : ℕ
  pub there : l1_place_of g pa ≡ Some place
  pub first : d.first ≡ place - word_in_block g pa z
  pub own : d.own ≡ word_in_block g pa z
  pub words : d.words ≡ words_of g.setup z
  pub two : d.two ≡ words_of g.setup size.Two
  pub low : nat_lt d.made d.words ≡ true

-- the next act of merging is one around the L1 word of an address
pub record IsMergingOf (g : GeometryData) (pa : ℕ) (f : FuseData) : Type 0 where
  pub index : ℕ
  pub there : l1_index_of g pa ≡ Some index
  pub first : f.first ≡ place_of g (Level1 0)
  pub own : f.own ≡ index
  pub two : f.two ≡ words_of g.setup size.Two
  pub max : f.max ≡ g.setup.max
  pub counted : fuse.IsCounted f.two f.step
  pub some : IsSome (fuse.next_of f)

-- the next act of a barrier is a load of the duty word of a processor
pub record IsBarrierOf (g : GeometryData) (d : BarrierData) : Type 0 where
  pub cpus : d.cpus ≡ g.cpus
  pub low : nat_lt d.passed d.cpus ≡ true

-- an agent without a call left is where it began
abbrev pub IsStage : GeometryData → Stage → Option Task → Type 0
IsStage g s None = s ≡ stage.Locking
IsStage g (stage.Splitting z d k) (Some t) =
    IsSplittingOf g (address_of t) z d × IsChangeOf t (first_change t)
    × HasRoomFor (raises_from (first_change t)) k
IsStage g (stage.Preparing k) (Some t) =
    IsPrepared t × HasRoomFor (raises_from change.Last) k.generations
IsStage g (stage.Changing c k) (Some t) = IsChangeOf t c × HasRoomFor (raises_from c) k.generations
IsStage g (stage.Raising c size.Two k) (Some t) =
    IsChangeOf t c × HasRoomFor (raises_from c) k.generations
IsStage g (stage.Raising c size.ThirtyTwo k) (Some t) =
    IsChangeOf t c × HasRoom k.generations (raises_after c) (raises_from c) (raises_from c)
IsStage g (stage.Raising c size.FiveTwelve k) (Some t) =
    IsChangeOf t c × HasRoom k.generations (raises_after c) (raises_after c) (raises_from c)
IsStage g (stage.Passing c d k) (Some t) =
    IsChangeOf t c × IsBarrierOf g d × HasRoomFor (raises_after c) k.generations
IsStage g (stage.Cleaning c l k) (Some t) =
    IsCleaned t c l × HasRoomFor (raises_after c) k.generations
IsStage g (stage.Merging f k) (Some t) = IsMergingOf g (address_of t) f
IsStage g s (Some t) = Unit {0}

pub record IsAgent (a : AgentData) : Type 0 where
  pub geometry : IsGeometry a.geometry
  pub no_looks : All (λ t. is_look t ≡ false) a.tasks
  pub answered : length a.answers ≤ length a.tasks
  pub acts : HasActs a.geometry (task_of a)
  pub stage : IsStage a.geometry a.stage (task_of a)
