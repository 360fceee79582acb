-- A processor as plain data, its next act, and the processor after an act.
use Rattle.std.specs.Prelude.{◌≡◌, ℕ, zero, suc, ◌+◌, ◌≤◌, ◌<◌, Bool, not, List, [], ◌∷◌, ◌++◌, length, drop, slice_get, Option, Some, None, IsTrue, is_some, true}
use Rattle.std.specs.List.{All}
use Rattle.std.specs.Option.{option_map}
use Rattle.gpt_descriptors.specs.Sizes.{space_bytes}
use Rattle.gpt_descriptors.specs.Entries.{l1_entry, word_reach}
use Rattle.gpt_descriptors.specs.Places.{GeometryData, IsGeometry, block_gpi_of}
use Rattle.shared_words.specs.declared.act.Act.{Act}
use Rattle.walk_cache.specs.declared.walk.Walk.{Walk}
use Rattle.walk_cache.specs.Rings.{RingData, IsRing, first_around, covers}
use Rattle.history.specs.declared.call.Task.{Task}
use Rattle.history.specs.declared.call.Task.TheVariants as task
use Rattle.history.specs.declared.call.Answer.{Answer}
use Rattle.processor.specs.InnerProgress.{Stage}
use Rattle.processor.specs.InnerProgress as stage
use Rattle.processor.specs.Accesses.{IsAccess, block_answer}
use Rattle.processor.specs.InnerProgress.{act_at, after_at, ring_after, answer_at, decided_stage}
use Rattle.shared_words.specs.Next.{old_by, words_after, MayBeMade}
use Rattle.history.specs.declared.call.Access.{Access}

pub record CpuData : Type 0 where
  pub geometry : GeometryData
  pub number : ℕ
  pub tasks : List Task
  pub answers : List Answer
  pub cache : RingData
  pub stage : Stage

-- ---- tasks

-- the task under way, the first one without an answer
abbrev pub task_of : CpuData → Option Task
task_of q = slice_get q.tasks (length q.answers)

-- the answer of an access that has no acts, since its L0 entry is a block
abbrev pub idle_answer : GeometryData → Task → Option Answer
idle_answer g (task.Look pa space) = option_map (block_answer space) (block_gpi_of g pa)
idle_answer g t = None

-- an answer, where there is one, and those after it
abbrev pub answered_first : Option Answer → List Answer → List Answer
answered_first None answers = []
answered_first (Some a) answers = a ∷ answers

-- the answers of the accesses without acts that a list begins with
abbrev pub idle_answers : GeometryData → List Task → List Answer
idle_answers g [] = []
idle_answers g (t ∷ tasks) = answered_first (idle_answer g t) (idle_answers g tasks)

-- processor p before its first act
abbrev pub fresh : GeometryData → ℕ → List Task → CpuData
fresh g p tasks = record {
  geometry = g;
  number = p;
  tasks = tasks;
  answers = idle_answers g tasks;
  cache = record { walks = []; ring = g.setup.ring };
  stage = stage.Starting;
}

-- ---- acts

-- each access is answered
abbrev pub has_ended : CpuData → Bool
has_ended q = not (is_some (task_of q))

-- the next act at a task
abbrev pub next_at : CpuData → Option Task → Option Act
next_at q (Some (task.Look pa space)) = act_at q.geometry q.number pa space q.stage
next_at q t = None

-- the next act of a processor
abbrev pub next_of : CpuData → Option Act
next_of q = next_at q (task_of q)

-- ---- steps

-- the access under way is answered, and with it those after it that have no acts
abbrev pub after_answer : CpuData → Answer → CpuData
after_answer q answer = record {
  geometry = q.geometry;
  number = q.number;
  tasks = q.tasks;
  answers =
      (q.answers ++ answer ∷ []) ++ idle_answers q.geometry (drop (length q.answers + 1) q.tasks);
  cache = q.cache;
  stage = stage.Starting;
}

-- the access under way goes on, and the ring is this
abbrev pub goes_to : CpuData → RingData → Stage → CpuData
goes_to q r s = record {
  geometry = q.geometry;
  number = q.number;
  tasks = q.tasks;
  answers = q.answers;
  cache = r;
  stage = s;
}

-- the processor after an act that ends its access with this answer, or after which it goes on so
abbrev pub ends_or_goes : CpuData → Option Answer → RingData → Stage → CpuData
ends_or_goes q (Some answer) r s = after_answer q answer
ends_or_goes q None r s = goes_to q r s

abbrev pub took_at : CpuData → Option Task → ℕ → CpuData
took_at q (Some (task.Look pa space)) old =
    ends_or_goes q (answer_at q.stage) (ring_after q.stage q.cache)
    (after_at q.geometry q.cache.walks pa space q.stage old)
took_at q t old = q

-- the processor after an act that answered this word
abbrev pub took_of : CpuData → ℕ → CpuData
took_of q old = took_at q (task_of q) old

-- a processor and the words after its next act, and after its next n acts
abbrev pub turned_once : CpuData × List ℕ → CpuData × List ℕ
turned_once s = (took_of s.0 (old_by (next_of s.0) s.1), words_after (next_of s.0) s.1)

abbrev pub turned : ℕ → CpuData × List ℕ → CpuData × List ℕ
turned zero s = s
turned (suc n) s = turned_once (turned n s)

-- a processor whose access under way is decided so
abbrev pub decided : CpuData → Access → CpuData
decided q access = goes_to q q.cache (decided_stage access)

-- and before its last act
abbrev pub leaving : CpuData → Access → CpuData
leaving q access = goes_to q q.cache (stage.Leaving access)

-- its duty word: 1 from the first act of an access to the last one
abbrev pub duty_at : Stage → ℕ
duty_at stage.Starting = 0
duty_at s = 1

-- ---- which processors there are

-- a word that is loaded as an L1 word is a descriptor
abbrev pub IsReadable : Stage → ℕ → Type 0
IsReadable (stage.Walking k m) old = IsTrue (is_some (l1_entry old))
IsReadable s old = Unit {0}

-- the next act may be made on these words
abbrev pub MayTurn : CpuData × List ℕ → Type 0
MayTurn s = MayBeMade (next_of s.0) s.1 × IsReadable s.0.stage (old_by (next_of s.0) s.1)

-- the task under way has acts
abbrev pub HasActs : GeometryData → Option Task → Type 0
HasActs g None = Unit {0}
HasActs g (Some t) = idle_answer g t ≡ None

-- a walk that was made in the protected space: its word is a descriptor of its reach, and it covers
-- the aligned bytes of that
pub record IsWalk (g : GeometryData) (w : Walk) : Type 0 where
  pub word : word_reach w.word ≡ Some w.reach
  pub aligned : first_around w.reach w.first ≡ w.first
  pub inside : w.first < space_bytes g.setup

-- and it covers this address
abbrev pub IsWalkAt : GeometryData → ℕ → Walk → Type 0
IsWalkAt g pa w = IsWalk g w × (covers w pa ≡ true)

-- the walk that an access under way has found or made is one around its address
abbrev pub IsAccessAt : GeometryData → ℕ → Stage → Type 0
IsAccessAt g pa (stage.Trying w) = IsWalkAt g pa w
IsAccessAt g pa (stage.Closing w m) = IsWalkAt g pa w
IsAccessAt g pa s = Unit {0}

-- a processor without an access left is where it began
abbrev pub IsAt : GeometryData → Option Task → Stage → Type 0
IsAt g (Some (task.Look pa space)) s = IsAccessAt g pa s
IsAt g o s = s ≡ stage.Starting

pub record IsCpu (q : CpuData) : Type 0 where
  pub geometry : IsGeometry q.geometry
  pub number : q.number < q.geometry.cpus
  pub accesses : All (IsAccess q.geometry) q.tasks
  pub answered : length q.answers ≤ length q.tasks
  pub acts : HasActs q.geometry (task_of q)
  pub ring : IsRing q.cache
  pub keeps : q.cache.ring ≡ q.geometry.setup.ring
  pub walks : All (IsWalk q.geometry) q.cache.walks
  pub stage : IsAt q.geometry (task_of q) q.stage
