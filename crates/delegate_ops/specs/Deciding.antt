-- What a transition is answered, and by what.
use Rattle.std.specs.Prelude.{◌≡◌, ℕ, ◌%◌, Bool, true, false, not, ◌||◌, ◌==◌, nat_lt, [], ◌∷◌, Option, Some, None, if◌then◌else◌, MatchOption}
use Rattle.std.specs.List.{find}
use Rattle.std.specs.Option.{option_map}
use Rattle.gpi_values.specs.declared.gpi.Gpi.{Gpi}
use Rattle.gpi_values.specs.Values.{value_of}
use Rattle.gpt_descriptors.specs.declared.size.Size.{Size}
use Rattle.gpt_descriptors.specs.declared.size.Size.TheVariants as size
use Rattle.gpt_descriptors.specs.declared.size.Generations.{Generations}
use Rattle.gpt_descriptors.specs.Sizes.{granule_bytes, place_in_word, space_bytes}
pub use Rattle.gpt_descriptors.specs.Sizes.{generation_in}
use Rattle.gpt_descriptors.specs.Entries.{word_gpi}
pub use Rattle.gpt_descriptors.specs.Fields.{is_granules}
use Rattle.gpt_descriptors.specs.Level0.{is_table}
use Rattle.gpt_descriptors.specs.Places.{GeometryData, l0_word_of}
use Rattle.history.specs.declared.call.Task.{Task}
use Rattle.history.specs.declared.call.Task.TheVariants as task
use Rattle.history.specs.declared.call.Answer.{Answer}
use Rattle.history.specs.declared.call.Answer.TheVariants as answer
use Rattle.history.specs.Legality.{needed}
use Rattle.history.specs.Counts.{is_worn}

-- the byte address of a task, where it has one
abbrev pub address_of : Task → ℕ
address_of (task.Delegate pa source) = pa
address_of (task.Undelegate pa source) = pa
address_of task.Unknown = 0
address_of (task.Look pa space) = pa

-- the address isn't aligned to a granule, isn't in the protected space, or has an L0 block
abbrev pub is_unusable : GeometryData → ℕ → Bool
is_unusable g pa =
    not (pa % granule_bytes g.setup == 0) || not (nat_lt pa (space_bytes g.setup))
    || not (is_table (l0_word_of g pa))

-- the answer of a task that has no acts
abbrev pub idle_answer : GeometryData → Task → Option Answer
idle_answer g task.Unknown = Some answer.Unknown
idle_answer g t = if is_unusable g (address_of t) then Some answer.Inval else None

-- the place of an address's granule in its L1 word
abbrev pub granule_place : GeometryData → ℕ → ℕ
granule_place g pa = place_in_word g.setup pa

-- ---- by the L1 word

-- this GPI is the needed one
abbrev pub is_needed : Option Gpi → Gpi → Bool
is_needed None found = false
is_needed (Some gpi) found = value_of gpi == value_of found

-- what a transition is answered that finds this GPI; none where it is the one that it needs
abbrev pub refusal_of : Task → Option Gpi → Option Answer
refusal_of t None = None
refusal_of t (Some found) = if is_needed (needed t) found then None else Some (answer.Perm found)

-- what a transition is answered that loads this L1 word under the lock
abbrev pub looked_answer : GeometryData → Task → ℕ → Option Answer
looked_answer g t word = refusal_of t (word_gpi word (granule_place g (address_of t)))

-- ---- by the generations

-- the first size whose generation is too near to the last one
abbrev pub worn_size : Generations → Option Size
worn_size k =
    find (λ z. is_worn (generation_in z k)) (size.Two ∷ size.ThirtyTwo ∷ size.FiveTwelve ∷ [])

-- what a transition is answered that loads these generations under the lock
abbrev pub worn_answer : Generations → Option Answer
worn_answer k = option_map (λ z. answer.Worn z (generation_in z k)) (worn_size k)

-- ---- causes

-- an access
abbrev pub is_look : Task → Bool
is_look (task.Look pa space) = true
is_look t = false

-- an answer of a transition that has acts
abbrev pub is_decided : Answer → Bool
is_decided (answer.Perm found) = true
is_decided (answer.Worn z value) = true
is_decided (answer.Done generations) = true
is_decided a = false

-- Inval and Unknown are the answers of exactly the calls without acts, each by its cause; a call
-- that has acts is answered Perm, Worn or Done
abbrev pub HasCause : GeometryData → Task → Answer → Type 0
HasCause g t given = MatchOption (idle_answer g t) (is_decided given ≡ true) (λ idle. given ≡ idle)
