-- What a transition changes: the GPI of its granule in the L1 word, the generations around it, the
-- lines of its granule, and, before that, the words of a contiguous block that holds it (TF-A
-- gpt_rme, shattering of contiguous descriptors).
use Rattle.std.specs.Prelude.{ℕ, ◌+◌, ◌-◌, ◌/◌, ◌%◌, List, [], Option, Some}
use Rattle.gpi_values.specs.declared.gpi.Gpi.{Gpi}
use Rattle.gpi_values.specs.declared.gpi.Gpi.TheVariants as gpi
use Rattle.gpi_values.specs.declared.gpi.Space.{Space}
use Rattle.gpi_values.specs.declared.gpi.Space.TheVariants as space
use Rattle.gpi_values.specs.declared.security.Source.{Source}
use Rattle.gpi_values.specs.declared.security.Source.TheVariants as source
use Rattle.gpi_values.specs.Values.{value_of, own_of}
use Rattle.gpt_descriptors.specs.declared.size.Size.{Size}
use Rattle.gpt_descriptors.specs.declared.size.Generations.{Generations}
pub use Rattle.gpt_descriptors.specs.Sizes.{with_generation}
use Rattle.gpt_descriptors.specs.declared.size.Size.TheVariants as size
use Rattle.gpt_descriptors.specs.declared.entry.L1Entry.{L1Entry}
use Rattle.gpt_descriptors.specs.declared.entry.L1Entry.TheVariants as l1
use Rattle.gpt_descriptors.specs.Sizes.{word_bytes, words_of}
use Rattle.gpt_descriptors.specs.Fields.{with_field, granules_of}
use Rattle.gpt_descriptors.specs.Places.{GeometryData}
use Rattle.shared_words.specs.declared.act.Act.{Act}
use Rattle.shatter.specs.Splitting.{SplittingData, started, splitting_stores}
use Rattle.history.specs.declared.call.Task.{Task}
use Rattle.history.specs.declared.call.Task.TheVariants as task
use Rattle.delegate_ops.specs.declared.stage.Change.{Change}
use Rattle.delegate_ops.specs.declared.stage.Change.TheVariants as change
use Rattle.delegate_ops.specs.declared.stage.Line.{Line}
use Rattle.delegate_ops.specs.declared.stage.Line.TheVariants as line
use Rattle.delegate_ops.specs.Deciding.{address_of, granule_place, generation_in}

-- the first change that a transition makes: a delegate has the last one alone
abbrev pub first_change : Task → Change
first_change (task.Undelegate pa source) = change.First
first_change t = change.Last

-- the GPI from which, and to which, a change takes the granule
abbrev pub from_of : Task → Change → Gpi
from_of (task.Undelegate pa source) change.First = own_of source
from_of (task.Undelegate pa source) change.Last = gpi.NoAccess
from_of t c = gpi.NonSecure

abbrev pub to_of : Task → Change → Gpi
to_of (task.Delegate pa source) c = own_of source
to_of (task.Undelegate pa source) change.First = gpi.NoAccess
to_of t c = gpi.NonSecure

-- the L1 word after a change
abbrev pub changed_word : GeometryData → Task → Change → ℕ → ℕ
changed_word g t c word = with_field word (granule_place g (address_of t)) (value_of (to_of t c))

-- the generations with one of them raised
abbrev pub raised_at : Size → Generations → Generations
raised_at z k = with_generation z (generation_in z k + 1) k

-- all three raised
abbrev pub raised : Generations → Generations
raised k = record {
  two = k.two + 1;
  thirty_two = k.thirty_two + 1;
  five_twelve = k.five_twelve + 1;
}

-- ---- the spaces whose lines of the granule are cleaned

-- the space of a source
abbrev pub own_space : Source → Space
own_space source.Realm = space.Realm
own_space source.Secure = space.Secure

-- a delegate cleans that of its target before its change
abbrev pub target_space : Task → Space
target_space (task.Delegate pa source) = own_space source
target_space t = space.NonSecure

-- and each change is followed by cleaning of the one that its former GPI permits; for the last
-- change of an undelegate, which is from no access, this value isn't used
abbrev pub former_space : Task → Change → Space
former_space (task.Undelegate pa source) change.First = own_space source
former_space t c = space.NonSecure

abbrev pub space_of_line : Task → Change → Line → Space
space_of_line t c line.Former = former_space t c
space_of_line t c line.NonSecure = space.NonSecure

-- ---- splitting of a contiguous block, before the change

-- the number of the address's L1 word in its block of a size, counted from the block's first word
abbrev pub word_in_block : GeometryData → ℕ → Size → ℕ
word_in_block g pa z = pa / word_bytes g.setup % words_of g.setup z

-- the splitting of the block of this size and GPI around the L1 word of an address, which is at
-- this place
abbrev pub splitting_of : GeometryData → ℕ → ℕ → Size → Gpi → SplittingData
splitting_of g pa place z v =
    started (place - word_in_block g pa z) (word_in_block g pa z) v
    (words_of g.setup z) (words_of g.setup size.Two)

-- its stores, where the word is contiguous
abbrev pub split_stores : GeometryData → ℕ → ℕ → Option L1Entry → List Act
split_stores g pa place (Some (l1.Contig z v)) = splitting_stores (splitting_of g pa place z v)
split_stores g pa place e = []

-- the word after them
abbrev pub word_split : ℕ → Option L1Entry → ℕ
word_split word (Some (l1.Contig z v)) = granules_of v
word_split word e = word
