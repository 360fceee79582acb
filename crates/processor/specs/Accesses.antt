-- What an access is answered, by the L0 block around its address or by the words that it loads (DDI
-- 0487, granule protection checks).
use Rattle.std.specs.Prelude.{ℕ, ◌<◌, Option, Some, None}
use Rattle.gpi_values.specs.declared.gpi.Gpi.{Gpi}
use Rattle.gpi_values.specs.declared.gpi.Space.{Space}
use Rattle.gpi_values.specs.Values.{permits_of}
use Rattle.gpt_descriptors.specs.declared.size.Reach.{Reach}
use Rattle.gpt_descriptors.specs.declared.size.Generations.{Generations}
use Rattle.gpt_descriptors.specs.Sizes.{space_bytes, granule_number, place_in_word, tag_size_of, generation_in}
use Rattle.gpt_descriptors.specs.Entries.{word_gpi, word_reach}
use Rattle.gpt_descriptors.specs.Places.{GeometryData}
use Rattle.walk_cache.specs.declared.walk.Walk.{Walk}
use Rattle.walk_cache.specs.Rings.{first_around}
use Rattle.history.specs.declared.call.Task.{Task}
use Rattle.history.specs.declared.call.Task.TheVariants as task
use Rattle.history.specs.declared.call.Access.{Access}
use Rattle.history.specs.declared.call.Answer.{Answer}
use Rattle.history.specs.declared.call.Answer.TheVariants as answer
use Rattle.history.specs.declared.call.Via.{Via}
use Rattle.history.specs.declared.call.Via.TheVariants as via
use Rattle.history.specs.declared.entry.Entry.{Entry}
use Rattle.history.specs.declared.entry.Entry.TheVariants as entry

-- an access inside the protected space
abbrev pub IsAccess : GeometryData → Task → Type 0
IsAccess g (task.Look pa space) = pa < space_bytes g.setup
IsAccess g t = ⊥

-- ---- at an L0 block

-- the block's GPI decides, at level 0
abbrev pub block_answer : Space → Gpi → Answer
block_answer space gpi = answer.Seen (record {
  allowed = permits_of gpi space;
  gpi = gpi;
  level = 0;
  via = via.Still;
})

-- ---- at an L1 table

-- the walk of an address whose L1 word has this reach: it covers the aligned bytes of the reach, and
-- its tag is the generation of the reach, of those that were loaded before the word
abbrev pub walk_with : Option Reach → ℕ → Generations → ℕ → Option Walk
walk_with None pa k word = None
walk_with (Some reach) pa k word = Some (record {
  reach = reach;
  first = first_around reach pa;
  word = word;
  tag = generation_in (tag_size_of reach) k;
})

-- a word that is no descriptor gives none
abbrev pub walk_of : ℕ → Generations → ℕ → Option Walk
walk_of pa k word = walk_with (word_reach word) pa k word

-- the GPI that a walk gives the granule of an address that it covers
abbrev pub walk_gpi : GeometryData → ℕ → Walk → Option Gpi
walk_gpi g pa walk = word_gpi walk.word (place_in_word g.setup pa)

-- this GPI decides, at level 1
abbrev pub table_access : Space → Gpi → Via → Access
table_access space gpi v =
    record { allowed = permits_of gpi space; gpi = gpi; level = 1; via = v }

-- the entry of call n of caller c, an access that this GPI decides
abbrev pub looked_entry : GeometryData → ℕ → ℕ → ℕ → Space → Gpi → Entry
looked_entry g c n pa space gpi =
    entry.Looked c n (granule_number g.setup pa) space gpi (permits_of gpi space)
