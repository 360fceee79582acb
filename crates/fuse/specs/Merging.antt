-- Merging of contiguous blocks (TF-A gpt_rme, fusing of contiguous descriptors) as plain data, a
-- load or a store at a time. What is loaded and stored is named by its number among the L1 words,
-- which are in a row from their first place on.
use Rattle.std.specs.Prelude.{◌≡◌, ℕ, zero, suc, ◌+◌, ◌*◌, ◌^◌, ◌<◌, Bool, ◌&&◌, is_some, Option, Some, None}
use Rattle.gpi_values.specs.declared.gpi.Gpi.{Gpi}
use Rattle.gpi_values.specs.declared.gpi.Gpi.TheVariants as gpi
use Rattle.gpt_descriptors.specs.declared.size.Size.TheVariants as size
use Rattle.gpt_descriptors.specs.declared.size.MaxBlock.{MaxBlock}
use Rattle.gpt_descriptors.specs.declared.entry.L1Entry.TheVariants as l1
use Rattle.gpt_descriptors.specs.Sizes.{words_of, is_permitted}
use Rattle.gpt_descriptors.specs.Entries.{l1_word}
use Rattle.gpt_descriptors.specs.Fields.{equal_gpi}
use Rattle.gpt_descriptors.specs.Places.{GeometryData, Level1, place_of}
use Rattle.shared_words.specs.declared.act.Act.{Act}
use Rattle.shared_words.specs.declared.act.Act.TheVariants as act
use Rattle.shared_words.specs.declared.act.StoreRun.{StoreRun}
use Rattle.shared_words.specs.Acts.{store_in}
use Rattle.table_meaning.specs.declared.fusing.Fusing.{Fusing}
use Rattle.table_meaning.specs.declared.fusing.Fusing.TheVariants.{Testing, Storing, Ended}
use Rattle.table_meaning.specs.Fusing.{block_words, loads_of, load_at, store_at, loaded, stored, begun}
use Rattle.fuse.specs.declared.outcome.Fused.{Fused}
use Rattle.fuse.specs.declared.outcome.Fused.TheVariants as fused

-- the place of the first L1 word, the number of the granule's word among the L1 words, how many
-- words 2 MB have, the largest permitted size, the GPI of the granule's word, and where merging is
pub record FuseData : Type 0 where
  pub first : ℕ
  pub own : ℕ
  pub two : ℕ
  pub max : MaxBlock
  pub gpi : Gpi
  pub step : Fusing

-- the next act: a test load, then the stores; none where merging has ended
abbrev pub act_at : ℕ → ℕ → ℕ → Gpi → Fusing → Option Act
act_at first own two gpi (Testing z k) = Some (act.Load (first + load_at two own z k))
act_at first own two gpi (Storing z k) =
    Some (act.Store (first + store_at two own z k) (l1_word (l1.Contig z gpi)))
act_at first own two gpi (Ended o) = None

abbrev pub next_of : FuseData → Option Act
next_of d = act_at d.first d.own d.two d.gpi d.step

-- after it, by the word that it answered
abbrev pub after_at : ℕ → MaxBlock → Gpi → Fusing → ℕ → Fusing
after_at two max gpi (Testing z k) old = loaded two max gpi z k old
after_at two max gpi (Storing z k) old = stored two z k
after_at two max gpi (Ended o) old = Ended o

abbrev pub took_of : FuseData → ℕ → FuseData
took_of d old = record {
  first = d.first;
  own = d.own;
  two = d.two;
  max = d.max;
  gpi = d.gpi;
  step = after_at d.two d.max d.gpi d.step old;
}

-- after the next n acts, which are stores
unfoldable pub stored_by : ℕ → FuseData → FuseData
stored_by zero d = d
stored_by (suc n) d = took_of (stored_by n d) 0

-- the stores of this run are the next acts
abbrev pub AreNext : StoreRun → FuseData → Type 0
AreNext run d = (k : ℕ) → k < run.count → next_of (stored_by k d) ≡ Some (store_in run k)

-- the next act is a store
abbrev pub IsStoring : Fusing → Type 0
IsStoring (Storing z k) = Unit {0}
IsStoring f = ⊥

-- the outcome
abbrev pub outcome_at : Fusing → Fused
outcome_at (Ended (Some z)) = fused.To z
outcome_at f = fused.No

abbrev pub outcome_of : FuseData → Fused
outcome_of d = outcome_at d.step

-- no GPI is kept of a word without sixteen equal ones, and none is asked for
abbrev pub gpi_or_none : Option Gpi → Gpi
gpi_or_none (Some v) = v
gpi_or_none None = gpi.NoAccess

-- ---- the start

-- what merging is around: the place of the first L1 word, the number of the granule's word among
-- the L1 words, how many words 2 MB have, the largest permitted size, and the word that was written
-- last
pub record Around : Type 0 where
  pub first : ℕ
  pub own : ℕ
  pub two : ℕ
  pub max : MaxBlock
  pub word : ℕ

-- around L1 word i of a geometry, which is this word
abbrev pub around_of : GeometryData → ℕ → ℕ → Around
around_of g i word = record {
  first = place_of g (Level1 0);
  own = i;
  two = words_of g.setup size.Two;
  max = g.setup.max;
  word = word;
}

abbrev pub begin_of : Around → FuseData
begin_of a = record {
  first = a.first;
  own = a.own;
  two = a.two;
  max = a.max;
  gpi = gpi_or_none (equal_gpi a.word);
  step = begun a.max (equal_gpi a.word);
}

abbrev pub fuse_of : GeometryData → ℕ → ℕ → FuseData
fuse_of g i word = begin_of (around_of g i word)

-- around L1 word i of a geometry, of granules of this GPI, at this step
abbrev pub fuse_at : GeometryData → ℕ → Gpi → Fusing → FuseData
fuse_at g i v step = record {
  first = place_of g (Level1 0);
  own = i;
  two = words_of g.setup size.Two;
  max = g.setup.max;
  gpi = v;
  step = step;
}

-- merging around a word has acts where a contiguous size is permitted and the word has sixteen equal
-- GPIs
abbrev pub has_acts : MaxBlock → ℕ → Bool
has_acts max word = is_permitted max size.Two && is_some (equal_gpi word)

-- ---- the numbers of the next load and store are below their counts

abbrev pub IsCounted : ℕ → Fusing → Type 0
IsCounted two (Testing z k) = k < loads_of two z
IsCounted two (Storing z k) = k < block_words two z
IsCounted two (Ended o) = Unit {0}

-- all places have 64 bits
pub record IsFuse (first own two : ℕ) (step : Fusing) : Type 0 where
  pub some : 0 < two
  pub room : first + own + 16 * (16 * two) < 2 ^ 64
  pub counted : IsCounted two step
