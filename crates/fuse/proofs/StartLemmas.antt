-- Merging that has no acts.
use Rattle.std.proofs.Common.{◌≡◌, ℕ, false, Option, Some, None, refl, inl, inr}
use Rattle.std.specs.Prelude.{◌&&◌, is_some}
use Rattle.std.proofs.lemmas.Bool.{cases_Bool}
use Rattle.gpi_values.specs.declared.gpi.Gpi.{Gpi}
use Rattle.gpt_descriptors.specs.declared.size.Size.TheVariants as size
use Rattle.gpt_descriptors.specs.declared.size.MaxBlock.{MaxBlock}
use Rattle.gpt_descriptors.specs.Sizes.{is_permitted}
use Rattle.gpt_descriptors.specs.Fields.{equal_gpi}
use Rattle.gpt_descriptors.specs.Places.{GeometryData}
use Rattle.table_meaning.specs.Fusing.{begun}
use Rattle.fuse.specs.Merging.{act_at, next_of, fuse_of, gpi_or_none, has_acts}

ended : (first own two : ℕ) (max : MaxBlock) (o : Option Gpi) → (is_permitted max size.Two && is_some o) ≡ false → act_at first own two (gpi_or_none o) (begun max o) ≡ None
ended first own two max None none = refl
ended first own two max (Some v) none =
    elim (cases_Bool (is_permitted max size.Two)) [ inl may ↦ absurd (let both = rw may at none in cc) | inr never ↦ rw never refl ]

pub without_acts : (g : GeometryData) (i word : ℕ) → has_acts g.setup.max word ≡ false → next_of (fuse_of g i word) ≡ None
without_acts g i word none = ended _ i _ g.setup.max (equal_gpi word) none
