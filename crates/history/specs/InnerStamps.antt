-- Accesses that are decided and whose generation isn't loaded again yet.
use Rattle.std.specs.Prelude.{◌≡◌, ℕ, ◌≤◌, Bool, List, ◌∷◌, ◌++◌, Option, Some, MatchOption}
use Rattle.gpi_values.specs.declared.gpi.Gpi.{Gpi}
use Rattle.gpi_values.specs.declared.gpi.Space.{Space}
use Rattle.gpt_descriptors.specs.declared.size.Reach.{Reach}
use Rattle.gpt_descriptors.specs.Sizes.{tag_size_of}
use Rattle.history.specs.declared.call.OldWalk.{OldWalk}
use Rattle.history.specs.declared.entry.Entry.{Entry}
use Rattle.history.specs.declared.entry.Entry.TheVariants as entry
use Rattle.history.specs.Counts.{count_around}
use Rattle.history.specs.Stamps.{gpi_after, WasOld}

-- The access has its entry in the history and was decided by the map's GPI, after the generation of
-- the region for a walk of this reach was loaded as lo. What is said of the entries before it stays
-- so.
pub record IsDecided (map : List Gpi) (first bytes c k granule : ℕ) (space : Space) (gpi : Gpi)
    (allowed : Bool) (old : Option OldWalk) (reach : Reach) (lo : ℕ) (h : List Entry)
    : Type 0 where
  pub before : List Entry
  pub after : List Entry
  pub parts : h ≡ before ++ entry.Looked c k granule space gpi allowed ∷ after
  pub gives : gpi_after map before granule ≡ Some gpi
  pub least : first ≤ lo
  pub low : lo ≤ count_around first bytes granule before (tag_size_of reach)
  pub missed : MatchOption old (Unit {0})
      (λ walk. WasOld first bytes granule walk.reach walk.tag walk.at before)
