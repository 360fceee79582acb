-- The stamps of accesses: between which changes of a region an access saw its granule.
use Rattle.std.specs.Prelude.{◌≡◌, ℕ, ◌+◌, ◌/◌, ◌<◌, ◌≤◌, false, List, ◌∷◌, ◌++◌, slice_get, Option, Some, None}
use Rattle.gpi_values.specs.declared.gpi.Gpi.{Gpi}
use Rattle.gpi_values.specs.declared.gpi.Space.{Space}
use Rattle.gpt_descriptors.specs.declared.size.Size.{Size}
use Rattle.gpt_descriptors.specs.declared.size.Reach.{Reach}
use Rattle.gpt_descriptors.specs.Sizes.{tag_size_of}
use Rattle.history.specs.declared.call.Task.{Task}
use Rattle.history.specs.declared.call.Task.TheVariants as task
use Rattle.history.specs.declared.call.Answer.{Answer}
use Rattle.history.specs.declared.call.Answer.TheVariants as answer
use Rattle.history.specs.declared.call.Access.{Access}
use Rattle.history.specs.declared.call.OldWalk.{OldWalk}
use Rattle.history.specs.declared.call.Via.{Via}
use Rattle.history.specs.declared.call.Via.TheVariants as via
use Rattle.history.specs.declared.entry.Entry.{Entry}
use Rattle.history.specs.declared.entry.Entry.TheVariants as entry
use Rattle.history.specs.States.{start, state_after}
use Rattle.history.specs.Legality.{is_still}
use Rattle.history.specs.Counts.{count_around}

-- ---- the GPIs of a granule, by the changes of a region around it

-- the GPI of a granule after a history from this map; none beyond the map
abbrev pub gpi_after : List Gpi → List Entry → ℕ → Option Gpi
gpi_after map h granule = slice_get (state_after (start map) h).map granule

-- The change with this number gave a granule this GPI: the granule has it after some first entries
-- of the history, and the count of the region of this size around it is the number there. Numbers
-- go from `first`, which is before any change.
pub record Gave (map : List Gpi) (first bytes granule : ℕ) (z : Size) (number : ℕ) (gpi : Gpi)
    (h : List Entry) : Type 0 where
  pub before : List Entry
  pub after : List Entry
  pub parts : h ≡ before ++ after
  pub counted : count_around first bytes granule before z ≡ number
  pub gives : gpi_after map before granule ≡ Some gpi

-- An access with the stamps lo and hi saw a GPI that a change from number lo to number hi + 1 gave:
-- the last one may be made while its generation isn't raised yet.
pub record SawBetween (map : List Gpi) (first bytes granule : ℕ) (z : Size) (lo hi : ℕ) (gpi : Gpi)
    (h : List Entry) : Type 0 where
  pub number : ℕ
  pub low : lo ≤ number
  pub high : number ≤ hi + 1
  pub gave : Gave map first bytes granule z number gpi h

-- ---- the stamps of an access

-- The stamps of an access at a table are two values of one generation, that of the region around
-- its granule whose size tags a walk of this reach: `lo` was loaded before the access was decided,
-- and `hi` after it. With n the count of the region in the entries before its own, lo is at most n
-- and n at most hi + 1; and hi is at most the count of the whole history.
pub record AreStamps (map : List Gpi) (first bytes granule : ℕ) (gpi : Gpi) (reach : Reach)
    (lo hi : ℕ) (before h : List Entry) : Type 0 where
  pub least : first ≤ lo
  pub order : lo ≤ hi
  pub low : lo ≤ count_around first bytes granule before (tag_size_of reach)
  pub high : count_around first bytes granule before (tag_size_of reach) ≤ hi + 1
  pub most : hi ≤ count_around first bytes granule h (tag_size_of reach)
  pub saw : SawBetween map first bytes granule (tag_size_of reach) lo hi gpi h

-- a kept walk of this reach wasn't used: the generation of its region was loaded as `at`, above its
-- tag
pub record WasOld (first bytes granule : ℕ) (reach : Reach) (tag at : ℕ) (before : List Entry)
    : Type 0 where
  pub newer : tag < at
  pub most : at ≤ count_around first bytes granule before (tag_size_of reach)

-- how an access found its GPI that walked the tables: where there was a kept walk, it wasn't used
abbrev pub walked : Option OldWalk → Reach → ℕ → ℕ → Via
walked None reach lo hi = via.Cold reach lo hi
walked (Some old) reach lo hi = via.Missed old.reach reach old.tag old.at lo hi

-- What the stamps of an access say, by how it found its GPI: a hit has one generation for both
-- stamps, and without a hit the GPI is the map's.
abbrev pub FitStamps : List Gpi → ℕ → ℕ → ℕ → Gpi → Via → List Entry → List Entry → Type 0
FitStamps map first bytes granule gpi via.Still before h = ⊥
FitStamps map first bytes granule gpi (via.Hit reach at) before h =
    AreStamps map first bytes granule gpi reach at at before h
FitStamps map first bytes granule gpi (via.Cold reach lo hi) before h =
    AreStamps map first bytes granule gpi reach lo hi before h
    × (gpi_after map before granule ≡ Some gpi)
FitStamps map first bytes granule gpi (via.Missed reach fresh tag at lo hi) before h =
    AreStamps map first bytes granule gpi fresh lo hi before h
    × (gpi_after map before granule ≡ Some gpi)
    × WasOld first bytes granule reach tag at before

-- access k of caller c has its entry in the history, and its stamps fit there
pub record IsStamped (map : List Gpi) (first bytes c k granule : ℕ) (space : Space)
    (access : Access) (h : List Entry) : Type 0 where
  pub before : List Entry
  pub after : List Entry
  pub parts : h ≡ before
      ++ entry.Looked c k granule space access.gpi access.allowed ∷ after
  pub stamps : FitStamps map first bytes granule access.gpi access.via before h

-- the answer of a call has its stamps: of an access at a table, since no other answer has stamps
abbrev pub IsStampedCall : List Gpi → ℕ → ℕ → ℕ → ℕ → Task → Answer → List Entry → Type 0
IsStampedCall map first bytes c k (task.Look pa space) (answer.Seen access) h =
    is_still access.via ≡ false → IsStamped map first bytes c k (pa / bytes) space access h
IsStampedCall map first bytes c k t a h = Unit {0}

-- the answers of one caller have their stamps
abbrev pub AreStamped : List Gpi → ℕ → ℕ → ℕ → List Task → List Answer → List Entry → Type 0
AreStamped map first bytes c tasks answers h =
    (k : ℕ) (t : Task) (given : Answer) → slice_get tasks k ≡ Some t
    → slice_get answers k ≡ Some given → IsStampedCall map first bytes c k t given h

-- A history has the stamps of all accesses that are answered.
abbrev pub HasStamps : List Gpi → ℕ → ℕ → List (List Task) → List (List Answer) → List Entry
    → Type 0
HasStamps map first bytes tasks answers h =
    (c : ℕ) (own : List Task) (given : List Answer)
    → slice_get tasks c ≡ Some own → slice_get answers c ≡ Some given
    → AreStamped map first bytes c own given h
