-- What the answers of a processor say of its ring of kept walks: each access was answered by the newest of
-- the last walks that the answers before it name and that covers its address. Nothing else is read.
use Rattle.std.specs.Prelude.{◌≡◌, ◌≢◌, ℕ, false, List, [], ◌∷◌, ◌++◌, slice_get, Option, Some, None}
use Rattle.walk_cache.specs.Rings.{first_around, covers_from, newest_by, last_of}
use Rattle.history.specs.declared.call.Task.{Task}
use Rattle.history.specs.declared.call.Task.TheVariants as task
use Rattle.history.specs.declared.call.Answer.{Answer}
use Rattle.history.specs.declared.call.Answer.TheVariants as answer
use Rattle.history.specs.declared.call.Via.{Via}
use Rattle.history.specs.declared.call.Via.TheVariants as via
use Rattle.history.specs.declared.rings.Named.{Named}
use Rattle.history.specs.Legality.{is_still}

-- ---- which walk an answer names

-- of an access to an address: the walk that it made of the tables, if it made one
abbrev pub named_via : ℕ → Via → List Named
named_via pa (via.Cold reach lo hi) =
    record { reach = reach; first = first_around reach pa; tag = lo } ∷ []
named_via pa (via.Missed reach fresh tag at lo hi) =
    record { reach = fresh; first = first_around fresh pa; tag = lo } ∷ []
named_via pa v = []

abbrev pub named_in : Task → Answer → List Named
named_in (task.Look pa space) (answer.Seen access) = named_via pa access.via
named_in t given = []

-- ---- how the ring answers an access

-- by the newest kept walk that covers its address: there is none and it was cold, or its tag is the
-- generation that was loaded and it was hit, or it isn't and it was missed
abbrev pub IsFoundBy : Option Named → Via → Type 0
IsFoundBy None (via.Cold reach lo hi) = Unit {0}
IsFoundBy (Some walk) (via.Hit reach at) = (reach ≡ walk.reach) × (at ≡ walk.tag)
IsFoundBy (Some walk) (via.Missed reach fresh tag at lo hi) =
    (reach ≡ walk.reach) × (tag ≡ walk.tag) × (at ≢ walk.tag)
IsFoundBy o v = ⊥

-- a ring that keeps the last of these walks, which stand oldest first
abbrev pub RingSays : List Named → ℕ → ℕ → Via → Type 0
RingSays walks ring pa v =
    IsFoundBy (newest_by (λ walk. covers_from walk.reach walk.first pa) (last_of ring walks)) v

-- an access at an L1 table is answered so; no other answer is of a ring
abbrev pub IsRinged : ℕ → List Named → Task → Answer → Type 0
IsRinged ring walks (task.Look pa space) (answer.Seen access) =
    is_still access.via ≡ false → RingSays walks ring pa access.via
IsRinged ring walks t given = Unit {0}

-- ---- the answers of one caller, after those that name these walks

abbrev pub AreRinged : ℕ → List Named → List Task → List Answer → Type 0
AreRinged ring walks [] answers = Unit {0}
AreRinged ring walks (t ∷ tasks) [] = Unit {0}
AreRinged ring walks (t ∷ tasks) (given ∷ answers) =
    IsRinged ring walks t given × AreRinged ring (walks ++ named_in t given) tasks answers

-- and those of all callers: each has its own ring, which is empty before its first call
abbrev pub HasRings : ℕ → List (List Task) → List (List Answer) → Type 0
HasRings ring tasks answers =
    (c : ℕ) (own : List Task) (given : List Answer)
    → slice_get tasks c ≡ Some own → slice_get answers c ≡ Some given
    → AreRinged ring [] own given
