-- The encodings of the GPI field and what they permit (DDI 0487, granule protection checks).
use Rattle.std.specs.Prelude.{ℕ, Bool, true, false, Option, Some, None, ◌==◌, if◌then◌else◌}
use Rattle.gpi_values.specs.declared.gpi.Gpi.{Gpi}
use Rattle.gpi_values.specs.declared.gpi.Gpi.TheVariants as gpi
use Rattle.gpi_values.specs.declared.gpi.Space.{Space}
use Rattle.gpi_values.specs.declared.gpi.Space.TheVariants as space
use Rattle.gpi_values.specs.declared.security.Source.{Source}
use Rattle.gpi_values.specs.declared.security.Source.TheVariants as source

-- the four-bit value of a GPI: GPT_GPI_NO_ACCESS, GPT_GPI_SECURE, GPT_GPI_NS, GPT_GPI_ROOT,
-- GPT_GPI_REALM and GPT_GPI_ANY of TF-A's gpt_rme
abbrev pub value_of : Gpi → ℕ
value_of gpi.NoAccess = 0
value_of gpi.Secure = 8
value_of gpi.NonSecure = 9
value_of gpi.Root = 10
value_of gpi.Realm = 11
value_of gpi.Any = 15

-- the GPI with this value; every other value is refused
abbrev pub gpi_with : ℕ → Option Gpi
gpi_with value =
    if value == 0 then Some gpi.NoAccess else
    if value == 8 then Some gpi.Secure else
    if value == 9 then Some gpi.NonSecure else
    if value == 10 then Some gpi.Root else
    if value == 11 then Some gpi.Realm else
    if value == 15 then Some gpi.Any else None

-- the GPI of a granule that belongs to a space
abbrev pub gpi_of_space : Space → Gpi
gpi_of_space space.Secure = gpi.Secure
gpi_of_space space.NonSecure = gpi.NonSecure
gpi_of_space space.Root = gpi.Root
gpi_of_space space.Realm = gpi.Realm

-- Permission: a GPI permits a space where it is any access or the GPI of that space.
abbrev pub permits_of : Gpi → Space → Bool
permits_of gpi.Any s = true
permits_of gpi.NoAccess s = false
permits_of gpi.Secure space.Secure = true
permits_of gpi.NonSecure space.NonSecure = true
permits_of gpi.Root space.Root = true
permits_of gpi.Realm space.Realm = true
permits_of g s = false

-- the GPI of a granule that belongs to a source
abbrev pub own_of : Source → Gpi
own_of source.Realm = gpi.Realm
own_of source.Secure = gpi.Secure
