-- The names of GPIs, spaces, sources and worlds in texts.
use Rattle.std.specs.Prelude.{ℕ, List, codes}
use Rattle.gpi_values.specs.declared.gpi.Gpi.{Gpi}
use Rattle.gpi_values.specs.declared.gpi.Gpi.TheVariants as gpi
use Rattle.gpi_values.specs.declared.gpi.Space.{Space}
use Rattle.gpi_values.specs.declared.gpi.Space.TheVariants as space
use Rattle.gpi_values.specs.declared.security.Source.{Source}
use Rattle.gpi_values.specs.declared.security.Source.TheVariants as source
use Rattle.gpi_values.specs.declared.security.World.{World}
use Rattle.gpi_values.specs.declared.security.World.TheVariants as world

abbrev pub name_of : Gpi → List ℕ
name_of gpi.NoAccess = codes "none"
name_of gpi.Secure = codes "secure"
name_of gpi.NonSecure = codes "nonsecure"
name_of gpi.Root = codes "root"
name_of gpi.Realm = codes "realm"
name_of gpi.Any = codes "any"

abbrev pub space_name_of : Space → List ℕ
space_name_of space.Secure = codes "secure"
space_name_of space.NonSecure = codes "nonsecure"
space_name_of space.Root = codes "root"
space_name_of space.Realm = codes "realm"

abbrev pub source_name_of : Source → List ℕ
source_name_of source.Realm = codes "realm"
source_name_of source.Secure = codes "secure"

abbrev pub world_name_of : World → List ℕ
world_name_of world.Realm = codes "realm"
world_name_of world.Secure = codes "secure"
world_name_of world.NonSecure = codes "nonsecure"
