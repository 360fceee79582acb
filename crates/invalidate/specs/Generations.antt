-- The acts on the generation words. A change of a granule raises the generation of each region
-- around it, so that a walk which was kept from before can be seen to be old.
use Rattle.std.specs.Prelude.{ℕ, ◌+◌}
use Rattle.gpt_descriptors.specs.declared.size.Size.{Size}
use Rattle.gpt_descriptors.specs.Places.{GeometryData, gen_place_of}
use Rattle.shared_words.specs.declared.act.Act.{Act}
use Rattle.shared_words.specs.declared.act.Act.TheVariants as act

-- the generation of the region of this size around an address is loaded
abbrev pub gen_load_of : GeometryData → Size → ℕ → Act
gen_load_of g z pa = act.Load (gen_place_of g z pa)

-- it is raised by one above this value
abbrev pub gen_raise_of : GeometryData → Size → ℕ → ℕ → Act
gen_raise_of g z pa old = act.Store (gen_place_of g z pa) (old + 1)
