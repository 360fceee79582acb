-- The resident lines: by granule and space, whether an access may have left a line of the granule in
-- a cache. A line word has four bits for each of its sixteen granules, one for each space (DDI 0487,
-- granule protection checks and cache maintenance to the point of physical aliasing).
use Rattle.std.specs.Prelude.{ℕ, ◌+◌, ◌*◌, ◌/◌, ◌%◌, ◌^◌, Bool, false, ◌==◌, ◌&&◌, List, slice_index, Option, Some, None}
use Rattle.std.specs.Option.{option_map}
use Rattle.std.specs.Int.{bit_at, bit_not, w64}
use Rattle.gpi_values.specs.declared.gpi.Space.{Space}
use Rattle.gpi_values.specs.declared.gpi.Space.TheVariants as space
use Rattle.gpt_descriptors.specs.Sizes.{place_in_word}
use Rattle.gpt_descriptors.specs.Level0.{l1_index}
use Rattle.gpt_descriptors.specs.Places.{GeometryData, Line, place_of, l0_words, line_place_of}
use Rattle.shared_words.specs.declared.act.Act.{Act}
use Rattle.shared_words.specs.declared.act.Act.TheVariants as act

-- the bit of a space among the four of a granule
abbrev pub space_bit : Space → ℕ
space_bit space.Secure = 0
space_bit space.NonSecure = 1
space_bit space.Root = 2
space_bit space.Realm = 3

-- the bit of a granule place, 0 to 15, and a space in a line word, and the word with that bit alone
abbrev pub bit_of : ℕ → Space → ℕ
bit_of place s = 4 * place + space_bit s

abbrev pub mask_of : ℕ → Space → ℕ
mask_of place s = 2 ^ bit_of place s

-- the line of a granule place and a space is resident in a line word
abbrev pub is_resident : ℕ → ℕ → Space → Bool
is_resident word place s = bit_at word (bit_of place s) == 1

-- the line of a granule and a space is resident in the words; none is below an L0 block
abbrev pub line_at : GeometryData → List ℕ → Option ℕ → ℕ → Space → Bool
line_at g words None granule s = false
line_at g words (Some i) granule s =
    is_resident (slice_index words (place_of g (Line i))) (granule % 16) s

abbrev pub has_line : GeometryData → List ℕ → ℕ → Space → Bool
has_line g words granule s =
    line_at g words (l1_index g.setup (l0_words g) (granule / 16)) granule s

-- the four bits of a granule place
abbrev pub line_bits : ℕ → ℕ → ℕ
line_bits word place = word / 2 ^ (4 * place) % 16

-- the granule place and the space are these
abbrev pub is_line : ℕ → Space → ℕ → Space → Bool
is_line place s k t = (k == place) && (space_bit t == space_bit s)

-- ---- the acts on the line of an address and a space

abbrev pub line_mask : GeometryData → ℕ → Space → ℕ
line_mask g pa s = mask_of (place_in_word g.setup pa) s

-- it becomes resident
abbrev pub touch_of : GeometryData → ℕ → Space → Option Act
touch_of g pa s = option_map (λ place. act.Or place (line_mask g pa s)) (line_place_of g pa)

-- it is cleaned and invalidated
abbrev pub clean_of : GeometryData → ℕ → Space → Option Act
clean_of g pa s =
    option_map (λ place. act.And place (bit_not w64 (line_mask g pa s))) (line_place_of g pa)
