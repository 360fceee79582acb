-- The facts on sizes that all proofs above use, whatever the granule's size is.
use Rattle.std.proofs.Common.{◌≡◌, ℕ, ◌*◌, ◌^◌, ◌≤◌, ◌<◌, refl, arith}
use Rattle.gpt_descriptors.specs.declared.size.Size.{Size}
use Rattle.gpt_descriptors.specs.declared.size.Size.TheVariants as size
use Rattle.gpt_descriptors.specs.Sizes.{SetupData, small_granule, granule_bytes, word_bytes, words_of, table_words, table_bytes, size_bytes, region_bytes}

-- a granule has at least 4 KB and at most 64 KB
pub granule_low : (s : SetupData) → 4096 ≤ granule_bytes s
unfolding granule_bytes
granule_low s = omega arith

pub granule_high : (s : SetupData) → granule_bytes s ≤ 65536
unfolding granule_bytes
granule_high s = omega arith

-- every granule is a small one
pub granule_is : (s : SetupData) → granule_bytes s ≡ small_granule
unfolding granule_bytes
granule_is s = refl

pub word_is : (s : SetupData) → word_bytes s ≡ 16 * granule_bytes s
unfolding word_bytes
word_is s = refl

-- the divisions leave no rest
pub words_whole : (s : SetupData) (z : Size) → words_of s z * word_bytes s ≡ size_bytes z
unfolding granule_bytes word_bytes words_of
words_whole s size.Two = refl
words_whole s size.ThirtyTwo = refl
words_whole s size.FiveTwelve = refl

pub table_whole : (s : SetupData) → table_words s * word_bytes s ≡ region_bytes
unfolding granule_bytes word_bytes table_words
table_whole s = refl

-- 2 MB have a power of two of words, at least 2 and at most 32
pub two_power : (s : SetupData) → (k : ℕ) × (words_of s size.Two ≡ 2 ^ k)
unfolding granule_bytes word_bytes words_of
two_power s = (5, refl)

pub two_low : (s : SetupData) → 2 ≤ words_of s size.Two
unfolding granule_bytes word_bytes words_of
two_low s = omega arith

pub two_high : (s : SetupData) → words_of s size.Two ≤ 32
unfolding granule_bytes word_bytes words_of
two_high s = omega arith

-- each larger size has sixteen times the words of the one before it, a table twice those of 512 MB
pub thirty_two_is : (s : SetupData) → words_of s size.ThirtyTwo ≡ 16 * words_of s size.Two
unfolding granule_bytes word_bytes words_of
thirty_two_is s = refl

pub five_twelve_is : (s : SetupData) → words_of s size.FiveTwelve ≡ 16 * words_of s size.ThirtyTwo
unfolding granule_bytes word_bytes words_of
five_twelve_is s = refl

pub table_is : (s : SetupData) → table_words s ≡ 2 * words_of s size.FiveTwelve
unfolding granule_bytes word_bytes words_of table_words
table_is s = refl

pub ruleset sizes = (granule_low, granule_high, word_is, two_low, two_high, thirty_two_is, five_twelve_is, table_is)

-- a table's bytes are a multiple of 4 KB, so its address has bits 51:12 alone
pub table_pages : (s : SetupData) → (pages : ℕ) × (table_bytes s ≡ 4096 * pages)
unfolding granule_bytes word_bytes table_words
table_pages s = (32, refl)

pub table_bytes_low : (s : SetupData) → 0 < table_bytes s
unfolding granule_bytes word_bytes table_words
table_bytes_low s = omega arith

-- a table has between 1,024 and 16,384 words
pub table_words_low : (s : SetupData) → 0 < table_words s
unfolding granule_bytes word_bytes table_words
table_words_low s = omega arith

pub table_words_high : (s : SetupData) → table_words s ≤ 16384
unfolding granule_bytes word_bytes table_words
table_words_high s = omega arith

pub word_bytes_low : (s : SetupData) → 0 < word_bytes s
unfolding granule_bytes word_bytes
word_bytes_low s = omega arith
