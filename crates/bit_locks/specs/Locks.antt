-- The locks of the protected space, and their bits in the lock words (TF-A gpt_rme, bitlocks).
use Rattle.std.specs.Prelude.{◌≡◌, ℕ, ◌/◌, ◌%◌, ◌^◌, List, slice_index, ◌==◌, if◌then◌else◌}
use Rattle.std.specs.Int.{bit_at, bit_not, w64}
use Rattle.std.specs.Int.Bits.{bit_and}
use Rattle.gpt_descriptors.specs.declared.size.Size.TheVariants as size
use Rattle.gpt_descriptors.specs.Sizes.{SetupData, size_bytes}
use Rattle.shared_words.specs.declared.act.Act.{Act}
use Rattle.shared_words.specs.declared.act.Act.TheVariants as act
use Rattle.bit_locks.specs.declared.lock.Bit.{Bit}

-- the number of the lock of an address: one for all, or one for each `lock_blocks` blocks of 512 MB
abbrev pub lock_number : SetupData → ℕ → ℕ
lock_number s pa = if s.lock_blocks == 0 then 0 else pa / size_bytes size.FiveTwelve / s.lock_blocks

-- lock n is bit n % 64 of word n / 64
abbrev pub bit_with : ℕ → Bit
bit_with n = record { place = n / 64; mask = 2 ^ (n % 64) }

abbrev pub lock_bit : List ℕ → ℕ → ℕ
lock_bit words n = bit_at (slice_index words (n / 64)) (n % 64)

abbrev pub take_act : Bit → Act
take_act bit = act.Or bit.place bit.mask

abbrev pub release_act : Bit → Act
release_act bit = act.And bit.place (bit_not w64 bit.mask)

-- the word has the lock's bit clear
abbrev pub IsFree : Bit → ℕ → Type 0
IsFree bit word = bit_and word bit.mask ≡ 0
