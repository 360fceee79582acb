-- Acts of a refused transition: it loads its own words, and writes none but its lock's.
use Rattle.std.specs.Prelude.{◌≡◌, ◌⊎◌, ℕ, Some}
use Rattle.gpt_descriptors.specs.declared.size.Size.{Size}
use Rattle.gpt_descriptors.specs.Places.{GeometryData, l1_place_of}
use Rattle.shared_words.specs.declared.act.Act.{Act}
use Rattle.shared_words.specs.declared.act.Act.TheVariants as act
use Rattle.bit_locks.specs.Locks.{take_act, release_act}
use Rattle.invalidate.specs.Generations.{gen_load_of}
use Rattle.history.specs.declared.call.Task.{Task}
use Rattle.delegate_ops.specs.Deciding.{address_of}
use Rattle.delegate_ops.specs.Script.{lock_bit_of}

-- the act loads the task's own L1 word or one of its three generations, or takes or releases its
-- lock
abbrev pub IsQuiet : GeometryData → Task → Act → Type 0
IsQuiet g t made =
    ((place : ℕ) × (l1_place_of g (address_of t) ≡ Some place) × (made ≡ act.Load place))
    ⊎ (((z : Size) × (made ≡ gen_load_of g z (address_of t)))
    ⊎ ((made ≡ take_act (lock_bit_of g t)) ⊎ (made ≡ release_act (lock_bit_of g t))))
