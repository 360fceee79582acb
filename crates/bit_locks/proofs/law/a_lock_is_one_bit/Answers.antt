use Rattle.std.proofs.Common.{◌/◌, ◌%◌, get_or}
use Rattle.bit_locks.proofs.BitLemmas.{taken_bit, released_bit, mask_free}
use Rattle.bit_locks.proofs.law.a_lock_is_one_bit.Goals as goal

pub returns : goal.returns
returns c = record {
  taken = taken_bit;
  released = released_bit;
  free = λ words n. mask_free (get_or words (n / 64) 0) (n % 64);
}
