use Rattle.std.proofs.Common.{◌*◌, arith}
use Rattle.std.proofs.lemmas.Nat.{mul-le}
use Rattle.gpt_descriptors.proofs.level0.table_good.Goals as goal

pub overflow_mul-before : goal.overflow_mul-before
overflow_mul-before c =
    omega (arith, mul-le c.args.k (8 * c.table_words-bytes.result) 64 131072 c.requires (omega arith))
