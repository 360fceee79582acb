-- The codes with which exports answer. negsuc n is -(n + 1).
use Rattle.std.specs.Prelude.{ℤ, pos, negsuc, Option, Some, None}

abbrev pub done : ℤ
done = pos 0

abbrev pub bad_data : ℤ
bad_data = negsuc 0

abbrev pub bad_address : ℤ
bad_address = negsuc 1

abbrev pub bad_word : ℤ
bad_word = negsuc 2

-- done where there is a value, else refused with this code
abbrev pub done_or : {A : Type 0} → ℤ → Option A → ℤ
done_or refused (Some a) = done
done_or refused None = refused

-- what is written: the value by its numbers where there is one, else what was there
abbrev pub written : {A B : Type 0} → (A → B) → B → Option A → B
written numbers old (Some a) = numbers a
written numbers old None = old
