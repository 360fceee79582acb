-- A barrier as plain data: it passes the processors in their order, each where a load of its duty
-- word has answered 0, so that no access that began before the barrier is left after it (DDI 0487,
-- DSB).
use Rattle.std.specs.Prelude.{ℕ, ◌+◌, ◌==◌, nat_lt, Option, Some, None, if◌then◌else◌}
use Rattle.gpt_descriptors.specs.Places.{GeometryData}
use Rattle.shared_words.specs.declared.act.Act.{Act}
use Rattle.invalidate.specs.Duty.{barrier_load}

-- the processors that it has passed, and all of them
pub record BarrierData : Type 0 where
  pub passed : ℕ
  pub cpus : ℕ

-- before its first load
abbrev pub begun : ℕ → BarrierData
begun cpus = record { passed = 0; cpus = cpus }

-- after it has passed this many processors
abbrev pub begun_at : ℕ → ℕ → BarrierData
begun_at cpus passed = record { passed = passed; cpus = cpus }

-- the next load; none after the last processor
abbrev pub next_load : GeometryData → BarrierData → Option Act
next_load g d = if nat_lt d.passed d.cpus then Some (barrier_load g d.passed) else None

-- with one processor more, and after a load that answered this word: it passes its processor where
-- that word is 0, and else loads it again
abbrev pub one_passed : BarrierData → BarrierData
one_passed d = record { passed = d.passed + 1; cpus = d.cpus }

abbrev pub after_load : BarrierData → ℕ → BarrierData
after_load d old = if old == 0 then one_passed d else d
