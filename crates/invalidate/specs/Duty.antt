-- The acts on the duty words. The duty word of a processor is 1 while an access of it is under way,
-- so that a barrier can wait for the accesses that may still use what was loaded before a change.
use Rattle.std.specs.Prelude.{ℕ}
use Rattle.gpt_descriptors.specs.Places.{GeometryData, Duty, place_of}
use Rattle.shared_words.specs.declared.act.Act.{Act}
use Rattle.shared_words.specs.declared.act.Act.TheVariants as act

-- the processor begins an access
abbrev pub on_act : GeometryData → ℕ → Act
on_act g cpu = act.Store (place_of g (Duty cpu)) 1

-- it has ended the access
abbrev pub off_act : GeometryData → ℕ → Act
off_act g cpu = act.Store (place_of g (Duty cpu)) 0

-- a barrier loads the duty word of a processor
abbrev pub barrier_load : GeometryData → ℕ → Act
barrier_load g cpu = act.Load (place_of g (Duty cpu))
