use Rattle.fuse.proofs.ScriptLemmas.{steps_are_merging, steps_are_part, merging_is_steps}
use Rattle.fuse.proofs.law.steps_walk_the_script.Goals as goal

pub returns : goal.returns
returns c = record { whole = steps_are_merging; part = steps_are_part; every = merging_is_steps }
