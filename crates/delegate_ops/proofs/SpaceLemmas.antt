-- The spaces that a transition cleans, by the GPIs of its changes.
use Rattle.std.proofs.Common.{◌≡◌, refl}
use Rattle.gpi_values.specs.declared.security.Source.{Source}
use Rattle.gpi_values.specs.declared.security.Source.TheVariants as source
use Rattle.gpi_values.specs.Values.{gpi_of_space, own_of}
use Rattle.history.specs.declared.call.Task.{Task}
use Rattle.history.specs.declared.call.Task.TheVariants as task
use Rattle.delegate_ops.specs.declared.stage.Change.{Change}
use Rattle.delegate_ops.specs.declared.stage.Change.TheVariants as change
use Rattle.delegate_ops.specs.declared.stage.Line.{Line}
use Rattle.delegate_ops.specs.Changing.{from_of, to_of, own_space, target_space, former_space}
use Rattle.delegate_ops.specs.InnerAgents.{IsPrepared, IsCleaned}

pub own_gpi : (s : Source) → gpi_of_space (own_space s) ≡ own_of s
own_gpi source.Realm = refl
own_gpi source.Secure = refl

-- that of the target is the space of the GPI to which a delegate goes
pub target_gpi : (t : Task) → IsPrepared t → gpi_of_space (target_space t) ≡ to_of t change.Last
target_gpi (task.Delegate pa s) is = own_gpi s
target_gpi (task.Undelegate pa s) is = absurd is
target_gpi task.Unknown is = absurd is
target_gpi (task.Look pa s) is = absurd is

-- the former one is the space of the GPI from which the change before it has gone
pub former_gpi : (t : Task) (c : Change) (l : Line) → IsCleaned t c l → gpi_of_space (former_space t c) ≡ from_of t c
former_gpi (task.Delegate pa s) change.First l is = absurd is
former_gpi (task.Delegate pa s) change.Last l is = refl
former_gpi (task.Undelegate pa s) change.First l is = own_gpi s
former_gpi (task.Undelegate pa s) change.Last l is = absurd is
former_gpi task.Unknown c l is = absurd is
former_gpi (task.Look pa s) c l is = absurd is
