use Rattle.std.proofs.Common.{◌≡◌, ℕ, List}
use Rattle.delegate_ops.specs.InnerAgents.{AgentData}
use Rattle.delegate_ops.specs.InnerTurns.{turned}
use Rattle.delegate_ops.proofs.agent.Agent.go.Given as goal

abbrev pub invariant-loop-made : goal.invariant-loop-made
invariant-loop-made g l =
    ◌≡◌ {A = AgentData × List ℕ} (l.self, g.W.Words.words l.words) (turned l.made (l.initial.self, g.W.Words.words l.initial.words))
