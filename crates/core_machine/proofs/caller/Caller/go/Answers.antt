use Rattle.std.proofs.Common.{sym, ap, ◌∙◌, subst}
use Rattle.core_machine.specs.declared.caller.Caller.{Caller}
use Rattle.core_machine.specs.InnerCallers.{turned, MayTurn}
use Rattle.core_machine.proofs.GoLemmas.{agent_may, agent_goes, cpu_may, cpu_looks}
use Rattle.core_machine.proofs.caller.Caller.go.Goals as goal

pub look-requires : goal.look-requires
look-requires g c =
    cpu_may c.in-Cpu.cpu (g.W.Words.words c.args.words.now) c.args.most
    (λ n low. subst (λ (x : Caller). MayTurn (turned n (x, g.W.Words.words c.args.words.now))) c.in-Cpu.is (c.requires n low))

pub returns-in-Cpu-clause-turned : goal.returns-in-Cpu-clause-turned
returns-in-Cpu-clause-turned g c =
    cpu_looks c.look.result c.in-Cpu.cpu c.look.new.self (g.W.Words.words c.args.words.now) (g.W.Words.words c.look.new.words) c.look.ensures.turned
    ∙ ap (λ (x : Caller). turned c.look.result (x, g.W.Words.words c.args.words.now)) (sym c.in-Cpu.is)

pub go-requires : goal.go-requires
go-requires g c =
    agent_may c.in-Agent.agent (g.W.Words.words c.args.words.now) c.args.most
    (λ n low. subst (λ (x : Caller). MayTurn (turned n (x, g.W.Words.words c.args.words.now))) c.in-Agent.is (c.requires n low))

pub returns-in-Agent-clause-turned : goal.returns-in-Agent-clause-turned
returns-in-Agent-clause-turned g c =
    agent_goes c.go.result c.in-Agent.agent c.go.new.self (g.W.Words.words c.args.words.now) (g.W.Words.words c.go.new.words) c.go.ensures.turned
    ∙ ap (λ (x : Caller). turned c.go.result (x, g.W.Words.words c.args.words.now)) (sym c.in-Agent.is)
