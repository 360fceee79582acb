use Rattle.std.proofs.Common.{◌≡◌, ◌<◌, ◌+◌, ℕ, sym, ap, ◌∙◌, subst, arith}
use Rattle.invalidate.specs.Duty.{on_act}
use Rattle.history.specs.declared.call.Via.TheVariants as via
use Rattle.processor.specs.Accesses.{walk_gpi}
use Rattle.processor.specs.InnerProgress as stage
use Rattle.processor.specs.InnerProgress.{after_decision}
use Rattle.processor.specs.InnerCpus.{CpuData, IsCpu, task_of, turned, decided, MayTurn}
use Rattle.processor.proofs.CpuLemmas.{access_at}
use Rattle.processor.proofs.LookLemmas.{begun, begins_placed, load_is, found_word, found_placed, turned_more, hit, missed}
use Rattle.processor.proofs.cpu.Cpu.search.Goals as goal

pub apply-requires : goal.apply-requires
apply-requires g c =
    begins_placed c.args.self.now c.args.pa c.args.space (g.W.Words.words c.args.words.now) c.on.result c.requires.task c.requires.starting
    (c.on.ensures ∙ ap (λ (q : CpuData). on_act q.geometry q.number) c.self.view_is) (c.requires.may 0 (omega arith))

pub gen_load-requires : goal.gen_load-requires
gen_load-requires g c = record { inside = access_at _ _ c.self.invariant.0 (ap task_of c.self.view_is ∙ c.requires.task) }

pub apply-at-requires : goal.apply-at-requires
apply-at-requires g c =
    found_placed c.args.self.now c.args.pa c.args.space _ _ c.in-Some.walk _
    (begun c.args.self.now _ c.args.pa c.args.space _ _ _ _ _ c.self.view_is c.requires.task c.requires.starting c.newest.ensures.newest c.in-Some.is c.on.ensures c.apply.ensures.after)
    (load_is c.args.self.now _ c.args.pa c.in-Some.walk _ _ c.self.view_is c.tag_size.ensures c.gen_load.ensures) (c.requires.may 1 (omega arith))

pub hit_by-access-requires : goal.hit_by-access-requires
hit_by-access-requires g c = record {
  descriptor = found_word c.args.self.now c.args.pa c.args.space _ _ c.in-Some.walk (subst IsCpu c.self.view_is c.self.invariant.0)
      (begun c.args.self.now _ c.args.pa c.args.space _ _ _ _ _ c.self.view_is c.requires.task c.requires.starting c.newest.ensures.newest c.in-Some.is c.on.ensures c.apply.ensures.after);
}

pub returns-then-at-tag-clause-turned : goal.returns-then-at-tag-clause-turned
returns-then-at-tag-clause-turned g c =
    ap (λ (q : CpuData). (q, g.W.Words.words c.apply-at.new.self)) c.walks-then-at-tag.ensures
    ∙ sym (missed c.args.self.now c.args.pa c.args.space _ _ _ c.in-Some.walk _ _
    (begun c.args.self.now _ c.args.pa c.args.space _ _ _ _ _ c.self.view_is c.requires.task c.requires.starting c.newest.ensures.newest c.in-Some.is c.on.ensures c.apply.ensures.after)
    (load_is c.args.self.now _ c.args.pa c.in-Some.walk _ _ c.self.view_is c.tag_size.ensures c.gen_load.ensures) c.apply-at.ensures.answer c.apply-at.ensures.after c.if-at-tag.true)

pub leave-requires-clause-may : goal.leave-requires-clause-may
leave-requires-clause-may g c n low =
    let decides : turned 2 (c.args.self.now, g.W.Words.words c.args.words.now) ≡ (decided c.args.self.now c.hit_by-access.result, g.W.Words.words c.apply-at.new.self) =
    hit c.args.self.now c.args.pa c.args.space _ _ _ c.in-Some.walk _ _ c.hit_by-access.result
    (begun c.args.self.now _ c.args.pa c.args.space _ _ _ _ _ c.self.view_is c.requires.task c.requires.starting c.newest.ensures.newest c.in-Some.is c.on.ensures c.apply.ensures.after)
    (load_is c.args.self.now _ c.args.pa c.in-Some.walk _ _ c.self.view_is c.tag_size.ensures c.gen_load.ensures) c.apply-at.ensures.answer c.apply-at.ensures.after c.if-at-tag.false
    (ap (λ (q : CpuData). after_decision (stage.Trying c.in-Some.walk) (walk_gpi q.geometry c.args.pa c.in-Some.walk) c.args.space (via.Hit c.in-Some.walk.reach c.in-Some.walk.tag)) (sym c.self.view_is) ∙ c.hit_by-access.ensures) in
    subst MayTurn (turned_more n 2 (c.args.self.now, g.W.Words.words c.args.words.now) ∙ ap (turned n) decides) (c.requires.may (n + 2) (omega (arith, low)))

pub returns-clause-turned : goal.returns-clause-turned
returns-clause-turned g c =
    let decides : turned 2 (c.args.self.now, g.W.Words.words c.args.words.now) ≡ (decided c.args.self.now c.hit_by-access.result, g.W.Words.words c.apply-at.new.self) =
    hit c.args.self.now c.args.pa c.args.space _ _ _ c.in-Some.walk _ _ c.hit_by-access.result
    (begun c.args.self.now _ c.args.pa c.args.space _ _ _ _ _ c.self.view_is c.requires.task c.requires.starting c.newest.ensures.newest c.in-Some.is c.on.ensures c.apply.ensures.after)
    (load_is c.args.self.now _ c.args.pa c.in-Some.walk _ _ c.self.view_is c.tag_size.ensures c.gen_load.ensures) c.apply-at.ensures.answer c.apply-at.ensures.after c.if-at-tag.false
    (ap (λ (q : CpuData). after_decision (stage.Trying c.in-Some.walk) (walk_gpi q.geometry c.args.pa c.in-Some.walk) c.args.space (via.Hit c.in-Some.walk.reach c.in-Some.walk.tag)) (sym c.self.view_is) ∙ c.hit_by-access.ensures) in
    c.leave.ensures.turned
    ∙ ap (turned c.leave.result) (sym decides)
    ∙ sym (turned_more c.leave.result 2 (c.args.self.now, g.W.Words.words c.args.words.now))
    ∙ ap (λ (n : ℕ). turned n (c.args.self.now, g.W.Words.words c.args.words.now)) (let e : c.leave.result + 2 ≡ 2 + c.leave.result = omega arith in e)
