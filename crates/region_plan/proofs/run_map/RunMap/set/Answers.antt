use Rattle.std.proofs.Common.{◌≡◌, ◌≢◌, ◌<◌, ◌+◌, List, length, get_or, set, take, sym, ap, ◌∙◌, rules, arith}
use Rattle.gpi_values.specs.declared.gpi.Gpi.{Gpi}
use Rattle.region_plan.specs.declared.run_map.Run.{Run}
use Rattle.region_plan.proofs.RunLemmas.{runs_length, set_again, after_found, front_found, changed}
use Rattle.region_plan.proofs.run_map.RunMap.set.Goals as goal

pub run_at-at-requires : goal.run_at-at-requires
run_at-at-requires c =
    let size : length c.args.self.now ≡ c.self.inside.size = cc (runs_length c.self.inside.size c.self.inside.runs.items) in
    (c.self.inside.size, rw c.deref.ensures.value c.self.invariant, omega arith)

pub returns-then-eq-clause-ok : goal.returns-then-eq-clause-ok
returns-then-eq-clause-ok c =
    let size : length c.args.self.now ≡ c.self.inside.size = cc (runs_length c.self.inside.size c.self.inside.runs.items) in
    let here : c.args.granule < c.self.inside.size = omega arith in
    let at = rw c.deref.ensures.value at c.run_at-at.ensures in
    let own : c.index.result.now.gpi ≡ c.args.gpi = search rules in
    let again = set_again c.self.inside.size c.args.granule c.run_at-at.result c.self.inside.runs.items c.index.result.now here at in
    sym c.self.view_is ∙ again ∙ ap (λ (m : List Gpi). set m c.args.granule (get_or c.self.inside.runs.items c.run_at-at.result c.index.result.now).gpi) c.self.view_is
    ∙ ap (λ (one : Gpi). set c.args.self.now c.args.granule one) (ap (λ (r : Run). r.gpi) (sym c.index.ensures) ∙ own)

pub part_after-requires-clause-inside : goal.part_after-requires-clause-inside
part_after-requires-clause-inside c =
    let size : length c.args.self.now ≡ c.self.inside.size = cc (runs_length c.self.inside.size c.self.inside.runs.items) in
    omega arith

pub part_after-requires-clause-apart : goal.part_after-requires-clause-apart
part_after-requires-clause-apart c =
    let found = after_found c.self.inside.size c.args.granule c.run_at-at.result c.self.inside.runs.items c.index.result.now c.self.invariant (rw c.deref.ensures.value at c.run_at-at.ensures) in
    rw c.reserve.ensures.items (rw (sym c.index.ensures) at found)

pub set_last-requires-clause-own : goal.set_last-requires-clause-own
set_last-requires-clause-own c =
    let at = rw c.deref.ensures.value at c.run_at-at.ensures in
    let other : c.index.result.now.gpi ≢ c.args.gpi = search rules in
    let mine : c.index.result.now.gpi ≡ (get_or c.self.inside.runs.items c.run_at-at.result c.index.result.now).gpi = ap (λ (r : Run). r.gpi) c.index.ensures in
    rw (c.part_after.ensures.before, c.reserve.ensures.items) (
    front_found c.self.inside.size c.args.granule c.run_at-at.result c.args.gpi c.self.inside.runs.items c.index.result.now c.self.invariant at (λ same. other (mine ∙ same)))

pub invariant_of-self-2 : goal.invariant_of-self-2
invariant_of-self-2 c =
    let size : length c.args.self.now ≡ c.self.inside.size = cc (runs_length c.self.inside.size c.self.inside.runs.items) in
    let at = rw c.deref.ensures.value at c.run_at-at.ensures in
    let follows = rw c.reserve.ensures.items at c.part_after.ensures.follows in
    (changed c.args.granule c.self.inside.size c.run_at-at.result c.index.result.now.gpi c.args.gpi c.self.inside.runs.items c.part_after.new.runs.items c.set_last.new.runs.items
    c.set_last.ensures.0 c.index.result.now c.self.invariant at (omega arith) (ap (λ (r : Run). r.gpi) c.index.ensures)
    (c.part_after.ensures.before ∙ ap (take (c.run_at-at.result + 1)) c.reserve.ensures.items) follows c.set_last.ensures.1 c.set_last.ensures.2).0

pub returns-clause-ok : goal.returns-clause-ok
returns-clause-ok c =
    let size : length c.args.self.now ≡ c.self.inside.size = cc (runs_length c.self.inside.size c.self.inside.runs.items) in
    let at = rw c.deref.ensures.value at c.run_at-at.ensures in
    let follows = rw c.reserve.ensures.items at c.part_after.ensures.follows in
    (changed c.args.granule c.self.inside.size c.run_at-at.result c.index.result.now.gpi c.args.gpi c.self.inside.runs.items c.part_after.new.runs.items c.set_last.new.runs.items
    c.set_last.ensures.0 c.index.result.now c.self.invariant at (omega arith) (ap (λ (r : Run). r.gpi) c.index.ensures)
    (c.part_after.ensures.before ∙ ap (take (c.run_at-at.result + 1)) c.reserve.ensures.items) follows c.set_last.ensures.1 c.set_last.ensures.2).1
    ∙ ap (λ (m : List Gpi). set m c.args.granule c.args.gpi) c.self.view_is
