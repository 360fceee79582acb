use Rattle.std.proofs.Common.{◌≡◌, ◌<◌, Some, List, length, slice_get, sym, ap, ◌∙◌, arith}
use Rattle.gpi_values.specs.declared.gpi.Gpi.{Gpi}
use Rattle.region_plan.specs.declared.run_map.Run.{Run}
use Rattle.region_plan.proofs.RunLemmas.{runs_length, runs_get}
use Rattle.region_plan.proofs.run_map.RunMap.get.Goals as goal

pub run_at-requires : goal.run_at-requires
run_at-requires c =
    let size : length c.args.self.now ≡ c.self.inside.size = cc (runs_length c.self.inside.size c.self.inside.runs.items) in
    (c.self.inside.size, rw c.deref.ensures.value c.self.invariant, omega arith)

pub returns : goal.returns
returns c =
    let size : length c.args.self.now ≡ c.self.inside.size = cc (runs_length c.self.inside.size c.self.inside.runs.items) in
    let here : c.args.granule < c.self.inside.size = omega arith in
    let found = runs_get c.self.inside.size c.args.granule c.run_at.result c.deref.result.now c.index.result.now here c.run_at.ensures in
    ap (λ (m : List Gpi). slice_get m c.args.granule) (sym c.self.view_is) ∙ (rw c.deref.ensures.value at found) ∙ ap (λ (r : Run). Some r.gpi) (sym c.index.ensures)
