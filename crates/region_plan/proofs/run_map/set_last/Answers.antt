use Rattle.std.proofs.Common.{◌≡◌, ◌<◌, ◌+◌, ◌++◌, ◌∷◌, [], Some, None, List, ℕ, suc, length, get_or, take, drop, sym, ap, ◌∙◌, append_assoc, add-one, arith}
use Rattle.std.proofs.lemmas.List.{set_split, get_or_default}
use Rattle.region_plan.specs.declared.run_map.Run.{Run}
use Rattle.region_plan.specs.InnerRuns.{last_gpi}
use Rattle.region_plan.proofs.RunLemmas.{set_parted, set_joined, set_new, reached_first, fails}
use Rattle.region_plan.proofs.run_map.set_last.Goals as goal

pub returns-then-index-granule : goal.returns-then-index-granule
returns-then-index-granule c =
    let items = c.args.runs.now.items in
    let run : Run = record { first = c.args.granule; gpi = c.args.gpi } in
    let place : c.args.at < length items = omega (arith, c.requires.place, c.args.runs.now.ok.0) in (
      take (c.args.at + 1) items ++ run ∷ [],
      c.insert_run.ensures.items ∙ sym (append_assoc (take (c.args.at + 1) items) (run ∷ []) (drop (c.args.at + 1) items)),
      set_parted items c.args.at c.args.granule c.args.gpi c.index.result.now place c.requires.own (rw c.index.ensures at c.if-index-granule.true),
    )

pub returns-then-ends_with : goal.returns-then-ends_with
returns-then-ends_with c =
    let items = c.args.runs.now.items in
    let place : c.args.at < length items = omega (arith, c.requires.place, c.args.runs.now.ok.0) in
    let given = rw c.deref.ensures.value at c.ends_with.ensures in (
      take c.args.at items,
      c.remove.ensures.items ∙ ap (λ (n : ℕ). take c.args.at items ++ drop n items) (sym (add-one c.args.at)),
      set_joined items c.args.at c.args.granule c.args.gpi c.index.result.now place c.requires.own (rw c.index.ensures at c.if-index-granule.false) (given.0 c.if-ends_with.true),
    )

pub returns-else-ends_with : goal.returns-else-ends_with
returns-else-ends_with c =
    let items = c.args.runs.now.items in
    let place : c.args.at < length items = omega (arith, c.requires.place, c.args.runs.now.ok.0) in
    let given = rw c.deref.ensures.value at c.ends_with.ensures in
    let other = fails c.ends_with.result (last_gpi None (take c.args.at items) ≡ Some c.args.gpi) given.1 c.if-ends_with.false in
    let read : c.index_mut.result.now ≡ c.index.result.now =
    c.index_mut.ensures.value ∙ get_or_default items c.args.at c.index_mut.result.now c.index.result.now place ∙ sym c.index.ensures in
    let begun = reached_first items c.args.at c.args.granule c.args.gpi c.index.result.now place c.requires.own in
    let from : c.index.result.now.first ≡ (get_or items c.args.at c.index.result.now).first = ap (λ (r : Run). r.first) c.index.ensures in
    let same : c.index_mut.result.now.first ≡ c.args.granule =
    ap (λ (r : Run). r.first) read ∙ (let at : c.index.result.now.first ≡ c.args.granule = omega (arith, begun) in at) in
    let run : Run = record { first = c.args.granule; gpi = c.args.gpi } in
    let rest : drop (suc c.args.at) items ≡ drop (c.args.at + 1) items = ap (λ (n : ℕ). drop n items) (sym (add-one c.args.at)) in (
      take c.args.at items ++ run ∷ [],
      set_split items c.args.at (record { first = c.index_mut.result.now.first; gpi = c.args.gpi }) place
          ∙ ap (λ (n : ℕ). take c.args.at items ++ record { first = n; gpi = c.args.gpi } ∷ drop (suc c.args.at) items) same
          ∙ ap (λ (rs : List Run). take c.args.at items ++ run ∷ rs) rest ∙ sym (append_assoc (take c.args.at items) (run ∷ []) (drop (c.args.at + 1) items)),
      set_new items c.args.at c.args.granule c.args.gpi c.index.result.now place c.requires.own (omega arith) other,
    )
