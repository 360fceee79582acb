use Rattle.std.proofs.Common.{ap, ◌∙◌}
use Rattle.std.specs.Str.{bytes_eq}
use Rattle.line_text.specs.InnerRows.{names_in}
use Rattle.line_text.proofs.Cuts.{name_past, name_first, name_nowhere, name_tested, names_count}
use Rattle.line_text.proofs.kind.place_of.Goals as goal

pub returns-then-eq : goal.returns-then-eq
returns-then-eq c =
    name_first c.args.field.now (names_in c.args.names.now) c.loop-k.k c.loop-k.invariant (rw (names_count c.args.names.now) c.loop-k-test.true)
    (name_tested c.args.names.now _ c.args.field.now c.loop-k.k c.eq.result c.loop-k-test.true (c.eq.ensures ∙ ap (bytes_eq c.args.field.now) c.as_bytes.ensures.value) ∙ c.if-eq.true)

pub loop-k-preserved : goal.loop-k-preserved
loop-k-preserved c =
    name_past c.args.field.now (names_in c.args.names.now) c.loop-k.k c.loop-k.invariant (rw (names_count c.args.names.now) c.loop-k-test.true)
    (name_tested c.args.names.now _ c.args.field.now c.loop-k.k c.eq.result c.loop-k-test.true (c.eq.ensures ∙ ap (bytes_eq c.args.field.now) c.as_bytes.ensures.value) ∙ c.if-eq.false)

pub returns : goal.returns
returns c = name_nowhere c.args.field.now (names_in c.args.names.now) c.loop-k.k c.loop-k.invariant (rw (names_count c.args.names.now) c.loop-k-test.false)
