use Rattle.std.proofs.Common.{refl, string_bytes, ap, length, List, arith}
use Rattle.history.specs.declared.call.Answer.{Answer}
use Rattle.report_text.proofs.CallerLemmas.{answers_length, one_short, one_told, begun}
use Rattle.report_text.proofs.run.caller_lines.Goals as goal

pub bounds-as_slice-k-2 : goal.bounds-as_slice-k-2
bounds-as_slice-k-2 c =
    let many = ap (λ (l : List (List Answer)). length l) c.as_slice-2.ensures in
    omega (arith, answers_length c.args.scenario.now.scripts c.args.outcome.now.answers c.requires.fits.answers, many)

pub push_caller-requires : goal.push_caller-requires
push_caller-requires c =
    one_short c.args.caller c.args.scenario.now.scripts c.as_slice.result.now c.args.outcome.now.answers c.as_slice-2.result.now
    c.index-as_slice-k.result c.index-as_slice-k-2.result c.as_slice-3.result.now
    c.as_slice.ensures c.as_slice-2.ensures c.index-as_slice-k.is c.index-as_slice-k-2.is c.as_slice-3.ensures c.requires.fits.answers c.requires.caller

pub returns : goal.returns
returns c =
    one_told c.args.caller c.args.scenario.now.scripts c.as_slice.result.now c.args.outcome.now.answers c.as_slice-2.result.now
    c.index-as_slice-k.result c.index-as_slice-k-2.result c.as_slice-3.result.now c.into_bytes.result.items
    c.as_slice.ensures c.as_slice-2.ensures c.index-as_slice-k.is c.index-as_slice-k-2.is c.as_slice-3.ensures
    (begun c.into_bytes.result.items (string_bytes c.push_caller.new.out) (string_bytes c.new-out.result) _ (rw c.into_bytes.ensures.value refl) c.in_ok-push_caller.ensures c.new-out.ensures.bytes)
