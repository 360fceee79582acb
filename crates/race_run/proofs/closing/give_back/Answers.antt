use Rattle.std.proofs.Common.{◌≡◌, ◌∙◌, ◌+◌, ◌++◌, ◌∷◌, [], List, ℕ, suc, length, length-append, take, ap, sym, arith}
use Rattle.std.specs.Slots.{slots_items}
use Rattle.race_run.proofs.CloseLemmas.{one_more_word}
use Rattle.race_run.proofs.closing.give_back.Goals as goal

pub loop-place-preserved : goal.loop-place-preserved
loop-place-preserved c =
    let items = c.push_reserved.ensures.items in
    let next : suc c.loop-place.place ≡ c.loop-place.place + 1 = omega arith in (
      items ∙ ap (λ (ns : List ℕ). ns ++ c.word.result ∷ []) c.loop-place.invariant.0 ∙ sym (one_more_word (slots_items c.args.closed.now.words) c.loop-place.place c.word.result c.word.ensures)
          ∙ ap (λ (n : ℕ). take n (slots_items c.args.closed.now.words)) next,
      omega (arith, ap (λ (ns : List ℕ). length ns) items, length-append c.loop-place.words.items (c.word.result ∷ []), c.loop-place.invariant.1),
      omega (arith, c.loop-place.invariant.2, c.push_reserved.ensures.capacity),
    )
