use Rattle.std.proofs.Common.{◌≡◌, map}
use Rattle.std.specs.List.{range_with_len}
use Rattle.shatter.specs.Splitting.{store_of}
use Rattle.shatter_tests.proofs.slow.slow_stores.Given as goal

abbrev pub invariant-loop-j : goal.invariant-loop-j
invariant-loop-j l =
    l.acts.items ≡ map (store_of (record { first = l.first; own = l.own; gpi = l.gpi; made = 0; words = l.words; two = l.two })) (range_with_len 0 l.j)
