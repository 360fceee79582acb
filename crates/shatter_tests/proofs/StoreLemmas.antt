-- The stores of a splitting, one more at a time.
use Rattle.std.proofs.Common.{◌≡◌, ℕ, ◌+◌, List, [], ◌∷◌, ◌++◌, map, ap, ◌∙◌, sym, arith}
use Rattle.std.specs.List.{range_with_len}
use Rattle.gpi_values.proofs.Numbers.{map_range-append}
use Rattle.shared_words.specs.declared.act.Act.{Act}
use Rattle.shatter.specs.Splitting.{SplittingData, store_of}

pub stores_more : (d : SplittingData) (k : ℕ) (acts : List Act) → acts ≡ map (store_of d) (range_with_len 0 k) → acts ++ store_of d k ∷ [] ≡ map (store_of d) (range_with_len 0 (k + 1))
stores_more d k acts so_far =
    ap (λ (xs : List Act). xs ++ store_of d k ∷ []) so_far
    ∙ ap (λ (n : ℕ). map (store_of d) (range_with_len 0 k) ++ store_of d n ∷ []) (let same : k ≡ 0 + k = omega arith in same)
    ∙ sym (map_range-append (store_of d) 0 k 1)
