-- Places of L1 words: the number of an address's L1 word among the L1 words, and the places of the test of 512 MB.
use Rattle.std.proofs.Common.{◌≡◌, ℕ, ◌+◌, ◌-◌, ◌*◌, ◌/◌, ◌%◌, ◌≤◌, ◌<◌, Option, Some, None, sym, ap, ◌∙◌, subst, arith}
use Rattle.std.specs.Prelude.{IfSome}
use Rattle.std.specs.Option.{option_map}
use Rattle.gpt_descriptors.specs.declared.size.Size.TheVariants as size
use Rattle.gpt_descriptors.specs.Places.{GeometryData, IsGeometry, Level1, place_of, l1_index_of, l1_place_of}
use Rattle.gpt_descriptors.proofs.PlaceLemmas.{index_small}
use Rattle.table_meaning.specs.Fusing.{beside, load_at}

place_index : (g : GeometryData) (place : ℕ) (o : Option ℕ) → Some place ≡ option_map (λ i. place_of g (Level1 i)) o → o ≡ Some (place - place_of g (Level1 0))
place_index g place None e = absurd cc
place_index g place (Some i) e =
    let at : place ≡ place_of g (Level1 i) = cc in
    let back : i ≡ place - place_of g (Level1 0) = omega (arith, at) in
    ap (λ (n : ℕ). Some n) back

some_after : (g : GeometryData) (place : ℕ) (o : Option ℕ) → Some place ≡ option_map (λ i. place_of g (Level1 i)) o → place_of g (Level1 0) ≤ place
some_after g place None e = absurd cc
some_after g place (Some i) e = let at : place ≡ place_of g (Level1 i) = cc in omega (arith, at)

pub index_after : (g : GeometryData) (pa place first : ℕ) → Some place ≡ l1_place_of g pa → first ≡ place_of g (Level1 0) → first ≤ place
index_after g pa place first at start = subst (λ (n : ℕ). n ≤ place) (sym start) (some_after g place (l1_index_of g pa) at)

pub index_value : (g : GeometryData) (pa place first : ℕ) → Some place ≡ l1_place_of g pa → first ≡ place_of g (Level1 0) → IfSome (l1_index_of g pa) (λ i. place - first ≡ i)
index_value g pa place first at start =
    subst (λ (o : Option ℕ). IfSome o (λ i. place - first ≡ i)) (sym (place_index g place (l1_index_of g pa) at)) (ap (λ (n : ℕ). place - n) start)

pub index_low : (g : GeometryData) (pa place first : ℕ) → IsGeometry g → Some place ≡ l1_place_of g pa → first ≡ place_of g (Level1 0) → place - first < 262144
index_low g pa place first is at start =
    index_small g pa (place - first) is (place_index g place (l1_index_of g pa) at ∙ ap (λ (n : ℕ). Some (place - n)) (sym start))

-- the first word of a block of 32 MB beside the granule's
row_place : (first q b t : ℕ) → first + q * (16 * t) + b * t ≡ first + (q * 16 + b) * t
row_place first q b t = grind arith

pub five_twelve_place : (first own two start thirty_two number b k : ℕ) → start ≡ first + own / (16 * (16 * two)) * (16 * (16 * two)) → thirty_two ≡ 16 * two
    → number ≡ own / (16 * two) % 16 → b ≡ beside number k → start + b * thirty_two ≡ first + load_at two own size.FiveTwelve k
five_twelve_place first own two start thirty_two number b k at words is beside_is =
    let other : b ≡ beside (own / (16 * two) % 16) k = beside_is ∙ ap (λ (n : ℕ). beside n k) is in
    ap (λ (n : ℕ). n + b * thirty_two) at
    ∙ ap (λ (n : ℕ). first + own / (16 * (16 * two)) * (16 * (16 * two)) + b * n) words
    ∙ row_place first (own / (16 * (16 * two))) b (16 * two)
    ∙ ap (λ (n : ℕ). first + (own / (16 * (16 * two)) * 16 + n) * (16 * two)) other
