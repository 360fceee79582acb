-- Where splitting begins.
use Rattle.std.proofs.Common.{◌≡◌, ℕ, ◌+◌, ◌-◌, ◌*◌, ◌/◌, ◌%◌, Some, None, refl, ap, ◌∙◌, arith}
use Rattle.std.proofs.lemmas.Nat.{div-add-mod'}
use Rattle.gpi_values.specs.declared.gpi.Gpi.{Gpi}
use Rattle.gpt_descriptors.specs.declared.size.Size.{Size}
use Rattle.gpt_descriptors.specs.declared.size.Size.TheVariants as size
use Rattle.gpt_descriptors.specs.Sizes.{word_bytes, words_of}
use Rattle.gpt_descriptors.specs.Places.{GeometryData, Level1, place_of, l0_words, l1_index_of, l1_place_of}
use Rattle.table_meaning.proofs.PlaceLemmas.{own_rest}
use Rattle.shatter.specs.Splitting.{started}
use Rattle.history.specs.declared.call.Task.{Task}
use Rattle.delegate_ops.specs.Deciding.{address_of, idle_answer}
use Rattle.delegate_ops.specs.Changing.{word_in_block, splitting_of}
use Rattle.delegate_ops.specs.InnerAgents.{number_of}
use Rattle.delegate_ops.proofs.NextLemmas.{acts_index}

-- the number of a word in its block is the same among the L1 words and in the protected space
own_number : (g : GeometryData) (pa : ℕ) (z : Size) (i : ℕ) → l1_index_of g pa ≡ Some i → i % words_of g.setup z ≡ word_in_block g pa z
own_number g pa z i there = own_rest g.setup (l0_words g) z (pa / word_bytes g.setup) i there

pub split_start : (g : GeometryData) (t : Task) (z : Size) (v : Gpi) (start i words two : ℕ) → idle_answer g t ≡ None → start ≡ place_of g (Level1 0) → i ≡ number_of (l1_index_of g (address_of t))
    → words ≡ words_of g.setup z → two ≡ words_of g.setup size.Two
    → started (start + (i - i % words)) (i % words) v words two ≡ splitting_of g (address_of t) (number_of (l1_place_of g (address_of t))) z v
split_start g t z v start i words two acts at index size_is two_is =
    let pa = address_of t in
    let there = acts_index g t acts in
    let own : i % words ≡ word_in_block g pa z =
    rw size_is (ap (λ (n : ℕ). n % words_of g.setup z) (index ∙ ap number_of there.1) ∙ own_number g pa z there.0 there.1) in
    let i_is : i ≡ there.0 = index ∙ ap number_of there.1 in
    let place : number_of (l1_place_of g pa) ≡ start + there.0 = rw there.1 (omega (arith, at)) in
    let parts : i / words * words + i % words ≡ i = div-add-mod' i words in
    let first : start + (i - i % words) ≡ number_of (l1_place_of g pa) - word_in_block g pa z = omega (arith, place, i_is, own, parts) in
    ap (λ (n : ℕ). started n (i % words) v words two) first ∙ ap (λ (n : ℕ). started (number_of (l1_place_of g pa) - word_in_block g pa z) n v words two) own
    ∙ rw (size_is, two_is) refl
