-- Addresses, their granules, L1 words and locks.
use Rattle.std.proofs.Common.{◌≡◌, ℕ, zero, suc, ◌+◌, ◌*◌, ◌/◌, ◌%◌, ◌^◌, ◌<◌, ◌∷◌, [], List, length, get_or, true, false, eqb, Option, Some, None, refl, sym, ap, ◌∙◌, subst, arith, inl, inr, mul_comm, take}
use Rattle.std.specs.Prelude.{is_some}
use Rattle.std.specs.Option.{option_map}
use Rattle.std.proofs.Math.Nat.{mod-add-div, div-lt_iff_lt-mul, mul-div_cancel, div-le_self, div-div-eq-div-mul}
use Rattle.std.proofs.lemmas.Nat.{div-add-mod', mul-add-lt, mod_below}
use Rattle.std.proofs.lemmas.Bool.{cases_Bool, eqb-true, and_parts}
use Rattle.std.proofs.lemmas.Option.{cond_some}
use Rattle.core_machine.proofs.Names.{Gpi, Size, SetupData, granule_bytes, words_of, table_words, size_bytes, space_bytes, space_granules, space_words, word_gpi, l1_index, GeometryData, IsGeometry, Level1, Line, place_of, l0_words, l1_words, l1_index_of, l1_place_of, lock_number, Task, region_of, address_of, idle_answer, granule_of_task}
use Rattle.core_machine.proofs.Names.size
use Rattle.gpt_descriptors.specs.declared.entry.L1Entry.{L1Entry}
use Rattle.gpt_descriptors.specs.Sizes.{IsSetup, word_bytes, region_bytes}
use Rattle.gpt_descriptors.specs.Entries.{l1_entry}
use Rattle.gpt_descriptors.specs.Places.{line_place_of}
use Rattle.gpt_descriptors.specs.Level0.{is_table, table_count}
use Rattle.gpt_descriptors.proofs.SizeLemmas.{granule_low, word_is, table_whole, table_words_low, words_whole}
use Rattle.gpt_descriptors.proofs.PlaceLemmas.{l1_index_within}
use Rattle.delegate_ops.specs.Deciding.{is_unusable}
use Rattle.delegate_ops.proofs.DecidingLemmas.{acts_usable, acts_inside}

-- ---- L1 words by their number in the protected space

pub word_by_granule : (s : SetupData) (pa : ℕ) → pa / word_bytes s ≡ pa / granule_bytes s / 16
word_by_granule s pa =
    ap (λ (n : ℕ). pa / n) (word_is s ∙ mul_comm 16 (granule_bytes s)) ∙ sym (div-div-eq-div-mul pa (granule_bytes s) 16)

table_inside : (words : List ℕ) (r : ℕ) → is_table (get_or words r 0) ≡ true → r < length words
table_inside [] r table = absurd cc
table_inside (w ∷ ws) zero table = omega arith
table_inside (w ∷ ws) (suc r) table = omega (arith, table_inside ws r table)

-- a word that has a place is in the protected space
pub index_inside : (g : GeometryData) (w i : ℕ) → IsGeometry g → l1_index g.setup (l0_words g) w ≡ Some i → w < space_words g.setup
index_inside g w i geometry at =
    let s = g.setup in
    let parts = cond_some (is_table (get_or (l0_words g) (w / table_words s) 0)) (table_count (take (w / table_words s) (l0_words g)) * table_words s + w % table_words s) i at in
    let long : length (l0_words g) ≡ s.gigabytes = eqb-true _ _ (and_parts _ _ geometry.good).0 in
    let row : w / table_words s < s.gigabytes = omega (arith, long, table_inside (l0_words g) (w / table_words s) parts.0) in
    let fits = mul-add-lt (w / table_words s) (table_words s) (w % table_words s) s.gigabytes row (mod_below w (table_words s) (table_words_low s)) in
    omega (arith, fits, div-add-mod' w (table_words s), mul_comm (table_words s) s.gigabytes)

pub index_below : (g : GeometryData) (w i : ℕ) → IsGeometry g → l1_index g.setup (l0_words g) w ≡ Some i → i < l1_words g
index_below g w i geometry at = subst (λ (n : ℕ). i < n * table_words g.setup) (sym geometry.tables) (l1_index_within g.setup (l0_words g) w i at)

word_place : (g : GeometryData) (pa place : ℕ) (o : Option ℕ) → l1_index_of g pa ≡ o → option_map (λ i. place_of g (Level1 i)) o ≡ Some place → (i : ℕ) × (l1_index_of g pa ≡ Some i) × (place ≡ place_of g (Level1 i))
word_place g pa place None index there = absurd cc
word_place g pa place (Some i) index there = (i, index, cc)

-- the index of the L1 word at a place
pub index_at : (g : GeometryData) (pa place : ℕ) → l1_place_of g pa ≡ Some place → (i : ℕ) × (l1_index_of g pa ≡ Some i) × (place ≡ place_of g (Level1 i))
index_at g pa place there = word_place g pa place (l1_index_of g pa) refl there

line_place : (g : GeometryData) (pa place : ℕ) (o : Option ℕ) → l1_index_of g pa ≡ o → option_map (λ i. place_of g (Line i)) o ≡ Some place → (i : ℕ) × (l1_index_of g pa ≡ Some i) × (place ≡ place_of g (Line i))
line_place g pa place None index there = absurd cc
line_place g pa place (Some i) index there = (i, index, cc)

-- that of the line word at a place
pub line_at : (g : GeometryData) (pa place : ℕ) → line_place_of g pa ≡ Some place → (i : ℕ) × (l1_index_of g pa ≡ Some i) × (place ≡ place_of g (Line i))
line_at g pa place there = line_place g pa place (l1_index_of g pa) refl there

-- ---- granules

pub space_whole : (s : SetupData) → space_granules s * granule_bytes s ≡ space_bytes s
space_whole s =
    let table : table_words s * (16 * granule_bytes s) ≡ region_bytes = ap (λ (n : ℕ). table_words s * n) (sym (word_is s)) ∙ table_whole s in
    let turned : 16 * (s.gigabytes * table_words s) * granule_bytes s ≡ s.gigabytes * (table_words s * (16 * granule_bytes s)) = grind arith in
    turned ∙ ap (λ (n : ℕ). s.gigabytes * n) table

pub granule_within : (s : SetupData) (pa : ℕ) → pa < space_bytes s → pa / granule_bytes s < space_granules s
granule_within s pa inside =
    let some : 0 < granule_bytes s = omega (arith, granule_low s) in
    (div-lt_iff_lt-mul some).1 (subst (λ (n : ℕ). pa < n) (sym (space_whole s)) inside)

pub granule_back : (s : SetupData) (granule : ℕ) → granule * granule_bytes s / granule_bytes s ≡ granule
granule_back s granule = mul-div_cancel granule (omega (arith, granule_low s))

-- an aligned address is that of its granule
pub granule_start : (s : SetupData) (pa : ℕ) → pa % granule_bytes s ≡ 0 → pa / granule_bytes s * granule_bytes s ≡ pa
granule_start s pa aligned =
    let whole : pa % granule_bytes s + granule_bytes s * (pa / granule_bytes s) ≡ pa = mod-add-div pa (granule_bytes s) in
    omega (arith, whole, aligned, mul_comm (pa / granule_bytes s) (granule_bytes s))

-- ---- loaded words

pub usable_aligned : (g : GeometryData) (pa : ℕ) → is_unusable g pa ≡ false → pa % granule_bytes g.setup ≡ 0
usable_aligned g pa usable =
    elim (cases_Bool (eqb (pa % granule_bytes g.setup) 0)) [
      | inl aligned ↦ eqb-true _ _ aligned
      | inr unaligned ↦ absurd (let both = rw unaligned at usable in cc)
    ]

-- a word that has a meaning is a descriptor
readable_by : (word place : ℕ) (gpi : Gpi) (o : Option L1Entry) → l1_entry word ≡ o → word_gpi word place ≡ Some gpi → is_some (l1_entry word) ≡ true
readable_by word place gpi None entry means = absurd (let both = rw entry at means in cc)
readable_by word place gpi (Some e) entry means = rw entry refl

pub word_readable : (word place : ℕ) (gpi : Gpi) → word_gpi word place ≡ Some gpi → is_some (l1_entry word) ≡ true
word_readable word place gpi means = readable_by word place gpi (l1_entry word) refl means

-- ---- locks

pub lock_low : (s : SetupData) (pa : ℕ) → IsSetup s → pa < space_bytes s → lock_number s pa < 128
lock_low s pa setup inside =
    let blocks : pa / 2 ^ 29 < 128 = elim setup.gigabytes [ inl four ↦ omega (arith, four, inside) | inr sixty_four ↦ omega (arith, sixty_four, inside) ] in
    elim (cases_Bool (eqb s.lock_blocks 0)) [
      | inl none ↦ rw none (omega arith)
      | inr some ↦ rw some (omega (arith, blocks, div-le_self (pa / 2 ^ 29) s.lock_blocks))
    ]

number_by_block : (s : SetupData) (p q : ℕ) → p / 2 ^ 29 ≡ q / 2 ^ 29 → lock_number s p ≡ lock_number s q
number_by_block s p q same =
    elim (cases_Bool (eqb s.lock_blocks 0)) [ inl none ↦ rw none refl | inr some ↦ rw some (ap (λ (b : ℕ). b / s.lock_blocks) same) ]

wider : (p q n m : ℕ) → p / n ≡ q / n → p / (n * m) ≡ q / (n * m)
wider p q n m same = sym (div-div-eq-div-mul p n m) ∙ ap (λ (b : ℕ). b / m) same ∙ div-div-eq-div-mul q n m

-- a region of any size lies in one lock block
pub number_by_region : (s : SetupData) (y : Size) (p q : ℕ) → p / size_bytes y ≡ q / size_bytes y → lock_number s p ≡ lock_number s q
number_by_region s size.Two p q same = number_by_block s p q (wider p q (2 ^ 21) 256 same)
number_by_region s size.ThirtyTwo p q same = number_by_block s p q (wider p q (2 ^ 25) 16 same)
number_by_region s size.FiveTwelve p q same = number_by_block s p q same

size_some : (y : Size) → 0 < size_bytes y
size_some size.Two = omega arith
size_some size.ThirtyTwo = omega arith
size_some size.FiveTwelve = omega arith

-- the lock of a region is that of an address in it
pub lock_by_region : (s : SetupData) (y : Size) (region pa : ℕ) → pa / size_bytes y ≡ region → lock_number s (region * size_bytes y) ≡ lock_number s pa
lock_by_region s y region pa at = number_by_region s y (region * size_bytes y) pa (mul-div_cancel region (size_some y) ∙ sym at)

-- the block of a size of an address, by its granule
pub block_by : (s : SetupData) (z : Size) (pa : ℕ) → pa / granule_bytes s / 16 / words_of s z ≡ pa / size_bytes z
block_by s z pa =
    ap (λ (n : ℕ). n / words_of s z) (sym (word_by_granule s pa))
    ∙ div-div-eq-div-mul pa (word_bytes s) (words_of s z)
    ∙ ap (λ (n : ℕ). pa / n) (mul_comm (word_bytes s) (words_of s z) ∙ words_whole s z)

block_of : (s : SetupData) (pa : ℕ) → pa / granule_bytes s / 16 / words_of s size.FiveTwelve ≡ pa / 2 ^ 29
block_of s pa = block_by s size.FiveTwelve pa

-- the lock of a granule
abbrev pub lock_of : SetupData → ℕ → ℕ
lock_of s granule = lock_number s (granule * granule_bytes s)

-- and is one of all granules of its 512 MB
pub lock_by_granule : (s : SetupData) (j k : ℕ) → j / 16 / words_of s size.FiveTwelve ≡ k / 16 / words_of s size.FiveTwelve → lock_of s j ≡ lock_of s k
lock_by_granule s j k same =
    number_by_block s (j * granule_bytes s) (k * granule_bytes s) (
    sym (block_of s (j * granule_bytes s)) ∙ ap (λ (n : ℕ). n / 16 / words_of s size.FiveTwelve) (granule_back s j) ∙ same
    ∙ ap (λ (n : ℕ). n / 16 / words_of s size.FiveTwelve) (sym (granule_back s k)) ∙ block_of s (k * granule_bytes s)
    )

-- ---- tasks with acts

module _ (g : GeometryData) (t : Task) (acts : idle_answer g t ≡ None) where
  -- the address is that of its granule
  pub granule_address : granule_of_task g t * granule_bytes g.setup ≡ address_of t
  granule_address = granule_start g.setup (address_of t) (usable_aligned g (address_of t) (acts_usable g t acts))

  pub task_lock : lock_of g.setup (granule_of_task g t) ≡ lock_number g.setup (address_of t)
  task_lock = ap (lock_number g.setup) granule_address

  pub task_low : IsSetup g.setup → lock_number g.setup (address_of t) < 128
  task_low setup = lock_low g.setup (address_of t) setup (acts_inside g t acts)

  pub region_at : (y : Size) → region_of (granule_bytes g.setup) y (granule_of_task g t) ≡ address_of t / size_bytes y
  region_at y = ap (λ (n : ℕ). n / size_bytes y) granule_address

  -- its lock is that of each region around it
  pub region_lock : (y : Size) (region : ℕ) → region_of (granule_bytes g.setup) y (granule_of_task g t) ≡ region → lock_number g.setup (region * size_bytes y) ≡ lock_number g.setup (address_of t)
  region_lock y region at = lock_by_region g.setup y region (address_of t) (sym (region_at y) ∙ at)
