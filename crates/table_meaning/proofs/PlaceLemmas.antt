-- The words of a block have their L1 words in a row: where the word of a block is among all L1 words, by the index of
-- one word of it.
use Rattle.std.proofs.Common.{◌≡◌, ℕ, ◌+◌, ◌-◌, ◌*◌, ◌/◌, ◌%◌, ◌<◌, true, cond, List, take, get_or, Some, None, sym, ap, ◌∙◌, subst, arith, inl, inr, mul_comm, mul_assoc}
use Rattle.std.proofs.Math.Nat.{div-div-eq-div-mul, mul-add-div_right}
use Rattle.std.proofs.Math.Arith.{mod-mul}
use Rattle.std.proofs.lemmas.Nat.{div-mul-add, mod-mul-add, mod_below, div-add-mod', mul-le}
use Rattle.std.proofs.lemmas.Bool.{cond-true, cases_lt, lt-ltb, le-ltb}
use Rattle.std.proofs.lemmas.Option.{cond_some}
use Rattle.gpt_descriptors.specs.declared.size.Size.{Size}
use Rattle.gpt_descriptors.specs.declared.size.Size.TheVariants as size
use Rattle.gpt_descriptors.specs.Sizes.{SetupData, words_of, table_words}
use Rattle.gpt_descriptors.specs.Level0.{is_table, table_count, l1_index}
use Rattle.gpt_descriptors.proofs.SizeLemmas.{thirty_two_is, five_twelve_is, table_is}
use Rattle.gpt_descriptors.proofs.CanonicalLemmas.{words_some}
use Rattle.table_meaning.specs.Splitting.{block_start}
use Rattle.table_meaning.specs.Fusing.{loads_of, beside, load_at, store_at}
use Rattle.table_meaning.proofs.FusingLemmas.{block_words_is}

-- ---- blocks of n words in tables of c blocks

-- the table of a word of the block
same_table : (c n w j : ℕ) → j < n → (w / n * n + j) / (c * n) ≡ w / (c * n)
same_table c n w j low =
    ap (λ (k : ℕ). (w / n * n + j) / k) (mul_comm c n) ∙ sym (div-div-eq-div-mul (w / n * n + j) n c)
    ∙ ap (λ (k : ℕ). k / c) (div-mul-add (w / n) n j low)
    ∙ div-div-eq-div-mul w n c ∙ ap (λ (k : ℕ). w / k) (mul_comm n c)

-- a word's number in its table, by its block there
in_table : (c n w : ℕ) → 0 < c → 0 < n → w % (c * n) ≡ w / n % c * n + w % n
in_table c n w blocks some = mod-mul w blocks some

-- the block in its table
block_there : (c n w : ℕ) → 0 < c → 0 < n → w % (c * n) / n ≡ w / n % c
block_there c n w blocks some =
    ap (λ (k : ℕ). k / n) (in_table c n w blocks some) ∙ div-mul-add (w / n % c) n (w % n) (mod_below w n some)

-- word j of the block of w in the table
word_there : (c n w j : ℕ) → 0 < c → 0 < n → j < n → (w / n * n + j) % (c * n) ≡ w % (c * n) / n * n + j
word_there c n w j blocks some low =
    in_table c n (w / n * n + j) blocks some
    ∙ ap (λ (k : ℕ). k % c * n + (w / n * n + j) % n) (div-mul-add (w / n) n j low)
    ∙ ap (λ (k : ℕ). w / n % c * n + k) (mod-mul-add (w / n) n j low)
    ∙ ap (λ (k : ℕ). k * n + j) (sym (block_there c n w blocks some))

-- with q tables before it
row_of : (q c n x j : ℕ) → 0 < n → (q * (c * n) + x) / n * n + j ≡ q * (c * n) + (x / n * n + j)
row_of q c n x j some =
    let turned : q * (c * n) ≡ q * c * n = sym (mul_assoc q c n) in
    let number : (q * (c * n) + x) / n ≡ q * c + x / n = ap (λ (k : ℕ). (k + x) / n) turned ∙ mul-add-div_right some (q * c) x in
    ap (λ (k : ℕ). k * n + j) number ∙ grind arith

-- the number in the block stays
rest_there : (q c n w : ℕ) → 0 < c → 0 < n → (q * (c * n) + w % (c * n)) % n ≡ w % n
rest_there q c n w blocks some =
    let whole : q * (c * n) + w % (c * n) ≡ (q * c + w / n % c) * n + w % n = ap (λ (k : ℕ). q * (c * n) + k) (in_table c n w blocks some) ∙ grind arith in
    ap (λ (k : ℕ). k % n) whole ∙ mod-mul-add (q * c + w / n % c) n (w % n) (mod_below w n some)

-- ---- blocks of a size

pub table_blocks : (s : SetupData) (z : Size) → (c : ℕ) × (0 < c) × (table_words s ≡ c * words_of s z)
table_blocks s size.FiveTwelve = (2, omega arith, table_is s)
table_blocks s size.ThirtyTwo = (32, omega arith, omega (arith, table_is s, five_twelve_is s))
table_blocks s size.Two = (512, omega arith, omega (arith, table_is s, five_twelve_is s, thirty_two_is s))

index_parts : (s : SetupData) (l0 : List ℕ) (w i : ℕ) → l1_index s l0 w ≡ Some i
    → (is_table (get_or l0 (w / table_words s) 0) ≡ true) × (table_count (take (w / table_words s) l0) * table_words s + w % table_words s ≡ i)
index_parts s l0 w i at = cond_some (is_table (get_or l0 (w / table_words s) 0)) _ i at

-- word j of the block around a word that has an L1 word
pub block_index : (s : SetupData) (l0 : List ℕ) (z : Size) (w i j : ℕ) → l1_index s l0 w ≡ Some i → j < words_of s z
    → l1_index s l0 (w / words_of s z * words_of s z + j) ≡ Some (i / words_of s z * words_of s z + j)
block_index s l0 z w i j at low =
    let n : ℕ = words_of s z in
    let blocks = table_blocks s z in
    let some = words_some s z in
    let q : ℕ = table_count (take (w / table_words s) l0) in
    let parts = index_parts s l0 w i at in
    let table : (w / n * n + j) / table_words s ≡ w / table_words s =
    subst (λ (t : ℕ). (w / n * n + j) / t ≡ w / t) (sym blocks.2) (same_table blocks.0 n w j low) in
    let there : (w / n * n + j) % table_words s ≡ w % table_words s / n * n + j =
    subst (λ (t : ℕ). (w / n * n + j) % t ≡ w % t / n * n + j) (sym blocks.2) (word_there blocks.0 n w j blocks.1 some low) in
    let row : (q * table_words s + w % table_words s) / n * n + j ≡ q * table_words s + (w % table_words s / n * n + j) =
    subst (λ (t : ℕ). (q * t + w % t) / n * n + j ≡ q * t + (w % t / n * n + j)) (sym blocks.2) (row_of q blocks.0 n (w % (blocks.0 * n)) j some) in
    ap (λ (r : ℕ). cond (is_table (get_or l0 r 0)) (Some (table_count (take r l0) * table_words s + (w / n * n + j) % table_words s)) None) table
    ∙ cond-true (is_table (get_or l0 (w / table_words s) 0)) _ _ parts.0
    ∙ ap (λ (k : ℕ). Some (q * table_words s + k)) there
    ∙ ap (λ (k : ℕ). Some k) (sym row ∙ ap (λ (k : ℕ). k / n * n + j) parts.1)

-- a word has one number in its block, by its own number and by its index
pub own_rest : (s : SetupData) (l0 : List ℕ) (z : Size) (w i : ℕ) → l1_index s l0 w ≡ Some i → i % words_of s z ≡ w % words_of s z
own_rest s l0 z w i at =
    let n : ℕ = words_of s z in
    let blocks = table_blocks s z in
    let q : ℕ = table_count (take (w / table_words s) l0) in
    let rest : (q * table_words s + w % table_words s) % n ≡ w % n =
    subst (λ (t : ℕ). (q * t + w % t) % n ≡ w % n) (sym blocks.2) (rest_there q blocks.0 n w blocks.1 (words_some s z)) in
    ap (λ (k : ℕ). k % n) (sym (index_parts s l0 w i at).1) ∙ rest

pub own_offset : (s : SetupData) (l0 : List ℕ) (z : Size) (w i : ℕ) → l1_index s l0 w ≡ Some i → w - block_start s z w ≡ i - block_start s z i
own_offset s l0 z w i at = omega (arith, own_rest s l0 z w i at, div-add-mod' w (words_of s z), div-add-mod' i (words_of s z))

-- ---- the words of merging

-- block number b of n words among the sixteen around a word
row_at : (n x b : ℕ) → (x / (16 * n) * 16 + b) * n ≡ x / (16 * n) * (16 * n) + b * n
row_at n x b = grind arith

-- the number of its block of n words in its sixteen
row_number : (n w i : ℕ) → 0 < n → i % (16 * n) ≡ w % (16 * n) → i / n % 16 ≡ w / n % 16
row_number n w i some same =
    sym (block_there 16 n i (omega arith) some) ∙ ap (λ (k : ℕ). k / n) same ∙ block_there 16 n w (omega arith) some

row_low : (n b : ℕ) → 0 < n → b < 16 → b * n < 16 * n
row_low n b some low = let le = mul-le (b + 1) n 16 n (omega (arith, low)) (omega arith) in let spread : (b + 1) * n ≡ b * n + n = grind arith in omega (arith, le, spread, some)

beside_low : (j k : ℕ) → k < 15 → beside j k < 16
beside_low j k low = elim (cases_lt k j) [ inl below ↦ rw (lt-ltb k j below) (omega (arith, low)) | inr above ↦ rw (le-ltb k j above) (omega (arith, low)) ]

row_index : (s : SetupData) (l0 : List ℕ) (n b c w i : ℕ) (z : Size) → words_of s z ≡ 16 * n → 0 < n → l1_index s l0 w ≡ Some i → c ≡ b → b < 16
    → l1_index s l0 ((w / (16 * n) * 16 + b) * n) ≡ Some ((i / (16 * n) * 16 + c) * n)
row_index s l0 n b c w i z size_is some at same low =
    let inside : b * n < words_of s z = omega (arith, size_is, row_low n b some low) in
    ap (l1_index s l0) (row_at n w b)
    ∙ subst (λ (t : ℕ). l1_index s l0 (w / t * t + b * n) ≡ Some (i / t * t + b * n)) size_is (block_index s l0 z w i (b * n) at inside)
    ∙ ap (λ (k : ℕ). Some k) (ap (λ (j : ℕ). i / (16 * n) * (16 * n) + j * n) (sym same) ∙ sym (row_at n i c))

-- load k of the test of a size, by the index of the granule's word
pub load_index : (s : SetupData) (l0 : List ℕ) (z : Size) (w i k : ℕ) → l1_index s l0 w ≡ Some i → k < loads_of (words_of s size.Two) z
    → l1_index s l0 (load_at (words_of s size.Two) w z k) ≡ Some (load_at (words_of s size.Two) i z k)
load_index s l0 size.Two w i k at low = block_index s l0 size.Two w i k at low
load_index s l0 size.ThirtyTwo w i k at low =
    let n : ℕ = words_of s size.Two in
    row_index s l0 n (beside (w / n % 16) k) (beside (i / n % 16) k) w i size.ThirtyTwo (thirty_two_is s) (words_some s size.Two) at
    (ap (λ (j : ℕ). beside j k) (row_number n w i (words_some s size.Two) (subst (λ (t : ℕ). i % t ≡ w % t) (thirty_two_is s) (own_rest s l0 size.ThirtyTwo w i at))))
    (beside_low (w / n % 16) k low)
load_index s l0 size.FiveTwelve w i k at low =
    let n : ℕ = 16 * words_of s size.Two in
    let some : 0 < n = omega (arith, words_some s size.Two) in
    let size_is : words_of s size.FiveTwelve ≡ 16 * n = block_words_is s size.FiveTwelve in
    row_index s l0 n (beside (w / n % 16) k) (beside (i / n % 16) k) w i size.FiveTwelve size_is some at
    (ap (λ (j : ℕ). beside j k) (row_number n w i some (subst (λ (t : ℕ). i % t ≡ w % t) size_is (own_rest s l0 size.FiveTwelve w i at))))
    (beside_low (w / n % 16) k low)

-- store k of a block, likewise
pub store_index : (s : SetupData) (l0 : List ℕ) (z : Size) (w i k : ℕ) → l1_index s l0 w ≡ Some i → k < words_of s z
    → l1_index s l0 (block_start s z w + k) ≡ Some (store_at (words_of s size.Two) i z k)
store_index s l0 z w i k at low = block_index s l0 z w i k at low ∙ ap (λ (n : ℕ). Some (i / n * n + k)) (block_words_is s z)
