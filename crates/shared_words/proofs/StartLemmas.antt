-- The words before the first act: how many there are, which word stands at which place, and that the
-- rows which are written one after another are these words.
use Rattle.std.proofs.Common.{◌≡◌, ℕ, ◌+◌, ◌-◌, ◌*◌, ◌<◌, List, [], ◌++◌, length, take, get_or, Some, refl, ap, ◌∙◌, arith, length-append}
use Rattle.std.specs.Prelude.{slice_get, replicate}
use Rattle.std.proofs.lemmas.List.{take_all, get_or_append_left, get_or-append_right, get_or-replicate, length-replicate, append_assoc}
use Rattle.std.proofs.lemmas.Option.{slice_get-get_or}
use Rattle.gpt_descriptors.specs.declared.size.Size.TheVariants as size
use Rattle.gpt_descriptors.specs.Places.{GeometryData, WordName, IsWordName, Lock, Generation, Duty, Level1, Line, place_of, word_count, l1_words}
use Rattle.gpt_descriptors.proofs.PlaceLemmas.{place_below}
use Rattle.shared_words.specs.Start.{start_words, start_word}

-- ---- reading a row of equal words, and what stands behind it

read_row : (n i x : ℕ) (rest : List ℕ) → i < n → get_or (replicate n x ++ rest) i 0 ≡ x
read_row n i x rest lt =
    let long : i < length (replicate n x) = omega (arith, length-replicate n x) in
    get_or_append_left (replicate n x) rest 0 i long ∙ get_or-replicate n i x 0 lt

read_after : (words rest : List ℕ) (n place i : ℕ) → length words ≡ n → place ≡ n + i → get_or (words ++ rest) place 0 ≡ get_or rest i 0
read_after words rest n place i long e =
    let left : place - n ≡ i = omega arith in
    get_or-append_right words rest n place 0 long (omega arith) ∙ ap (λ (k : ℕ). get_or rest k 0) left

read_past : (n x place i : ℕ) (rest : List ℕ) → place ≡ n + i → get_or (replicate n x ++ rest) place 0 ≡ get_or rest i 0
read_past n x place i rest e = read_after (replicate n x) rest n place i (length-replicate n x) e

-- ---- the starting words by place

-- the same words, bracketed to the right
start_is : (g : GeometryData) (l1 : List ℕ)
    → start_words g l1 ≡ replicate 2 0 ++ (replicate (546 * g.setup.gigabytes) g.setup.first ++ (replicate g.cpus 0 ++ (l1 ++ replicate (l1_words g) 0)))
unfolding start_words
start_is g l1 = simp append_assoc

pub start_count : (g : GeometryData) (l1 : List ℕ) → length l1 ≡ l1_words g → length (start_words g l1) ≡ word_count g
unfolding start_words
start_count g l1 long = simp (length-append, length-replicate) (omega arith)

generation_read : (g : GeometryData) (l1 : List ℕ) (i place : ℕ) → i < 546 * g.setup.gigabytes → place ≡ 2 + i
    → get_or (start_words g l1) place 0 ≡ g.setup.first
generation_read g l1 i place lt e =
    rw (start_is g l1) (read_past 2 0 place i _ e ∙ read_row (546 * g.setup.gigabytes) i g.setup.first _ lt)

-- the words behind the generations
behind_read : (g : GeometryData) (l1 : List ℕ) (i place : ℕ) → place ≡ 2 + 546 * g.setup.gigabytes + i
    → get_or (start_words g l1) place 0 ≡ get_or (replicate g.cpus 0 ++ (l1 ++ replicate (l1_words g) 0)) i 0
behind_read g l1 i place e =
    rw (start_is g l1)
    (read_past 2 0 place (546 * g.setup.gigabytes + i) _ (omega arith)
    ∙ read_past (546 * g.setup.gigabytes) g.setup.first (546 * g.setup.gigabytes + i) i _ refl)

start_read : (g : GeometryData) (l1 : List ℕ) (n : WordName) → length l1 ≡ l1_words g → IsWordName g n
    → get_or (start_words g l1) (place_of g n) 0 ≡ start_word g l1 n
start_read g l1 (Lock b) long is = rw (start_is g l1) (read_row 2 b 0 _ is)
start_read g l1 (Generation size.Two block) long is = generation_read g l1 block _ (omega arith) (omega arith)
start_read g l1 (Generation size.ThirtyTwo block) long is =
    generation_read g l1 (512 * g.setup.gigabytes + block) _ (omega arith) (omega arith)
start_read g l1 (Generation size.FiveTwelve block) long is =
    generation_read g l1 (544 * g.setup.gigabytes + block) _ (omega arith) (omega arith)
start_read g l1 (Duty cpu) long is = behind_read g l1 cpu _ (omega arith) ∙ read_row g.cpus cpu 0 _ is
start_read g l1 (Level1 i) long is =
    let within : i < length l1 = omega arith in
    behind_read g l1 (g.cpus + i) _ (omega arith) ∙ (read_past g.cpus 0 (g.cpus + i) i _ refl ∙ get_or_append_left l1 _ 0 i within)
start_read g l1 (Line i) long is =
    behind_read g l1 (g.cpus + (l1_words g + i)) _ (omega arith)
    ∙ (read_past g.cpus 0 (g.cpus + (l1_words g + i)) (l1_words g + i) _ refl
    ∙ (read_after l1 _ (l1_words g) (l1_words g + i) i long refl ∙ get_or-replicate (l1_words g) i 0 0 is))

pub start_named : (g : GeometryData) (l1 : List ℕ) (n : WordName) → length l1 ≡ l1_words g → IsWordName g n
    → slice_get (start_words g l1) (place_of g n) ≡ Some (start_word g l1 n)
start_named g l1 n long is =
    let below : place_of g n < length (start_words g l1) = omega (arith, start_count g l1 long, place_below g n is) in
    slice_get-get_or (start_words g l1) (place_of g n) 0 below ∙ ap Some (start_read g l1 n long is)

-- ---- writing the rows one after another

-- a list that is made longer, filled up with one value
grown : (old new : List ℕ) (n len more value : ℕ) → new ≡ take n old ++ replicate (n - len) value → len ≡ length old → n ≡ length old + more
    → (new ≡ old ++ replicate more value) × (length new ≡ n)
grown old new n len more value e long n_is =
    let all : take n old ≡ old = take_all n old (omega arith) in
    let fill : n - len ≡ more = omega arith in
    let is : new ≡ old ++ replicate more value =
    e ∙ (ap (λ (xs : List ℕ). xs ++ replicate (n - len) value) all ∙ ap (λ (k : ℕ). old ++ replicate k value) fill) in
    let added : length (replicate more value) ≡ more = length-replicate more value in
    let joined : length (old ++ replicate more value) ≡ length old + length (replicate more value) = length-append old (replicate more value) in
    (is, ap length is ∙ omega arith)

-- locks, generations, duty words, L1 words and line words, each row behind those before it
pub rows_are_start : (g : GeometryData) (l1 w0 w1 w2 w3 w4 w5 : List ℕ) (len0 len1 len2 len3 len4 n2 n3 n5 first : ℕ) → length l1 ≡ l1_words g
    → w0 ≡ [] → len0 ≡ 0
    → w1 ≡ take 2 w0 ++ replicate (2 - len0) 0 → len1 ≡ 2
    → n2 ≡ 2 + 546 * g.setup.gigabytes → first ≡ g.setup.first → w2 ≡ take n2 w1 ++ replicate (n2 - len1) first → len2 ≡ n2
    → n3 ≡ len2 + g.cpus → w3 ≡ take n3 w2 ++ replicate (n3 - len2) 0 → len3 ≡ n3
    → w4 ≡ w3 ++ l1 → len4 ≡ len3 + length l1
    → n5 ≡ word_count g → w5 ≡ take n5 w4 ++ replicate (n5 - len4) 0
    → w5 ≡ start_words g l1
unfolding start_words
rows_are_start g l1 w0 w1 w2 w3 w4 w5 len0 len1 len2 len3 len4 n2 n3 n5 first long e0 l0 e1 s1 c2 f e2 s2 c3 e3 s3 e4 s4 c5 e5 =
    let generations : ℕ = 546 * g.setup.gigabytes in
    let k0 : length w0 ≡ 0 = ap length e0 in
    let r1 = grown w0 w1 2 len0 2 0 e1 (omega arith) (omega arith) in
    let k1 : length w1 ≡ 2 = r1.1 in
    let r2 = grown w1 w2 n2 len1 generations first e2 (omega arith) (omega arith) in
    let k2 : length w2 ≡ n2 = r2.1 in
    let r3 = grown w2 w3 n3 len2 g.cpus 0 e3 (omega arith) (omega arith) in
    let k3 : length w3 ≡ n3 = r3.1 in
    let k4 : length w4 ≡ length w3 + length l1 = ap length e4 ∙ length-append w3 l1 in
    let r5 = grown w4 w5 n5 len4 (l1_words g) 0 e5 (omega arith) (omega arith) in
    let locks : w1 ≡ replicate 2 0 = r1.0 ∙ ap (λ (w : List ℕ). w ++ replicate 2 0) e0 in
    let to_generations : w2 ≡ replicate 2 0 ++ replicate generations g.setup.first =
    r2.0 ∙ (ap (λ (w : List ℕ). w ++ replicate generations first) locks ∙ ap (λ (v : ℕ). replicate 2 0 ++ replicate generations v) f) in
    let to_duty : w3 ≡ replicate 2 0 ++ replicate generations g.setup.first ++ replicate g.cpus 0 =
    r3.0 ∙ ap (λ (w : List ℕ). w ++ replicate g.cpus 0) to_generations in
    r5.0 ∙ ap (λ (w : List ℕ). w ++ replicate (l1_words g) 0) (e4 ∙ ap (λ (w : List ℕ). w ++ l1) to_duty)
