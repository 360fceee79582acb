-- The places of the shared words: what a good L0 table says of the tables before an entry, and that
-- each word has a place of its own.
use Rattle.std.proofs.Common.{◌≡◌, ℕ, zero, suc, ◌+◌, ◌-◌, ◌*◌, ◌/◌, ◌%◌, ◌≤◌, ◌<◌, Bool, true, false, cond, ltb, List, [], ◌∷◌, length, get_or, take, Option, Some, None, refl, sym, ap, subst, ◌∙◌, arith, inl, inr, mul_comm, add-zero}
use Rattle.std.specs.Prelude.{IsSome}
use Rattle.std.proofs.Math.Nat.{div-div-eq-div-mul, mul_left_comm}
use Rattle.std.proofs.lemmas.Nat.{same_from_place, mul-add-lt, mod_below, div_below, div-add-mod', mul-le}
use Rattle.std.proofs.lemmas.Bool.{and_parts, cases_order, eqb-true, ltb-true, lt-ltb, le-ltb, cond-true, cond-false}
use Rattle.std.proofs.lemmas.Option.{cond_some}
use Rattle.std.proofs.lemmas.List.Sums.{sum_by-cons}
use Rattle.gpt_descriptors.specs.declared.size.Size.{Size}
use Rattle.gpt_descriptors.specs.declared.size.Size.TheVariants as size
use Rattle.gpt_descriptors.specs.declared.entry.L0Entry.{L0Entry}
use Rattle.gpt_descriptors.specs.declared.entry.L0Entry.TheVariants as l0
use Rattle.gpt_descriptors.specs.Sizes.{SetupData, word_bytes, table_words, table_bytes, size_bytes, region_bytes, space_bytes}
use Rattle.gpt_descriptors.specs.Entries.{l0_entry}
use Rattle.gpt_descriptors.specs.Level0.{is_table, is_table_entry, is_entry_good, are_entries_good, table_count, l1_index}
use Rattle.gpt_descriptors.specs.Places.{GeometryData, IsGeometry, block_gpi_in, block_gpi_of, WordName, IsWordName, l0_word_of, l1_index_of, Lock, Generation, Duty, Level1, Line, place_of, word_count, l1_words, l0_words}
use Rattle.gpt_descriptors.proofs.SizeLemmas.{table_whole, table_words_low, table_words_high}

-- ---- a good L0 table

-- the tables of a list that begins with this word
count_first : (w : ℕ) (ws : List ℕ) → table_count (w ∷ ws) ≡ cond (is_table w) 1 0 + table_count ws
count_first w ws = sum_by-cons (λ x. cond (is_table x) 1 0) w ws

count_table : (w : ℕ) (ws : List ℕ) → is_table w ≡ true → table_count (w ∷ ws) ≡ 1 + table_count ws
count_table w ws table = count_first w ws ∙ ap (λ (b : Bool). cond b 1 0 + table_count ws) table

count_step : (b : Bool) (k n : ℕ) → cond b (k + 1) k + n ≡ k + (cond b 1 0 + n)
count_step true k n = omega arith
count_step false k n = omega arith

-- the table of an entry is the one after as many tables as there are before it
pub table_at : (s : SetupData) (k : ℕ) (words : List ℕ) (r address : ℕ) → are_entries_good s k words ≡ true → r < length words
    → l0_entry (get_or words r 0) ≡ Some (l0.Table address)
    → (k + table_count (take r words) < s.tables) × (address ≡ s.base + (k + table_count (take r words)) * table_bytes s)
table_at s k [] r address good lt e = absurd (omega arith)
table_at s k (w ∷ ws) zero address good lt e =
    let own : is_entry_good s k (Some (l0.Table address)) ≡ true =
    subst (λ (o : Option L0Entry). is_entry_good s k o ≡ true) e (and_parts _ _ good).0 in
    let lower = and_parts _ _ (and_parts _ _ (and_parts _ _ own).0).0 in
    let none : k + 0 ≡ k = add-zero k in
    subst (λ (n : ℕ). (n < s.tables) × (address ≡ s.base + n * table_bytes s)) (sym none) (ltb-true _ _ lower.0, eqb-true _ _ lower.1)
table_at s k (w ∷ ws) (suc r) address good lt e =
    subst (λ (n : ℕ). (n < s.tables) × (address ≡ s.base + n * table_bytes s))
    (count_step (is_table w) k (table_count (take r ws)) ∙ ap (λ (n : ℕ). k + n) (sym (count_first w (take r ws))))
    (table_at s (cond (is_table w) (k + 1) k) ws r address (and_parts _ _ good).1 (omega arith) e)

entry_room : (s : SetupData) (k : ℕ) (entry : Option L0Entry) → is_entry_good s k entry ≡ true → k ≤ s.tables
    → cond (is_table_entry entry) (k + 1) k ≤ s.tables
entry_room s k None good room = room
entry_room s k (Some (l0.Block gpi)) good room = room
entry_room s k (Some (l0.Table address)) good room =
    let below : k < s.tables = ltb-true _ _ (and_parts _ _ (and_parts _ _ (and_parts _ _ good).0).0).0 in
    omega arith

-- there are at most as many tables as there is memory for
pub tables_bounded : (s : SetupData) (k : ℕ) (words : List ℕ) → are_entries_good s k words ≡ true → k ≤ s.tables → k + table_count words ≤ s.tables
tables_bounded s k [] good room = omega arith
tables_bounded s k (w ∷ ws) good room =
    let parts = and_parts _ _ good in
    subst (λ (n : ℕ). n ≤ s.tables) (count_step (is_table w) k (table_count ws) ∙ ap (λ (n : ℕ). k + n) (sym (count_first w ws)))
    (tables_bounded s (cond (is_table w) (k + 1) k) ws parts.1 (entry_room s k (l0_entry w) parts.0 room))

entry_some : (s : SetupData) (k : ℕ) (entry : Option L0Entry) → is_entry_good s k entry ≡ true → IsSome entry
entry_some s k None good = absurd cc
entry_some s k (Some entry) good = refl

-- each word is a descriptor
pub entry_known : (s : SetupData) (k : ℕ) (words : List ℕ) (r : ℕ) → are_entries_good s k words ≡ true → r < length words
    → IsSome (l0_entry (get_or words r 0))
entry_known s k [] r good lt = absurd (omega arith)
entry_known s k (w ∷ ws) zero good lt = entry_some s k (l0_entry w) (and_parts _ _ good).0
entry_known s k (w ∷ ws) (suc r) good lt = entry_known s (cond (is_table w) (k + 1) k) ws r (and_parts _ _ good).1 (omega arith)

-- ---- the words of the L1 tables

-- a table counts among those before any later place
pub table_before : (words : List ℕ) (r later : ℕ) → r < later → is_table (get_or words r 0) ≡ true
    → table_count (take r words) + 1 ≤ table_count (take later words)
table_before [] r later lt table = absurd cc
table_before (w ∷ ws) zero zero lt table = absurd (omega arith)
table_before (w ∷ ws) zero (suc later) lt table =
    let first = count_table w (take later ws) table in
    omega arith
table_before (w ∷ ws) (suc r) zero lt table = absurd (omega arith)
table_before (w ∷ ws) (suc r) (suc later) lt table =
    let rest = table_before ws r later (omega arith) table in
    let low = count_first w (take r ws) in
    let high = count_first w (take later ws) in
    omega arith

pub table_within : (words : List ℕ) (r : ℕ) → is_table (get_or words r 0) ≡ true → table_count (take r words) < table_count words
table_within [] r table = absurd cc
table_within (w ∷ ws) zero table =
    let first = count_table w ws table in
    omega arith
table_within (w ∷ ws) (suc r) table =
    let rest = table_within ws r table in
    let low = count_first w (take r ws) in
    let high = count_first w ws in
    omega arith

index_parts : (s : SetupData) (words : List ℕ) (w i : ℕ) → l1_index s words w ≡ Some i
    → (is_table (get_or words (w / table_words s) 0) ≡ true) × (table_count (take (w / table_words s) words) * table_words s + w % table_words s ≡ i)
index_parts s words w i e = cond_some (is_table (get_or words (w / table_words s) 0)) _ i e

-- a number by its quotient and its rest
place_back : (v w n : ℕ) → v / n ≡ w / n → v % n ≡ w % n → v ≡ w
place_back v w n rows rests = sym (div-add-mod' v n) ∙ (ap (λ (r : ℕ). r * n + v % n) rows ∙ (ap (λ (r : ℕ). w / n * n + r) rests ∙ div-add-mod' w n))

-- two words of the space have one place among the L1 words only where they are one
pub l1_index_one : (s : SetupData) (words : List ℕ) (v w i : ℕ) → l1_index s words v ≡ Some i → l1_index s words w ≡ Some i → v ≡ w
l1_index_one s words v w i ev ew =
    let pv = index_parts s words v i ev in
    let pw = index_parts s words w i ew in
    let low = table_words_low s in
    let same = same_from_place (table_count (take (v / table_words s) words)) (v % table_words s) (table_count (take (w / table_words s) words)) (w % table_words s) (table_words s)
    (mod_below v (table_words s) low) (mod_below w (table_words s) low) (pv.1 ∙ sym pw.1) in
    elim (cases_order (v / table_words s) (w / table_words s)) [
      | inl one ↦ place_back v w (table_words s) one same.1
      | inr (inl before) ↦ absurd (let more = table_before words _ _ before pv.0 in omega (arith, same.0))
      | inr (inr after) ↦ absurd (let more = table_before words _ _ after pw.0 in omega (arith, same.0))
    ]

-- and each place is within the tables
pub l1_index_within : (s : SetupData) (words : List ℕ) (w i : ℕ) → l1_index s words w ≡ Some i → i < table_count words * table_words s
l1_index_within s words w i e =
    let parts = index_parts s words w i e in
    let fits = mul-add-lt (table_count (take (w / table_words s) words)) (table_words s) (w % table_words s) (table_count words)
    (table_within words (w / table_words s) parts.0) (mod_below w (table_words s) (table_words_low s)) in
    let turned = mul_comm (table_words s) (table_count words) in
    subst (λ (n : ℕ). n < table_count words * table_words s) parts.1
    (subst (λ (n : ℕ). table_count (take (w / table_words s) words) * table_words s + w % table_words s < n) turned fits)

-- the words of a region cover its bytes
pub region_of_word : (s : SetupData) (pa : ℕ) → pa / word_bytes s / table_words s ≡ pa / region_bytes
region_of_word s pa =
    div-div-eq-div-mul pa (word_bytes s) (table_words s) ∙ ap (λ (n : ℕ). pa / n) (mul_comm (word_bytes s) (table_words s) ∙ table_whole s)

-- the index of the L1 word of an address, by its region
pub l1_index_at : (s : SetupData) (words : List ℕ) (pa : ℕ) → l1_index s words (pa / word_bytes s)
    ≡ cond (is_table (get_or words (pa / region_bytes) 0)) (Some (table_count (take (pa / region_bytes) words) * table_words s + pa / word_bytes s % table_words s)) None
l1_index_at s words pa =
    ap (λ (r : ℕ). cond (is_table (get_or words r 0)) (Some (table_count (take r words) * table_words s + pa / word_bytes s % table_words s)) None) (region_of_word s pa)

-- ---- each word has a place of its own

-- the word at a place
unfoldable pub name_at : GeometryData → ℕ → WordName
name_at g p =
    cond (ltb p 2) (Lock p)
    (cond (ltb p (2 + 512 * g.setup.gigabytes)) (Generation size.Two (p - 2))
    (cond (ltb p (2 + 544 * g.setup.gigabytes)) (Generation size.ThirtyTwo (p - (2 + 512 * g.setup.gigabytes)))
    (cond (ltb p (2 + 546 * g.setup.gigabytes)) (Generation size.FiveTwelve (p - (2 + 544 * g.setup.gigabytes)))
    (cond (ltb p (2 + 546 * g.setup.gigabytes + g.cpus)) (Duty (p - (2 + 546 * g.setup.gigabytes)))
    (cond (ltb p (2 + 546 * g.setup.gigabytes + g.cpus + l1_words g)) (Level1 (p - (2 + 546 * g.setup.gigabytes + g.cpus)))
    (Line (p - (2 + 546 * g.setup.gigabytes + g.cpus + l1_words g))))))))

past : (p from : ℕ) (x y : WordName) → from ≤ p → cond (ltb p from) x y ≡ y
past p from x y le = cond-false (ltb p from) x y (le-ltb p from le)

short : (p from : ℕ) (x y : WordName) → p < from → cond (ltb p from) x y ≡ x
short p from x y lt = cond-true (ltb p from) x y (lt-ltb p from lt)

pub name_back : (g : GeometryData) (n : WordName) → IsWordName g n → name_at g (place_of g n) ≡ n
unfolding name_at
name_back g (Lock b) is = short b 2 _ _ is
name_back g (Generation size.Two block) is =
    past (2 + block) 2 _ _ (omega arith) ∙ (short (2 + block) (2 + 512 * g.setup.gigabytes) _ _ (omega arith)
    ∙ ap (λ (b : ℕ). Generation size.Two b) (let e : 2 + block - 2 ≡ block = omega arith in e))
name_back g (Generation size.ThirtyTwo block) is =
    let p : ℕ = 2 + 512 * g.setup.gigabytes + block in
    past p 2 _ _ (omega arith) ∙ (past p (2 + 512 * g.setup.gigabytes) _ _ (omega arith)
    ∙ (short p (2 + 544 * g.setup.gigabytes) _ _ (omega arith)
    ∙ ap (λ (b : ℕ). Generation size.ThirtyTwo b) (let e : p - (2 + 512 * g.setup.gigabytes) ≡ block = omega arith in e)))
name_back g (Generation size.FiveTwelve block) is =
    let p : ℕ = 2 + 544 * g.setup.gigabytes + block in
    past p 2 _ _ (omega arith) ∙ (past p (2 + 512 * g.setup.gigabytes) _ _ (omega arith)
    ∙ (past p (2 + 544 * g.setup.gigabytes) _ _ (omega arith) ∙ (short p (2 + 546 * g.setup.gigabytes) _ _ (omega arith)
    ∙ ap (λ (b : ℕ). Generation size.FiveTwelve b) (let e : p - (2 + 544 * g.setup.gigabytes) ≡ block = omega arith in e))))
name_back g (Duty cpu) is =
    let p : ℕ = 2 + 546 * g.setup.gigabytes + cpu in
    past p 2 _ _ (omega arith) ∙ (past p (2 + 512 * g.setup.gigabytes) _ _ (omega arith)
    ∙ (past p (2 + 544 * g.setup.gigabytes) _ _ (omega arith) ∙ (past p (2 + 546 * g.setup.gigabytes) _ _ (omega arith)
    ∙ (short p (2 + 546 * g.setup.gigabytes + g.cpus) _ _ (omega arith)
    ∙ ap Duty (let e : p - (2 + 546 * g.setup.gigabytes) ≡ cpu = omega arith in e)))))
name_back g (Level1 i) is =
    let p : ℕ = 2 + 546 * g.setup.gigabytes + g.cpus + i in
    past p 2 _ _ (omega arith) ∙ (past p (2 + 512 * g.setup.gigabytes) _ _ (omega arith)
    ∙ (past p (2 + 544 * g.setup.gigabytes) _ _ (omega arith) ∙ (past p (2 + 546 * g.setup.gigabytes) _ _ (omega arith)
    ∙ (past p (2 + 546 * g.setup.gigabytes + g.cpus) _ _ (omega arith)
    ∙ (short p (2 + 546 * g.setup.gigabytes + g.cpus + l1_words g) _ _ (omega arith)
    ∙ ap Level1 (let e : p - (2 + 546 * g.setup.gigabytes + g.cpus) ≡ i = omega arith in e))))))
name_back g (Line i) is =
    let p : ℕ = 2 + 546 * g.setup.gigabytes + g.cpus + l1_words g + i in
    past p 2 _ _ (omega arith) ∙ (past p (2 + 512 * g.setup.gigabytes) _ _ (omega arith)
    ∙ (past p (2 + 544 * g.setup.gigabytes) _ _ (omega arith) ∙ (past p (2 + 546 * g.setup.gigabytes) _ _ (omega arith)
    ∙ (past p (2 + 546 * g.setup.gigabytes + g.cpus) _ _ (omega arith)
    ∙ (past p (2 + 546 * g.setup.gigabytes + g.cpus + l1_words g) _ _ (omega arith)
    ∙ ap Line (let e : p - (2 + 546 * g.setup.gigabytes + g.cpus + l1_words g) ≡ i = omega arith in e))))))

pub place_distinct : (g : GeometryData) (a b : WordName) → IsWordName g a → IsWordName g b → place_of g a ≡ place_of g b → a ≡ b
place_distinct g a b is_a is_b same = sym (name_back g a is_a) ∙ (ap (name_at g) same ∙ name_back g b is_b)

pub place_below : (g : GeometryData) (n : WordName) → IsWordName g n → place_of g n < word_count g
place_below g (Lock b) is = omega arith
place_below g (Generation size.Two block) is = omega arith
place_below g (Generation size.ThirtyTwo block) is = omega arith
place_below g (Generation size.FiveTwelve block) is = omega arith
place_below g (Duty cpu) is = omega arith
place_below g (Level1 i) is = omega arith
place_below g (Line i) is = omega arith

-- ---- addresses within the space

pub generation_named : (g : GeometryData) (z : Size) (pa : ℕ) → pa < space_bytes g.setup → IsWordName g (Generation z (pa / size_bytes z))
generation_named g size.Two pa lt = omega arith
generation_named g size.ThirtyTwo pa lt = omega arith
generation_named g size.FiveTwelve pa lt = omega arith

-- ---- a geometry

pub region_within : (s : SetupData) (pa : ℕ) → pa < space_bytes s → pa / region_bytes < s.gigabytes
region_within s pa lt = div_below pa region_bytes s.gigabytes (omega arith) lt

geometry_length : (g : GeometryData) → IsGeometry g → length (l0_words g) ≡ g.setup.gigabytes
geometry_length g is = eqb-true _ _ (and_parts _ _ is.good).0

geometry_entries : (g : GeometryData) → IsGeometry g → are_entries_good g.setup 0 (l0_words g) ≡ true
geometry_entries g is = (and_parts _ _ is.good).1

pub geometry_region : (g : GeometryData) (pa : ℕ) → IsGeometry g → pa < space_bytes g.setup → pa / region_bytes < length (l0_words g)
geometry_region g pa is lt = omega (arith, region_within g.setup pa lt, geometry_length g is)

-- the L0 word of each address is a descriptor
pub l0_known : (g : GeometryData) (pa : ℕ) → IsGeometry g → pa < space_bytes g.setup → IsSome (l0_entry (l0_word_of g pa))
l0_known g pa is lt = entry_known g.setup 0 (l0_words g) (pa / region_bytes) (geometry_entries g is) (geometry_region g pa is lt)

pub geometry_tables : (g : GeometryData) → IsGeometry g → g.l1_tables ≤ 16
geometry_tables g is = omega (arith, is.tables, tables_bounded g.setup 0 (l0_words g) (geometry_entries g is) (omega arith), is.setup.tables)

-- the tables follow one another from the base on, so the address of a table says how many words are before it
words_before : (base count words address : ℕ) → address ≡ base + count * (8 * words) → (base ≤ address) × ((address - base) / 8 ≡ count * words)
words_before base count words address e =
    let turned : count * (8 * words) ≡ 8 * (count * words) = omega (arith, mul_left_comm count 8 words) in
    (omega arith, omega arith)

pub index_by_address : (g : GeometryData) (pa address : ℕ) → IsGeometry g → pa < space_bytes g.setup → l0_entry (l0_word_of g pa) ≡ Some (l0.Table address)
    → (g.setup.base ≤ address) × (l1_index_of g pa ≡ Some ((address - g.setup.base) / 8 + pa / word_bytes g.setup % table_words g.setup))
index_by_address g pa address is lt e =
    let at = table_at g.setup 0 (l0_words g) (pa / region_bytes) address (geometry_entries g is) (geometry_region g pa is lt) e in
    let count : ℕ = table_count (take (pa / region_bytes) (l0_words g)) in
    let here : address ≡ g.setup.base + count * table_bytes g.setup = omega (arith, at.1) in
    let before = words_before g.setup.base count (table_words g.setup) address here in
    let table : is_table (l0_word_of g pa) ≡ true = ap is_table_entry e in (
      before.0,
      l1_index_at g.setup (l0_words g) pa ∙ (cond-true (is_table (l0_word_of g pa)) _ _ table
          ∙ ap (λ (n : ℕ). Some (n + pa / word_bytes g.setup % table_words g.setup)) (sym before.1)),
    )

-- an address below a table has an L1 word
pub index_there : (g : GeometryData) (pa : ℕ) → is_table (l0_word_of g pa) ≡ true → (i : ℕ) × (l1_index_of g pa ≡ Some i)
index_there g pa table = (
  table_count (take (pa / region_bytes) (l0_words g)) * table_words g.setup + pa / word_bytes g.setup % table_words g.setup,
  l1_index_at g.setup (l0_words g) pa ∙ cond-true (is_table (l0_word_of g pa)) _ _ table,
)

unblocked_entry : (o : Option L0Entry) → IsSome o → block_gpi_in o ≡ None → is_table_entry o ≡ true
unblocked_entry None there none = absurd cc
unblocked_entry (Some (l0.Block gpi)) there none = absurd cc
unblocked_entry (Some (l0.Table address)) there none = refl

-- and so has one inside the space that is in no L0 block
pub unblocked_index : (g : GeometryData) (pa : ℕ) → IsGeometry g → pa < space_bytes g.setup → block_gpi_of g pa ≡ None → (i : ℕ) × (l1_index_of g pa ≡ Some i)
unblocked_index g pa is lt none = index_there g pa (unblocked_entry (l0_entry (l0_word_of g pa)) (l0_known g pa is lt) none)

-- an L0 block has no L1 words
pub index_none : (g : GeometryData) (pa : ℕ) → is_table (l0_word_of g pa) ≡ false → l1_index_of g pa ≡ None
index_none g pa block = l1_index_at g.setup (l0_words g) pa ∙ cond-false (is_table (l0_word_of g pa)) _ _ block

pub index_within : (g : GeometryData) (pa i : ℕ) → IsGeometry g → l1_index_of g pa ≡ Some i → i < l1_words g
index_within g pa i is e =
    subst (λ (n : ℕ). i < n * table_words g.setup) (sym is.tables) (l1_index_within g.setup (l0_words g) (pa / word_bytes g.setup) i e)

pub l1_words_high : (g : GeometryData) → IsGeometry g → l1_words g ≤ 262144
l1_words_high g is = omega (arith, mul-le g.l1_tables (table_words g.setup) 16 16384 (geometry_tables g is) (table_words_high g.setup))

-- ---- the same facts, of values that are known to be those of the geometry

pub index_told : (g : GeometryData) (s : SetupData) (pa table base bytes words : ℕ) → s ≡ g.setup → IsGeometry g → pa < space_bytes g.setup
    → l0_entry (l0_word_of g pa) ≡ Some (l0.Table table) → base ≡ s.base → bytes ≡ word_bytes s → words ≡ table_words s
    → (base ≤ table) × (Some ((table - base) / 8 + pa / bytes % words) ≡ l1_index_of g pa)
index_told g s pa table base bytes words es is lt e eb ey ew =
    let at = index_by_address g pa table is lt e in
    let base_is : base ≡ g.setup.base = eb ∙ ap (λ (x : SetupData). x.base) es in
    let bytes_is : bytes ≡ word_bytes g.setup = ey ∙ ap word_bytes es in
    let words_is : words ≡ table_words g.setup = ew ∙ ap table_words es in (
      omega (arith, at.0),
      ap (λ (b : ℕ). Some ((table - b) / 8 + pa / bytes % words)) base_is
          ∙ (ap (λ (b : ℕ). Some ((table - g.setup.base) / 8 + pa / b % words)) bytes_is
          ∙ (ap (λ (b : ℕ). Some ((table - g.setup.base) / 8 + pa / word_bytes g.setup % b)) words_is ∙ sym at.1)),
    )

pub index_small : (g : GeometryData) (pa i : ℕ) → IsGeometry g → l1_index_of g pa ≡ Some i → i < 262144
index_small g pa i is e = omega (arith, index_within g pa i is e, l1_words_high g is)
