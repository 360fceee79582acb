-- What an act leaves of the shared words: all but the one that it writes. Of each kind of word that is written: which
-- facts it leaves alone.
use Rattle.std.proofs.Common.{◌≡◌, ◌≢◌, ℕ, ◌*◌, ◌/◌, ◌%◌, ◌<◌, List, Bool, true, false, Option, Some, None, length, set, refl, sym, ap, ◌∙◌, arith}
use Rattle.std.specs.Prelude.{slice_index}
use Rattle.std.specs.Int.{bit_at}
use Rattle.std.proofs.lemmas.List.{length-set, get_or-set_other}
use Rattle.core_machine.proofs.Names.{Gpi, Size, size_bytes, space_bytes, GeometryData, IsGeometry, WordName, IsWordName, Lock, Generation, Duty, Level1, Line, place_of, l0_words, l1_index, gen_place_of, blocks_in_region, lock_number, lock_bit, AreWords, generation_word}
use Rattle.gpi_values.specs.declared.gpi.Space.{Space}
use Rattle.alias_clean.specs.Lines.{is_resident, line_at, has_line}
use Rattle.gpt_descriptors.proofs.PlaceLemmas.{place_distinct, generation_named}
use Rattle.core_machine.proofs.AddressLemmas.{index_below, lock_by_region, lock_of}

-- ---- the word that is written

-- the words after an act that wrote this word, if it wrote one
pub record Writes (g : GeometryData) (words : List ℕ) (n : Option WordName) (after : List ℕ) : Type 0 where
  pub size : length after ≡ length words
  pub beside : (m : WordName) → IsWordName g m → n ≢ Some m → slice_index after (place_of g m) ≡ slice_index words (place_of g m)

pub writes_none : (g : GeometryData) (words : List ℕ) → Writes g words None words
writes_none g words = record { size = refl; beside = λ m named apart. refl }

pub writes_one : (g : GeometryData) (words : List ℕ) (n : WordName) (v : ℕ) → IsWordName g n → Writes g words (Some n) (set words (place_of g n) v)
writes_one g words n v named = record {
  size = length-set words (place_of g n) v;
  beside = λ m there apart.
      get_or-set_other words (place_of g n) (place_of g m) v 0 (λ same. apart (ap Some (sym (place_distinct g m n there named same))));
}

-- ---- what it leaves, by its kind

abbrev pub is_lock : Option WordName → Bool
is_lock (Some (Lock b)) = true
is_lock n = false

abbrev pub is_generation : Option WordName → Bool
is_generation (Some (Generation z block)) = true
is_generation n = false

abbrev pub is_level1 : Option WordName → Bool
is_level1 (Some (Level1 i)) = true
is_level1 n = false

-- lines, of which agents clean those of their granules
abbrev pub is_line : Option WordName → Bool
is_line (Some (Line i)) = true
is_line n = false

-- duty words, which no agent writes
abbrev pub is_duty : Option WordName → Bool
is_duty (Some (Duty cpu)) = true
is_duty n = false

pub other_word : (n : Option WordName) (p : ℕ) → is_duty n ≡ false → n ≡ Some (Duty p) → ⊥
other_word n p unlike same = let both : true ≡ false = ap is_duty (sym same) ∙ unlike in cc

differs : (p : Option WordName → Bool) (n m : Option WordName) → p n ≡ false → p m ≡ true → n ≢ m
differs p n m unlike is same = let both : true ≡ false = sym is ∙ ap p (sym same) ∙ unlike in cc

module _ {g : GeometryData} {words : List ℕ} {n : Option WordName} {after : List ℕ} (writes : Writes g words n after) where
  pub words_left : (m : ℕ → Gpi) (apart : ℕ → Option ℕ) → is_level1 n ≡ false → IsGeometry g → AreWords g m apart words → AreWords g m apart after
  words_left m apart unlike geometry are = λ w i at.
      writes.beside (Level1 i) (index_below g w i geometry at) (differs is_level1 n (Some (Level1 i)) unlike refl) ∙ are w i at

  pub locks_left : is_lock n ≡ false → (m : ℕ) → m < 128 → lock_bit after m ≡ lock_bit words m
  locks_left unlike m low =
      ap (λ (word : ℕ). bit_at word (m % 64)) (writes.beside (Lock (m / 64)) (omega (arith, low)) (differs is_lock n (Some (Lock (m / 64))) unlike refl))

  pub generation_left : (y : Size) (region : ℕ) → region < blocks_in_region y * g.setup.gigabytes → n ≢ Some (Generation y region)
      → generation_word g after y region ≡ generation_word g words y region
  generation_left y region within apart = writes.beside (Generation y region) within apart

  pub generations_left : is_generation n ≡ false → (y : Size) (region : ℕ) → region < blocks_in_region y * g.setup.gigabytes
      → generation_word g after y region ≡ generation_word g words y region
  generations_left unlike y region within = generation_left y region within (differs is_generation n (Some (Generation y region)) unlike refl)

  lines_in : is_line n ≡ false → IsGeometry g → (w : ℕ) (o : Option ℕ) → l1_index g.setup (l0_words g) w ≡ o → (granule : ℕ) (s : Space) → line_at g after o granule s ≡ line_at g words o granule s
  lines_in unlike geometry w None at granule s = refl
  lines_in unlike geometry w (Some i) at granule s =
      ap (λ (word : ℕ). is_resident word (granule % 16) s) (writes.beside (Line i) (index_below g w i geometry at) (differs is_line n (Some (Line i)) unlike refl))

  pub lines_left : is_line n ≡ false → IsGeometry g → (granule : ℕ) (s : Space) → has_line g after granule s ≡ has_line g words granule s
  lines_left unlike geometry granule s = lines_in unlike geometry (granule / 16) (l1_index g.setup (l0_words g) (granule / 16)) refl granule s

-- ---- lock blocks

-- the word is no generation of lock block m
abbrev pub IsApart : GeometryData → ℕ → Option WordName → Type 0
IsApart g m (Some (Generation z region)) = lock_number g.setup (region * size_bytes z) ≢ m
IsApart g m n = Unit {0}

pub plain_apart : (g : GeometryData) (m : ℕ) (n : Option WordName) → is_generation n ≡ false → IsApart g m n
plain_apart g m (Some (Generation z region)) plain = absurd cc
plain_apart g m n plain = tt

other_generation : (g : GeometryData) (m : ℕ) (n : Option WordName) (pa : ℕ) (y : Size) → IsApart g m n → lock_number g.setup pa ≡ m → n ≢ Some (Generation y (pa / size_bytes y))
other_generation g m (Some (Generation z region)) pa y apart lock same =
    let size_same : z ≡ y = cc in
    let here : region ≡ pa / size_bytes y = cc in
    apart (ap (λ (x : Size). lock_number g.setup (region * size_bytes x)) size_same ∙ lock_by_region g.setup y region pa (sym here) ∙ lock)
other_generation g m n pa y apart lock same = cc

-- what callers see of lock block m is as before: its generations, and the map in it
pub record LeavesBlock (g : GeometryData) (k l : ℕ → Gpi) (words after : List ℕ) (m : ℕ) : Type 0 where
  pub generations : (y : Size) (pa : ℕ) → pa < space_bytes g.setup → lock_number g.setup pa ≡ m → slice_index after (gen_place_of g y pa) ≡ slice_index words (gen_place_of g y pa)
  pub map : (granule : ℕ) → lock_of g.setup granule ≡ m → k granule ≡ l granule

pub block_left : {g : GeometryData} {words : List ℕ} {n : Option WordName} {after : List ℕ} (m : ℕ) (k l : ℕ → Gpi) → Writes g words n after → IsApart g m n
    → ((granule : ℕ) → lock_of g.setup granule ≡ m → k granule ≡ l granule) → LeavesBlock g k l words after m
block_left {g = g} {n = n} m k l writes apart map = record {
  generations = λ y pa inside lock. writes.beside (Generation y (pa / size_bytes y)) (generation_named g y pa inside) (other_generation g m n pa y apart lock);
  map = map;
}
