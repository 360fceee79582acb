-- Line words: what a touch and a clean leave of the lines of all granules.
use Rattle.std.proofs.Common.{◌≡◌, ◌≢◌, ℕ, ◌/◌, ◌%◌, ◌<◌, List, Bool, true, false, not, ◌&&◌, ◌||◌, eqb, Option, Some, None, length, refl, sym, ap, ◌∙◌, subst, arith, inl, inr}
use Rattle.std.specs.Prelude.{slice_index}
use Rattle.std.specs.Option.{option_map}
use Rattle.std.specs.Int.{bit_not, w64}
use Rattle.std.proofs.lemmas.Bool.{cases_eq, eqb-true, eq-eqb, ne_eqb, and_parts}
use Rattle.std.proofs.lemmas.List.{get_or-set_other, get_or-set_same}
use Rattle.core_machine.proofs.Names.{GeometryData, IsGeometry, Line, l0_words, l1_words, l1_index, l1_index_of, place_of, word_count, Act, place_in, after_act}
use Rattle.core_machine.proofs.Names.act
use Rattle.gpi_values.specs.declared.gpi.Space.{Space}
use Rattle.gpi_values.specs.declared.gpi.Space.TheVariants as space
use Rattle.gpi_values.specs.Values.{gpi_of_space, permits_of}
use Rattle.gpt_descriptors.specs.Sizes.{granule_number, place_in_word}
use Rattle.gpt_descriptors.proofs.PlaceLemmas.{l1_index_one, place_below, place_distinct}
use Rattle.shared_words.specs.Acts.{written}
use Rattle.alias_clean.specs.Lines.{space_bit, is_resident, is_line, line_mask, touch_of, clean_of, line_at, has_line}
use Rattle.alias_clean.proofs.LineLemmas.{touched_line, cleaned_line}
use Rattle.core_machine.proofs.AddressLemmas.{index_below, word_by_granule}

-- ---- one act on one line

-- the line of an address and a space
abbrev pub this_line : GeometryData → ℕ → Space → ℕ → Space → Bool
this_line g pa s k t = eqb k (granule_number g.setup pa) && eqb (space_bit t) (space_bit s)

same_place : (k granule : ℕ) → k / 16 ≡ granule / 16 → eqb (k % 16) (granule % 16) ≡ eqb k granule
same_place k granule row =
    elim (cases_eq k granule) [
      | inl same ↦ eq-eqb (k % 16) (granule % 16) (ap (λ (n : ℕ). n % 16) same) ∙ sym (eq-eqb k granule same)
      | inr apart ↦ ne_eqb (k % 16) (granule % 16) (λ places. apart (omega (arith, row, places))) ∙ sym (ne_eqb k granule apart)
    ]

-- an act on the line word of an address that makes of each line of the word what F says, and leaves the others
module _ (g : GeometryData) (words : List ℕ) (pa i : ℕ) (s : Space) (t : Act) (F : Bool → Bool → Bool) (geometry : IsGeometry g) (size : length words ≡ word_count g)
    (index : l1_index g.setup (l0_words g) (granule_number g.setup pa / 16) ≡ Some i) (place : place_in t ≡ place_of g (Line i)) (others : (b : Bool) → F false b ≡ b)
    (marks : (word k : ℕ) (u : Space) → k < 16 → is_resident (written t word) k u ≡ F (is_line (place_in_word g.setup pa) s k u) (is_resident word k u)) where
  low : i < l1_words g
  low = index_below g (granule_number g.setup pa / 16) i geometry index

  row_after : (k j : ℕ) (u : Space) → l1_index g.setup (l0_words g) (k / 16) ≡ Some j → line_at g (after_act t words) (Some j) k u ≡ F (this_line g pa s k u) (line_at g words (Some j) k u)
  row_after k j u at =
      elim (cases_eq j i) [
        | inl same ↦
            (let row : k / 16 ≡ granule_number g.setup pa / 16 = l1_index_one g.setup (l0_words g) (k / 16) (granule_number g.setup pa / 16) i (at ∙ ap Some same) index in
            let word : ℕ = slice_index words (place_in t) in
            let here : place_in t < length words = subst (λ (n : ℕ). n < length words) (sym place) (subst (λ (n : ℕ). place_of g (Line i) < n) (sym size) (place_below g (Line i) low)) in
            let new : slice_index (after_act t words) (place_of g (Line j)) ≡ written t word =
            ap (λ (n : ℕ). slice_index (after_act t words) (place_of g (Line n))) same ∙ ap (slice_index (after_act t words)) (sym place) ∙ get_or-set_same words (place_in t) (written t word) 0 here in
            let old : word ≡ slice_index words (place_of g (Line j)) = ap (slice_index words) (place ∙ ap (λ (n : ℕ). place_of g (Line n)) (sym same)) in
            ap (λ (w : ℕ). is_resident w (k % 16) u) new ∙ marks word (k % 16) u (omega arith)
            ∙ ap (λ (b : Bool). F (b && eqb (space_bit u) (space_bit s)) (is_resident word (k % 16) u)) (same_place k (granule_number g.setup pa) row)
            ∙ ap (λ (w : ℕ). F (this_line g pa s k u) (is_resident w (k % 16) u)) old)
        | inr apart ↦
            (let word : ℕ = slice_index words (place_in t) in
            let away : place_of g (Line j) ≢ place_in t = (λ here. absurd (let both : Line j ≡ Line i = place_distinct g (Line j) (Line i) (index_below g (k / 16) j geometry at) low (here ∙ place) in let number : j ≡ i = cc in apart number)) in
            let other : eqb k (granule_number g.setup pa) ≡ false = ne_eqb k (granule_number g.setup pa) (λ same. absurd (let both : Some j ≡ Some i = sym at ∙ ap (λ (n : ℕ). l1_index g.setup (l0_words g) (n / 16)) same ∙ index in let number : j ≡ i = cc in apart number)) in
            rw other (ap (λ (w : ℕ). is_resident w (k % 16) u) (get_or-set_other words (place_in t) (place_of g (Line j)) (written t word) 0 away) ∙ sym (others _)))
      ]

  line_after : (k : ℕ) (u : Space) (o : Option ℕ) → l1_index g.setup (l0_words g) (k / 16) ≡ o → line_at g (after_act t words) o k u ≡ F (this_line g pa s k u) (line_at g words o k u)
  line_after k u None at =
      let other : eqb k (granule_number g.setup pa) ≡ false = ne_eqb k (granule_number g.setup pa) (λ same. absurd (let both : None ≡ Some i = sym at ∙ ap (λ (n : ℕ). l1_index g.setup (l0_words g) (n / 16)) same ∙ index in cc)) in
      rw other (sym (others false))
  line_after k u (Some j) at = row_after k j u at

  lines_after : (k : ℕ) (u : Space) → has_line g (after_act t words) k u ≡ F (this_line g pa s k u) (has_line g words k u)
  lines_after k u = line_after k u (l1_index g.setup (l0_words g) (k / 16)) refl

-- ---- touches and cleans

-- the line word of an act is that of its address
line_there : (g : GeometryData) (pa : ℕ) (f : ℕ → Act) (t : Act) (o : Option ℕ) → l1_index_of g pa ≡ o → option_map f (option_map (λ i. place_of g (Line i)) o) ≡ Some t
    → (i : ℕ) × (l1_index g.setup (l0_words g) (granule_number g.setup pa / 16) ≡ Some i) × (f (place_of g (Line i)) ≡ t)
line_there g pa f t None at is = absurd cc
line_there g pa f t (Some i) at is = (i, ap (l1_index g.setup (l0_words g)) (sym (word_by_granule g.setup pa)) ∙ at, cc)

pub touch_line : (g : GeometryData) (pa : ℕ) (s : Space) (t : Act) → touch_of g pa s ≡ Some t → (i : ℕ) × (l1_index g.setup (l0_words g) (granule_number g.setup pa / 16) ≡ Some i) × (t ≡ act.Or (place_of g (Line i)) (line_mask g pa s))
touch_line g pa s t is = let there = line_there g pa (λ place. act.Or place (line_mask g pa s)) t (l1_index_of g pa) refl is in (there.0, there.1, sym there.2)

pub clean_line : (g : GeometryData) (pa : ℕ) (s : Space) (t : Act) → clean_of g pa s ≡ Some t → (i : ℕ) × (l1_index g.setup (l0_words g) (granule_number g.setup pa / 16) ≡ Some i) × (t ≡ act.And (place_of g (Line i)) (bit_not w64 (line_mask g pa s)))
clean_line g pa s t is = let there = line_there g pa (λ place. act.And place (bit_not w64 (line_mask g pa s))) t (l1_index_of g pa) refl is in (there.0, there.1, sym there.2)

pub touch_lines : (g : GeometryData) (words : List ℕ) (pa : ℕ) (s : Space) (t : Act) → IsGeometry g → length words ≡ word_count g → touch_of g pa s ≡ Some t
    → (k : ℕ) (u : Space) → has_line g (after_act t words) k u ≡ (this_line g pa s k u || has_line g words k u)
touch_lines g words pa s t geometry size is k u =
    let line = touch_line g pa s t is in
    lines_after g words pa line.0 s t (λ a b. a || b) geometry size line.1 (ap place_in line.2) (λ b. refl) (λ word j v below. touched_line g pa s t word j v below is) k u

pub clean_lines : (g : GeometryData) (words : List ℕ) (pa : ℕ) (s : Space) (t : Act) → IsGeometry g → length words ≡ word_count g → clean_of g pa s ≡ Some t
    → (k : ℕ) (u : Space) → has_line g (after_act t words) k u ≡ (not (this_line g pa s k u) && has_line g words k u)
clean_lines g words pa s t geometry size is k u =
    let line = clean_line g pa s t is in
    lines_after g words pa line.0 s t (λ a b. not a && b) geometry size line.1 (ap place_in line.2) (λ b. refl) (λ word j v below. cleaned_line g pa s t word j v below is) k u

-- ---- spaces

pub same_space : (s t : Space) → eqb (space_bit t) (space_bit s) ≡ true → t ≡ s
same_space space.Secure space.Secure is = refl
same_space space.NonSecure space.NonSecure is = refl
same_space space.Root space.Root is = refl
same_space space.Realm space.Realm is = refl
same_space s t is = absurd cc

-- the space of which this is the GPI permits no other
pub permitted_space : (s t : Space) → permits_of (gpi_of_space s) t ≡ true → s ≡ t
permitted_space space.Secure space.Secure is = refl
permitted_space space.NonSecure space.NonSecure is = refl
permitted_space space.Root space.Root is = refl
permitted_space space.Realm space.Realm is = refl
permitted_space s t is = absurd cc

pub own_permits : (s : Space) → permits_of (gpi_of_space s) s ≡ true
own_permits space.Secure = refl
own_permits space.NonSecure = refl
own_permits space.Root = refl
own_permits space.Realm = refl

-- it is this line
pub is_this : (g : GeometryData) (pa : ℕ) (s : Space) (k : ℕ) (u : Space) → this_line g pa s k u ≡ true → (k ≡ granule_number g.setup pa) × (u ≡ s)
is_this g pa s k u is =
    let parts = and_parts (eqb k (granule_number g.setup pa)) (eqb (space_bit u) (space_bit s)) is in
    (eqb-true k (granule_number g.setup pa) parts.0, same_space s u parts.1)

pub this_is : (g : GeometryData) (pa : ℕ) (s : Space) → this_line g pa s (granule_number g.setup pa) s ≡ true
this_is g pa s = rw (eq-eqb (granule_number g.setup pa) (granule_number g.setup pa) refl, eq-eqb (space_bit s) (space_bit s) refl) refl
