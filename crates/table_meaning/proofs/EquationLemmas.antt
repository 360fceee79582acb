-- The equation of L1 words is kept by each store and each step of any holder, whatever the others do.
use Rattle.std.proofs.Common.{◌≡◌, ◌≢◌, ℕ, zero, suc, ◌/◌, ◌<◌, List, [], ◌∷◌, length, get_or, set, Option, Some, None, ◌⊎◌, refl, sym, ap, ◌∙◌, arith, inl, inr}
use Rattle.std.specs.Prelude.{slice_get}
use Rattle.std.proofs.lemmas.Bool.{cases_eq, eq-eqb, ne_eqb}
use Rattle.std.proofs.lemmas.List.{get_or-set_other, get_or-set_same}
use Rattle.gpi_values.specs.declared.gpi.Gpi.{Gpi}
use Rattle.gpt_descriptors.specs.declared.size.Size.TheVariants as size
use Rattle.gpt_descriptors.specs.Sizes.{SetupData, words_of}
use Rattle.gpt_descriptors.specs.Canonical.{canonical_word}
use Rattle.gpt_descriptors.specs.Level0.{l1_index}
use Rattle.gpt_descriptors.specs.Places.{GeometryData, Level1, l0_words, place_of}
use Rattle.gpt_descriptors.proofs.PlaceLemmas.{l1_index_one}
use Rattle.table_meaning.specs.Equation.{Step, Whole, Holder, apart_in, in_block_of, apart_of, first_of_both, apart_by, AreWords, IsAlone}

-- ---- words that stay, and one that is stored

-- what is apart may change where no word does
pub still_words : (g : GeometryData) (m l : ℕ → Gpi) (before after : ℕ → Option ℕ) (words : List ℕ)
    → ((w : ℕ) → canonical_word g.setup m (before w) w ≡ canonical_word g.setup l (after w) w) → AreWords g m before words → AreWords g l after words
still_words g m l before after words same are = λ w i at. are w i at ∙ same w

pub stored_words : (g : GeometryData) (m l : ℕ → Gpi) (before after : ℕ → Option ℕ) (words : List ℕ) (v i word : ℕ)
    → l1_index g.setup (l0_words g) v ≡ Some i → place_of g (Level1 i) < length words → word ≡ canonical_word g.setup l (after v) v
    → ((w : ℕ) → w ≢ v → canonical_word g.setup m (before w) w ≡ canonical_word g.setup l (after w) w) → AreWords g m before words
    → AreWords g l after (set words (place_of g (Level1 i)) word)
stored_words g m l before after words v i word at place is same are = λ w j there.
    elim (cases_eq w v) [
      | inl own ↦
          let here : l1_index g.setup (l0_words g) v ≡ Some j = ap (l1_index g.setup (l0_words g)) (sym own) ∙ there in
          let one : j ≡ i = (let both = sym here ∙ at in cc) in
          ap (λ (k : ℕ). get_or (set words (place_of g (Level1 i)) word) (place_of g (Level1 k)) 0) one
          ∙ get_or-set_same words (place_of g (Level1 i)) word 0 place
          ∙ is ∙ ap (λ (k : ℕ). canonical_word g.setup l (after k) k) (sym own)
      | inr other ↦
          let apart : j ≢ i = λ e. other (l1_index_one g.setup (l0_words g) w v i (there ∙ ap (λ (k : ℕ). Some k) e) at) in
          get_or-set_other words (place_of g (Level1 i)) (place_of g (Level1 j)) word 0 (λ e. apart (omega (arith, e)))
          ∙ are w j there ∙ same w other
    ]

-- ---- which granule is apart

inside_of : (s : SetupData) (g w : ℕ) (o : Option ℕ) → g / 16 / words_of s size.FiveTwelve ≡ w / words_of s size.FiveTwelve → in_block_of s g w o ≡ o
inside_of s g w o inside = rw (eq-eqb _ _ inside) refl

outside_of : (s : SetupData) (g w : ℕ) (o : Option ℕ) → g / 16 / words_of s size.FiveTwelve ≢ w / words_of s size.FiveTwelve → in_block_of s g w o ≡ None
outside_of s g w o outside = rw (ne_eqb _ _ outside) refl

none_of : (s : SetupData) (g w : ℕ) → in_block_of s g w None ≡ None
none_of s g w =
    elim (cases_eq (g / 16 / words_of s size.FiveTwelve) (w / words_of s size.FiveTwelve)) [
      | inl inside ↦ inside_of s g w None inside
      | inr outside ↦ outside_of s g w None outside
    ]

whole_of : (s : SetupData) (w : ℕ) (h : Holder) → h.step ≡ Whole → apart_of s w h ≡ None
whole_of s w h whole = ap (λ (x : Step). in_block_of s h.granule w (apart_in s h.granule w x)) whole ∙ none_of s h.granule w

apart-none : (s : SetupData) (w : ℕ) → apart_by s [] w ≡ None
unfolding apart_by
apart-none s w = refl

apart_more : (s : SetupData) (h : Holder) (hs : List Holder) (w : ℕ) → apart_by s (h ∷ hs) w ≡ first_of_both (apart_of s w h) (apart_by s hs w)
unfolding apart_by
apart_more s h hs w = refl

no_first : (a b : Option ℕ) → a ≡ None → first_of_both a b ≡ b
no_first a b none = rw none refl

no_second : (a b : Option ℕ) → b ≡ None → first_of_both a b ≡ a
no_second None b none = none
no_second (Some x) b none = refl

-- no holder names a granule for the word
apart_nobody : (s : SetupData) (hs : List Holder) (w : ℕ) → ((d : ℕ) (h : Holder) → slice_get hs d ≡ Some h → apart_of s w h ≡ None) → apart_by s hs w ≡ None
apart_nobody s [] w none = apart-none s w
apart_nobody s (h ∷ hs) w none =
    apart_more s h hs w ∙ no_first (apart_of s w h) (apart_by s hs w) (none 0 h refl)
    ∙ apart_nobody s hs w (λ d x at. none (suc d) x at)

-- one holder alone does, if any
apart_one : (s : SetupData) (hs : List Holder) (c : ℕ) (h : Holder) (w : ℕ) → slice_get hs c ≡ Some h
    → ((d : ℕ) (x : Holder) → d ≢ c → slice_get hs d ≡ Some x → apart_of s w x ≡ None) → apart_by s hs w ≡ apart_of s w h
apart_one s [] c h w at others = absurd cc
apart_one s (x ∷ hs) zero h w at others =
    let same : x ≡ h = cc in
    apart_more s x hs w
    ∙ no_second (apart_of s w x) (apart_by s hs w) (apart_nobody s hs w (λ d y there. others (suc d) y (omega arith) there))
    ∙ ap (apart_of s w) same
apart_one s (x ∷ hs) (suc c) h w at others =
    apart_more s x hs w ∙ no_first (apart_of s w x) (apart_by s hs w) (others 0 x (omega arith) refl)
    ∙ apart_one s hs c h w at (λ d y other there. others (suc d) y (omega (arith, other)) there)

-- a holder that is replaced by one of the same granule apart
apart_set : (s : SetupData) (hs : List Holder) (c : ℕ) (h x : Holder) (w : ℕ) → slice_get hs c ≡ Some h → apart_of s w h ≡ apart_of s w x → apart_by s hs w ≡ apart_by s (set hs c x) w
apart_set s [] c h x w at same = absurd cc
apart_set s (y ∷ hs) zero h x w at same =
    let one : y ≡ h = cc in
    apart_more s y hs w ∙ ap (λ (o : Option ℕ). first_of_both o (apart_by s hs w)) (ap (apart_of s w) one ∙ same) ∙ sym (apart_more s x hs w)
apart_set s (y ∷ hs) (suc c) h x w at same =
    apart_more s y hs w ∙ ap (first_of_both (apart_of s w y)) (apart_set s hs c h x w at same) ∙ sym (apart_more s y (set hs c x) w)

-- ---- one holder's step

pub holder_set_same : (hs : List Holder) (c : ℕ) (h x : Holder) → slice_get hs c ≡ Some h → slice_get (set hs c x) c ≡ Some x
holder_set_same [] c h x at = absurd cc
holder_set_same (y ∷ hs) zero h x at = refl
holder_set_same (y ∷ hs) (suc c) h x at = holder_set_same hs c h x at

pub holder_set_other : (hs : List Holder) (c d : ℕ) (x : Holder) → d ≢ c → slice_get (set hs c x) d ≡ slice_get hs d
holder_set_other [] c d x other = refl
holder_set_other (y ∷ hs) zero zero x other = absurd (other refl)
holder_set_other (y ∷ hs) zero (suc d) x other = refl
holder_set_other (y ∷ hs) (suc c) zero x other = refl
holder_set_other (y ∷ hs) (suc c) (suc d) x other = holder_set_other hs c d x (λ e. other (omega (arith, e)))

-- the other holders name none in the 512 MB of a granule of which one is alone
alone_apart : (s : SetupData) (hs : List Holder) (c g w : ℕ) → IsAlone s hs c g → g / 16 / words_of s size.FiveTwelve ≡ w / words_of s size.FiveTwelve
    → (d : ℕ) (x : Holder) → d ≢ c → slice_get hs d ≡ Some x → apart_of s w x ≡ None
alone_apart s hs c g w alone inside d x other there =
    elim (alone d x other there) [
      | inl whole ↦ whole_of s w x whole
      | inr away ↦ outside_of s x.granule w (apart_in s x.granule w x.step) (λ e. away (e ∙ sym inside))
    ]

-- it stays alone, whatever it does
pub alone_stays : (s : SetupData) (hs : List Holder) (c g : ℕ) (x : Holder) → IsAlone s hs c g → IsAlone s (set hs c x) c g
alone_stays s hs c g x alone = λ d y other there. alone d y other (sym (holder_set_other hs c d x other) ∙ there)

-- in its own 512 MB a holder that is alone there says what is apart
pub by_own : (s : SetupData) (hs : List Holder) (c g : ℕ) (step : Step) (w : ℕ) → slice_get hs c ≡ Some (record { granule = g; step = step }) → IsAlone s hs c g
    → g / 16 / words_of s size.FiveTwelve ≡ w / words_of s size.FiveTwelve → apart_by s hs w ≡ apart_in s g w step
by_own s hs c g step w at alone inside =
    apart_one s hs c (record { granule = g; step = step }) w at (alone_apart s hs c g w alone inside) ∙ inside_of s g w (apart_in s g w step) inside

-- and elsewhere its step changes nothing
pub by_other : (s : SetupData) (hs : List Holder) (c g : ℕ) (before after : Step) (w : ℕ) → slice_get hs c ≡ Some (record { granule = g; step = before })
    → g / 16 / words_of s size.FiveTwelve ≢ w / words_of s size.FiveTwelve → apart_by s hs w ≡ apart_by s (set hs c (record { granule = g; step = after })) w
by_other s hs c g before after w at outside =
    apart_set s hs c (record { granule = g; step = before }) (record { granule = g; step = after }) w at
    (outside_of s g w (apart_in s g w before) outside ∙ sym (outside_of s g w (apart_in s g w after) outside))

-- What a holder's step asks of all words, from what it does within its own 512 MB.
pub holder_moves : (s : SetupData) (m l : ℕ → Gpi) (hs : List Holder) (c g : ℕ) (before after : Step) (w : ℕ) → slice_get hs c ≡ Some (record { granule = g; step = before }) → IsAlone s hs c g
    → canonical_word s m (apart_in s g w before) w ≡ canonical_word s l (apart_in s g w after) w
    → (g / 16 / words_of s size.FiveTwelve ≢ w / words_of s size.FiveTwelve → (a : Option ℕ) → canonical_word s m a w ≡ canonical_word s l a w)
    → canonical_word s m (apart_by s hs w) w ≡ canonical_word s l (apart_by s (set hs c (record { granule = g; step = after })) w) w
holder_moves s m l hs c g before after w at alone own elsewhere =
    elim (cases_eq (g / 16 / words_of s size.FiveTwelve) (w / words_of s size.FiveTwelve)) [
      | inl inside ↦
          let new : Holder = record { granule = g; step = after } in
          ap (λ (o : Option ℕ). canonical_word s m o w) (by_own s hs c g before w at alone inside) ∙ own
          ∙ ap (λ (o : Option ℕ). canonical_word s l o w)
          (sym (by_own s (set hs c new) c g after w (holder_set_same hs c (record { granule = g; step = before }) new at) (alone_stays s hs c g new alone) inside))
      | inr outside ↦
          elsewhere outside (apart_by s hs w) ∙ ap (λ (o : Option ℕ). canonical_word s l o w) (by_other s hs c g before after w at outside)
    ]

-- a holder whose tables are canonical may turn to any other granule
pub whole_turns : (s : SetupData) (hs : List Holder) (c : ℕ) (h x : Holder) (w : ℕ) → slice_get hs c ≡ Some h → h.step ≡ Whole → x.step ≡ Whole
    → apart_by s hs w ≡ apart_by s (set hs c x) w
whole_turns s hs c h x w at before after = apart_set s hs c h x w at (whole_of s w h before ∙ sym (whole_of s w x after))

-- holders of canonical tables alone
pub all_whole : (s : SetupData) (hs : List Holder) (w : ℕ) → ((d : ℕ) (h : Holder) → slice_get hs d ≡ Some h → h.step ≡ Whole) → apart_by s hs w ≡ None
all_whole s hs w whole = apart_nobody s hs w (λ d h at. whole_of s w h (whole d h at))

-- a word in whose 512 MB no holder is at work is canonical
pub free_word : (s : SetupData) (hs : List Holder) (w : ℕ)
    → ((d : ℕ) (h : Holder) → slice_get hs d ≡ Some h → (h.step ≡ Whole) ⊎ (h.granule / 16 / words_of s size.FiveTwelve ≢ w / words_of s size.FiveTwelve)) → apart_by s hs w ≡ None
free_word s hs w free =
    apart_nobody s hs w
    (λ d h at. elim (free d h at) [ inl whole ↦ whole_of s w h whole | inr away ↦ outside_of s h.granule w (apart_in s h.granule w h.step) away ])
