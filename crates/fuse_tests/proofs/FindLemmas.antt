-- The slow program finds what the definition says.
use Rattle.std.proofs.Common.{◌≡◌, ◌≢◌, ℕ, ◌*◌, ◌/◌, List, sym, ap, ◌∙◌}
use Rattle.std.specs.Prelude.{slice_index}
use Rattle.gpi_values.specs.declared.gpi.Gpi.{Gpi}
use Rattle.gpt_descriptors.specs.declared.size.Size.TheVariants as size
use Rattle.gpt_descriptors.specs.declared.entry.L1Entry.TheVariants as l1
use Rattle.gpt_descriptors.specs.Sizes.{SetupData, words_of}
use Rattle.gpt_descriptors.specs.Entries.{l1_word}
use Rattle.gpt_descriptors.proofs.CanonicalLemmas.{thirty_two_around, five_twelve_around}
use Rattle.table_meaning.specs.Merging.{PassesThirtyTwo, PassesFiveTwelve, StopsThirtyTwo, StopsFiveTwelve}

two_row : (s : SetupData) (own n : ℕ) → n ≡ words_of s size.Two → own / n / 16 ≡ own / words_of s size.ThirtyTwo
two_row s own n at = ap (λ (k : ℕ). own / k / 16) at ∙ sym (thirty_two_around s own)

big_row : (s : SetupData) (own n : ℕ) → n ≡ words_of s size.ThirtyTwo → own / n / 16 ≡ own / words_of s size.FiveTwelve
big_row s own n at = ap (λ (k : ℕ). own / k / 16) at ∙ sym (five_twelve_around s own)

pub thirty_two_stops : (s : SetupData) (table : List ℕ) (own n needed q : ℕ) (v : Gpi) → n ≡ words_of s size.Two → needed ≡ l1_word (l1.Contig size.Two v) → q / 16 ≡ own / n / 16 → q ≢ own / n
    → slice_index table (q * n) ≢ needed → StopsThirtyTwo s (λ w. slice_index table w) own v
thirty_two_stops s table own n needed q v at is near other differs = (
  q,
  near ∙ two_row s own n at,
  λ e. other (e ∙ ap (λ (k : ℕ). own / k) (sym at)),
  λ e. differs (ap (λ (k : ℕ). slice_index table (q * k)) at ∙ e ∙ sym is),
)

pub thirty_two_passes : (s : SetupData) (table : List ℕ) (own n needed : ℕ) (v : Gpi) → n ≡ words_of s size.Two → needed ≡ l1_word (l1.Contig size.Two v)
    → ((q : ℕ) → q / 16 ≡ own / n / 16 → q ≢ own / n → slice_index table (q * n) ≡ needed) → PassesThirtyTwo s (λ w. slice_index table w) own v
thirty_two_passes s table own n needed v at is each = λ q near other.
    ap (λ (k : ℕ). slice_index table (q * k)) (sym at)
    ∙ each q (near ∙ sym (two_row s own n at)) (λ e. other (e ∙ ap (λ (k : ℕ). own / k) at)) ∙ is

pub five_twelve_stops : (s : SetupData) (table : List ℕ) (own n needed q : ℕ) (v : Gpi) → n ≡ words_of s size.ThirtyTwo → needed ≡ l1_word (l1.Contig size.ThirtyTwo v) → q / 16 ≡ own / n / 16 → q ≢ own / n
    → slice_index table (q * n) ≢ needed → StopsFiveTwelve s (λ w. slice_index table w) own v
five_twelve_stops s table own n needed q v at is near other differs = (
  q,
  near ∙ big_row s own n at,
  λ e. other (e ∙ ap (λ (k : ℕ). own / k) (sym at)),
  λ e. differs (ap (λ (k : ℕ). slice_index table (q * k)) at ∙ e ∙ sym is),
)

pub five_twelve_passes : (s : SetupData) (table : List ℕ) (own n needed : ℕ) (v : Gpi) → n ≡ words_of s size.ThirtyTwo → needed ≡ l1_word (l1.Contig size.ThirtyTwo v)
    → ((q : ℕ) → q / 16 ≡ own / n / 16 → q ≢ own / n → slice_index table (q * n) ≡ needed) → PassesFiveTwelve s (λ w. slice_index table w) own v
five_twelve_passes s table own n needed v at is each = λ q near other.
    ap (λ (k : ℕ). slice_index table (q * k)) (sym at)
    ∙ each q (near ∙ sym (big_row s own n at)) (λ e. other (e ∙ ap (λ (k : ℕ). own / k) at)) ∙ is
