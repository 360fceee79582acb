-- The runs of a list are its maximal runs.
use Rattle.std.proofs.Common.{◌≡◌, ◌≢◌, ◌≤◌, ◌<◌, ℕ, ◌+◌, List, [], ◌∷◌, ◌++◌, length, get_or, drop, replicate, refl, sym, ap, ◌∙◌, append_assoc, inl, inr, arith}
use Rattle.std.specs.List.{flat_map}
use Rattle.std.proofs.lemmas.List.{replicate_more, drop_more, drop_all, drop-drop, get_or-drop, append-nil}
use Rattle.std.proofs.lemmas.List.Concat.{flat_map-append}
use Rattle.std.proofs.lemmas.Bool.Decides.{eqb_tells}
use Rattle.report_text.specs.Runs.{Run, runs_after, runs_from, runs_of, AreJoined, BeginsApart, AreApart, AreMaximalRuns, AreRunsMaximal}

abbrev spelled : List Run → List ℕ
spelled runs = flat_map (λ (run : Run). replicate run.count run.word) runs

joined : (first count word : ℕ) (rest : List ℕ) → 1 ≤ count → AreJoined first (runs_after first count word rest)
joined first count word [] le = (refl, (le, tt))
joined first count word (next ∷ rest) le =
    elim (eqb_tells next word) [
      | inl same ↦ rw same.0 (joined first (count + 1) word rest (omega arith))
      | inr other ↦ rw other.0 (refl, (le, joined (first + count) 1 next rest (omega arith)))
    ]

begins_apart : (before first count word : ℕ) (rest : List ℕ) → before ≢ word → BeginsApart before (runs_after first count word rest)
begins_apart before first count word [] ne = ne
begins_apart before first count word (next ∷ rest) ne =
    elim (eqb_tells next word) [
      | inl same ↦ rw same.0 (begins_apart before first (count + 1) word rest ne)
      | inr other ↦ rw other.0 ne
    ]

apart : (first count word : ℕ) (rest : List ℕ) → AreApart (runs_after first count word rest)
apart first count word [] = (tt, tt)
apart first count word (next ∷ rest) =
    elim (eqb_tells next word) [
      | inl same ↦ rw same.0 (apart first (count + 1) word rest)
      | inr other ↦ rw other.0 (begins_apart word (first + count) 1 next rest (λ e. other.1 (sym e)), apart (first + count) 1 next rest)
    ]

one_more : (count word : ℕ) (rest : List ℕ) → replicate (count + 1) word ++ rest ≡ replicate count word ++ word ∷ rest
one_more count word rest = ap (λ (words : List ℕ). words ++ rest) (sym (replicate_more count word)) ∙ append_assoc (replicate count word) (word ∷ []) rest

spells : (first count word : ℕ) (rest : List ℕ) → spelled (runs_after first count word rest) ≡ replicate count word ++ rest
spells first count word [] = refl
spells first count word (next ∷ rest) =
    elim (eqb_tells next word) [
      | inl same ↦ rw same.0 (spells first (count + 1) word rest ∙ one_more count word rest ∙ rw same.1 refl)
      | inr other ↦ rw other.0 (ap (λ (words : List ℕ). replicate count word ++ words) (spells (first + count) 1 next rest))
    ]

runs_are : (words : List ℕ) → AreMaximalRuns words (runs_of words)
runs_are [] = record { spelled = refl; joined = tt; apart = tt }
runs_are (word ∷ rest) = record { spelled = spells 0 1 word rest; joined = joined 0 1 word rest (omega arith); apart = apart 0 1 word rest }

pub runs_are_maximal : AreRunsMaximal
runs_are_maximal = record { each = runs_are }

-- ---- one word more of a run, and its end

pub first_word : (first : ℕ) (words : List ℕ) → 1 ≤ length words → runs_from first words ≡ runs_after first 1 (get_or words 0 0) (drop 1 words)
first_word first [] some = absurd (omega arith)
first_word first (word ∷ rest) some = refl

pub word_more : (first count word : ℕ) (words : List ℕ) → count < length words → get_or words count 0 ≡ word
    → runs_after first count word (drop count words) ≡ runs_after first (count + 1) word (drop (count + 1) words)
word_more first count word words lt same =
    ap (runs_after first count word) (drop_more words count 0 lt)
    ∙ elim (eqb_tells (get_or words count 0) word) [
      | inl equal ↦ rw equal.0 refl
      | inr other ↦ absurd (other.1 same)
    ]

pub run_ended : (first count word : ℕ) (words : List ℕ) → count < length words → get_or words count 0 ≢ word
    → runs_after first count word (drop count words) ≡ record { first = first; count = count; word = word } ∷ runs_from (first + count) (drop count words)
run_ended first count word words lt differs =
    rw (drop_more words count 0 lt) (elim (eqb_tells (get_or words count 0) word) [
      | inl equal ↦ absurd (differs equal.1)
      | inr other ↦ rw other.0 refl
    ])

pub words_ended : (first count word : ℕ) (words : List ℕ) → length words ≤ count
    → runs_after first count word (drop count words) ≡ record { first = first; count = count; word = word } ∷ runs_from (first + count) (drop count words)
words_ended first count word words le = rw (drop_all count words le) refl

-- the text of one run more
flat_map_cons : (f : Run → List ℕ) (run : Run) (runs : List Run) → flat_map f (run ∷ runs) ≡ f run ++ flat_map f runs
flat_map_cons f run runs = flat_map-append f (run ∷ []) runs ∙ ap (λ (xs : List ℕ). xs ++ flat_map f runs) (append-nil (f run))

pub runs_step : (f : Run → List ℕ) (old new whole : List ℕ) (at count word : ℕ) (words : List ℕ)
    → runs_from at (drop at words) ≡ record { first = at; count = count; word = get_or (drop at words) 0 0 } ∷ runs_from (at + count) (drop count (drop at words))
    → get_or words at 0 ≡ word → new ≡ old ++ f (record { first = at; count = count; word = word }) → old ++ flat_map f (runs_from at (drop at words)) ≡ whole
    → new ++ flat_map f (runs_from (at + count) (drop (at + count) words)) ≡ whole
runs_step f old new whole at count word words run is pushed text =
    let place : at + 0 ≡ at = omega arith in
    let own : get_or (drop at words) 0 0 ≡ word = get_or-drop at words 0 0 ∙ ap (λ (n : ℕ). get_or words n 0) place ∙ is in
    let later : runs_from (at + count) (drop count (drop at words)) ≡ runs_from (at + count) (drop (at + count) words) = ap (runs_from (at + count)) (drop-drop count at words) in
    let here : Run = record { first = at; count = count; word = word } in
    let both : runs_from at (drop at words) ≡ here ∷ runs_from (at + count) (drop (at + count) words)
    = run ∙ ap (λ (w : ℕ). record { first = at; count = count; word = w } ∷ runs_from (at + count) (drop count (drop at words))) own ∙ ap (λ (rs : List Run). here ∷ rs) later in
    let parted : flat_map f (runs_from at (drop at words)) ≡ f here ++ flat_map f (runs_from (at + count) (drop (at + count) words))
    = ap (flat_map f) both ∙ flat_map_cons f here (runs_from (at + count) (drop (at + count) words)) in
    ap (λ (xs : List ℕ). xs ++ flat_map f (runs_from (at + count) (drop (at + count) words))) pushed
    ∙ append_assoc old (f here) (flat_map f (runs_from (at + count) (drop (at + count) words)))
    ∙ ap (λ (xs : List ℕ). old ++ xs) (sym parted) ∙ text
