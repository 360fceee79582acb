-- The stores of splitting, and the loads and stores of merging.
use Rattle.std.proofs.Common.{◌≡◌, ℕ, zero, suc, ◌+◌, ◌*◌, ◌/◌, ◌%◌, ◌<◌, ◌∷◌, [], List, false, ltb, Option, Some, None, length, set, refl, sym, ap, ◌∙◌, subst, arith, inl, inr}
use Rattle.std.specs.Prelude.{slice_get, slice_index}
use Rattle.std.proofs.lemmas.Bool.{cases_Bool, ltb-true, ltb-false}
use Rattle.std.proofs.lemmas.Nat.{div-add-mod', mod_below}
use Rattle.core_machine.specs.InnerAgentCaller.{unpassed_at, uncleaned_at}
use Rattle.core_machine.proofs.ActLemmas.{marks_stay}
use Rattle.core_machine.proofs.PassLemmas.{merged_unpassed, merged_uncleaned}
use Rattle.core_machine.proofs.Names.{Gpi, Size, Generations, SetupData, words_of, size_bytes, canonical_word, l1_index, GeometryData, WordName, Level1, place_of, l0_words, l1_words, l1_index_of, Act, Fusing, Testing, Storing, Ended, Holder, Step, apart_by, AreWords, Facts, Keeps, step_of, Task, Kept, Stage, address_of, granule_of_task, AgentData, IsStage, goes_to, HoldsIn, Scene, scene_after, map_in, known_at, SeesGeneration, SeesAt, coming_at, IsMade}
use Rattle.core_machine.proofs.Names.size
use Rattle.core_machine.proofs.Names.l1
use Rattle.core_machine.proofs.Names.act
use Rattle.core_machine.proofs.Names.fuse
use Rattle.core_machine.proofs.Names.answer
use Rattle.core_machine.proofs.Names.stage
use Rattle.core_machine.proofs.Names.caller
use Rattle.gpt_descriptors.specs.declared.size.MaxBlock.{MaxBlock}
use Rattle.gpt_descriptors.specs.Entries.{l1_word}
use Rattle.gpt_descriptors.specs.Fields.{granules_of}
use Rattle.gpt_descriptors.proofs.PlaceLemmas.{place_below, generation_named}
use Rattle.gpt_descriptors.proofs.CanonicalLemmas.{words_some}
use Rattle.table_meaning.specs.Splitting.{block_start, split_around}
use Rattle.table_meaning.specs.Fusing.{block_words, loads_of, load_at, store_at, loaded, stored}
use Rattle.table_meaning.specs.Equation.{Splitting, Apart}
use Rattle.table_meaning.specs.Facts.{Merges, merging_step}
use Rattle.table_meaning.proofs.PlaceLemmas.{block_index, load_index, store_index, own_rest}
use Rattle.table_meaning.proofs.EquationLemmas.{holder_set_same, alone_stays}
use Rattle.table_meaning.proofs.FusingLemmas.{block_words_is}
use Rattle.table_meaning.proofs.FactLemmas.{split_more, split_gpi, split_ended, loads, stores, load_inside}
use Rattle.table_meaning.proofs.StepLemmas.{holder_reads, split_store, split_end, merge_store, load_words, loaded_unstored, own_gpi}
use Rattle.shatter.specs.Splitting.{SplittingData, store_of, next_store, advanced, split_word}
use Rattle.shatter.proofs.WordLemmas.{split_word_is}
use Rattle.fuse.specs.Merging.{FuseData}
use Rattle.delegate_ops.specs.Changing.{word_in_block}
use Rattle.delegate_ops.specs.InnerAgents.{IsSplittingOf, IsMergingOf, first_stage, split_stage, merging_stage, merged_stage}
use Rattle.delegate_ops.proofs.AgentLemmas.{at_stage}
use Rattle.core_machine.proofs.WordLemmas.{Writes, writes_none, writes_one, is_lock, is_duty, is_line, is_generation, generations_left}
use Rattle.core_machine.proofs.ActLemmas.{Acting, IsAlike, inside_of, seen_of, goes_quietly, holders_of, own_index, holder_at, alone_there, tables_after}
use Rattle.core_machine.proofs.LockActs.{ActKeeps}
use Rattle.core_machine.proofs.LoadActs.{begins, begins_sees, begins_words, load_keeps}
use Rattle.core_machine.proofs.SettleLemmas.{merging_step_of}
use Rattle.core_machine.proofs.AddressLemmas.{index_below, word_by_granule, index_at}

-- ---- splitting

-- the place of a store, by its word's number in the protected space
pub split_place : (g : GeometryData) (pa : ℕ) (z : Size) (d : SplittingData) (is : IsSplittingOf g pa z d) (i w : ℕ) → is.place ≡ place_of g (Level1 i) → l1_index g.setup (l0_words g) w ≡ Some i → w % words_of g.setup z ≡ word_in_block g pa z
    → d.first + d.made ≡ place_of g (Level1 (i / words_of g.setup z * words_of g.setup z + d.made))
split_place g pa z d is i w here at own =
    let n : ℕ = words_of g.setup z in
    let rest : i % n ≡ word_in_block g pa z = own_rest g.setup (l0_words g) z w i at ∙ own in
    let parts : i / n * n + i % n ≡ i = div-add-mod' i n in
    omega (arith, is.first, here, rest, parts)

-- the word of a store is that of its number in the protected space
split_same : (s : SetupData) (z : Size) (w k : ℕ) (v : Gpi) → k < words_of s z → split_word (words_of s size.Two) (w % words_of s z) v k ≡ split_around s w v (block_start s z w + k)
split_same s z w k v low =
    let n : ℕ = words_of s z in
    split_word_is s z (w / n) (w % n) k v (mod_below w n (words_some s z)) low ∙ ap (λ (x : ℕ). split_around s x v (block_start s z w + k)) (div-add-mod' w n)

set_twice : (hs : List Holder) (c : ℕ) (x y : Holder) → set (set hs c x) c y ≡ set hs c y
set_twice [] c x y = refl
set_twice (h ∷ hs) zero x y = refl
set_twice (h ∷ hs) (suc c) x y = ap (λ (rest : List Holder). h ∷ rest) (set_twice hs c x y)

-- a store of the block was made: this stage follows, by the holders after it
split_goes : {s : Scene} {c : ℕ} {a : AgentData} {t : Task} {z : Size} {d : SplittingData} {k : Generations} (acting : Acting s c a t (stage.Splitting z d k)) (next : Stage) (j v : ℕ) → IsAlike a.geometry c (length a.answers) t (stage.Splitting z d k) next → ((p : ℕ) → unpassed_at a.geometry p next (Some t) ≡ []) → uncleaned_at a.geometry next (Some t) ≡ [] → coming_at next ≡ []
    → IsMade a.geometry (caller.Agent (goes_to (at_stage a (stage.Splitting z d k)) next)) → j < l1_words a.geometry
    → AreWords a.geometry (map_in s) (apart_by a.geometry.setup (set (holders_of s.callers) c (record { granule = granule_of_task a.geometry t; step = step_of (known_at next) }))) (set s.words (place_of a.geometry (Level1 j)) v)
    → SeesAt a.geometry (map_in s) (set s.words (place_of a.geometry (Level1 j)) v) t next
    → HoldsIn a.geometry (scene_after s c (caller.Agent (goes_to (at_stage a (stage.Splitting z d k)) next)) (set s.words (place_of a.geometry (Level1 j)) v) [])
split_goes {s = s} {a = a} acting next j v alike unpassed uncleaned none made within are sees =
    goes_quietly acting next (Some (Level1 j)) (set s.words (place_of a.geometry (Level1 j)) v) alike made (writes_one a.geometry s.words (Level1 j) v within) refl refl refl
    (marks_stay acting next (Some (Level1 j)) _ (writes_one a.geometry s.words (Level1 j) v within) refl unpassed uncleaned) (tables_after acting next (map_in s) _ are) sees
    (λ given is. absurd (let both : [] ≡ given ∷ [] = sym none ∙ is in cc))

-- the words after a store, by its place and its word
split_holds : {s : Scene} {c : ℕ} {a : AgentData} {t : Task} (z : Size) (d : SplittingData) (k : Generations) (i : ℕ) (acting : Acting s c a t (stage.Splitting z d k)) → d.made < words_of a.geometry.setup z → d.words ≡ words_of a.geometry.setup z
    → l1_index_of a.geometry (address_of t) ≡ Some i
    → HoldsIn a.geometry (scene_after s c (caller.Agent (goes_to (at_stage a (stage.Splitting z d k)) (split_stage t z (advanced d) k)))
    (set s.words (place_of a.geometry (Level1 (i / words_of a.geometry.setup z * words_of a.geometry.setup z + d.made))) (split_around a.geometry.setup (granule_of_task a.geometry t / 16) d.gpi (block_start a.geometry.setup z (granule_of_task a.geometry t / 16) + d.made))) [])
split_holds {s = s} {c = c} {a = a} {t = t} z d k i acting low whole index =
    let g = a.geometry in
    let n : ℕ = words_of g.setup z in
    let granule = granule_of_task g t in
    let w : ℕ = granule / 16 in
    let j : ℕ = i / n * n + d.made in
    let v : ℕ = split_around g.setup w d.gpi (block_start g.setup z w + d.made) in
    let hs : List Holder = holders_of s.callers in
    let after = set s.words (place_of g (Level1 j)) v in
    let there : l1_index g.setup (l0_words g) (block_start g.setup z w + d.made) ≡ Some j = block_index g.setup (l0_words g) z w i d.made (own_index acting i index) low in
    let within : j < l1_words g = index_below g (block_start g.setup z w + d.made) j acting.stands.shape.geometry there in
    let fits : place_of g (Level1 j) < length s.words = subst (λ (m : ℕ). place_of g (Level1 j) < m) (sym acting.stands.shape.size) (place_below g (Level1 j) within) in
    let sees = seen_of acting in
    let writes = writes_one g s.words (Level1 j) v within in
    let generations : (y : Size) → SeesGeneration g after t k y = λ y. generations_left writes refl y (address_of t / size_bytes y) (generation_named g y (address_of t) (inside_of acting)) ∙ sees.generations y in
    let known = split_more g.setup (map_in s) granule z d.gpi d.made sees.known low in
    let alone = alone_there acting refl in
    let are = split_store g (map_in s) hs c granule z d.made j d.gpi s.words (holder_at acting) alone sees.known.0 (split_gpi g.setup (map_in s) granule z d.gpi d.made sees.known) low there fits acting.stands.tables.level1 in
    let made = acting.made 0 in
    elim (cases_Bool (ltb (d.made + 1) d.words)) [
      | inl more ↦
          rw more
          (split_goes acting (stage.Splitting z (advanced d) k) j v (record { inside = refl; stays = refl; opened = refl; due = λ y. refl; front = refl }) (λ p. refl) refl refl (rw more at made) within are
          (record { known = known; gives = sees.gives; generations = generations }))
      | inr over ↦
          (let last : d.made + 1 ≡ n = omega (arith, low, whole, ltb-false _ _ over) in
          let kept : Kept = record { word = granules_of d.gpi; generations = k } in
          let begin = begins g c (length a.answers) t kept in
          let word : Facts g.setup (map_in s) granule (Keeps (granules_of d.gpi)) = split_ended g.setup (map_in s) granule z d.gpi (d.made + 1) known in
          let middle : List Holder = set hs c (record { granule = granule; step = Splitting z (d.made + 1) }) in
          let ended = split_end g (map_in s) middle c granule z after
          (subst (λ (m : ℕ). slice_get (set hs c (record { granule = granule; step = Splitting z (d.made + 1) })) c ≡ Some (record { granule = granule; step = Splitting z m })) last
          (holder_set_same hs c (record { granule = granule; step = Splitting z d.made }) (record { granule = granule; step = Splitting z (d.made + 1) }) (holder_at acting)))
          (alone_stays g.setup hs c granule (record { granule = granule; step = Splitting z (d.made + 1) }) alone) sees.known.0 are in
          rw over
          (split_goes acting (first_stage t kept) j v (record { inside = refl; stays = begin.stays; opened = begin.opened; due = begin.due; front = begin.front }) begin.unpassed begin.uncleaned begin.coming (rw over at made) within
          (begins_words (map_in s) after hs begin (subst (λ (all : List Holder). AreWords g (map_in s) (apart_by g.setup all) after) (set_twice hs c _ _) ended))
          (begins_sees (map_in s) after begin word sees.gives generations)))
    ]

pub split_keeps : {s : Scene} {c : ℕ} {a : AgentData} {t : Task} (z : Size) (d : SplittingData) (k : Generations) (next : Act) (acting : Acting s c a t (stage.Splitting z d k)) → next_store d ≡ Some next → ActKeeps s c a t (stage.Splitting z d k) next
split_keeps {s = s} {c = c} {a = a} {t = t} z d k next acting there =
    let g = a.geometry in
    let fits : IsStage g (stage.Splitting z d k) (Some t) = subst (IsStage g (stage.Splitting z d k)) acting.under_way acting.is.stage in
    let is : IsSplittingOf g (address_of t) z d = fits.0 in
    let n : ℕ = words_of g.setup z in
    let w : ℕ = granule_of_task g t / 16 in
    let at = index_at g (address_of t) is.place is.there in
    let low : d.made < n = subst (λ (m : ℕ). d.made < m) is.words (ltb-true _ _ is.low) in
    let row : w % n ≡ word_in_block g (address_of t) z = ap (λ (x : ℕ). x % n) (sym (word_by_granule g.setup (address_of t))) in
    let place : d.first + d.made ≡ place_of g (Level1 (at.0 / n * n + d.made)) = split_place g (address_of t) z d is at.0 w at.2 (own_index acting at.0 at.1) row in
    let word : split_word d.two d.own d.gpi d.made ≡ split_around g.setup w d.gpi (block_start g.setup z w + d.made) =
    rw (is.two, is.own, ← row) (split_same g.setup z w d.made d.gpi low) in
    let store : store_of d d.made ≡ next = let both : Some (store_of d d.made) ≡ Some next = rw is.low at there in cc in
    subst (ActKeeps s c a t (stage.Splitting z d k)) store (
      tt,
      subst (λ (p : ℕ). HoldsIn g (scene_after s c (caller.Agent (goes_to (at_stage a (stage.Splitting z d k)) (split_stage t z (advanced d) k))) (set s.words p (split_word d.two d.own d.gpi d.made)) [])) (sym place)
          (subst (λ (v : ℕ). HoldsIn g (scene_after s c (caller.Agent (goes_to (at_stage a (stage.Splitting z d k)) (split_stage t z (advanced d) k))) (set s.words (place_of g (Level1 (at.0 / n * n + d.made))) v) [])) (sym word)
          (split_holds z d k at.0 acting low is.words at.1)),
    )

-- ---- merging

merged_coming : (o : Option Act) (f : FuseData) (k : Generations) → coming_at (merging_stage o f k) ≡ answer.Done k ∷ []
merged_coming None f k = refl
merged_coming (Some next) f k = refl

merged_alike : (g : GeometryData) (c n : ℕ) (t : Task) (f e : FuseData) (k : Generations) (o : Option Act) → IsAlike g c n t (stage.Merging f k) (merging_stage o e k)
merged_alike g c n t f e k None = record { inside = refl; stays = refl; opened = refl; due = λ y. refl; front = refl }
merged_alike g c n t f e k (Some next) = record { inside = refl; stays = refl; opened = refl; due = λ y. refl; front = refl }

merged_sees : (g : GeometryData) (m : ℕ → Gpi) (words : List ℕ) (t : Task) (f : FuseData) (k : Generations) (o : Option Act) → Facts g.setup m (granule_of_task g t) (Merges f.gpi f.step) → SeesAt g m words t (merging_stage o f k)
merged_sees g m words t f k None known = record { known = tt; gives = tt; generations = tt }
merged_sees g m words t f k (Some next) known = record { known = known; gives = tt; generations = tt }

-- after a load or a store that leaves merging here
merged_holds : {s : Scene} {c : ℕ} {a : AgentData} {t : Task} {f : FuseData} {k : Generations} (acting : Acting s c a t (stage.Merging f k)) (e : FuseData) (n : Option WordName) (after : List ℕ) → Writes a.geometry s.words n after
    → is_lock n ≡ false → is_duty n ≡ false → is_generation n ≡ false → is_line n ≡ false → IsMade a.geometry (caller.Agent (goes_to (at_stage a (stage.Merging f k)) (merged_stage e k)))
    → AreWords a.geometry (map_in s) (apart_by a.geometry.setup (set (holders_of s.callers) c (record { granule = granule_of_task a.geometry t; step = merging_step e.step }))) after
    → Facts a.geometry.setup (map_in s) (granule_of_task a.geometry t) (Merges e.gpi e.step)
    → HoldsIn a.geometry (scene_after s c (caller.Agent (goes_to (at_stage a (stage.Merging f k)) (merged_stage e k))) after [])
merged_holds {s = s} {c = c} {a = a} {t = t} {f = f} {k = k} acting e n after writes no_lock no_duty_word no_generation no_line made are known =
    let g = a.geometry in
    let next = merged_stage e k in
    goes_quietly acting next n after (merged_alike g c (length a.answers) t f e k (fuse.next_of e)) made writes no_lock no_duty_word no_generation
    (marks_stay acting next n after writes no_line (λ p. merged_unpassed g p (fuse.next_of e) e k t) (merged_uncleaned g (fuse.next_of e) e k t))
    (tables_after acting next (map_in s) after
    (subst (λ (x : Step). AreWords g (map_in s) (apart_by g.setup (set (holders_of s.callers) c (record { granule = granule_of_task g t; step = x }))) after) (sym (merging_step_of e k (fuse.next_of e) refl)) are))
    (merged_sees g (map_in s) after t e k (fuse.next_of e) known)
    (λ given is. sym (merged_coming (fuse.next_of e) e k) ∙ is)

-- by the step of merging
merge_by : {s : Scene} {c : ℕ} {a : AgentData} {t : Task} (first own two : ℕ) (max : MaxBlock) (v : Gpi) (step : Fusing) (k : Generations) (next : Act)
    (acting : Acting s c a t (stage.Merging (record { first = first; own = own; two = two; max = max; gpi = v; step = step }) k)) → IsMergingOf a.geometry (address_of t) (record { first = first; own = own; two = two; max = max; gpi = v; step = step })
    → fuse.act_at first own two v step ≡ Some next → ActKeeps s c a t (stage.Merging (record { first = first; own = own; two = two; max = max; gpi = v; step = step }) k) next
merge_by {s = s} {c = c} {a = a} {t = t} first own two max v (Testing z j) k next acting is there =
    let g = a.geometry in
    let granule = granule_of_task g t in
    let w : ℕ = granule / 16 in
    let f : FuseData = record { first = first; own = own; two = two; max = max; gpi = v; step = Testing z j } in
    let low : j < loads_of (words_of g.setup size.Two) z = subst (λ (n : ℕ). j < loads_of n z) is.two is.counted in
    let place : first + load_at two own z j ≡ place_of g (Level1 (load_at (words_of g.setup size.Two) is.index z j)) = rw (is.first, is.two, is.own) (omega arith) in
    let at = own_index acting is.index is.there in
    let index = load_index g.setup (l0_words g) z w is.index j at low in
    let word = slice_index s.words (first + load_at two own z j) in
    let reads : word ≡ canonical_word g.setup (map_in s) (Some granule) (load_at (words_of g.setup size.Two) w z j) =
    ap (slice_index s.words) place
    ∙ holder_reads g (map_in s) (holders_of s.callers) c granule Apart s.words (load_at (words_of g.setup size.Two) w z j) (load_at (words_of g.setup size.Two) is.index z j) (holder_at acting) (alone_there acting refl) index
    (sym (load_inside g.setup w z j low)) acting.stands.tables.level1 in
    let known : Facts g.setup (map_in s) granule (Merges v (Testing z j)) = (seen_of acting).known in
    let after : Facts g.setup (map_in s) granule (Merges v (loaded two max v z j word)) =
    subst (λ (x : Fusing). Facts g.setup (map_in s) granule (Merges v x))
    (sym (ap (λ (n : ℕ). loaded n max v z j word) is.two ∙ ap (λ (x : MaxBlock). loaded (words_of g.setup size.Two) x v z j word) is.max)) (loads g.setup (map_in s) granule v z j word reads known) in
    let load : act.Load (first + load_at two own z j) ≡ next = cc in
    subst (ActKeeps s c a t (stage.Merging f k)) load
    (load_keeps s c a t (stage.Merging f k) (first + load_at two own z j) tt
    (merged_holds acting (fuse.took_of f word) None s.words (writes_none g s.words) refl refl refl refl (acting.made word)
    (load_words g (map_in s) (holders_of s.callers) c granule v (loaded two max v z j word) s.words (holder_at acting) (alone_there acting refl) (loaded_unstored two max v z j word) after.1 acting.stands.tables.level1)
    after))
merge_by {s = s} {c = c} {a = a} {t = t} first own two max v (Storing z j) k next acting is there =
    let g = a.geometry in
    let granule = granule_of_task g t in
    let w : ℕ = granule / 16 in
    let f : FuseData = record { first = first; own = own; two = two; max = max; gpi = v; step = Storing z j } in
    let low : j < words_of g.setup z = subst (λ (n : ℕ). j < n) (sym (block_words_is g.setup z)) (subst (λ (n : ℕ). j < block_words n z) is.two is.counted) in
    let i : ℕ = store_at (words_of g.setup size.Two) is.index z j in
    let place : first + store_at two own z j ≡ place_of g (Level1 i) = rw (is.first, is.two, is.own) (omega arith) in
    let index = store_index g.setup (l0_words g) z w is.index j (own_index acting is.index is.there) low in
    let within : i < l1_words g = index_below g (block_start g.setup z w + j) i acting.stands.shape.geometry index in
    let fits : place_of g (Level1 i) < length s.words = subst (λ (m : ℕ). place_of g (Level1 i) < m) (sym acting.stands.shape.size) (place_below g (Level1 i) within) in
    let word : ℕ = l1_word (l1.Contig z v) in
    let known : Facts g.setup (map_in s) granule (Merges v (Storing z j)) = (seen_of acting).known in
    let after : Facts g.setup (map_in s) granule (Merges v (stored two z j)) = rw is.two (stores g.setup (map_in s) granule v z j low known) in
    let are = merge_store g (map_in s) (holders_of s.callers) c granule z j i v s.words (holder_at acting) (alone_there acting refl) known.1.0 (own_gpi g.setup (map_in s) granule v known.0) low index fits acting.stands.tables.level1 in
    let store : act.Store (first + store_at two own z j) word ≡ next = cc in
    subst (ActKeeps s c a t (stage.Merging f k)) store (
      tt,
      subst (λ (p : ℕ). HoldsIn g (scene_after s c (caller.Agent (goes_to (at_stage a (stage.Merging f k)) (merged_stage (fuse.took_of f 0) k))) (set s.words p word) [])) (sym place)
          (merged_holds acting (fuse.took_of f 0) (Some (Level1 i)) (set s.words (place_of g (Level1 i)) word) (writes_one g s.words (Level1 i) word within) refl refl refl refl (acting.made 0)
          (subst (λ (n : ℕ). AreWords g (map_in s) (apart_by g.setup (set (holders_of s.callers) c (record { granule = granule; step = merging_step (stored n z j) }))) (set s.words (place_of g (Level1 i)) word)) (sym is.two) are)
          after),
    )
merge_by first own two max v (Ended o) k next acting is there = absurd cc

pub merge_keeps : {s : Scene} {c : ℕ} {a : AgentData} {t : Task} (f : FuseData) (k : Generations) (next : Act) (acting : Acting s c a t (stage.Merging f k)) → fuse.next_of f ≡ Some next → ActKeeps s c a t (stage.Merging f k) next
merge_keeps {a = a} {t = t} f k next acting there =
    merge_by f.first f.own f.two f.max f.gpi f.step k next acting (subst (IsStage a.geometry (stage.Merging f k)) acting.under_way acting.is.stage) there
