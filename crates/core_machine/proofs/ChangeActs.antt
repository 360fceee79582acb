-- The change of a granule.
use Rattle.std.proofs.Common.{◌≡◌, ◌≢◌, ℕ, ◌+◌, ◌/◌, ◌%◌, ◌*◌, ◌<◌, ◌++◌, ◌∷◌, [], List, Bool, true, false, not, eqb, Some, length, set, refl, sym, ap, ◌∙◌, subst, arith, inl, inr}
use Rattle.std.proofs.lemmas.List.{get_or-set_same}
use Rattle.std.proofs.lemmas.Option.{slice_get_within}
use Rattle.core_machine.proofs.Names.{Gpi, value_of, Holder, apart_by, AreWords, Facts, Keeps, Size, granule_bytes, size_bytes, Level1, place_of, l1_words, l1_index_of, l1_place_of, Task, region_of, Change, Kept, address_of, AgentData, goes_to, Scene, state_in, scene_after, map_in, map_at, granule_of_task, generation_word, comes_before, HoldsIn, Entry, is_due, lock_number, blocks_in_region}
use Rattle.core_machine.proofs.Names.gpi
use Rattle.core_machine.proofs.Names.size
use Rattle.core_machine.proofs.Names.act
use Rattle.core_machine.proofs.Names.stage
use Rattle.core_machine.proofs.Names.caller
use Rattle.gpt_descriptors.specs.Fields.{with_field}
use Rattle.table_meaning.specs.Equation.{Apart}
use Rattle.table_meaning.proofs.FactLemmas.{changes}
use Rattle.table_meaning.proofs.StepLemmas.{change_store}
use Rattle.gpt_descriptors.proofs.PlaceLemmas.{index_within, place_below, generation_named}
use Rattle.delegate_ops.specs.Changing.{to_of, changed_word}
use Rattle.delegate_ops.specs.InnerAgents.{kept_changed}
use Rattle.delegate_ops.proofs.AgentLemmas.{at_stage}
use Rattle.core_machine.proofs.ListLemmas.{one}
use Rattle.core_machine.proofs.WordLemmas.{writes_one, generations_left}
use Rattle.core_machine.proofs.StepLemmas.{rises_left}
use Rattle.core_machine.proofs.ActLemmas.{Acting, owner_of, lock_of_task, inside_of, granule_closed, seen_of, goes_keeps, holders_of, map_has, own_index, holder_at, alone_there, tables_after}
use Rattle.core_machine.proofs.StepLemmas.{map_elsewhere}
use Rattle.core_machine.proofs.LockActs.{ActKeeps}
use Rattle.delegate_ops.specs.Script.{change_entry}
use Rattle.core_machine.proofs.AddressLemmas.{index_at, region_at, region_lock}
use Rattle.std.specs.List.{count_by}
use Rattle.history.specs.Stamps.{Gave}
use Rattle.history.specs.Counts.{count_around}
use Rattle.delegate_ops.specs.Changing.{from_of}
use Rattle.core_machine.specs.InnerWalks.{In, generation_around}
use Rattle.core_machine.proofs.WalkLemmas.{in_pairs, one_pair}
use Rattle.core_machine.proofs.CallerLemmas.{due_alone}
use Rattle.gpi_values.specs.Values.{permits_of}
use Rattle.history.specs.Entries.{changes_granule}
use Rattle.std.proofs.lemmas.Bool.{eq-eqb, ne_eqb}
use Rattle.core_machine.proofs.WordLemmas.{lines_left}
use Rattle.core_machine.proofs.MarkLemmas.{seen_before, seen_changed, seen_stays}
use Rattle.std.proofs.lemmas.Bool.{cases_eq}

change_one : (word : ℕ) (b : Bool) → word + one b ≡ word + 0 + one b
change_one word b = omega arith

due_two : (y : Size) → not (comes_before y size.Two) ≡ true
due_two size.Two = refl
due_two y = refl

-- the map after the change, at its granule and elsewhere
changed_own : (map : List Gpi) (granule : ℕ) (to : Gpi) → granule < length map → map_at (set map granule to) granule ≡ to
changed_own map granule to within = get_or-set_same map granule to gpi.Any within

-- a granule that is being changed had its former GPI after the change that its generation numbers
changed_numbered : {s : Scene} {c : ℕ} {a : AgentData} {t : Task} (ch : Change) (k : Kept) (acting : Acting s c a t (stage.Changing ch k)) (e : Entry) (after : List ℕ) (y : Size) (n : ℕ) (v : Gpi)
    → granule_of_task a.geometry t ≡ n → from_of t ch ≡ v
    → ((z : Size) (region : ℕ) → region < blocks_in_region z * a.geometry.setup.gigabytes → generation_word a.geometry after z region ≡ generation_word a.geometry s.words z region)
    → Gave s.first a.geometry.setup.first (granule_bytes a.geometry.setup) n y (generation_around a.geometry after y n) v (s.history ++ e ∷ [])
changed_numbered {s = s} {a = a} {t = t} ch k acting e after y n v here was left =
    let g = a.geometry in
    let granule = granule_of_task g t in
    let region : ℕ = region_of (granule_bytes g.setup) y granule in
    let around : region ≡ address_of t / size_bytes y = region_at g t acting.acts y in
    let within : region < blocks_in_region y * g.setup.gigabytes = subst (λ (r : ℕ). r < blocks_in_region y * g.setup.gigabytes) (sym around) (generation_named g y (address_of t) (inside_of acting)) in
    let number : ℕ = generation_around g after y granule in
    let lock : lock_number g.setup (region * size_bytes y) ≡ lock_of_task a t = region_lock g t acting.acts y region refl in
    let due : count_by (is_due y region) s.callers ≡ 0 = due_alone (owner_of acting refl) y region lock in
    let counted : count_around g.setup.first (granule_bytes g.setup) granule s.history y ≡ number = omega (arith, acting.stands.generations y region within, due, left y region within) in
    subst (λ (j : ℕ). Gave s.first g.setup.first (granule_bytes g.setup) j y (generation_around g after y j) v (s.history ++ e ∷ [])) here
    (subst (λ (u : Gpi). Gave s.first g.setup.first (granule_bytes g.setup) granule y number u (s.history ++ e ∷ [])) was
    (record { before = s.history; after = e ∷ []; parts = refl; counted = counted; gives = map_has acting ∙ ap Some (sym (seen_of acting).gives) }))

change_holds : {s : Scene} {c : ℕ} {a : AgentData} {t : Task} (i : ℕ) (ch : Change) (k : Kept) (acting : Acting s c a t (stage.Changing ch k)) → l1_index_of a.geometry (address_of t) ≡ Some i
    → HoldsIn a.geometry (scene_after s c (caller.Agent (goes_to (at_stage a (stage.Changing ch k)) (stage.Raising ch size.Two (kept_changed a.geometry t ch k))))
    (set s.words (place_of a.geometry (Level1 i)) (changed_word a.geometry t ch k.word)) (change_entry a.geometry c (length a.answers) t ch ∷ []))
change_holds {s = s} {c = c} {a = a} {t = t} i ch k acting index =
    let g = a.geometry in
    let me = at_stage a (stage.Changing ch k) in
    let next = stage.Raising ch size.Two (kept_changed g t ch k) in
    let stands = acting.stands in
    let pa = address_of t in
    let place = place_of g (Level1 i) in
    let to = to_of t ch in
    let after = set s.words place (changed_word g t ch k.word) in
    let e = change_entry g c (length a.answers) t ch in
    let granule = granule_of_task g t in
    let map = (state_in s).map in
    let l : ℕ → Gpi = map_at (set map granule to) in
    let hs : List Holder = holders_of s.callers in
    let within : i < l1_words g = index_within g pa i stands.shape.geometry index in
    let writes = writes_one g s.words (Level1 i) (changed_word g t ch k.word) within in
    let low : place < length s.words = subst (λ (n : ℕ). place < n) (sym stands.shape.size) (place_below g (Level1 i) within) in
    let sees = seen_of acting in
    let own : l granule ≡ to = changed_own map granule to (slice_get_within map granule (map_in s granule) (map_has acting)) in
    let other : (n : ℕ) → n ≢ granule → map_in s n ≡ l n = map_elsewhere (state_in s) e in
    let known : Facts g.setup l granule (Keeps (changed_word g t ch k.word)) =
    subst (λ (v : Gpi). Facts g.setup l granule (Keeps (with_field k.word (granule % 16) (value_of v)))) own (changes g.setup (map_in s) l granule k.word other sees.known) in
    let are : AreWords g l (apart_by g.setup (set hs c (record { granule = granule; step = Apart }))) after =
    subst (λ (v : Gpi). AreWords g l (apart_by g.setup (set hs c (record { granule = granule; step = Apart }))) (set s.words place (with_field k.word (granule % 16) (value_of v)))) own
    (change_store g (map_in s) l hs c granule i k.word s.words (holder_at acting) (alone_there acting refl) other sees.known (own_index acting i index) low stands.tables.level1) in
    goes_keeps acting next (Some (Level1 i)) after (Some e)
    (record {
      inside = refl;
      stays = refl;
      made = acting.made 0;
      writes = writes;
      block = λ m away. tt;
      no_lock = refl;
      no_duty_word = refl;
      rises = rises_left writes refl;
      tracks = record {
        changed = λ n. elim (cases_eq n granule) [
          | inl here ↦ inr (λ y. rw (due_two y) (subst (λ (j : ℕ). In {A = ℕ × Gpi} (j, map_in s j) ((granule, from_of t ch) ∷ [])) (sym here) (subst (λ (u : Gpi). In {A = ℕ × Gpi} (granule, u) ((granule, from_of t ch) ∷ [])) sees.gives (inl refl))))
          | inr away ↦ inl (sym (other n away))
        ];
        ends = λ y n v has. absurd has;
        pairs = λ y n v has.
            let pair = one_pair granule n (from_of t ch) v (in_pairs n v (not (comes_before y size.Two)) _ has).1 in
            inr (changed_numbered ch k acting e after y n v pair.0 pair.1 (generations_left writes refl));
      };
      marks = record {
        changed = λ n. elim (cases_eq n granule) [
          | inl here ↦
              (let pair : In {A = ℕ × Gpi} (n, map_in s n) ((granule, from_of t ch) ∷ []) =
              subst (λ (j : ℕ). In {A = ℕ × Gpi} (j, map_in s j) ((granule, from_of t ch) ∷ [])) (sym here) (subst (λ (u : Gpi). In {A = ℕ × Gpi} (granule, u) ((granule, from_of t ch) ∷ [])) sees.gives (inl refl)) in
              inr (λ p. pair, pair))
          | inr away ↦ inl (sym (other n away), λ sp before. seen_stays n sp s.history e (ne_eqb granule n (λ same. away (sym same))) before)
        ];
        passes = λ p n v has. absurd has;
        cleans = λ n v has. absurd has;
        comes = λ n sp resident. sym (lines_left writes refl stands.shape.geometry n sp) ∙ resident;
        stays = λ n sp resident permits. lines_left writes refl stands.shape.geometry n sp ∙ resident;
        looks = λ n sp permits seen. elim (cases_eq n granule) [
          | inl here ↦ absurd (let changed : changes_granule n e ≡ true = eq-eqb granule n (sym here) in let both : true ≡ false = sym seen ∙ seen_changed n sp s.history e changed in cc)
          | inr away ↦ (ap (λ (v : Gpi). permits_of v sp) (other n away) ∙ permits, seen_before n sp s.history e refl seen)
        ];
      };
      entry = record { caller = refl; call = refl; granule = refl; allowed = (map_has acting ∙ ap Some (sym sees.gives), granule_closed acting refl refl) };
      words = tables_after acting next l after are;
      opened = refl;
      seen = record {
        known = known;
        gives = sym own;
        generations = λ y. generations_left writes refl y (pa / size_bytes y) (generation_named g y pa (inside_of acting)) ∙ sees.generations y;
      };
      raised = λ y region in_space. rw (generations_left writes refl y region in_space, due_two y) (change_one (generation_word g s.words y region) (eqb (region_of (granule_bytes g.setup) y granule) region));
      coming = λ given is. absurd cc;
      front = refl;
    })

pub change_keeps : {s : Scene} {c : ℕ} {a : AgentData} {t : Task} (ch : Change) (k : Kept) (place : ℕ) (acting : Acting s c a t (stage.Changing ch k)) → l1_place_of a.geometry (address_of t) ≡ Some place
    → ActKeeps s c a t (stage.Changing ch k) (act.Store place (changed_word a.geometry t ch k.word))
change_keeps {s = s} {c = c} {a = a} {t = t} ch k place acting there =
    let at = index_at a.geometry (address_of t) place there in
    subst (λ (p : ℕ). ActKeeps s c a t (stage.Changing ch k) (act.Store p (changed_word a.geometry t ch k.word))) (sym at.2) (tt, change_holds at.0 ch k acting at.1)
