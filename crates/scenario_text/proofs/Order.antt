-- Lists of lines that may come one after the other are the lines of well-formed scenarios, each of one. What comes
-- after a place is read from the right: a line is added before what comes after it.
use Rattle.std.proofs.Common.{◌≡◌, ℕ, suc, ◌+◌, ◌*◌, ◌^◌, ◌<◌, ◌≤◌, true, List, [], ◌∷◌, ◌++◌, length, map, get_or, Option, Some, None, refl, sym, ap, subst, ◌∙◌, append_assoc, arith, inl, inr}
use Rattle.std.specs.Prelude.{sum_by}
use Rattle.std.specs.List.{flat_map, AllByRecursion, fold}
use Rattle.std.proofs.lemmas.Bool.{eqb-true, eq-eqb}
use Rattle.std.proofs.lemmas.List.{append-nil}
use Rattle.gpt_descriptors.specs.declared.size.MaxBlock.{MaxBlock}
use Rattle.gpt_descriptors.specs.declared.size.MaxBlock.TheVariants as most
use Rattle.gpt_descriptors.specs.Sizes.{SetupData, IsSetup, space_bytes, region_bytes}
use Rattle.line_text.specs.InnerRows.{Fits, IsAmong}
use Rattle.line_text.proofs.RowLemmas.{among_fits, ForRow, each_row}
use Rattle.region_plan.specs.declared.region.Region.{Region}
use Rattle.scenario_text.specs.declared.line.Line.{Line}
use Rattle.scenario_text.specs.declared.line.Line.TheVariants as says
use Rattle.scenario_text.specs.declared.scenario.Ask.{Ask}
use Rattle.scenario_text.specs.declared.scenario.Ask.TheVariants as ask
use Rattle.scenario_text.specs.declared.scenario.Look.{Look}
use Rattle.scenario_text.specs.declared.scenario.Scenario.{Scenario}
use Rattle.scenario_text.specs.declared.scenario.Script.{Script}
use Rattle.scenario_text.specs.declared.scenario.Script.TheVariants as script
use Rattle.scenario_text.specs.declared.scenario.Slot.{Slot}
use Rattle.scenario_text.specs.declared.scenario.Slot.TheVariants as slot
use Rattle.scenario_text.specs.declared.context.Place.{Place}
use Rattle.scenario_text.specs.declared.context.Place.TheVariants as places
use Rattle.scenario_text.specs.declared.context.Context.{Context}
use Rattle.scenario_text.specs.declared.word.Setting.{Setting}
use Rattle.scenario_text.specs.declared.word.Setting.TheVariants as setting
use Rattle.scenario_text.specs.declared.word.Word.TheVariants as word
use Rattle.scenario_text.specs.Spelling.{max_count, head_lines, script_lines, lines_of, IsRegion, IsAsk, IsScript, IsSlot, turns_of, caller_limit, turn_limit, WellFormed}
use Rattle.scenario_text.specs.Faults.{start, head_index, head_place, may_come, setting_kind}
use Rattle.scenario_text.specs.InnerReading.{InLimits, Next, word_for, gigabytes_after, after}
use Rattle.scenario_text.specs.InnerDrafts.{DraftData, nothing_read, closed, with_ask, with_look, max_of, taken_all, scenario_of}

-- each line may come after the ones before it, and the last one is the end line
abbrev pub Accepts : Context → List Line → Type 0
Accepts st [] = st.place ≡ places.Ended
Accepts st (l ∷ ls) = Next st l × Accepts (after st l) ls

abbrev at : Place → ℕ → ℕ → ℕ → Context
at p g c t = record { place = p; gigabytes = g; callers = c; turns = t }

-- a section may begin
abbrev IsOpen : Place → Type 0
IsOpen places.Regions = Unit {0}
IsOpen places.InAgent = Unit {0}
IsOpen places.InCpu = Unit {0}
IsOpen p = ⊥

-- the schedule or the end may follow
abbrev IsBody : Place → Type 0
IsBody places.Schedule = Unit {0}
IsBody p = IsOpen p

body_open : (p : Place) → IsOpen p → IsBody p
body_open places.Regions o = tt
body_open places.InAgent o = tt
body_open places.InCpu o = tt
body_open p o = absurd o

-- ---- limits

pub start_limits : InLimits start
start_limits = record { gigabytes = omega arith; callers = omega arith; turns = omega arith }

pub step_limits : (st : Context) (l : Line) → Next st l → InLimits st → InLimits (after st l)
step_limits st (says.OneSetting setting.Space n) nx limits =
    let small : n ≤ 64 = elim nx.values.0 [ inl e ↦ omega arith | inr e ↦ omega arith ] in
    record { gigabytes = small; callers = limits.callers; turns = limits.turns }
step_limits st says.NewAgent nx limits = let few = nx.values in record { gigabytes = limits.gigabytes; callers = omega arith; turns = limits.turns }
step_limits st says.NewCpu nx limits = let few = nx.values in record { gigabytes = limits.gigabytes; callers = omega arith; turns = limits.turns }
step_limits st (says.OneSlot s) nx limits = record { gigabytes = limits.gigabytes; callers = limits.callers; turns = nx.values.1 }
step_limits st l nx limits = record { gigabytes = limits.gigabytes; callers = limits.callers; turns = limits.turns }

-- ---- the head

-- the settings from line k of the head on
abbrev Follow : ℕ → List Setting → Type 0
Follow k [] = head_place k ≡ places.Regions
Follow k (s ∷ ss) = (head_place k ≡ places.Head k) × (head_index s ≡ k) × Follow (k + 1) ss

abbrev all_settings : List Setting
all_settings = setting.Gpt ∷ setting.Space ∷ setting.Max ∷ setting.Locks ∷ setting.First ∷ setting.Ring ∷ setting.Tables ∷ setting.Base ∷ []

all_follow : Follow 0 all_settings
all_follow = (refl, refl, (refl, refl, (refl, refl, (refl, refl, (refl, refl, (refl, refl, (refl, refl, (refl, refl, refl))))))))

setting_at : ℕ → Setting
setting_at k = get_or all_settings k setting.Gpt

at_its_index : (s : Setting) → setting_at (head_index s) ≡ s
unfolding setting_at
at_its_index setting.Gpt = refl
at_its_index s = refl

same_setting : (r s : Setting) (k : ℕ) → head_index r ≡ k → head_index s ≡ k → r ≡ s
same_setting r s k e f = sym (at_its_index r) ∙ ap setting_at (e ∙ sym f) ∙ at_its_index s

-- the lines of some settings with these values
abbrev setting_lines : List Setting → List ℕ → List Line
setting_lines [] vs = []
setting_lines (s ∷ ss) [] = []
setting_lines (s ∷ ss) (v ∷ vs) = says.OneSetting s v ∷ setting_lines ss vs

-- the gigabytes that they leave
abbrev gigabytes_in : ℕ → List Setting → List ℕ → ℕ
gigabytes_in g [] vs = g
gigabytes_in g (s ∷ ss) [] = g
gigabytes_in g (s ∷ ss) (v ∷ vs) = gigabytes_in (gigabytes_after (at places.Regions g 0 0) (says.OneSetting s v)) ss vs

record Headed (g : ℕ) (ss : List Setting) (ls : List Line) : Type 0 where
  values : List ℕ
  rest : List Line
  fits : Fits (map setting_kind ss) values
  lines : ls ≡ setting_lines ss values ++ rest
  accepts : Accepts (at places.Regions (gigabytes_in g ss values) 0 0) rest

at_setting : (k : ℕ) (l : Line) → may_come (places.Head k) (word_for l) ≡ true → (s : Setting) × (n : ℕ) × (l ≡ says.OneSetting s n) × (head_index s ≡ k)
at_setting k (says.OneSetting s n) e = (s, n, refl, eqb-true (head_index s) k e)
at_setting k (says.OneAsk (ask.Delegate pa s)) e = absurd cc
at_setting k (says.OneSlot (slot.Turn c n)) e = absurd cc
at_setting k l e = absurd cc

gigabytes_same : (p : Place) (g c t : ℕ) (s : Setting) (n : ℕ) → gigabytes_after (at p g c t) (says.OneSetting s n) ≡ gigabytes_after (at places.Regions g 0 0) (says.OneSetting s n)
gigabytes_same p g c t setting.Space n = refl
gigabytes_same p g c t s n = refl

heads : (k g : ℕ) (ss : List Setting) (ls : List Line) → Follow k ss → Accepts (at (head_place k) g 0 0) ls → Headed g ss ls
heads k g [] ls follow accepts = record { values = []; rest = ls; fits = tt; lines = refl; accepts = subst (λ (p : Place). Accepts (at p g 0 0) ls) follow accepts }
heads k g (s ∷ ss) [] follow accepts = absurd (let wrong = sym follow.0 ∙ accepts in cc)
heads k g (s ∷ ss) (l ∷ ls) follow accepts =
    let here = subst (λ (p : Place). Accepts (at p g 0 0) (l ∷ ls)) follow.0 accepts in
    let said = at_setting k l here.0.comes in
    let line : l ≡ says.OneSetting s said.1 = said.2 ∙ ap (λ (s : Setting). says.OneSetting s said.1) (same_setting said.0 s k said.3 follow.1) in
    let put = subst (λ (l : Line). Accepts (at (places.Head k) g 0 0) (l ∷ ls)) line here in
    let next = subst (λ (j : ℕ). Accepts (at (head_place (j + 1)) (gigabytes_after (at (places.Head k) g 0 0) (says.OneSetting s said.1)) 0 0) ls) follow.1 put.1 in
    let more = heads (k + 1) (gigabytes_after (at places.Regions g 0 0) (says.OneSetting s said.1)) ss ls follow.2 (subst (λ (g : ℕ). Accepts (at (head_place (k + 1)) g 0 0) ls) (gigabytes_same (places.Head k) g 0 0 s said.1) next) in
    record {
      values = said.1 ∷ more.values;
      rest = more.rest;
      fits = (put.0.values, more.fits);
      lines = λ i. line i ∷ more.lines i;
      accepts = more.accepts;
    }

heads_accepted : (k g : ℕ) (ss : List Setting) (vs : List ℕ) (rest : List Line) → Follow k ss → Fits (map setting_kind ss) vs → Accepts (at places.Regions (gigabytes_in g ss vs) 0 0) rest → Accepts (at (head_place k) g 0 0) (setting_lines ss vs ++ rest)
heads_accepted k g [] [] rest follow fits accepts = subst (λ (p : Place). Accepts (at p g 0 0) rest) (sym follow) accepts
heads_accepted k g [] (v ∷ vs) rest follow fits accepts = absurd fits
heads_accepted k g (s ∷ ss) [] rest follow fits accepts = absurd fits
heads_accepted k g (s ∷ ss) (v ∷ vs) rest follow fits accepts =
    let more = heads_accepted (k + 1) (gigabytes_after (at places.Regions g 0 0) (says.OneSetting s v)) ss vs rest follow.2 fits.1 accepts in
    let next = subst (λ (g : ℕ). Accepts (at (head_place (k + 1)) g 0 0) (setting_lines ss vs ++ rest)) (sym (gigabytes_same (places.Head k) g 0 0 s v)) more in
    let here : Accepts (at (places.Head k) g 0 0) (says.OneSetting s v ∷ (setting_lines ss vs ++ rest)) = (
      record { comes = eq-eqb (head_index s) k follow.1; values = fits.0 },
      subst (λ (j : ℕ). Accepts (at (head_place (j + 1)) (gigabytes_after (at (places.Head k) g 0 0) (says.OneSetting s v)) 0 0) (setting_lines ss vs ++ rest)) (sym follow.1) next,
    ) in
    subst (λ (p : Place). Accepts (at p g 0 0) (says.OneSetting s v ∷ (setting_lines ss vs ++ rest))) (sym follow.0) here

-- the setup that has these values
abbrev setup_from : List ℕ → SetupData
setup_from vs = record {
  gigabytes = get_or vs 1 0;
  max = max_of (get_or vs 2 0);
  lock_blocks = get_or vs 3 0;
  first = get_or vs 4 0;
  ring = get_or vs 5 0;
  tables = get_or vs 6 0;
  base = get_or vs 7 0;
}

record IsHead (vs : List ℕ) : Type 0 where
  setup : IsSetup (setup_from vs)
  base : (setup_from vs).base < 2 ^ 64
  lines : setting_lines all_settings vs ≡ head_lines (setup_from vs)
  gigabytes : gigabytes_in 0 all_settings vs ≡ (setup_from vs).gigabytes

max_again : (n : ℕ) → IsAmong (0 ∷ 2 ∷ 32 ∷ 512 ∷ []) n → n ≡ max_count (max_of n)
max_again n (inl e) = subst (λ (n : ℕ). n ≡ max_count (max_of n)) (sym e) refl
max_again n (inr (inl e)) = subst (λ (n : ℕ). n ≡ max_count (max_of n)) (sym e) refl
max_again n (inr (inr (inl e))) = subst (λ (n : ℕ). n ≡ max_count (max_of n)) (sym e) refl
max_again n (inr (inr (inr e))) = subst (λ (n : ℕ). n ≡ max_count (max_of n)) (sym e) refl

is_head : ForRow (map setting_kind all_settings) IsHead
is_head = λ v hv g hg m hm l hl f hf r hr t ht b hb. record {
  setup = record { gigabytes = hg.0; lock_blocks = hl.0; first = hf.0.1; ring_low = hr.0.0; ring_high = hr.0.1; tables = ht.0.1 };
  base = hb.1;
  lines = λ i. says.OneSetting setting.Gpt (hv.0 i) ∷ says.OneSetting setting.Space g ∷ says.OneSetting setting.Max (max_again m hm.0 i)
      ∷ says.OneSetting setting.Locks l ∷ says.OneSetting setting.First f ∷ says.OneSetting setting.Ring r ∷ says.OneSetting setting.Tables t
      ∷ says.OneSetting setting.Base b ∷ [];
  gigabytes = refl;
}

-- ---- the schedule, from the right

record Slots (c t : ℕ) (ls : List Line) : Type 0 where
  slots : List Slot
  lines : ls ≡ map says.OneSlot slots ++ says.End ∷ []
  good : AllByRecursion (IsSlot c) slots
  turns : fold (λ n s. n + turns_of c s) t slots ≤ turn_limit

ended : (g c t : ℕ) (ls : List Line) → Accepts (at places.Ended g c t) ls → ls ≡ []
ended g c t [] accepts = refl
ended g c t (l ∷ ls) accepts = absurd (let wrong = accepts.0.comes in cc)

-- no line but those of the schedule and the end
slots_right : (g c t : ℕ) (ls : List Line) → t ≤ turn_limit → Accepts (at places.Schedule g c t) ls → Slots c t ls
slots_right g c t [] le accepts = absurd cc
slots_right g c t (says.OneSlot s ∷ ls) le accepts =
    let more = slots_right g c (t + turns_of c s) ls accepts.0.values.1 accepts.1 in
    record { slots = s ∷ more.slots; lines = ap (λ (z : List Line). says.OneSlot s ∷ z) more.lines; good = (accepts.0.values.0, more.good); turns = more.turns }
slots_right g c t (says.End ∷ ls) le accepts =
    record { slots = []; lines = ap (λ (z : List Line). says.End ∷ z) (ended g c t ls accepts.1); good = tt; turns = le }
slots_right g c t (says.OneAsk (ask.Delegate pa s) ∷ ls) le accepts = absurd (let wrong = accepts.0.comes in cc)
slots_right g c t (l ∷ ls) le accepts = absurd (let wrong = accepts.0.comes in cc)

-- ---- sections, from the right

-- sections and the schedule, after c callers and t turns
record Sections (s : SetupData) (c t : ℕ) (ls : List Line) : Type 0 where
  scripts : List Script
  slots : List Slot
  total : ℕ
  lines : ls ≡ flat_map script_lines scripts ++ (map says.OneSlot slots ++ says.End ∷ [])
  scripts_good : AllByRecursion (IsScript s) scripts
  total_is : c + length scripts ≡ total
  few : total ≤ caller_limit
  slots_good : AllByRecursion (IsSlot total) slots
  turns : fold (λ n x. n + turns_of total x) t slots ≤ turn_limit

-- the lines of a place, before the next section
abbrev Lead : Place → Type 0
Lead places.Regions = List Region
Lead places.InAgent = List Ask
Lead places.InCpu = List Look
Lead p = Unit {0}

abbrev lead_lines : (p : Place) → Lead p → List Line
lead_lines places.Regions rs = map says.OneRegion rs
lead_lines places.InAgent asks = map says.OneAsk asks
lead_lines places.InCpu looks = map says.OneLook looks
lead_lines p u = []

abbrev IsLead : SetupData → (p : Place) → Lead p → Type 0
IsLead s places.Regions rs = AllByRecursion IsRegion rs
IsLead s places.InAgent asks = AllByRecursion IsAsk asks
IsLead s places.InCpu looks = AllByRecursion (λ look. look.pa < space_bytes s) looks
IsLead s p u = Unit {0}

record Rest (s : SetupData) (p : Place) (c t : ℕ) (ls : List Line) : Type 0 where
  lead : Lead p
  good : IsLead s p lead
  more : List Line
  lines : ls ≡ lead_lines p lead ++ more
  sections : Sections s c t more

no_lead : (s : SetupData) (p : Place) (c t : ℕ) (ls : List Line) → Sections s c t ls → Rest s p c t ls
no_lead s places.Regions c t ls sections = record { lead = []; good = tt; more = ls; lines = refl; sections = sections }
no_lead s places.InAgent c t ls sections = record { lead = []; good = tt; more = ls; lines = refl; sections = sections }
no_lead s places.InCpu c t ls sections = record { lead = []; good = tt; more = ls; lines = refl; sections = sections }
no_lead s p c t ls sections = record { lead = tt; good = tt; more = ls; lines = refl; sections = sections }

agent_before : (s : SetupData) (c t : ℕ) (ls : List Line) → Rest s places.InAgent (c + 1) t ls → Sections s c t (says.NewAgent ∷ ls)
agent_before s c t ls r = let n = r.sections in record {
  scripts = script.Agent r.lead ∷ n.scripts;
  slots = n.slots;
  total = n.total;
  lines = ap (λ (z : List Line). says.NewAgent ∷ z) (r.lines ∙ ap (λ (z : List Line). map says.OneAsk r.lead ++ z) n.lines
      ∙ sym (append_assoc (map says.OneAsk r.lead) (flat_map script_lines n.scripts) (map says.OneSlot n.slots ++ says.End ∷ [])));
  scripts_good = (r.good, n.scripts_good);
  total_is = let is = n.total_is in omega arith;
  few = n.few;
  slots_good = n.slots_good;
  turns = n.turns;
}

cpu_before : (s : SetupData) (c t : ℕ) (ls : List Line) → Rest s places.InCpu (c + 1) t ls → Sections s c t (says.NewCpu ∷ ls)
cpu_before s c t ls r = let n = r.sections in record {
  scripts = script.Cpu r.lead ∷ n.scripts;
  slots = n.slots;
  total = n.total;
  lines = ap (λ (z : List Line). says.NewCpu ∷ z) (r.lines ∙ ap (λ (z : List Line). map says.OneLook r.lead ++ z) n.lines
      ∙ sym (append_assoc (map says.OneLook r.lead) (flat_map script_lines n.scripts) (map says.OneSlot n.slots ++ says.End ∷ [])));
  scripts_good = (r.good, n.scripts_good);
  total_is = let is = n.total_is in omega arith;
  few = n.few;
  slots_good = n.slots_good;
  turns = n.turns;
}

add_zero : (n : ℕ) → n + 0 ≡ n
add_zero n = omega arith

no_sections : (s : SetupData) (c t : ℕ) (ls : List Line) → c ≤ caller_limit → Slots c t ls → Sections s c t ls
no_sections s c t ls few x = record {
  scripts = [];
  slots = x.slots;
  total = c;
  lines = x.lines;
  scripts_good = tt;
  total_is = add_zero c;
  few = few;
  slots_good = x.good;
  turns = x.turns;
}

rest_of : (s : SetupData) (p : Place) (c t : ℕ) (ls : List Line) → c ≤ caller_limit → t ≤ turn_limit → IsOpen p → Accepts (at p s.gigabytes c t) ls → Rest s p c t ls
rest_of s (places.Head k) c t ls few le o accepts = absurd o
rest_of s places.Schedule c t ls few le o accepts = absurd o
rest_of s places.Ended c t ls few le o accepts = absurd o
rest_of s p c t [] few le o accepts = absurd cc
rest_of s places.Regions c t (says.OneRegion r ∷ ls) few le o accepts =
    let n = rest_of s places.Regions c t ls few le tt accepts.1 in
    record { lead = r ∷ n.lead; good = (accepts.0.values, n.good); more = n.more; lines = ap (λ (z : List Line). says.OneRegion r ∷ z) n.lines; sections = n.sections }
rest_of s places.InAgent c t (says.OneAsk a ∷ ls) few le o accepts =
    let n = rest_of s places.InAgent c t ls few le tt accepts.1 in
    record { lead = a ∷ n.lead; good = (accepts.0.values, n.good); more = n.more; lines = ap (λ (z : List Line). says.OneAsk a ∷ z) n.lines; sections = n.sections }
rest_of s places.InCpu c t (says.OneLook l ∷ ls) few le o accepts =
    let n = rest_of s places.InCpu c t ls few le tt accepts.1 in
    record { lead = l ∷ n.lead; good = (accepts.0.values.0, n.good); more = n.more; lines = ap (λ (z : List Line). says.OneLook l ∷ z) n.lines; sections = n.sections }
rest_of s p c t (says.NewAgent ∷ ls) few le o accepts =
    no_lead s p c t (says.NewAgent ∷ ls) (agent_before s c t ls (rest_of s places.InAgent (c + 1) t ls (let h = accepts.0.values in omega arith) le tt accepts.1))
rest_of s p c t (says.NewCpu ∷ ls) few le o accepts =
    no_lead s p c t (says.NewCpu ∷ ls) (cpu_before s c t ls (rest_of s places.InCpu (c + 1) t ls (let h = accepts.0.values in omega arith) le tt accepts.1))
rest_of s p c t (says.OneSlot x ∷ ls) few le o accepts =
    let n = slots_right s.gigabytes c (t + turns_of c x) ls accepts.0.values.1 accepts.1 in
    no_lead s p c t (says.OneSlot x ∷ ls) (no_sections s c t (says.OneSlot x ∷ ls) few (record {
      slots = x ∷ n.slots;
      lines = ap (λ (z : List Line). says.OneSlot x ∷ z) n.lines;
      good = (accepts.0.values.0, n.good);
      turns = n.turns;
    }))
rest_of s p c t (says.End ∷ ls) few le o accepts =
    no_lead s p c t (says.End ∷ ls) (no_sections s c t (says.End ∷ ls) few (record {
      slots = [];
      lines = ap (λ (z : List Line). says.End ∷ z) (ended s.gigabytes c t ls accepts.1);
      good = tt;
      turns = le;
    }))
rest_of s p c t (says.OneAsk (ask.Delegate pa w) ∷ ls) few le o accepts = absurd (let wrong = accepts.0.comes in cc)
rest_of s p c t (l ∷ ls) few le o accepts = absurd (let wrong = accepts.0.comes in cc)

-- ---- accepted lines are those of a scenario

abbrev pub OfScenario : List Line → Type 0
OfScenario ls = (s : Scenario) × WellFormed s × (ls ≡ lines_of s)

regrouped : (a b c d : List Line) → ((a ++ b) ++ c) ++ d ≡ a ++ (b ++ (c ++ d))
regrouped a b c d = simp append_assoc

lines_right : (s : Scenario) → lines_of s ≡ head_lines s.setup ++ (map says.OneRegion s.regions ++ (flat_map script_lines s.scripts ++ (map says.OneSlot s.schedule ++ says.End ∷ [])))
lines_right s = simp append_assoc

zero_add : (n : ℕ) → 0 + n ≡ n
zero_add n = omega arith

scenario_right : (setup : SetupData) (rest : List Line) → IsSetup setup → setup.base < 2 ^ 64 → Rest setup places.Regions 0 0 rest → OfScenario (head_lines setup ++ rest)
scenario_right setup rest good base r =
    let n = r.sections in
    let s : Scenario = record { setup = setup; regions = r.lead; scripts = n.scripts; schedule = n.slots } in
    let total : n.total ≡ length n.scripts = sym n.total_is ∙ zero_add (length n.scripts) in (
      s,
      record {
        setup = good;
        base = base;
        regions = r.good;
        scripts = n.scripts_good;
        callers = subst (λ (k : ℕ). k ≤ caller_limit) total n.few;
        slots = subst (λ (k : ℕ). AllByRecursion (IsSlot k) n.slots) total n.slots_good;
        turns = subst (λ (k : ℕ). sum_by (turns_of k) n.slots ≤ turn_limit) total n.turns;
      },
      ap (λ (z : List Line). head_lines setup ++ z) (r.lines ∙ ap (λ (z : List Line). map says.OneRegion r.lead ++ z) n.lines) ∙ sym (lines_right s),
    )

pub accepted : (ls : List Line) → Accepts start ls → OfScenario ls
accepted ls accepts =
    let h = heads 0 0 all_settings ls all_follow accepts in
    let head = each_row (map setting_kind all_settings) IsHead is_head h.values h.fits in
    let setup = setup_from h.values in
    let more = rest_of setup places.Regions 0 0 h.rest (omega arith) (omega arith) tt (subst (λ (g : ℕ). Accepts (at places.Regions g 0 0) h.rest) head.gigabytes h.accepts) in
    let of = scenario_right setup h.rest head.setup head.base more in
    (of.0, of.1, h.lines ∙ ap (λ (z : List Line). z ++ h.rest) head.lines ∙ of.2)

-- ---- the lines of a scenario are accepted

agent_may : (p : Place) → IsOpen p → may_come p word.Agent ≡ true
agent_may places.Regions o = refl
agent_may places.InAgent o = refl
agent_may places.InCpu o = refl
agent_may p o = absurd o

cpu_may : (p : Place) → IsOpen p → may_come p word.Cpu ≡ true
cpu_may places.Regions o = refl
cpu_may places.InAgent o = refl
cpu_may places.InCpu o = refl
cpu_may p o = absurd o

slot_may : (s : Slot) (p : Place) → IsBody p → may_come p (word_for (says.OneSlot s)) ≡ true
slot_may (slot.Turn c n) (places.Head k) o = absurd o
slot_may (slot.Turn c n) places.Ended o = absurd o
slot_may (slot.Round n t) (places.Head k) o = absurd o
slot_may (slot.Round n t) places.Ended o = absurd o
slot_may (slot.Turn c n) p o = refl
slot_may (slot.Round n t) p o = refl

end_may : (p : Place) → IsBody p → may_come p word.End ≡ true
end_may (places.Head k) o = absurd o
end_may places.Ended o = absurd o
end_may p o = refl

ask_may : (a : Ask) → may_come places.InAgent (word_for (says.OneAsk a)) ≡ true
ask_may (ask.Delegate pa s) = refl
ask_may a = refl

regions_accepted : (g c t : ℕ) (rs : List Region) (rest : List Line) → AllByRecursion IsRegion rs → Accepts (at places.Regions g c t) rest → Accepts (at places.Regions g c t) (map says.OneRegion rs ++ rest)
regions_accepted g c t [] rest good accepts = accepts
regions_accepted g c t (r ∷ rs) rest good accepts = (record { comes = refl; values = good.0 }, regions_accepted g c t rs rest good.1 accepts)

asks_accepted : (g c t : ℕ) (asks : List Ask) (rest : List Line) → AllByRecursion IsAsk asks → Accepts (at places.InAgent g c t) rest → Accepts (at places.InAgent g c t) (map says.OneAsk asks ++ rest)
asks_accepted g c t [] rest good accepts = accepts
asks_accepted g c t (a ∷ asks) rest good accepts = (record { comes = ask_may a; values = good.0 }, asks_accepted g c t asks rest good.1 accepts)

looks_accepted : (g c t : ℕ) (looks : List Look) (rest : List Line) → g ≤ 64 → AllByRecursion (λ look. look.pa < g * region_bytes) looks → Accepts (at places.InCpu g c t) rest → Accepts (at places.InCpu g c t) (map says.OneLook looks ++ rest)
looks_accepted g c t [] rest le good accepts = accepts
looks_accepted g c t (a ∷ looks) rest le good accepts = (record { comes = refl; values = (good.0, let h = good.0 in omega arith) }, looks_accepted g c t looks rest le good.1 accepts)

one_more : (c n : ℕ) → c + suc n ≡ (c + 1) + n
one_more c n = omega arith

fold_grows : (c t : ℕ) (slots : List Slot) → t ≤ fold (λ n s. n + turns_of c s) t slots
fold_grows c t [] = omega arith
fold_grows c t (s ∷ slots) = let later = fold_grows c (t + turns_of c s) slots in omega arith

scripts_accepted : (setup : SetupData) (p : Place) (c t : ℕ) (scripts : List Script) (rest : List Line) → setup.gigabytes ≤ 64 → IsOpen p → AllByRecursion (IsScript setup) scripts → c + length scripts ≤ caller_limit
    → ((q : Place) → IsOpen q → Accepts (at q setup.gigabytes (c + length scripts) t) rest) → Accepts (at p setup.gigabytes c t) (flat_map script_lines scripts ++ rest)
scripts_accepted setup p c t [] rest small o good few accepts = subst (λ (n : ℕ). Accepts (at p setup.gigabytes n t) rest) (add_zero c) (accepts p o)
scripts_accepted setup p c t (script.Agent asks ∷ scripts) rest small o good few accepts =
    let after_it = scripts_accepted setup places.InAgent (c + 1) t scripts rest small tt good.1 (omega arith) (λ q oq. subst (λ (n : ℕ). Accepts (at q setup.gigabytes n t) rest) (one_more c (length scripts)) (accepts q oq)) in (
      record { comes = agent_may p o; values = omega arith },
      subst (λ (z : List Line). Accepts (at places.InAgent setup.gigabytes (c + 1) t) z) (sym (append_assoc (map says.OneAsk asks) (flat_map script_lines scripts) rest))
          (asks_accepted setup.gigabytes (c + 1) t asks (flat_map script_lines scripts ++ rest) good.0 after_it),
    )
scripts_accepted setup p c t (script.Cpu looks ∷ scripts) rest small o good few accepts =
    let after_it = scripts_accepted setup places.InCpu (c + 1) t scripts rest small tt good.1 (omega arith) (λ q oq. subst (λ (n : ℕ). Accepts (at q setup.gigabytes n t) rest) (one_more c (length scripts)) (accepts q oq)) in (
      record { comes = cpu_may p o; values = omega arith },
      subst (λ (z : List Line). Accepts (at places.InCpu setup.gigabytes (c + 1) t) z) (sym (append_assoc (map says.OneLook looks) (flat_map script_lines scripts) rest))
          (looks_accepted setup.gigabytes (c + 1) t looks (flat_map script_lines scripts ++ rest) small good.0 after_it),
    )

slots_accepted : (p : Place) (g c t : ℕ) (slots : List Slot) → IsBody p → AllByRecursion (IsSlot c) slots → fold (λ n s. n + turns_of c s) t slots ≤ turn_limit → Accepts (at p g c t) (map says.OneSlot slots ++ says.End ∷ [])
slots_accepted p g c t [] b good few = (record { comes = end_may p b; values = tt }, refl)
slots_accepted p g c t (s ∷ slots) b good few =
    let grows = fold_grows c (t + turns_of c s) slots in
    (record { comes = slot_may s p b; values = (good.0, omega arith) }, slots_accepted places.Schedule g c (t + turns_of c s) slots tt good.1 few)

setup_small : (s : SetupData) → IsSetup s → s.gigabytes ≤ 64
setup_small s setup = elim setup.gigabytes [ inl e ↦ omega arith | inr e ↦ omega arith ]

-- the values of a setup's settings
abbrev values_of : SetupData → List ℕ
values_of s = 1 ∷ s.gigabytes ∷ max_count s.max ∷ s.lock_blocks ∷ s.first ∷ s.ring ∷ s.tables ∷ s.base ∷ []

max_fits : (m : MaxBlock) → IsAmong (0 ∷ 2 ∷ 32 ∷ 512 ∷ []) (max_count m)
max_fits most.Zero = inl refl
max_fits most.Two = inr (inl refl)
max_fits most.ThirtyTwo = inr (inr (inl refl))
max_fits most.FiveTwelve = inr (inr (inr refl))

setup_fits : (s : SetupData) → IsSetup s → s.base < 2 ^ 64 → Fits (map setting_kind all_settings) (values_of s)
setup_fits s w base =
    let first = w.first in
    let ring = w.ring_high in
    let tables = w.tables in (
      (refl, omega arith),
      (
        (w.gigabytes, among_fits (4 ∷ 64 ∷ []) s.gigabytes refl w.gigabytes),
        (
          (max_fits s.max, among_fits (0 ∷ 2 ∷ 32 ∷ 512 ∷ []) (max_count s.max) refl (max_fits s.max)),
          (
            (w.lock_blocks, among_fits (0 ∷ 1 ∷ 2 ∷ 4 ∷ 8 ∷ []) s.lock_blocks refl w.lock_blocks),
            (((omega arith, first), omega arith), (((w.ring_low, ring), omega arith), (((omega arith, tables), omega arith), ((tt, base), tt)))),
          ),
        ),
      ),
    )

pub accepts_lines : (s : Scenario) → WellFormed s → Accepts start (lines_of s)
accepts_lines s w =
    let g = s.setup.gigabytes in
    let n = length s.scripts in
    let slots : (q : Place) → IsOpen q → Accepts (at q g (0 + n) 0) (map says.OneSlot s.schedule ++ says.End ∷ []) =
    λ q o. subst (λ (k : ℕ). Accepts (at q g k 0) (map says.OneSlot s.schedule ++ says.End ∷ [])) (sym (zero_add n)) (slots_accepted q g n 0 s.schedule (body_open q o) w.slots w.turns) in
    let scripts = scripts_accepted s.setup places.Regions 0 0 s.scripts (map says.OneSlot s.schedule ++ says.End ∷ []) (setup_small s.setup w.setup) tt w.scripts (let h = w.callers in omega arith) slots in
    let regions = regions_accepted g 0 0 s.regions (flat_map script_lines s.scripts ++ (map says.OneSlot s.schedule ++ says.End ∷ [])) w.regions scripts in
    subst (λ (z : List Line). Accepts start z) (sym (lines_right s)) (heads_accepted 0 0 all_settings (values_of s.setup) _ all_follow (setup_fits s.setup w.setup w.base) regions)

-- ---- the lines of a scenario say all of it

take_regions : (d : DraftData) (rs : List Region) (rest : List Line) → taken_all d (map says.OneRegion rs ++ rest) ≡ taken_all (record d { regions = d.regions ++ rs }) rest
take_regions d [] rest = ap (λ (z : List Region). taken_all (record d { regions = z }) rest) (sym (append-nil d.regions))
take_regions d (r ∷ rs) rest =
    take_regions (record d { regions = d.regions ++ r ∷ [] }) rs rest ∙ ap (λ (z : List Region). taken_all (record d { regions = z }) rest) (append_assoc d.regions (r ∷ []) rs)

take_asks : (d : DraftData) (before asks : List Ask) (rest : List Line) → d.opened ≡ Some (script.Agent before) → taken_all d (map says.OneAsk asks ++ rest) ≡ taken_all (record d { opened = Some (script.Agent (before ++ asks)) }) rest
take_asks d before [] rest e = ap (λ (o : Option Script). taken_all (record d { opened = o }) rest) (e ∙ ap (λ (z : List Ask). Some (script.Agent z)) (sym (append-nil before)))
take_asks d before (a ∷ asks) rest e =
    take_asks (record d { opened = with_ask d.opened a }) (before ++ a ∷ []) asks rest (ap (λ (o : Option Script). with_ask o a) e)
    ∙ ap (λ (z : List Ask). taken_all (record d { opened = Some (script.Agent z) }) rest) (append_assoc before (a ∷ []) asks)

take_looks : (d : DraftData) (before looks : List Look) (rest : List Line) → d.opened ≡ Some (script.Cpu before) → taken_all d (map says.OneLook looks ++ rest) ≡ taken_all (record d { opened = Some (script.Cpu (before ++ looks)) }) rest
take_looks d before [] rest e = ap (λ (o : Option Script). taken_all (record d { opened = o }) rest) (e ∙ ap (λ (z : List Look). Some (script.Cpu z)) (sym (append-nil before)))
take_looks d before (a ∷ looks) rest e =
    take_looks (record d { opened = with_look d.opened a }) (before ++ a ∷ []) looks rest (ap (λ (o : Option Script). with_look o a) e)
    ∙ ap (λ (z : List Look). taken_all (record d { opened = Some (script.Cpu z) }) rest) (append_assoc before (a ∷ []) looks)

take_slots : (d : DraftData) (slots : List Slot) → taken_all d (map says.OneSlot slots ++ says.End ∷ []) ≡ record d { scripts = closed d.scripts d.opened; opened = None; schedule = d.schedule ++ slots }
take_slots d [] = ap (λ (z : List Slot). record d { scripts = closed d.scripts d.opened; opened = None; schedule = z }) (sym (append-nil d.schedule))
take_slots d (s ∷ slots) =
    take_slots (record d { scripts = closed d.scripts d.opened; opened = None; schedule = d.schedule ++ s ∷ [] }) slots
    ∙ ap (λ (z : List Slot). record d { scripts = closed d.scripts d.opened; opened = None; schedule = z }) (append_assoc d.schedule (s ∷ []) slots)

take_scripts : (d : DraftData) (scripts : List Script) (slots : List Slot)
    → taken_all d (flat_map script_lines scripts ++ (map says.OneSlot slots ++ says.End ∷ [])) ≡ record d { scripts = closed d.scripts d.opened ++ scripts; opened = None; schedule = d.schedule ++ slots }
take_scripts d [] slots = take_slots d slots ∙ ap (λ (z : List Script). record d { scripts = z; opened = None; schedule = d.schedule ++ slots }) (sym (append-nil (closed d.scripts d.opened)))
take_scripts d (script.Agent asks ∷ scripts) slots =
    let d1 : DraftData = record d { scripts = closed d.scripts d.opened; opened = Some (script.Agent []) } in
    let rest = map says.OneSlot slots ++ says.End ∷ [] in
    ap (taken_all d1) (append_assoc (map says.OneAsk asks) (flat_map script_lines scripts) rest)
    ∙ take_asks d1 [] asks (flat_map script_lines scripts ++ rest) refl
    ∙ take_scripts (record d1 { opened = Some (script.Agent asks) }) scripts slots
    ∙ ap (λ (z : List Script). record d { scripts = z; opened = None; schedule = d.schedule ++ slots }) (append_assoc (closed d.scripts d.opened) (script.Agent asks ∷ []) scripts)
take_scripts d (script.Cpu looks ∷ scripts) slots =
    let d1 : DraftData = record d { scripts = closed d.scripts d.opened; opened = Some (script.Cpu []) } in
    let rest = map says.OneSlot slots ++ says.End ∷ [] in
    ap (taken_all d1) (append_assoc (map says.OneLook looks) (flat_map script_lines scripts) rest)
    ∙ take_looks d1 [] looks (flat_map script_lines scripts ++ rest) refl
    ∙ take_scripts (record d1 { opened = Some (script.Cpu looks) }) scripts slots
    ∙ ap (λ (z : List Script). record d { scripts = z; opened = None; schedule = d.schedule ++ slots }) (append_assoc (closed d.scripts d.opened) (script.Cpu looks ∷ []) scripts)

max_same : (m : MaxBlock) → max_of (max_count m) ≡ m
max_same most.Zero = refl
max_same m = refl

pub take_lines : (s : Scenario) → scenario_of (taken_all nothing_read (lines_of s)) ≡ s
take_lines s =
    let d : DraftData = record nothing_read { setup = s.setup } in
    let rest = map says.OneSlot s.schedule ++ says.End ∷ [] in
    let body = map says.OneRegion s.regions ++ (flat_map script_lines s.scripts ++ rest) in
    ap (λ (z : List Line). scenario_of (taken_all nothing_read z)) (lines_right s)
    ∙ ap (λ (m : MaxBlock). scenario_of (taken_all (record d { setup = record (s.setup) { max = m } }) body)) (max_same s.setup.max)
    ∙ ap scenario_of (take_regions d s.regions (flat_map script_lines s.scripts ++ rest))
    ∙ ap scenario_of (take_scripts (record d { regions = s.regions }) s.scripts s.schedule)

pub same_scenario : (s t : Scenario) → lines_of s ≡ lines_of t → s ≡ t
same_scenario s t e = sym (take_lines s) ∙ ap (λ (z : List Line). scenario_of (taken_all nothing_read z)) e ∙ take_lines t
