-- The lines of each word: what is read of a line is how the line is spelled and may come next, a line that may come
-- next is read from its own fields, and the fault of a line is the one that reading meets. Rows do the work: a word
-- gives one line of said, and a line one of spoken.
use Rattle.std.proofs.Common.{◌≡◌, ℕ, ◌+◌, ◌*◌, ◌^◌, ◌<◌, ◌≤◌, Bool, true, false, cond, List, [], ◌∷◌, length, get_or, drop, Option, Some, None, Result, Ok, Err, refl, sym, ap, subst, ◌∙◌, arith, inl, inr}
use Rattle.std.specs.Prelude.{◌==◌, ◌&&◌, nat_lt, nat_le, codes, unwrap_or, IfSome, IfNone}
use Rattle.std.specs.Result.{result_err}
use Rattle.std.specs.List.{find}
use Rattle.std.specs.Option.{option_or, option_map}
use Rattle.std.specs.Str.{bytes_eq}
use Rattle.std.proofs.lemmas.Bool.{cases_Bool, cases_eq, ltb-false, leb-false, le-ltb, lt-leb}
use Rattle.std.proofs.lemmas.Option.{same_Some}
use Rattle.std.proofs.lemmas.Slice.Eq.{bytes_eq-Decides}
use Rattle.gpi_values.specs.declared.gpi.Gpi.{Gpi}
use Rattle.gpi_values.specs.declared.gpi.Gpi.TheVariants as gpi
use Rattle.gpi_values.specs.declared.gpi.Space.{Space}
use Rattle.gpi_values.specs.declared.gpi.Space.TheVariants as space
use Rattle.gpi_values.specs.declared.security.Source.{Source}
use Rattle.gpi_values.specs.declared.security.Source.TheVariants as source
use Rattle.gpi_values.specs.declared.security.World.{World}
use Rattle.gpi_values.specs.declared.security.World.TheVariants as world
use Rattle.gpi_values.specs.Names.{name_of, space_name_of, source_name_of, world_name_of}
use Rattle.line_text.specs.declared.kind.RowFault.{RowFault}
use Rattle.line_text.specs.Rows.{row_fault}
use Rattle.line_text.specs.InnerRows.{◌>>=◌, Fits, spell, spell_field, padded, ok_padded, read_row}
use Rattle.line_text.proofs.Steps.{chosen, ok_same}
use Rattle.line_text.proofs.NumeralLemmas.{count_again}
use Rattle.line_text.proofs.LineLemmas.{IsPlainLine}
use Rattle.line_text.proofs.RowLemmas.{are_kinds, IsPlainField, plain_field, row_reported, row_spelled, row_again, row_plain, ForRow, each_row, name_of_place}
use Rattle.region_plan.specs.declared.region.Kind.{Kind}
use Rattle.region_plan.specs.declared.region.Kind.TheVariants as kind
use Rattle.scenario_text.specs.declared.line.Line.{Line}
use Rattle.scenario_text.specs.declared.line.Line.TheVariants as says
use Rattle.scenario_text.specs.declared.scenario.Ask.TheVariants as ask
use Rattle.scenario_text.specs.declared.scenario.Slot.TheVariants as slot
use Rattle.scenario_text.specs.declared.scenario.Fault.{Fault}
use Rattle.scenario_text.specs.declared.scenario.Fault.TheVariants as fault
use Rattle.scenario_text.specs.declared.context.Place.{Place}
use Rattle.scenario_text.specs.declared.context.Place.TheVariants as places
use Rattle.scenario_text.specs.declared.context.Context.{Context}
use Rattle.scenario_text.specs.declared.word.Setting.{Setting}
use Rattle.scenario_text.specs.declared.word.Setting.TheVariants as setting
use Rattle.scenario_text.specs.declared.word.Word.{Word}
use Rattle.scenario_text.specs.declared.word.Word.TheVariants as word
use Rattle.scenario_text.specs.Spelling.{count, address, setting_value, kind_name, fields_of, caller_limit, turn_limit, turns_of, IsSlot}
use Rattle.scenario_text.specs.Faults.{word_text, all_words, word_of, may_come, setting_kind, kinds_of, number_of, line_turns, is_caller, fault_of, known_word_fault, line_fault, after_line, is_ended}
use Rattle.scenario_text.specs.InnerReading.{all_gpis, all_spaces, all_sources, all_worlds, all_kinds, monitor_call, line_with, in_turns, or_fault, read_values, read_word, read_known, read_fields, read_line, InLimits, word_for, InRange, Next, place_after, gigabytes_after, callers_after, after}

-- ---- words

pub word_names : (w : Word) → word_of (word_text w) ≡ Some w
unfolding word_of
word_names (word.Setting setting.Gpt) = refl
word_names w = refl

word_plain : (w : Word) → IsPlainField (word_text w)
word_plain (word.Setting setting.Gpt) = plain_field (codes "gpt") refl
word_plain w = plain_field (word_text w) refl

found : (field : List ℕ) (words : List Word) (w : Word) → find (λ w. bytes_eq field (word_text w)) words ≡ Some w → field ≡ word_text w
found field [] w e = absurd cc
found field (x ∷ xs) w e =
    elim (chosen (bytes_eq field (word_text x)) (Some x) (find (λ w. bytes_eq field (word_text w)) xs) (Some w) e) [
      | inl t ↦ (bytes_eq-Decides field (word_text x)).0 t.0 ∙ ap word_text (same_Some x w t.1)
      | inr f ↦ found field xs w f.1
    ]

word_found : (field : List ℕ) (w : Word) → word_of field ≡ Some w → field ≡ word_text w
unfolding word_of
word_found field w e = found field all_words w e

-- what spells a word, if something does, is the word that a field is
pub word_spells : (field : List ℕ) (o : Option Word) → IfSome o (λ w. field ≡ word_text w) → IfNone o ((w : Word) → field ≡ word_text w → ⊥) → o ≡ word_of field
word_spells field (Some w) is none = sym (ap word_of is ∙ word_names w)
word_spells field None is none = none_is (word_of field) (λ w e. none w (word_found field w e))
  where
    none_is : (o : Option Word) → ((w : Word) → o ≡ Some w → ⊥) → None ≡ o
    none_is None h = refl
    none_is (Some w) h = absurd (h w refl)

-- ---- names and their places

abbrev Placed : {A : Type 0} → List A → A → A → Type 0
Placed all d x = (n : ℕ) × (n < length all) × (get_or all n d ≡ x)

gpi_placed : (x : Gpi) → Placed all_gpis gpi.NoAccess x
gpi_placed gpi.NoAccess = (0, omega arith, refl)
gpi_placed gpi.Secure = (1, omega arith, refl)
gpi_placed gpi.NonSecure = (2, omega arith, refl)
gpi_placed gpi.Root = (3, omega arith, refl)
gpi_placed gpi.Realm = (4, omega arith, refl)
gpi_placed gpi.Any = (5, omega arith, refl)

space_placed : (x : Space) → Placed all_spaces space.Secure x
space_placed space.Secure = (0, omega arith, refl)
space_placed space.NonSecure = (1, omega arith, refl)
space_placed space.Root = (2, omega arith, refl)
space_placed space.Realm = (3, omega arith, refl)

source_placed : (x : Source) → Placed all_sources source.Realm x
source_placed source.Realm = (0, omega arith, refl)
source_placed source.Secure = (1, omega arith, refl)

world_placed : (x : World) → Placed all_worlds world.Realm x
world_placed world.Realm = (0, omega arith, refl)
world_placed world.Secure = (1, omega arith, refl)
world_placed world.NonSecure = (2, omega arith, refl)

kind_placed : (x : Kind) → Placed all_kinds kind.Block x
kind_placed kind.Block = (0, omega arith, refl)
kind_placed kind.Granule = (1, omega arith, refl)

-- ---- what each word's line says

-- the values that a line may have, if its turns have room
abbrev IsGood : Context → Line → Type 0
IsGood st (says.OneSlot s) = IsSlot st.callers s
IsGood st l = InRange st l

abbrev HasRoom : Context → Line → Type 0
HasRoom st (says.OneSlot s) = st.turns + turns_of st.callers s ≤ turn_limit
HasRoom st l = Unit {0}

in_range : (st : Context) (l : Line) → IsGood st l → HasRoom st l → InRange st l
in_range st (says.OneSlot s) good room = (good, room)
in_range st l good room = good

record Said (st : Context) (w : Word) (vs : List ℕ) : Type 0 where
  fields : word_text w ∷ spell (kinds_of st w) vs ≡ fields_of (line_with w (padded 4 vs))
  good : (is_caller w ≡ true → st.callers < caller_limit) → IsGood st (line_with w (padded 4 vs))

setting_said : (s : Setting) (n : ℕ) → spell_field (setting_kind s) n ≡ setting_value s n
setting_said setting.Base n = refl
setting_said s n = refl

smc_said : (st : Context) (v pa w : ℕ) → v < 2 → pa < 2 ^ 64 → w < length all_worlds → Said st word.Smc (v ∷ pa ∷ w ∷ [])
smc_said st v pa w hv h hw =
    let name = name_of_place world_name_of all_worlds w world.Realm hw in
    elim (cases_eq v 0) [
      | inl e ↦ subst (λ (v : ℕ). Said st word.Smc (v ∷ pa ∷ w ∷ [])) (sym e) (record { fields = λ i. codes "smc" ∷ codes "delegate" ∷ address pa ∷ name i ∷ []; good = λ r. h })
      | inr ne ↦
          let e : 1 ≡ v = omega arith in
          subst (λ (v : ℕ). Said st word.Smc (v ∷ pa ∷ w ∷ [])) e (record { fields = λ i. codes "smc" ∷ codes "undelegate" ∷ address pa ∷ name i ∷ []; good = λ r. h })
    ]

said : (st : Context) (w : Word) → ForRow (kinds_of st w) (Said st w)
said st (word.Setting s) = λ n h. record { fields = ap (λ (f : List ℕ). word_text (word.Setting s) ∷ f ∷ []) (setting_said s n); good = λ r. h }
said st word.Region = λ b hb z hz k hk g hg. record {
  fields = λ i. codes "region" ∷ address b ∷ address z ∷ name_of_place kind_name all_kinds k kind.Block hk i ∷ name_of_place name_of all_gpis g gpi.NoAccess hg i ∷ [];
  good = λ r. (hb.1, hz.1);
}
said st word.Agent = record { fields = refl; good = λ r. r refl }
said st word.Delegate = λ pa h s hs. record { fields = λ i. codes "delegate" ∷ address pa ∷ name_of_place source_name_of all_sources s source.Realm hs i ∷ []; good = λ r. h.1 }
said st word.Undelegate = λ pa h s hs. record { fields = λ i. codes "undelegate" ∷ address pa ∷ name_of_place source_name_of all_sources s source.Realm hs i ∷ []; good = λ r. h.1 }
said st word.Smc = λ v hv pa h w hw. smc_said st v pa w hv h.1 hw
said st word.Cpu = record { fields = refl; good = λ r. r refl }
said st word.Look = λ pa h s hs. record { fields = λ i. codes "look" ∷ address pa ∷ name_of_place space_name_of all_spaces s space.Secure hs i ∷ []; good = λ r. h }
said st word.Turn = λ c hc n hn. record { fields = refl; good = λ r. (hc.0, hn.0.0, hn.0.1) }
said st word.Round = λ n hn t ht. record { fields = refl; good = λ r. (hn.0.0, hn.0.1, ht.0.0, ht.0.1) }
said st word.End = record { fields = refl; good = λ r. tt }

said_of : (st : Context) (w : Word) (vs : List ℕ) → Fits (kinds_of st w) vs → Said st w vs
said_of st w vs fits = each_row (kinds_of st w) (Said st w) (said st w) vs fits

smc_is : (v pa : ℕ) (w : World) → word_for (says.OneAsk (monitor_call v pa w)) ≡ word.Smc
smc_is v pa w = elim (cases_Bool (v == 0)) [ inl t ↦ rw t refl | inr f ↦ rw f refl ]

word_is : (w : Word) (vs : List ℕ) → word_for (line_with w vs) ≡ w
word_is word.Smc vs = smc_is (get_or vs 0 0) (get_or vs 1 0) (get_or all_worlds (get_or vs 2 0) world.Realm)
word_is w vs = refl

-- ---- what each line says

record Spoken (st : Context) (l : Line) : Type 0 where
  values : List ℕ
  fits : Fits (kinds_of st (word_for l)) values
  back : line_with (word_for l) (padded 4 values) ≡ l

spoken : (st : Context) → InLimits st → (l : Line) → InRange st l → Spoken st l
spoken st limits (says.OneSetting s n) v = record { values = n ∷ []; fits = (v, tt); back = refl }
spoken st limits (says.OneRegion r) v =
    let k = kind_placed r.kind in
    let g = gpi_placed r.gpi in
    record {
      values = r.base ∷ r.size ∷ k.0 ∷ g.0 ∷ [];
      fits = ((tt, v.0), ((tt, v.1), (k.1, (g.1, tt))));
      back = λ i. says.OneRegion (record { base = r.base; size = r.size; kind = k.2 i; gpi = g.2 i });
    }
spoken st limits says.NewAgent v = record { values = []; fits = tt; back = refl }
spoken st limits says.NewCpu v = record { values = []; fits = tt; back = refl }
spoken st limits (says.OneAsk (ask.Delegate pa s)) v =
    let n = source_placed s in record { values = pa ∷ n.0 ∷ []; fits = ((tt, v), (n.1, tt)); back = λ i. says.OneAsk (ask.Delegate pa (n.2 i)) }
spoken st limits (says.OneAsk (ask.Undelegate pa s)) v =
    let n = source_placed s in record { values = pa ∷ n.0 ∷ []; fits = ((tt, v), (n.1, tt)); back = λ i. says.OneAsk (ask.Undelegate pa (n.2 i)) }
spoken st limits (says.OneAsk (ask.SmcDelegate pa w)) v =
    let n = world_placed w in record { values = 0 ∷ pa ∷ n.0 ∷ []; fits = (omega arith, ((tt, v), (n.1, tt))); back = λ i. says.OneAsk (ask.SmcDelegate pa (n.2 i)) }
spoken st limits (says.OneAsk (ask.SmcUndelegate pa w)) v =
    let n = world_placed w in record { values = 1 ∷ pa ∷ n.0 ∷ []; fits = (omega arith, ((tt, v), (n.1, tt))); back = λ i. says.OneAsk (ask.SmcUndelegate pa (n.2 i)) }
spoken st limits (says.OneLook l) v =
    let n = space_placed l.space in record { values = l.pa ∷ n.0 ∷ []; fits = (v, (n.1, tt)); back = λ i. says.OneLook (record { pa = l.pa; space = n.2 i }) }
spoken st limits (says.OneSlot (slot.Turn c n)) v =
    let few = limits.callers in
    let below = v.0.0 in
    let high = v.0.2 in
    record { values = c ∷ n ∷ []; fits = ((below, omega arith), (((v.0.1, high), omega arith), tt)); back = refl }
spoken st limits (says.OneSlot (slot.Round n t)) v =
    let high = v.0.1 in
    let last = v.0.3 in
    record { values = n ∷ t ∷ []; fits = (((v.0.0, high), omega arith), (((v.0.2, last), omega arith), tt)); back = refl }
spoken st limits says.End v = record { values = []; fits = tt; back = refl }

fields_are : (st : Context) (l : Line) (s : Spoken st l) → fields_of l ≡ word_text (word_for l) ∷ spell (kinds_of st (word_for l)) s.values
fields_are st l s = sym (ap fields_of s.back) ∙ sym (said_of st (word_for l) s.values s.fits).fields

-- ---- lines are plain

good_kinds : (st : Context) (w : Word) → are_kinds (kinds_of st w) ≡ true
good_kinds st (word.Setting setting.Gpt) = refl
good_kinds st w = refl

-- each field of a line that may come next is plain
pub line_plain : (st : Context) → InLimits st → (l : Line) → InRange st l → IsPlainLine (fields_of l)
line_plain st limits l v =
    let s = spoken st limits l v in
    subst (λ (fs : List (List ℕ)). IsPlainLine fs) (sym (fields_are st l s))
    (omega arith, (word_plain (word_for l), row_plain (kinds_of st (word_for l)) s.values (good_kinds st (word_for l)) s.fits))

-- ---- what is read is spelled so

row_ok : (r : Result (List ℕ) RowFault) (g : List ℕ → Result Line Fault) (l : Line) → (or_fault (ok_padded r) >>= g) ≡ Ok l → (vs : List ℕ) × (r ≡ Ok vs) × (g (padded 4 vs) ≡ Ok l)
row_ok (Ok vs) g l e = (vs, refl, e)
row_ok (Err f) g l e = absurd cc

turns_ok : (st : Context) (m l : Line) → in_turns st m ≡ Ok l → (m ≡ l) × HasRoom st m
turns_ok st (says.OneSlot s) l e =
    elim (chosen (nat_lt turn_limit (st.turns + turns_of st.callers s)) (Err fault.Limit) (Ok (says.OneSlot s)) (Ok l) e) [
      | inl t ↦ absurd (let wrong = t.1 in cc)
      | inr f ↦ (ok_same {E = Fault} (says.OneSlot s) l f.1, ltb-false turn_limit (st.turns + turns_of st.callers s) f.0)
    ]
turns_ok st m l e = (ok_same {E = Fault} m l e, tt)

caller_few : (b : Bool) (st : Context) → (b && nat_le caller_limit st.callers) ≡ false → b ≡ true → st.callers < caller_limit
caller_few true st f t = leb-false caller_limit st.callers f
caller_few false st f t = absurd cc

record Spelled (st : Context) (w : Word) (fields : List (List ℕ)) (l : Line) : Type 0 where
  spelled : word_text w ∷ fields ≡ fields_of l
  word : word_for l ≡ w
  values : InRange st l

word_spelled : (st : Context) (w : Word) (fields : List (List ℕ)) (l : Line) → read_word st w fields ≡ Ok l → Spelled st w fields l
unfolding read_word
word_spelled st w fields l e =
    elim (chosen (is_caller w && nat_le caller_limit st.callers) (Err fault.Limit) (read_values st w fields) (Ok l) e) [
      | inl t ↦ absurd (let wrong = t.1 in cc)
      | inr f ↦
          let r = row_ok (read_row (kinds_of st w) fields) (λ vs. in_turns st (line_with w vs)) l f.1 in
          let row = row_spelled (kinds_of st w) fields r.0 r.1 in
          let s = said_of st w r.0 row.1 in
          let t = turns_ok st (line_with w (padded 4 r.0)) l r.2 in
          subst (λ (l : Line). Spelled st w fields l) t.0 (record {
            spelled = ap (λ (fs : List (List ℕ)). word_text w ∷ fs) row.0 ∙ s.fields;
            word = word_is w (padded 4 r.0);
            values = in_range st (line_with w (padded 4 r.0)) (s.good (caller_few (is_caller w) st f.0)) t.1;
          })
    ]

known_spelled : (st : Context) (first : List ℕ) (o : Option Word) (fields : List (List ℕ)) (l : Line) → word_of first ≡ o → read_known st o fields ≡ Ok l → (first ∷ fields ≡ fields_of l) × Next st l
known_spelled st first None fields l o e = absurd cc
known_spelled st first (Some w) fields l o e =
    elim (chosen (may_come st.place w) (read_word st w fields) (Err fault.Word) (Ok l) e) [
      | inr f ↦ absurd (let wrong = f.1 in cc)
      | inl t ↦
          let s = word_spelled st w fields l t.1 in
          (ap (λ (x : List ℕ). x ∷ fields) (word_found first w o) ∙ s.spelled, record { comes = ap (may_come st.place) s.word ∙ t.0; values = s.values })
    ]

fields_spelled : (st : Context) (fields : List (List ℕ)) (l : Line) → read_fields st fields ≡ Ok l → (fields ≡ fields_of l) × Next st l
fields_spelled st [] l e = absurd cc
fields_spelled st (first ∷ fields) l e = known_spelled st first (word_of first) fields l refl e

-- a line that is read is spelled so, and may come here
pub line_spelled : (st : Context) (fields : List (List ℕ)) (l : Line) → read_line st fields ≡ Ok l → (fields ≡ fields_of l) × Next st l
unfolding read_line
line_spelled st fields l e =
    elim (chosen (is_ended st.place) (Err fault.After) (read_fields st fields) (Ok l) e) [
      | inl t ↦ absurd (let wrong = t.1 in cc)
      | inr f ↦ fields_spelled st fields l f.1
    ]

-- ---- a line that may come next is read

callers_room : (st : Context) (l : Line) → InRange st l → (is_caller (word_for l) && nat_le caller_limit st.callers) ≡ false
callers_room st says.NewAgent v = lt-leb caller_limit st.callers v
callers_room st says.NewCpu v = lt-leb caller_limit st.callers v
callers_room st (says.OneAsk (ask.Delegate pa s)) v = refl
callers_room st (says.OneSlot (slot.Turn c n)) v = refl
callers_room st l v = refl

turns_again : (st : Context) (l : Line) → InRange st l → in_turns st l ≡ Ok l
turns_again st (says.OneSlot s) v = rw (le-ltb turn_limit (st.turns + turns_of st.callers s) v.1) refl
turns_again st l v = refl

word_again : (st : Context) (l : Line) (s : Spoken st l) → InRange st l → read_word st (word_for l) (spell (kinds_of st (word_for l)) s.values) ≡ Ok l
unfolding read_word
word_again st l s v =
    rw (callers_room st l v, row_again (kinds_of st (word_for l)) s.values (good_kinds st (word_for l)) s.fits) (ap (in_turns st) s.back ∙ turns_again st l v)

not_ended : (p : Place) (w : Word) → may_come p w ≡ true → is_ended p ≡ false
not_ended places.Ended w e = absurd cc
not_ended p w e = refl

read_again : (st : Context) (w : Word) (fields : List (List ℕ)) (l : Line) → may_come st.place w ≡ true → read_word st w fields ≡ Ok l → read_line st (word_text w ∷ fields) ≡ Ok l
unfolding read_line
read_again st w fields l e read = rw (not_ended st.place w e, word_names w, e) read

pub line_again : (st : Context) → InLimits st → (l : Line) → Next st l → read_line st (fields_of l) ≡ Ok l
line_again st limits l nx =
    let s = spoken st limits l nx.values in
    ap (read_line st) (fields_are st l s) ∙ read_again st (word_for l) (spell (kinds_of st (word_for l)) s.values) l nx.comes (word_again st l s nx.values)

-- ---- faults

number_again : (n : ℕ) → n < 2 ^ 64 → number_of (count n) ≡ n
number_again n lt = ap (λ (o : Option ℕ). unwrap_or o 0) (count_again n lt)

-- the turns that a line takes
abbrev turns_said : Context → Line → ℕ
turns_said st (says.OneSlot s) = turns_of st.callers s
turns_said st l = 0

turns_are : (st : Context) (l : Line) → IsGood st l → line_turns st (word_for l) (drop 1 (fields_of l)) ≡ turns_said st l
turns_are st (says.OneSlot (slot.Turn c n)) good = number_again n (let high = good.2 in omega arith)
turns_are st (says.OneSlot (slot.Round n t)) good =
    let high = good.1 in
    let last = good.3 in
    let n_is = number_again n (omega arith) in
    let t_is = number_again t (omega arith) in
    λ i. n_is i * t_is i * st.callers
turns_are st (says.OneAsk (ask.Delegate pa s)) good = refl
turns_are st l good = refl

abbrev turns_fault : ℕ → Option Fault
turns_fault n = cond (nat_lt turn_limit n) (Some fault.Limit) None

turns_reported : (st : Context) → InLimits st → (l : Line) → result_err (in_turns st l) ≡ turns_fault (st.turns + turns_said st l)
turns_reported st limits (says.OneSlot s) = elim (cases_Bool (nat_lt turn_limit (st.turns + turns_of st.callers s))) [ inl t ↦ rw t refl | inr f ↦ rw f refl ]
turns_reported st limits l = let few = limits.turns in rw (le-ltb turn_limit (st.turns + 0) (omega arith)) refl

values_reported : (st : Context) → InLimits st → (w : Word) (fields : List (List ℕ)) → (is_caller w && nat_le caller_limit st.callers) ≡ false → (r : Result (List ℕ) RowFault) → read_row (kinds_of st w) fields ≡ r
    → result_err (read_values st w fields) ≡ option_or (option_map fault_of (row_fault (kinds_of st w) fields)) (turns_fault (st.turns + line_turns st w fields))
values_reported st limits w fields few (Err f) e = rw (e, sym (row_reported (kinds_of st w) fields) ∙ ap result_err e) refl
values_reported st limits w fields few (Ok vs) e =
    let row = row_spelled (kinds_of st w) fields vs e in
    let s = said_of st w vs row.1 in
    let l = line_with w (padded 4 vs) in
    let rest : drop 1 (fields_of l) ≡ fields = ap (drop 1) (sym (ap (λ (fs : List (List ℕ)). word_text w ∷ fs) row.0 ∙ s.fields)) in
    let reported : result_err (in_turns st l) ≡ turns_fault (st.turns + line_turns st w fields) =
    turns_reported st limits l
    ∙ ap (λ (k : ℕ). turns_fault (st.turns + k)) (sym (turns_are st l (s.good (caller_few (is_caller w) st few))))
    ∙ (λ i. turns_fault (st.turns + line_turns st (word_is w (padded 4 vs) i) (rest i))) in
    rw (e, sym (row_reported (kinds_of st w) fields) ∙ ap result_err e) reported

word_reported : (st : Context) → InLimits st → (w : Word) (fields : List (List ℕ)) → result_err (read_word st w fields)
    ≡ cond (is_caller w && nat_le caller_limit st.callers) (Some fault.Limit) (option_or (option_map fault_of (row_fault (kinds_of st w) fields)) (turns_fault (st.turns + line_turns st w fields)))
unfolding read_word
word_reported st limits w fields =
    elim (cases_Bool (is_caller w && nat_le caller_limit st.callers)) [
      | inl t ↦ rw t refl
      | inr f ↦ rw f (values_reported st limits w fields f (read_row (kinds_of st w) fields) refl)
    ]

known_reported : (st : Context) → InLimits st → (o : Option Word) (fields : List (List ℕ)) → result_err (read_known st o fields) ≡ known_word_fault st o fields
known_reported st limits None fields = refl
known_reported st limits (Some w) fields =
    elim (cases_Bool (may_come st.place w)) [
      | inl t ↦ rw t (word_reported st limits w fields)
      | inr f ↦ rw f refl
    ]

-- the fault of a line is the one that reading meets
pub line_reported : (st : Context) → InLimits st → (fields : List (List ℕ)) → is_ended st.place ≡ false → result_err (read_line st fields) ≡ line_fault st fields
unfolding read_line line_fault
line_reported st limits [] e = rw e refl
line_reported st limits (first ∷ fields) e = rw e (known_reported st limits (word_of first) fields)

-- ---- the context after a line

add_zero : (n : ℕ) → n + 0 ≡ n
add_zero n = omega arith

pub after_again : (st : Context) → InLimits st → (l : Line) → Next st l → after_line st (fields_of l) ≡ after st l
unfolding after_line word_of
after_again st limits (says.OneSetting setting.Space n) nx =
    let n_is = number_again n nx.values.1 in
    let turns = add_zero st.turns in
    λ i. record { place = places.Head 2; gigabytes = n_is i; callers = st.callers; turns = turns i }
after_again st limits (says.OneSlot (slot.Turn c n)) nx =
    let turns = turns_are st (says.OneSlot (slot.Turn c n)) nx.values.0 in
    λ i. record { place = places.Schedule; gigabytes = st.gigabytes; callers = st.callers; turns = st.turns + turns i }
after_again st limits (says.OneSlot (slot.Round n t)) nx =
    let turns = turns_are st (says.OneSlot (slot.Round n t)) nx.values.0 in
    λ i. record { place = places.Schedule; gigabytes = st.gigabytes; callers = st.callers; turns = st.turns + turns i }
after_again st limits (says.OneAsk (ask.Delegate pa s)) nx =
    let turns = add_zero st.turns in
    λ i. record { place = places.InAgent; gigabytes = st.gigabytes; callers = st.callers; turns = turns i }
after_again st limits l nx =
    let turns = add_zero st.turns in
    λ i. record { place = place_after l; gigabytes = gigabytes_after st l; callers = callers_after st l; turns = turns i }
