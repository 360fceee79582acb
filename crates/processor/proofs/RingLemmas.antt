-- The answers of a processor are those of its ring: the walks that it keeps are the last ones that its
-- answers name.
use Rattle.std.proofs.Common.{◌≡◌, ℕ, zero, suc, ◌+◌, ◌-◌, ◌++◌, ◌∷◌, [], List, Bool, true, false, Option, Some, None, map, drop, refl, sym, ap, ◌∙◌, subst, append-nil, inl, inr}
use Rattle.std.specs.Option.{option_map}
use Rattle.std.proofs.lemmas.List.{map-append}
use Rattle.gpi_values.specs.declared.gpi.Gpi.{Gpi}
use Rattle.gpi_values.specs.declared.gpi.Space.{Space}
use Rattle.gpt_descriptors.specs.declared.size.Reach.{Reach}
use Rattle.gpt_descriptors.specs.declared.size.Generations.{Generations}
use Rattle.gpt_descriptors.specs.Sizes.{tag_size_of, generation_in}
use Rattle.gpt_descriptors.specs.Entries.{word_reach}
use Rattle.gpt_descriptors.specs.Places.{GeometryData, block_gpi_of}
use Rattle.walk_cache.specs.declared.walk.Walk.{Walk}
use Rattle.walk_cache.specs.Rings.{first_around, covers_from, newest_by, newest_of, last_of}
use Rattle.walk_cache.proofs.RingLemmas.{last_again, last_map, newest_map}
use Rattle.history.specs.declared.call.Task.{Task}
use Rattle.history.specs.declared.call.Task.TheVariants as task
use Rattle.history.specs.declared.call.Access.{Access}
use Rattle.history.specs.declared.call.Answer.{Answer}
use Rattle.history.specs.declared.call.OldWalk.{OldWalk}
use Rattle.history.specs.declared.call.Via.{Via}
use Rattle.history.specs.declared.call.Via.TheVariants as via
use Rattle.history.specs.declared.rings.Named.{Named}
use Rattle.history.specs.Events.{CallEvent}
use Rattle.history.specs.Rings.{named_via, named_in, IsFoundBy, RingSays, IsRinged, AreRinged}
use Rattle.history.specs.Stamps.{walked}
use Rattle.processor.specs.Accesses.{walk_with}
use Rattle.processor.specs.Script.{Hits, Walks, IsMissed, Decides, IsLook, IsCall, AreCallEvents, Follows}
use Rattle.processor.specs.InnerCpus.{CpuData}
use Rattle.processor.specs.InnerScript.{HasWalked}

-- what an answer names of a walk
abbrev pub name_of : Walk → Named
name_of w = record { reach = w.reach; first = w.first; tag = w.tag }

-- these walks are the last ones that answers name
abbrev pub AreLast : ℕ → List Walk → List Named → Type 0
AreLast ring kept walks = map name_of kept ≡ last_of ring walks

-- what is found among the named walks
named_newest : (ring : ℕ) (kept : List Walk) (walks : List Named) (pa : ℕ) → AreLast ring kept walks
    → newest_by (λ walk. covers_from walk.reach walk.first pa) (last_of ring walks) ≡ option_map name_of (newest_of kept pa)
named_newest ring kept walks pa last =
    let covers : Named → Bool = λ walk. covers_from walk.reach walk.first pa in
    ap (λ (l : List Named). newest_by covers l) (sym last) ∙ newest_map name_of covers kept

says_by : (ring : ℕ) (kept : List Walk) (walks : List Named) (pa : ℕ) (v : Via) → AreLast ring kept walks → IsFoundBy (option_map name_of (newest_of kept pa)) v → RingSays walks ring pa v
says_by ring kept walks pa v last found = subst (λ (o : Option Named). IsFoundBy o v) (sym (named_newest ring kept walks pa last)) found

-- no walk is named
unnamed : (ring : ℕ) (kept : List Walk) (walks : List Named) → AreLast ring kept walks → AreLast ring kept (walks ++ [])
unnamed ring kept walks last = last ∙ ap (λ (l : List Named). last_of ring l) (sym (append-nil walks))

-- the walk that is noted is named
noted_last : (ring : ℕ) (kept : List Walk) (w : Walk) (walks : List Named) → AreLast ring kept walks → AreLast ring (last_of ring (kept ++ w ∷ [])) (walks ++ name_of w ∷ [])
noted_last ring kept w walks last =
    last_map name_of ring (kept ++ w ∷ [])
    ∙ ap (λ (l : List Named). last_of ring l) (map-append name_of kept (w ∷ []) ∙ ap (λ (l : List Named). l ++ name_of w ∷ []) last)
    ∙ last_again ring walks (name_of w ∷ [])

made_first : (pa : ℕ) (k : Generations) (word : ℕ) (o : Option Reach) (w : Walk) → walk_with o pa k word ≡ Some w → w.first ≡ first_around w.reach pa
made_first pa k word None w made = absurd cc
made_first pa k word (Some r) w made =
    let same : record { reach = r; first = first_around r pa; word = word; tag = generation_in (tag_size_of r) k } ≡ w = cc in
    subst (λ (x : Walk). x.first ≡ first_around x.reach pa) same refl

walked_named : (pa : ℕ) (m : Option OldWalk) (w : Walk) (hi : ℕ) → w.first ≡ first_around w.reach pa → named_via pa (walked m w.reach w.tag hi) ≡ name_of w ∷ []
walked_named pa None w hi first = ap (λ (n : ℕ). record { reach = w.reach; first = n; tag = w.tag } ∷ []) (sym first)
walked_named pa (Some old) w hi first = ap (λ (n : ℕ). record { reach = w.reach; first = n; tag = w.tag } ∷ []) (sym first)

walked_found : (o : Option Walk) (m : Option OldWalk) (reach : Reach) (lo hi : ℕ) → IsMissed o m → IsFoundBy (option_map name_of o) (walked m reach lo hi)
walked_found None None reach lo hi missed = tt
walked_found (Some w) (Some old) reach lo hi missed = missed
walked_found None (Some old) reach lo hi missed = absurd missed
walked_found (Some w) None reach lo hi missed = absurd missed

-- ---- one call

record Ringed (ring pa : ℕ) (walks : List Named) (v : Via) (later : List Walk) : Type 0 where
  says : RingSays walks ring pa v
  last : AreLast ring later (walks ++ named_via pa v)

hits_ringed : (g : GeometryData) (p c n pa : ℕ) (space : Space) (kept : List Walk) (a : Access) (events : List CallEvent) (walks : List Named) → AreLast g.setup.ring kept walks
    → Hits g p c n pa space kept a events → Ringed g.setup.ring pa walks a.via kept
hits_ringed g p c n pa space kept a events walks last hits =
    let v : Via = via.Hit hits.walk.reach hits.walk.tag in
    let found : IsFoundBy (option_map name_of (newest_of kept pa)) v = subst (λ (o : Option Walk). IsFoundBy (option_map name_of o) v) (sym hits.newest) (refl, refl) in
    subst (λ (x : Access). Ringed g.setup.ring pa walks x.via kept) (sym hits.is)
    (record { says = says_by g.setup.ring kept walks pa v last found; last = unnamed g.setup.ring kept walks last })

walks_ringed : (g : GeometryData) (p c n pa : ℕ) (space : Space) (kept : List Walk) (a : Access) (later : List Walk) (events : List CallEvent) (walks : List Named) → AreLast g.setup.ring kept walks
    → Walks g p c n pa space kept a later events → Ringed g.setup.ring pa walks a.via later
walks_ringed g p c n pa space kept a later events walks last made =
    let w : Walk = made.walk in
    let v : Via = walked made.missed w.reach w.tag made.hi in
    let first = made_first pa made.generations made.word (word_reach made.word) w made.found in
    let noted = noted_last g.setup.ring kept w walks last in
    let named = walked_named pa made.missed w made.hi first in
    subst (λ (x : Access). Ringed g.setup.ring pa walks x.via later) (sym made.is) (record {
      says = says_by g.setup.ring kept walks pa v last (walked_found (newest_of kept pa) made.missed w.reach w.tag made.hi made.newest);
      last = subst (λ (l : List Walk). AreLast g.setup.ring l (walks ++ named_via pa v)) (sym made.noted)
          (subst (λ (l : List Named). AreLast g.setup.ring (last_of g.setup.ring (kept ++ w ∷ [])) (walks ++ l)) (sym named) noted);
    })

decides_ringed : (g : GeometryData) (p c n pa : ℕ) (space : Space) (kept : List Walk) (a : Access) (later : List Walk) (events : List CallEvent) (walks : List Named) → AreLast g.setup.ring kept walks
    → Decides g p c n pa space kept a later events → Ringed g.setup.ring pa walks a.via later
decides_ringed g p c n pa space kept a later events walks last (inl hits) =
    subst (Ringed g.setup.ring pa walks a.via) (sym hits.1) (hits_ringed g p c n pa space kept a events walks last hits.0)
decides_ringed g p c n pa space kept a later events walks last (inr made) = walks_ringed g p c n pa space kept a later events walks last made

record CallRinged (ring : ℕ) (t : Task) (a : Answer) (walks : List Named) (later : List Walk) : Type 0 where
  ringed : IsRinged ring walks t a
  last : AreLast ring later (walks ++ named_in t a)

look_ringed : (g : GeometryData) (p c n pa : ℕ) (space : Space) (o : Option Gpi) (kept : List Walk) (a : Answer) (later : List Walk) (events : List CallEvent) (walks : List Named)
    → AreLast g.setup.ring kept walks → IsLook g p c n pa space o kept a later events → CallRinged g.setup.ring (task.Look pa space) a walks later
look_ringed g p c n pa space (Some gpi) kept a later events walks last look =
    subst (CallRinged g.setup.ring (task.Look pa space) a walks) (sym look.1)
    (subst (λ (x : Answer). CallRinged g.setup.ring (task.Look pa space) x walks kept) (sym look.0)
    (record { ringed = λ at_table. absurd (let both : true ≡ false = at_table in cc); last = unnamed g.setup.ring kept walks last }))
look_ringed g p c n pa space None kept a later events walks last look =
    let decided = decides_ringed g p c n pa space kept look.access later look.deciding walks last look.decided in
    subst (λ (x : Answer). CallRinged g.setup.ring (task.Look pa space) x walks later) (sym look.is) (record { ringed = λ at_table. decided.says; last = decided.last })

call_ringed : (g : GeometryData) (p c n : ℕ) (t : Task) (kept : List Walk) (a : Answer) (later : List Walk) (events : List CallEvent) (walks : List Named) → AreLast g.setup.ring kept walks
    → IsCall g p c n t kept a later events → CallRinged g.setup.ring t a walks later
call_ringed g p c n (task.Look pa space) kept a later events walks last call = look_ringed g p c n pa space (block_gpi_of g pa) kept a later events walks last call
call_ringed g p c n (task.Delegate pa source) kept a later events walks last call = absurd call
call_ringed g p c n (task.Undelegate pa source) kept a later events walks last call = absurd call
call_ringed g p c n task.Unknown kept a later events walks last call = absurd call

-- ---- all calls

pub calls_ringed : (g : GeometryData) (p c n : ℕ) (tasks : List Task) (kept : List Walk) (answers : List Answer) (later : List Walk) (events : List CallEvent) (walks : List Named)
    → AreLast g.setup.ring kept walks → AreCallEvents g p c n tasks kept answers later events → AreRinged g.setup.ring walks tasks answers
calls_ringed g p c n [] kept answers later events walks last are = tt
calls_ringed g p c n (t ∷ tasks) kept [] later events walks last are = tt
calls_ringed g p c n (t ∷ tasks) kept (a ∷ answers) later events walks last are =
    let one = call_ringed g p c n t kept a are.2 are.0 walks last are.4 in
    (one.ringed, calls_ringed g p c (n + 1) tasks are.2 answers later are.1 (walks ++ named_in t a) one.last are.5)

none_left : (n : ℕ) (walks : List Named) → walks ≡ [] → [] ≡ drop n walks
none_left zero walks none = sym none
none_left (suc n) [] none = refl
none_left (suc n) (w ∷ walks) none = absurd cc

none_last : (ring : ℕ) → AreLast ring [] []
none_last ring = none_left (0 - ring) [] refl

pub walked_ringed : (c : ℕ) (q : CpuData) (events : List CallEvent) → HasWalked c q events → AreRinged q.geometry.setup.ring [] q.tasks q.answers
walked_ringed c q events walked =
    calls_ringed q.geometry q.number c 0 q.tasks [] q.answers walked.kept walked.calls [] (none_last q.geometry.setup.ring) walked.answered

pub follows_ringed : (g : GeometryData) (p c : ℕ) (tasks : List Task) (answers : List Answer) (events : List CallEvent) → Follows g p c tasks answers events → AreRinged g.setup.ring [] tasks answers
follows_ringed g p c tasks answers events follows = calls_ringed g p c 0 tasks [] answers follows.kept follows.calls [] (none_last g.setup.ring) follows.answered
