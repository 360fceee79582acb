-- Acts of one access in a row: a kept walk is found and tried, a line is touched, and the duty word is cleared.
use Rattle.std.proofs.Common.{◌≡◌, ℕ, zero, suc, ◌+◌, ◌<◌, ◌∷◌, [], List, Bool, true, false, Option, Some, None, length, refl, sym, ap, ◌∙◌, subst, arith}
use Rattle.std.specs.Prelude.{◌==◌, IsSome, if◌then◌else◌}
use Rattle.gpi_values.specs.declared.gpi.Space.{Space}
use Rattle.gpt_descriptors.specs.Sizes.{tag_size_of}
use Rattle.shared_words.specs.declared.act.Act.{Act}
use Rattle.shared_words.specs.Acts.{place_in, answer_of, after_act}
use Rattle.shared_words.specs.Next.{MayBeMade}
use Rattle.invalidate.specs.Duty.{on_act, off_act}
use Rattle.invalidate.specs.Generations.{gen_load_of}
use Rattle.alias_clean.specs.Lines.{touch_of}
use Rattle.walk_cache.specs.declared.walk.Walk.{Walk}
use Rattle.walk_cache.specs.Rings.{RingData, newest_of}
use Rattle.history.specs.declared.call.Task.TheVariants as task
use Rattle.history.specs.declared.call.OldWalk.{OldWalk}
use Rattle.history.specs.declared.call.Via.TheVariants as via
use Rattle.gpt_descriptors.specs.Entries.{l1_entry}
use Rattle.gpt_descriptors.specs.declared.size.Size.{Size}
use Rattle.gpt_descriptors.specs.declared.size.Size.TheVariants as size
use Rattle.history.specs.declared.call.Access.{Access}
use Rattle.history.specs.declared.call.Answer.{Answer}
use Rattle.history.specs.declared.call.Answer.TheVariants as answer
use Rattle.processor.specs.InnerProgress.{Stage}
use Rattle.processor.specs.InnerProgress as stage
use Rattle.processor.specs.InnerProgress.{act_at, no_generations, old_walk, after_search, after_decision, decided_stage, after_try, after_at, ring_after, answer_at}
use Rattle.processor.specs.InnerCpus.{CpuData, task_of, next_of, goes_to, after_answer, turned_once, turned, decided, leaving, MayTurn, IsCpu}
use Rattle.std.proofs.lemmas.Bool.{ne_eqb}
use Rattle.processor.specs.Accesses.{walk_gpi}
use Rattle.processor.proofs.WalkLemmas.{found_is, walk_word}
use Rattle.processor.proofs.CpuLemmas.{look_next, look_place, access_at, acts_at, touch_there}

-- ---- one act

pair_is : {A B : Type 0} (a x : A) (b y : B) → a ≡ x → b ≡ y → ◌≡◌ {A = A × B} (a, b) (x, y)
pair_is a x b y p q = λ i. (p i, q i)

pub goes_on : (q : CpuData) (r : RingData) (s : Stage) (pa : ℕ) (space : Space) (words : List ℕ) (t : Act) → task_of q ≡ Some (task.Look pa space) → answer_at s ≡ None → act_at q.geometry q.number pa space s ≡ Some t
    → turned_once (goes_to q r s, words) ≡ (goes_to q (ring_after s r) (after_at q.geometry r.walks pa space s (answer_of t words)), after_act t words)
goes_on q r s pa space words t under_way goes next = rw (under_way, next, goes) refl

pub ends : (q : CpuData) (r : RingData) (s : Stage) (pa : ℕ) (space : Space) (words : List ℕ) (t : Act) (given : Answer) → task_of q ≡ Some (task.Look pa space) → answer_at s ≡ Some given → act_at q.geometry q.number pa space s ≡ Some t
    → turned_once (goes_to q r s, words) ≡ (after_answer (goes_to q r s) given, after_act t words)
ends q r s pa space words t given under_way answered next = rw (under_way, next, answered) refl

-- its place
placed : (q : CpuData) (pa : ℕ) (space : Space) (words : List ℕ) (t : Act) → task_of q ≡ Some (task.Look pa space) → act_at q.geometry q.number pa space q.stage ≡ Some t → MayTurn (q, words) → place_in t < length words
placed q pa space words t under_way next may = subst (λ (o : Option Act). MayBeMade o words) (look_next q pa space under_way ∙ next) may.0

-- ---- acts in a row

pub turned_more : (n k : ℕ) (s : CpuData × List ℕ) → turned (n + k) s ≡ turned n (turned k s)
turned_more zero k s = ap (λ (j : ℕ). turned j s) (let e : 0 + k ≡ k = omega arith in e)
turned_more (suc n) k s = ap (λ (j : ℕ). turned j s) (let e : suc n + k ≡ suc (n + k) = omega arith in e) ∙ ap turned_once (turned_more n k s)

begins : (q : CpuData) (words : List ℕ) → q.stage ≡ stage.Starting → ◌≡◌ {A = CpuData × List ℕ} (q, words) (goes_to q q.cache stage.Starting, words)
begins q words starting = λ i. (record { geometry = q.geometry; number = q.number; tasks = q.tasks; answers = q.answers; cache = q.cache; stage = starting i }, words)

pub begins_placed : (q : CpuData) (pa : ℕ) (space : Space) (words : List ℕ) (t : Act) → task_of q ≡ Some (task.Look pa space) → q.stage ≡ stage.Starting → t ≡ on_act q.geometry q.number → MayTurn (q, words) → place_in t < length words
begins_placed q pa space words t under_way starting is may = placed q pa space words t under_way (ap (λ (s : Stage). act_at q.geometry q.number pa space s) starting ∙ ap Some (sym is)) may

-- an access that begins, whose search has found this, and the words after its first act
pub record Begun (q : CpuData) (pa : ℕ) (space : Space) (words later : List ℕ) (o : Option Walk) : Type 0 where
  pub under_way : task_of q ≡ Some (task.Look pa space)
  pub starting : q.stage ≡ stage.Starting
  pub newest : newest_of q.cache.walks pa ≡ o
  pub made : later ≡ after_act (on_act q.geometry q.number) words

-- as the code knows it: it reads the processor q that is p
pub begun : (p q : CpuData) (pa : ℕ) (space : Space) (words later : List ℕ) (o r : Option Walk) (t : Act) → q ≡ p → task_of p ≡ Some (task.Look pa space) → p.stage ≡ stage.Starting → r ≡ newest_of q.cache.walks pa → r ≡ o
    → t ≡ on_act q.geometry q.number → later ≡ after_act t words → Begun p pa space words later o
begun p q pa space words later o r t same under_way starting newest is act made = record {
  under_way = under_way;
  starting = starting;
  newest = ap (λ (q : CpuData). newest_of q.cache.walks pa) (sym same) ∙ sym newest ∙ is;
  made = made ∙ ap (λ (t : Act). after_act t words) (act ∙ ap (λ (q : CpuData). on_act q.geometry q.number) same);
}

pub load_is : (p q : CpuData) (pa : ℕ) (w : Walk) (z : Size) (t : Act) → q ≡ p → z ≡ tag_size_of w.reach → t ≡ gen_load_of q.geometry z pa → t ≡ gen_load_of p.geometry (tag_size_of w.reach) pa
load_is p q pa w z t same size is = is ∙ (λ i. gen_load_of (same i).geometry (size i) pa)

pub searched : (q : CpuData) (pa : ℕ) (space : Space) (words later : List ℕ) (o : Option Walk) → Begun q pa space words later o → turned 1 (q, words) ≡ (goes_to q q.cache (after_search o), later)
searched q pa space words later o b =
    ap turned_once (begins q words b.starting) ∙ goes_on q q.cache stage.Starting pa space words (on_act q.geometry q.number) b.under_way refl refl
    ∙ pair_is _ (goes_to q q.cache (after_search o)) _ later (ap (λ (o : Option Walk). goes_to q q.cache (after_search o)) b.newest) (sym b.made)

-- the walk that it has found
pub found_word : (q : CpuData) (pa : ℕ) (space : Space) (words later : List ℕ) (w : Walk) → IsCpu q → Begun q pa space words later (Some w) → IsSome (l1_entry w.word)
found_word q pa space words later w is b = walk_word q.geometry w (found_is q.geometry q.cache.walks pa w is.walks b.newest).0

pub found_placed : (q : CpuData) (pa : ℕ) (space : Space) (words later : List ℕ) (w : Walk) (t : Act) → Begun q pa space words later (Some w) → t ≡ gen_load_of q.geometry (tag_size_of w.reach) pa → MayTurn (turned 1 (q, words)) → place_in t < length later
found_placed q pa space words later w t b is may =
    placed (goes_to q q.cache (stage.Trying w)) pa space later t b.under_way (ap Some (sym is)) (subst MayTurn (searched q pa space words later (Some w) b) may)

pub tried : (q : CpuData) (pa : ℕ) (space : Space) (words later last : List ℕ) (w : Walk) (t : Act) (at : ℕ) → Begun q pa space words later (Some w) → t ≡ gen_load_of q.geometry (tag_size_of w.reach) pa → at ≡ answer_of t later → last ≡ after_act t later
    → turned 2 (q, words) ≡ (goes_to q q.cache (after_try q.geometry pa space w at), last)
tried q pa space words later last w t at b is said read =
    ap turned_once (searched q pa space words later (Some w) b) ∙ goes_on q q.cache (stage.Trying w) pa space later t b.under_way refl (ap Some (sym is))
    ∙ pair_is _ (goes_to q q.cache (after_try q.geometry pa space w at)) _ last (ap (λ (n : ℕ). goes_to q q.cache (after_try q.geometry pa space w n)) (sym said)) (sym read)

tried_stage : (b : Bool) (s t : Stage) → b ≡ true → (if b then s else t) ≡ s
tried_stage b s t is = rw is refl

missed_stage : (b : Bool) (s t : Stage) → b ≡ false → (if b then s else t) ≡ t
missed_stage b s t is = rw is refl

eqb-same : (n k : ℕ) → n ≡ k → (n == k) ≡ true
eqb-same n k same = grind (arith, same)

eqb-other : (n k : ℕ) → (n ≡ k → ⊥) → (n == k) ≡ false
eqb-other n k other = ne_eqb n k other

pub hit : (q : CpuData) (pa : ℕ) (space : Space) (words later last : List ℕ) (w : Walk) (t : Act) (at : ℕ) (access : Access) → Begun q pa space words later (Some w) → t ≡ gen_load_of q.geometry (tag_size_of w.reach) pa → at ≡ answer_of t later → last ≡ after_act t later
    → at ≡ w.tag → after_decision (stage.Trying w) (walk_gpi q.geometry pa w) space (via.Hit w.reach w.tag) ≡ decided_stage access → turned 2 (q, words) ≡ (decided q access, last)
hit q pa space words later last w t at access b is said read same decides =
    tried q pa space words later last w t at b is said read
    ∙ ap (λ (s : Stage). (goes_to q q.cache s, last)) (tried_stage (at == w.tag) _ _ (eqb-same at w.tag same) ∙ decides)

pub missed : (q : CpuData) (pa : ℕ) (space : Space) (words later last : List ℕ) (w : Walk) (t : Act) (at : ℕ) → Begun q pa space words later (Some w) → t ≡ gen_load_of q.geometry (tag_size_of w.reach) pa → at ≡ answer_of t later → last ≡ after_act t later
    → (at ≡ w.tag → ⊥) → turned 2 (q, words) ≡ (goes_to q q.cache (stage.Loading size.Two no_generations (Some (old_walk w at))), last)
missed q pa space words later last w t at b is said read other =
    tried q pa space words later last w t at b is said read
    ∙ ap (λ (s : Stage). (goes_to q q.cache s, last)) (missed_stage (at == w.tag) _ _ (eqb-other at w.tag other))

-- an access in the protected space with acts has a line
pub touches_there : (q : CpuData) (pa : ℕ) (space : Space) (o : Option Act) → IsCpu q → task_of q ≡ Some (task.Look pa space) → o ≡ touch_of q.geometry pa space → o ≡ None → ⊥
touches_there q pa space o is under_way touch none =
    let place = look_place q.geometry pa space is.geometry (access_at q (task.Look pa space) is under_way) (acts_at q (task.Look pa space) is under_way) in
    let there = touch_there q.geometry pa place.0 space place.1 in
    let some = there.1 in
    cc

-- the end
pub leaves : (q x : CpuData) (pa : ℕ) (space : Space) (words later last : List ℕ) (access : Access) (n : ℕ) → task_of q ≡ Some (task.Look pa space) → ◌≡◌ {A = CpuData × List ℕ} (leaving q access, later) (turned n (decided q access, words))
    → last ≡ after_act (off_act q.geometry q.number) later → x ≡ after_answer q (answer.Seen access) → ◌≡◌ {A = CpuData × List ℕ} (x, last) (turned (1 + n) (decided q access, words))
leaves q x pa space words later last access n under_way so made ended =
    pair_is x _ last _ ended made ∙ sym (ends q q.cache (stage.Leaving access) pa space later (off_act q.geometry q.number) (answer.Seen access) under_way refl refl) ∙ ap turned_once so
    ∙ ap (λ (j : ℕ). turned j (decided q access, words)) (let e : suc n ≡ 1 + n = omega arith in e)
