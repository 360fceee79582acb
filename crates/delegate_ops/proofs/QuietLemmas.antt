-- A refused call writes no word but its lock's, and each answered call releases its lock last.
use Rattle.std.proofs.Common.{◌≡◌, ℕ, ◌++◌, ◌∷◌, [], List, false, Option, Some, None, refl, sym, subst, inl, inr}
use Rattle.std.specs.List.{All}
use Rattle.std.proofs.lemmas.List.Elements.{All-nil, All-cons, All-append}
use Rattle.gpt_descriptors.specs.declared.size.Size.{Size}
use Rattle.gpt_descriptors.specs.declared.size.Size.TheVariants as size
use Rattle.gpt_descriptors.specs.declared.size.Generations.{Generations}
use Rattle.gpt_descriptors.specs.Places.{GeometryData}
use Rattle.bit_locks.specs.Locks.{release_act}
use Rattle.invalidate.specs.Generations.{gen_load_of}
use Rattle.history.specs.declared.call.Task.{Task}
use Rattle.history.specs.declared.call.Answer.{Answer}
use Rattle.history.specs.declared.entry.Entry.{Entry}
use Rattle.history.specs.Legality.{is_done}
use Rattle.history.specs.Events.{CallEvent, plain}
use Rattle.delegate_ops.specs.Deciding.{address_of, idle_answer}
use Rattle.delegate_ops.specs.Script.{lock_bit_of, TakesLock, Looks, Reads, reads, Decides, Releases, IsCall}
use Rattle.delegate_ops.specs.Quiet.{IsQuiet}

abbrev IsQuietEvent : GeometryData → Task → CallEvent → Type 0
IsQuietEvent g t e = IsQuiet g t e.act

one_more : (g : GeometryData) (t : Task) (events : List CallEvent) (e : CallEvent) → All (IsQuietEvent g t) events → IsQuietEvent g t e → All (IsQuietEvent g t) (events ++ e ∷ [])
one_more g t events e quiet is = All-append (IsQuietEvent g t) events (e ∷ []) quiet (All-cons (IsQuietEvent g t) e [] is (All-nil (IsQuietEvent g t)))

takes_quiet : (g : GeometryData) (t : Task) (events : List CallEvent) → TakesLock g t events → All (IsQuietEvent g t) events
takes_quiet g t events takes =
    subst (All (IsQuietEvent g t)) (sym takes.parts)
    (one_more g t takes.waits _ (λ i default within. inr (inr (inl (takes.held i default within).0))) (inr (inr (inl refl))))

looks_quiet : (g : GeometryData) (t : Task) (place word : ℕ) (made : List Entry) (events : List CallEvent) → Looks g t place word made events → All (IsQuietEvent g t) events
looks_quiet g t place word made events looks =
    subst (All (IsQuietEvent g t)) (sym looks.parts)
    (one_more g t looks.locking _ (takes_quiet g t looks.locking looks.locked) (inl (place, looks.there, refl)))

load_quiet : (g : GeometryData) (t : Task) (e : CallEvent) (rest : List CallEvent) (z : Size) → e.act ≡ gen_load_of g z (address_of t) → All (IsQuietEvent g t) rest → All (IsQuietEvent g t) (e ∷ rest)
load_quiet g t e rest z is quiet = All-cons (IsQuietEvent g t) e rest (inr (inl (z, is))) quiet

loads_quiet : (g : GeometryData) (t : Task) (k : Generations) (made : List Entry) → All (IsQuietEvent g t) (reads g (address_of t) k made)
loads_quiet g t k made =
    let two : CallEvent = plain (gen_load_of g size.Two (address_of t)) k.two in
    let thirty_two : CallEvent = plain (gen_load_of g size.ThirtyTwo (address_of t)) k.thirty_two in
    let five_twelve : CallEvent = record { act = gen_load_of g size.FiveTwelve (address_of t); old = k.five_twelve; made = made } in
    let third : All (IsQuietEvent g t) (five_twelve ∷ []) = load_quiet g t five_twelve [] size.FiveTwelve refl (All-nil (IsQuietEvent g t)) in
    let second : All (IsQuietEvent g t) (thirty_two ∷ five_twelve ∷ []) = load_quiet g t thirty_two (five_twelve ∷ []) size.ThirtyTwo refl third in
    load_quiet g t two (thirty_two ∷ five_twelve ∷ []) size.Two refl second

reads_quiet : (g : GeometryData) (t : Task) (place word : ℕ) (k : Generations) (made : List Entry) (events : List CallEvent) → Reads g t place word k made events → All (IsQuietEvent g t) events
reads_quiet g t place word k made events read =
    subst (All (IsQuietEvent g t)) (sym read.parts)
    (All-append (IsQuietEvent g t) read.looking (reads g (address_of t) k made) (looks_quiet g t place word [] read.looking read.looked) (loads_quiet g t k made))

decides_quiet : (g : GeometryData) (c n : ℕ) (t : Task) (given : Answer) (events : List CallEvent) → is_done given ≡ false → Decides g c n t given events → All (IsQuietEvent g t) events
decides_quiet g c n t given events refused (inl by_word) = looks_quiet g t by_word.place by_word.word _ events by_word.looked
decides_quiet g c n t given events refused (inr (inl worn)) = reads_quiet g t worn.place worn.word worn.generations _ events worn.read
decides_quiet g c n t given events refused (inr (inr done)) = absurd (let both = rw done.is at refused in cc)

call_quiet : (g : GeometryData) (c n : ℕ) (t : Task) (idle : Option Answer) (given : Answer) (events : List CallEvent) → IsCall g c n t idle given events → is_done given ≡ false → All (IsQuietEvent g t) events
call_quiet g c n t (Some idle) given events call refused = subst (All (IsQuietEvent g t)) (sym call.1) (All-nil (IsQuietEvent g t))
call_quiet g c n t None given events call refused =
    subst (All (IsQuietEvent g t)) (sym call.parts)
    (one_more g t call.deciding _ (decides_quiet g c n t given call.deciding refused call.decided) (inr (inr (inr refl))))

pub refused_quiet : (g : GeometryData) (c n : ℕ) (t : Task) (given : Answer) (events : List CallEvent) → IsCall g c n t (idle_answer g t) given events → is_done given ≡ false → All (λ e. IsQuiet g t e.act) events
refused_quiet g c n t given events call refused = call_quiet g c n t (idle_answer g t) given events call refused

pub call_unlocks : (g : GeometryData) (c n : ℕ) (t : Task) (given : Answer) (events : List CallEvent) → IsCall g c n t (idle_answer g t) given events → idle_answer g t ≡ None
    → (before : List CallEvent) × (left : ℕ) × (events ≡ before ++ plain (release_act (lock_bit_of g t)) left ∷ [])
call_unlocks g c n t given events call acts =
    let released : Releases g c n t given events = subst (λ (o : Option Answer). IsCall g c n t o given events) acts call in
    (released.deciding, released.left, released.parts)
