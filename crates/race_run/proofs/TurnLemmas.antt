-- A turn by a pass: its caller is ready, and the pass is still one of its field after it.
use Rattle.std.proofs.Common.{◌≡◌, ℕ, List, ◌++◌, Some, append_assoc, sym, ap, ◌∙◌, subst}
use Rattle.gpt_descriptors.specs.Places.{word_count}
use Rattle.shared_words.specs.declared.act.Act.{Act}
use Rattle.history.specs.declared.entry.Entry.{Entry}
use Rattle.core_machine.specs.declared.caller.Caller.{Caller}
use Rattle.core_machine.specs.InnerCallers.{caller_next, caller_took, made_by}
use Rattle.core_machine.proofs.CallerLaws.{acts_keep}
use Rattle.race_run.specs.declared.view.Opening.{Opening}
use Rattle.race_run.specs.declared.view.View.{View}
use Rattle.race_run.specs.Passes.{FieldData, IsPassOf, PassData}
use Rattle.race_run.specs.Turns.{HasActed}
use Rattle.race_run.specs.InnerRule.{IsReady}

own_pass : (f g : FieldData) (p q : PassData) (c : ℕ) (x : Caller) → f ≡ g → p ≡ q → IsPassOf g q c x → IsPassOf f p c x
own_pass f g p q c x field pass own = subst (λ (a : FieldData). IsPassOf a p c x) (sym field) (subst (λ (b : PassData). IsPassOf g b c x) (sym pass) own)

pub ready_of : (words : ℕ) (f g : FieldData) (p q : PassData) (c : ℕ) (x : Caller) (t : Act) → f ≡ g → p ≡ q → words ≡ word_count f.opening.geometry → IsPassOf g q c x → caller_next x ≡ Some t → IsReady words f.opening p.view c x t
ready_of words f g p q c x t field pass size own next =
    let mine = own_pass f g p q c x field pass own in
    record { size = size; opening = mine.opening; held = mine.held; made = mine.made; next = next }

pub passes_on : (f g : FieldData) (p q r : PassData) (c old : ℕ) (x y : Caller) → f ≡ g → p ≡ q → r.id ≡ p.id → HasActed f.opening c x old p.view r.view → y ≡ caller_took x old → IsPassOf g q c x → IsPassOf g r c y
passes_on f g p q r c old x y field pass id acted becomes own =
    let mine = own_pass f g p q c x field pass own in
    subst (λ (a : FieldData). IsPassOf a r c y) field
    (subst (IsPassOf f r c) (sym becomes)
    (record {
      field = id ∙ mine.field;
      opening = ap (λ (v : View). v.opening) acted.view ∙ mine.opening;
      held = ap (λ (v : View). v.held) acted.view;
      made = (acts_keep f.opening.geometry x old mine.made).0;
      moment = acted.moment;
    }))

-- the act that a caller's next was
pub acted_by : (f g : FieldData) (p q r : PassData) (c old : ℕ) (x : Caller) → f ≡ g → q ≡ p → HasActed f.opening c x old q.view r.view → HasActed g.opening c x old p.view r.view
acted_by f g p q r c old x field pass acted =
    subst (λ (a : FieldData). HasActed a.opening c x old p.view r.view) field (subst (λ (b : PassData). HasActed f.opening c x old b.view r.view) pass acted)

-- what was seen before an act begins what is seen after it
pub sees_more : (o : Opening) (c old : ℕ) (x : Caller) (first : List Entry) (v w : View) → ((rest : List Entry) × (v.seen ≡ first ++ rest)) → HasActed o c x old v w → (rest : List Entry) × (w.seen ≡ first ++ rest)
sees_more o c old x first v w before acted = (
  (before.0 ++ acted.between) ++ made_by c x old,
  ap (λ (u : View). u.seen) acted.view
      ∙ ap (λ (es : List Entry). (es ++ acted.between) ++ made_by c x old) before.1
      ∙ ap (λ (es : List Entry). es ++ made_by c x old) (append_assoc first before.0 acted.between)
      ∙ append_assoc first (before.0 ++ acted.between) (made_by c x old),
)
