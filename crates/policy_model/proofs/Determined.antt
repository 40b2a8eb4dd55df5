-- A life that follows the policy is the one that is made of what comes to it.
use Rattle.std.proofs.Common.{◌≡◌, ℕ, zero, suc, ◌+◌, false, ◌⊎◌, inl, inr, Option, None, Some, List, [], ◌∷◌, ◌++◌, refl, sym, ap, ◌∙◌, cond, arith}
use Rattle.std.proofs.lemmas.Bool.{or_parts}
use Rattle.std.specs.Option.{option_map}
use Rattle.world_model.specs.declared.acts.Outcome.{Outcome}
use Rattle.policy_model.specs.declared.settings.Settings.{Settings}
use Rattle.policy_model.specs.Events.{Event, Begins, Item, Opens, Acts, ChangesMode, Drops, Sends, Replies, Notes, And}
use Rattle.policy_model.specs.Entries.{Did, Life, NotBegun, Opened, Lived, log_of}
use Rattle.policy_model.specs.Views.{view_of}
use Rattle.policy_model.specs.Follows.{Follows, items_of, is_fault, has_fault, without_output, IsStruck, Here, Later, IsNext}
use Rattle.policy_model.specs.Witnessed.{Fault, one_later, fault_in, Witnessed, NothingWitnessed, Found, Came, Passed, witnessed_of}
use Rattle.policy_model.proofs.Faults.{next-fault}

-- what stays of some items where a fault struck the act after so many
abbrev left_at : List Item → ℕ → Outcome → List Item
left_at [] place fault = []
left_at (Acts act o ∷ is) zero fault = Acts act fault ∷ []
left_at (Acts act o ∷ is) (suc place) fault = Acts act o ∷ left_at is place fault
left_at (i ∷ is) place fault = without_output i ++ left_at is place fault

abbrev left_by : List Item → Option Fault → List Item
left_by is None = is
left_by is (Some fault) = left_at is fault.acts_before fault.outcome

-- a fault, and what it leaves
record IsLeft (is left : List Item) : Type 0 where
  fault : Fault
  found : fault_in left ≡ Some fault
  left_is : left ≡ left_at is fault.acts_before fault.outcome

later : (i : Item) (rest left : List Item) → has_fault (i ∷ rest) ≡ false → (has_fault rest ≡ false → IsLeft rest left) → IsLeft (i ∷ rest) (without_output i ++ left)
later (Acts act o) rest left h more =
    let parts = or_parts (is_fault o) (has_fault rest) h in
    let m : IsLeft rest left = more parts.1 in
    let up : suc m.fault.acts_before ≡ m.fault.acts_before + 1 = omega arith in
    record {
      fault = one_later m.fault;
      found =
          ap (λ b. cond b (Some (struck o)) (option_map one_later (fault_in left))) parts.0
          ∙ ap (λ (f : Option Fault). option_map one_later f) m.found;
      left_is = ap (λ (t : List Item). Acts act o ∷ t) m.left_is ∙ ap (λ (k : ℕ). left_at (Acts act o ∷ rest) k m.fault.outcome) up;
    }
  where
    struck : Outcome → Fault
    struck out = record { acts_before = 0; outcome = out }
later (Opens found) rest left h more = let m : IsLeft rest left = more h in record { fault = m.fault; found = m.found; left_is = ap (λ (t : List Item). Opens found ∷ t) m.left_is }
later (Begins event) rest left h more = let m : IsLeft rest left = more h in record { fault = m.fault; found = m.found; left_is = ap (λ (t : List Item). Begins event ∷ t) m.left_is }
later (ChangesMode mode term) rest left h more = let m : IsLeft rest left = more h in record { fault = m.fault; found = m.found; left_is = ap (λ (t : List Item). ChangesMode mode term ∷ t) m.left_is }
later (Drops member cause) rest left h more = let m : IsLeft rest left = more h in record { fault = m.fault; found = m.found; left_is = ap (λ (t : List Item). Drops member cause ∷ t) m.left_is }
later (Notes note) rest left h more = let m : IsLeft rest left = more h in record { fault = m.fault; found = m.found; left_is = ap (λ (t : List Item). Notes note ∷ t) m.left_is }
later (Sends frame) rest left h more = let m : IsLeft rest left = more h in record { fault = m.fault; found = m.found; left_is = m.left_is }
later (Replies answer) rest left h more = let m : IsLeft rest left = more h in record { fault = m.fault; found = m.found; left_is = m.left_is }

struck-left : (is left : List Item) → IsStruck is left → has_fault is ≡ false → IsLeft is left
struck-left is left (Here act sends wins rest fault w f) h = record {
  fault = record { acts_before = 0; outcome = fault };
  found = rw f refl;
  left_is = refl;
}
struck-left is left (Later i rest some d) h = later i rest some h (λ k. struck-left rest some d k)

no-fault : (is : List Item) → has_fault is ≡ false → fault_in is ≡ None
no-fault [] h = refl
no-fault (Acts act o ∷ is) h =
    let parts = or_parts (is_fault o) (has_fault is) h in
    let none : fault_in is ≡ None = no-fault is parts.1 in
    rw (parts.0, none) refl
no-fault (i ∷ is) h = no-fault is h

-- the items of an event
items-determined : (s : Settings) (life : Life) (event : Event) (items : List Item) → IsNext s life event items → items ≡ left_by (items_of s (log_of life) event) (fault_in items)
items-determined s life event items next = by_way next.does
  where
    whole : List Item
    whole = items_of s (log_of life) event

    sound : has_fault whole ≡ false
    sound = next-fault s (view_of s (And (log_of life) (Begins event))) event

    by_way : (items ≡ whole) ⊎ IsStruck whole items → items ≡ left_by whole (fault_in items)
    by_way (inl e) = e ∙ ap (λ (f : Option Fault). left_by whole f) (sym (ap (λ (is : List Item). fault_in is) e ∙ no-fault whole sound))
    by_way (inr d) = let m : IsLeft whole items = struck-left whole items d sound in m.left_is ∙ ap (λ (f : Option Fault). left_by whole f) (sym m.found)

abbrev made : Settings → Witnessed → Life
made s NothingWitnessed = NotBegun
made s (Found t found) = Opened (made s t) found
made s (Came t event fault) = Lived (made s t) (Did event (left_by (items_of s (log_of (made s t)) event) fault))
made s (Passed t entry) = Lived (made s t) entry

is-made : (s : Settings) (life : Life) → Follows s life → life ≡ made s (witnessed_of life)
is-made s NotBegun f = refl
is-made s (Opened life found) f = ap (λ (l : Life). Opened l found) (is-made s life f.0)
is-made s (Lived life (Did event items)) f =
    let before : life ≡ made s (witnessed_of life) = is-made s life f.0 in
    ap (λ (l : Life). Lived l (Did event items)) before
    ∙ ap (λ (is : List Item). Lived (made s (witnessed_of life)) (Did event is))
    (items-determined s life event items f.1 ∙ ap (λ (l : Life). left_by (items_of s (log_of l) event) (fault_in items)) before)
is-made s (Lived life entry) f = ap (λ (l : Life). Lived l entry) (is-made s life f.0)

pub determined : (s : Settings) (life other : Life) → Follows s life → Follows s other → witnessed_of life ≡ witnessed_of other → life ≡ other
determined s life other f g same = is-made s life f ∙ ap (λ (t : Witnessed). made s t) same ∙ sym (is-made s other g)
