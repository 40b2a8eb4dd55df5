-- A node's life, where an act that was struck is found to be kept or not.
use Rattle.std.proofs.Common.{◌≡◌, Bool, true, false, ◌⊎◌, inl, inr, Option, List, [], ◌∷◌, map, refl, sym, ◌∙◌, ap, subst}
use Rattle.std.proofs.lemmas.Bool.{or_parts}
use Rattle.world_model.specs.declared.acts.Act.{Act}
use Rattle.world_model.specs.declared.acts.Message.{Message}
use Rattle.world_model.specs.declared.acts.ActReply.TheVariants.{Taken}
use Rattle.world_model.specs.declared.acts.Outcome.{Outcome}
use Rattle.world_model.specs.declared.acts.Outcome.TheVariants.{Answered, Disk, Crashed}
use Rattle.world_model.specs.Acts.{NodeHistory, Then}
use Rattle.world_model.specs.Replies.{writes}
use Rattle.world_model.specs.Settled.{settled, IsUnstruck}
use Rattle.world_model.proofs.Settling.{unstruck, unstruck_then}
use Rattle.policy_model.specs.declared.settings.Settings.{Settings}
use Rattle.policy_model.specs.declared.events.Event.{Event}
use Rattle.policy_model.specs.Events.{Item, Opens, Begins, Acts, ChangesMode, Drops, Sends, Replies, Notes, Log, And, added, acts_of}
use Rattle.policy_model.specs.Entries.{Life, NotBegun, Opened, Lived, Did, Gone, Bad, NoMemory, Unread, log_of}
use Rattle.policy_model.specs.Views.{view_of}
use Rattle.policy_model.specs.Follows.{Follows, IsNext, IsStruck, Here, Later, is_fault, has_fault, is_struck, items_of}
use Rattle.policy_model.proofs.Faults.{next-fault}
use Rattle.policy_model.specs.Struck.{settled_item}
use Rattle.replay_node.specs.Course.{settled_life}

-- ---- items without a fault

-- what the policy says has none
pub no_fault : (s : Settings) (l : Log) (e : Event) → has_fault (items_of s l e) ≡ false
no_fault s l e = next-fault s (view_of s (And l (Begins e))) e

-- ---- a life that is not struck

unstruck_act : (g : NodeHistory) (act : Act) (o : Outcome) → is_fault o ≡ false → IsUnstruck g → IsUnstruck (Then g act o)
unstruck_act g act (Answered reply) e u = unstruck_then g act reply u
unstruck_act g act (Disk kept) e u = absurd (cc)
unstruck_act g act (Crashed kept) e u = absurd (cc)

unstruck_items : (l : Log) (is : List Item) → has_fault is ≡ false → IsUnstruck (acts_of l) → IsUnstruck (acts_of (added l is))
unstruck_items l [] e u = u
unstruck_items l (Opens found ∷ is) e u = unstruck_items (And l (Opens found)) is e tt
unstruck_items l (Begins event ∷ is) e u = unstruck_items (And l (Begins event)) is e u
unstruck_items l (Acts act o ∷ is) e u = let parts = or_parts (is_fault o) (has_fault is) e in unstruck_items (And l (Acts act o)) is parts.1 (unstruck_act (acts_of l) act o parts.0 u)
unstruck_items l (ChangesMode mode term ∷ is) e u = unstruck_items (And l (ChangesMode mode term)) is e u
unstruck_items l (Drops member cause ∷ is) e u = unstruck_items (And l (Drops member cause)) is e u
unstruck_items l (Sends frame ∷ is) e u = unstruck_items (And l (Sends frame)) is e u
unstruck_items l (Replies answer ∷ is) e u = unstruck_items (And l (Replies answer)) is e u
unstruck_items l (Notes note ∷ is) e u = unstruck_items (And l (Notes note)) is e u

unstruck_life : (s : Settings) (life : Life) → Follows s life → is_struck life ≡ false → IsUnstruck (acts_of (log_of life))
unstruck_life s NotBegun f e = tt
unstruck_life s (Opened life found) f e = tt
unstruck_life s (Lived life (Did event is)) f e = unstruck_items (And (log_of life) (Begins event)) is e (unstruck_life s life f.0 f.1.up)
unstruck_life s (Lived life (Gone conn)) f e = unstruck_life s life f.0 e
unstruck_life s (Lived life (Bad conn fault)) f e = unstruck_life s life f.0 e
unstruck_life s (Lived life NoMemory) f e = unstruck_life s life f.0 e
unstruck_life s (Lived life (Unread conn)) f e = unstruck_life s life f.0 e

-- ---- items whose last act alone may be struck

abbrev IsLastFault : Outcome → List Item → Type 0
IsLastFault (Answered reply) is = Unit {0}
IsLastFault (Disk kept) is = is ≡ []
IsLastFault (Crashed kept) is = is ≡ []

abbrev EndsAtFault : List Item → Type 0
EndsAtFault [] = Unit {0}
EndsAtFault (Acts act o ∷ is) = IsLastFault o is × EndsAtFault is
EndsAtFault (i ∷ is) = EndsAtFault is

last_answered : (o : Outcome) (is : List Item) → is_fault o ≡ false → IsLastFault o is
last_answered (Answered reply) is e = tt
last_answered (Disk kept) is e = absurd (cc)
last_answered (Crashed kept) is e = absurd (cc)

last_nothing : (o : Outcome) → IsLastFault o []
last_nothing (Answered reply) = tt
last_nothing (Disk kept) = refl
last_nothing (Crashed kept) = refl

faultless_ends : (is : List Item) → has_fault is ≡ false → EndsAtFault is
faultless_ends [] e = tt
faultless_ends (Opens found ∷ is) e = faultless_ends is e
faultless_ends (Begins event ∷ is) e = faultless_ends is e
faultless_ends (Acts act o ∷ is) e = let parts = or_parts (is_fault o) (has_fault is) e in (last_answered o is parts.0, faultless_ends is parts.1)
faultless_ends (ChangesMode mode term ∷ is) e = faultless_ends is e
faultless_ends (Drops member cause ∷ is) e = faultless_ends is e
faultless_ends (Sends frame ∷ is) e = faultless_ends is e
faultless_ends (Replies answer ∷ is) e = faultless_ends is e
faultless_ends (Notes note ∷ is) e = faultless_ends is e

struck_ends : (full left : List Item) → IsStruck full left → has_fault full ≡ false → EndsAtFault left
struck_ends full left (Here act sends wins rest fault w f) e = (last_nothing fault, tt)
struck_ends full left (Later (Acts act o) rest left' q) e = let parts = or_parts (is_fault o) (has_fault rest) e in (last_answered o left' parts.0, struck_ends rest left' q parts.1)
struck_ends full left (Later (Opens found) rest left' q) e = struck_ends rest left' q e
struck_ends full left (Later (Begins event) rest left' q) e = struck_ends rest left' q e
struck_ends full left (Later (ChangesMode mode term) rest left' q) e = struck_ends rest left' q e
struck_ends full left (Later (Drops member cause) rest left' q) e = struck_ends rest left' q e
struck_ends full left (Later (Sends frame) rest left' q) e = struck_ends rest left' q e
struck_ends full left (Later (Replies answer) rest left' q) e = struck_ends rest left' q e
struck_ends full left (Later (Notes note) rest left' q) e = struck_ends rest left' q e

-- ---- the acts

settled_last : (k : Bool) (l : Log) (is : List Item) → EndsAtFault is → IsUnstruck (acts_of l) → acts_of (added l (map (settled_item k) is)) ≡ settled k (acts_of (added l is))
settled_last k l [] e u = sym (unstruck (acts_of l) k u)
settled_last k l (Opens found ∷ is) e u = settled_last k (And l (Opens found)) is e tt
settled_last k l (Begins event ∷ is) e u = settled_last k (And l (Begins event)) is e u
settled_last k l (Acts act (Answered reply) ∷ is) e u = settled_last k (And l (Acts act (Answered reply))) is e.1 (unstruck_then (acts_of l) act reply u)
settled_last k l (Acts act (Disk was) ∷ is) e u = subst (λ (xs : List Item). acts_of (added (And l (Acts act (Disk k))) (map (settled_item k) xs)) ≡ settled k (acts_of (added (And l (Acts act (Disk was))) xs))) (sym e.0) refl
settled_last k l (Acts act (Crashed was) ∷ is) e u = subst (λ (xs : List Item). acts_of (added (And l (Acts act (Crashed k))) (map (settled_item k) xs)) ≡ settled k (acts_of (added (And l (Acts act (Crashed was))) xs))) (sym e.0) refl
settled_last k l (ChangesMode mode term ∷ is) e u = settled_last k (And l (ChangesMode mode term)) is e u
settled_last k l (Drops member cause ∷ is) e u = settled_last k (And l (Drops member cause)) is e u
settled_last k l (Sends frame ∷ is) e u = settled_last k (And l (Sends frame)) is e u
settled_last k l (Replies answer ∷ is) e u = settled_last k (And l (Replies answer)) is e u
settled_last k l (Notes note ∷ is) e u = settled_last k (And l (Notes note)) is e u

next_ends : (s : Settings) (life : Life) (event : Event) (is : List Item) → IsNext s life event is → EndsAtFault is
next_ends s life event is n = from n.does
  where
    from : (is ≡ items_of s (log_of life) event) ⊎ IsStruck (items_of s (log_of life) event) is → EndsAtFault is
    from (inl e) = faultless_ends is (ap has_fault e ∙ no_fault s (log_of life) event)
    from (inr q) = struck_ends (items_of s (log_of life) event) is q (no_fault s (log_of life) event)

pub settled_acts : (s : Settings) (k : Bool) (life : Life) → Follows s life → acts_of (log_of (settled_life k life)) ≡ settled k (acts_of (log_of life))
settled_acts s k NotBegun f = refl
settled_acts s k (Opened life found) f = refl
settled_acts s k (Lived life (Did event is)) f = settled_last k (And (log_of life) (Begins event)) is (next_ends s life event is f.1) (unstruck_life s life f.0 f.1.up)
settled_acts s k (Lived life (Gone conn)) f = sym (unstruck (acts_of (log_of life)) k (unstruck_life s life f.0 f.1))
settled_acts s k (Lived life (Bad conn fault)) f = sym (unstruck (acts_of (log_of life)) k (unstruck_life s life f.0 f.1))
settled_acts s k (Lived life NoMemory) f = sym (unstruck (acts_of (log_of life)) k (unstruck_life s life f.0 f.1))
settled_acts s k (Lived life (Unread conn)) f = sym (unstruck (acts_of (log_of life)) k (unstruck_life s life f.0 f.1))

-- ---- the policy

settled_none : (k : Bool) (is : List Item) → has_fault is ≡ false → map (settled_item k) is ≡ is
settled_none k [] e = refl
settled_none k (Acts act (Answered reply) ∷ is) e = ap (λ (xs : List Item). Acts act (Answered reply) ∷ xs) (settled_none k is e)
settled_none k (Acts act (Disk was) ∷ is) e = absurd (cc)
settled_none k (Acts act (Crashed was) ∷ is) e = absurd (cc)
settled_none k (Opens found ∷ is) e = ap (λ (xs : List Item). Opens found ∷ xs) (settled_none k is e)
settled_none k (Begins event ∷ is) e = ap (λ (xs : List Item). Begins event ∷ xs) (settled_none k is e)
settled_none k (ChangesMode mode term ∷ is) e = ap (λ (xs : List Item). ChangesMode mode term ∷ xs) (settled_none k is e)
settled_none k (Drops member cause ∷ is) e = ap (λ (xs : List Item). Drops member cause ∷ xs) (settled_none k is e)
settled_none k (Sends frame ∷ is) e = ap (λ (xs : List Item). Sends frame ∷ xs) (settled_none k is e)
settled_none k (Replies answer ∷ is) e = ap (λ (xs : List Item). Replies answer ∷ xs) (settled_none k is e)
settled_none k (Notes note ∷ is) e = ap (λ (xs : List Item). Notes note ∷ xs) (settled_none k is e)

settled_here : (k : Bool) (act : Act) (sends : Option Message) (wins : Bool) (rest : List Item) (fault : Outcome) → writes act ≡ true → is_fault fault ≡ true → IsStruck (Acts act (Answered (Taken sends wins)) ∷ rest) (settled_item k (Acts act fault) ∷ [])
settled_here k act sends wins rest (Answered reply) w f = absurd (cc)
settled_here k act sends wins rest (Disk was) w f = Here act sends wins rest (Disk k) w refl
settled_here k act sends wins rest (Crashed was) w f = Here act sends wins rest (Crashed k) w refl

settled_answered : (k : Bool) (act : Act) (o : Outcome) → is_fault o ≡ false → Acts act o ≡ settled_item k (Acts act o)
settled_answered k act (Answered reply) e = refl
settled_answered k act (Disk was) e = absurd (cc)
settled_answered k act (Crashed was) e = absurd (cc)

settled_struck : (k : Bool) (full left : List Item) → IsStruck full left → has_fault full ≡ false → IsStruck full (map (settled_item k) left)
settled_struck k full left (Here act sends wins rest fault w f) e = settled_here k act sends wins rest fault w f
settled_struck k full left (Later (Acts act o) rest left' q) e =
    let parts = or_parts (is_fault o) (has_fault rest) e in
    subst (λ (i : Item). IsStruck (Acts act o ∷ rest) (i ∷ map (settled_item k) left')) (settled_answered k act o parts.0) (Later (Acts act o) rest _ (settled_struck k rest left' q parts.1))
settled_struck k full left (Later (Opens found) rest left' q) e = Later (Opens found) rest _ (settled_struck k rest left' q e)
settled_struck k full left (Later (Begins event) rest left' q) e = Later (Begins event) rest _ (settled_struck k rest left' q e)
settled_struck k full left (Later (ChangesMode mode term) rest left' q) e = Later (ChangesMode mode term) rest _ (settled_struck k rest left' q e)
settled_struck k full left (Later (Drops member cause) rest left' q) e = Later (Drops member cause) rest _ (settled_struck k rest left' q e)
settled_struck k full left (Later (Sends frame) rest left' q) e = Later (Sends frame) rest _ (settled_struck k rest left' q e)
settled_struck k full left (Later (Replies answer) rest left' q) e = Later (Replies answer) rest _ (settled_struck k rest left' q e)
settled_struck k full left (Later (Notes note) rest left' q) e = Later (Notes note) rest _ (settled_struck k rest left' q e)

settled_next : (s : Settings) (k : Bool) (life : Life) (event : Event) (is : List Item) → IsNext s life event is → IsNext s life event (map (settled_item k) is)
settled_next s k life event is n = record { up = n.up; start = n.start; does = from n.does }
  where
    none : has_fault (items_of s (log_of life) event) ≡ false
    none = no_fault s (log_of life) event

    from : (is ≡ items_of s (log_of life) event) ⊎ IsStruck (items_of s (log_of life) event) is → (map (settled_item k) is ≡ items_of s (log_of life) event) ⊎ IsStruck (items_of s (log_of life) event) (map (settled_item k) is)
    from (inl e) = inl (ap (λ (xs : List Item). map (settled_item k) xs) e ∙ settled_none k (items_of s (log_of life) event) none)
    from (inr q) = inr (settled_struck k (items_of s (log_of life) event) is q none)

pub settled_follows : (s : Settings) (k : Bool) (life : Life) → Follows s life → Follows s (settled_life k life)
settled_follows s k NotBegun f = f
settled_follows s k (Opened life found) f = f
settled_follows s k (Lived life (Did event is)) f = (f.0, settled_next s k life event is f.1)
settled_follows s k (Lived life (Gone conn)) f = f
settled_follows s k (Lived life (Bad conn fault)) f = f
settled_follows s k (Lived life NoMemory) f = f
settled_follows s k (Lived life (Unread conn)) f = f
