-- The acts of a life that follows the policy follow each other.
use Rattle.std.proofs.Common.{◌≡◌, ℕ, true, false, not, List, [], ◌∷◌, ◌++◌, refl, sym, ap, subst, ◌∙◌, ◌⊎◌, inl, inr}
use Rattle.std.proofs.lemmas.Bool.{both_ways}
use Rattle.std.proofs.Math.Bool.{or-true}
use Rattle.world_model.specs.declared.acts.Act.{Act}
use Rattle.world_model.specs.declared.acts.ActReply.{ActReply}
use Rattle.world_model.specs.declared.acts.ActReply.TheVariants.{Taken, Refused, Stopped}
use Rattle.world_model.specs.declared.acts.Outcome.{Outcome}
use Rattle.world_model.specs.declared.acts.Outcome.TheVariants.{Answered, Disk, Crashed}
use Rattle.world_model.specs.Acts.{Then, is_ok}
use Rattle.world_model.specs.NodeState.{NodeState}
use Rattle.world_model.specs.Replies.{reply_at, is_taken, writes, IsOutcomeAt}
use Rattle.world_model.specs.Moves.{is_opening}
use Rattle.world_model.specs.Histories.{IsLocal, is_down}
use Rattle.world_model.proofs.Assemble.{goes_on_always}
use Rattle.policy_model.specs.declared.settings.Settings.{Settings}
use Rattle.policy_model.specs.Events.{Event, Item, Log, Opens, Begins, Acts, ChangesMode, Drops, Sends, Replies, Notes, And, added, acts_of}
use Rattle.policy_model.specs.Entries.{Life, NotBegun, Opened, Lived, Did, Gone, Bad, NoMemory, Unread, log_of}
use Rattle.policy_model.specs.Views.{View, view_of}
use Rattle.policy_model.specs.Moves.{moved, view_of-And}
use Rattle.policy_model.specs.Local.{IsAnswered, ByAct, ByQuiet, Ended, is_quiet}
use Rattle.policy_model.specs.Follows.{Follows, IsNext, IsStruck, Here, Later, without_output, is_fault, has_fault, is_struck, items_of}
use Rattle.policy_model.proofs.Answering.{answered-next}

-- the same by recursion
abbrev pub AreAnswered : Settings → View → List Item → Type 0
AreAnswered s v [] = Unit {0}
AreAnswered s v (Opens found ∷ is) = ⊥
AreAnswered s v (Begins event ∷ is) = ⊥
AreAnswered s v (Acts act o ∷ is) =
    (o ≡ Answered (reply_at s.me v.node act)) × (is_opening act ≡ false) × AreAnswered s (moved s v (Acts act o)) is
AreAnswered s v (ChangesMode mode term ∷ is) = AreAnswered s (moved s v (ChangesMode mode term)) is
AreAnswered s v (Drops member cause ∷ is) = AreAnswered s (moved s v (Drops member cause)) is
AreAnswered s v (Sends frame ∷ is) = AreAnswered s v is
AreAnswered s v (Replies answer ∷ is) = AreAnswered s v is
AreAnswered s v (Notes note ∷ is) = AreAnswered s (moved s v (Notes note)) is

quietly : (s : Settings) (v : View) (i : Item) (is : List Item) → is_quiet i ≡ true → AreAnswered s (moved s v i) is → AreAnswered s v (i ∷ is)
quietly s v (Opens found) is e a = cc
quietly s v (Begins event) is e a = cc
quietly s v (Acts act o) is e a = cc
quietly s v (ChangesMode mode term) is e a = a
quietly s v (Drops member cause) is e a = a
quietly s v (Sends frame) is e a = a
quietly s v (Replies answer) is e a = a
quietly s v (Notes note) is e a = a

are_answered : (s : Settings) (v : View) (is : List Item) → IsAnswered s v is → AreAnswered s v is
are_answered s v xs (Ended u) = tt
are_answered s v xs (ByAct u act is e a) = (refl, e, are_answered s _ is a)
are_answered s v xs (ByQuiet u i is e a) = quietly s u i is e (are_answered s (moved s u i) is a)

pub record Fine (s : Settings) (l : Log) : Type 0 where
  pub local : IsLocal s.me (acts_of l)
  pub up : is_down (acts_of l) ≡ false

-- an act that is answered, or struck where it would be taken
acted_local : (s : Settings) (l : Log) (act : Act) (o : Outcome) → Fine s l → is_opening act ≡ false → IsOutcomeAt s.me (view_of s l).node act o → IsLocal s.me (acts_of (And l (Acts act o)))
acted_local s l act o f e a =
    (f.local, record { follows = a; up = λ h. absurd (cc) }, goes_on_always (acts_of l) act e)

-- after its items a life is fine
pub fine_after : (s : Settings) (l : Log) (v : View) (is : List Item) → v ≡ view_of s l → AreAnswered s v is → Fine s l → Fine s (added l is)
fine_after s l v [] h a f = f
fine_after s l v (Opens found ∷ is) h a f = absurd a
fine_after s l v (Begins event ∷ is) h a f = absurd a
fine_after s l v (Acts act o ∷ is) h a f =
    let own : not (is_opening act) ≡ true = rw a.1 refl in
    let follows : IsOutcomeAt s.me (view_of s l).node act o = subst (λ (x : Outcome). IsOutcomeAt s.me (view_of s l).node act x) (sym a.0) (ap (λ (u : View). reply_at s.me u.node act) h) in
    fine_after s (And l (Acts act o)) (moved s v (Acts act o)) is (ap (λ (u : View). moved s u (Acts act o)) h ∙ sym (view_of-And s l (Acts act o) own)) a.2
    (record { local = acted_local s l act o f a.1 follows; up = subst (λ (x : Outcome). is_down (Then (acts_of l) act x) ≡ false) (sym a.0) refl })
fine_after s l v (ChangesMode mode term ∷ is) h a f =
    fine_after s (And l (ChangesMode mode term)) (moved s v (ChangesMode mode term)) is (ap (λ (u : View). moved s u (ChangesMode mode term)) h ∙ sym (view_of-And s l (ChangesMode mode term) refl)) a
    (record { local = f.local; up = f.up })
fine_after s l v (Drops member cause ∷ is) h a f =
    fine_after s (And l (Drops member cause)) (moved s v (Drops member cause)) is (ap (λ (u : View). moved s u (Drops member cause)) h ∙ sym (view_of-And s l (Drops member cause) refl)) a
    (record { local = f.local; up = f.up })
fine_after s l v (Sends frame ∷ is) h a f = fine_after s (And l (Sends frame)) v is h a (record { local = f.local; up = f.up })
fine_after s l v (Replies answer ∷ is) h a f = fine_after s (And l (Replies answer)) v is h a (record { local = f.local; up = f.up })
fine_after s l v (Notes note ∷ is) h a f =
    fine_after s (And l (Notes note)) (moved s v (Notes note)) is (ap (λ (u : View). moved s u (Notes note)) h ∙ sym (view_of-And s l (Notes note) refl)) a
    (record { local = f.local; up = f.up })

taken_of : (r : ActReply) → is_ok (Answered r) ≡ is_taken r
taken_of (Taken sends wins) = refl
taken_of (Refused cause) = refl
taken_of Stopped = refl

struck_follows : (me : List ℕ) (p : NodeState) (act : Act) (o : Outcome) → is_taken (reply_at me p act) ≡ true → writes act ≡ true → is_fault o ≡ true → IsOutcomeAt me p act o
struck_follows me p act (Answered reply) t w f = cc
struck_follows me p act (Disk kept) t w f = (t, w)
struck_follows me p act (Crashed kept) t w f = (t, w)

-- an event that is struck is local too
struck_local : (s : Settings) (l : Log) (v : View) (is left : List Item) → v ≡ view_of s l → AreAnswered s v is → IsStruck is left → Fine s l → IsLocal s.me (acts_of (added l left))
struck_local s l v is left h a (Here act sends wins rest o w e) f =
    let taken : is_taken (reply_at s.me v.node act) ≡ true =
    sym (taken_of (reply_at s.me v.node act)) ∙ ap (λ (x : Outcome). is_ok x) (sym a.0) in
    acted_local s l act o f a.1
    (struck_follows s.me (view_of s l).node act o (subst (λ (u : View). is_taken (reply_at s.me u.node act) ≡ true) h taken) w e)
struck_local s l v is left h a (Later (Opens found) rest left' q) f = absurd a
struck_local s l v is left h a (Later (Begins event) rest left' q) f = absurd a
struck_local s l v is left h a (Later (Acts act o) rest left' q) f =
    let own : not (is_opening act) ≡ true = rw a.1 refl in
    let follows : IsOutcomeAt s.me (view_of s l).node act o = subst (λ (x : Outcome). IsOutcomeAt s.me (view_of s l).node act x) (sym a.0) (ap (λ (u : View). reply_at s.me u.node act) h) in
    struck_local s (And l (Acts act o)) (moved s v (Acts act o)) rest left' (ap (λ (u : View). moved s u (Acts act o)) h ∙ sym (view_of-And s l (Acts act o) own)) a.2 q
    (record { local = acted_local s l act o f a.1 follows; up = subst (λ (x : Outcome). is_down (Then (acts_of l) act x) ≡ false) (sym a.0) refl })
struck_local s l v is left h a (Later (ChangesMode mode term) rest left' q) f =
    struck_local s (And l (ChangesMode mode term)) (moved s v (ChangesMode mode term)) rest left' (ap (λ (u : View). moved s u (ChangesMode mode term)) h ∙ sym (view_of-And s l (ChangesMode mode term) refl)) a q
    (record { local = f.local; up = f.up })
struck_local s l v is left h a (Later (Drops member cause) rest left' q) f =
    struck_local s (And l (Drops member cause)) (moved s v (Drops member cause)) rest left' (ap (λ (u : View). moved s u (Drops member cause)) h ∙ sym (view_of-And s l (Drops member cause) refl)) a q
    (record { local = f.local; up = f.up })
struck_local s l v is left h a (Later (Sends frame) rest left' q) f = struck_local s l v rest left' h a q f
struck_local s l v is left h a (Later (Replies answer) rest left' q) f = struck_local s l v rest left' h a q f
struck_local s l v is left h a (Later (Notes note) rest left' q) f =
    struck_local s (And l (Notes note)) (moved s v (Notes note)) rest left' (ap (λ (u : View). moved s u (Notes note)) h ∙ sym (view_of-And s l (Notes note) refl)) a q
    (record { local = f.local; up = f.up })

pub fault_later : (i : Item) (left : List Item) → has_fault left ≡ true → has_fault (without_output i ++ left) ≡ true
fault_later (Opens found) left h = h
fault_later (Begins event) left h = h
fault_later (Acts act o) left h = rw h (or-true (is_fault o))
fault_later (ChangesMode mode term) left h = h
fault_later (Drops member cause) left h = h
fault_later (Sends frame) left h = h
fault_later (Replies answer) left h = h
fault_later (Notes note) left h = h

pub struck_fault : (is left : List Item) → IsStruck is left → has_fault left ≡ true
struck_fault is left (Here act sends wins rest o w e) = rw e refl
struck_fault is left (Later i rest left' q) = fault_later i left' (struck_fault rest left' q)

pub record IsLived (s : Settings) (life : Life) : Type 0 where
  pub local : IsLocal s.me (acts_of (log_of life))
  pub up : is_struck life ≡ false → is_down (acts_of (log_of life)) ≡ false

lived_event : (s : Settings) (life : Life) (e : Event) (is : List Item) → IsLived s life → IsNext s life e is → IsLived s (Lived life (Did e is))
lived_event s life e is h n = by_way n.does where
  begins : Fine s (And (log_of life) (Begins e))
  begins = record { local = h.local; up = h.up n.up }

  answered : AreAnswered s (view_of s (And (log_of life) (Begins e))) (items_of s (log_of life) e)
  answered = are_answered s (view_of s (And (log_of life) (Begins e))) (items_of s (log_of life) e) (answered-next s (view_of s (And (log_of life) (Begins e))) e)

  by_way : (is ≡ items_of s (log_of life) e) ⊎ IsStruck (items_of s (log_of life) e) is → IsLived s (Lived life (Did e is))
  by_way (inl same) =
      let fine = fine_after s (And (log_of life) (Begins e)) (view_of s (And (log_of life) (Begins e))) (items_of s (log_of life) e) refl answered begins in
      let now : Fine s (added (And (log_of life) (Begins e)) is) = subst (λ (x : List Item). Fine s (added (And (log_of life) (Begins e)) x)) (sym same) fine in
      record { local = now.local; up = λ u. now.up }
  by_way (inr struck) = record {
    local = struck_local s (And (log_of life) (Begins e)) (view_of s (And (log_of life) (Begins e))) (items_of s (log_of life) e) is refl answered struck begins;
    up = λ u. absurd (both_ways _ u (struck_fault (items_of s (log_of life) e) is struck));
  }

lived : (s : Settings) (life : Life) → Follows s life → IsLived s life
lived s NotBegun f = record { local = tt; up = λ u. refl }
lived s (Opened life found) f =
    let before = lived s life f.0 in
    record { local = (before.local, record { follows = refl; up = λ h. refl }, f.1); up = λ u. refl }
lived s (Lived life (Did e is)) f = lived_event s life e is (lived s life f.0) f.1
lived s (Lived life (Gone conn)) f = let before = lived s life f.0 in record { local = before.local; up = before.up }
lived s (Lived life (Bad conn fault)) f = let before = lived s life f.0 in record { local = before.local; up = before.up }
lived s (Lived life NoMemory) f = let before = lived s life f.0 in record { local = before.local; up = before.up }
lived s (Lived life (Unread conn)) f = let before = lived s life f.0 in record { local = before.local; up = before.up }

-- the acts of a life that follows the policy follow each other
pub life_local : (s : Settings) (life : Life) → Follows s life → IsLocal s.me (acts_of (log_of life))
life_local s life f = (lived s life f).local
