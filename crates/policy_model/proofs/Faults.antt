-- What the rules make of an event has no fault, and what is struck shows nothing.
use Rattle.std.proofs.Common.{◌≡◌, true, false, List, [], ◌∷◌, refl, ◌∙◌}
use Rattle.std.specs.List.{flat_map}
use Rattle.policy_model.specs.declared.settings.Settings.{Settings}
use Rattle.policy_model.specs.Events.{Event, Item, Opens, Begins, Acts, ChangesMode, Drops, Sends, Replies, Notes}
use Rattle.policy_model.specs.Entries.{frames_in, replies_of}
use Rattle.policy_model.specs.Views.{View}
use Rattle.policy_model.specs.Local.{IsAnswered, Ended, ByAct, ByQuiet, is_quiet}
use Rattle.policy_model.specs.Follows.{has_fault, IsStruck, Here, Later}
use Rattle.policy_model.specs.Rules.{next_of}
use Rattle.policy_model.proofs.Answering.{answered-next}

quiet-fault : (i : Item) (is : List Item) → is_quiet i ≡ true → has_fault (i ∷ is) ≡ has_fault is
quiet-fault (Opens found) is h = refl
quiet-fault (Begins event) is h = refl
quiet-fault (Acts act o) is h = absurd (cc)
quiet-fault (ChangesMode mode term) is h = refl
quiet-fault (Drops member cause) is h = refl
quiet-fault (Sends frame) is h = refl
quiet-fault (Replies answer) is h = refl
quiet-fault (Notes note) is h = refl

answered-fault : (s : Settings) (v : View) (is : List Item) → IsAnswered s v is → has_fault is ≡ false
answered-fault s v xs (Ended u) = refl
answered-fault s v xs (ByAct u act is e a) = answered-fault s _ is a
answered-fault s v xs (ByQuiet u i is e a) = quiet-fault i is e ∙ answered-fault s _ is a

pub next-fault : (s : Settings) (v : View) (event : Event) → has_fault (next_of s v event) ≡ false
next-fault s v event = answered-fault s v (next_of s v event) (answered-next s v event)

pub struck-frames : (is left : List Item) → IsStruck is left → flat_map frames_in left ≡ []
struck-frames is left (Here act sends wins rest fault w f) = refl
struck-frames is left (Later (Opens found) rest some q) = struck-frames rest some q
struck-frames is left (Later (Begins event) rest some q) = struck-frames rest some q
struck-frames is left (Later (Acts act o) rest some q) = struck-frames rest some q
struck-frames is left (Later (ChangesMode mode term) rest some q) = struck-frames rest some q
struck-frames is left (Later (Drops member cause) rest some q) = struck-frames rest some q
struck-frames is left (Later (Sends frame) rest some q) = struck-frames rest some q
struck-frames is left (Later (Replies answer) rest some q) = struck-frames rest some q
struck-frames is left (Later (Notes note) rest some q) = struck-frames rest some q

pub struck-replies : (is left : List Item) → IsStruck is left → replies_of left ≡ []
struck-replies is left (Here act sends wins rest fault w f) = refl
struck-replies is left (Later (Opens found) rest some q) = struck-replies rest some q
struck-replies is left (Later (Begins event) rest some q) = struck-replies rest some q
struck-replies is left (Later (Acts act o) rest some q) = struck-replies rest some q
struck-replies is left (Later (ChangesMode mode term) rest some q) = struck-replies rest some q
struck-replies is left (Later (Drops member cause) rest some q) = struck-replies rest some q
struck-replies is left (Later (Sends frame) rest some q) = struck-replies rest some q
struck-replies is left (Later (Replies answer) rest some q) = struck-replies rest some q
struck-replies is left (Later (Notes note) rest some q) = struck-replies rest some q
