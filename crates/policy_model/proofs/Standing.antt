-- What a node is after an event and after an opening.
use Rattle.std.proofs.Common.{◌≡◌, true, false, None, List, [], ◌∷◌, refl, ap, ◌∙◌}
use Rattle.std.proofs.lemmas.Bool.{and_parts}
use Rattle.cluster_state.specs.declared.state.Kept.{Kept}
use Rattle.world_model.specs.declared.acts.Act.TheVariants.{Open}
use Rattle.world_model.specs.declared.acts.ActReply.TheVariants.{Taken}
use Rattle.world_model.specs.declared.acts.Outcome.TheVariants.{Answered}
use Rattle.world_model.specs.Acts.{NodeHistory, NoActs, Then}
use Rattle.world_model.specs.NodeState.{NodeState, node_state, opened as opened_acts}
use Rattle.world_model.specs.Histories.{ContinuesUnlessFirst}
use Rattle.policy_model.specs.declared.settings.Settings.{Settings}
use Rattle.policy_model.specs.Events.{Event, Item, Log, And, added, acts_of, Opens, Begins, Acts, ChangesMode, Drops, Sends, Replies, Notes}
use Rattle.policy_model.specs.Entries.{Life, Lived, Did, log_of}
use Rattle.policy_model.specs.Views.{View, view_of}
use Rattle.policy_model.specs.Moves.{opened, moved, moved_all, is_own, are_own, view_of-And}
use Rattle.policy_model.specs.Local.{IsAnswered, Ended, ByAct, ByQuiet, is_quiet}
use Rattle.policy_model.specs.Follows.{items_of}
use Rattle.policy_model.proofs.Answering.{answered-next}

-- the look-backs over more items are those of before, moved by the items
pub view_of-added : (s : Settings) (l : Log) (is : List Item) → are_own is ≡ true → view_of s (added l is) ≡ moved_all s (view_of s l) is
view_of-added s l [] h = refl
view_of-added s l (i ∷ is) h =
    let parts = and_parts (is_own i) (are_own is) h in
    view_of-added s (And l i) is parts.1 ∙ ap (λ (v : View). moved_all s v is) (view_of-And s l i parts.0)

pub own-quiet : (i : Item) → is_quiet i ≡ true → is_own i ≡ true
own-quiet (Opens found) h = h
own-quiet (Begins event) h = refl
own-quiet (Acts act o) h = cc
own-quiet (ChangesMode mode term) h = refl
own-quiet (Drops member cause) h = refl
own-quiet (Sends frame) h = refl
own-quiet (Replies answer) h = refl
own-quiet (Notes note) h = refl

-- the items of an event are no openings
pub own-answered : (s : Settings) (v : View) (is : List Item) → IsAnswered s v is → are_own is ≡ true
own-answered s v xs (Ended u) = refl
own-answered s v xs (ByAct u act is e a) = rw e (own-answered s _ is a)
own-answered s v xs (ByQuiet u i is e a) = rw (own-quiet i e) (own-answered s (moved s u i) is a)

pub event_moves : (s : Settings) (life : Life) (event : Event) → view_of s (log_of (Lived life (Did event (items_of s (log_of life) event)))) ≡ moved_all s (moved s (view_of s (log_of life)) (Begins event)) (items_of s (log_of life) event)
event_moves s life event =
    let l = And (log_of life) (Begins event) in
    let items = items_of s (log_of life) event in
    view_of-added s l items (own-answered s (view_of s l) items (answered-next s (view_of s l) event))
    ∙ ap (λ (v : View). moved_all s v items) (view_of-And s (log_of life) (Begins event) refl)

-- a record that was kept determines the node
node_state-opened : (g : NodeHistory) (found : Kept) → ContinuesUnlessFirst g (Open found) → node_state (Then g (Open found) (Answered (Taken None false))) ≡ node_state (opened_acts found)
node_state-opened NoActs found h = refl
node_state-opened (Then g a o) found h = rw h refl

pub opening_moves : (s : Settings) (life : Life) (found : Kept) → ContinuesUnlessFirst (acts_of (log_of life)) (Open found) → view_of s (And (log_of life) (Opens found)) ≡ opened s found
opening_moves s life found h = ap (λ (n : NodeState). record (opened s found) { node = n }) (node_state-opened (acts_of (log_of life)) found h)
