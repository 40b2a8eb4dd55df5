-- For the contracts inside: how an event of a node ends: what the node stands for then, and what it has to show.
use Rattle.std.specs.Prelude.{◌≡◌, Bool, true, false, []}
use Rattle.std.specs.List.{AllByRecursion}
use Rattle.wire_frames.specs.Frames.{IsFitFrame}
use Rattle.replay_node.specs.NodeWorld.{NodeWorld, needs_opening}
use Rattle.replay_node.specs.Stands.{CrashedStands}
use Rattle.policy_model.specs.declared.settings.Settings.{Settings}
use Rattle.policy_model.specs.declared.events.Event.{Event}
use Rattle.policy_model.specs.Entries.{Life, Lived, Did, log_of, deeds_of, drops_of, frames_of, replies_of}
use Rattle.policy_model.specs.Follows.{IsStruck, items_of}
use Rattle.coordinator.specs.Steps.{IsSealed}
use Rattle.coordinator.specs.declared.step.Sealed.{Sealed}
use Rattle.coordinator.specs.declared.step.Entries.{Entries}
use Rattle.event_text.specs.Deeds.{as_left}
use Rattle.replay_node.specs.Course.{NodeCourse, node_played}
use Rattle.schedule_replay.specs.OpenNodes.{Node, OpenFor}
use Rattle.schedule_replay.specs.declared.cluster.stepping.Ended.{Ended}
use Rattle.schedule_replay.specs.declared.cluster.stepping.Ended.TheVariants as ended

module _ (s : Settings) (life : Life) (x : NodeWorld) (event : Event) where
  -- what the node does at the event, as far as its disk lets it
  abbrev pub own_course : NodeCourse
  own_course = node_played s.me x (items_of s (log_of life) event)

  abbrev pub own_life : Life
  own_life = Lived life (Did event own_course.items)

  -- all of it was done, and the node runs on
  pub record WholeEvent (new : Node) (sealed : Sealed) : Type 0 where
    pub runs : needs_opening x ≡ false
    pub all : own_course.items ≡ items_of s (log_of life) event
    pub stands : OpenFor s new own_life own_course.node
    pub still_runs : needs_opening own_course.node ≡ false
    pub seals : IsSealed event own_course.items sealed
    pub fit : AllByRecursion IsFitFrame sealed.sends.list

  -- it goes up to an act that the disk struck, inside which the node crashed or did not, and sends nothing
  pub record StruckEvent (crashed : Bool) (entries : Entries) : Type 0 where
    pub runs : needs_opening x ≡ false
    pub struck : IsStruck (items_of s (log_of life) event) own_course.items
    pub deeds : as_left crashed entries.deeds.list ≡ deeds_of own_course.items
    pub drops : entries.drops.list ≡ drops_of own_course.items
    pub frames : frames_of own_course.items ≡ []
    pub replies : replies_of own_course.items ≡ []
    pub waits : needs_opening own_course.node ≡ true

  abbrev pub EndsSo : (old new : Node) → Ended → Type 0
  EndsSo old new (ended.Whole sealed) = WholeEvent new sealed
  EndsSo old new (ended.Failed entries) = StruckEvent false entries × OpenFor s new own_life own_course.node
  EndsSo old new (ended.Crashed entries) = StruckEvent true entries × CrashedStands s.me new.core own_course.node
  EndsSo old new ended.Stopped = (needs_opening x ≡ true) × (new ≡ old)

-- whatever the node stood for
abbrev pub Ends : (old new : Node) → Event → Ended → Type 0
Ends old new event e = (s : Settings) (life : Life) (x : NodeWorld) → OpenFor s old life x → EndsSo s life x event old new e
