-- For the contracts inside: what is within the limits: numbers of at most 2^62, states and settings as they can be spelled.
use Rattle.std.specs.Prelude.{◌≤◌, Option, None, Some, List}
use Rattle.std.specs.List.{AllByRecursion}
use Rattle.cluster_state.specs.Field.{last_number}
use Rattle.cluster_state.specs.declared.state.Kept.{Kept}
use Rattle.cluster_state.specs.declared.state.StateId.{StateId}
use Rattle.cluster_state.specs.Settings.{IsSettings}
use Rattle.cluster_state.specs.States.{IsFit}
use Rattle.wire_frames.specs.declared.frame.WireMessage.{WireMessage}
use Rattle.wire_frames.specs.declared.frame.WireMessage.TheVariants as message
use Rattle.wire_frames.specs.Messages.{IsFitId}
use Rattle.wire_frames.specs.Frames.{IsFitFrame}
use Rattle.pre_vote.specs.Rounds.{Round}
use Rattle.master_tasks.specs.declared.waiting.Waiting.{Waiting}
use Rattle.master_tasks.specs.Fitting.{HaveGoodSettings}
use Rattle.world_model.specs.NodeState.{NodeState}
use Rattle.policy_model.specs.declared.settings.Settings.{Settings}
use Rattle.policy_model.specs.Events.{Event, Start, Tick, FrameCame, LineCame, PeerGone, Item}
use Rattle.policy_model.specs.Entries.{frames_of}
use Rattle.policy_model.specs.Views.{View}
use Rattle.policy_model.specs.Moves.{opened, moved_all}
use Rattle.policy_model.specs.Rules.{next_of}

-- the terms of a round of pre-votes
abbrev pub IsFitRound : Option Round → Type 0
IsFitRound None = Unit {0}
IsFitRound (Some round) = round.greatest ≤ last_number

-- a node: its term, what it has accepted and applied, its round, and the requests that wait
pub record AreFit (node : NodeState) (applied : StateId) (round : Option Round) (waiting : List Waiting) : Type 0 where
  pub term : node.term ≤ last_number
  pub accepted : IsFit node.accepted
  pub older : node.accepted.term ≤ node.term
  pub settings : IsSettings node.accepted.value.settings
  pub applied_id : IsFitId applied
  pub terms : IsFitRound round
  pub good : HaveGoodSettings waiting

abbrev pub IsFitView : View → Type 0
IsFitView v = AreFit v.node v.applied v.round v.tasks.waiting

-- a record that an opening finds
pub record IsFitKept (found : Kept) : Type 0 where
  pub term : found.term ≤ last_number
  pub accepted : IsFit found.accepted
  pub older : found.accepted.term ≤ found.term
  pub settings : IsSettings found.accepted.value.settings

-- what comes to a node
abbrev pub IsFitEvent : Event → Type 0
IsFitEvent Start = Unit {0}
IsFitEvent (Tick now word) = Unit {0}
IsFitEvent (FrameCame frame) = IsFitFrame frame
IsFitEvent (LineCame conn line) = Unit {0}
IsFitEvent (PeerGone peer) = Unit {0}

-- a published state holds settings, as each state in memory does
abbrev pub HoldsSettings : WireMessage → Type 0
HoldsSettings (message.Publish state) = IsSettings state.value.settings
HoldsSettings m = Unit {0}

abbrev pub EventHoldsSettings : Event → Type 0
EventHoldsSettings Start = Unit {0}
EventHoldsSettings (Tick now word) = Unit {0}
EventHoldsSettings (FrameCame frame) = HoldsSettings frame.message
EventHoldsSettings (LineCame conn line) = Unit {0}
EventHoldsSettings (PeerGone peer) = Unit {0}

-- what a node that was v sends by these items, and what it is after them
pub record StaysFit (s : Settings) (v : View) (items : List Item) : Type 0 where
  pub frames : AllByRecursion IsFitFrame (frames_of items)
  pub after : IsFitView (moved_all s v items)

-- a node within the limits to which what is within the limits comes sends and becomes only what is
abbrev pub LawStaysFit : Type 0
LawStaysFit = (s : Settings) (v : View) (event : Event) → IsFitView v → IsFitEvent event → EventHoldsSettings event
    → StaysFit s v (next_of s v event)

-- so is a node that was just opened with such a record
abbrev pub LawOpenedIsFit : Type 0
LawOpenedIsFit = (s : Settings) (found : Kept) → IsFitKept found → IsFitView (opened s found)
