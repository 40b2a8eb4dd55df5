-- For the contracts inside: how much a node does at one event at most.
use Rattle.std.specs.Prelude.{ℕ, ◌+◌, ◌≤◌, Option, List, [], ◌∷◌, length}
use Rattle.voting_config.specs.Ids.{most_ids}
use Rattle.cluster_state.specs.declared.state.Kept.{Kept}
use Rattle.wire_frames.specs.declared.frame.WireMessage.{WireMessage}
use Rattle.wire_frames.specs.declared.frame.WireMessage.TheVariants as message
use Rattle.peer_finder.specs.Peers.{PeerFinder, most_peers}
use Rattle.publication.specs.Publications.{Publication}
use Rattle.fault_checks.specs.Followers.{Followers}
use Rattle.master_tasks.specs.Queue.{most_open}
use Rattle.world_model.specs.NodeState.{NodeState}
use Rattle.policy_model.specs.declared.settings.Settings.{Settings}
use Rattle.policy_model.specs.Events.{Event, Start, Tick, FrameCame, LineCame, PeerGone, Item, Acts}
use Rattle.policy_model.specs.Entries.{deeds_of, frames_of, replies_of}
use Rattle.policy_model.specs.Views.{View}
use Rattle.policy_model.specs.Moves.{opened, moved_all}
use Rattle.policy_model.specs.NextState.{targets_of, responders_of}
use Rattle.policy_model.specs.Rules.{next_of}
use Rattle.policy_model.specs.Follows.{IsStruck}

abbrev pub count_acts : List Item → ℕ
count_acts [] = 0
count_acts (Acts act outcome ∷ is) = count_acts is + 1
count_acts (i ∷ is) = count_acts is

-- three acts, and six deeds with the changes of mode: a join by which the term rises, which wins, and whose state is refused
pub record IsShort (items : List Item) : Type 0 where
  pub acts : count_acts items ≤ 3
  pub deeds : length (deeds_of items) ≤ 6

-- an event is short, also where it doesn't come to its end
abbrev pub LawEventIsShort : Type 0
LawEventIsShort = (s : Settings) (v : View) (event : Event) → IsShort (next_of s v event)

abbrev pub LawStruckIsShort : Type 0
LawStruckIsShort = (s : Settings) (v : View) (event : Event) (left : List Item) → IsStruck (next_of s v event) left → IsShort left

-- few are answered, and few wait on
pub record AnswersFew (s : Settings) (v : View) (items : List Item) : Type 0 where
  pub replies : length (replies_of items) ≤ most_open
  pub waiting : length (moved_all s v items).tasks.waiting ≤ most_open

-- where no more wait than may
abbrev pub LawAnswersFew : Type 0
LawAnswersFew = (s : Settings) (v : View) (event : Event) → length v.tasks.waiting ≤ most_open → AnswersFew s v (next_of s v event)

-- a node whose sets are as small as sets in memory are: the members of its state, its peers, the followers that it watches, and whom its
-- publication goes to
pub record AreSmall (node : NodeState) (finder : PeerFinder) (followers : Followers) (publication : Option Publication) : Type 0 where
  pub members : length node.accepted.value.members ≤ most_ids
  pub peers : length finder.peers ≤ most_peers
  pub watched : length followers.watched ≤ most_ids
  pub targets : length (targets_of publication) ≤ most_ids
  pub responders : length (responders_of publication) ≤ most_ids

abbrev pub IsSmallView : View → Type 0
IsSmallView v = AreSmall v.node v.finder v.followers v.publication

-- a published state has such a set of members, as each state in memory does
abbrev pub HoldsSet : WireMessage → Type 0
HoldsSet (message.Publish state) = length state.value.members ≤ most_ids
HoldsSet m = Unit {0}

abbrev pub EventHoldsSet : Event → Type 0
EventHoldsSet Start = Unit {0}
EventHoldsSet (Tick now word) = Unit {0}
EventHoldsSet (FrameCame frame) = HoldsSet frame.message
EventHoldsSet (LineCame conn line) = Unit {0}
EventHoldsSet (PeerGone peer) = Unit {0}

-- How many frames an event sends at most. At a tick: a candidate that is a quorum alone asks 63 peers for peers and 63 for a pre-vote, and
-- starts 64 joins. A join by which the term rises and that wins: one more than a state goes to.
abbrev pub most_frames : Event → ℕ
most_frames Start = 0
most_frames (Tick now word) = 190
most_frames (FrameCame frame) = 65
most_frames (LineCame conn line) = 64
most_frames (PeerGone peer) = 64

-- few frames, and a node that stays small
pub record SendsFew (s : Settings) (v : View) (event : Event) (items : List Item) : Type 0 where
  pub frames : length (frames_of items) ≤ most_frames event
  pub after : IsSmallView (moved_all s v items)

abbrev pub LawSendsFew : Type 0
LawSendsFew = (s : Settings) (v : View) (event : Event) → IsSmallView v → EventHoldsSet event → SendsFew s v event (next_of s v event)

-- a node that was just opened is small where the members of its record are few
abbrev pub LawOpenedIsSmall : Type 0
LawOpenedIsSmall = (s : Settings) (found : Kept) → length found.accepted.value.members ≤ most_ids → IsSmallView (opened s found)
