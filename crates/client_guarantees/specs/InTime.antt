-- For the contracts inside: that by the second profile the answers are in order of time that speak of a committed state: acks, which name its id,
-- and states that are shown.
use Rattle.std.specs.Prelude.{◌≡◌, ◌≢◌, ◌<◌, ◌⊎◌, ℕ, true, List}
use Rattle.std.specs.List.{Contains}
use Rattle.voting_config.specs.Ids.{Id}
use Rattle.cluster_state.specs.declared.reply.Answer.{Answer}
use Rattle.cluster_state.specs.declared.reply.Answer.TheVariants as answer
use Rattle.cluster_state.specs.declared.reply.Reply.{Reply}
use Rattle.cluster_state.specs.declared.reply.Reply.TheVariants as reply
use Rattle.cluster_state.specs.declared.request.Request.{Request}
use Rattle.cluster_state.specs.declared.state.ClusterState.{ClusterState}
use Rattle.cluster_state.specs.declared.state.Kept.{Kept}
use Rattle.cluster_state.specs.declared.state.StateId.{StateId}
use Rattle.cluster_state.specs.States.{id_of}
use Rattle.master_tasks.specs.declared.waiting.Waiting.{Waiting}
use Rattle.master_tasks.specs.declared.waiting.Outgoing.{Outgoing}
use Rattle.world_model.specs.Acts.{NodeHistory}
use Rattle.world_model.specs.Histories.{History, node_history, IsLegal, IsPrefix}
use Rattle.world_model.specs.Local.{then_run}
use Rattle.world_model.specs.Restarts.{IsAlone, IsLegalFrom}
use Rattle.world_model.specs.Safety.{Published, published, IsCommitted, Descends, IsIdAtMost}
use Rattle.policy_model.specs.declared.settings.Settings.{Settings}
use Rattle.policy_model.specs.declared.events.Event.{Event}
use Rattle.policy_model.specs.Events.{Item, Log, acts_of}
use Rattle.policy_model.specs.Entries.{Life, NotBegun, Opened, Lived, Did, log_of, replies_of}
use Rattle.client_guarantees.specs.Processed.{CameBy}
use Rattle.client_guarantees.specs.Replies.{HasCommitted, IsAcked, IsShown}
use Rattle.client_guarantees.specs.Lasting.{IsPartOf, IsMadeAt, IsThereFrom}
use Rattle.client_guarantees.specs.Laws.{IsRunIn}

-- such a line came since the node was opened last, and this had been its life so far
abbrev pub CameAfter : Life → ℕ → Request → Life → Type 0
CameAfter NotBegun conn request so_far = ⊥
CameAfter (Opened life found) conn request so_far = ⊥
CameAfter (Lived life (Did event items)) conn request so_far =
    (CameBy event conn request × (so_far ≡ life)) ⊎ CameAfter life conn request so_far
CameAfter (Lived life entry) conn request so_far = CameAfter life conn request so_far

-- A moment of the history, told by what all nodes had done by then: the run had come just so far, after what its node did before the run.
pub record IsMoment (h : History) (s : Settings) (before_run : NodeHistory) (so_far : Life) (moment : History) : Type 0 where
  pub part : IsPrefix moment h
  pub acts : node_history moment s.me ≡ then_run before_run (acts_of (log_of so_far))

-- The node published a state of this id after such a line came by this connection: at no moment when it came did a state of this id stand
-- published, by whichever node.
pub record IsPublishedSince (h : History) (s : Settings) (before_run : NodeHistory) (life : Life) (conn : ℕ) (request : Request)
    (id : StateId) : Type 0 where
  pub so_far : Life
  pub came : CameAfter life conn request so_far
  pub as_published : Published
  pub is_in : Contains (published h) as_published
  pub publisher : as_published.publisher ≡ s.me
  pub is_id : id_of as_published.state ≡ id
  pub not_yet : (moment : History) → IsMoment h s before_run so_far moment → (p : Published) → Contains (published moment) p
      → id_of p.state ≢ id

-- at a moment of its life the node made the state, and this request was processed into it
pub record IsProcessedInto (s : Settings) (life : Life) (request : Waiting) (p : Published) : Type 0 where
  pub moment : Log
  pub part : IsPartOf moment (log_of life)
  pub requests : List Waiting
  pub made : IsMadeAt s moment p requests
  pub is_among : Contains requests request

-- Where a request has its place among all: it was processed into a state that the node published after its line came, and the acked state is
-- that one or was made of it: an exclusion may wait for a later configuration.
pub record HasPlace (h : History) (s : Settings) (before_run : NodeHistory) (life : Life) (request : Waiting) (acked : ClusterState) : Type 0 where
  pub id : StateId
  pub since : IsPublishedSince h s before_run life request.conn request.request id
  pub into : IsProcessedInto s life request since.as_published
  pub descends : Descends h since.as_published.state acked

-- what an ack says by the second profile: what any ack says; its state was published after the line came; and the request has its place
pub record IsAckedInTime (h : History) (s : Settings) (before_run : NodeHistory) (life : Life) (conn number : ℕ) (id : StateId) : Type 0 where
  pub ack : IsAcked h s life conn number id
  pub since : IsPublishedSince h s before_run life conn ack.request.request id
  pub place : HasPlace h s before_run life ack.request ack.as_published.state

-- what a state that is shown says by the second profile: what any says; and it was published after the line came that asks for it
pub record IsShownInTime (h : History) (s : Settings) (before_run : NodeHistory) (life : Life) (conn number : ℕ) (state : ClusterState) : Type 0 where
  pub shown : IsShown h life conn number state
  pub since : IsPublishedSince h s before_run life conn shown.request (id_of state)

-- no other answer speaks of committed states
abbrev pub IsAnsweredInTime : History → Settings → NodeHistory → Life → ℕ → ℕ → Answer → Type 0
IsAnsweredInTime h s before_run life conn number (answer.Acked id) = IsAckedInTime h s before_run life conn number id
IsAnsweredInTime h s before_run life conn number (answer.State state) = IsShownInTime h s before_run life conn number state
IsAnsweredInTime h s before_run life conn number other = Unit {0}

abbrev pub IsRepliedInTime : History → Settings → NodeHistory → Life → ℕ → Reply → Type 0
IsRepliedInTime h s before_run life conn (reply.To number answer) = IsAnsweredInTime h s before_run life conn number answer
IsRepliedInTime h s before_run life conn (reply.BadLine fault) = Unit {0}

-- one state is above another and was made of it, by one publication after another
pub record IsMadeAbove (h : History) (older newer : ClusterState) : Type 0 where
  pub above : (older.term < newer.term) ⊎ ((newer.term ≡ older.term) × (older.version < newer.version))
  pub descends : Descends h older newer

-- each reply in the last event of a run of the second profile is such a reply
abbrev pub AnswersAreInTime : History → Type 0
AnswersAreInTime h =
    (s : Settings) → s.policy.second ≡ true
    → (before : Life) (event : Event) (items : List Item) (run : IsRunIn h s (Lived before (Did event items)))
    → (out : Outgoing) → Contains (replies_of items) out → IsRepliedInTime h s run.before (Lived before (Did event items)) out.conn out.reply

-- the state is committed, or a committed one was made of it
pub record IsSettled (h : History) (state : ClusterState) : Type 0 where
  pub as_published : Published
  pub is_committed : IsCommitted h as_published
  pub descends : Descends h state as_published.state

-- Each settled state whose id was published after a line came is above each state that was committed as the line came, and made of it. So are
-- the state that is acked or shown, and the one in which an acked request has its place.
abbrev pub AnswersFollowTime : History → Type 0
AnswersFollowTime h =
    (s : Settings) (before_run : NodeHistory) (life : Life) (conn : ℕ) (request : Request) (id : StateId)
    → (since : IsPublishedSince h s before_run life conn request id)
    → (state : ClusterState) → id_of state ≡ id → IsSettled h state
    → (moment : History) → IsMoment h s before_run since.so_far moment
    → (c : Published) → IsCommitted moment c → IsMadeAbove h c.state state

-- each of these in each legal history, and from the restart of one node on
abbrev pub LawAnswersArePublishedAfterTheyCame : Type 0
LawAnswersArePublishedAfterTheyCame = (initial : List Id) (h : History) → IsLegal initial h → AnswersAreInTime h

abbrev pub LawAnswersFollowTime : Type 0
LawAnswersFollowTime = (initial : List Id) (h : History) → IsLegal initial h → AnswersFollowTime h

abbrev pub LawRestartedAnswersArePublishedAfterTheyCame : Type 0
LawRestartedAnswersArePublishedAfterTheyCame =
    (first : Id) (kept : Kept) (h : History) → IsAlone first kept → IsLegalFrom first kept h → AnswersAreInTime h

abbrev pub LawRestartedAnswersFollowTime : Type 0
LawRestartedAnswersFollowTime = (first : Id) (kept : Kept) (h : History) → IsAlone first kept → IsLegalFrom first kept h → AnswersFollowTime h

-- The acked state is above an earlier one and was made of it. So what the ack's request asked for is asked for later: in each published
-- state from the acked id on, so in each committed one, stands under its key what it says, or what the last of those says that were
-- processed after it.
pub record ComesLater (Seen : Settings → Log → Type 0) (h : History) (s : Settings) (life : Life) (conn number : ℕ) (id : StateId)
    (earlier : ClusterState) (ack : IsAcked h s life conn number id) : Type 0 where
  pub made : IsMadeAbove h earlier ack.as_published.state
  pub lasts : (p : Published) → Contains (published h) p → IsIdAtMost id.term id.version p.state.term p.state.version
      → IsThereFrom Seen h ack.as_published.state ack.request ack.later p.state

-- Acks are in order of time, of whatever was asked for: each says that its request comes later than each state that was committed as its line
-- came. Such a state is that of each ack and each state shown, by whichever node, that had been sent by then.
abbrev pub AcksAreInOrder : (Settings → Log → Type 0) → History → Settings → NodeHistory → Life → Type 0
AcksAreInOrder Seen h s before_run life =
    (conn number : ℕ) (id : StateId) (a : IsAckedInTime h s before_run life conn number id)
    → (moment : History) → IsMoment h s before_run a.since.so_far moment
    → (earlier : ClusterState) → HasCommitted moment earlier → ComesLater Seen h s life conn number id earlier a.ack
