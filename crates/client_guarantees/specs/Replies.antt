-- Part of the statement: when a reply is true of what its node and all nodes did.
use Rattle.std.specs.Prelude.{◌≡◌, ℕ, List, ◌∷◌, ◌++◌}
use Rattle.std.specs.List.{All}
use Rattle.cluster_state.specs.declared.state.ClusterState.{ClusterState}
use Rattle.cluster_state.specs.declared.state.StateId.{StateId}
use Rattle.cluster_state.specs.States.{id_of}
use Rattle.cluster_state.specs.declared.request.Ask.TheVariants as ask
use Rattle.cluster_state.specs.declared.request.Request.{Request}
use Rattle.cluster_state.specs.declared.reply.Answer.{Answer}
use Rattle.cluster_state.specs.declared.reply.Answer.TheVariants as answer
use Rattle.cluster_state.specs.declared.reply.Reply.{Reply}
use Rattle.cluster_state.specs.declared.reply.Reply.TheVariants as reply
use Rattle.master_tasks.specs.declared.waiting.Waiting.{Waiting}
use Rattle.master_tasks.specs.declared.waiting.Outgoing.{Outgoing}
use Rattle.world_model.specs.Histories.{History}
use Rattle.world_model.specs.Safety.{Published, IsCommitted, IsIdAtMost}
use Rattle.policy_model.specs.declared.settings.Settings.{Settings}
use Rattle.policy_model.specs.Events.{Item}
use Rattle.policy_model.specs.Entries.{Life, NotBegun, Opened, Lived, Did, log_of, replies_of}
use Rattle.client_guarantees.specs.Asked.{MeetsEach, HasNoVoterOf}
use Rattle.client_guarantees.specs.Processed.{processed_of, CameIn, CameAt}

-- the state is committed: some node published it and sent its commit
pub record HasCommitted (h : History) (state : ClusterState) : Type 0 where
  pub as_published : Published
  pub is_committed : IsCommitted h as_published
  pub is_state : as_published.state ≡ state

-- What an ack of this id says to a connection, of a request's number: since the node was opened last, a line with such a request
-- came by this connection, and the node processed it. The id is at least that of what the node had published last as the line came. A
-- committed state of this id has what the request asks for, unless one of those processed later may have undone it; and so it has what
-- each of these asks for. Where nodes are to be excluded from voting, none of them votes in that state.
pub record IsAcked (h : History) (s : Settings) (life : Life) (conn number : ℕ) (id : StateId) : Type 0 where
  pub request : Waiting
  pub has_conn : request.conn ≡ conn
  pub has_number : request.request.id ≡ number
  pub newest : StateId
  pub came : CameAt life conn request.request newest
  pub since : IsIdAtMost newest.term newest.version id.term id.version
  pub earlier : List Waiting
  pub later : List Waiting
  pub after : List Waiting
  pub is_processed : processed_of s (log_of life) ≡ earlier ++ request ∷ later ++ after
  pub as_published : Published
  pub is_committed : IsCommitted h as_published
  pub is_id : id_of as_published.state ≡ id
  pub meets : MeetsEach as_published.state.value (request ∷ later)
  pub votes : HasNoVoterOf as_published.state.config request.request.ask

-- What a state that is shown says: it is committed, and since the node was opened last a line with such a request for the state came
-- by this connection.
pub record IsShown (h : History) (life : Life) (conn number : ℕ) (state : ClusterState) : Type 0 where
  pub request : Request
  pub has_number : request.id ≡ number
  pub is_asked : request.ask ≡ ask.State
  pub came : CameIn life conn request
  pub committed : HasCommitted h state

-- no other answer speaks of committed states
abbrev pub IsTrueAnswer : History → Settings → Life → ℕ → ℕ → Answer → Type 0
IsTrueAnswer h s life conn number (answer.Acked id) = IsAcked h s life conn number id
IsTrueAnswer h s life conn number (answer.State state) = IsShown h life conn number state
IsTrueAnswer h s life conn number other = Unit {0}

abbrev pub IsTrueReply : History → Settings → Life → ℕ → Reply → Type 0
IsTrueReply h s life conn (reply.To number answer) = IsTrueAnswer h s life conn number answer
IsTrueReply h s life conn (reply.BadLine fault) = Unit {0}

-- each reply among the items is true, at the end of this life
abbrev pub AreTrue : History → Settings → Life → List Item → Type 0
AreTrue h s life items = All (λ (out : Outgoing). IsTrueReply h s life out.conn out.reply) (replies_of items)

-- the replies of each event of a life are true at its end
abbrev pub RepliesTruly : History → Settings → Life → Type 0
RepliesTruly h s NotBegun = Unit {0}
RepliesTruly h s (Opened life found) = RepliesTruly h s life
RepliesTruly h s (Lived life (Did event items)) = RepliesTruly h s life × AreTrue h s (Lived life (Did event items)) items
RepliesTruly h s (Lived life entry) = RepliesTruly h s life
