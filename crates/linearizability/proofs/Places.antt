-- Where replies have their places, as statements: each reply that speaks of a committed state is one to a request that its run has taken, and
-- tells of the state into which that was processed.
use Rattle.std.proofs.Common.{◌≡◌, ◌≢◌, ℕ}
use Rattle.std.specs.List.{Contains}
use Rattle.cluster_state.specs.States.{id_of}
use Rattle.cluster_state.specs.declared.reply.Answer.{Answer}
use Rattle.cluster_state.specs.declared.reply.Answer.TheVariants as answer
use Rattle.cluster_state.specs.declared.request.Ask.{Ask}
use Rattle.cluster_state.specs.declared.request.Ask.TheVariants as ask
use Rattle.cluster_state.specs.declared.state.ClusterState.{ClusterState}
use Rattle.cluster_state.specs.declared.state.StateId.{StateId}
use Rattle.world_model.specs.Histories.{History}
use Rattle.world_model.specs.Safety.{Published, published, IsCommitted, Descends}
use Rattle.policy_model.specs.declared.settings.Settings.{Settings}
use Rattle.policy_model.specs.Events.{Log}
use Rattle.client_guarantees.specs.Replies.{HasCommitted}
use Rattle.linearizability.proofs.Numbers.{Tagged, taken_of}
use Rattle.linearizability.proofs.Accounts.{IsIn}

-- the ack of this id is of a committed state that is this one or was made of it, and acks no read
pub record IsAckOf (h : History) (state : ClusterState) (asked : Ask) (id : StateId) : Type 0 where
  pub acked : Published
  pub is_committed : IsCommitted h acked
  pub is_id : id_of acked.state ≡ id
  pub descends : Descends h state acked.state
  pub no_read : asked ≢ ask.State

-- a read is shown this very state, and it is committed
pub record IsReadOf (h : History) (state : ClusterState) (asked : Ask) (shown : ClusterState) : Type 0 where
  pub is_read : asked ≡ ask.State
  pub same : state ≡ shown
  pub committed : HasCommitted h shown

abbrev pub Speaks : History → ClusterState → Ask → Answer → Type 0
Speaks h state asked (answer.Acked id) = IsAckOf h state asked id
Speaks h state asked (answer.State shown) = IsReadOf h state asked shown
Speaks h state asked other = Unit {0}

-- A request that the run has taken by then, the state into which it was processed, and what the answer says of that.
pub record HasPlace (h : History) (s : Settings) (l : Log) (conn number : ℕ) (a : Answer) : Type 0 where
  pub tagged : Tagged
  pub is_in : IsIn (taken_of s l) tagged
  pub as_published : Published
  pub is_published : Contains (published h) as_published
  pub is_id : id_of as_published.state ≡ tagged.id
  pub has_conn : tagged.numbered.request.conn ≡ conn
  pub has_number : tagged.numbered.request.request.id ≡ number
  pub speaks : Speaks h as_published.state tagged.numbered.request.request.ask a
