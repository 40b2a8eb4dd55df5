-- Part of the statement: the next state that a leader makes of its tasks.
use Rattle.std.specs.Prelude.{◌≡◌, ℕ, Bool, true, not, ◌&&◌, ◌||◌, Some, List, [], ◌++◌, length, nat_eq, nat_lt, if◌then◌else◌}
use Rattle.voting_config.specs.Ids.{Id, same_config, among}
use Rattle.reconfigurator.specs.Targets.{target_of}
use Rattle.cluster_state.specs.declared.state.ClusterState.{ClusterState}
use Rattle.cluster_state.specs.declared.state.ClusterValue.{ClusterValue}
use Rattle.cluster_state.specs.Same.{same_value}
use Rattle.cluster_state.specs.States.{id_of}
use Rattle.master_tasks.specs.declared.policy.Policy.{Policy}
use Rattle.master_tasks.specs.declared.waiting.Waiting.{Waiting}
use Rattle.master_tasks.specs.declared.waiting.Outgoing.{Outgoing}
use Rattle.master_tasks.specs.declared.next.Next.{Next}
use Rattle.master_tasks.specs.declared.next.Next.TheVariants.{Same, New}
use Rattle.master_tasks.specs.Replying.{Replies, room_for, with_sent}
use Rattle.master_tasks.specs.Queue.{Tasks, only}
use Rattle.master_tasks.specs.Answering.{answers_by, left_by, nothing_new}
use Rattle.master_tasks.specs.Members.{members_after}
use Rattle.master_tasks.specs.Processing.{Processed, processed_all}

-- what a leader makes a state from: itself, its term, its accepted state, the committed configuration, who voted for it, and by
-- which policy
pub record Leader : Type 0 where
  pub me : Id
  pub term : ℕ
  pub accepted : ClusterState
  pub committed : List Id
  pub votes : List Id
  pub policy : Policy

abbrev pub leader_of : Id → ℕ → ClusterState → List Id → List Id → Policy → Leader
leader_of me term accepted committed votes policy =
    record { me = me; term = term; accepted = accepted; committed = committed; votes = votes; policy = policy }

-- a value with the node as master, with the members that are to come and without those that are to go
abbrev pub value_before : Id → Tasks → ClusterValue → ClusterValue
value_before me t value = record value { master = Some me; members = members_after me t value.members }

-- the requests processed on that value
unfoldable pub processed_by : Leader → Tasks → Processed
processed_by l t = processed_all l.policy.second l.accepted (value_before l.me t l.accepted.value) t.waiting

unfoldable pub next_value : Leader → Tasks → ClusterValue
next_value l t = (processed_by l t).value

-- whether another configuration may be wanted: once the accepted one is committed, and in the second profile only in a term of which a
-- state is accepted
abbrev pub may_reconfigure : ℕ → ClusterState → List Id → Policy → Bool
may_reconfigure term accepted committed policy = same_config committed accepted.config && (not policy.second || nat_eq accepted.term term)

-- the configuration that is wanted for a value; live are the members that voted for the node
unfoldable pub config_for : Id → ℕ → ClusterState → List Id → List Id → Policy → ClusterValue → List Id
config_for me term accepted committed votes policy value =
    if may_reconfigure term accepted committed policy
    then target_of (among value.members votes) value.exclusions me accepted.config policy.shrink
    else accepted.config

unfoldable pub next_config : Leader → Tasks → List Id
next_config l t = config_for l.me l.term l.accepted l.committed l.votes l.policy (next_value l t)

-- the accepted state is of this term, and the next one would be the same
unfoldable pub is_accepted : ℕ → ClusterState → List Id → ClusterValue → Bool
is_accepted term accepted config value = nat_eq accepted.term term && same_value value accepted.value && same_config config accepted.config

-- in the second profile a state is made where anybody joins, be it a member already, and where a request was processed, be it of what is
-- there or to be shown the state
abbrev pub makes_anew : Policy → List Id → Bool → Bool
makes_anew policy additions anew = (nat_lt 0 (length additions) || anew) && policy.second

unfoldable pub is_nothing_new : Leader → Tasks → Bool
is_nothing_new l t =
    not (makes_anew l.policy t.additions (processed_by l t).anew) && is_accepted l.term l.accepted (next_config l t) (next_value l t)

-- what that says of the accepted state
pub record StaysAccepted (l : Leader) (t : Tasks) : Type 0 where
  pub term : l.accepted.term ≡ l.term
  pub value : next_value l t ≡ l.accepted.value
  pub config : next_config l t ≡ l.accepted.config

-- who is answered where nothing is new, and who waits on
abbrev pub acks : Leader → List Waiting → List Outgoing
acks l waiting = answers_by (nothing_new l.committed (id_of l.accepted)) waiting

abbrev pub unacked : Leader → List Waiting → List Waiting
unacked l waiting = left_by (nothing_new l.committed (id_of l.accepted)) waiting

-- the answers: those that requests get at once, then where nothing is new the others'
unfoldable pub next_answers : Leader → Tasks → List Outgoing
next_answers l t =
    (processed_by l t).answers ++ (if is_nothing_new l t then acks l (processed_by l t).waiting else [])

-- who waits on
abbrev pub waiting_after : Leader → Tasks → List Waiting
waiting_after l t = if is_nothing_new l t then unacked l (processed_by l t).waiting else (processed_by l t).waiting

-- nothing comes of the tasks: nothing is new, nobody waits on, and nobody is answered
pub record IsAtRest (l : Leader) (t : Tasks) : Type 0 where
  pub nothing_new : is_nothing_new l t ≡ true
  pub waiting : waiting_after l t ≡ []
  pub answers : next_answers l t ≡ []

-- what is left to do; nobody is to come or to go any more
unfoldable pub tasks_after : Leader → Tasks → Tasks
tasks_after l t = only (waiting_after l t)

-- the replies, in room for as many as there were requests
unfoldable pub next_replies : Leader → Tasks → Replies
next_replies l t = with_sent (room_for (length t.waiting)) (next_answers l t)

-- nothing is new, or there is a new configuration and a new value
unfoldable pub next_of : Leader → Tasks → Next
next_of l t = if is_nothing_new l t then Same (next_replies l t) else New (next_config l t) (next_value l t) (next_replies l t)
