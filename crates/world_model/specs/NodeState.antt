-- Part of the statement: what a node is after its acts: its term, its accepted state, its votes and the like, each looked up among the
-- acts.
use Rattle.std.specs.Prelude.{ℕ, Bool, false, cond, ◌||◌, None, List, []}
pub use Rattle.cluster_state.specs.Initial.{empty_value, initial_state, empty_state, empty_record}
use Rattle.std.specs.Prelude.{max}
use Rattle.voting_config.specs.Ids.{Id, with_id}
use Rattle.cluster_state.specs.declared.state.ClusterState.{ClusterState}
use Rattle.cluster_state.specs.declared.state.Kept.{Kept}
use Rattle.world_model.specs.Acts.{NodeHistory, Bootstrap, StartJoin, TakeJoin, Value, Publish, Response, Commit, Open, NoActs, Then, is_ok, is_effective, wins, is_disk, is_first, Answered, Taken}

-- the greatest of the terms that the node started a join for, and of the term that it was first opened with
abbrev pub term_of : NodeHistory → ℕ
term_of NoActs = 0
term_of (Then g (StartJoin candidate term) o) = cond (is_effective o) (max term (term_of g)) (term_of g)
term_of (Then g (Open found) o) = cond (is_first g) found.term (term_of g)
term_of (Then g a o) = term_of g

-- the last state that was published to the node or that it bootstrapped with, else the one that it was first opened with
abbrev pub accepted_of : NodeHistory → ClusterState
accepted_of NoActs = empty_state
accepted_of (Then g (Bootstrap config) o) = cond (is_effective o) (initial_state config) (accepted_of g)
accepted_of (Then g (Publish request) o) = cond (is_effective o) request.state (accepted_of g)
accepted_of (Then g (Open found) o) = cond (is_first g) found.accepted (accepted_of g)
accepted_of (Then g a o) = accepted_of g

-- the configuration of the accepted state where it was committed since, else the one that the state carries
abbrev pub committed_of : NodeHistory → List Id
committed_of NoActs = []
committed_of (Then g (Bootstrap config) o) = cond (is_effective o) config (committed_of g)
committed_of (Then g (Publish request) o) = cond (is_effective o) request.state.committed (committed_of g)
committed_of (Then g (Commit commit) o) = cond (is_effective o) (accepted_of g).config (committed_of g)
committed_of (Then g (Open found) o) = cond (is_first g) found.committed (committed_of g)
committed_of (Then g a o) = committed_of g

-- a round begins when the node starts a join, and ends when it is opened
abbrev pub started_join_of : NodeHistory → Bool
started_join_of NoActs = false
started_join_of (Then g (StartJoin candidate term) o) = is_ok o || started_join_of g
started_join_of (Then g (Open found) o) = false
started_join_of (Then g a o) = started_join_of g

-- the sources of the joins that were taken in this round
abbrev pub join_votes_of : NodeHistory → List Id
join_votes_of NoActs = []
join_votes_of (Then g (StartJoin candidate term) o) = cond (is_ok o) [] (join_votes_of g)
join_votes_of (Then g (TakeJoin join) o) = cond (is_ok o) (with_id join.source (join_votes_of g)) (join_votes_of g)
join_votes_of (Then g (Open found) o) = []
join_votes_of (Then g a o) = join_votes_of g

-- whether a join of this round won
abbrev pub election_won_of : NodeHistory → Bool
election_won_of NoActs = false
election_won_of (Then g (StartJoin candidate term) o) = cond (is_ok o) false (election_won_of g)
election_won_of (Then g (TakeJoin join) o) = wins o || election_won_of g
election_won_of (Then g (Open found) o) = false
election_won_of (Then g a o) = election_won_of g

-- the version of the round's last value; without one, the accepted version at the join that won, and 0 before it
abbrev pub published_version_of : NodeHistory → ℕ
published_version_of NoActs = 0
published_version_of (Then g (StartJoin candidate term) o) = cond (is_ok o) 0 (published_version_of g)
published_version_of (Then g (TakeJoin join) o) = cond (wins o) (accepted_of g).version (published_version_of g)
published_version_of (Then g (Value version config value) o) = cond (is_ok o) version (published_version_of g)
published_version_of (Then g (Open found) o) = 0
published_version_of (Then g a o) = published_version_of g

-- the configuration of the round's last value; without one, the accepted configuration at the round's start
abbrev pub published_config_of : NodeHistory → List Id
published_config_of NoActs = []
published_config_of (Then g (StartJoin candidate term) o) = cond (is_ok o) (accepted_of g).config (published_config_of g)
published_config_of (Then g (Value version config value) o) = cond (is_ok o) config (published_config_of g)
published_config_of (Then g (Open found) o) = []
published_config_of (Then g a o) = published_config_of g

-- the sources of the responses that were taken since the round's last value, or in the round where there is none
abbrev pub publish_votes_of : NodeHistory → List Id
publish_votes_of NoActs = []
publish_votes_of (Then g (StartJoin candidate term) o) = cond (is_ok o) [] (publish_votes_of g)
publish_votes_of (Then g (Value version config value) o) = cond (is_ok o) [] (publish_votes_of g)
publish_votes_of (Then g (Response response) o) = cond (is_ok o) (with_id response.source (publish_votes_of g)) (publish_votes_of g)
publish_votes_of (Then g (Open found) o) = []
publish_votes_of (Then g a o) = publish_votes_of g

-- whether the disk failed since the node was last opened
abbrev pub halted_of : NodeHistory → Bool
halted_of NoActs = false
halted_of (Then g (Open found) o) = false
halted_of (Then g a o) = is_disk o || halted_of g

-- a node after its acts: all of these
pub record NodeState : Type 0 where
  pub term : ℕ
  pub accepted : ClusterState
  pub committed : List Id
  pub started_join : Bool
  pub join_votes : List Id
  pub election_won : Bool
  pub published_version : ℕ
  pub published_config : List Id
  pub publish_votes : List Id
  pub halted : Bool

abbrev pub node_state : NodeHistory → NodeState
node_state g = record {
  term = term_of g;
  accepted = accepted_of g;
  committed = committed_of g;
  started_join = started_join_of g;
  join_votes = join_votes_of g;
  election_won = election_won_of g;
  published_version = published_version_of g;
  published_config = published_config_of g;
  publish_votes = publish_votes_of g;
  halted = halted_of g;
}

-- what the node keeps durably
abbrev pub durable_of : NodeHistory → Kept
durable_of g = record { term = term_of g; accepted = accepted_of g; committed = committed_of g }

-- a node that was opened with this record, and did nothing yet
abbrev pub opened : Kept → NodeHistory
opened found = Then NoActs (Open found) (Answered (Taken None false))
