-- Part of the statement: what one more act makes of a node, told from what the node was.
use Rattle.std.specs.Prelude.{◌≡◌, max, false, cond, ◌||◌, [], refl}
use Rattle.voting_config.specs.Ids.{with_id}
use Rattle.world_model.specs.Acts.{Act, Outcome, NodeHistory, Bootstrap, StartJoin, TakeJoin, Value, Publish, Response, Commit, Open, Then, is_ok, is_effective, wins, is_disk}
pub use Rattle.world_model.specs.Acts.{is_opening}
use Rattle.world_model.specs.NodeState.{NodeState, node_state, initial_state}

-- the part after an act that is no opening
abbrev pub node_state_after : NodeState → Act → Outcome → NodeState
node_state_after p (Bootstrap config) o = record p {
  accepted = cond (is_effective o) (initial_state config) p.accepted;
  committed = cond (is_effective o) config p.committed;
  halted = is_disk o || p.halted;
}
node_state_after p (StartJoin candidate term) o = record p {
  term = cond (is_effective o) (max term p.term) p.term;
  started_join = is_ok o || p.started_join;
  join_votes = cond (is_ok o) [] p.join_votes;
  election_won = cond (is_ok o) false p.election_won;
  published_version = cond (is_ok o) 0 p.published_version;
  published_config = cond (is_ok o) p.accepted.config p.published_config;
  publish_votes = cond (is_ok o) [] p.publish_votes;
  halted = is_disk o || p.halted;
}
node_state_after p (TakeJoin join) o = record p {
  join_votes = cond (is_ok o) (with_id join.source p.join_votes) p.join_votes;
  election_won = wins o || p.election_won;
  published_version = cond (wins o) p.accepted.version p.published_version;
  halted = is_disk o || p.halted;
}
node_state_after p (Value version config value) o = record p {
  published_version = cond (is_ok o) version p.published_version;
  published_config = cond (is_ok o) config p.published_config;
  publish_votes = cond (is_ok o) [] p.publish_votes;
  halted = is_disk o || p.halted;
}
node_state_after p (Publish request) o = record p {
  accepted = cond (is_effective o) request.state p.accepted;
  committed = cond (is_effective o) request.state.committed p.committed;
  halted = is_disk o || p.halted;
}
node_state_after p (Response response) o = record p {
  publish_votes = cond (is_ok o) (with_id response.source p.publish_votes) p.publish_votes;
  halted = is_disk o || p.halted;
}
node_state_after p (Commit commit) o = record p {
  committed = cond (is_effective o) p.accepted.config p.committed;
  halted = is_disk o || p.halted;
}
node_state_after p (Open found) o = p

-- the look-ups over one more act are those of before, moved by this act
pub node_state-Then : (g : NodeHistory) (act : Act) (o : Outcome) → is_opening act ≡ false
    → node_state (Then g act o) ≡ node_state_after (node_state g) act o
node_state-Then g (Bootstrap config) o h = refl
node_state-Then g (StartJoin candidate term) o h = refl
node_state-Then g (TakeJoin join) o h = refl
node_state-Then g (Value version config value) o h = refl
node_state-Then g (Publish request) o h = refl
node_state-Then g (Response response) o h = refl
node_state-Then g (Commit commit) o h = refl
node_state-Then g (Open found) o h = cc
