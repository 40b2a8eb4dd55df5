-- Part of the statement: a node after what it saw and did: all that the rules speak of.
use Rattle.std.specs.Prelude.{ℕ, Bool, Option}
use Rattle.cluster_state.specs.declared.state.StateId.{StateId}
use Rattle.world_model.specs.NodeState.{NodeState}
use Rattle.peer_finder.specs.Peers.{PeerFinder}
use Rattle.pre_vote.specs.Rounds.{Round}
use Rattle.publication.specs.Publications.{Publication}
use Rattle.fault_checks.specs.Followers.{Followers}
use Rattle.fault_checks.specs.Leaders.{LeaderCheck}
use Rattle.master_tasks.specs.Queue.{Tasks}
use Rattle.master_tasks.specs.NextState.{Leader as NextMaster}
use Rattle.policy_model.specs.declared.settings.Settings.{Settings}
use Rattle.policy_model.specs.Events.{Mode, Log}
use Rattle.policy_model.specs.Parts.{as_master}
use Rattle.policy_model.specs.LookBacks.{node_of, mode_of, leader_term_of, moment_of, led_from_of, finder_of, deadline_of, lost_leader_of, attempt_of, round_of, publication_of, applied_of, followers_of, leader_check_of, tasks_of, handover_due_of}

pub record View : Type 0 where
  pub node : NodeState
  pub mode : Mode
  pub leader_term : ℕ
  pub moment : ℕ
  pub led_from : ℕ
  pub finder : PeerFinder
  pub deadline : Option ℕ
  pub lost_leader : Bool
  pub attempt : ℕ
  pub round : Option Round
  pub publication : Option Publication
  pub applied : StateId
  pub followers : Followers
  pub leader_check : Option LeaderCheck
  pub tasks : Tasks
  pub handover_due : ℕ

abbrev pub view_of : Settings → Log → View
view_of s l = record {
  node = node_of l;
  mode = mode_of l;
  leader_term = leader_term_of l;
  moment = moment_of l;
  led_from = led_from_of l;
  finder = finder_of s l;
  deadline = deadline_of s l;
  lost_leader = lost_leader_of l;
  attempt = attempt_of l;
  round = round_of s l;
  publication = publication_of l;
  applied = applied_of l;
  followers = followers_of s l;
  leader_check = leader_check_of l;
  tasks = tasks_of s l;
  handover_due = handover_due_of l;
}

-- the node as the master that makes the next state
abbrev pub master_now : Settings → View → NextMaster
master_now s v = as_master s v.led_from v.moment v.node
