-- Part of the statement: how leaders and followers check each other.
use Rattle.std.specs.Prelude.{ℕ, Bool, true, false, ◌&&◌, Option, None, Some, List, [], ◌∷◌, ◌++◌, map, nat_lt, nat_eq, if◌then◌else◌}
use Rattle.voting_config.specs.Ids.{Id, has}
use Rattle.cluster_state.specs.declared.state.StateId.{StateId}
use Rattle.wire_frames.specs.declared.frame.WireMessage.TheVariants as message
use Rattle.fault_checks.specs.declared.leader.LeaderTick.{LeaderTick}
use Rattle.fault_checks.specs.declared.leader.LeaderTick.TheVariants.{Quiet, Ask, Lost}
use Rattle.fault_checks.specs.Followers.{to_ask, to_drop_for_checks, to_drop_for_lag}
use Rattle.fault_checks.specs.Leaders.{LeaderCheck, leader_tick}
use Rattle.policy_model.specs.declared.settings.Settings.{Settings}
use Rattle.policy_model.specs.Events.{DropCause, Checks, Lag, Item, Drops, Notes, FollowersChecked, FollowerAnswered, LeaderChecked, LeaderAnswered}
use Rattle.policy_model.specs.Views.{View}
use Rattle.policy_model.specs.Doing.{is_leader, is_second, follows_node, then_rule, send, send_all, becomes_candidate, raises_term, becomes_follower}
use Rattle.policy_model.specs.NextState.{targets_of}

abbrev pub drop_all : List Id → DropCause → List Item
drop_all ids cause = map (λ id. Drops id cause) ids

module _ (s : Settings) where
  -- a leader drops followers that fail or lag, and asks those that are due
  abbrev pub checks_followers : View → List Item
  checks_followers v =
      drop_all (to_drop_for_checks v.followers.watched v.moment) Checks
      ++ drop_all (to_drop_for_lag v.followers.watched v.moment) Lag
      ++ Notes FollowersChecked ∷ send_all s (to_ask v.followers.watched v.moment) (message.FollowerCheck v.node.term)

  -- a follower asks its leader, or has lost it
  abbrev pub does_check : View → Id → LeaderTick → List Item
  does_check v leader Quiet = []
  does_check v leader Ask = send s leader (message.LeaderCheck v.node.term) ∷ []
  does_check v leader Lost = becomes_candidate s v

  abbrev pub checks_leader : View → Id → Option LeaderCheck → List Item
  checks_leader v leader None = []
  checks_leader v leader (Some c) = then_rule s v (Notes LeaderChecked ∷ []) (λ v'. does_check v' leader (leader_tick c v.moment))

  -- the answer to a leader's check
  abbrev pub answers_leader : View → Id → Bool → List Item
  answers_leader v p good = send s p (message.FollowerAnswer good v.node.term v.applied) ∷ []

  -- a leader does not follow; another node follows the one that checks it, but in the second profile only those that were sent a state do
  abbrev pub follows_checker : View → Id → List Item
  follows_checker v p =
      if is_second s then answers_leader v p (follows_node v.mode p)
      else if is_leader v.mode then answers_leader v p false
      else then_rule s v (becomes_follower s v p) (λ v'. answers_leader v' p true)

  -- a check of an earlier term is answered no; one of a later term raises the node's own first
  abbrev pub on_follower_check : View → Id → ℕ → List Item
  on_follower_check v p term =
      if nat_lt term v.node.term then answers_leader v p false
      else then_rule s v (raises_term s v p term) (λ v'. follows_checker v' p)

  -- a member is answered whether the node leads it
  abbrev pub on_leader_check : View → Id → ℕ → List Item
  on_leader_check v p term =
      send s p (message.LeaderAnswer (is_leader v.mode && nat_eq term v.node.term && has p (targets_of v.publication))) ∷ []

  -- answers to the node's own checks
  abbrev pub on_follower_answer : View → Id → Bool → StateId → List Item
  on_follower_answer v p good applied = if is_leader v.mode then Notes (FollowerAnswered p good applied) ∷ [] else []

  abbrev pub on_leader_answer : View → Id → Bool → List Item
  on_leader_answer v p good = if follows_node v.mode p then Notes (LeaderAnswered good) ∷ [] else []
