-- For the contracts inside: the laws of lives that follow the policy, as statements.
use Rattle.std.specs.Prelude.{◌≡◌, ℕ, Bool, true, false, ◌&&◌, List, [], ◌∷◌, find, if◌then◌else◌}
use Rattle.voting_config.specs.Ids.{Id, has, same_config, with_room}
use Rattle.cluster_state.specs.declared.state.StateId.{StateId}
use Rattle.cluster_state.specs.declared.state.Kept.{Kept}
use Rattle.cluster_state.specs.declared.state.ClusterState.{ClusterState}
use Rattle.cluster_state.specs.declared.state.ClusterValue.{ClusterValue}
use Rattle.cluster_state.specs.declared.request.Ask.TheVariants as ask
use Rattle.cluster_state.specs.declared.reply.Answer.TheVariants as answer
use Rattle.world_model.specs.declared.acts.Act.TheVariants.{Open}
use Rattle.world_model.specs.Histories.{IsLocal, ContinuesUnlessFirst}
use Rattle.fault_checks.specs.Followers.{ids_of}
use Rattle.world_model.specs.Replies.{elects}
use Rattle.master_tasks.specs.Processing.{processing, AnsweredAtOnce}
use Rattle.master_tasks.specs.NextState.{may_reconfigure, makes_anew}
use Rattle.policy_model.specs.declared.settings.Settings.{Settings}
use Rattle.policy_model.specs.Parts.{policy_at}
use Rattle.policy_model.specs.Events.{Event, Begins, Notes, ElectionOff, acts_of}
use Rattle.policy_model.specs.Entries.{Life, Opened, Lived, Did, log_of}
use Rattle.policy_model.specs.Views.{View, view_of}
use Rattle.policy_model.specs.Moves.{opened, moved, moved_all}
use Rattle.policy_model.specs.Doing.{is_leader, may_win, then_rule, becomes_follower}
use Rattle.policy_model.specs.Checks.{answers_leader, follows_checker}
use Rattle.policy_model.specs.Disconnects.{keeps_quorum}
use Rattle.policy_model.specs.Rules.{gives_up, has_timed_out}
use Rattle.policy_model.specs.Elections.{free_nodes, waits_until, waits_for_election}
use Rattle.policy_model.specs.Joins.{counts_join, on_join}
use Rattle.policy_model.specs.NextState.{responders_of, successor_of, leads_on, makes_state}
use Rattle.policy_model.specs.Follows.{Follows, items_of}

-- the acts of a life that follows the policy follow each other
abbrev pub LawLifeIsLocal : Type 0
LawLifeIsLocal = (s : Settings) (life : Life) → Follows s life → IsLocal s.me (acts_of (log_of life))

-- after an event a node is what the event's items make of it, one after the other
abbrev pub LawEventMoves : Type 0
LawEventMoves =
    (s : Settings) (life : Life) (event : Event)
    → view_of s (log_of (Lived life (Did event (items_of s (log_of life) event))))
    ≡ moved_all s (moved s (view_of s (log_of life)) (Begins event)) (items_of s (log_of life) event)

-- after an opening that finds what was kept a node is new, but for what it kept
abbrev pub LawOpeningMoves : Type 0
LawOpeningMoves =
    (s : Settings) (life : Life) (found : Kept)
    → ContinuesUnlessFirst (acts_of (log_of life)) (Open found) → view_of s (log_of (Opened life found)) ≡ opened s found

-- the three rules that look at the list of voting-only nodes are what they would be without it
pub record IsWithoutVotingOnly (s : Settings) : Type 0 where
  pub waits : (v : View) (word : ℕ)
      → waits_for_election s v word
      ≡ (if may_win s v && elects v.node (free_nodes s v) then waits_until s v word v.deadline else Notes ElectionOff ∷ [])
  pub joined : (v : View) (p : Id) (term : ℕ) (last : StateId) → on_join s v p term last ≡ counts_join s v p term last
  pub successor : (v : View) → successor_of s v ≡ find (λ id. has id v.node.committed) (responders_of v.publication)

-- so it is where the list names nobody
abbrev pub LawNoVotingOnly : Type 0
LawNoVotingOnly = (s : Settings) → s.voting_only ≡ [] → IsWithoutVotingOnly s

-- the eight rules that look at the profile are those of a policy that knows no second one
pub record IsFirstProfile (s : Settings) : Type 0 where
  pub checked : (v : View) (p : Id)
      → follows_checker s v p
      ≡ (if is_leader v.mode then answers_leader s v p false
      else then_rule s v (becomes_follower s v p) (λ u. answers_leader s u p true))
  pub given_up : (v : View) → gives_up s v ≡ has_timed_out v.publication v.moment
  pub led : (v : View) → leads_on s v ≡ makes_state s v
  pub wanted : (term : ℕ) (accepted : ClusterState) (committed : List Id)
      → may_reconfigure term accepted committed s.policy ≡ same_config committed accepted.config
  pub not_anew : (additions : List Id) (anew : Bool) → makes_anew s.policy additions anew ≡ false
  pub shown : (accepted : ClusterState) (value : ClusterValue)
      → processing s.policy.second accepted value ask.State ≡ AnsweredAtOnce (answer.State accepted)
  pub led_by : (led_from now : ℕ) → policy_at s led_from now ≡ s.policy
  pub kept : (v : View) → keeps_quorum s v ≡ elects v.node (with_room (ids_of v.followers.watched) s.me)

-- so it is where the settings name the first profile
abbrev pub LawFirstProfile : Type 0
LawFirstProfile = (s : Settings) → s.policy.second ≡ false → IsFirstProfile s
