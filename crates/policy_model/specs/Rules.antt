-- Part of the statement: what a node does at an event: one rule after another, by the event and the mode.
use Rattle.std.specs.Prelude.{ℕ, Bool, true, false, ◌&&◌, ◌||◌, Option, None, Some, List, [], if◌then◌else◌}
use Rattle.voting_config.specs.Ids.{Id, same}
use Rattle.wire_frames.specs.declared.frame.Frame.{Frame}
use Rattle.wire_frames.specs.declared.frame.WireMessage.{WireMessage}
use Rattle.wire_frames.specs.declared.frame.WireMessage.TheVariants as message
use Rattle.client_lines.specs.Reading.{line_request}
use Rattle.publication.specs.declared.Stage.{Stage}
use Rattle.publication.specs.declared.Stage.TheVariants.{Running, Failed, Done}
use Rattle.publication.specs.Publications.{Publication, stage_of}
use Rattle.policy_model.specs.declared.settings.Settings.{Settings}
use Rattle.policy_model.specs.Events.{Mode, Candidate, Leader, Follower, Event, Start, Tick, FrameCame, LineCame, PeerGone, Item}
use Rattle.policy_model.specs.Views.{View}
use Rattle.policy_model.specs.Doing.{is_second, then_rule, becomes_candidate, on_start_join}
use Rattle.policy_model.specs.NextState.{goes_on, is_hopeless}
use Rattle.policy_model.specs.Elections.{bootstraps, waits_for_election, on_pre_vote_ask, on_pre_vote_answer, on_pre_vote_refuse}
use Rattle.policy_model.specs.Discovery.{meets_first, asks_peers, on_peers_ask, on_peers_answer}
use Rattle.policy_model.specs.Joins.{on_join, on_join_ask}
use Rattle.policy_model.specs.Publications.{on_publish, on_response, on_commit}
use Rattle.policy_model.specs.Checks.{checks_followers, checks_leader, on_follower_check, on_leader_check, on_follower_answer, on_leader_answer}
use Rattle.policy_model.specs.Requests.{times_out_exclusions, takes_line}
use Rattle.policy_model.specs.Disconnects.{loses}

abbrev pub is_failed : Stage → Bool
is_failed Running = false
is_failed Failed = true
is_failed (Done laggards) = false

-- the publication is not finished in time
abbrev pub has_timed_out : Option Publication → ℕ → Bool
has_timed_out None now = false
has_timed_out (Some p) now = is_failed (stage_of p now)

module _ (s : Settings) where
  -- the publication is given up
  abbrev pub gives_up : View → Bool
  gives_up v = has_timed_out v.publication v.moment || (is_second s && is_hopeless v v.publication)

  abbrev pub ticks_candidate : View → ℕ → List Item
  ticks_candidate v word =
      then_rule s v (then_rule s v (bootstraps s v) (asks_peers s)) (λ v'. waits_for_election s v' word)

  abbrev pub ticks_leader : View → List Item
  ticks_leader v =
      if gives_up v then becomes_candidate s v
      else then_rule s v (then_rule s v (times_out_exclusions s v) (checks_followers s)) (goes_on s)

  abbrev pub ticks : View → ℕ → Mode → List Item
  ticks v word Candidate = ticks_candidate v word
  ticks v word Leader = ticks_leader v
  ticks v word (Follower leader) = checks_leader s v leader v.leader_check

  abbrev pub takes_message : View → Id → WireMessage → List Item
  takes_message v p (message.StartJoin candidate term) = on_start_join s v candidate term
  takes_message v p (message.Join term last) = on_join s v p term last
  takes_message v p (message.Publish state) = on_publish s v p state
  takes_message v p (message.Response id) = on_response s v p id
  takes_message v p (message.Commit id) = on_commit s v p id
  takes_message v p (message.JoinAsk term) = on_join_ask s v p term
  takes_message v p (message.PeersAsk known) = on_peers_ask s v p known
  takes_message v p (message.PeersAnswer master term known) = on_peers_answer s v p master term known
  takes_message v p message.PreVoteAsk = on_pre_vote_ask s v p
  takes_message v p (message.PreVoteAnswer term last) = on_pre_vote_answer s v v.round p term last
  takes_message v p (message.PreVoteRefuse leader) = on_pre_vote_refuse s v leader
  takes_message v p (message.FollowerCheck term) = on_follower_check s v p term
  takes_message v p (message.FollowerAnswer good term applied) = on_follower_answer s v p good applied
  takes_message v p (message.LeaderCheck term) = on_leader_check s v p term
  takes_message v p (message.LeaderAnswer good) = on_leader_answer s v p good

  -- a frame for another node does nothing
  abbrev pub takes_frame : View → Frame → List Item
  takes_frame v f = if same f.to s.me then takes_message v f.from f.message else []

  -- what a node does that is v as the event begins
  abbrev pub next_of : View → Event → List Item
  next_of v Start = meets_first s v
  next_of v (Tick now word) = ticks v word v.mode
  next_of v (FrameCame frame) = takes_frame v frame
  next_of v (LineCame conn line) = takes_line s v conn (line_request line)
  next_of v (PeerGone peer) = loses s v peer v.mode
