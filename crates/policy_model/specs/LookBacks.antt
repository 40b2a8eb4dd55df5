-- Part of the statement: what a node is after what it saw and did: each field is looked up on its own.
use Rattle.std.specs.Prelude.{ℕ, ◌+◌, max, min, Bool, true, false, not, ◌&&◌, Option, None, Some, is_some, if◌then◌else◌}
use Rattle.voting_config.specs.Ids.{Id, same}
use Rattle.cluster_state.specs.declared.state.StateId.{StateId}
use Rattle.world_model.specs.declared.acts.Act.TheVariants.{StartJoin, Value, Response, Commit}
use Rattle.world_model.specs.declared.acts.Outcome.{Outcome}
use Rattle.world_model.specs.declared.acts.Outcome.TheVariants.{Answered}
use Rattle.world_model.specs.declared.acts.ActReply.TheVariants.{Taken}
use Rattle.world_model.specs.Acts.{is_ok}
use Rattle.world_model.specs.NodeState.{NodeState, node_state}
use Rattle.cluster_state.specs.States.{id_of}
use Rattle.peer_finder.specs.Peers.{PeerFinder}
use Rattle.pre_vote.specs.Rounds.{Round}
use Rattle.publication.specs.Publications.{Publication}
use Rattle.fault_checks.specs.Followers.{Followers, no_state}
use Rattle.fault_checks.specs.Leaders.{LeaderCheck}
use Rattle.master_tasks.specs.Queue.{Tasks, no_tasks, to_be_removed}
use Rattle.master_tasks.specs.Answering.{without_answered, timed_out, committed_in, applied_in}
use Rattle.master_tasks.specs.NextState.{Leader as NextMaster, tasks_after}
use Rattle.policy_model.specs.declared.settings.Settings.{Settings}
use Rattle.policy_model.specs.Events.{Mode, Candidate, Leader, Tick, Log, NoItems, And, acts_of, Opens, Begins, Acts, ChangesMode, Drops, Notes, Met, Heard, PeersAsked, ElectionOff, ElectionSet, RoundBegun, RoundAnswered, RoundEnded, Joined, FollowersChecked, FollowerAnswered, LeaderChecked, LeaderAnswered, Queued, ExclusionsTimedOut, CommitAcked, AppliedAnswered, StateMade, HandedOver, PeerLost, LeaderLost}
use Rattle.policy_model.specs.Parts.{last_moment, handover_interval, no_peers, met, peers_asked, heard, answers_forgotten, peer_lost, search_held, next_attempt, first_deadline, next_deadline, round_begun, round_answered, published_at, responded, finished, no_followers, watched, state_finished, followers_ticked, follower_answered, follower_lost, check_from, leader_ticked, leader_answered, arrived, all_to_be_added, as_master, published_id}

-- what the seven acts know
abbrev pub node_of : Log → NodeState
node_of l = node_state (acts_of l)

-- the mode of the last mode line since the opening
abbrev pub mode_of : Log → Mode
mode_of NoItems = Candidate
mode_of (And l (Opens found)) = Candidate
mode_of (And l (ChangesMode mode term)) = mode
mode_of (And l i) = mode_of l

-- the term of the last mode line of a leader
abbrev pub leader_term_of : Log → ℕ
leader_term_of NoItems = 0
leader_term_of (And l (Opens found)) = 0
leader_term_of (And l (ChangesMode Leader term)) = term
leader_term_of (And l i) = leader_term_of l

-- the greatest moment that was given, in ms
abbrev pub moment_of : Log → ℕ
moment_of NoItems = 0
moment_of (And l (Opens found)) = 0
moment_of (And l (Begins (Tick now word))) = max (moment_of l) (min now last_moment)
moment_of (And l i) = moment_of l

-- the moment at which the node became a leader last, in ms
abbrev pub led_from_of : Log → ℕ
led_from_of NoItems = 0
led_from_of (And l (Opens found)) = 0
led_from_of (And l (ChangesMode Leader term)) = moment_of l
led_from_of (And l i) = led_from_of l

-- the peers in the order in which they were met, each with its last answer since the node became a candidate, and when they are to be asked
abbrev pub finder_of : Settings → Log → PeerFinder
finder_of s NoItems = no_peers s.me
finder_of s (And l (Opens found)) = no_peers s.me
finder_of s (And l (Notes (Met ids))) = met (finder_of s l) ids
finder_of s (And l (Notes (Heard peer master))) = heard (finder_of s l) peer master
finder_of s (And l (Notes PeersAsked)) = peers_asked (finder_of s l) (moment_of l)
finder_of s (And l (Notes (PeerLost id))) = peer_lost (finder_of s l) id (moment_of l)
finder_of s (And l (Notes LeaderLost)) = search_held (finder_of s l) (moment_of l)
finder_of s (And l (ChangesMode Candidate term)) = answers_forgotten (finder_of s l) (moment_of l)
finder_of s (And l i) = finder_of s l

-- how many rounds of pre-votes began since the first deadline was set
abbrev pub attempt_of : Log → ℕ
attempt_of NoItems = 0
attempt_of (And l (Opens found)) = 0
attempt_of (And l (Notes (ElectionSet word))) = 0
attempt_of (And l (Notes (RoundBegun word))) = next_attempt (attempt_of l)
attempt_of (And l (ChangesMode Candidate term)) = 0
attempt_of (And l i) = attempt_of l

-- whether the connection to the node's leader has ended, and the node has taken no commit since
abbrev pub lost_leader_of : Log → Bool
lost_leader_of NoItems = false
lost_leader_of (And l (Opens found)) = false
lost_leader_of (And l (Acts (Commit commit) o)) = if is_ok o then false else lost_leader_of l
lost_leader_of (And l (Notes LeaderLost)) = true
lost_leader_of (And l i) = lost_leader_of l

-- whether a node that has lost its leader joins another by this act: it ends its own round then, and waits anew
abbrev pub yields : Settings → Bool → Id → Outcome → Bool
yields s lost candidate o = is_ok o && (lost && not (same candidate s.me))

-- when the next round of pre-votes begins, in ms, where an election is waited for
abbrev pub deadline_of : Settings → Log → Option ℕ
deadline_of s NoItems = None
deadline_of s (And l (Opens found)) = None
deadline_of s (And l (Notes (ElectionSet word))) = Some (first_deadline (moment_of l) word)
deadline_of s (And l (Notes (RoundBegun word))) = Some (next_deadline (moment_of l) (next_attempt (attempt_of l)) word)
deadline_of s (And l (Notes ElectionOff)) = None
deadline_of s (And l (Acts (StartJoin candidate term) o)) =
    if yields s (lost_leader_of l) candidate o then None else deadline_of s l
deadline_of s (And l (ChangesMode Candidate term)) = None
deadline_of s (And l i) = deadline_of s l

-- the round of pre-votes that began last, with its answers, unless it ended
abbrev pub round_of : Settings → Log → Option Round
round_of s NoItems = None
round_of s (And l (Opens found)) = None
round_of s (And l (Notes (RoundBegun word))) = Some (round_begun s.me (node_of l))
round_of s (And l (Notes (RoundAnswered source term last))) = round_answered (round_of s l) source term last
round_of s (And l (Notes RoundEnded)) = None
round_of s (And l (Acts (StartJoin candidate term) o)) = if yields s (lost_leader_of l) candidate o then None else round_of s l
round_of s (And l (ChangesMode Candidate term)) = None
round_of s (And l i) = round_of s l

-- whether an act sends something
abbrev pub sends_one : Outcome → Bool
sends_one (Answered (Taken sends wins)) = is_some sends
sends_one o = false

-- the last value that was published since the node became leader: who responded since, whether its commit was sent, whether the node has
-- taken it
abbrev pub publication_of : Log → Option Publication
publication_of NoItems = None
publication_of (And l (Opens found)) = None
publication_of (And l (Acts (Value version config value) o)) =
    if is_ok o then Some (published_at (record { term = (node_of l).term; version = version }) value.members (moment_of l))
    else publication_of l
publication_of (And l (Acts (Response response) o)) = if is_ok o then responded (publication_of l) response.source (sends_one o)
    else publication_of l
publication_of (And l (Acts (Commit commit) o)) = if is_ok o then finished (publication_of l) else publication_of l
publication_of (And l (ChangesMode Candidate term)) = None
publication_of (And l i) = publication_of l

-- the state that was accepted when the node took a commit last
abbrev pub applied_of : Log → StateId
applied_of NoItems = no_state
applied_of (And l (Opens found)) = no_state
applied_of (And l (Acts (Commit commit) o)) = if is_ok o then id_of (node_of l).accepted else applied_of l
applied_of (And l i) = applied_of l

-- the other members of the last value: their checks, and what they have applied
abbrev pub followers_of : Settings → Log → Followers
followers_of s NoItems = no_followers
followers_of s (And l (Opens found)) = no_followers
followers_of s (And l (Acts (Value version config value) o)) =
    if is_ok o then watched s.me (followers_of s l) value.members (moment_of l) else followers_of s l
followers_of s (And l (Acts (Commit commit) o)) =
    if is_ok o then state_finished (publication_of l) (followers_of s l) (id_of (node_of l).accepted) (moment_of l) else followers_of s l
followers_of s (And l (Notes FollowersChecked)) = followers_ticked (followers_of s l) (moment_of l)
followers_of s (And l (Notes (FollowerAnswered from good applied))) = follower_answered (followers_of s l) from good applied (moment_of l)
followers_of s (And l (Notes (PeerLost id))) = follower_lost (followers_of s l) id
followers_of s (And l (ChangesMode Candidate term)) = no_followers
followers_of s (And l i) = followers_of s l

-- the checks of the leader since the node follows it
abbrev pub leader_check_of : Log → Option LeaderCheck
leader_check_of NoItems = None
leader_check_of (And l (Opens found)) = None
leader_check_of (And l (ChangesMode mode term)) = check_from mode (moment_of l)
leader_check_of (And l (Notes LeaderChecked)) = leader_ticked (leader_check_of l) (moment_of l)
leader_check_of (And l (Notes (LeaderAnswered good))) = leader_answered (leader_check_of l) good (moment_of l)
leader_check_of (And l i) = leader_check_of l

-- the node as the master that makes the next state
abbrev pub master_of : Settings → Log → NextMaster
master_of s l = as_master s (led_from_of l) (moment_of l) (node_of l)

-- the requests that came and are not answered; who is to become a member and who to be none, since the last state was made
abbrev pub tasks_of : Settings → Log → Tasks
tasks_of s NoItems = no_tasks
tasks_of s (And l (Opens found)) = no_tasks
tasks_of s (And l (Notes (Queued conn request))) = arrived (tasks_of s l) conn (moment_of l) request
tasks_of s (And l (Notes (Joined ids))) = all_to_be_added (tasks_of s l) ids
tasks_of s (And l (Drops member cause)) = to_be_removed (tasks_of s l) member
tasks_of s (And l (Notes ExclusionsTimedOut)) = without_answered (timed_out (node_of l).committed (moment_of l)) (tasks_of s l)
tasks_of s (And l (Notes CommitAcked)) = without_answered (committed_in (published_id (node_of l))) (tasks_of s l)
tasks_of s (And l (Notes AppliedAnswered)) =
    without_answered (applied_in (node_of l).committed (node_of l).accepted) (tasks_of s l)
tasks_of s (And l (Notes StateMade)) = tasks_after (master_of s l) (tasks_of s l)
tasks_of s (And l (ChangesMode Candidate term)) = no_tasks
tasks_of s (And l i) = tasks_of s l

-- from when on a hand-over may come, in ms
abbrev pub handover_due_of : Log → ℕ
handover_due_of NoItems = 0
handover_due_of (And l (Opens found)) = 0
handover_due_of (And l (Notes HandedOver)) = moment_of l + handover_interval
handover_due_of (And l i) = handover_due_of l
