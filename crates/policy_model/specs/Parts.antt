-- Part of the statement: what is made of the parts of a node, in the words of each part.
use Rattle.std.specs.Prelude.{ℕ, ◌+◌, ◌^◌, min, Bool, not, ◌&&◌, ◌||◌, Option, None, Some, List, [], ◌∷◌, if◌then◌else◌}
use Rattle.voting_config.specs.Ids.{Id, without_id}
use Rattle.cluster_state.specs.declared.state.StateId.{StateId}
use Rattle.cluster_state.specs.declared.request.Request.{Request}
use Rattle.world_model.specs.NodeState.{NodeState}
use Rattle.cluster_state.specs.States.{id_of}
use Rattle.election_clock.specs.Delays.{delay_of, has_passed}
use Rattle.peer_finder.specs.Peers.{PeerFinder, finder_of, after as finder_after, Started as FinderStarted, Added, Asked, Answered as PeerAnswered, AnswersForgotten, Disconnected as PeerDisconnected, Held}
use Rattle.pre_vote.specs.Rounds.{Round, started, answered}
use Rattle.publication.specs.Publications.{Publication, publication_of, after as publication_after, Started as PublicationStarted, Responded, CommitSent, Finished as PublicationFinished}
use Rattle.fault_checks.specs.Followers.{Followers, followers_of, after as followers_after, Started as FollowersStarted, Watched, Finished as StateFinished, Answered as FollowerAnswered, Ticked, Disconnected as FollowerDisconnected}
use Rattle.fault_checks.specs.Leaders.{LeaderCheck, leader_check_of, after_leader, LeaderStarted, LeaderAnswered, LeaderTicked}
use Rattle.master_tasks.specs.declared.policy.Policy.{Policy}
use Rattle.master_tasks.specs.Queue.{Tasks, arriving, offered, to_be_added}
use Rattle.master_tasks.specs.NextState.{Leader as NextMaster, leader_of as next_master}
use Rattle.policy_model.specs.declared.settings.Settings.{Settings}
use Rattle.policy_model.specs.Events.{Mode, Candidate, Leader, Follower}

-- the last moment, which stands for all later ones
abbrev pub last_moment : ℕ
last_moment = 2 ^ 62

-- how long an election may take before the next attempt, in ms
abbrev pub election_duration : ℕ
election_duration = 500

-- attempts are counted up to this one, from which on they wait no longer
abbrev pub most_attempts : ℕ
most_attempts = 99

-- how long after a hand-over the next one may come, in ms
abbrev pub handover_interval : ℕ
handover_interval = 1000

-- how long after it has lost its leader a node asks its peers, in ms: the others are to have lost it too
abbrev pub loss_grace : ℕ
loss_grace = 100

-- the peers of a node that has met nobody
abbrev pub no_peers : Id → PeerFinder
no_peers me = finder_of (FinderStarted me)

abbrev pub met : PeerFinder → List Id → PeerFinder
met f [] = f
met f (id ∷ ids) = met (finder_after f (Added id)) ids

abbrev pub peers_asked : PeerFinder → ℕ → PeerFinder
peers_asked f now = finder_after f (Asked now)

abbrev pub heard : PeerFinder → Id → Option Id → PeerFinder
heard f peer master = finder_after f (PeerAnswered peer master)

abbrev pub answers_forgotten : PeerFinder → ℕ → PeerFinder
answers_forgotten f now = finder_after f (AnswersForgotten now)

abbrev pub peer_lost : PeerFinder → Id → ℕ → PeerFinder
peer_lost f id now = finder_after f (PeerDisconnected id now)

-- peers are asked once the others have lost the leader too
abbrev pub search_held : PeerFinder → ℕ → PeerFinder
search_held f now = finder_after f (Held now loss_grace)

-- the attempt after this one
abbrev pub next_attempt : ℕ → ℕ
next_attempt attempt = min (attempt + 1) most_attempts

-- the first deadline of an election, and one after an attempt has begun
abbrev pub first_deadline : ℕ → ℕ → ℕ
first_deadline now word = now + delay_of 0 word

abbrev pub next_deadline : ℕ → ℕ → ℕ → ℕ
next_deadline now attempt word = now + delay_of attempt word + election_duration

-- a round of pre-votes, by the node's accepted id and its term as it begins
abbrev pub round_begun : Id → NodeState → Round
round_begun me node = started me (id_of node.accepted) node.term

abbrev pub round_answered : Option Round → Id → ℕ → StateId → Option Round
round_answered None source term last = None
round_answered (Some round) source term last = Some (answered round source term last)

-- a publication that begins now
abbrev pub published_at : StateId → List Id → ℕ → Publication
published_at id targets now = publication_of (PublicationStarted id targets now)

-- after a response, which may have sent its commit
abbrev pub after_response : Publication → Id → Bool → Publication
after_response p source commits =
    if commits then publication_after (publication_after p (Responded source)) CommitSent
    else publication_after p (Responded source)

abbrev pub responded : Option Publication → Id → Bool → Option Publication
responded None source commits = None
responded (Some p) source commits = Some (after_response p source commits)

abbrev pub finished : Option Publication → Option Publication
finished None = None
finished (Some p) = Some (publication_after p PublicationFinished)

-- nobody is watched
abbrev pub no_followers : Followers
no_followers = followers_of FollowersStarted

-- the other members of a value are watched
abbrev pub watched : Id → Followers → List Id → ℕ → Followers
watched me fs members now = followers_after fs (Watched (without_id me members) now)

-- the state of the publication is finished now, unless it was before
abbrev pub state_finished : Option Publication → Followers → StateId → ℕ → Followers
state_finished None fs id now = fs
state_finished (Some p) fs id now = if p.finished then fs else followers_after fs (StateFinished id now)

abbrev pub followers_ticked : Followers → ℕ → Followers
followers_ticked fs now = followers_after fs (Ticked now)

abbrev pub follower_answered : Followers → Id → Bool → StateId → ℕ → Followers
follower_answered fs from good applied now = followers_after fs (FollowerAnswered from good applied now)

abbrev pub follower_lost : Followers → Id → Followers
follower_lost fs id = followers_after fs (FollowerDisconnected id)

-- a follower checks its leader, from now on
abbrev pub check_from : Mode → ℕ → Option LeaderCheck
check_from Candidate now = None
check_from Leader now = None
check_from (Follower leader) now = Some (leader_check_of (LeaderStarted leader now))

abbrev pub leader_ticked : Option LeaderCheck → ℕ → Option LeaderCheck
leader_ticked None now = None
leader_ticked (Some c) now = Some (after_leader c (LeaderTicked now))

abbrev pub leader_answered : Option LeaderCheck → Bool → ℕ → Option LeaderCheck
leader_answered None good now = None
leader_answered (Some c) good now = Some (after_leader c (LeaderAnswered good now))

-- a request is queued now
abbrev pub arrived : Tasks → ℕ → ℕ → Request → Tasks
arrived t conn now request = offered t (arriving conn now request)

abbrev pub all_to_be_added : Tasks → List Id → Tasks
all_to_be_added t [] = t
all_to_be_added t (id ∷ ids) = all_to_be_added (to_be_added t id) ids

-- for how long a leader of the second profile takes no voter out for being away, in ms
abbrev pub shrink_delay : ℕ
shrink_delay = 10000

-- by which policy a node leads that became a leader at one moment, at another
abbrev pub policy_at : Settings → ℕ → ℕ → Policy
policy_at s led_from now = record s.policy { shrink = s.policy.shrink && (not s.policy.second || has_passed led_from shrink_delay now) }

-- the node as the master that makes the next state, since it became leader at one moment, at another
abbrev pub as_master : Settings → ℕ → ℕ → NodeState → NextMaster
as_master s led_from now node = next_master s.me node.term node.accepted node.committed node.join_votes (policy_at s led_from now)

-- the id of the last published state
abbrev pub published_id : NodeState → StateId
published_id node = record { term = node.term; version = node.published_version }
