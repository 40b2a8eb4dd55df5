-- For the contracts inside: what a node's log gives each of its parts: the part's calls, from which the part looks back.
use Rattle.std.specs.Prelude.{Bool, false, not, ◌&&◌, Option, None, Some, List, [], ◌∷◌, if◌then◌else◌}
use Rattle.std.specs.Option.{option_map}
use Rattle.voting_config.specs.Ids.{Id, without_id}
use Rattle.cluster_state.specs.States.{id_of}
use Rattle.peer_finder.specs.Peers as finder
use Rattle.pre_vote.specs.Calls as pre_vote
use Rattle.publication.specs.Publications as publication
use Rattle.fault_checks.specs.Followers as followers
use Rattle.fault_checks.specs.Leaders as leaders
use Rattle.world_model.specs.declared.acts.Act.TheVariants.{StartJoin, Value, Response, Commit}
use Rattle.world_model.specs.Acts.{is_ok}
use Rattle.policy_model.specs.declared.settings.Settings.{Settings}
use Rattle.policy_model.specs.Events.{Candidate, Follower, Log, NoItems, And, Opens, Acts, ChangesMode, Notes, Met, Heard, PeersAsked, RoundBegun, RoundAnswered, RoundEnded, FollowersChecked, FollowerAnswered, LeaderChecked, LeaderAnswered, PeerLost, LeaderLost}
use Rattle.policy_model.specs.Parts.{loss_grace}
use Rattle.policy_model.specs.LookBacks.{node_of, moment_of, sends_one, yields, lost_leader_of}

-- of the peer finder, since the opening: who was met, who answered, when peers were asked, when a connection ended, when the node became a candidate
abbrev pub with_added : finder.Calls → List Id → finder.Calls
with_added calls [] = calls
with_added calls (id ∷ ids) = with_added (finder.Then calls (finder.Added id)) ids

abbrev pub finder_calls : Settings → Log → finder.Calls
finder_calls s NoItems = finder.Started s.me
finder_calls s (And l (Opens found)) = finder.Started s.me
finder_calls s (And l (Notes (Met ids))) = with_added (finder_calls s l) ids
finder_calls s (And l (Notes (Heard peer master))) = finder.Then (finder_calls s l) (finder.Answered peer master)
finder_calls s (And l (Notes PeersAsked)) = finder.Then (finder_calls s l) (finder.Asked (moment_of l))
finder_calls s (And l (Notes (PeerLost id))) = finder.Then (finder_calls s l) (finder.Disconnected id (moment_of l))
finder_calls s (And l (Notes LeaderLost)) = finder.Then (finder_calls s l) (finder.Held (moment_of l) loss_grace)
finder_calls s (And l (ChangesMode Candidate term)) = finder.Then (finder_calls s l) (finder.AnswersForgotten (moment_of l))
finder_calls s (And l i) = finder_calls s l

-- of the round of pre-votes that began last, unless it ended, or the node waits anew
abbrev pub round_calls : Settings → Log → Option pre_vote.Calls
round_calls s NoItems = None
round_calls s (And l (Opens found)) = None
round_calls s (And l (Notes (RoundBegun word))) = Some (pre_vote.Start s.me (id_of (node_of l).accepted) (node_of l).term)
round_calls s (And l (Notes (RoundAnswered source term last))) =
    option_map (λ calls. pre_vote.Add calls source term last) (round_calls s l)
round_calls s (And l (Notes RoundEnded)) = None
round_calls s (And l (Acts (StartJoin candidate term) o)) = if yields s (lost_leader_of l) candidate o then None else round_calls s l
round_calls s (And l (ChangesMode Candidate term)) = None
round_calls s (And l i) = round_calls s l

-- of the publication of the last value since the node became leader: who responded, that its commit was sent, that it was finished
abbrev pub with_response : Id → Bool → publication.Calls → publication.Calls
with_response source commits calls =
    if commits then publication.Then (publication.Then calls (publication.Responded source)) publication.CommitSent
    else publication.Then calls (publication.Responded source)

abbrev pub publication_calls : Log → Option publication.Calls
publication_calls NoItems = None
publication_calls (And l (Opens found)) = None
publication_calls (And l (Acts (Value version config value) o)) =
    if is_ok o then Some (publication.Started (record { term = (node_of l).term; version = version }) value.members (moment_of l))
    else publication_calls l
publication_calls (And l (Acts (Response response) o)) =
    if is_ok o then option_map (with_response response.source (sends_one o)) (publication_calls l) else publication_calls l
publication_calls (And l (Acts (Commit commit) o)) =
    if is_ok o then option_map (λ calls. publication.Then calls publication.Finished) (publication_calls l) else publication_calls l
publication_calls (And l (ChangesMode Candidate term)) = None
publication_calls (And l i) = publication_calls l

-- a publication that is not finished yet
abbrev pub is_open : Option publication.Calls → Bool
is_open None = false
is_open (Some calls) = not (publication.was_finished calls)

-- of the checks of the followers, since the node became leader: the other members of each value, when its publication was finished,
-- ticks, answers, and connections that ended
abbrev pub follower_calls : Settings → Log → followers.Calls
follower_calls s NoItems = followers.Started
follower_calls s (And l (Opens found)) = followers.Started
follower_calls s (And l (Acts (Value version config value) o)) =
    if is_ok o then followers.Then (follower_calls s l) (followers.Watched (without_id s.me value.members) (moment_of l))
    else follower_calls s l
follower_calls s (And l (Acts (Commit commit) o)) =
    if is_ok o && is_open (publication_calls l)
    then followers.Then (follower_calls s l) (followers.Finished (id_of (node_of l).accepted) (moment_of l))
    else follower_calls s l
follower_calls s (And l (Notes FollowersChecked)) = followers.Then (follower_calls s l) (followers.Ticked (moment_of l))
follower_calls s (And l (Notes (FollowerAnswered from good applied))) =
    followers.Then (follower_calls s l) (followers.Answered from good applied (moment_of l))
follower_calls s (And l (Notes (PeerLost id))) = followers.Then (follower_calls s l) (followers.Disconnected id)
follower_calls s (And l (ChangesMode Candidate term)) = followers.Started
follower_calls s (And l i) = follower_calls s l

-- of the checks of the leader, since the node follows it
abbrev pub leader_calls : Log → Option leaders.LeaderCalls
leader_calls NoItems = None
leader_calls (And l (Opens found)) = None
leader_calls (And l (ChangesMode (Follower leader) term)) = Some (leaders.LeaderStarted leader (moment_of l))
leader_calls (And l (ChangesMode mode term)) = None
leader_calls (And l (Notes LeaderChecked)) =
    option_map (λ calls. leaders.LeaderThen calls (leaders.LeaderTicked (moment_of l))) (leader_calls l)
leader_calls (And l (Notes (LeaderAnswered good))) =
    option_map (λ calls. leaders.LeaderThen calls (leaders.LeaderAnswered good (moment_of l))) (leader_calls l)
leader_calls (And l i) = leader_calls l
