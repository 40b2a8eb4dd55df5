-- One more item is one more call of a part, or none.
use Rattle.std.proofs.Common.{◌≡◌, ℕ, Bool, true, false, not, ◌&&◌, Option, None, Some, List, [], ◌∷◌, refl, sym, ap, ◌∙◌, cond}
use Rattle.std.specs.Option.{option_map}
use Rattle.voting_config.specs.Ids.{Id, without_id}
use Rattle.cluster_state.specs.States.{id_of}
use Rattle.cluster_state.specs.declared.state.StateId.{StateId}
use Rattle.peer_finder.specs.Peers as finder
use Rattle.peer_finder.proofs.Members.{finder_of-Then}
use Rattle.pre_vote.specs.Calls as pre_vote
use Rattle.pre_vote.specs.Rounds.{Round, round_of as round_by}
use Rattle.publication.specs.Publications as publication
use Rattle.fault_checks.specs.Followers as followers
use Rattle.fault_checks.proofs.Standing.{followers_of-Then}
use Rattle.fault_checks.specs.Leaders as leaders
use Rattle.world_model.specs.declared.acts.Act.TheVariants.{StartJoin, Value, Response, Commit}
use Rattle.world_model.specs.Acts.{is_ok}
use Rattle.policy_model.specs.declared.settings.Settings.{Settings}
use Rattle.policy_model.specs.Events.{Candidate, Leader, Follower, Log, NoItems, And, Opens, Acts, ChangesMode, Notes, Met, Heard, PeersAsked, RoundBegun, RoundAnswered, RoundEnded, FollowersChecked, FollowerAnswered, LeaderChecked, LeaderAnswered, PeerLost, LeaderLost}
use Rattle.policy_model.specs.Parts.{loss_grace, met, round_answered, responded, finished, state_finished, leader_ticked, leader_answered}
use Rattle.policy_model.specs.LookBacks.{node_of, moment_of, sends_one, yields, lost_leader_of, finder_of, round_of, publication_of, followers_of, leader_check_of}
use Rattle.policy_model.specs.PartCalls.{with_added, finder_calls, round_calls, with_response, publication_calls, is_open, follower_calls, leader_calls}

-- The peer finder.

told : (f : finder.PeerFinder) (calls : finder.Calls) (call : finder.Call) → f ≡ finder.finder_of calls → finder.after f call ≡ finder.finder_of (finder.Then calls call)
told f calls call e = ap (λ (g : finder.PeerFinder). finder.after g call) e ∙ sym (finder_of-Then calls call)

met-all : (f : finder.PeerFinder) (calls : finder.Calls) (ids : List Id) → f ≡ finder.finder_of calls → met f ids ≡ finder.finder_of (with_added calls ids)
met-all f calls [] e = e
met-all f calls (id ∷ ids) e = met-all (finder.after f (finder.Added id)) (finder.Then calls (finder.Added id)) ids (told f calls (finder.Added id) e)

pub finder_looks_back : (s : Settings) (l : Log) → finder_of s l ≡ finder.finder_of (finder_calls s l)
finder_looks_back s NoItems = refl
finder_looks_back s (And l (Opens found)) = refl
finder_looks_back s (And l (Notes (Met ids))) = met-all (finder_of s l) (finder_calls s l) ids (finder_looks_back s l)
finder_looks_back s (And l (Notes (Heard peer master))) = told (finder_of s l) (finder_calls s l) (finder.Answered peer master) (finder_looks_back s l)
finder_looks_back s (And l (Notes PeersAsked)) = told (finder_of s l) (finder_calls s l) (finder.Asked (moment_of l)) (finder_looks_back s l)
finder_looks_back s (And l (Notes LeaderLost)) = told (finder_of s l) (finder_calls s l) (finder.Held (moment_of l) loss_grace) (finder_looks_back s l)
finder_looks_back s (And l (Notes (PeerLost id))) = told (finder_of s l) (finder_calls s l) (finder.Disconnected id (moment_of l)) (finder_looks_back s l)
finder_looks_back s (And l (ChangesMode Candidate term)) = told (finder_of s l) (finder_calls s l) (finder.AnswersForgotten (moment_of l)) (finder_looks_back s l)
finder_looks_back s (And l i) = finder_looks_back s l

-- The round of pre-votes.

answered-one : (calls : Option pre_vote.Calls) (source : Id) (term : ℕ) (last : StateId) → round_answered (option_map round_by calls) source term last ≡ option_map round_by (option_map (λ c. pre_vote.Add c source term last) calls)
answered-one None source term last = refl
answered-one (Some calls) source term last = refl

none-or : (b : Bool) (r : Option Round) (c : Option pre_vote.Calls) → r ≡ option_map round_by c → cond b None r ≡ option_map round_by (cond b None c)
none-or true r c e = refl
none-or false r c e = e

pub round_looks_back : (s : Settings) (l : Log) → round_of s l ≡ option_map round_by (round_calls s l)
round_looks_back s NoItems = refl
round_looks_back s (And l (Opens found)) = refl
round_looks_back s (And l (Notes (RoundBegun word))) = refl
round_looks_back s (And l (Notes (RoundAnswered source term last))) =
    ap (λ (r : Option Round). round_answered r source term last) (round_looks_back s l) ∙ answered-one (round_calls s l) source term last
round_looks_back s (And l (Notes RoundEnded)) = refl
round_looks_back s (And l (Acts (StartJoin candidate term) o)) = none-or (yields s (lost_leader_of l) candidate o) _ _ (round_looks_back s l)
round_looks_back s (And l (ChangesMode Candidate term)) = refl
round_looks_back s (And l i) = round_looks_back s l

-- The publication.

responded-one : (calls : Option publication.Calls) (source : Id) (commits : Bool) → responded (option_map publication.publication_of calls) source commits ≡ option_map publication.publication_of (option_map (with_response source commits) calls)
responded-one None source commits = refl
responded-one (Some calls) source true = refl
responded-one (Some calls) source false = refl

finished-one : (calls : Option publication.Calls) → finished (option_map publication.publication_of calls) ≡ option_map publication.publication_of (option_map (λ c. publication.Then c publication.Finished) calls)
finished-one None = refl
finished-one (Some calls) = refl

by-choice : (b : Bool) (x y : Option publication.Publication) (c d : Option publication.Calls) → x ≡ option_map publication.publication_of c → y ≡ option_map publication.publication_of d → cond b x y ≡ option_map publication.publication_of (cond b c d)
by-choice true x y c d e k = e
by-choice false x y c d e k = k

pub publication_looks_back : (l : Log) → publication_of l ≡ option_map publication.publication_of (publication_calls l)
publication_looks_back NoItems = refl
publication_looks_back (And l (Opens found)) = refl
publication_looks_back (And l (Acts (Value version config value) o)) = by-choice (is_ok o) _ _ _ _ refl (publication_looks_back l)
publication_looks_back (And l (Acts (Response response) o)) =
    by-choice (is_ok o) _ _ _ _
    (ap (λ (p : Option publication.Publication). responded p response.source (sends_one o)) (publication_looks_back l)
    ∙ responded-one (publication_calls l) response.source (sends_one o))
    (publication_looks_back l)
publication_looks_back (And l (Acts (Commit commit) o)) =
    by-choice (is_ok o) _ _ _ _
    (ap (λ (p : Option publication.Publication). finished p) (publication_looks_back l) ∙ finished-one (publication_calls l))
    (publication_looks_back l)
publication_looks_back (And l (ChangesMode Candidate term)) = refl
publication_looks_back (And l i) = publication_looks_back l

-- The followers.

follower-told : (fs : followers.Followers) (calls : followers.Calls) (call : followers.Call) → fs ≡ followers.followers_of calls → followers.after fs call ≡ followers.followers_of (followers.Then calls call)
follower-told fs calls call e = ap (λ (g : followers.Followers). followers.after g call) e ∙ sym (followers_of-Then calls call)

-- a state is finished once
finished-told : (ok : Bool) (p : Option publication.Calls) (fs : followers.Followers) (calls : followers.Calls) (id : StateId) (now : ℕ) → fs ≡ followers.followers_of calls → cond ok (state_finished (option_map publication.publication_of p) fs id now) fs ≡ followers.followers_of (cond (ok && is_open p) (followers.Then calls (followers.Finished id now)) calls)
finished-told false p fs calls id now e = e
finished-told true None fs calls id now e = e
finished-told true (Some c) fs calls id now e =
    elim (publication.was_finished c) as (λ b. cond b fs (followers.after fs (followers.Finished id now)) ≡ followers.followers_of (cond (not b) (followers.Then calls (followers.Finished id now)) calls)) [
      | true ↦ e
      | false ↦ follower-told fs calls (followers.Finished id now) e
    ]

follower-choice : (b : Bool) (x y : followers.Followers) (c d : followers.Calls) → x ≡ followers.followers_of c → y ≡ followers.followers_of d → cond b x y ≡ followers.followers_of (cond b c d)
follower-choice true x y c d e k = e
follower-choice false x y c d e k = k

pub followers_look_back : (s : Settings) (l : Log) → followers_of s l ≡ followers.followers_of (follower_calls s l)
followers_look_back s NoItems = refl
followers_look_back s (And l (Opens found)) = refl
followers_look_back s (And l (Acts (Value version config value) o)) =
    follower-choice (is_ok o) _ _ _ _
    (follower-told (followers_of s l) (follower_calls s l) (followers.Watched (without_id s.me value.members) (moment_of l)) (followers_look_back s l))
    (followers_look_back s l)
followers_look_back s (And l (Acts (Commit commit) o)) =
    ap (λ (p : Option publication.Publication). cond (is_ok o) (state_finished p (followers_of s l) (id_of (node_of l).accepted) (moment_of l)) (followers_of s l)) (publication_looks_back l)
    ∙ finished-told (is_ok o) (publication_calls l) (followers_of s l) (follower_calls s l) (id_of (node_of l).accepted) (moment_of l) (followers_look_back s l)
followers_look_back s (And l (Notes FollowersChecked)) = follower-told (followers_of s l) (follower_calls s l) (followers.Ticked (moment_of l)) (followers_look_back s l)
followers_look_back s (And l (Notes (FollowerAnswered from good applied))) =
    follower-told (followers_of s l) (follower_calls s l) (followers.Answered from good applied (moment_of l)) (followers_look_back s l)
followers_look_back s (And l (Notes (PeerLost id))) = follower-told (followers_of s l) (follower_calls s l) (followers.Disconnected id) (followers_look_back s l)
followers_look_back s (And l (ChangesMode Candidate term)) = refl
followers_look_back s (And l i) = followers_look_back s l

-- The leader.

ticked-one : (calls : Option leaders.LeaderCalls) (now : ℕ) → leader_ticked (option_map leaders.leader_check_of calls) now ≡ option_map leaders.leader_check_of (option_map (λ c. leaders.LeaderThen c (leaders.LeaderTicked now)) calls)
ticked-one None now = refl
ticked-one (Some calls) now = refl

leader-answered-one : (calls : Option leaders.LeaderCalls) (good : Bool) (now : ℕ) → leader_answered (option_map leaders.leader_check_of calls) good now ≡ option_map leaders.leader_check_of (option_map (λ c. leaders.LeaderThen c (leaders.LeaderAnswered good now)) calls)
leader-answered-one None good now = refl
leader-answered-one (Some calls) good now = refl

pub leader_check_looks_back : (l : Log) → leader_check_of l ≡ option_map leaders.leader_check_of (leader_calls l)
leader_check_looks_back NoItems = refl
leader_check_looks_back (And l (Opens found)) = refl
leader_check_looks_back (And l (ChangesMode Candidate term)) = refl
leader_check_looks_back (And l (ChangesMode Leader term)) = refl
leader_check_looks_back (And l (ChangesMode (Follower leader) term)) = refl
leader_check_looks_back (And l (Notes LeaderChecked)) =
    ap (λ (c : Option leaders.LeaderCheck). leader_ticked c (moment_of l)) (leader_check_looks_back l) ∙ ticked-one (leader_calls l) (moment_of l)
leader_check_looks_back (And l (Notes (LeaderAnswered good))) =
    ap (λ (c : Option leaders.LeaderCheck). leader_answered c good (moment_of l)) (leader_check_looks_back l) ∙ leader-answered-one (leader_calls l) good (moment_of l)
leader_check_looks_back (And l i) = leader_check_looks_back l
