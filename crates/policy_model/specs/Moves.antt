-- Part of the statement: what one more item makes of a node, told by what the node was.
use Rattle.std.specs.Prelude.{◌≡◌, ℕ, ◌+◌, max, min, Bool, true, false, not, ◌&&◌, None, Some, List, [], ◌∷◌, if◌then◌else◌, refl}
use Rattle.cluster_state.specs.declared.state.Kept.{Kept}
use Rattle.world_model.specs.declared.acts.Act.{Act}
use Rattle.world_model.specs.declared.acts.Act.TheVariants.{Bootstrap, StartJoin, TakeJoin, Value, Publish, Response, Commit, Open}
use Rattle.world_model.specs.declared.acts.Outcome.{Outcome}
use Rattle.world_model.specs.Acts.{is_ok}
use Rattle.world_model.specs.NodeState.{node_state, opened as opened_acts}
use Rattle.cluster_state.specs.States.{id_of}
use Rattle.world_model.specs.Moves.{node_state_after, is_opening}
use Rattle.fault_checks.specs.Followers.{no_state}
use Rattle.master_tasks.specs.Queue.{no_tasks, to_be_removed}
use Rattle.master_tasks.specs.Answering.{without_answered, timed_out, committed_in, applied_in}
use Rattle.master_tasks.specs.NextState.{tasks_after}
use Rattle.policy_model.specs.declared.settings.Settings.{Settings}
use Rattle.policy_model.specs.Events.{Mode, Candidate, Leader, Follower, Event, Start, Tick, FrameCame, LineCame, PeerGone, Note, Met, Heard, PeersAsked, ElectionOff, ElectionSet, RoundBegun, RoundAnswered, RoundEnded, Joined, FollowersChecked, FollowerAnswered, LeaderChecked, LeaderAnswered, Queued, ExclusionsTimedOut, CommitAcked, AppliedAnswered, StateMade, HandedOver, PeerLost, LeaderLost, Item, Opens, Begins, Acts, ChangesMode, Drops, Sends, Replies, Notes, Log, And}
use Rattle.policy_model.specs.Parts.{last_moment, handover_interval, no_peers, met, peers_asked, heard, answers_forgotten, peer_lost, search_held, next_attempt, first_deadline, next_deadline, round_begun, round_answered, published_at, responded, finished, no_followers, watched, state_finished, followers_ticked, follower_answered, follower_lost, check_from, leader_ticked, leader_answered, arrived, all_to_be_added, published_id}
use Rattle.policy_model.specs.LookBacks.{sends_one, yields}
use Rattle.policy_model.specs.Views.{View, view_of, master_now}

-- a node that was just opened, and found this record
abbrev pub opened : Settings → Kept → View
opened s found = record {
  node = node_state (opened_acts found);
  mode = Candidate;
  leader_term = 0;
  moment = 0;
  led_from = 0;
  finder = no_peers s.me;
  deadline = None;
  lost_leader = false;
  attempt = 0;
  round = None;
  publication = None;
  applied = no_state;
  followers = no_followers;
  leader_check = None;
  tasks = no_tasks;
  handover_due = 0;
}

-- an event begins: a tick gives the moment, which never goes back
abbrev pub begun : View → Event → View
begun v (Tick now word) = record v { moment = max v.moment (min now last_moment) }
begun v event = v

-- an act that is no opening
abbrev pub acted : Settings → View → Act → Outcome → View
acted s v (StartJoin candidate term) o = record v {
  node = node_state_after v.node (StartJoin candidate term) o;
  deadline = (if yields s v.lost_leader candidate o then None else v.deadline);
  round = (if yields s v.lost_leader candidate o then None else v.round);
}
acted s v (Value version config value) o = record v {
  node = node_state_after v.node (Value version config value) o;
  publication = (if is_ok o then Some (published_at (record { term = v.node.term; version = version }) value.members v.moment)
      else v.publication);
  followers = (if is_ok o then watched s.me v.followers value.members v.moment else v.followers);
}
acted s v (Response response) o = record v {
  node = node_state_after v.node (Response response) o;
  publication = (if is_ok o then responded v.publication response.source (sends_one o) else v.publication);
}
acted s v (Commit commit) o = record v {
  node = node_state_after v.node (Commit commit) o;
  publication = (if is_ok o then finished v.publication else v.publication);
  lost_leader = (if is_ok o then false else v.lost_leader);
  applied = (if is_ok o then id_of v.node.accepted else v.applied);
  followers = (if is_ok o then state_finished v.publication v.followers (id_of v.node.accepted) v.moment else v.followers);
}
acted s v act o = record v { node = node_state_after v.node act o }

-- the mode changed: a candidate drops what it did as leader, as follower and in earlier elections
abbrev pub mode_changed : View → Mode → ℕ → View
mode_changed v Candidate term = record v {
  mode = Candidate;
  finder = answers_forgotten v.finder v.moment;
  deadline = None;
  attempt = 0;
  round = None;
  publication = None;
  followers = no_followers;
  leader_check = None;
  tasks = no_tasks;
}
mode_changed v Leader term = record v { mode = Leader; leader_term = term; led_from = v.moment; leader_check = None }
mode_changed v (Follower leader) term = record v { mode = Follower leader; leader_check = check_from (Follower leader) v.moment }

abbrev pub noted : Settings → View → Note → View
noted s v (Met ids) = record v { finder = met v.finder ids }
noted s v (Heard peer master) = record v { finder = heard v.finder peer master }
noted s v PeersAsked = record v { finder = peers_asked v.finder v.moment }
noted s v ElectionOff = record v { deadline = None }
noted s v (ElectionSet word) = record v { attempt = 0; deadline = Some (first_deadline v.moment word) }
noted s v (RoundBegun word) = record v {
  attempt = next_attempt v.attempt;
  deadline = Some (next_deadline v.moment (next_attempt v.attempt) word);
  round = Some (round_begun s.me v.node);
}
noted s v (RoundAnswered source term last) = record v { round = round_answered v.round source term last }
noted s v RoundEnded = record v { round = None }
noted s v (Joined ids) = record v { tasks = all_to_be_added v.tasks ids }
noted s v FollowersChecked = record v { followers = followers_ticked v.followers v.moment }
noted s v (FollowerAnswered from good applied) = record v { followers = follower_answered v.followers from good applied v.moment }
noted s v LeaderChecked = record v { leader_check = leader_ticked v.leader_check v.moment }
noted s v (LeaderAnswered good) = record v { leader_check = leader_answered v.leader_check good v.moment }
noted s v (Queued conn request) = record v { tasks = arrived v.tasks conn v.moment request }
noted s v ExclusionsTimedOut = record v { tasks = without_answered (timed_out v.node.committed v.moment) v.tasks }
noted s v CommitAcked = record v { tasks = without_answered (committed_in (published_id v.node)) v.tasks }
noted s v AppliedAnswered = record v { tasks = without_answered (applied_in v.node.committed v.node.accepted) v.tasks }
noted s v StateMade = record v { tasks = tasks_after (master_now s v) v.tasks }
noted s v HandedOver = record v { handover_due = v.moment + handover_interval }
noted s v LeaderLost = record v { finder = search_held v.finder v.moment; lost_leader = true }
noted s v (PeerLost id) = record v { finder = peer_lost v.finder id v.moment; followers = follower_lost v.followers id }

abbrev pub moved : Settings → View → Item → View
moved s v (Opens found) = opened s found
moved s v (Begins event) = begun v event
moved s v (Acts act o) = acted s v act o
moved s v (ChangesMode mode term) = mode_changed v mode term
moved s v (Drops member cause) = record v { tasks = to_be_removed v.tasks member }
moved s v (Sends frame) = v
moved s v (Replies answer) = v
moved s v (Notes note) = noted s v note

abbrev pub moved_all : Settings → View → List Item → View
moved_all s v [] = v
moved_all s v (i ∷ is) = moved_all s (moved s v i) is

-- an item that is no opening
abbrev pub is_own : Item → Bool
is_own (Opens found) = false
is_own (Acts act o) = not (is_opening act)
is_own i = true

abbrev pub are_own : List Item → Bool
are_own [] = true
are_own (i ∷ is) = is_own i && are_own is

-- the look-backs over one more item are those of before, moved by this item
pub view_of-And : (s : Settings) (l : Log) (i : Item) → is_own i ≡ true → view_of s (And l i) ≡ moved s (view_of s l) i
view_of-And s l (Opens found) h = cc
view_of-And s l (Begins Start) h = refl
view_of-And s l (Begins (Tick now word)) h = refl
view_of-And s l (Begins (FrameCame frame)) h = refl
view_of-And s l (Begins (LineCame conn line)) h = refl
view_of-And s l (Begins (PeerGone peer)) h = refl
view_of-And s l (Acts (Bootstrap config) o) h = refl
view_of-And s l (Acts (StartJoin candidate term) o) h = refl
view_of-And s l (Acts (TakeJoin join) o) h = refl
view_of-And s l (Acts (Value version config value) o) h = refl
view_of-And s l (Acts (Publish request) o) h = refl
view_of-And s l (Acts (Response response) o) h = refl
view_of-And s l (Acts (Commit commit) o) h = refl
view_of-And s l (Acts (Open found) o) h = cc
view_of-And s l (ChangesMode Candidate term) h = refl
view_of-And s l (ChangesMode Leader term) h = refl
view_of-And s l (ChangesMode (Follower leader) term) h = refl
view_of-And s l (Drops member cause) h = refl
view_of-And s l (Sends frame) h = refl
view_of-And s l (Replies answer) h = refl
view_of-And s l (Notes (Met ids)) h = refl
view_of-And s l (Notes (Heard peer master)) h = refl
view_of-And s l (Notes PeersAsked) h = refl
view_of-And s l (Notes ElectionOff) h = refl
view_of-And s l (Notes (ElectionSet word)) h = refl
view_of-And s l (Notes (RoundBegun word)) h = refl
view_of-And s l (Notes (RoundAnswered source term last)) h = refl
view_of-And s l (Notes RoundEnded) h = refl
view_of-And s l (Notes (Joined ids)) h = refl
view_of-And s l (Notes FollowersChecked) h = refl
view_of-And s l (Notes (FollowerAnswered from good applied)) h = refl
view_of-And s l (Notes LeaderChecked) h = refl
view_of-And s l (Notes (LeaderAnswered good)) h = refl
view_of-And s l (Notes (Queued conn request)) h = refl
view_of-And s l (Notes ExclusionsTimedOut) h = refl
view_of-And s l (Notes CommitAcked) h = refl
view_of-And s l (Notes AppliedAnswered) h = refl
view_of-And s l (Notes StateMade) h = refl
view_of-And s l (Notes HandedOver) h = refl
view_of-And s l (Notes (PeerLost id)) h = refl
view_of-And s l (Notes LeaderLost) h = refl
