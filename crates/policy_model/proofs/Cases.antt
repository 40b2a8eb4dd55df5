-- What the rules say in more plain cases: pre-votes, joins that are asked for, peers, hand-overs, members that lag, exclusions.
use Rattle.std.proofs.Common.{◌≡◌, ℕ, true, false, None, Some, List, [], ◌∷◌, refl}
use Rattle.voting_config.specs.Ids.{Id}
use Rattle.cluster_state.specs.declared.state.StateId.{StateId}
use Rattle.cluster_state.specs.States.{id_of}
use Rattle.wire_frames.specs.declared.frame.WireMessage.{WireMessage}
use Rattle.wire_frames.specs.declared.frame.WireMessage.TheVariants as message
use Rattle.cluster_state.specs.declared.request.Ask.TheVariants as ask
use Rattle.cluster_state.specs.declared.reply.Answer.TheVariants as answer
use Rattle.cluster_state.specs.declared.reply.Reply.TheVariants as reply
use Rattle.fault_checks.specs.Checks.{unchecked}
use Rattle.peer_finder.specs.declared.Peer.{Peer}
use Rattle.fault_checks.specs.Followers.{no_state}
use Rattle.fault_checks.specs.declared.followers.Follower.{Follower as Watched}
use Rattle.master_tasks.specs.declared.waiting.Waiting.{Waiting}
use Rattle.master_tasks.specs.Queue.{no_tasks}
use Rattle.pre_vote.specs.Rounds.{started}
use Rattle.policy_model.specs.declared.settings.Settings.{Settings}
use Rattle.policy_model.specs.Events.{Candidate, Leader, Follower, Checks, Lag, Disconnect, Item, ChangesMode, Drops, Sends, Replies, Notes, Met, Heard, RoundAnswered, RoundEnded, Joined, FollowersChecked, LeaderChecked, ExclusionsTimedOut, CommitAcked, AppliedAnswered, HandedOver, PeerLost}
use Rattle.policy_model.specs.Parts.{no_peers, no_followers, published_at, policy_at}
use Rattle.policy_model.specs.Views.{View}
use Rattle.policy_model.specs.Moves.{moved}
use Rattle.policy_model.specs.NextState.{hands_over}
use Rattle.policy_model.specs.Disconnects.{loses_follower}
use Rattle.policy_model.specs.Elections.{election_rank, begins_round, waits_until, on_pre_vote_ask, on_pre_vote_answer}
use Rattle.policy_model.specs.Discovery.{on_peers_answer}
use Rattle.policy_model.specs.Joins.{on_join_ask}
use Rattle.policy_model.specs.Publications.{sends_first_commit, answers_applied}
use Rattle.policy_model.specs.Checks.{checks_followers, checks_leader, on_follower_check, on_leader_check}
use Rattle.policy_model.specs.Requests.{times_out_exclusions}

abbrev a : Id
a = 97 ∷ []

abbrev b : Id
b = 98 ∷ []

abbrev c : Id
c = 99 ∷ []

abbrev state_id : ℕ → ℕ → StateId
state_id term version = record { term = term; version = version }

abbrev three : Settings
three = record { me = a; peers = []; initial = a ∷ b ∷ c ∷ []; voting_only = []; policy = record { shrink = true; second = false } }

-- the same in the second profile, and the last of the three
abbrev second : Settings
second = record three { policy = record { shrink = true; second = true } }

abbrev last_of_three : Settings
last_of_three = record three { me = c }

-- a peer that has not answered, and one that knows no master
abbrev unanswered : Id → Peer
unanswered id = record { id = id; answer = None }

abbrev free : Id → Peer
free id = record { id = id; answer = Some (record { master = None }) }

abbrev to : Id → WireMessage → Item
to id m = Sends (record { from = a; to = id; message = m })

-- by the second profile a leader takes no voter out for being away in its first 10 s, by the first from the start on
too_new : (policy_at second 5000 14999).shrink ≡ false
too_new = refl

long_enough : (policy_at second 5000 15000).shrink ≡ true
long_enough = refl

at_once : (policy_at three 5000 5000).shrink ≡ true
at_once = refl

module _ (v : View) where
  -- a follower refuses a pre-vote to another node, and answers its leader
  follower_refuses : on_pre_vote_ask three (record v { mode = Follower b }) c ≡ to c (message.PreVoteRefuse b) ∷ []
  follower_refuses = refl

  leader_is_answered : on_pre_vote_ask three (record v { mode = Follower b }) b ≡ to b (message.PreVoteAnswer v.node.term (id_of v.node.accepted)) ∷ []
  leader_is_answered = refl

  -- a candidate of term 4 with a round, one of three voters, which has met the others
  abbrev in_round : View
  in_round = record v {
    mode = Candidate;
    node = record v.node { term = 4; committed = a ∷ b ∷ c ∷ []; accepted = record v.node.accepted { config = a ∷ b ∷ c ∷ [] } };
    finder = record (no_peers a) { peers = record { id = b; answer = None } ∷ [] };
    round = Some (started a (state_id 1 3) 4);
  }

  -- an answer that counts makes it stand for election, in the term after the greatest
  pre_vote_elects : on_pre_vote_answer three in_round in_round.round b 6 (state_id 1 3)
      ≡ Notes (RoundAnswered b 6 (state_id 1 3)) ∷ Notes RoundEnded ∷ to a (message.StartJoin a 7) ∷ to b (message.StartJoin a 7) ∷ []
  pre_vote_elects = refl

  -- an answer of one that has accepted more doesn't
  fresher_does_not : on_pre_vote_answer three in_round in_round.round b 6 (state_id 1 4) ≡ Notes (RoundAnswered b 6 (state_id 1 4)) ∷ []
  fresher_does_not = refl

  -- without a round, and in another mode, nothing is counted
  no_round : on_pre_vote_answer three in_round None b 6 (state_id 1 3) ≡ []
  no_round = refl

  leader_counts_none : on_pre_vote_answer three (record in_round { mode = Leader }) in_round.round b 6 (state_id 1 3) ≡ []
  leader_counts_none = refl

  -- The last of three voters, a candidate that has lost its leader: it leaves 500 ms to each voter that comes first and has answered as free.
  abbrev leaderless : List Peer → ℕ → View
  leaderless peers now = record v {
    moment = now;
    lost_leader = true;
    node = record v.node { accepted = record v.node.accepted { config = a ∷ b ∷ c ∷ [] } };
    finder = record (no_peers c) { peers = peers };
  }

  two_come_first : election_rank last_of_three (leaderless (free a ∷ free b ∷ []) 5000) ≡ 2
  two_come_first = refl

  dead_are_not_counted : election_rank last_of_three (leaderless (unanswered a ∷ free b ∷ []) 5000) ≡ 1
  dead_are_not_counted = refl

  voting_only_is_not_counted : election_rank (record last_of_three { voting_only = b ∷ [] }) (leaderless (unanswered a ∷ free b ∷ []) 5000) ≡ 0
  voting_only_is_not_counted = refl

  nobody_comes_first : election_rank last_of_three (record (leaderless (free a ∷ free b ∷ []) 5000) { lost_leader = false }) ≡ 0
  nobody_comes_first = refl

  waits_its_turn : (word : ℕ) → waits_until last_of_three (leaderless (unanswered a ∷ free b ∷ []) 5499) word (Some 5000) ≡ []
  waits_its_turn word = refl

  its_turn : (word : ℕ)
      → waits_until last_of_three (leaderless (unanswered a ∷ free b ∷ []) 5500) word (Some 5000)
      ≡ begins_round last_of_three (leaderless (unanswered a ∷ free b ∷ []) 5500) word
  its_turn word = refl

  -- a leader of term 4 that watches b alone; of its last state, with the members a, b and c, these have responded
  abbrev watching_b : List Id → View
  watching_b responders = record v {
    mode = Leader;
    node = record v.node {
      term = 4;
      committed = a ∷ b ∷ c ∷ [];
      published_config = a ∷ b ∷ c ∷ [];
      accepted = record v.node.accepted { config = a ∷ b ∷ c ∷ [] };
    };
    finder = record (no_peers a) { peers = free b ∷ unanswered c ∷ [] };
    publication = Some (record (published_at (state_id 4 1) (a ∷ b ∷ c ∷ []) 0) { responders = responders });
    followers = record no_followers { watched = record { id = b; check = unchecked 0; applied = no_state; behind = None } ∷ [] };
    tasks = no_tasks;
  }

  -- it loses b, so its quorum, and asks all for their votes at once
  asks_anew : loses_follower three (watching_b (a ∷ b ∷ [])) b
      ≡ Drops b Disconnect
      ∷ Notes (PeerLost b)
      ∷ ChangesMode Candidate 4
      ∷ Notes RoundEnded
      ∷ to a (message.StartJoin a 5)
      ∷ to b (message.StartJoin a 5)
      ∷ to c (message.StartJoin a 5)
      ∷ []
  asks_anew = refl

  -- in the second profile not where b's response may still commit the state
  response_counts : loses_follower second (watching_b (a ∷ b ∷ [])) b ≡ Drops b Disconnect ∷ Notes (PeerLost b) ∷ []
  response_counts = refl

  asks_anew_too : loses_follower second (record (watching_b (a ∷ [])) { tasks = record no_tasks { removals = c ∷ [] } }) b ≡ loses_follower three (watching_b (a ∷ [])) b
  asks_anew_too = refl

  -- a leader takes who asks for a join as a member; in a later term it raises its own; another node does nothing
  abbrev leading : View
  leading = record v { mode = Leader; node = record v.node { term = 4 }; publication = Some (published_at (state_id 4 1) (a ∷ []) 0) }

  leader_takes_member : on_join_ask three leading b 4 ≡ Notes (Joined (b ∷ [])) ∷ []
  leader_takes_member = refl

  follower_takes_none : on_join_ask three (record v { mode = Follower b }) c 4 ≡ []
  follower_takes_none = refl

  -- a candidate that hears of a master from that master asks it for a join
  abbrev seeking : View
  seeking = record v { mode = Candidate; node = record v.node { term = 4 } }

  master_is_asked : on_peers_answer three seeking b (Some b) 4 (c ∷ [])
      ≡ Notes (Met (b ∷ c ∷ [])) ∷ Notes (Heard b (Some b)) ∷ to b (message.JoinAsk 4) ∷ []
  master_is_asked = refl

  other_master_is_not : on_peers_answer three seeking b (Some c) 4 [] ≡ Notes (Met (b ∷ [])) ∷ Notes (Heard b (Some c)) ∷ []
  other_master_is_not = refl

  follower_meets : on_peers_answer three (record v { mode = Follower b }) b (Some b) 4 (c ∷ []) ≡ Notes (Met (b ∷ c ∷ [])) ∷ []
  follower_meets = refl

  -- a hand-over comes a second after the last one at the earliest
  abbrev leaving : ℕ → View
  leaving now = record v {
    node = record v.node { term = 4; committed = b ∷ [] };
    moment = now;
    handover_due = 2000;
    publication = Some (record (published_at (state_id 4 1) (a ∷ b ∷ []) 0) { responders = a ∷ [] });
  }

  too_early : hands_over three (leaving 1999) ≡ []
  too_early = refl

  -- the second begins also where no responder votes
  nobody_to_ask : hands_over three (leaving 2000) ≡ Notes HandedOver ∷ []
  nobody_to_ask = refl

  next_second : (moved three (leaving 2000) (Notes HandedOver)).handover_due ≡ 3000
  next_second = refl

  -- a member that fell behind at 5000
  abbrev late : Watched
  late = record { id = b; check = unchecked 94900; applied = no_state; behind = Some (record { state = state_id 1 2; since = 5000 }) }

  abbrev watching : Watched → ℕ → View
  watching f now = record v { moment = now; followers = record no_followers { watched = f ∷ [] } }

  lag_drops : checks_followers three (watching late 95000) ≡ Drops b Lag ∷ Notes FollowersChecked ∷ []
  lag_drops = refl

  not_yet : checks_followers three (watching late 94999) ≡ Notes FollowersChecked ∷ []
  not_yet = refl

  -- one line for a member that lags and whose checks fail
  checks_come_first : checks_followers three (watching (record late { check = record (unchecked 94900) { failures = 3 } }) 95000)
      ≡ Drops b Checks ∷ Notes FollowersChecked ∷ []
  checks_come_first = refl

  -- a member is answered whether the node leads it in its term
  member_is_led : on_leader_check three (record leading { publication = Some (published_at (state_id 4 1) (a ∷ b ∷ []) 0) }) b 4 ≡ to b (message.LeaderAnswer true) ∷ []
  member_is_led = refl

  other_term_is_not : on_leader_check three (record leading { publication = Some (published_at (state_id 4 1) (a ∷ b ∷ []) 0) }) b 3 ≡ to b (message.LeaderAnswer false) ∷ []
  other_term_is_not = refl

  no_member_is_not : on_leader_check three leading b 4 ≡ to b (message.LeaderAnswer false) ∷ []
  no_member_is_not = refl

  -- a check of an earlier term is answered no
  earlier_leader : on_follower_check three (record v { node = record v.node { term = 4 } }) b 3 ≡ to b (message.FollowerAnswer false 4 v.applied) ∷ []
  earlier_leader = refl

  -- a leader whose checks failed three times is lost
  abbrev following : ℕ → View
  following failures = record v {
    mode = Follower b;
    moment = 5000;
    leader_check = Some (record { leader = b; check = record (unchecked 4000) { failures = failures } });
  }

  leader_is_lost : checks_leader three (following 3) b (following 3).leader_check ≡ Notes LeaderChecked ∷ ChangesMode Candidate v.node.term ∷ []
  leader_is_lost = refl

  leader_is_asked : checks_leader three (following 2) b (following 2).leader_check ≡ Notes LeaderChecked ∷ to b (message.LeaderCheck v.node.term) ∷ []
  leader_is_asked = refl

  -- an exclusion of b and c, processed
  abbrev excluding : Waiting
  excluding = record { conn = 5; arrived = 100; request = record { id = 9; ask = ask.Exclude (b ∷ c ∷ []) }; processed = true }

  abbrev answering : List Id → ℕ → View
  answering committed now = record v {
    node = record v.node { term = 1; published_version = 2; committed = committed };
    moment = now;
    tasks = record no_tasks { waiting = excluding ∷ [] };
    publication = Some (published_at (state_id 1 2) [] 0);
  }

  -- the commit alone does not acknowledge it
  commit_is_not_enough : sends_first_commit three (answering (a ∷ []) 200) (state_id 1 2) ≡ Notes CommitAcked ∷ []
  commit_is_not_enough = refl

  -- it is acknowledged once none of its nodes votes
  votes_no_more : answers_applied three (answering (a ∷ []) 200)
      ≡ Replies (record { conn = 5; reply = reply.To 9 (answer.Acked (id_of v.node.accepted)) }) ∷ Notes AppliedAnswered ∷ []
  votes_no_more = refl

  still_votes : answers_applied three (answering (a ∷ c ∷ []) 200) ≡ Notes AppliedAnswered ∷ []
  still_votes = refl

  -- or told after 30 seconds which of them still vote
  waits_too_long : times_out_exclusions three (answering (a ∷ c ∷ []) 30100)
      ≡ Replies (record { conn = 5; reply = reply.To 9 (answer.ExclusionTimeout (c ∷ [])) }) ∷ Notes ExclusionsTimedOut ∷ []
  waits_too_long = refl

  waits_on : times_out_exclusions three (answering (a ∷ c ∷ []) 30099) ≡ Notes ExclusionsTimedOut ∷ []
  waits_on = refl
