-- Part of the statement: how a candidate comes to be elected: the first configuration, the wait for an election, pre-votes.
use Rattle.std.specs.Prelude.{ℕ, ◌+◌, ◌-◌, ◌*◌, Bool, not, ◌&&◌, Option, None, Some, List, [], ◌∷◌, ◌++◌, length, filter, nat_le, if◌then◌else◌}
use Rattle.cluster_state.specs.Field.{last_number}
use Rattle.voting_config.specs.Ids.{Id, before, has, with_id, without_id}
use Rattle.cluster_state.specs.declared.state.StateId.{StateId}
use Rattle.wire_frames.specs.declared.frame.WireMessage.TheVariants as message
use Rattle.bootstrap.specs.Decisions.{decision_of}
use Rattle.election_clock.specs.Delays.{is_due}
use Rattle.peer_finder.specs.Peers.{known_set, answered_set, free_set}
use Rattle.pre_vote.specs.declared.rounds.Added.{Added}
use Rattle.pre_vote.specs.declared.rounds.Added.TheVariants.{Counted, Fresher, Quorum}
use Rattle.pre_vote.specs.declared.replies.Reply.{Reply}
use Rattle.pre_vote.specs.declared.replies.Reply.TheVariants.{Answer, Refused}
use Rattle.pre_vote.specs.Replies.{reply_to}
use Rattle.pre_vote.specs.Rounds.{Round, answered, fits, added_of}
use Rattle.world_model.specs.declared.acts.Act.TheVariants.{Bootstrap}
use Rattle.cluster_state.specs.States.{id_of}
use Rattle.cluster_state.specs.JoinCheck.{is_empty}
use Rattle.world_model.specs.Replies.{elects}
use Rattle.policy_model.specs.declared.settings.Settings.{Settings}
use Rattle.policy_model.specs.Events.{Item, Notes, Met, ElectionOff, ElectionSet, RoundBegun, RoundAnswered, RoundEnded}
use Rattle.policy_model.specs.Parts.{election_duration}
use Rattle.policy_model.specs.Views.{View}
use Rattle.policy_model.specs.Doing.{is_candidate, leader_of, act_now, send, send_all, may_win, is_voting_only}

module _ (s : Settings) where
  -- without a configuration the node takes the first one, once it knows enough of the first voters
  abbrev pub takes_config : View → Option (List Id) → List Item
  takes_config v None = []
  takes_config v (Some config) = act_now s v (Bootstrap config) ∷ []

  abbrev pub bootstraps : View → List Item
  bootstraps v = takes_config v (decision_of s.initial (answered_set v.finder) s.me (not (is_empty v.node.accepted.config)))

  -- the node stands for election: the round ends, and all peers and the node itself are asked to join, where the term is not too large
  abbrev pub stands_for_election : View → ℕ → List Item
  stands_for_election v term =
      Notes RoundEnded
      ∷ (if nat_le term last_number then send_all s (with_id s.me (known_set v.finder)) (message.StartJoin s.me term) else [])

  -- the node, and the peers whose last answer names no master
  abbrev pub free_nodes : View → List Id
  free_nodes v = with_id s.me (free_set v.finder)

  -- a voter that may lead, is free, and comes before this node by its id
  abbrev pub comes_first : View → Id → Bool
  comes_first v id = before id s.me && (has id (free_nodes v) && not (is_voting_only s id))

  -- Nodes lose their leader at one moment. So that they don't all stand for election at once, each leaves those that come first the time of
  -- an election each, until it takes a commit. A node that has lost no leader waits for nobody.
  abbrev pub election_rank : View → ℕ
  election_rank v = if v.lost_leader then length (filter (λ id. comes_first v id) v.node.accepted.config) else 0

  -- a round of pre-votes, which a node that is a quorum alone ends at once
  abbrev pub begins_round : View → ℕ → List Item
  begins_round v word =
      Notes (RoundBegun word) ∷ send_all s (without_id s.me (free_nodes v)) message.PreVoteAsk
      ++ (if elects v.node (s.me ∷ []) then stands_for_election v (v.node.term + 1) else [])

  abbrev pub waits_until : View → ℕ → Option ℕ → List Item
  waits_until v word None = Notes (ElectionSet word) ∷ []
  waits_until v word (Some deadline) =
      if is_due deadline (v.moment - election_duration * election_rank v) then begins_round v word else []

  -- the node is not voting-only, it may win, and the free nodes are a quorum
  abbrev pub may_be_elected : View → Bool
  may_be_elected v = not (is_voting_only s s.me) && (may_win s v && elects v.node (free_nodes v))

  -- a node that may be elected waits for an election
  abbrev pub waits_for_election : View → ℕ → List Item
  waits_for_election v word =
      if may_be_elected v then waits_until v word v.deadline else Notes ElectionOff ∷ []

  -- who asks for a pre-vote is answered, or told of another leader
  abbrev pub pre_vote_reply : View → Id → Reply → List Item
  pre_vote_reply v p Answer = send s p (message.PreVoteAnswer v.node.term (id_of v.node.accepted)) ∷ []
  pre_vote_reply v p (Refused leader) = send s p (message.PreVoteRefuse leader) ∷ []

  abbrev pub on_pre_vote_ask : View → Id → List Item
  on_pre_vote_ask v p = pre_vote_reply v p (reply_to p (leader_of s.me v.mode))

  -- an answer to a candidate with an open round, where it fits
  abbrev pub goes_to_election : View → Added → List Item
  goes_to_election v Counted = []
  goes_to_election v Fresher = []
  goes_to_election v (Quorum term) = stands_for_election v term

  abbrev pub on_pre_vote_answer : View → Option Round → Id → ℕ → StateId → List Item
  on_pre_vote_answer v None p term last = []
  on_pre_vote_answer v (Some round) p term last =
      if is_candidate v.mode && fits p round
      then Notes (RoundAnswered p term last)
      ∷ goes_to_election v (added_of (answered round p term last) last v.node.committed v.node.accepted.config)
      else []

  -- who refuses a pre-vote names the leader
  abbrev pub on_pre_vote_refuse : View → Id → List Item
  on_pre_vote_refuse v leader = Notes (Met (leader ∷ [])) ∷ []
