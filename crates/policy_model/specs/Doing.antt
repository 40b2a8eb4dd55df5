-- Part of the statement: what the rules are made of: acts with their answers, frames and replies, and the changes of mode. Each says which
-- items a node adds that is v.
use Rattle.std.specs.Prelude.{ℕ, Bool, true, false, Option, None, Some, List, [], ◌∷◌, ◌++◌, map, nat_lt, if◌then◌else◌}
use Rattle.voting_config.specs.Ids.{Id, same, has}
use Rattle.wire_frames.specs.declared.frame.WireMessage.{WireMessage}
use Rattle.wire_frames.specs.declared.frame.WireMessage.TheVariants as message
use Rattle.master_tasks.specs.declared.waiting.Outgoing.{Outgoing}
use Rattle.master_tasks.specs.Answering.{answers_by, failed}
use Rattle.exclusions.specs.Exclusions.{may_win_of}
use Rattle.world_model.specs.declared.acts.Act.{Act}
use Rattle.world_model.specs.declared.acts.Act.TheVariants.{StartJoin}
use Rattle.world_model.specs.declared.acts.Outcome.TheVariants.{Answered}
use Rattle.world_model.specs.declared.acts.ActReply.{ActReply}
use Rattle.cluster_state.specs.States.{id_of}
use Rattle.world_model.specs.Replies.{reply_at, is_taken}
use Rattle.policy_model.specs.declared.settings.Settings.{Settings}
use Rattle.policy_model.specs.Events.{Mode, Candidate, Leader, Follower, Item, Acts, ChangesMode, Sends, Replies}
use Rattle.policy_model.specs.Views.{View}
use Rattle.policy_model.specs.Moves.{moved, moved_all}

abbrev pub is_candidate : Mode → Bool
is_candidate Candidate = true
is_candidate Leader = false
is_candidate (Follower leader) = false

abbrev pub is_leader : Mode → Bool
is_leader Candidate = false
is_leader Leader = true
is_leader (Follower leader) = false

abbrev pub follows_node : Mode → Id → Bool
follows_node Candidate p = false
follows_node Leader p = false
follows_node (Follower leader) p = same leader p

-- the leader that a node knows: itself, or the one that it follows
abbrev pub leader_of : Id → Mode → Option Id
leader_of me Candidate = None
leader_of me Leader = Some me
leader_of me (Follower leader) = Some leader

module _ (s : Settings) where
  -- one rule, and then the next, at the view after the first
  abbrev pub then_rule : View → List Item → (View → List Item) → List Item
  then_rule v items rule = items ++ rule (moved_all s v items)

  -- an act with the answer that it gets, and the view after it
  abbrev pub reply_now : View → Act → ActReply
  reply_now v act = reply_at s.me v.node act

  abbrev pub act_now : View → Act → Item
  act_now v act = Acts act (Answered (reply_now v act))

  abbrev pub after_act : View → Act → View
  after_act v act = moved s v (act_now v act)

  abbrev pub takes : View → Act → Bool
  takes v act = is_taken (reply_now v act)

  abbrev pub send : Id → WireMessage → Item
  send to m = Sends (record { from = s.me; to = to; message = m })

  abbrev pub send_all : List Id → WireMessage → List Item
  send_all ids m = map (λ id. send id m) ids

  abbrev pub reply_all : List Outgoing → List Item
  reply_all answers = map Replies answers

  -- whether the node votes or is not excluded
  abbrev pub may_win : View → Bool
  may_win v = may_win_of s.me v.node.committed v.node.accepted.config v.node.accepted.value.exclusions

  -- whether a node votes and is never to lead, as this one was told
  abbrev pub is_voting_only : Id → Bool
  is_voting_only id = has id s.voting_only

  -- whether the node goes by the second profile
  abbrev pub is_second : Bool
  is_second = s.policy.second

  -- becoming a candidate: a leader's open requests fail, with the term in which it led
  abbrev pub becomes_candidate : View → List Item
  becomes_candidate v =
      (if is_leader v.mode then reply_all (answers_by (failed v.leader_term) v.tasks.waiting) else [])
      ++ ChangesMode Candidate v.node.term ∷ []

  -- becoming one where it is none
  abbrev pub becomes_candidate_once : View → List Item
  becomes_candidate_once v = if is_candidate v.mode then [] else becomes_candidate v

  -- starting a join for a candidate in a term: the join goes to it
  abbrev pub on_start_join : View → Id → ℕ → List Item
  on_start_join v candidate term =
      act_now v (StartJoin candidate term)
      ∷ (if takes v (StartJoin candidate term)
      then send candidate (message.Join term (id_of v.node.accepted)) ∷ becomes_candidate_once (after_act v (StartJoin candidate term))
      else [])

  -- the same where the term is above the node's
  abbrev pub raises_term : View → Id → ℕ → List Item
  raises_term v candidate term = if nat_lt v.node.term term then on_start_join v candidate term else []

  -- following a node, which is not done anew; a leader becomes a candidate first
  abbrev pub becomes_follower : View → Id → List Item
  becomes_follower v p =
      if follows_node v.mode p then []
      else (if is_leader v.mode then becomes_candidate v else []) ++ ChangesMode (Follower p) v.node.term ∷ []
