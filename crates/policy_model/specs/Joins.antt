-- Part of the statement: how a node is joined, wins an election, and takes members.
use Rattle.std.specs.Prelude.{ℕ, Bool, false, not, ◌&&◌, List, [], ◌∷◌, nat_le, if◌then◌else◌}
use Rattle.voting_config.specs.Ids.{Id, has_room}
use Rattle.cluster_state.specs.declared.messages.Join.{Join}
use Rattle.cluster_state.specs.declared.state.StateId.{StateId}
use Rattle.world_model.specs.declared.acts.Act.{Act}
use Rattle.world_model.specs.declared.acts.Act.TheVariants.{TakeJoin}
use Rattle.world_model.specs.declared.acts.ActReply.{ActReply}
use Rattle.world_model.specs.declared.acts.ActReply.TheVariants.{Taken, Refused, Stopped}
use Rattle.policy_model.specs.declared.settings.Settings.{Settings}
use Rattle.policy_model.specs.Events.{Leader, Item, ChangesMode, Notes, Joined}
use Rattle.policy_model.specs.Views.{View}
use Rattle.policy_model.specs.Doing.{is_leader, is_voting_only, then_rule, reply_now, act_now, after_act, takes, on_start_join, raises_term}
use Rattle.policy_model.specs.NextState.{goes_on}

-- a join wins the election
abbrev pub wins_now : ActReply → Bool
wins_now (Taken sends wins) = wins
wins_now (Refused cause) = false
wins_now Stopped = false

abbrev pub join_from : Id → Id → ℕ → StateId → Join
join_from p me term last = record { source = p; target = me; term = term; last_term = last.term; last_version = last.version }

module _ (s : Settings) where
  -- the winner leads, with all who voted as members
  abbrev pub leads : View → List Item
  leads v = then_rule s v (ChangesMode Leader v.node.term ∷ Notes (Joined (s.me ∷ v.node.join_votes)) ∷ []) (goes_on s)

  -- a node is to become a member
  abbrev pub takes_member : View → Id → List Item
  takes_member v p = then_rule s v (Notes (Joined (p ∷ [])) ∷ []) (goes_on s)

  -- a node that is v takes the join, and is `after` then
  abbrev pub after_join : View → View → Act → Id → List Item
  after_join v after act p =
      if wins_now (reply_now s v act) then leads after
      else if takes s v act && is_leader after.mode then takes_member after p
      else []

  abbrev pub takes_join : View → Id → ℕ → StateId → List Item
  takes_join v p term last =
      let act = TakeJoin (join_from p s.me term last) in
      if has_room v.node.join_votes p then act_now s v act ∷ after_join v (after_act s v act) act p else []

  -- a join from p is counted; the node's own term may rise first
  abbrev pub counts_join : View → Id → ℕ → StateId → List Item
  counts_join v p term last = then_rule s v (raises_term s v s.me term) (λ v'. takes_join v' p term last)

  -- a voting-only node does nothing with a join, so it never wins
  abbrev pub on_join : View → Id → ℕ → StateId → List Item
  on_join v p term last = if is_voting_only s s.me then [] else counts_join v p term last

  -- a leader is asked for a join: who is in a later term gets one by a new election
  abbrev pub on_join_ask : View → Id → ℕ → List Item
  on_join_ask v p term =
      if not (is_leader v.mode) then []
      else if nat_le term v.node.term then takes_member v p
      else on_start_join s v s.me term
