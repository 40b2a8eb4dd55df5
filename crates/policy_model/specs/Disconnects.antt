-- Part of the statement: what a node does where the connection to another has ended, and no other one leads to it.
use Rattle.std.specs.Prelude.{◌+◌, Bool, not, ◌&&◌, List, [], ◌∷◌, ◌++◌, if◌then◌else◌, is_some}
use Rattle.voting_config.specs.Ids.{Id, has, same, with_room}
use Rattle.peer_finder.specs.Peers.{answer_in}
use Rattle.fault_checks.specs.Followers.{ids_of}
use Rattle.world_model.specs.Replies.{elects}
use Rattle.policy_model.specs.declared.settings.Settings.{Settings}
use Rattle.policy_model.specs.Events.{Mode, Candidate, Leader, Follower, Disconnect, Item, Drops, Notes, PeerLost, LeaderLost}
use Rattle.policy_model.specs.Views.{View}
use Rattle.policy_model.specs.Doing.{then_rule, becomes_candidate, is_second}
use Rattle.policy_model.specs.NextState.{goes_on, is_in_flight, is_hopeless}
use Rattle.policy_model.specs.Elections.{stands_for_election}

module _ (s : Settings) where
  -- The node and the followers that it watches are an election quorum. In the second profile those that may respond are asked for where a
  -- publication is in flight: what they have answered may commit it.
  abbrev pub keeps_quorum : View → Bool
  keeps_quorum v =
      if is_second s && is_in_flight v.publication then not (is_hopeless v v.publication)
      else elects v.node (with_room (ids_of v.followers.watched) s.me)

  -- A leader without a quorum could commit nothing: it leads no more, and asks all for their votes at once. Whom it reaches, it may lead
  -- again in the next term; where it reaches nobody, nobody hears of that.
  abbrev pub stands_anew : View → List Item
  stands_anew v = then_rule s v (becomes_candidate s v) (λ u. stands_for_election s u (u.node.term + 1))

  abbrev pub goes_on_with_rest : View → List Item
  goes_on_with_rest v = if keeps_quorum v then goes_on s v else stands_anew v

  -- a follower that is watched is to be a member no more, and is watched no more
  abbrev pub drops_follower : Id → List Item
  drops_follower p = Drops p Disconnect ∷ Notes (PeerLost p) ∷ []

  abbrev pub loses_follower : View → Id → List Item
  loses_follower v p = if has p (ids_of v.followers.watched) then then_rule s v (drops_follower p) goes_on_with_rest else []

  -- a candidate forgets what the node answered, and asks its peers at once; of one that has not answered there is nothing to forget
  abbrev pub loses_peer : View → Id → List Item
  loses_peer v p = if is_some (answer_in v.finder.peers p) then Notes (PeerLost p) ∷ [] else []

  -- a follower is a candidate, and asks its peers a little later
  abbrev pub loses_leader : View → List Item
  loses_leader v = becomes_candidate s v ++ Notes LeaderLost ∷ []

  -- a candidate loses a peer, a leader a follower, a follower its leader
  abbrev pub loses : View → Id → Mode → List Item
  loses v p Candidate = loses_peer v p
  loses v p Leader = loses_follower v p
  loses v p (Follower leader) = if same leader p then loses_leader v else []
