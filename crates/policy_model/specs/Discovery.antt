-- Part of the statement: how nodes find each other, and a master to join.
use Rattle.std.specs.Prelude.{ℕ, Bool, false, Option, None, Some, List, [], ◌∷◌, nat_lt, if◌then◌else◌}
use Rattle.voting_config.specs.Ids.{Id, same, with_id}
use Rattle.wire_frames.specs.declared.frame.WireMessage.TheVariants as message
use Rattle.election_clock.specs.Delays.{is_due}
use Rattle.peer_finder.specs.Peers.{known_set}
use Rattle.policy_model.specs.declared.settings.Settings.{Settings}
use Rattle.policy_model.specs.Events.{Item, Notes, Met, Heard, PeersAsked}
use Rattle.policy_model.specs.Views.{View}
use Rattle.policy_model.specs.Doing.{is_candidate, leader_of, then_rule, send, send_all, on_start_join}

abbrev pub is_node : Option Id → Id → Bool
is_node None p = false
is_node (Some master) p = same master p

module _ (s : Settings) where
  -- at the start the listed peers are met, and then the members of the accepted value
  abbrev pub meets_first : View → List Item
  meets_first v = Notes (Met s.peers) ∷ Notes (Met v.node.accepted.value.members) ∷ []

  -- a candidate asks all peers where discovery is due
  abbrev pub asks_peers : View → List Item
  asks_peers v =
      if is_due v.finder.due v.moment
      then Notes PeersAsked ∷ send_all s (known_set v.finder) (message.PeersAsk (known_set v.finder))
      else []

  -- who asks for peers is met, with those that it knows, and is answered with the leader, the term and all peers
  abbrev pub answers_peers : View → Id → List Item
  answers_peers v p = send s p (message.PeersAnswer (leader_of s.me v.mode) v.node.term (with_id s.me (known_set v.finder))) ∷ []

  abbrev pub on_peers_ask : View → Id → List Id → List Item
  on_peers_ask v p known = then_rule s v (Notes (Met (p ∷ known)) ∷ []) (λ v'. answers_peers v' p)

  -- a candidate that hears of a master from that master joins it: at once where its term is greater, else it asks for a join
  abbrev pub seeks_master : View → Id → Option Id → ℕ → List Item
  seeks_master v p master term =
      if is_node master p
      then (if nat_lt v.node.term term then on_start_join s v p term else send s p (message.JoinAsk v.node.term) ∷ [])
      else []

  abbrev pub hears_peer : View → Id → Option Id → ℕ → List Item
  hears_peer v p master term =
      if is_candidate v.mode
      then then_rule s v (Notes (Heard p master) ∷ []) (λ v'. seeks_master v' p master term)
      else []

  abbrev pub on_peers_answer : View → Id → Option Id → ℕ → List Id → List Item
  on_peers_answer v p master term known = then_rule s v (Notes (Met (p ∷ known)) ∷ []) (λ v'. hears_peer v' p master term)
