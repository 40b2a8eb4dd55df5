-- For the contracts inside: the frames that ask for peers, made before the first act.
use Rattle.std.specs.Prelude.{◌≡◌, ◌≤◌, ℕ, true, false, List, Option, None, Some, map, length}
use Rattle.voting_config.specs.Ids.{Id, most_ids}
use Rattle.election_clock.specs.Delays.{is_due}
use Rattle.peer_finder.specs.Peers.{PeerFinder, known_set}
use Rattle.wire_frames.specs.declared.frame.Frame.{Frame}
use Rattle.wire_frames.specs.declared.frame.WireMessage.TheVariants as message
use Rattle.coordinator.specs.Lists.{Roomed}
use Rattle.coordinator.specs.Plans.{frame_to}

-- a frame to each peer, which tells all of them
abbrev pub asks_of : Id → List Id → List Frame
asks_of me known = map (λ (to : Id). frame_to me (message.PeersAsk known) to) known

-- discovery is due, and these are the frames
pub record AreAsks (me : Id) (finder : PeerFinder) (moment : ℕ) (asks : Roomed Frame) : Type 0 where
  pub due : is_due finder.due moment ≡ true
  pub frames : asks.list ≡ asks_of me (known_set finder)
  pub few : length asks.list ≤ most_ids

-- there are frames where discovery is due
abbrev pub ArePlannedAsks : Id → PeerFinder → ℕ → Option (Roomed Frame) → Type 0
ArePlannedAsks me finder moment None = is_due finder.due moment ≡ false
ArePlannedAsks me finder moment (Some asks) = AreAsks me finder moment asks
