-- For the contracts inside: which peers are chosen.
use Rattle.std.specs.Prelude.{Bool, not, is_some}
use Rattle.voting_config.specs.Ids.{same}
use Rattle.peer_finder.specs.declared.Peer.{Peer}
use Rattle.peer_finder.specs.declared.Choice.{Choice}
use Rattle.peer_finder.specs.declared.Choice.TheVariants as choice
use Rattle.peer_finder.specs.Peers.{is_free}

abbrev pub is_chosen : Choice → Peer → Bool
is_chosen (choice.Other id) p = not (same p.id id)
is_chosen choice.Answered p = is_some p.answer
is_chosen choice.Free p = is_free p.answer
