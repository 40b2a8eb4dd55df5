-- For the contracts inside: a message to several nodes.
use Rattle.wire_frames.specs.declared.frame.WireMessage.{WireMessage}
use Rattle.wire_frames.specs.declared.frame.WireMessage.TheVariants as message
use Rattle.coordinator.specs.declared.sending.Broadcast.{Broadcast}
use Rattle.coordinator.specs.declared.sending.Broadcast.TheVariants as broadcast

abbrev pub message_of : Broadcast → WireMessage
message_of (broadcast.StartJoin candidate term) = message.StartJoin candidate term
message_of (broadcast.Commit id) = message.Commit id
message_of broadcast.PreVoteAsk = message.PreVoteAsk
message_of (broadcast.FollowerCheck term) = message.FollowerCheck term
