-- For the contracts inside: messages with neither a state nor a set of peers.
use Rattle.wire_frames.specs.declared.frame.Kind.{Kind}
use Rattle.wire_frames.specs.declared.frame.Kind.TheVariants as kind
use Rattle.wire_frames.specs.declared.frame.WireMessage.{WireMessage}
use Rattle.wire_frames.specs.declared.frame.WireMessage.TheVariants as message

abbrev pub IsPlain : Kind → Type 0
IsPlain kind.Publish = ⊥
IsPlain kind.PeersAsk = ⊥
IsPlain kind.PeersAnswer = ⊥
IsPlain k = Unit {0}

abbrev pub IsPlainMessage : WireMessage → Type 0
IsPlainMessage (message.Publish s) = ⊥
IsPlainMessage (message.PeersAsk known) = ⊥
IsPlainMessage (message.PeersAnswer master term known) = ⊥
IsPlainMessage m = Unit {0}
