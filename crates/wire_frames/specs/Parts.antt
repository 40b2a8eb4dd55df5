-- For the contracts inside: what the parts of a lent frame say.
use Rattle.std.specs.Prelude.{◌≡◌, Option, Some, None, Result, Ok, Err}
use Rattle.cluster_state.specs.States.{whole}
use Rattle.wire_frames.specs.declared.fault.FrameError.{FrameError}
use Rattle.wire_frames.specs.declared.frame.Frame.{Frame}
use Rattle.wire_frames.specs.declared.frame.WireMessage.{WireMessage}
use Rattle.wire_frames.specs.declared.frame.WireMessage.TheVariants as message
use Rattle.wire_frames.specs.declared.view.MessageView.{MessageView}
use Rattle.wire_frames.specs.declared.view.MessageView.TheVariants as view
use Rattle.wire_frames.specs.declared.view.Parts.{Parts}
use Rattle.wire_frames.specs.declared.reading.PeersAnswer.{PeersAnswer}
use Rattle.wire_frames.specs.Kinds.{kind_of_message}
use Rattle.wire_frames.specs.Messages.{message_at}
use Rattle.wire_frames.specs.Plain.{IsPlainMessage}

abbrev pub answer_of : PeersAnswer → WireMessage
answer_of a = message.PeersAnswer a.master a.term a.known

-- what a lent message says
abbrev pub said : MessageView → WireMessage
said (view.Publish s) = message.Publish s
said (view.PeersAsk known) = message.PeersAsk known
said (view.PeersAnswer master term known) = message.PeersAnswer master term known
said (view.Other m) = m

-- a publication is always lent, and a set of peers always in place
abbrev pub IsOther : MessageView → Type 0
IsOther (view.Publish s) = Unit {0}
IsOther (view.PeersAsk known) = Unit {0}
IsOther (view.PeersAnswer master term known) = Unit {0}
IsOther (view.Other m) = IsPlainMessage m

-- the parts are those of the frame that was found
pub record ArePartsOf (p : Parts) (frame : Frame) : Type 0 where
  pub from : p.from ≡ frame.from
  pub to : p.to ≡ frame.to
  pub kind : p.kind ≡ kind_of_message frame.message
  pub message : whole (message_at p.kind p.fields.now) ≡ Ok frame.message

-- where a frame was found, its parts are told
abbrev pub GivesParts : Option Parts → Result Frame FrameError → Type 0
GivesParts (Some p) (Ok frame) = ArePartsOf p frame
GivesParts None (Ok frame) = ⊥
GivesParts told (Err fault) = Unit {0}

-- a frame was found, or this is the first fault
abbrev pub Checks : {U : Type 0} → Result U FrameError → Result Frame FrameError → Type 0
Checks {U} (Ok u) read = (frame : Frame) × (read ≡ Ok frame)
Checks (Err fault) read = read ≡ Err fault
