-- For the contracts inside: a frame that is lent out of its bytes.
use Rattle.std.specs.Prelude.{Option, Some, None, Result, Ok, Err, []}
use Rattle.wire_frames.specs.declared.fault.FrameError.{FrameError}
use Rattle.wire_frames.specs.declared.frame.Frame.{Frame}
use Rattle.wire_frames.specs.declared.frame.WireMessage.TheVariants as message
use Rattle.wire_frames.specs.declared.lent.FrameView.{FrameView}
use Rattle.wire_frames.specs.Frames.{frame_of}

-- Bytes that are no frame, which are never asked, stand for this one.
abbrev pub frame_in : Result Frame FrameError → Frame
frame_in (Ok frame) = frame
frame_in (Err fault) = record { from = []; to = []; message = message.PreVoteAsk }

-- the frame that the bytes are
abbrev pub shown : FrameView → Frame
shown v = frame_in (frame_of v.body.now)

abbrev pub shown_read : Result FrameView FrameError → Result Frame FrameError
shown_read (Ok v) = Ok (shown v)
shown_read (Err fault) = Err fault

abbrev pub shown_next : Option (Result FrameView FrameError) → Option (Result Frame FrameError)
shown_next None = None
shown_next (Some (Ok v)) = Some (Ok (shown v))
shown_next (Some (Err fault)) = Some (Err fault)
