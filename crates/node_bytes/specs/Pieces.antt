-- For the contracts inside: the pieces of what a node sends: its frames, and then its replies.
use Rattle.std.specs.Prelude.{◌≡◌, ℕ, ◌-◌, List, [], ◌∷◌, ◌++◌, length, slice_get, Option, Some, None, IsSome, IfSome, IsSomeAnd}
use Rattle.voting_config.specs.Lists.{line_feed}
use Rattle.host_io.specs.declared.framing.Piece.{Piece}
use Rattle.host_io.specs.declared.framing.Target.TheVariants.{Node, Connection}
use Rattle.client_lines.specs.Replies.{reply_text}
use Rattle.master_tasks.specs.declared.waiting.Outgoing.{Outgoing}
use Rattle.wire_frames.specs.declared.frame.Frame.{Frame}
use Rattle.wire_frames.specs.Frames.{SpellsFrame, IsFitFrame}

-- it goes to the frame's receiver, and its bytes spell the frame
pub record IsFramePiece (frame : Frame) (piece : Piece) : Type 0 where
  pub to : piece.to ≡ Node frame.to
  pub bytes : SpellsFrame frame piece.bytes

-- a frame within the limits is a piece, and one outside them is none or one
pub record IsPieceOfFrame (frame : Frame) (piece : Option Piece) : Type 0 where
  pub sent : IsFitFrame frame → IsSome piece
  pub spelled : IfSome piece (IsFramePiece frame)

-- it goes to the connection of the request, and its bytes are the reply's text and a line feed
pub record IsPieceOfReply (reply : Outgoing) (piece : Piece) : Type 0 where
  pub to : piece.to ≡ Connection reply.conn
  pub bytes : piece.bytes ≡ reply_text reply.reply ++ line_feed ∷ []

-- the piece of a reply, where there is one
abbrev pub PieceOfReply : Option Outgoing → Option Piece → Type 0
PieceOfReply None piece = piece ≡ None
PieceOfReply (Some reply) piece = IsSomeAnd piece (IsPieceOfReply reply)

-- the piece of a frame, where there is one, else that of the reply at a place
abbrev pub PieceOf : Option Frame → Option Outgoing → Option Piece → Type 0
PieceOf (Some frame) reply piece = IsPieceOfFrame frame piece
PieceOf None reply piece = PieceOfReply reply piece

-- what stands at a place: first the frames in their order, then the replies in theirs
abbrev pub PieceAt : List Frame → List Outgoing → ℕ → Option Piece → Type 0
PieceAt frames replies place piece = PieceOf (slice_get frames place) (slice_get replies (place - length frames)) piece
