-- Part of the statement: the lines that a node writes of its life, one entry after the other.
use Rattle.std.specs.Prelude.{◌≡◌, ℕ, ◌+◌, min, Option, None, Some, List, [], ◌∷◌, ◌++◌, codes, decimal}
use Rattle.cluster_state.specs.FaultNames.{field_name}
use Rattle.cluster_state.specs.Field.{last_number}
use Rattle.cluster_state.specs.declared.state.ClusterState.{ClusterState}
use Rattle.wire_frames.specs.declared.fault.FrameError.{FrameError}
use Rattle.wire_frames.specs.declared.fault.FrameError.TheVariants.{TooLong, UnknownKind, Field, Trailing}
use Rattle.wire_frames.specs.declared.frame.Frame.{Frame}
use Rattle.master_tasks.specs.declared.waiting.Outgoing.{Outgoing}
use Rattle.voting_config.specs.Ids.{Id}
use Rattle.world_model.specs.NodeState.{term_of, accepted_of, committed_of}
use Rattle.trace_text.specs.Trace.{record_line}
use Rattle.event_text.specs.Events.{drops_text, replies_text}
use Rattle.event_text.specs.Frames.{frame_line, message_text}
use Rattle.event_text.specs.Published.{published_after}
use Rattle.event_text.specs.Deeds.{deeds_text}
use Rattle.policy_model.specs.declared.events.Event.{Event}
use Rattle.policy_model.specs.declared.events.Event.TheVariants.{Start, Tick, Frame as FrameCame, Client as LineCame, Disconnected as PeerGone}
use Rattle.policy_model.specs.declared.events.MemberDrop.{MemberDrop}
use Rattle.policy_model.specs.declared.events.Deed.{Deed}
use Rattle.policy_model.specs.declared.settings.Settings.{Settings}
use Rattle.policy_model.specs.Events.{Item, acts_of}
use Rattle.policy_model.specs.Entries.{Entry, Did, Gone, Bad, NoMemory, Unread, Life, NotBegun, Opened, Lived, log_of, deeds_of, drops_of, frames_of, replies_of}
use Rattle.node_loop.specs.declared.lines.LastSent.{LastSent}

-- a node numbers its frames from 1 on since its journal was opened; at the greatest number it stays
abbrev pub next_number : ℕ → ℕ
next_number count = min (count + 1) last_number

-- the lines of frames that are sent after the one of this number
abbrev pub numbered : ℕ → List Frame → List ℕ
numbered count [] = []
numbered count (f ∷ fs) = frame_line (next_number count) f ++ numbered (next_number count) fs

-- the number of the last of them
abbrev pub number_after : ℕ → List Frame → ℕ
number_after count [] = count
number_after count (f ∷ fs) = number_after (next_number count) fs

-- the number of the last frame that was sent
abbrev pub last_frame_number : Life → ℕ
last_frame_number NotBegun = 0
last_frame_number (Opened life found) = 0
last_frame_number (Lived life (Did event items)) = number_after (last_frame_number life) (frames_of items)
last_frame_number (Lived life e) = last_frame_number life

-- the state that the node published last since its journal was opened
abbrev pub published_of : Life → Option ClusterState
published_of NotBegun = None
published_of (Opened life found) = None
published_of (Lived life (Did event items)) = published_after (published_of life) (deeds_of items)
published_of (Lived life e) = published_of life

-- what is kept of a life for later lines is right, or it is lost
abbrev pub IsLastSent : Option LastSent → Life → Type 0
IsLastSent None life = Unit {0}
IsLastSent (Some last_sent) life = (last_sent.published ≡ published_of life) × (last_sent.number ≡ last_frame_number life)

-- what came to the node
abbrev pub event_line : Event → List ℕ
event_line Start = codes "> start\n"
event_line (Tick now word) = codes "> tick " ++ decimal now ++ codes " " ++ decimal word ++ codes "\n"
event_line (FrameCame frame) = codes "> frame " ++ frame.from ++ codes " " ++ message_text frame.message ++ codes "\n"
event_line (LineCame conn line) = codes "> client " ++ line ++ codes "\n"
event_line (PeerGone peer) = codes "> disconnect " ++ peer ++ codes "\n"

-- what is wrong with the bytes of a frame
abbrev pub fault_text : FrameError → List ℕ
fault_text TooLong = codes "TooLong"
fault_text (UnknownKind kind) = codes "UnknownKind(" ++ decimal kind ++ codes ")"
fault_text (Field fault) = codes "Field(" ++ field_name fault ++ codes ")"
fault_text Trailing = codes "Trailing"

-- a connection ended
abbrev pub gone_line : ℕ → List ℕ
gone_line conn = codes "> gone " ++ decimal conn ++ codes "\n"

-- the bytes of a connection are faulty
abbrev pub bad_line : ℕ → FrameError → List ℕ
bad_line conn fault = codes "> bad " ++ decimal conn ++ codes " " ++ fault_text fault ++ codes "\n"

-- what came, and what the node shows of it: acts and changes of mode, then drops, frames and replies. Before it the node had published
-- this state last and sent a frame of this number.
abbrev pub event_lines : Id → Option ClusterState → ℕ → Event → List Deed → List MemberDrop → List Frame → List Outgoing → List ℕ
event_lines node published number event inner drops frames replies =
    event_line event ++ deeds_text node published inner ++ drops_text node drops ++ numbered number frames ++ replies_text node replies

-- the lines of an entry; where memory was lacking, they say that alone
abbrev pub entry_text : Settings → Life → Entry → List ℕ
entry_text s life (Did event items) = event_lines s.me (published_of life) (last_frame_number life) event (deeds_of items) (drops_of items)
    (frames_of items) (replies_of items)
entry_text s life (Gone conn) = gone_line conn
entry_text s life (Bad conn fault) = bad_line conn fault
entry_text s life NoMemory = codes "> nomemory\n"
entry_text s life (Unread conn) = codes "> nomemory\n"

-- the record that a node's journal gave
abbrev pub opening_text : Settings → Life → List ℕ
opening_text s life = record_line s.me (term_of (acts_of (log_of life))) (accepted_of (acts_of (log_of life)))
    (committed_of (acts_of (log_of life)))

-- ---- less than all

-- the lines of an entry that say what was done: acts, changes of mode and drops; and those of what was faulty, and of want of memory
abbrev pub acts_text : Settings → Life → Entry → List ℕ
acts_text s life (Did event items) = deeds_text s.me (published_of life) (deeds_of items) ++ drops_text s.me (drops_of items)
acts_text s life (Gone conn) = []
acts_text s life (Bad conn fault) = bad_line conn fault
acts_text s life NoMemory = codes "> nomemory\n"
acts_text s life (Unread conn) = codes "> nomemory\n"

-- none
abbrev pub no_text : Settings → Life → Entry → List ℕ
no_text s life e = []

-- ---- for the contracts inside

-- the lines of an entry were written, where what was kept is right for the life before it
abbrev pub WritesEntry : (text : Settings → Life → Entry → List ℕ) → Id → LastSent → Event → List Deed → List MemberDrop → List Frame
    → List Outgoing → (was now : List ℕ) → Type 0
WritesEntry text node kept event deeds drops frames replies was now =
    (s : Settings) (life : Life) (items : List Item) → node ≡ s.me → IsLastSent (Some kept) life → deeds ≡ deeds_of items
    → drops ≡ drops_of items → frames ≡ frames_of items → replies ≡ replies_of items → now ≡ was ++ text s life (Did event items)

-- what is kept for later lines
pub record KeepsLast (was : LastSent) (deeds : List Deed) (frames : List Frame) (now : LastSent) : Type 0 where
  pub published : now.published ≡ published_after was.published deeds
  pub number : now.number ≡ number_after was.number frames
