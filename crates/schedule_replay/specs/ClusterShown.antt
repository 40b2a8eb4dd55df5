-- Part of the statement: what the parts of a trace of whole nodes show. Its parts of level core show the lines, the history, the wins and
-- the committed states, as HistoryShown and Showing say of them; and its other parts the frames, the changes of mode, the drops and the
-- replies.
use Rattle.std.specs.Prelude.{ℕ, ◌+◌, List, [], ◌∷◌, ◌++◌, if◌then◌else◌}
use Rattle.std.specs.List.{flat_map}
use Rattle.voting_config.specs.Ids.{Id, same}
use Rattle.master_tasks.specs.declared.waiting.Outgoing.{Outgoing}
use Rattle.wire_frames.specs.declared.frame.Frame.{Frame}
use Rattle.policy_model.specs.declared.events.Mode.{Mode}
use Rattle.policy_model.specs.declared.events.MemberDrop.{MemberDrop}
use Rattle.policy_model.specs.Events.{Item, ChangesMode}
use Rattle.policy_model.specs.Entries.{Life, NotBegun, Opened, Lived, Did, drops_of, replies_of}
use Rattle.schedule_replay.specs.Parts.{TracePart}
use Rattle.schedule_replay.specs.ClusterParts.{NumberedFrame, ClusterPart, Shared, ModeChanged, Dropped, Framed, Replied}

-- ---- the parts of level core

abbrev pub core_in : ClusterPart → List TracePart
core_in (Shared x) = x ∷ []
core_in other = []

abbrev pub core_of : List ClusterPart → List TracePart
core_of parts = flat_map core_in parts

-- ---- the frames

abbrev pub frame_in : ClusterPart → List NumberedFrame
frame_in (Framed f) = f ∷ []
frame_in other = []

abbrev pub frames_in : List ClusterPart → List NumberedFrame
frames_in parts = flat_map frame_in parts

-- frames in order, where so many were sent before
abbrev pub numbered_frames : (count : ℕ) → List Frame → List NumberedFrame
numbered_frames count [] = []
numbered_frames count (f ∷ fs) = record { number = count + 1; frame = f } ∷ numbered_frames (count + 1) fs

-- ---- of one node: the changes of mode, the drops, the replies

-- a node is in this mode from now on, in this term
pub record ModeShown : Type 0 where
  pub mode : Mode
  pub term : ℕ

abbrev pub mode_in : Id → ClusterPart → List ModeShown
mode_in n (ModeChanged node mode term) = if same node n then record { mode = mode; term = term } ∷ [] else []
mode_in n other = []

abbrev pub modes_shown : Id → List ClusterPart → List ModeShown
modes_shown n parts = flat_map (mode_in n) parts

abbrev pub drop_in : Id → ClusterPart → List MemberDrop
drop_in n (Dropped node dropped) = if same node n then dropped ∷ [] else []
drop_in n other = []

abbrev pub drops_shown : Id → List ClusterPart → List MemberDrop
drops_shown n parts = flat_map (drop_in n) parts

abbrev pub reply_in : Id → ClusterPart → List Outgoing
reply_in n (Replied node answer) = if same node n then answer ∷ [] else []
reply_in n other = []

abbrev pub replies_shown : Id → List ClusterPart → List Outgoing
replies_shown n parts = flat_map (reply_in n) parts

-- ---- the same of a life, event by event

abbrev pub life_shows : {X : Type 0} → (List Item → List X) → Life → List X
life_shows show NotBegun = []
life_shows show (Opened life found) = life_shows show life
life_shows show (Lived life (Did event items)) = life_shows show life ++ show items
life_shows show (Lived life entry) = life_shows show life

abbrev pub mode_of_item : Item → List ModeShown
mode_of_item (ChangesMode mode term) = record { mode = mode; term = term } ∷ []
mode_of_item i = []

abbrev pub modes_of : List Item → List ModeShown
modes_of items = flat_map mode_of_item items

abbrev pub life_modes : Life → List ModeShown
life_modes life = life_shows modes_of life

-- the drops of an event by ascending member, as its lines have them
abbrev pub life_drops : Life → List MemberDrop
life_drops life = life_shows drops_of life

abbrev pub life_replies : Life → List Outgoing
life_replies life = life_shows replies_of life
