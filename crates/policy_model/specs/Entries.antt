-- Part of the statement: a node's life, event by event, and what each event shows.
use Rattle.std.specs.Prelude.{ℕ, List, [], ◌∷◌, if◌then◌else◌}
use Rattle.std.specs.List.{flat_map}
use Rattle.voting_config.specs.Ids.{before}
use Rattle.cluster_state.specs.declared.state.Kept.{Kept}
use Rattle.wire_frames.specs.declared.fault.FrameError.{FrameError}
use Rattle.wire_frames.specs.declared.frame.Frame.{Frame}
use Rattle.master_tasks.specs.declared.waiting.Outgoing.{Outgoing}
use Rattle.policy_model.specs.declared.events.MemberDrop.{MemberDrop}
use Rattle.policy_model.specs.declared.events.Deed.{Deed}
use Rattle.policy_model.specs.declared.events.Deed.TheVariants as deed
use Rattle.policy_model.specs.Events.{Event, Item, Log, Opens, Begins, Acts, ChangesMode, Drops, Sends, Replies, NoItems, And, added}

pub data Entry : Type 0 where
  -- an event, and what the node did at it, in the order of the rules
  Did : (event : Event) → (items : List Item) → Entry
  -- a connection ended, or its bytes have this fault and it is dropped: the node does nothing
  Gone : (conn : ℕ) → Entry
  Bad : (conn : ℕ) → (fault : FrameError) → Entry
  -- an event that found no memory; a connection that is dropped, since its bytes found none
  NoMemory : Entry
  Unread : (conn : ℕ) → Entry

-- the openings of a node's journal and its entries, the newest last
pub data Life : Type 0 where
  NotBegun : Life
  Opened : (before : Life) → (found : Kept) → Life
  Lived : (before : Life) → (entry : Entry) → Life

abbrev pub log_of : Life → Log
log_of NotBegun = NoItems
log_of (Opened life found) = And (log_of life) (Opens found)
log_of (Lived life (Did event items)) = added (And (log_of life) (Begins event)) items
log_of (Lived life entry) = log_of life

-- An event shows its acts and mode lines in order, then drops by ascending member, then frames by ascending receiver, then replies in
-- order.

abbrev pub deeds_in : Item → List Deed
deeds_in (Acts act outcome) = deed.Act act outcome ∷ []
deeds_in (ChangesMode mode term) = deed.Mode mode term ∷ []
deeds_in i = []

abbrev pub deeds_of : List Item → List Deed
deeds_of items = flat_map deeds_in items

abbrev pub drops_in : Item → List MemberDrop
drops_in (Drops member cause) = record { member = member; cause = cause } ∷ []
drops_in i = []

-- a drop before those whose members come later
abbrev pub put_drop : MemberDrop → List MemberDrop → List MemberDrop
put_drop d [] = d ∷ []
put_drop d (e ∷ es) = if before e.member d.member then e ∷ put_drop d es else d ∷ e ∷ es

abbrev pub by_member : List MemberDrop → List MemberDrop
by_member [] = []
by_member (d ∷ ds) = put_drop d (by_member ds)

abbrev pub drops_of : List Item → List MemberDrop
drops_of items = by_member (flat_map drops_in items)

abbrev pub frames_in : Item → List Frame
frames_in (Sends frame) = frame ∷ []
frames_in i = []

-- a frame that comes first of those whose receivers come later, and of those with its own receiver
abbrev pub put_frame : Frame → List Frame → List Frame
put_frame f [] = f ∷ []
put_frame f (g ∷ gs) = if before g.to f.to then g ∷ put_frame f gs else f ∷ g ∷ gs

abbrev pub by_receiver : List Frame → List Frame
by_receiver [] = []
by_receiver (f ∷ fs) = put_frame f (by_receiver fs)

abbrev pub frames_of : List Item → List Frame
frames_of items = by_receiver (flat_map frames_in items)

abbrev pub replies_in : Item → List Outgoing
replies_in (Replies answer) = answer ∷ []
replies_in i = []

abbrev pub replies_of : List Item → List Outgoing
replies_of items = flat_map replies_in items
