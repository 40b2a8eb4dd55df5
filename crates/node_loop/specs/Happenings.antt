-- Part of the statement: what the inputs of a node make: its events, and the ends of its connections.
use Rattle.std.specs.Prelude.{ℕ}
use Rattle.wire_frames.specs.declared.fault.FrameError.{FrameError}
use Rattle.policy_model.specs.declared.events.Event.{Event}
use Rattle.zen_link.specs.declared.link.Input.{Input}

pub data Happening : Type 0 where
  Comes : (event : Event) → Happening
  -- the bytes of a connection have this fault next
  Faulty : (conn : ℕ) → (fault : FrameError) → Happening
  Ends : (conn : ℕ) → Happening
  -- bytes of a connection that found no memory
  Unread : (conn : ℕ) → Happening
  -- an input that found no memory
  Refused : Happening

-- what stands in the course of a run: an input is taken, and makes things happen
pub data Mark : Type 0 where
  Takes : (input : Input) → Mark
  Makes : (happening : Happening) → Mark
