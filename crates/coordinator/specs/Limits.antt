-- For the contracts inside: the limits of what is sealed.
use Rattle.std.specs.Prelude.{◌≤◌, length}
use Rattle.std.specs.List.{AllByRecursion}
use Rattle.state_journal.specs.declared.keeper.Keeper.{Ghosts}
use Rattle.wire_frames.specs.Frames.{IsFitFrame}
use Rattle.master_tasks.specs.Queue.{most_open}
use Rattle.policy_model.specs.declared.events.Event.{Event}
use Rattle.policy_model.specs.Bounds.{IsSmallView, most_frames}
use Rattle.policy_model.specs.Fitting.{IsFitView}
use Rattle.coordinator.specs.Views.{view_in}
use Rattle.coordinator.specs.declared.coordinator.Coordinator.{Coordinator}
use Rattle.coordinator.specs.declared.step.Sealed.{Sealed}

-- few deeds and replies; and where the node was within the limits, so are its frames, and the node after it
pub record IsWithin {K : Type 0} (k : Ghosts K) (old new : Coordinator K) (sealed : Sealed) : Type 0 where
  pub deeds : length sealed.entries.deeds.list ≤ 6
  pub replies : length sealed.replies.sent ≤ most_open
  pub sends : IsFitView (view_in k old) → AllByRecursion IsFitFrame sealed.sends.list
  pub after : IsFitView (view_in k old) → IsFitView (view_in k new)

-- few frames where the node's sets were as small as sets in memory are, and they are so after it
pub record IsFew {K : Type 0} (k : Ghosts K) (old new : Coordinator K) (event : Event) (sealed : Sealed) : Type 0 where
  pub sends : IsSmallView (view_in k old) → length sealed.sends.list ≤ most_frames event
  pub after : IsSmallView (view_in k old) → IsSmallView (view_in k new)
