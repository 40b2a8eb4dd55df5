-- For the contracts inside: what later states have of earlier ones, told by the requests that were processed into them.
use Rattle.std.specs.Prelude.{◌≡◌, ◌⊎◌, ℕ, true, None, List, [], ◌∷◌, ◌++◌}
use Rattle.std.specs.List.{Contains}
use Rattle.cluster_state.specs.declared.state.ClusterState.{ClusterState}
use Rattle.cluster_state.specs.declared.state.StateId.{StateId}
use Rattle.master_tasks.specs.declared.waiting.Waiting.{Waiting}
use Rattle.master_tasks.specs.NextState.{next_value}
use Rattle.world_model.specs.Histories.{History}
use Rattle.world_model.specs.Safety.{Published, published, IsIdAtMost}
use Rattle.policy_model.specs.declared.settings.Settings.{Settings}
use Rattle.policy_model.specs.Events.{Log, NoItems, And}
use Rattle.policy_model.specs.Entries.{Life}
use Rattle.policy_model.specs.LookBacks.{node_of, master_of, tasks_of}
use Rattle.client_guarantees.specs.Asked.{is_about, setting_under, setting_after_all}
use Rattle.client_guarantees.specs.Processed.{processed_into_next}
use Rattle.client_guarantees.specs.Replies.{IsAcked}

-- the log up to some moment
abbrev pub IsPartOf : Log → Log → Type 0
IsPartOf part NoItems = part ≡ NoItems
IsPartOf part (And l i) = (part ≡ And l i) ⊎ IsPartOf part l

-- At this moment of a run its node made the state: over what it had accepted, with these requests processed into the value of that.
pub record IsMadeAt (s : Settings) (moment : Log) (p : Published) (requests : List Waiting) : Type 0 where
  pub publisher : p.publisher ≡ s.me
  pub parent : p.parent ≡ (node_of moment).accepted
  pub value : p.state.value ≡ next_value (master_of s moment) (tasks_of s moment)
  pub processed : requests ≡ processed_into_next (master_of s moment) (tasks_of s moment)

-- The state was made of `base`, by one publication after another, each at such a moment of a run; and these requests were processed into
-- them, in order.
pub data IsMadeOver (Seen : Settings → Log → Type 0) (h : History) (base : ClusterState) : ClusterState → List Waiting → Type 0 where
  Itself : IsMadeOver Seen h base base []
  Over : (p : Published) (s : Settings) (moment : Log) (before requests : List Waiting)
      → Contains (published h) p → Seen s moment → IsMadeAt s moment p requests
      → IsMadeOver Seen h base p.parent before → IsMadeOver Seen h base p.state (before ++ requests)

-- Under each key a later state has what the last of the requests between says that sets or removes it, and without one what the earlier
-- state has.
pub record Lasts (Seen : Settings → Log → Type 0) (h : History) (base state : ClusterState) : Type 0 where
  pub between : List Waiting
  pub made : IsMadeOver Seen h base state between
  pub settings : (key : List ℕ) → setting_under key state.value.settings ≡ setting_after_all key (setting_under key base.value.settings) between

-- What a client reads after an ack of a put or a remove, of each state from the id on that was acked: what it put, or nothing where it
-- removed, unless a later request sets or removes the key too; then what the last of these says. Later are those that the node processed
-- after it into the state that was acked or one before that, and those that were processed, by whichever node, into the states made over it.
pub record IsThereFrom (Seen : Settings → Log → Type 0) (h : History) (acked : ClusterState) (request : Waiting) (later : List Waiting)
    (state : ClusterState) : Type 0 where
  pub between : List Waiting
  pub made : IsMadeOver Seen h acked state between
  pub settings : (key : List ℕ) → is_about key request.request.ask ≡ true
      → setting_under key state.value.settings ≡ setting_after_all key None (request ∷ later ++ between)

-- each published state whose id is not below the one that was acked; so each committed one
abbrev pub AckLasts : (Settings → Log → Type 0) → History → Settings → Life → Type 0
AckLasts Seen h s life =
    (conn number : ℕ) (id : StateId) (ack : IsAcked h s life conn number id)
    → (p : Published) → Contains (published h) p → IsIdAtMost id.term id.version p.state.term p.state.version
    → IsThereFrom Seen h ack.as_published.state ack.request ack.later p.state
