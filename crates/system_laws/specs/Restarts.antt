-- For the contracts inside: what a run leaves for the next one of its node, whether it ended, met a fault or was killed.
use Rattle.std.specs.Prelude.{◌≡◌, Bool, true, false, ◌⊎◌, List, [], ◌∷◌}
use Rattle.voting_config.specs.Ids.{Id}
use Rattle.cluster_state.specs.declared.state.Kept.{Kept}
use Rattle.world_model.specs.declared.acts.Act.{Act}
use Rattle.world_model.specs.declared.acts.Outcome.{Outcome}
use Rattle.world_model.specs.declared.acts.Outcome.TheVariants.{Crashed}
use Rattle.world_model.specs.Acts.{NodeHistory, Then, is_ok}
use Rattle.world_model.specs.NodeState.{durable_of}
use Rattle.world_model.specs.Histories.{node_history}
use Rattle.policy_model.specs.declared.settings.Settings.{Settings}
use Rattle.policy_model.specs.declared.events.Event.{Event}
use Rattle.policy_model.specs.Events.{Item, Acts, acts_of}
use Rattle.policy_model.specs.Entries.{Life, Lived, Did, log_of, frames_of, replies_of}
use Rattle.policy_model.specs.Follows.{Follows, is_struck, starts_next, is_start, has_fault, items_of}
use Rattle.policy_model.specs.Struck.{settled_items, settled_acts}
use Rattle.system_laws.specs.Systems.{System, Dies, Runs, run_of, history_of, MayDie, IsSystem}

-- What a node keeps of all its runs is what it keeps of the last one: each began with what was kept before.
abbrev pub LawLastRunIsKept : Type 0
LawLastRunIsKept =
    (initial : List Id) (h : System) → IsSystem initial h
    → (n : Id) (s : Settings) (life : Life) → run_of h n ≡ Runs s life
    → durable_of (node_history (history_of h) n) ≡ durable_of (acts_of (log_of life))

-- ---- a fault in the last event

-- with the act that was struck kept, or not kept, it is the same life but for that, and as silent
pub record IsSettled (s : Settings) (life : Life) (event : Event) (items : List Item) (kept : Bool) : Type 0 where
  pub follows : Follows s (Lived life (Did event (settled_items kept items)))
  pub acts : acts_of (log_of (Lived life (Did event (settled_items kept items))))
      ≡ settled_acts kept (acts_of (log_of (Lived life (Did event items))))
  pub silent : frames_of (settled_items kept items) ≡ []
  pub unanswered : replies_of (settled_items kept items) ≡ []

abbrev pub LawFaultIsSettled : Type 0
LawFaultIsSettled =
    (s : Settings) (life : Life) (event : Event) (items : List Item) → Follows s (Lived life (Did event items)) → has_fault items ≡ true
    → (kept : Bool) → IsSettled s life event items kept

-- ---- killed within an event

-- what is kept at a moment of an act: what was kept before, or, where the act is taken, what it makes of that
abbrev pub IsLeftIn : NodeHistory → Act → Outcome → Kept → Type 0
IsLeftIn g act outcome found = (found ≡ durable_of g) ⊎ ((is_ok outcome ≡ true) × (found ≡ durable_of (Then g act (Crashed true))))

-- at a moment of some items, after these acts
abbrev pub IsLeftAmong : NodeHistory → List Item → Kept → Type 0
IsLeftAmong g [] found = found ≡ durable_of g
IsLeftAmong g (Acts act outcome ∷ is) found = IsLeftIn g act outcome found ⊎ IsLeftAmong (Then g act outcome) is found
IsLeftAmong g (i ∷ is) found = IsLeftAmong g is found

-- this was done of the event when the node was killed, with no frame and no reply sent, and the record is what the node then kept
pub record IsKilled (h : System) (n : Id) (event : Event) (found : Kept) : Type 0 where
  pub items : List Item
  pub may : MayDie h n event items
  pub silent : frames_of items ≡ []
  pub unanswered : replies_of items ≡ []
  pub kept : found ≡ durable_of (node_history (history_of (Dies h n event items)) n)

-- whatever is left at a moment of an event, the node may have been killed so that it left that
abbrev pub LawKillLeaves : Type 0
LawKillLeaves =
    (initial : List Id) (h : System) → IsSystem initial h
    → (n : Id) (s : Settings) (life : Life) → run_of h n ≡ Runs s life → is_struck life ≡ false
    → (event : Event) → is_start event ≡ starts_next life
    → (found : Kept) → IsLeftAmong (acts_of (log_of life)) (items_of s (log_of life) event) found → IsKilled h n event found
