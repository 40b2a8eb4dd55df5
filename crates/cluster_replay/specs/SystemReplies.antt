-- For the contracts inside: what a client may rely on in a system of nodes that follow the policy, as statements.
use Rattle.std.specs.Prelude.{List}
use Rattle.voting_config.specs.Ids.{Id}
use Rattle.cluster_state.specs.declared.state.Kept.{Kept}
use Rattle.world_model.specs.Restarts.{IsAlone}
use Rattle.policy_model.specs.declared.settings.Settings.{Settings}
use Rattle.policy_model.specs.declared.events.Event.{Event}
use Rattle.policy_model.specs.Events.{Item}
use Rattle.policy_model.specs.Entries.{Life, Lived, Did, log_of}
use Rattle.policy_model.specs.Follows.{items_of}
use Rattle.client_guarantees.specs.Replies.{RepliesTruly, AreTrue}
use Rattle.system_laws.specs.Systems.{System, IsSystem, history_of}
use Rattle.system_laws.specs.RestartedSystems.{IsSystemFrom}
use Rattle.system_laws.specs.Moments.{HadLived, WasKilled}

-- Each reply of each run of each node is true of what all nodes did. As the system may be taken up to the end of the event, it is true by
-- then.
abbrev pub LawSystemRepliesAreTrue : Type 0
LawSystemRepliesAreTrue =
    (initial : List Id) (h : System) → IsSystem initial h
    → (n : Id) (s : Settings) (life : Life) → HadLived h n s life → RepliesTruly (history_of h) s life

-- Where a node was killed within an event, each reply of it that was sent is true of what all nodes did, and of what came and was processed
-- by the end that the event would have had.
abbrev pub LawKilledRepliesAreTrue : Type 0
LawKilledRepliesAreTrue =
    (initial : List Id) (h : System) → IsSystem initial h
    → (n : Id) (s : Settings) (life : Life) (event : Event) (done : List Item) → WasKilled h n s life event done
    → AreTrue (history_of h) s (Lived life (Did event (items_of s (log_of life) event))) done

-- So is each reply of each run of each node from the restart of one node on.
abbrev pub LawRestartedSystemRepliesAreTrue : Type 0
LawRestartedSystemRepliesAreTrue =
    (first : Id) (kept : Kept) (h : System) → IsAlone first kept → IsSystemFrom first kept h
    → (n : Id) (s : Settings) (life : Life) → HadLived h n s life → RepliesTruly (history_of h) s life

-- and so is each reply that a node sent there of an event within which it was killed
abbrev pub LawRestartedKilledRepliesAreTrue : Type 0
LawRestartedKilledRepliesAreTrue =
    (first : Id) (kept : Kept) (h : System) → IsAlone first kept → IsSystemFrom first kept h
    → (n : Id) (s : Settings) (life : Life) (event : Event) (done : List Item) → WasKilled h n s life event done
    → AreTrue (history_of h) s (Lived life (Did event (items_of s (log_of life) event))) done
