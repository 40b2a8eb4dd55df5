-- For the contracts inside: what comes to a node's life from outside: what each opening found, the events, and the faults that struck.
use Rattle.std.specs.Prelude.{◌≡◌, ℕ, ◌+◌, Option, None, Some, List, [], ◌∷◌, if◌then◌else◌}
use Rattle.std.specs.Option.{option_map}
use Rattle.cluster_state.specs.declared.state.Kept.{Kept}
use Rattle.world_model.specs.declared.acts.Outcome.{Outcome}
use Rattle.policy_model.specs.declared.settings.Settings.{Settings}
use Rattle.policy_model.specs.Events.{Event, Item, Acts}
use Rattle.policy_model.specs.Entries.{Entry, Did, Life, NotBegun, Opened, Lived}
use Rattle.policy_model.specs.Follows.{Follows, is_fault}

-- a disk that failed or a crash, and how many acts of its event came before it
pub record Fault : Type 0 where
  pub acts_before : ℕ
  pub outcome : Outcome

abbrev pub one_later : Fault → Fault
one_later fault = record fault { acts_before = fault.acts_before + 1 }

-- the first fault among some items
abbrev pub fault_in : List Item → Option Fault
fault_in [] = None
fault_in (Acts act o ∷ is) = if is_fault o then Some (record { acts_before = 0; outcome = o }) else option_map one_later (fault_in is)
fault_in (i ∷ is) = fault_in is

pub data Witnessed : Type 0 where
  NothingWitnessed : Witnessed
  Found : (before : Witnessed) → (found : Kept) → Witnessed
  Came : (before : Witnessed) → (event : Event) → (fault : Option Fault) → Witnessed
  -- an entry at which the node does nothing
  Passed : (before : Witnessed) → (entry : Entry) → Witnessed

-- a life without what the node did in it
abbrev pub witnessed_of : Life → Witnessed
witnessed_of NotBegun = NothingWitnessed
witnessed_of (Opened life found) = Found (witnessed_of life) found
witnessed_of (Lived life (Did event items)) = Came (witnessed_of life) event (fault_in items)
witnessed_of (Lived life entry) = Passed (witnessed_of life) entry

-- what a node does is determined: two lives that follow the policy, and to which the same comes, are the same
abbrev pub LawDetermined : Type 0
LawDetermined =
    (s : Settings) (life other : Life)
    → Follows s life → Follows s other → witnessed_of life ≡ witnessed_of other → life ≡ other
