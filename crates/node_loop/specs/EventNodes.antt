-- For the contracts inside: what an event of a node does, and what it has to say of it.
use Rattle.std.specs.Prelude.{◌≡◌, ℕ, true, false, Option, Some, None, Result, Ok, Err, List}
use Rattle.policy_model.specs.declared.events.Event.{Event}
use Rattle.policy_model.specs.declared.settings.Settings.{Settings}
use Rattle.policy_model.specs.Events.{Item}
use Rattle.policy_model.specs.Entries.{Life, Lived, Entry, Did}
use Rattle.policy_model.specs.Follows.{IsNext, has_fault, is_struck}
use Rattle.node_loop.specs.declared.event_node.Done.{Done}
use Rattle.node_loop.specs.declared.event_node.NotDone.{NotDone}
use Rattle.node_loop.specs.declared.event_node.NotDone.TheVariants.{Stopped, Memory, Disk}
use Rattle.node_loop.specs.Reports.{Output, output_of}

-- the lines are this text, where there was memory for them
abbrev pub AreLines : Option (List ℕ) → List ℕ → Type 0
AreLines None text = Unit {0}
AreLines (Some lines) text = lines ≡ text

module _ {C : Type 0} (stands_for : C → Settings → Life → Type 0) (text : Life → Entry → List ℕ) (s : Settings) (life : Life)
    (event : Event) (now : C) where
  -- the event was done as the policy says, and this is what may leave the node
  pub record Does {S : Type 0} (output : S → Output) (done : Done S) : Type 0 where
    pub items : List Item
    pub next : IsNext s life event items
    pub whole : has_fault items ≡ false
    pub stands : stands_for now s (Lived life (Did event items))
    pub said : AreLines done.lines (text life (Did event items))
    pub sends : output done.sealed ≡ output_of items

  -- the event was done as far as an act at which the disk failed
  pub record IsHalted (lines : Option (List ℕ)) : Type 0 where
    pub items : List Item
    pub next : IsNext s life event items
    pub fault : has_fault items ≡ true
    pub stands : stands_for now s (Lived life (Did event items))
    pub said : AreLines lines (text life (Did event items))

  -- what an event comes to that was not done to its end
  abbrev pub FailsTo : NotDone → Type 0
  FailsTo Stopped = is_struck life ≡ true
  FailsTo Memory = stands_for now s life
  FailsTo (Disk lines) = IsHalted lines

  abbrev pub ComesTo : {S : Type 0} → (output : S → Output) → Result (Done S) NotDone → Type 0
  ComesTo output (Ok done) = Does output done
  ComesTo output (Err error) = FailsTo error

-- the disk failed in it
abbrev pub IsDiskError : NotDone → Type 0
IsDiskError Stopped = ⊥
IsDiskError Memory = ⊥
IsDiskError (Disk lines) = Unit {0}

abbrev pub IsDisk : {S : Type 0} → Result (Done S) NotDone → Type 0
IsDisk (Ok done) = ⊥
IsDisk (Err error) = IsDiskError error
