-- For the contracts inside: what the runs of a system had lived, at any moment.
use Rattle.std.specs.Prelude.{◌≡◌, ◌⊎◌, List}
use Rattle.voting_config.specs.Ids.{Id}
use Rattle.policy_model.specs.declared.settings.Settings.{Settings}
use Rattle.policy_model.specs.declared.events.Event.{Event}
use Rattle.policy_model.specs.Events.{Item, acts_of}
use Rattle.policy_model.specs.Entries.{Did, Life, Lived, log_of}
use Rattle.policy_model.specs.Follows.{items_of}
use Rattle.system_laws.specs.Systems.{System, Nothing, Starts, Lives, Dies, Runs, run_of}

-- The node was killed when all acts of the event were done, and its frames and replies were on their way: this is what it would have lived.
pub record IsKilledAfterActs (h : System) (killed : Id) (event : Event) (done : List Item) (n : Id) (s : Settings)
    (life : Life) : Type 0 where
  pub node : killed ≡ n
  pub before : Life
  pub runs : run_of h killed ≡ Runs s before
  pub lived : life ≡ Lived before (Did event (items_of s (log_of before) event))
  pub acts : acts_of (log_of (Lived before (Did event done)))
      ≡ acts_of (log_of (Lived before (Did event (items_of s (log_of before) event))))

-- at some moment a run of the node had lived this
abbrev pub HadLived : System → Id → Settings → Life → Type 0
HadLived Nothing n s life = ⊥
HadLived (Starts h settings found) n s life = (run_of (Starts h settings found) n ≡ Runs s life) ⊎ HadLived h n s life
HadLived (Lives h node entry) n s life = (run_of (Lives h node entry) n ≡ Runs s life) ⊎ HadLived h n s life
HadLived (Dies h node event items) n s life = IsKilledAfterActs h node event items n s life ⊎ HadLived h n s life

-- the node had lived this and was then killed within this event, of which it had done this
pub record IsKilledIn (h : System) (killed : Id) (came : Event) (items : List Item) (n : Id) (s : Settings) (life : Life) (event : Event)
    (done : List Item) : Type 0 where
  pub node : killed ≡ n
  pub runs : run_of h killed ≡ Runs s life
  pub within : came ≡ event
  pub did : items ≡ done

-- at some moment a run of the node was killed so
abbrev pub WasKilled : System → Id → Settings → Life → Event → List Item → Type 0
WasKilled Nothing n s life event done = ⊥
WasKilled (Starts h settings found) n s life event done = WasKilled h n s life event done
WasKilled (Lives h node entry) n s life event done = WasKilled h n s life event done
WasKilled (Dies h node came items) n s life event done = IsKilledIn h node came items n s life event done ⊎ WasKilled h n s life event done
