-- For the contracts inside: what can be said of the acts of one node alone, and what joins such lists to a history.
use Rattle.std.specs.Prelude.{◌≡◌, ◌≢◌, true, List, [], ◌∷◌}
use Rattle.voting_config.specs.Ids.{Id}
use Rattle.world_model.specs.Acts.{NodeHistory, Publish, Open, NoActs, Then, is_effective}
use Rattle.world_model.specs.NodeState.{durable_of}
use Rattle.cluster_state.specs.declared.state.Kept.{Kept}
use Rattle.world_model.specs.Histories.{History, NoEntries, Next, sent, IsSourced, IsLocal}

-- each state that the node accepted names a configuration
abbrev pub NamesConfigs : NodeHistory → Type 0
NamesConfigs NoActs = Unit {0}
NamesConfigs (Then g (Publish request) outcome) = NamesConfigs g × (is_effective outcome ≡ true → request.state.config ≢ [])
NamesConfigs (Then g act outcome) = NamesConfigs g

-- an opening that is the first act of the node finds that nothing is kept
abbrev pub BeginsEmpty : NodeHistory → Type 0
BeginsEmpty NoActs = Unit {0}
BeginsEmpty (Then NoActs (Open found) outcome) = found ≡ durable_of NoActs
BeginsEmpty (Then g act outcome) = BeginsEmpty g

-- each bootstrap of the history names the one configuration, and each message was sent before it is taken
abbrev pub IsSourcedAll : List Id → History → Type 0
IsSourcedAll initial NoEntries = Unit {0}
IsSourcedAll initial (Next h node act outcome) = IsSourcedAll initial h × IsSourced initial (sent h) act

-- A node's runs, each from an opening on.

-- the acts of g, and then those of run
abbrev pub then_run : NodeHistory → NodeHistory → NodeHistory
then_run g NoActs = g
then_run g (Then run act outcome) = Then (then_run g run) act outcome

-- the run begins with an opening that finds this record
abbrev pub OpensWith : Kept → NodeHistory → Type 0
OpensWith kept NoActs = ⊥
OpensWith kept (Then NoActs (Open found) outcome) = found ≡ kept
OpensWith kept (Then NoActs act outcome) = ⊥
OpensWith kept (Then run act outcome) = OpensWith kept run

-- the acts of g, and then those of the runs, the oldest first
abbrev pub then_runs : NodeHistory → List NodeHistory → NodeHistory
then_runs g [] = g
then_runs g (run ∷ runs) = then_runs (then_run g run) runs

-- after g each run acts as the node may by itself, and begins with what was kept before it
abbrev pub AreRuns : Id → NodeHistory → List NodeHistory → Type 0
AreRuns me g [] = Unit {0}
AreRuns me g (run ∷ runs) = IsLocal me run × OpensWith (durable_of g) run × AreRuns me (then_run g run) runs
