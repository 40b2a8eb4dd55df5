-- A node alone that elects itself, is killed while it accepts its first state, and begins again with it: that is a system.
use Rattle.std.proofs.Common.{◌≡◌, true, false, Some, [], ◌∷◌, refl, arith, inl}
use Rattle.voting_config.specs.Ids.{Id}
use Rattle.cluster_state.specs.Initial.{empty_record}
use Rattle.cluster_state.specs.JoinCheck.{join_checked}
use Rattle.cluster_state.specs.declared.state.ClusterState.{ClusterState}
use Rattle.cluster_state.specs.declared.state.ClusterValue.{ClusterValue}
use Rattle.cluster_state.specs.declared.state.StateId.{StateId}
use Rattle.wire_frames.specs.declared.frame.WireMessage.{WireMessage}
use Rattle.wire_frames.specs.declared.frame.WireMessage.TheVariants as message
use Rattle.master_tasks.specs.NextState.{processed_by, next_value, config_for, next_config, is_accepted, is_nothing_new, next_answers, tasks_after}
use Rattle.world_model.specs.declared.acts.Act.TheVariants.{Publish}
use Rattle.world_model.specs.declared.acts.Outcome.TheVariants.{Crashed}
use Rattle.world_model.specs.Histories.{IsLegal}
use Rattle.world_model.specs.Safety.{winners}
use Rattle.policy_model.specs.declared.settings.Settings.{Settings}
use Rattle.policy_model.specs.declared.events.Event.{Event}
use Rattle.policy_model.specs.declared.events.Event.TheVariants.{Start, Tick, Frame as FrameCame}
use Rattle.policy_model.specs.Events.{Begins, And, Acts}
use Rattle.policy_model.specs.Entries.{Life, NotBegun, Opened, Lived, Did, log_of}
use Rattle.policy_model.specs.Views.{view_of}
use Rattle.policy_model.specs.Follows.{Follows, is_struck, is_start, starts_next, items_of}
use Rattle.policy_model.proofs.Faults.{next-fault}
use Rattle.system_laws.specs.Systems.{System, Nothing, Starts, Lives, Dies, Runs, run_of, history_of, frames_sent, WasSent, InAct, IsSystem}
use Rattle.system_laws.proofs.Assembly.{lives_assemble}

abbrev a : Id
a = 97 ∷ []

abbrev alone : Settings
alone = record { me = a; peers = []; initial = a ∷ []; voting_only = []; policy = record { shrink = true; second = false } }

-- the node does at an event what the rules say
abbrev does : Life → Event → Life
does life event = Lived life (Did event (items_of alone (log_of life) event))

abbrev comes : System → Life → Event → System
comes h life event = Lives h a (Did event (items_of alone (log_of life) event))

unstruck : (life : Life) (event : Event) → is_struck (does life event) ≡ false
unstruck life event = next-fault alone (view_of alone (And (log_of life) (Begins event))) event

follows_on : (life : Life) (event : Event) → Follows alone life → is_struck life ≡ false → is_start event ≡ starts_next life → Follows alone (does life event)
follows_on life event f u s = (f, record { up = u; start = s; does = inl refl })

goes_on : (h : System) (life : Life) (event : Event) → IsSystem (a ∷ []) h → run_of h a ≡ Runs alone life → Follows alone (does life event) → WasSent (frames_sent h) event → IsSystem (a ∷ []) (comes h life event)
goes_on h life event l runs follows came = record { runs = (l.runs, record { settings = alone; life = life; runs = runs; follows = follows }); sent = (l.sent, came) }

abbrev itself : WireMessage → Event
itself m = FrameCame (record { from = a; to = a; message = m })

abbrev none : StateId
none = record { term = 0; version = 0 }

abbrev first : ClusterState
first =
    let value : ClusterValue = record { master = Some a; members = a ∷ []; exclusions = []; settings = [] } in
    record { term = 1; version = 1; parent = Some none; config = a ∷ []; committed = a ∷ []; value = value }

abbrev opened : Life
opened = Opened NotBegun empty_record

abbrev started : Life
started = does opened Start

abbrev booted : Life
booted = does started (Tick 0 7)

abbrev standing : Life
standing = does booted (Tick 8 0)

abbrev joined : Life
joined = does standing (itself (message.StartJoin a 1))

abbrev leading : Life
leading = does joined (itself (message.Join 1 none))

abbrev elected : System
elected =
    comes (comes (comes (comes (comes (Starts Nothing alone empty_record) opened Start) started (Tick 0 7)) booted (Tick 8 0)) standing (itself (message.StartJoin a 1))) joined
    (itself (message.Join 1 none))

started_follows : Follows alone started
started_follows = follows_on opened Start (tt, tt) refl refl

booted_follows : Follows alone booted
booted_follows = follows_on started (Tick 0 7) started_follows (unstruck opened Start) refl

standing_follows : Follows alone standing
standing_follows = follows_on booted (Tick 8 0) booted_follows (unstruck started (Tick 0 7)) refl

joined_follows : Follows alone joined
joined_follows = follows_on standing (itself (message.StartJoin a 1)) standing_follows (unstruck booted (Tick 8 0)) refl

leading_follows : Follows alone leading
leading_follows = follows_on joined (itself (message.Join 1 none)) joined_follows (unstruck standing (itself (message.StartJoin a 1))) refl

elected_is_system : IsSystem (a ∷ []) elected
elected_is_system =
    goes_on _ joined (itself (message.Join 1 none))
    (goes_on _ standing (itself (message.StartJoin a 1))
    (goes_on _ booted (Tick 8 0)
    (goes_on _ started (Tick 0 7)
    (goes_on _ opened Start (record { runs = (tt, record { kept = refl; named = λ n. refl }); sent = tt }) refl started_follows tt)
    refl booted_follows tt)
    refl standing_follows tt)
    refl joined_follows (0, omega arith, refl))
    refl leading_follows (1, omega arith, refl)

-- it has won
wins_once : winners (history_of elected) ≡ record { node = a; term = 1 } ∷ []
unfolding join_checked processed_by next_value config_for next_config is_accepted is_nothing_new next_answers tasks_after
wins_once = refl

-- it is killed while it accepts its first state, which is kept, and begins again with it
abbrev killed : System
killed = Dies elected a (itself (message.Publish first)) (Acts (Publish (record { source = a; state = first })) (Crashed true) ∷ [])

abbrev again : System
again = Starts killed alone (record { term = 1; accepted = first; committed = a ∷ [] })

again_is_system : IsSystem (a ∷ []) again
unfolding join_checked processed_by next_value config_for next_config is_accepted is_nothing_new next_answers tasks_after
again_is_system = record {
  runs = (
    (
      elected_is_system.runs,
      record {
        settings = alone;
        life = leading;
        runs = refl;
        up = unstruck joined (itself (message.Join 1 none));
        start = refl;
        did = InAct _ _ _ _ (Crashed true) refl refl;
      },
    ),
    record { kept = refl; named = λ n. refl },
  );
  sent = (elected_is_system.sent, (2, omega arith, refl));
}

again_is_legal : IsLegal (a ∷ []) (history_of again)
again_is_legal = lives_assemble (a ∷ []) again again_is_system
