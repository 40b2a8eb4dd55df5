-- What the histories of some recorded traces are.
use Rattle.std.proofs.Common.{◌≡◌, None, true, false, List, [], ◌∷◌, refl}
use Rattle.std.specs.Prelude.{codes}
use Rattle.voting_config.specs.Ids.{Id}
use Rattle.cluster_state.specs.JoinCheck.{join_checked}
use Rattle.cluster_state.specs.Initial.{initial_state}
use Rattle.world_model.specs.declared.acts.Act.TheVariants.{Bootstrap, StartJoin, TakeJoin, Open}
use Rattle.world_model.specs.declared.acts.ActReply.TheVariants.{Taken}
use Rattle.world_model.specs.declared.acts.Outcome.TheVariants.{Answered, Crashed}
use Rattle.world_model.specs.Histories.{NoEntries, Next}
use Rattle.trace_text.specs.declared.ending.Ending.TheVariants as ending
use Rattle.recorded_trace.specs.declared.entry.Entry.TheVariants.{Acted, Recorded}
use Rattle.recorded_trace.specs.Acts.{shown_record}
use Rattle.recorded_trace.specs.Reading.{Numbered}
use Rattle.trace_audit.specs.Traced.{traced}
use Rattle.trace_audit.specs.Verdicts.{winners_of}

abbrev a : Id
a = codes "a"

abbrev election : List Numbered
election =
    record { line = 2; entry = Acted a ending.Taken (Bootstrap (a ∷ [])) }
    ∷ record { line = 3; entry = Acted a ending.Taken (StartJoin a 1) }
    ∷ record { line = 5; entry = Acted a ending.Taken (TakeJoin (record { source = a; target = a; term = 1; last_term = 0; last_version = 0 })) } ∷ []

-- a node alone wins
election_won : winners_of (traced election) ≡ record { node = a; term = 1 } ∷ []
unfolding join_checked
election_won = refl

-- an act that was struck was kept, as the record shows
abbrev struck : List Numbered
struck =
    record { line = 2; entry = Acted a ending.Crashed (Bootstrap (a ∷ [])) }
    ∷ record { line = 3; entry = Recorded a (shown_record 0 (record { term = 0; version = 0 }) (a ∷ []) (a ∷ [])) } ∷ []

struck_kept : traced struck ≡ Next (Next NoEntries a (Bootstrap (a ∷ [])) (Crashed true)) a (Open (record { term = 0; accepted = initial_state (a ∷ []); committed = a ∷ [] })) (Answered (Taken None false))
struck_kept = refl
