-- What some recorded traces are read as.
use Rattle.std.proofs.Common.{◌≡◌, Ok, Err, List, [], ◌∷◌, refl}
use Rattle.std.specs.Prelude.{codes}
use Rattle.voting_config.specs.Ids.{Id}
use Rattle.world_model.specs.declared.acts.Act.TheVariants.{Bootstrap, StartJoin, TakeJoin}
use Rattle.trace_text.specs.declared.ending.Ending.TheVariants as ending
use Rattle.recorded_trace.specs.declared.entry.Entry.TheVariants.{Acted, Recorded}
use Rattle.recorded_trace.specs.declared.fault.Why.TheVariants.{Header, Word}
use Rattle.recorded_trace.specs.Acts.{shown_record}
use Rattle.recorded_trace.specs.Reading.{Numbered, recording_of}

abbrev a : Id
a = codes "a"

nothing : recording_of [] ≡ Err (record { line = 1; why = Header })
nothing = refl

no_word : recording_of (codes "initial a,b,c\nfoo\n") ≡ Err (record { line = 2; why = Word })
no_word = refl

abbrev election : List Numbered
election =
    record { line = 2; entry = Acted a ending.Taken (Bootstrap (a ∷ [])) }
    ∷ record { line = 3; entry = Acted a ending.Taken (StartJoin a 1) }
    ∷ record { line = 5; entry = Acted a ending.Taken (TakeJoin (record { source = a; target = a; term = 1; last_term = 0; last_version = 0 })) } ∷ []

-- the lines of a message and of a win show no entry
election_read : recording_of (codes "initial a\nact a ok boot a\nact a ok startjoin a 1\nm1 a->a join 1 0/0\nact a ok join a a 1 0/0\nwon a 1\n") ≡ Ok (record { initial = a ∷ []; entries = election })
election_read = refl

abbrev struck : List Numbered
struck =
    record { line = 2; entry = Acted a ending.Crashed (Bootstrap (a ∷ [])) }
    ∷ record { line = 3; entry = Recorded a (shown_record 0 (record { term = 0; version = 0 }) (a ∷ []) (a ∷ [])) } ∷ []

struck_read : recording_of (codes "initial a\nact a crashed boot a\nrecord a 0 0/0 a a\n") ≡ Ok (record { initial = a ∷ []; entries = struck })
struck_read = refl
