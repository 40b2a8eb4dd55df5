-- What the parts of two schedules show.
use Rattle.std.proofs.Common.{◌≡◌, false, true, None, Some, List, [], ◌∷◌, ◌++◌, refl}
use Rattle.std.specs.Prelude.{codes}
use Rattle.voting_config.specs.Ids.{Id}
use Rattle.cluster_state.specs.JoinCheck.{join_checked}
use Rattle.cluster_state.specs.Field.{eight_bytes, two_bytes}
use Rattle.gate_log.specs.Generations.{generations_of, misplaced_from, epoch_in}
use Rattle.gate_log.specs.Journal.{sized, framed, laid, size_at, bodies_from, bodies_of}
use Rattle.sha2.specs.Sha256.{first_words, schedule, rounds, compress, hash_after, digest_bytes, sha256}
use Rattle.state_journal.specs.Bodies.{guarded, guard_fault, body_of, change_tagged}
use Rattle.state_journal.specs.Journal.{with_change, folded_from}
use Rattle.zen_disk.specs.declared.orders.Way.TheVariants.{Kept}
use Rattle.cluster_state.specs.Initial.{initial_state}
use Rattle.cluster_state.specs.declared.state.Kept.{Kept as KeptRecord}
use Rattle.world_model.specs.declared.acts.Act.TheVariants.{Bootstrap, Open}
use Rattle.world_model.specs.declared.acts.Act.TheVariants as act
use Rattle.world_model.specs.declared.acts.ActReply.TheVariants.{Taken}
use Rattle.world_model.specs.declared.acts.Outcome.TheVariants.{Answered, Crashed}
use Rattle.world_model.specs.Histories.{History, NoEntries, Next}
use Rattle.schedule_text.specs.declared.schedule.Line.{Line}
use Rattle.schedule_text.specs.declared.schedule.Line.TheVariants.{Boot, StartJoin, Value, Deliver, Restart, Fuse}
use Rattle.schedule_text.specs.declared.schedule.Schedule.{Schedule}
use Rattle.schedule_replay.specs.Replayed.{value_with}
use Rattle.schedule_replay.specs.TraceParts.{trace_parts}
use Rattle.schedule_replay.specs.HistoryShown.{history_shown, wins_of, states_of}

abbrev a : Id
a = codes "a"

-- a node alone wins, publishes, and commits
abbrev alone : Schedule
alone = record { nodes = a ∷ []; initial = a ∷ []; voting_only = []; second = false; lines = Boot a ∷ StartJoin a a 1 ∷ Deliver a 1 ∷ Value a 1 (codes "x") (a ∷ []) ∷ Deliver a 2 ∷ Deliver a 3 ∷ Deliver a 4 ∷ [] }

one_win : wins_of (trace_parts alone) ≡ record { node = a; term = 1 } ∷ []
unfolding join_checked eight_bytes two_bytes sized framed laid size_at bodies_from bodies_of generations_of misplaced_from epoch_in first_words schedule rounds compress hash_after digest_bytes sha256 guarded guard_fault body_of change_tagged with_change folded_from
one_win = refl

one_commit : states_of (trace_parts alone) ≡ record { term = 1; version = 1; parent = Some (record { term = 0; version = 0 }); config = a ∷ []; committed = a ∷ []; value = value_with (codes "x") } ∷ []
unfolding join_checked eight_bytes two_bytes sized framed laid size_at bodies_from bodies_of generations_of misplaced_from epoch_in first_words schedule rounds compress hash_after digest_bytes sha256 guarded guard_fault body_of change_tagged with_change folded_from
one_commit = refl

-- a node crashes inside the write that keeps a term; its record shows that it was kept, and settles it
abbrev prefix : List Line
prefix = Boot a ∷ Fuse a 3 Kept ∷ StartJoin a a 1 ∷ []

abbrev struck : List Line → Schedule
struck more = record { nodes = a ∷ []; initial = a ∷ []; voting_only = []; second = false; lines = prefix ++ more }

abbrev booted : History
booted = Next NoEntries a (Bootstrap (a ∷ [])) (Answered (Taken None false))

not_yet : history_shown (trace_parts (struck [])) ≡ Next booted a (act.StartJoin a 1) (Crashed false)
unfolding join_checked eight_bytes two_bytes sized framed laid size_at bodies_from bodies_of generations_of misplaced_from epoch_in first_words schedule rounds compress hash_after digest_bytes sha256 guarded guard_fault body_of change_tagged with_change folded_from
not_yet = refl

abbrev found : KeptRecord
found = record { term = 1; accepted = initial_state (a ∷ []); committed = a ∷ [] }

settled : history_shown (trace_parts (struck (Restart a ∷ []))) ≡ Next (Next booted a (act.StartJoin a 1) (Crashed true)) a (Open found) (Answered (Taken None false))
unfolding join_checked eight_bytes two_bytes sized framed laid size_at bodies_from bodies_of generations_of misplaced_from epoch_in first_words schedule rounds compress hash_after digest_bytes sha256 guarded guard_fault body_of change_tagged with_change folded_from
settled = refl
