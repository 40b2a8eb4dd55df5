-- What the parts of a schedule of a whole node show.
use Rattle.std.proofs.Common.{◌≡◌, false, Some, [], ◌∷◌, refl}
use Rattle.std.specs.Prelude.{codes}
use Rattle.std.specs.Fmt.{digits}
use Rattle.voting_config.specs.Ids.{Id}
use Rattle.cluster_state.specs.JoinCheck.{join_checked}
use Rattle.cluster_state.specs.Field.{eight_bytes, two_bytes}
use Rattle.master_tasks.specs.NextState.{processed_by, next_value, config_for, next_config, is_accepted, is_nothing_new, next_answers, tasks_after}
use Rattle.gate_log.specs.Generations.{generations_of, misplaced_from, epoch_in}
use Rattle.gate_log.specs.Journal.{sized, framed, laid, size_at, bodies_from, bodies_of}
use Rattle.sha2.specs.Sha256.{first_words, schedule, rounds, compress, hash_after, digest_bytes, sha256}
use Rattle.state_journal.specs.Bodies.{guarded, guard_fault, body_of, change_tagged}
use Rattle.state_journal.specs.Journal.{with_change, folded_from}
use Rattle.schedule_text.specs.declared.schedule.Line.TheVariants.{Tick, Deliver}
use Rattle.schedule_text.specs.declared.schedule.Schedule.{Schedule}
use Rattle.schedule_replay.specs.HistoryShown.{wins_of, states_of}
use Rattle.schedule_replay.specs.ClusterShown.{core_of}
use Rattle.schedule_replay.specs.ClusterTraceParts.{cluster_parts}

abbrev a : Id
a = codes "a"

-- a node alone begins a cluster, wins, publishes its first state, and commits it
abbrev alone : Schedule
alone = record { nodes = a ∷ []; initial = a ∷ []; voting_only = []; second = false; lines = Tick a 0 7 ∷ Tick a 8 7 ∷ Deliver a 1 ∷ Deliver a 2 ∷ Deliver a 3 ∷ Deliver a 4 ∷ [] }

one_win : wins_of (core_of (cluster_parts alone)) ≡ record { node = a; term = 1 } ∷ []
unfolding join_checked processed_by next_value config_for next_config is_accepted is_nothing_new next_answers tasks_after digits eight_bytes two_bytes sized framed laid size_at bodies_from bodies_of generations_of misplaced_from epoch_in first_words schedule rounds compress hash_after digest_bytes sha256 guarded guard_fault body_of change_tagged with_change folded_from
one_win = refl

one_commit : states_of (core_of (cluster_parts alone))
    ≡ record { term = 1; version = 1; parent = Some (record { term = 0; version = 0 }); config = a ∷ []; committed = a ∷ []; value = record { master = Some a; members = a ∷ []; exclusions = []; settings = [] } } ∷ []
unfolding join_checked processed_by next_value config_for next_config is_accepted is_nothing_new next_answers tasks_after digits eight_bytes two_bytes sized framed laid size_at bodies_from bodies_of generations_of misplaced_from epoch_in first_words schedule rounds compress hash_after digest_bytes sha256 guarded guard_fault body_of change_tagged with_change folded_from
one_commit = refl
