-- Acks are in order of time.
use Rattle.client_guarantees.proofs.InTime.{legal_follow_time, restarted_follow_time, in_order}
use Rattle.replay_node.specs.Clusters.{replayed_history}
use Rattle.system_laws.specs.Systems.{history_of}
use Rattle.system_laws.proofs.Assembly.{lives_assemble, lives_assemble_from}
use Rattle.cluster_replay.specs.Lasting.{HadSeenIn, HadSeen, LawClusterAcksAreInOrder, LawSystemAcksAreInOrder, LawRestartedAcksAreInOrder}
use Rattle.cluster_replay.proofs.Lasting.{cluster_acks_last, system_acks_last, restarted_acks_last}
use Rattle.cluster_replay.proofs.Schedules.{cluster_replay_is_legal}

pub cluster_acks_are_in_order : LawClusterAcksAreInOrder
cluster_acks_are_in_order schedule is s before_run life =
    let follow = legal_follow_time schedule.initial (replayed_history schedule) (cluster_replay_is_legal schedule is) in
    in_order (HadSeenIn schedule) (replayed_history schedule) s before_run life follow (cluster_acks_last schedule is s life)

pub system_acks_are_in_order : LawSystemAcksAreInOrder
system_acks_are_in_order initial h is s before_run life =
    let follow = legal_follow_time initial (history_of h) (lives_assemble initial h is) in
    in_order (HadSeen h) (history_of h) s before_run life follow (system_acks_last initial h is s life)

pub restarted_acks_are_in_order : LawRestartedAcksAreInOrder
restarted_acks_are_in_order first kept h alone is s before_run life =
    let follow = restarted_follow_time first kept (history_of h) alone (lives_assemble_from first kept h is) in
    in_order (HadSeen h) (history_of h) s before_run life follow (restarted_acks_last first kept h alone is s life)
