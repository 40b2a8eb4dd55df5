-- Part of the statement: all nodes of a replay: what a node's act, crash, restart or order makes of them.
use Rattle.std.specs.Prelude.{Bool, false, cond, None, if◌then◌else◌}
use Rattle.voting_config.specs.Ids.{Id, same}
use Rattle.cluster_state.specs.declared.state.Kept.{Kept}
use Rattle.zen_disk.specs.declared.orders.Order.{Order}
use Rattle.zen_disk.specs.declared.orders.Way.{Way}
use Rattle.world_model.specs.declared.acts.Act.{Act}
use Rattle.world_model.specs.declared.acts.Act.TheVariants.{Open}
use Rattle.world_model.specs.declared.acts.ActReply.TheVariants.{Taken}
use Rattle.world_model.specs.declared.acts.Outcome.TheVariants.{Answered}
use Rattle.world_model.specs.Histories.{History, NoEntries, Next, node_history}
use Rattle.replay_node.specs.NodeDisk.{NodeDisk, CallsEnd, Done, Failed, CrashedIn, fresh_disk, opening}
use Rattle.replay_node.specs.NodeWorld.{NodeWorld, outcome_at, after_act, after_crash, after_order, after_opening, found_at, needs_opening}
use Rattle.world_model.specs.Settled.{is_kept, settled_for}

-- what all nodes did, each node's disk, and which nodes are down
pub record World : Type 0 where
  pub history : History
  pub disks : Id → NodeDisk
  pub down : Id → Bool

-- all nodes have opened their journals on empty disks
abbrev pub fresh_world : World
fresh_world = record { history = NoEntries; disks = λ n. fresh_disk; down = λ n. false }

-- one node of it
abbrev pub node_world : World → Id → NodeWorld
node_world w n = record { acts = node_history w.history n; disk = w.disks n; down = w.down n }

-- the history went on, and the disk of a node is this, and whether it is down
abbrev pub with_node : World → Id → History → NodeWorld → World
with_node w n history x = record {
  history = history;
  disks = λ m. cond (same n m) x.disk (w.disks m);
  down = λ m. cond (same n m) x.down (w.down m);
}

-- ---- acts

-- the node does this act, and its outcome is by the calls of its disk
abbrev pub did : World → Id → Act → World
did w n act = with_node w n (Next w.history n act (outcome_at n (node_world w n) act)) (after_act n (node_world w n) act)

abbrev pub did_unless_down : World → Id → Act → World
did_unless_down w n act = if w.down n then w else did w n act

-- ---- crashes, restarts and orders

abbrev pub crashed : World → Id → Way → World
crashed w n way = if w.down n then w else with_node w n w.history (after_crash way (node_world w n))

abbrev pub ordered : World → Id → Order → World
ordered w n order = with_node w n w.history (after_order order (node_world w n))

-- the history with an opening that ended so; whether the node's last act was kept is known from then on
abbrev pub history_opened : CallsEnd → History → Id → Kept → History
history_opened Done h n found = Next (settled_for n (is_kept (node_history h n) found) h) n (Open found) (Answered (Taken None false))
history_opened Failed h n found = h
history_opened (CrashedIn way) h n found = h

abbrev pub opened : World → Id → World
opened w n = with_node w n (history_opened (opening (w.disks n)).ended w.history n (found_at (node_world w n)))
    (after_opening (node_world w n))

abbrev pub restarted : World → Id → World
restarted w n = if needs_opening (node_world w n) then opened w n else w
