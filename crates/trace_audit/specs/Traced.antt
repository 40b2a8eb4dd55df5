-- Part of the statement: the history that a recorded trace shows.
use Rattle.std.specs.Prelude.{false, None, List, [], ◌∷◌, if◌then◌else◌}
use Rattle.voting_config.specs.Ids.{Id}
use Rattle.cluster_state.specs.declared.state.Kept.{Kept}
use Rattle.world_model.specs.declared.acts.ActReply.TheVariants.{Taken}
use Rattle.world_model.specs.declared.acts.Outcome.TheVariants.{Answered}
use Rattle.world_model.specs.declared.acts.Act.TheVariants.{Open}
use Rattle.world_model.specs.NodeState.{durable_of}
use Rattle.world_model.specs.Histories.{History, NoEntries, Next, node_history}
use Rattle.world_model.specs.Replies.{reply_of}
use Rattle.world_model.specs.Settled.{is_kept, settled_for, shows_as}
use Rattle.node_audit.specs.Endings.{outcome_shown}
use Rattle.recorded_trace.specs.declared.entry.Entry.{Entry}
use Rattle.recorded_trace.specs.declared.entry.Entry.TheVariants.{Acted, Recorded}
use Rattle.recorded_trace.specs.Reading.{Numbered}

-- the record of an opening that shows this, of a node that keeps this: what the node keeps, where it is shown so
abbrev pub found_as : Kept → Kept → Kept
found_as shown kept = if shows_as shown kept then kept else shown

-- an opening of the node that shows this record
abbrev pub opened_as : History → Id → Kept → History
opened_as h n shown = Next h n (Open (found_as shown (durable_of (node_history h n)))) (Answered (Taken None false))

-- The history with one more entry. A record settles the act of its node that the disk failed or stopped in since the node was last opened:
-- this act was kept exactly where the record shows it.
abbrev pub with_entry : History → Entry → History
with_entry h (Acted n e act) = Next h n act (outcome_shown (reply_of n (node_history h n) act) e)
with_entry h (Recorded n shown) = opened_as (settled_for n (is_kept (node_history h n) shown) h) n shown

abbrev pub with_entries : History → List Numbered → History
with_entries h [] = h
with_entries h (x ∷ xs) = with_entries (with_entry h x.entry) xs

-- the history of the entries
abbrev pub traced : List Numbered → History
traced xs = with_entries NoEntries xs
