-- Part of the statement: what a later opening says of an act that the disk failed or stopped in.
use Rattle.std.specs.Prelude.{Bool, true, cond, ◌&&◌, nat_eq, if◌then◌else◌}
use Rattle.voting_config.specs.Ids.{Id, same, same_config}
use Rattle.cluster_state.specs.declared.state.Kept.{Kept}
use Rattle.world_model.specs.declared.acts.Act.{Act}
use Rattle.world_model.specs.declared.acts.Outcome.{Outcome}
use Rattle.world_model.specs.declared.acts.Outcome.TheVariants.{Answered, Disk, Crashed}
use Rattle.world_model.specs.Acts.{NodeHistory, NoActs, Then}
use Rattle.world_model.specs.Histories.{History, NoEntries, Next, is_opening}
use Rattle.world_model.specs.NodeState.{durable_of}

-- the acts, where the act since the last opening that the disk failed or stopped in was kept, or was not
abbrev pub settled : Bool → NodeHistory → NodeHistory
settled kept NoActs = NoActs
settled kept (Then g act (Disk was)) = Then g act (Disk kept)
settled kept (Then g act (Crashed was)) = Then g act (Crashed kept)
settled kept (Then g act (Answered reply)) = if is_opening act then Then g act (Answered reply)
    else Then (settled kept g) act (Answered reply)

-- there is no such act
abbrev pub IsUnstruck : NodeHistory → Type 0
IsUnstruck NoActs = Unit {0}
IsUnstruck (Then g act (Disk was)) = ⊥
IsUnstruck (Then g act (Crashed was)) = ⊥
IsUnstruck (Then g act (Answered reply)) = cond (is_opening act) (Unit {0}) (IsUnstruck g)

-- the line `record` of one shows what that of the other does
abbrev pub shows_as : Kept → Kept → Bool
shows_as a b =
    nat_eq a.term b.term
    && nat_eq a.accepted.term b.accepted.term
    && nat_eq a.accepted.version b.accepted.version
    && same_config a.accepted.config b.accepted.config
    && same_config a.committed b.committed

-- an act that was struck was kept exactly where the record of the next opening shows it
abbrev pub is_kept : NodeHistory → Kept → Bool
is_kept g found = shows_as found (durable_of (settled true g))

-- The same in a history of all nodes.

-- an entry of the node, after these entries, and after the same with the act that was struck kept or not
abbrev pub settled_entry : Bool → (before settled_before : History) → Id → Act → Outcome → History
settled_entry kept before settled_before n act (Disk was) = Next before n act (Disk kept)
settled_entry kept before settled_before n act (Crashed was) = Next before n act (Crashed kept)
settled_entry kept before settled_before n act (Answered reply) =
    Next (if is_opening act then before else settled_before) n act (Answered reply)

abbrev pub settled_for : Id → Bool → History → History
settled_for n kept NoEntries = NoEntries
settled_for n kept (Next h node act outcome) = if same node n then settled_entry kept h (settled_for n kept h) node act outcome
    else Next (settled_for n kept h) node act outcome
