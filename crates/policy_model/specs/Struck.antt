-- Part of the statement: what a later opening says of the act in which the disk failed or the node crashed.
use Rattle.std.specs.Prelude.{Bool, List, map}
use Rattle.world_model.specs.declared.acts.Outcome.TheVariants.{Answered, Disk, Crashed}
use Rattle.world_model.specs.Acts.{NodeHistory, NoActs, Then}
use Rattle.policy_model.specs.Events.{Item, Acts}

-- an act that was struck was kept, or was not
abbrev pub settled_item : Bool → Item → Item
settled_item kept (Acts act (Disk was)) = Acts act (Disk kept)
settled_item kept (Acts act (Crashed was)) = Acts act (Crashed kept)
settled_item kept i = i

abbrev pub settled_items : Bool → List Item → List Item
settled_items kept items = map (settled_item kept) items

-- the same of the last act of a node
abbrev pub settled_acts : Bool → NodeHistory → NodeHistory
settled_acts kept NoActs = NoActs
settled_acts kept (Then g act (Answered reply)) = Then g act (Answered reply)
settled_acts kept (Then g act (Disk was)) = Then g act (Disk kept)
settled_acts kept (Then g act (Crashed was)) = Then g act (Crashed kept)
