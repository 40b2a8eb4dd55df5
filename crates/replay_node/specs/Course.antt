-- Part of the statement: what its disk lets a node do of an event, and what a later opening says of it.
use Rattle.std.specs.Prelude.{Bool, true, false, List, [], ◌∷◌, ◌++◌, if◌then◌else◌}
use Rattle.voting_config.specs.Ids.{Id}
use Rattle.replay_node.specs.NodeDisk.{CallsEnd, Done, Failed, CrashedIn}
use Rattle.replay_node.specs.NodeWorld.{NodeWorld, act_called, after_act, outcome_at}
use Rattle.replay_node.specs.Worlds.{World, node_world, did}
use Rattle.policy_model.specs.Events.{Item, Opens, Begins, Acts, ChangesMode, Drops, Sends, Replies, Notes}
use Rattle.policy_model.specs.Entries.{Life, NotBegun, Opened, Lived, Entry, Did}
use Rattle.policy_model.specs.Follows.{without_output}
use Rattle.policy_model.specs.Struck.{settled_items}

-- what was done of some items, all nodes then, and whether the disk struck one of their acts
pub record Course : Type 0 where
  pub items : List Item
  pub world : World
  pub struck : Bool

-- an item before the others: where an act after it is struck, what it sends is gone
abbrev pub behind : Item → Course → Course
behind i c = record c { items = (if c.struck then without_output i else i ∷ []) ++ c.items }

-- an act whose device calls ended so, after which all nodes are w: the rest follows, unless it was struck
abbrev pub act_then : CallsEnd → Item → World → (World → Course) → Course
act_then Done i w rest = behind i (rest w)
act_then Failed i w rest = record { items = i ∷ []; world = w; struck = true }
act_then (CrashedIn way) i w rest = record { items = i ∷ []; world = w; struck = true }

-- the node does these, one after the other; each act has the outcome that its disk lets it have
abbrev pub played : Id → World → List Item → Course
played n w [] = record { items = []; world = w; struck = false }
played n w (Acts act outcome ∷ is) = act_then (act_called n (node_world w n) act).ended (Acts act (outcome_at n (node_world w n) act))
    (did w n act) (λ (v : World). played n v is)
played n w (Opens found ∷ is) = behind (Opens found) (played n w is)
played n w (Begins event ∷ is) = behind (Begins event) (played n w is)
played n w (ChangesMode mode term ∷ is) = behind (ChangesMode mode term) (played n w is)
played n w (Drops member cause ∷ is) = behind (Drops member cause) (played n w is)
played n w (Sends frame ∷ is) = behind (Sends frame) (played n w is)
played n w (Replies answer ∷ is) = behind (Replies answer) (played n w is)
played n w (Notes note ∷ is) = behind (Notes note) (played n w is)

-- ---- the same of one node by itself

pub record NodeCourse : Type 0 where
  pub items : List Item
  pub node : NodeWorld
  pub struck : Bool

abbrev pub node_behind : Item → NodeCourse → NodeCourse
node_behind i d = record d { items = (if d.struck then without_output i else i ∷ []) ++ d.items }

abbrev pub node_act_then : CallsEnd → Item → NodeWorld → (NodeWorld → NodeCourse) → NodeCourse
node_act_then Done i x rest = node_behind i (rest x)
node_act_then Failed i x rest = record { items = i ∷ []; node = x; struck = true }
node_act_then (CrashedIn way) i x rest = record { items = i ∷ []; node = x; struck = true }

abbrev pub node_played : Id → NodeWorld → List Item → NodeCourse
node_played n x [] = record { items = []; node = x; struck = false }
node_played n x (Acts act outcome ∷ is) =
    node_act_then (act_called n x act).ended (Acts act (outcome_at n x act)) (after_act n x act) (λ (y : NodeWorld). node_played n y is)
node_played n x (Opens found ∷ is) = node_behind (Opens found) (node_played n x is)
node_played n x (Begins event ∷ is) = node_behind (Begins event) (node_played n x is)
node_played n x (ChangesMode mode term ∷ is) = node_behind (ChangesMode mode term) (node_played n x is)
node_played n x (Drops member cause ∷ is) = node_behind (Drops member cause) (node_played n x is)
node_played n x (Sends frame ∷ is) = node_behind (Sends frame) (node_played n x is)
node_played n x (Replies answer ∷ is) = node_behind (Replies answer) (node_played n x is)
node_played n x (Notes note ∷ is) = node_behind (Notes note) (node_played n x is)

-- ---- what a later opening says

-- The act that was struck is among the items of the last entry, since nothing but an opening comes after it.
abbrev pub settled_entry : Bool → Entry → Entry
settled_entry kept (Did event items) = Did event (settled_items kept items)
settled_entry kept other = other

abbrev pub settled_life : Bool → Life → Life
settled_life kept NotBegun = NotBegun
settled_life kept (Opened life found) = Opened life found
settled_life kept (Lived life entry) = Lived life (settled_entry kept entry)
