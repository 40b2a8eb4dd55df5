-- For the contracts inside: the laws of legal histories, as statements.
use Rattle.std.specs.Prelude.{◌≡◌, ◌↔◌, Some, List, Contains}
use Rattle.voting_config.specs.Ids.{Id}
use Rattle.world_model.specs.Acts.{NodeHistory, NoActs}
use Rattle.world_model.specs.NodeState.{durable_of}
use Rattle.world_model.specs.Histories.{History, node_history, IsLegal, IsLocal}
use Rattle.world_model.specs.Replies.{id_of}
use Rattle.world_model.specs.Safety.{Published, published, HoldsAll, HoldsAnswers}
use Rattle.world_model.specs.Local.{NamesConfigs, BeginsEmpty, IsSourcedAll, AreRuns, then_runs}

-- in a legal history each node keeps the terms and the states that it answered for, or later ones, over each opening
abbrev pub LawKept : Type 0
LawKept = (initial : List Id) (h : History) → IsLegal initial h → HoldsAnswers h

-- so has a node by itself, whatever messages it took and whatever it was first opened with, if each state that it accepted names a
-- configuration
abbrev pub LawKeptAlone : Type 0
LawKeptAlone = (me : Id) (g : NodeHistory) → IsLocal me g → NamesConfigs g → HoldsAll (durable_of g) g

-- a history is legal just where each node acts as it may by itself, beginning with nothing kept, and each message is sent before it is
-- taken
abbrev pub LawAssemble : Type 0
LawAssemble =
    (initial : List Id) (h : History)
    → IsLegal initial h ↔ (((n : Id) → IsLocal n (node_history h n) × BeginsEmpty (node_history h n)) × IsSourcedAll initial h)

-- the runs of all nodes, each by itself right and begun with what the node had kept, make a legal history in each order that keeps
-- the order of each node's acts and takes no message before it is sent
abbrev pub LawAssembleRuns : Type 0
LawAssembleRuns =
    (initial : List Id) (h : History) (runs : Id → List NodeHistory)
    → ((n : Id) → AreRuns n NoActs (runs n)) → ((n : Id) → node_history h n ≡ then_runs NoActs (runs n)) → IsSourcedAll initial h
    → IsLegal initial h

-- in a legal history each published state has as parent field the id of the state that it was made from
abbrev pub LawParent : Type 0
LawParent = (initial : List Id) (h : History) → IsLegal initial h → (p : Published) → Contains (published h) p
    → p.state.parent ≡ Some (id_of p.parent)
