-- For the contracts inside: agreement, as statements.
use Rattle.std.specs.Prelude.{◌↔◌, List, Contains}
use Rattle.voting_config.specs.Ids.{Id}
use Rattle.cluster_state.specs.declared.state.Kept.{Kept}
use Rattle.world_model.specs.NodeState.{accepted_of}
use Rattle.world_model.specs.Histories.{History, node_history, IsLegal, IsPrefix}
use Rattle.world_model.specs.Safety.{Published, published, IsCommitted, Descends, IsAtMost, IsSafe, IsSafeFrom}
use Rattle.world_model.specs.Restarts.{IsAlone, IsLegalFrom}
use Rattle.world_model.specs.Bare.{WasLegal}

-- each published state descends from each committed state whose id is not above its own
abbrev pub DescendsFromCommitted : History → Type 0
DescendsFromCommitted h =
    (p c : Published) → Contains (published h) p → IsCommitted h c → IsAtMost c.state p.state → Descends h c.state p.state

-- each legal history is safe
abbrev pub LawAgree : Type 0
LawAgree = (initial : List Id) (h : History) → IsLegal initial h → IsSafe initial h × DescendsFromCommitted h

-- what a node has accepted descends from just those committed states whose id is not above its own
abbrev pub LawLost : Type 0
LawLost =
    (initial : List Id) (h : History) → IsLegal initial h → (node : Id) (p : History) → IsPrefix p h → (c : Published) → IsCommitted h c
    → Descends h c.state (accepted_of (node_history p node)) ↔ IsAtMost c.state (accepted_of (node_history p node))

-- from the restart of one node on each legal history is safe over the state that this node had kept
abbrev pub LawRestarted : Type 0
LawRestarted = (first : Id) (kept : Kept) (h : History) → IsAlone first kept → IsLegalFrom first kept h → IsSafeFrom kept.accepted h

-- each history that was legal before states had parents is safe
abbrev pub LawAgreeBefore : Type 0
LawAgreeBefore = (initial : List Id) (h : History) → WasLegal initial h → IsSafe initial h
