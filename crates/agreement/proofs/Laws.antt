-- Both halves together.
use Rattle.std.proofs.Common.{◌↔◌, List, subst}
use Rattle.voting_config.specs.Ids.{Id}
use Rattle.cluster_state.specs.declared.state.Kept.{Kept}
use Rattle.world_model.specs.NodeState.{accepted_of, initial_state}
use Rattle.world_model.specs.Histories.{History, node_history, IsLegal, IsPrefix}
use Rattle.world_model.specs.Safety.{Published, IsCommitted, Descends, IsAtMost, IsSafe, IsSafeFrom}
use Rattle.world_model.specs.Restarts.{IsAlone, IsLegalFrom}
use Rattle.world_model.proofs.FactsOfLegal.{facts_of_legal, accepted_in_legal}
use Rattle.world_model.specs.Bare.{WasLegal}
use Rattle.world_model.proofs.BareSafe.{safe_bare}
use Rattle.world_model.proofs.Keeping.{kept}
use Rattle.world_model.proofs.Remembering.{remembered}
use Rattle.world_model.proofs.Restarted.{facts_of_restarted, kept_from_restart}
use Rattle.agreement.specs.Agree.{DescendsFromCommitted}
use Rattle.agreement.proofs.Agreement.{safe_from_facts, published_descends, accepted_descends}

pub safe_of_legal : (initial : List Id) (h : History) → IsLegal initial h → IsSafe initial h × DescendsFromCommitted h
safe_of_legal initial h l =
    let facts = facts_of_legal initial h l in
    (safe_from_facts (initial_state initial) h facts (kept initial h l), published_descends facts)

pub safe_before : (initial : List Id) (h : History) → WasLegal initial h → IsSafe initial h
safe_before initial h l =
    let now = remembered initial h l in
    subst (IsSafe initial) now.2 (safe_bare initial now.0 (safe_of_legal initial now.0 now.1).0)

pub lost : (initial : List Id) (h : History) → IsLegal initial h → (node : Id) (p : History) → IsPrefix p h → (c : Published) → IsCommitted h c
    → Descends h c.state (accepted_of (node_history p node)) ↔ IsAtMost c.state (accepted_of (node_history p node))
lost initial h l node p i c k = accepted_descends (facts_of_legal initial h l) (accepted_of (node_history p node)) (accepted_in_legal initial h l node p i) c k

pub safe_from : (first : Id) (record_kept : Kept) (h : History) → IsAlone first record_kept → IsLegalFrom first record_kept h → IsSafeFrom record_kept.accepted h
safe_from first k h alone l =
    safe_from_facts k.accepted h (facts_of_restarted first k alone h l) (kept_from_restart first k alone h l)
