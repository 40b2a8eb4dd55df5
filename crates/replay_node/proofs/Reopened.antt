-- A node is opened again: the history, with the act that was struck set by the record that was found, stays legal.
use Rattle.std.proofs.Common.{◌≡◌, Bool, true, false, None, List, refl, sym, subst, ◌⊎◌}
use Rattle.voting_config.specs.Ids.{Id}
use Rattle.cluster_state.specs.declared.state.Kept.{Kept}
use Rattle.world_model.specs.declared.acts.Act.TheVariants.{Open}
use Rattle.world_model.specs.declared.acts.ActReply.TheVariants.{Taken}
use Rattle.world_model.specs.declared.acts.Outcome.TheVariants.{Answered}
use Rattle.world_model.specs.Acts.{NodeHistory}
use Rattle.world_model.specs.NodeState.{durable_of}
use Rattle.world_model.specs.Histories.{History, Next, node_history, IsLegal}
use Rattle.world_model.proofs.Assemble.{legal_is}
use Rattle.world_model.specs.Settled.{settled, is_kept, settled_for}
use Rattle.world_model.proofs.AllSettled.{settled_own, settled_legal}
use Rattle.replay_node.proofs.Found.{found_is}

-- the record is that of the node's acts, where the act that was struck was kept or was not
abbrev pub IsFound : NodeHistory → Kept → Type 0
IsFound g found = (found ≡ durable_of (settled false g)) ⊎ (found ≡ durable_of (settled true g))

pub reopened_legal : (initial : List Id) (h : History) (n : Id) (found : Kept) → IsLegal initial h → IsFound (node_history h n) found
    → IsLegal initial (Next (settled_for n (is_kept (node_history h n) found) h) n (Open found) (Answered (Taken None false)))
reopened_legal initial h n found l f =
    let k : Bool = is_kept (node_history h n) found in
    let alone = ((legal_is initial h).0 l).0 n in
    let continues = subst (λ (g : NodeHistory). found ≡ durable_of g) (sym (settled_own n k h)) (found_is n (node_history h n) found alone.0 f) in
    (settled_legal initial h n k l, record { follows = record { follows = refl; up = λ d. refl }; continues = continues; sourced = tt })
