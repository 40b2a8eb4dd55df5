-- What a record makes of a history.
use Rattle.std.proofs.Common.{◌≡◌, Bool, true, false, None, List, refl, sym, ◌∙◌, ap, subst}
use Rattle.voting_config.specs.Ids.{Id, same}
use Rattle.cluster_state.specs.declared.state.Kept.{Kept}
use Rattle.world_model.specs.declared.acts.ActReply.TheVariants.{Taken}
use Rattle.world_model.specs.Acts.{NodeHistory, Then}
use Rattle.world_model.specs.declared.acts.Act.TheVariants.{Open}
use Rattle.world_model.specs.declared.acts.Outcome.TheVariants.{Answered}
use Rattle.world_model.specs.NodeState.{durable_of}
use Rattle.world_model.specs.Histories.{History, Next, node_history}
use Rattle.world_model.specs.Settled.{settled, settled_for, is_kept, shows_as}
use Rattle.world_model.proofs.Struck.{shows_self}
use Rattle.world_model.proofs.AllSettled.{settled_own, settled_other, settled_legal}
use Rattle.std.specs.BTreeMap.{BTreeMap}
use Rattle.trace_audit.specs.declared.clause.Clause.TheVariants as clause
use Rattle.recorded_trace.specs.declared.entry.Entry.TheVariants.{Recorded}
use Rattle.node_audit.specs.declared.node.Node.{Node}
use Rattle.trace_audit.specs.declared.notes.Notes.{Notes}
use Rattle.trace_audit.specs.declared.auditor.Auditor.{Auditor}
use Rattle.trace_audit.specs.Clauses.{BreaksFirst}
use Rattle.trace_audit.specs.Traced.{found_as, opened_as, with_entry}
use Rattle.trace_audit.specs.Stands.{Audits, AllStand, OthersStand, NotesOf, StandsIfAny, node_in}
use Rattle.node_audit.specs.Standing.{Stands}
use Rattle.trace_audit.proofs.Steps.{may_happen, others_next, own_next}
use Rattle.trace_audit.proofs.Noted.{quiet_plain, settled_notes}

-- the history in which the act that was struck is settled
abbrev settled_by : History → Id → Kept → History
settled_by h n shown = settled_for n (is_kept (node_history h n) shown) h

-- what the node keeps then
kept_then : (h : History) (n : Id) (shown kept : Kept) → kept ≡ durable_of (settled (is_kept (node_history h n) shown) (node_history h n)) → kept ≡ durable_of (node_history (settled_by h n shown) n)
kept_then h n shown kept is = is ∙ ap durable_of (sym (settled_own n (is_kept (node_history h n) shown) h))

found_shown : (shown kept : Kept) → shows_as shown kept ≡ true → kept ≡ found_as shown kept
found_shown shown kept e = rw e refl

-- the history with the record, where the record is what the node keeps
opened_is : (h : History) (n : Id) (shown kept : Kept) → kept ≡ durable_of (node_history h n) → shows_as shown kept ≡ true → Next h n (Open kept) (Answered (Taken None false)) ≡ opened_as h n shown
opened_is h n shown kept is e = ap (λ (k : Kept). Next h n (Open k) (Answered (Taken None false))) (found_shown shown kept e ∙ ap (found_as shown) is)

others_settled : (h : History) (n : Id) (k : Bool) (nodes : BTreeMap Id Node) → OthersStand n nodes (node_history h) → OthersStand n nodes (node_history (settled_for n k h))
others_settled h n k nodes o m e = subst (λ (g : NodeHistory). StandsIfAny (node_in nodes m) g) (sym (settled_other n m k h e)) (o m e)

-- ---- a record that is what the node keeps

-- the acts of the nodes are then these
abbrev pub acts_then : (h : History) (n : Id) (shown kept : Kept) → Id → NodeHistory
acts_then h n shown kept = node_history (Next (settled_by h n shown) n (Open kept) (Answered (Taken None false)))

pub others_then : (h : History) (n : Id) (shown kept : Kept) (nodes : BTreeMap Id Node) → OthersStand n nodes (node_history h) → OthersStand n nodes (acts_then h n shown kept)
others_then h n shown kept nodes o =
    others_next (settled_by h n shown) n (Open kept) (Answered (Taken None false)) nodes (others_settled h n (is_kept (node_history h n) shown) nodes o)

pub own_then : (h : History) (n : Id) (shown kept : Kept) (x : Node) → Stands x (Then (node_history (settled_by h n shown) n) (Open kept) (Answered (Taken None false))) → Stands x (acts_then h n shown kept n)
own_then h n shown kept x s = own_next (settled_by h n shown) n (Open kept) (Answered (Taken None false)) x s

pub kept_is : (h : History) (n : Id) (shown kept : Kept) → kept ≡ durable_of (settled (is_kept (node_history h n) shown) (node_history h n)) → kept ≡ durable_of (node_history (settled_by h n shown) n)
kept_is h n shown kept is = kept_then h n shown kept is

pub opened_audit : (initial : List Id) (old new : Auditor) (h : History) (n : Id) (shown kept : Kept) → Audits initial old h → kept ≡ durable_of (settled (is_kept (node_history h n) shown) (node_history h n)) → shows_as shown kept ≡ true
    → new.initial ≡ old.initial → new.notes ≡ old.notes → AllStand new.nodes (acts_then h n shown kept) → Audits initial new (with_entry h (Recorded n shown))
opened_audit initial old new h n shown kept a is e same same_notes nodes =
    let s : History = settled_by h n shown in
    let found = kept_then h n shown kept is in
    subst (λ (x : History). Audits initial new x) (opened_is s n shown kept found e)
    (record {
      names = same ∙ a.names;
      legal = (settled_legal initial h n (is_kept (node_history h n) shown) a.legal, may_happen initial s n (Open kept) (Answered (Taken None false)) (record { up = λ d. refl; continues = found }) tt tt refl);
      nodes = nodes;
      notes = subst (λ (x : Notes). NotesOf x (Next s n (Open kept) (Answered (Taken None false)))) (sym same_notes) (quiet_plain old.notes s n (Open kept) (settled_notes initial old.notes h n (is_kept (node_history h n) shown) a.legal a.notes));
    })

-- ---- a record that is not

other_record : (shown kept : Kept) → shows_as shown kept ≡ false → found_as shown kept ≡ kept → ⊥
other_record shown kept e same =
    let is : found_as shown kept ≡ shown = rw e refl in
    let self : shown ≡ kept = sym is ∙ same in
    let shows : shows_as shown shown ≡ false = ap (λ (k : Kept). shows_as shown k) self ∙ e in
    let does = shows_self shown in cc

pub record_broken : (initial : List Id) (h : History) (n : Id) (shown kept : Kept) → kept ≡ durable_of (settled (is_kept (node_history h n) shown) (node_history h n)) → shows_as shown kept ≡ false → BreaksFirst clause.Opening initial (with_entry h (Recorded n shown))
record_broken initial h n shown kept is e =
    let found = kept_then h n shown kept is in
    (tt, λ k. other_record shown (durable_of (node_history (settled_by h n shown) n)) (ap (λ (x : Kept). shows_as shown x) (sym found) ∙ e) k.continues)
