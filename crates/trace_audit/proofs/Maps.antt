-- The nodes, where one is taken out or put back.
use Rattle.std.proofs.Common.{◌≡◌, Bool, true, false, cond, Option, None, Some, refl, sym, ◌∙◌, ap, subst}
use Rattle.std.specs.Ordering.{nat_cmp}
use Rattle.std.specs.Cmp.Lexicographic.{slice_cmp, texts_ties}
use Rattle.std.specs.BTreeMap.{BTreeMap, is_at}
use Rattle.voting_config.specs.Ids.{Id, same}
use Rattle.voting_config.proofs.Sets.{same_is}
use Rattle.world_model.specs.Acts.{NodeHistory, NoActs}
use Rattle.node_audit.specs.declared.node.Node.{Node}
use Rattle.trace_audit.specs.Stands.{AllStand, OthersStand, StandsIfAny, node_in}
use Rattle.node_audit.specs.Standing.{Stands}

-- the map has this at the node, and at the others what it had
abbrev pub Becomes : Id → BTreeMap Id Node → Option Node → BTreeMap Id Node → Type 0
Becomes me old w new = (q : Id) → node_in new q ≡ cond (is_at (slice_cmp nat_cmp me) q) w (node_in old q)

at_node : (me : Id) (old new : BTreeMap Id Node) (w : Option Node) (n : Id) (b : Bool) → Becomes me old w new → same me n ≡ b → node_in new n ≡ cond b w (node_in old n)
at_node me old new w n b u e = u n ∙ ap (λ (t : Bool). cond t w (node_in old n)) (sym (texts_ties me n) ∙ e)

pub put_in : (me : Id) (old new : BTreeMap Id Node) (x : Node) (acts : Id → NodeHistory) → Becomes me old (Some x) new → OthersStand me old acts → Stands x (acts me) → AllStand new acts
put_in me old new x acts u o s n = from (same me n) refl
  where
    from : (b : Bool) → same me n ≡ b → StandsIfAny (node_in new n) (acts n)
    from true e = subst (λ (w : Option Node). StandsIfAny w (acts n)) (sym (at_node me old new (Some x) n true u e)) (subst (λ (i : Id). Stands x (acts i)) (same_is me n e) s)
    from false e = subst (λ (w : Option Node). StandsIfAny w (acts n)) (sym (at_node me old new (Some x) n false u e)) (o n e)

pub taken_out : (me : Id) (old new : BTreeMap Id Node) (acts : Id → NodeHistory) → Becomes me old None new → AllStand old acts → OthersStand me new acts
taken_out me old new acts u a n e = subst (λ (w : Option Node). StandsIfAny w (acts n)) (sym (at_node me old new None n false u e)) (a n)
