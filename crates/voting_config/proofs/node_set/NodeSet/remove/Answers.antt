use Rattle.std.proofs.Common.{◌≡◌, List, sym, ◌∙◌, subst, true, ap, arith}
use Rattle.voting_config.specs.Ids.{Id, has, without_id, place_of, IsIdSet}
use Rattle.voting_config.proofs.Sorted.{without_id-absent, remove-place_of, place_of-within, IsIdSet-without_id}
use Rattle.voting_config.proofs.node_set.NodeSet.remove.Goals as goal

pub returns-then-not-contains-clause-gone : goal.returns-then-not-contains-clause-gone
returns-then-not-contains-clause-gone c = sym (without_id-absent c.args.id c.args.self.now (cc))

pub remove-requires : goal.remove-requires
remove-requires c =
    let in_it : has c.args.id c.self.inside.ids.items ≡ true = cc in
    let place : c.place_among-place.result ≡ place_of c.args.id c.self.inside.ids.items = cc in
    (omega arith, omega (arith, place, place_of-within c.args.id c.self.inside.ids.items c.self.invariant.ascending in_it))

without : (c : goal.After-remove) → c.remove.new.self.items ≡ without_id c.args.id c.self.inside.ids.items
without c =
    let in_it : has c.args.id c.self.inside.ids.items ≡ true = cc in
    let place : c.place_among-place.result ≡ place_of c.args.id c.self.inside.ids.items = cc in
    c.remove.ensures.items ∙ rw place (remove-place_of c.args.id c.self.inside.ids.items c.self.invariant.ascending in_it)

pub invariant_of-self : goal.invariant_of-self
invariant_of-self c =
    let P : List Id → Type 0 = IsIdSet in
    subst P (sym (without c)) (IsIdSet-without_id c.args.id c.self.inside.ids.items c.self.invariant)

pub returns-clause-gone : goal.returns-clause-gone
returns-clause-gone c = without c ∙ ap (λ (l : List Id). without_id c.args.id l) c.self.view_is
