use Rattle.std.proofs.Common.{◌≡◌, ◌∙◌, sym, true}
use Rattle.voting_config.specs.Ids.{comes_after}
use Rattle.voting_config.proofs.Sorted.{place_of-last}
use Rattle.voting_config.proofs.node_set.NodeSet.new_place.Goals as goal

pub returns-then-comes_last-clause-place : goal.returns-then-comes_last-clause-place
returns-then-comes_last-clause-place c =
    let last : comes_after c.args.id c.args.self.now ≡ true = sym c.if-comes_last.ensures in
    (sym c.if-contains.ensures, rw (← c.self.view_is) (c.len.ensures.value ∙ sym (place_of-last c.args.id c.self.inside.ids.items c.self.invariant.ascending (rw c.self.view_is last))))
