use Rattle.std.proofs.Common.{◌∙◌, sym, ap, true, false}
use Rattle.std.specs.List.{list_any}
use Rattle.voting_config.specs.Ids.{same}
use Rattle.command_line.proofs.Listing.{with_told}
use Rattle.command_line.proofs.lists.with_peer.Goals as goal

pub returns-then-has_peer : goal.returns-then-has_peer
returns-then-has_peer c =
    with_told c.args.item.now c.args.peers.items c.in_ok-peer.peer true c.in_ok-peer.ensures
    (ap (list_any (λ q. same q.id c.in_ok-peer.peer.id)) (sym c.deref.ensures.value) ∙ sym c.has_peer.ensures ∙ c.if-has_peer.true)

pub returns : goal.returns
returns c =
    rw c.in-Ok.ensures.items (with_told c.args.item.now c.args.peers.items c.in_ok-peer.peer false c.in_ok-peer.ensures
    (ap (list_any (λ q. same q.id c.in_ok-peer.peer.id)) (sym c.deref.ensures.value) ∙ sym c.has_peer.ensures ∙ c.if-has_peer.false))
