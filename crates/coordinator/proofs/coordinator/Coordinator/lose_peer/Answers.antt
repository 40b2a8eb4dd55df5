use Rattle.std.proofs.Common.{◌∙◌, sym, ap}
use Rattle.std.specs.Prelude.{Option, is_some}
use Rattle.peer_finder.specs.declared.Found.{Found}
use Rattle.coordinator.specs.Showing.{shown_in}
use Rattle.coordinator.proofs.OfLosses.{peer_lost}
use Rattle.coordinator.proofs.coordinator.Coordinator.lose_peer.Goals as goal

pub returns-then-is_some : goal.returns-then-is_some
returns-then-is_some g c =
    record { does = λ out. peer_lost g.K.Keeper c.args.self.now c.forget_peer.new.self (shown_in out) c.args.p (ap (λ (f : Option Found). is_some f) (sym c.found.ensures.now) ∙ sym c.is_some.ensures ∙ c.if-is_some.true) (c.forget_peer.ensures.does out) }
