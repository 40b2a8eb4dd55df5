use Rattle.std.proofs.Common.{ap, sym}
use Rattle.policy_model.specs.declared.events.Mode.{Mode}
use Rattle.policy_model.specs.Disconnects.{loses}
use Rattle.coordinator.specs.Views.{view_in}
use Rattle.coordinator.proofs.Becoming.{makes_as}
use Rattle.coordinator.proofs.coordinator.Coordinator.lose.Goals as goal

pub returns-in-Candidate : goal.returns-in-Candidate
returns-in-Candidate g c =
    record { does = makes_as g.K.Keeper c.args.self.now c.lose_peer.new.self _ _ _ _ (c.lose_peer.ensures.does c.args.out.now) (ap (λ (m : Mode). loses c.args.self.now.settings (view_in g.K.Keeper c.args.self.now) c.args.p m) (sym c.in-Candidate.is)) }
