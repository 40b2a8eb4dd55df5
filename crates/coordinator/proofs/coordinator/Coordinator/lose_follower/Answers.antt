use Rattle.std.proofs.Common.{sym, ◌∙◌}
use Rattle.coordinator.proofs.OfLosses.{follower_lost}
use Rattle.coordinator.proofs.coordinator.Coordinator.lose_follower.Goals as goal

pub returns : goal.returns
returns g c =
    record { does = follower_lost g.K.Keeper c.args.self.now c.drop_follower.new.self c.go_on_with_rest.new.self _ _ _ _ c.args.p c.in-Ok-make_room.ensures.shown (sym c.watches.ensures ∙ c.if-not-watches.false) c.drop_follower.ensures.does c.go_on_with_rest.ensures.does }
