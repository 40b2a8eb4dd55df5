use Rattle.std.proofs.Common.{◌≡◌, Bool, false, ◌&&◌, List, sym, ap, ◌∙◌}
use Rattle.std.proofs.lemmas.Bool.{and_right}
use Rattle.voting_config.specs.Ids.{Id, with_room}
use Rattle.policy_model.specs.Doing.{is_second}
use Rattle.policy_model.specs.NextState.{is_in_flight}
use Rattle.coordinator.specs.Views.{view_in}
use Rattle.coordinator.proofs.OfLosses.{quorum_watched}
use Rattle.coordinator.proofs.coordinator.Coordinator.keeps_quorum.Goals.{else-self-via-then-self+else-is_in_flight, else-self-via-else-self}
use Rattle.coordinator.proofs.coordinator.Coordinator.keeps_quorum.Goals as goal

pub returns : goal.returns
returns g c =
    let s = c.args.self.now.settings in
    let flying = is_in_flight c.args.self.now.publication in
    let apart : (is_second s && flying) ≡ false = elim c.else-self.branch [
      | else-self-via-then-self+else-is_in_flight w ↦ and_right (is_second s) flying (sym w.is_in_flight.ensures ∙ w.if-is_in_flight.false)
      | else-self-via-else-self w ↦ ap (λ (b : Bool). b && flying) w.if-self.false
    ] in
    quorum_watched s (view_in g.K.Keeper c.args.self.now) _ _ apart
    (c.put_if_room.ensures ∙ ap (λ (ids : List Id). with_room ids s.me) c.watched-up.ensures) c.elects.ensures
