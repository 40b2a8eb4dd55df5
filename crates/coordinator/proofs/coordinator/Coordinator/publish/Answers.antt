use Rattle.std.proofs.Common.{sym, ap, ◌∙◌}
use Rattle.wire_frames.specs.declared.frame.Frame.{Frame}
use Rattle.world_model.specs.declared.acts.Act.TheVariants as act
use Rattle.coordinator.specs.Lists.{Roomed}
use Rattle.coordinator.specs.Showing.{shown_in}
use Rattle.coordinator.proofs.Going.{act_is, publishes_taken, publishes_refused}
use Rattle.coordinator.proofs.coordinator.Coordinator.publish.Goals as goal

pub returns-then-taken : goal.returns-then-taken
returns-then-taken g c =
    record { does = λ v node_is is. publishes_taken g.K.Keeper v c.args.self.now c.act_value-taken.new.self _ _ _ (act.Value c.args.new.request.state.version c.args.new.config c.args.new.value) c.args.new (act_is c.args.self.now.settings v c.args.new is) is c.act_value-taken.ensures.does (sym c.act_value-taken.ensures.taken ∙ c.if-taken.true) (ap (λ (f : Roomed Frame). record (shown_in c.act_value-taken.new.out) { frames = f.list }) c.append.ensures) }

pub returns-else-taken : goal.returns-else-taken
returns-else-taken g c =
    record { does = λ v node_is is. publishes_refused g.K.Keeper v c.args.self.now c.act_value-taken.new.self c.become_candidate.new.self _ _ _ (act.Value c.args.new.request.state.version c.args.new.config c.args.new.value) (act_is c.args.self.now.settings v c.args.new is) c.act_value-taken.ensures.does (sym c.act_value-taken.ensures.taken ∙ c.if-taken.false) c.become_candidate.ensures.does }
