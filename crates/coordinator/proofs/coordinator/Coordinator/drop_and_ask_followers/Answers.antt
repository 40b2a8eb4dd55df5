use Rattle.std.proofs.Common.{List, map, ap, ◌++◌, ◌∙◌}
use Rattle.voting_config.specs.Ids.{Id}
use Rattle.wire_frames.specs.declared.frame.WireMessage.TheVariants as message
use Rattle.policy_model.specs.declared.events.DropCause.TheVariants.{Checks, Lag}
use Rattle.coordinator.specs.Plans.{frame_to}
use Rattle.coordinator.specs.Showing.{shown_in}
use Rattle.coordinator.specs.Ticks.{all_removed, dropped}
use Rattle.coordinator.proofs.Ticked.{checks_made}
use Rattle.coordinator.proofs.coordinator.Coordinator.drop_and_ask_followers.Goals as goal

pub returns-clause-does : goal.returns-clause-does
returns-clause-does g c =
    checks_made g.K.Keeper c.args.self.now c.tick-ask.new.self c.remove_members.new.tasks c.remove_members-2.new.tasks _ _ _ _ c.tick-ask.result.checks c.tick-ask.result.lag c.tick-ask.result.ask c.term.result c.tick-ask.ensures.checks c.tick-ask.ensures.lag c.tick-ask.ensures.ask c.term.ensures.term c.tick-ask.ensures.now (c.remove_members.ensures ∙ ap (λ (ids : List Id). all_removed c.args.self.now.tasks ids) c.as_slice-3.ensures.value) (c.remove_members-2.ensures ∙ ap (λ (ids : List Id). all_removed c.remove_members.new.tasks ids) c.as_slice-4.ensures.value) (c.show_drops.ensures.shown ∙ ap (λ (ids : List Id). record (shown_in c.args.out.now) { drops = (shown_in c.args.out.now).drops ++ map (λ (id : Id). dropped Checks id) ids }) c.as_slice.ensures.value) (c.show_drops-2.ensures.shown ∙ ap (λ (ids : List Id). record (shown_in c.show_drops.new.out) { drops = (shown_in c.show_drops.new.out).drops ++ map (λ (id : Id). dropped Lag id) ids }) c.as_slice-2.ensures.value) (c.send_all.ensures.shown ∙ ap (λ (ids : List Id). record (shown_in c.show_drops-2.new.out) { frames = (shown_in c.show_drops-2.new.out).frames ++ map (λ (to : Id). frame_to c.args.self.now.settings.me (message.FollowerCheck c.term.result) to) ids }) c.as_slice-5.ensures.value)
