use Rattle.std.proofs.Common.{List, map, ap, ◌++◌, ◌∙◌}
use Rattle.voting_config.specs.Ids.{Id}
use Rattle.wire_frames.specs.declared.frame.WireMessage.TheVariants as message
use Rattle.coordinator.specs.Plans.{frame_to}
use Rattle.coordinator.specs.Showing.{shown_in}
use Rattle.coordinator.proofs.Ticked.{checks_kept}
use Rattle.coordinator.proofs.coordinator.Coordinator.ask_followers.Goals as goal

pub returns-clause-does : goal.returns-clause-does
returns-clause-does g c =
    checks_kept g.K.Keeper c.args.self.now c.tick_all-ask.new.self _ _ c.tick_all-ask.result c.term.result c.requires.keeps c.tick_all-ask.ensures.ask c.term.ensures.term c.tick_all-ask.ensures.now (c.send_all.ensures.shown ∙ ap (λ (ids : List Id). record (shown_in c.args.out.now) { frames = (shown_in c.args.out.now).frames ++ map (λ (to : Id). frame_to c.args.self.now.settings.me (message.FollowerCheck c.term.result) to) ids }) c.as_slice.ensures.value)
