use Rattle.std.proofs.Common.{arith, List, map, ap, ◌++◌, ◌∙◌}
use Rattle.std.proofs.lemmas.List.{take_all}
use Rattle.voting_config.specs.Ids.{Id, among}
use Rattle.wire_frames.specs.declared.frame.WireMessage.TheVariants as message
use Rattle.coordinator.specs.Plans.{frame_to}
use Rattle.coordinator.specs.Showing.{shown_in}
use Rattle.coordinator.proofs.responding.send_commits.Goals as goal

pub returns-clause-shown : goal.returns-clause-shown
returns-clause-shown c =
    c.loop-to.invariant.0
    ∙ ap (λ (l : List Id). record (shown_in c.args.out.now) { frames = (shown_in c.args.out.now).frames ++ map (λ (to : Id). frame_to c.args.me (message.Commit c.args.id) to) (among l c.args.others.now) })
    (take_all c.loop-to.to-index c.args.ids.now (omega (arith, c.loop-to-test.false, c.loop-to.auto.to-index-end)))
