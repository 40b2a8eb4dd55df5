use Rattle.std.proofs.Common.{ap, ◌∙◌, ◌++◌, List, []}
use Rattle.std.proofs.lemmas.Result.{on_ok_weaker}
use Rattle.policy_model.specs.declared.events.Deed.{Deed}
use Rattle.policy_model.specs.declared.events.MemberDrop.{MemberDrop}
use Rattle.event_text.specs.Events.{event_results}
use Rattle.event_text.specs.Deeds.{as_left}
use Rattle.schedule_replay.proofs.cluster.node.show_struck.Goals as goal

pub returns-clause-text : goal.returns-clause-text
returns-clause-text c =
    on_ok_weaker c.write_struck_event.result (λ text count. text count
    ∙ ap (λ (l : List Deed). c.args.text.now ++ event_results count c.args.me c.args.published.now (as_left c.args.crashed l) c.as_slice-2.result.now [] []) c.as_slice.ensures
    ∙ ap (λ (l : List MemberDrop). c.args.text.now ++ event_results count c.args.me c.args.published.now (as_left c.args.crashed c.args.entries.now.deeds.list) l [] []) c.as_slice-2.ensures) c.write_struck_event.ensures.text
