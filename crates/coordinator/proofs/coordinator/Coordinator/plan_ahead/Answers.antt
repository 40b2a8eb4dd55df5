use Rattle.std.proofs.Common.{List, not, ◌&&◌, ap, sym, ◌∙◌}
use Rattle.std.proofs.lemmas.Result.{IfOk-weaker}
use Rattle.world_model.specs.Replies.{elects}
use Rattle.voting_config.specs.Ids.{Id}
use Rattle.master_tasks.specs.Queue.{Tasks, to_be_added}
use Rattle.policy_model.specs.Parts.{all_to_be_added}
use Rattle.coordinator.specs.Views.{view_in}
use Rattle.coordinator.proofs.Planning.{planned_win_by, planned_member_by, unplanned_by}
use Rattle.coordinator.proofs.coordinator.Coordinator.plan_ahead.Goals as goal

pub returns-then-wins_with : goal.returns-then-wins_with
returns-then-wins_with g c =
    let view = view_in g.K.Keeper c.args.self.now in
    let ahead = c.args.ahead.now in
    let same = c.wins_with.ensures.same in
    let votes = c.wins_with.new.votes in
    IfOk-weaker c.plan_with.result _ _ (λ plan has. planned_win_by c.args.self.now.settings view ahead c.args.p plan votes c.add_members.new.tasks c.wins_with.result (same ∙ c.add.ensures) (c.wins_with.ensures.value ∙ ap (λ (ids : List Id). not ahead.won && elects view.node ids) (sym same)) c.if-wins_with.true (c.add_members.ensures ∙ ap (λ (t : Tasks). all_to_be_added t c.as_slice.result.now) c.add_member.ensures ∙ ap (λ (ids : List Id). all_to_be_added (to_be_added ahead.tasks c.args.self.now.settings.me) ids) (c.as_slice.ensures.value ∙ c.sources-sources.ensures)) has) c.plan_with.ensures

pub returns-then-ahead : goal.returns-then-ahead
returns-then-ahead g c =
    let view = view_in g.K.Keeper c.args.self.now in
    let ahead = c.args.ahead.now in
    let same = c.wins_with.ensures.same in
    let votes = c.wins_with.new.votes in
    IfOk-weaker c.plan_with-then-ahead.result _ _ (λ plan has. planned_member_by c.args.self.now.settings view ahead c.args.p plan votes c.add_member-then-ahead.new.self c.wins_with.result (same ∙ c.add.ensures) (c.wins_with.ensures.value ∙ ap (λ (ids : List Id). not ahead.won && elects view.node ids) (sym same)) c.if-wins_with.false c.add_member-then-ahead.ensures has) c.plan_with-then-ahead.ensures

pub returns : goal.returns
returns g c =
    unplanned_by c.args.self.now.settings (view_in g.K.Keeper c.args.self.now) c.args.ahead.now c.args.p c.add.new.self c.wins_with.result c.add.ensures c.wins_with.ensures.value c.if-wins_with.false c.if-ahead.false
