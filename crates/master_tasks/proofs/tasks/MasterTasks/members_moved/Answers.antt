use Rattle.std.proofs.Common.{◌≡◌, ◌∙◌, ap}
use Rattle.voting_config.specs.Ids.{without_id, outside}
use Rattle.master_tasks.specs.Queue.{Tasks}
use Rattle.master_tasks.specs.Members.{joined, members_after}
use Rattle.master_tasks.proofs.tasks.MasterTasks.members_moved.Goals as goal

pub returns : goal.returns
returns c =
    let stayed : c.without-members.result ≡ outside c.args.members.now (without_id c.args.me c.self.inside.removals) =
    c.without-members.ensures ∙ ap (outside c.args.members.now) (c.remove.ensures.gone ∙ ap (without_id c.args.me) c.copy-gone.ensures) in
    c.join.ensures ∙ ap (joined c.args.me c.self.inside.additions) stayed ∙ ap (λ (t : Tasks). members_after c.args.me t c.args.members.now) c.self.view_is
