use Rattle.std.proofs.Common.{sym, ◌∙◌}
use Rattle.coordinator.proofs.Committed.{response_commits, response_counts}
use Rattle.coordinator.proofs.coordinator.Coordinator.take_response.Goals as goal

pub returns-then-act_response : goal.returns-then-act_response
returns-then-act_response g c =
    record { does = response_commits g.K.Keeper c.args.self.now c.act_response.new.self c.send_commit.new.self _ _ _ c.args.p c.args.id _ c.is_commit_sent-sent.ensures (sym c.act_response.ensures.commits ∙ c.if-act_response.true) c.act_response.ensures.does c.send_commit.ensures.does }

pub returns-else-act_response : goal.returns-else-act_response
returns-else-act_response g c =
    record { does = response_counts g.K.Keeper c.args.self.now c.act_response.new.self _ _ c.args.p c.args.id (sym c.act_response.ensures.commits ∙ c.if-act_response.false) c.act_response.ensures.does }
