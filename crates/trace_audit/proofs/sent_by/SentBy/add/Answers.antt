use Rattle.std.proofs.Common.{sym, subst}
use Rattle.std.proofs.lemmas.Result.{on_ok_weaker}
use Rattle.world_model.specs.declared.acts.Message.{Message}
use Rattle.trace_audit.specs.Places.{WithMessage}
use Rattle.trace_audit.proofs.Sendings.{sent_join, sent_request, sent_response, sent_commit}
use Rattle.trace_audit.proofs.sent_by.SentBy.add.Goals as goal

pub returns-in-Join : goal.returns-in-Join
returns-in-Join c =
    let s = c.args.self.now in
    on_ok_weaker c.add_join.result (λ w. subst (λ (m : Message). WithMessage s m (record s { joins = c.add_join.new.joins })) (sym c.in-Join.is) (sent_join s c.add_join.new.joins c.in-Join.join w)) c.add_join.ensures

pub returns-in-Publish : goal.returns-in-Publish
returns-in-Publish c =
    let s = c.args.self.now in
    on_ok_weaker c.add.result (λ w. subst (λ (m : Message). WithMessage s m (record s { requests = c.add.new.self })) (sym c.in-Publish.is) (sent_request s c.add.new.self c.in-Publish.request w)) c.add.ensures

pub returns-in-Response : goal.returns-in-Response
returns-in-Response c =
    let s = c.args.self.now in
    on_ok_weaker c.add_response.result (λ w. subst (λ (m : Message). WithMessage s m (record s { responses = c.add_response.new.responses })) (sym c.in-Response.is) (sent_response s c.add_response.new.responses c.in-Response.response w)) c.add_response.ensures

pub returns-in-Commit : goal.returns-in-Commit
returns-in-Commit c =
    let s = c.args.self.now in
    on_ok_weaker c.add_commit.result (λ w. subst (λ (m : Message). WithMessage s m (record s { commits = c.add_commit.new.commits })) (sym c.in-Commit.is) (sent_commit s c.add_commit.new.commits c.in-Commit.commit w)) c.add_commit.ensures
