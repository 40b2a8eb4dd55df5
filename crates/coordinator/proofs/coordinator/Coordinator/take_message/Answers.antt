use Rattle.std.proofs.Common.{sym, subst}
use Rattle.std.specs.Prelude.{Ok}
use Rattle.wire_frames.specs.declared.frame.WireMessage.{WireMessage}
use Rattle.policy_model.specs.Rules.{takes_message}
use Rattle.coordinator.specs.Does.{DoesAll}
use Rattle.coordinator.proofs.coordinator.Coordinator.take_message.Goals as goal

pub returns-in-StartJoin : goal.returns-in-StartJoin
returns-in-StartJoin g c =
    record { does = subst (λ (m : WireMessage). DoesAll g.K.Keeper c.args.self.now c.on_start_join.new.self c.args.out.now c.on_start_join.new.out (λ s v. takes_message s v c.args.p m) c.on_start_join.result) (sym c.in-StartJoin.is) c.on_start_join.ensures.does }

pub returns-in-PeersAsk : goal.returns-in-PeersAsk
returns-in-PeersAsk g c =
    record { does = subst (λ (m : WireMessage). DoesAll g.K.Keeper c.args.self.now c.on_peers_ask.new.self c.args.out.now c.on_peers_ask.new.out (λ s v. takes_message s v c.args.p m) c.on_peers_ask.result) (sym c.in-PeersAsk.is) c.on_peers_ask.ensures.does }

pub returns-in-PeersAnswer : goal.returns-in-PeersAnswer
returns-in-PeersAnswer g c =
    record { does = subst (λ (m : WireMessage). DoesAll g.K.Keeper c.args.self.now c.on_peers_answer.new.self c.args.out.now c.on_peers_answer.new.out (λ s v. takes_message s v c.args.p m) c.on_peers_answer.result) (sym c.in-PeersAnswer.is) c.on_peers_answer.ensures.does }

pub returns-in-PreVoteAsk : goal.returns-in-PreVoteAsk
returns-in-PreVoteAsk g c =
    record { does = subst (λ (m : WireMessage). DoesAll g.K.Keeper c.args.self.now c.args.self.now c.args.out.now c.on_pre_vote_ask.new.out (λ s v. takes_message s v c.args.p m) (Ok tt)) (sym c.in-PreVoteAsk.is) c.on_pre_vote_ask.ensures.does }

pub returns-in-PreVoteAnswer : goal.returns-in-PreVoteAnswer
returns-in-PreVoteAnswer g c =
    record { does = subst (λ (m : WireMessage). DoesAll g.K.Keeper c.args.self.now c.on_pre_vote_answer.new.self c.args.out.now c.on_pre_vote_answer.new.out (λ s v. takes_message s v c.args.p m) (Ok tt)) (sym c.in-PreVoteAnswer.is) c.on_pre_vote_answer.ensures.does }

pub returns-in-PreVoteRefuse : goal.returns-in-PreVoteRefuse
returns-in-PreVoteRefuse g c =
    record { does = subst (λ (m : WireMessage). DoesAll g.K.Keeper c.args.self.now c.on_pre_vote_refuse.new.self c.args.out.now c.args.out.now (λ s v. takes_message s v c.args.p m) (Ok tt)) (sym c.in-PreVoteRefuse.is) (c.on_pre_vote_refuse.ensures c.args.out.now) }

pub returns-in-Join : goal.returns-in-Join
returns-in-Join g c =
    record { does = subst (λ (m : WireMessage). DoesAll g.K.Keeper c.args.self.now c.on_join.new.self c.args.out.now c.on_join.new.out (λ s v. takes_message s v c.args.p m) c.on_join.result) (sym c.in-Join.is) c.on_join.ensures.does }

pub returns-in-JoinAsk : goal.returns-in-JoinAsk
returns-in-JoinAsk g c =
    record { does = subst (λ (m : WireMessage). DoesAll g.K.Keeper c.args.self.now c.on_join_ask.new.self c.args.out.now c.on_join_ask.new.out (λ s v. takes_message s v c.args.p m) c.on_join_ask.result) (sym c.in-JoinAsk.is) c.on_join_ask.ensures.does }

pub returns-in-Publish : goal.returns-in-Publish
returns-in-Publish g c =
    record { does = subst (λ (m : WireMessage). DoesAll g.K.Keeper c.args.self.now c.on_publish.new.self c.args.out.now c.on_publish.new.out (λ s v. takes_message s v c.args.p m) c.on_publish.result) (sym c.in-Publish.is) c.on_publish.ensures.does }

pub returns-in-Response : goal.returns-in-Response
returns-in-Response g c =
    record { does = subst (λ (m : WireMessage). DoesAll g.K.Keeper c.args.self.now c.on_response.new.self c.args.out.now c.on_response.new.out (λ s v. takes_message s v c.args.p m) c.on_response.result) (sym c.in-Response.is) c.on_response.ensures.does }

pub returns-in-Commit : goal.returns-in-Commit
returns-in-Commit g c =
    record { does = subst (λ (m : WireMessage). DoesAll g.K.Keeper c.args.self.now c.on_commit.new.self c.args.out.now c.on_commit.new.out (λ s v. takes_message s v c.args.p m) c.on_commit.result) (sym c.in-Commit.is) c.on_commit.ensures.does }

pub returns-in-FollowerCheck : goal.returns-in-FollowerCheck
returns-in-FollowerCheck g c =
    record { does = subst (λ (m : WireMessage). DoesAll g.K.Keeper c.args.self.now c.on_follower_check.new.self c.args.out.now c.on_follower_check.new.out (λ s v. takes_message s v c.args.p m) c.on_follower_check.result) (sym c.in-FollowerCheck.is) c.on_follower_check.ensures.does }

pub returns-in-FollowerAnswer : goal.returns-in-FollowerAnswer
returns-in-FollowerAnswer g c =
    record { does = subst (λ (m : WireMessage). DoesAll g.K.Keeper c.args.self.now c.on_follower_answer.new.self c.args.out.now c.args.out.now (λ s v. takes_message s v c.args.p m) (Ok tt)) (sym c.in-FollowerAnswer.is) (c.on_follower_answer.ensures c.args.out.now) }

pub returns-in-LeaderCheck : goal.returns-in-LeaderCheck
returns-in-LeaderCheck g c =
    record { does = subst (λ (m : WireMessage). DoesAll g.K.Keeper c.args.self.now c.args.self.now c.args.out.now c.on_leader_check.new.out (λ s v. takes_message s v c.args.p m) (Ok tt)) (sym c.in-LeaderCheck.is) c.on_leader_check.ensures.does }

pub returns-in-LeaderAnswer : goal.returns-in-LeaderAnswer
returns-in-LeaderAnswer g c =
    record { does = subst (λ (m : WireMessage). DoesAll g.K.Keeper c.args.self.now c.on_leader_answer.new.self c.args.out.now c.args.out.now (λ s v. takes_message s v c.args.p m) (Ok tt)) (sym c.in-LeaderAnswer.is) (c.on_leader_answer.ensures c.args.out.now) }
