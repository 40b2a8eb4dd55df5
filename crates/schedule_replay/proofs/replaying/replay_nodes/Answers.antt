use Rattle.std.proofs.Common.{arith, List, subst, sym}
use Rattle.schedule_text.specs.declared.schedule.Line.{Line}
use Rattle.schedule_replay.specs.Tallied.{ClusterTallied}
use Rattle.schedule_replay.proofs.Tallying.{one_more_cluster, taken_more, whole_cluster_tallied}
use Rattle.schedule_replay.proofs.ClusterProgress.{goes_on, fails, stops, ends}
use Rattle.schedule_replay.proofs.Progress.{prefix_at_err, none_left}
use Rattle.schedule_replay.proofs.replaying.replay_nodes.Goals as goal

pub returns-in_default-line-clause-written : goal.returns-in_default-line-clause-written
returns-in_default-line-clause-written g c =
    stops c.args.schedule.now.nodes c.args.schedule.now.initial c.args.schedule.now.voting_only c.args.schedule.now.second _ _ _ (g.S.Sink.written c.loop-line.out) _ c.loop-line.held c.loop-line.held _ _ (λ i. c.loop-line.held) c.loop-line.invariant.1 c.out_of_memory.ensures.written

pub returns-in_err-pass_on-clause-written : goal.returns-in_err-pass_on-clause-written
returns-in_err-pass_on-clause-written g c =
    prefix_at_err c.from_residual.result _ _ _ c.from_residual.ensures.0
    (fails c.args.schedule.now.nodes c.args.schedule.now.initial c.args.schedule.now.voting_only c.args.schedule.now.second _ _ _ _ _ (g.S.Sink.written c.loop-line.out) _ c.loop-line.held c.pass_on.new.held c.clear.new.self c.line.new.text c.as_slice-lines.result.now c.loop-line.line-index c.line-item.result _ c.loop-line-test.true c.line-item.is c.clear.ensures c.loop-line.invariant.1 c.in-Ok-line.ensures.done c.in_err-pass_on.ensures.holds)

pub loop-line-preserved : goal.loop-line-preserved
loop-line-preserved g c = (
  omega (arith, c.loop-line.invariant.0, c.pass_on.ensures.later),
  goes_on c.args.schedule.now.nodes c.args.schedule.now.initial c.args.schedule.now.voting_only c.args.schedule.now.second _ _ _ _ _ (g.S.Sink.written c.loop-line.out) _ c.loop-line.held c.pass_on.new.held c.clear.new.self c.line.new.text c.as_slice-lines.result.now c.loop-line.line-index c.line-item.result _ c.loop-line-test.true c.line-item.is c.clear.ensures c.loop-line.invariant.1 c.in-Ok-line.ensures.done c.in_ok-pass_on.ensures.holds,
  λ first. subst (λ (done : List Line). ClusterTallied g.T.Observer.saw c.args.schedule.now.nodes c.args.schedule.now.initial c.args.schedule.now.voting_only c.args.schedule.now.second c.line.new.self.nodes.items c.line.new.self.frames.items c.pass_on.new.observer done)
      (sym (taken_more c.as_slice-lines.result.now c.loop-line.line-index c.line-item.result c.loop-line-test.true c.line-item.is))
      (one_more_cluster g.T.Observer.saw c.args.schedule.now.nodes c.args.schedule.now.initial c.args.schedule.now.voting_only c.args.schedule.now.second _ _ _ _ _ _ _ c.line.new.text _ c.line-item.result c.clear.ensures (c.loop-line.invariant.2 first) c.in-Ok-line.ensures.done c.in_ok-pass_on.ensures.observed),
)

pub returns-clause-observed : goal.returns-clause-observed
returns-clause-observed g c = λ first.
    whole_cluster_tallied g.T.Observer.saw c.args.schedule.now.nodes c.args.schedule.now.initial c.args.schedule.now.voting_only c.args.schedule.now.second _ _ _ c.as_slice-lines.result.now c.args.schedule.now.lines c.loop-line.line-index
    c.as_slice-lines.ensures (omega (arith, c.loop-line-test.false)) (c.loop-line.invariant.2 first)

pub returns-in_default-write_all-clause-written : goal.returns-in_default-write_all-clause-written
returns-in_default-write_all-clause-written g c =
    stops c.args.schedule.now.nodes c.args.schedule.now.initial c.args.schedule.now.voting_only c.args.schedule.now.second _ _ _ (g.S.Sink.written c.loop-line.out) _ c.loop-line.held c.as_bytes.result.now _ _ c.as_bytes.ensures c.loop-line.invariant.1 c.in_default-write_all.ensures.writes

pub returns-clause-written : goal.returns-clause-written
returns-clause-written g c =
    ends c.args.schedule.now.nodes c.args.schedule.now.initial c.args.schedule.now.voting_only c.args.schedule.now.second _ _ _ (g.S.Sink.written c.loop-line.out) _ c.loop-line.held c.as_bytes.result.now _ _ (none_left c.as_slice-lines.result.now c.loop-line.line-index (omega (arith, c.loop-line-test.false))) c.as_bytes.ensures c.loop-line.invariant.1 c.in-Ok-write_all.ensures.writes
