use Rattle.schedule_replay.proofs.ClusterLines.{writes_line}
use Rattle.schedule_replay.proofs.cluster.replayer.ClusterReplayer.line.Goals as goal

pub returns-in-Fuse : goal.returns-in-Fuse
returns-in-Fuse c = record { done = writes_line c.args.schedule.now.nodes c.args.schedule.now.initial c.args.schedule.now.voting_only c.args.schedule.now.second _ _ _ _ _ _ _ c.args.line.now _ c.in-Fuse.is (c.arm.ensures.done _) c.in_ok-write_echo.ensures }

pub returns-in-Fail : goal.returns-in-Fail
returns-in-Fail c = record { done = writes_line c.args.schedule.now.nodes c.args.schedule.now.initial c.args.schedule.now.voting_only c.args.schedule.now.second _ _ _ _ _ _ _ c.args.line.now _ c.in-Fail.is (c.arm-in-Fail.ensures.done _) c.in_ok-write_echo.ensures }
