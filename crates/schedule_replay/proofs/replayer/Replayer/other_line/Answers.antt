use Rattle.std.proofs.Common.{refl}
use Rattle.schedule_replay.proofs.Lines.{does_nothing, this_line}
use Rattle.schedule_replay.proofs.replayer.Replayer.other_line.Goals as goal

pub returns-in_ok-start_join-in-StartJoin : goal.returns-in_ok-start_join-in-StartJoin
returns-in_ok-start_join-in-StartJoin c = record { done = this_line c.args.schedule.now.nodes c.args.schedule.now.initial _ _ _ _ _ _ c.args.line.now _ c.in-StartJoin.is (rw c.get.ensures at c.in_ok-start_join-in-StartJoin.ensures.done) }

pub returns-in_ok-client_value-in-Value : goal.returns-in_ok-client_value-in-Value
returns-in_ok-client_value-in-Value c = record { done = this_line c.args.schedule.now.nodes c.args.schedule.now.initial _ _ _ _ _ _ c.args.line.now _ c.in-Value.is (rw (c.get-in-Value.ensures, c.lend.ensures) at c.in_ok-client_value-in-Value.ensures.done) }

pub returns-in-Fuse : goal.returns-in-Fuse
returns-in-Fuse c = record { done = this_line c.args.schedule.now.nodes c.args.schedule.now.initial _ _ _ _ _ _ c.args.line.now _ c.in-Fuse.is (c.arm.ensures.done _) }

pub returns-in-Fail : goal.returns-in-Fail
returns-in-Fail c = record { done = this_line c.args.schedule.now.nodes c.args.schedule.now.initial _ _ _ _ _ _ c.args.line.now _ c.in-Fail.is (c.arm-in-Fail.ensures.done _) }

pub returns-in-Tick : goal.returns-in-Tick
returns-in-Tick c = record { done = does_nothing c.args.schedule.now.nodes c.args.schedule.now.initial _ _ _ c.args.line.now _ c.in-Tick.is (λ w. refl) (λ w. refl) }

pub returns-in-Client : goal.returns-in-Client
returns-in-Client c = record { done = does_nothing c.args.schedule.now.nodes c.args.schedule.now.initial _ _ _ c.args.line.now _ c.in-Client.is (λ w. refl) (λ w. refl) }
