use Rattle.std.proofs.Common.{arith, ◌≤◌, ℕ, List, length, take, drop, subst}
use Rattle.std.proofs.lemmas.List.{take_rest, length-drop}
use Rattle.zen_link.specs.Streams.{Appended}
use Rattle.zen_link.proofs.Appending.{appended_on, appended_none, part_at}
use Rattle.zen_link.proofs.stream.write_all.Goals as goal

pub loop-at-init : goal.loop-at-init
loop-at-init g c = (omega arith, appended_none _, omega arith)

pub loop-at-preserved : goal.loop-at-preserved
loop-at-preserved g c =
    let rest = take_rest c.args.bytes.now c.loop-at.at in
    let count : c.in-Ok.count ≤ length (drop c.loop-at.at c.args.bytes.now) = subst (λ (l : List ℕ). c.in-Ok.count ≤ length l) rest c.in-Ok.ensures.writes.0 in
    let gained : Appended (g.S.Sink.written c.loop-at.out) (g.S.Sink.written c.write.new.self) (take c.in-Ok.count (drop c.loop-at.at c.args.bytes.now)) = subst (λ (l : List ℕ). Appended (g.S.Sink.written c.loop-at.out) (g.S.Sink.written c.write.new.self) (take c.in-Ok.count l)) rest c.in-Ok.ensures.writes.2 in
    (omega (arith, length-drop c.loop-at.at c.args.bytes.now, c.loop-at-test.true), appended_on _ _ _ c.args.bytes.now c.loop-at.at c.in-Ok.count c.loop-at.invariant.1 gained, omega (arith, c.loop-at.invariant.2, c.in-Ok.ensures.cause.later))

pub returns-in_default-clause-part : goal.returns-in_default-clause-part
returns-in_default-clause-part g c =
    part_at (g.S.Sink.written c.args.out.now) (g.S.Sink.written c.loop-at.out) (g.S.Sink.written c.write.new.self) c.args.bytes.now c.loop-at.at c.loop-at-test.true c.loop-at.invariant.1 c.in_default.ensures.writes

pub returns-in_default-clause-writes : goal.returns-in_default-clause-writes
returns-in_default-clause-writes g c = (returns-in_default-clause-part g c).prefix
