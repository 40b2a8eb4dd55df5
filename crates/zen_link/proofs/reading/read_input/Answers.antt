use Rattle.std.proofs.Common.{arith}
use Rattle.zen_link.proofs.Inputs.{more_read, read_to_end, read_enough}
use Rattle.zen_link.proofs.reading.read_input.Goals as goal

pub returns-then-count-eq0-clause-read : goal.returns-then-count-eq0-clause-read
returns-then-count-eq0-clause-read g c =
    read_to_end _ _ (g.S.Source.left c.loop-chunk.input) _ c.loop-chunk.bytes.items c.read_chunk.new.bytes.items _ c.loop-chunk.invariant.0 c.in_ok-count.ensures.read (cc) (omega (arith, c.loop-chunk-test.true, c.len.ensures, c.loop-chunk.bytes.ok))

pub loop-chunk-preserved : goal.loop-chunk-preserved
loop-chunk-preserved g c = (
  more_read _ (g.S.Source.left c.loop-chunk.input) _ c.loop-chunk.bytes.items _ _ c.loop-chunk.invariant.0 c.in_ok-count.ensures.read,
  omega (arith, c.in_ok-count.ensures.read.longer, c.in_ok-count.ensures.within, c.min-wanted.ensures, c.len-in-loop-chunk.ensures, c.loop-chunk-test.true, c.len.ensures),
  omega (arith, c.loop-chunk.invariant.2, c.read_chunk.ensures.later),
)

pub returns-clause-read : goal.returns-clause-read
returns-clause-read g c = read_enough _ _ _ c.loop-chunk.bytes.items c.loop-chunk.invariant.0 (omega (arith, c.loop-chunk-test.false, c.loop-chunk.invariant.1, c.len.ensures))
