use Rattle.trace_summary.specs.Summaries.{summary_of}
use Rattle.trace_summary.proofs.summary.Tally.finish.Goals as goal

pub returns : goal.returns
unfolding summary_of
returns c text t = λ i. record { counts = t.counts_are i; trace_bytes = t.bytes_are i; digest = c.finalize.ensures text t.hashed i }
