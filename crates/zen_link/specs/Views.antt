-- Part of the statement: what a source and a sink tell, as one value each.
use Rattle.std.specs.Prelude.{ℕ, Option, List}
use Rattle.zen_link.specs.declared.stream.Source.{Ghosts as Sources}
use Rattle.zen_link.specs.declared.stream.Sink.{Ghosts as Sinks}

-- what a source tells: the bytes left, where it tells them, and how many faults there were
pub record SourceView : Type 0 where
  pub left : Option (List ℕ)
  pub faults : ℕ

abbrev pub source_view : {S : Type 0} → Sources S → S → SourceView
source_view s source = record { left = s.left source; faults = s.faults source }

-- what a sink tells: the bytes written, where it tells them, and how many faults there were
pub record SinkView : Type 0 where
  pub written : Option (List ℕ)
  pub faults : ℕ

abbrev pub sink_view : {S : Type 0} → Sinks S → S → SinkView
sink_view s sink = record { written = s.written sink; faults = s.faults sink }
