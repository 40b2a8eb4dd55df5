use Rattle.std.proofs.Common.{◌≡◌, ◌++◌, drop}
use Rattle.event_text.specs.Events.{drops_text}
use Rattle.event_text.proofs.events.write_drops.Given as goal

abbrev pub invariant-loop-dropped : goal.invariant-loop-dropped
invariant-loop-dropped l = l.text ++ drops_text l.node (drop l.dropped-index l.drops) ≡ l.initial.text ++ drops_text l.node l.drops
