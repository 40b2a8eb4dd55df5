use Rattle.std.proofs.Common.{◌≡◌, ◌++◌, drop}
use Rattle.event_text.specs.Published.{published_after}
use Rattle.event_text.specs.Deeds.{deeds_text, as_left}
use Rattle.event_text.proofs.deeds.write_struck_deeds.Given as goal

abbrev pub invariant-loop-deed : goal.invariant-loop-deed
invariant-loop-deed l = record {
  text : l.text ++ deeds_text l.node l.published (as_left l.crashed (drop l.deed-index l.deeds)) ≡ l.initial.text ++ deeds_text l.node l.initial.published (as_left l.crashed l.deeds);
  published : published_after l.published (drop l.deed-index l.deeds) ≡ published_after l.initial.published l.deeds;
}
