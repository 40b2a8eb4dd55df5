use Rattle.std.proofs.Common.{◌≡◌, []}
use Rattle.serde_json.specs.View.{members_view}
use Rattle.recorded_trace.specs.Json.{settings_after}
use Rattle.recorded_trace.proofs.json.settings_in.Given as goal

abbrev pub invariant-loop-key : goal.invariant-loop-key
invariant-loop-key l = settings_after l.settings (members_view l.key-iterator) ≡ settings_after [] (members_view l.initial.key-iterator)
