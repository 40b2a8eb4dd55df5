use Rattle.std.proofs.Common.{◌≡◌, [], drop}
use Rattle.serde_json.specs.View.{items_view}
use Rattle.recorded_trace.specs.Json.{ids_after}
use Rattle.recorded_trace.proofs.json.read_ids.Given as goal

abbrev pub invariant-loop-value : goal.invariant-loop-value
invariant-loop-value l = ids_after l.ids (items_view (drop l.value-index l.values)) ≡ ids_after [] (items_view l.values)
