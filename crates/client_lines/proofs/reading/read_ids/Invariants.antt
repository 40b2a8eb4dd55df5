use Rattle.std.proofs.Common.{◌≡◌, drop}
use Rattle.serde_json.specs.View.{items_view}
use Rattle.client_lines.specs.Requests.{node_set_of}
use Rattle.client_lines.proofs.Exclusions.{ids_from}
use Rattle.client_lines.proofs.reading.read_ids.Given as goal

abbrev pub invariant-loop-value : goal.invariant-loop-value
invariant-loop-value l = ids_from (items_view (drop l.value-index l.values)) l.ids ≡ node_set_of (items_view l.values)
