use Rattle.serde_json.specs.View.{items_view}
use Rattle.client_lines.proofs.Exclusions.{ids_from-start}
use Rattle.client_lines.proofs.reading.read_ids.Goals as goal

pub loop-value-init : goal.loop-value-init
loop-value-init c = rw c.new-ids.ensures (ids_from-start (items_view c.args.values.now))
