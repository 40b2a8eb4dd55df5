use Rattle.std.proofs.Common.{map, drop}
use Rattle.serde.specs.Event.{Log}
use Rattle.serde_json.specs.Data.{string}
use Rattle.serde_json.specs.View.{items_of}
use Rattle.serde_json.specs.Events.{SendsItems}
use Rattle.cluster_state.proofs.json.send_ids.Given as goal

-- whatever ends it well from here ends it well from the start
abbrev pub invariant-loop-id : goal.invariant-loop-id
invariant-loop-id g l =
    (end : Log) → SendsItems (items_of (map string (drop l.id-index l.listed))) (g.S.Serializer.written l.out) end → SendsItems (items_of (map string l.listed)) (g.S.Serializer.written l.initial.out) end
