use Rattle.std.proofs.Common.{map}
use Rattle.serde.specs.Event.{Log}
use Rattle.serde_json.specs.Events.{SendsMembers}
use Rattle.cluster_state.specs.Json.{setting_members}
use Rattle.cluster_state.specs.Settings.{setting_of}
use Rattle.cluster_state.proofs.json.send_settings.Given as goal

-- whatever ends it well from here ends it well from the start
abbrev pub invariant-loop-key : goal.invariant-loop-key
invariant-loop-key g l =
    (end : Log) → SendsMembers (setting_members (map setting_of l.key-iterator)) (g.S.Serializer.written l.out) end → SendsMembers (setting_members (map setting_of l.initial.key-iterator)) (g.S.Serializer.written l.initial.out) end
