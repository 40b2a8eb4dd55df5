use Rattle.std.proofs.Common.{◌≡◌, ◌++◌, map}
use Rattle.std.specs.List.{flat_map}
use Rattle.cluster_state.specs.Settings.{setting_of}
use Rattle.trace_audit.specs.Contents.{setting_bytes}
use Rattle.trace_audit.proofs.contents.write_entries.Given as goal

abbrev pub invariant-loop-key : goal.invariant-loop-key
invariant-loop-key l = l.out.items ++ flat_map setting_bytes (map setting_of l.key-iterator) ≡ l.fn.out.items ++ flat_map setting_bytes (map setting_of l.entries.entries)
