use Rattle.std.proofs.Common.{map}
use Rattle.std.specs.List.{AllByRecursion}
use Rattle.cluster_state.specs.Fields.{IsFitSetting}
use Rattle.cluster_state.specs.Settings.{setting_of}
use Rattle.cluster_state.proofs.limits.are_fit_texts.Given as goal

-- all are fit exactly where those that are left are
abbrev pub invariant-loop-key : goal.invariant-loop-key
invariant-loop-key l =
    (AllByRecursion IsFitSetting (map setting_of l.key-iterator) → AllByRecursion IsFitSetting (map setting_of l.texts.entries))
    × (AllByRecursion IsFitSetting (map setting_of l.texts.entries) → AllByRecursion IsFitSetting (map setting_of l.key-iterator))
