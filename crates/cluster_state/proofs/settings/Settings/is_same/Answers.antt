use Rattle.std.proofs.Common.{◌∙◌, sym}
use Rattle.std.specs.Cmp.Derive.Mapped.{pointwise-map}
use Rattle.cluster_state.specs.Settings.{setting_of, same_setting}
use Rattle.cluster_state.proofs.settings.Settings.is_same.Goals as goal

pub returns : goal.returns
returns c =
    rw (← c.self.view_is, ← c.other.view_is) (c.eq.ensures ∙ sym (pointwise-map setting_of same_setting c.self.inside.texts.entries c.other.inside.texts.entries))
