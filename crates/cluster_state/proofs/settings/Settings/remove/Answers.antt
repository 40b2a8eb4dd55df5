use Rattle.std.proofs.Common.{◌≡◌, ◌∙◌, ap, subst, sym, refl, map, List, []}
use Rattle.cluster_state.specs.Settings.{Setting, setting_of, without_key, IsSettings}
use Rattle.cluster_state.proofs.JsonLaws.{ascending_keys}
use Rattle.cluster_state.proofs.Removing.{map-remove_entry, IsSettings-without}
use Rattle.cluster_state.proofs.settings.Settings.remove.Goals as goal

removed : (c : goal.After-drop) → map setting_of c.remove.new.self.entries ≡ without_key c.args.key.now (map setting_of c.self.inside.texts.entries)
removed c =
    ap (map setting_of) c.remove.ensures.entries
    ∙ map-remove_entry c.args.key.now c.self.inside.texts.entries (ascending_keys [] (map setting_of c.self.inside.texts.entries) refl c.self.invariant.ascending)

pub invariant_of-self : goal.invariant_of-self
invariant_of-self c =
    let P : List Setting → Type 0 = IsSettings in
    subst P (sym (removed c)) (IsSettings-without c.args.key.now (map setting_of c.self.inside.texts.entries) c.self.invariant)

pub returns : goal.returns
returns c = removed c ∙ ap (without_key c.args.key.now) c.self.view_is
