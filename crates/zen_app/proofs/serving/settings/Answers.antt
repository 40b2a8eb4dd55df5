use Rattle.std.proofs.Common.{◌∙◌, ap, map}
use Rattle.zen_app.proofs.NodeSettings.{settings_are}
use Rattle.zen_app.proofs.serving.settings.Goals as goal

pub returns : goal.returns
returns c = settings_are c.args.words.now c.settings-link.result.now c.of.result c.copy.result c.copy-2.result c.settings-link.ensures (c.of.ensures ∙ c.in_ok-ids.ensures ∙ ap (λ ps. map (λ p. p.id) ps) c.deref.ensures.value) c.copy.ensures c.copy-2.ensures
