use Rattle.serde_json.proofs.FreeTexts.{text_of_value}
use Rattle.cluster_state.specs.Json.{value_json}
use Rattle.cluster_state.proofs.JsonLaws.{no_float_value}
use Rattle.cluster_state.proofs.json.value_to_json.Goals as goal

pub returns-in-Ok : goal.returns-in-Ok
returns-in-Ok c =
    let sent = c.in-Ok.ensures.events in
    text_of_value (value_json c.args.value.now) sent.0 c.in-Ok.text.items sent.1 sent.2 (no_float_value c.args.value.now)
