use Rattle.std.proofs.Common.{◌≡◌, map, length, Some, OnOk, sym, subst, ◌∙◌, rules}
use Rattle.std.proofs.lemmas.Result.{on_ok_weaker}
use Rattle.serde.specs.Event.{Logs, map_begins}
use Rattle.serde_json.specs.Events.{SendsMembers, SendsValue}
use Rattle.cluster_state.specs.Json.{setting_members, settings_json}
use Rattle.cluster_state.specs.Settings.{setting_of}
use Rattle.cluster_state.proofs.JsonLaws.{members_len-settings}
use Rattle.cluster_state.proofs.json.send_settings.Goals as goal

pub returns : goal.returns
returns g c =
    let first = g.S.Serializer.written c.begin_map.new.self in
    let end = g.S.Serializer.written c.end_map.new.self in
    let len : c.len.result ≡ length c.texts-texts.result.now.entries = search rules in
    let all : c.into_iter-key-iterator.result ≡ c.texts-texts.result.now.entries = search rules in
    let begun = subst (λ n. Logs (g.S.Serializer.written c.args.out.now) first (map_begins (Some n))) (len ∙ sym (members_len-settings c.texts-texts.result.now.entries)) c.in_ok-begin_map.ensures in
    let whole = on_ok_weaker c.end_map.result (λ e. (
      first,
      begun,
      subst (λ es. SendsMembers (setting_members (map setting_of es)) first end) all
          (c.loop-key.invariant end (subst (λ es. SendsMembers (setting_members (map setting_of es)) (g.S.Serializer.written c.loop-key.out) end) (sym c.in-None.ensures.steps.0) e)),
    )) c.end_map.ensures in
    subst (λ ss. OnOk c.end_map.result (SendsValue (settings_json ss) (g.S.Serializer.written c.args.out.now) end)) c.texts-texts.ensures.value whole
