use Rattle.std.proofs.Common.{◌≡◌, [], map, drop, Some, OnOk, sym, subst, arith}
use Rattle.std.proofs.lemmas.List.{drop_all}
use Rattle.std.proofs.lemmas.Result.{on_ok_weaker}
use Rattle.serde.specs.Event.{Logs, seq_begins}
use Rattle.serde_json.specs.Data.{string}
use Rattle.serde_json.specs.View.{items_of}
use Rattle.serde_json.specs.Events.{SendsItems, SendsValue}
use Rattle.cluster_state.specs.Json.{ids_json}
use Rattle.cluster_state.proofs.JsonLaws.{items_len-texts}
use Rattle.cluster_state.proofs.json.send_ids.Goals as goal

pub returns : goal.returns
returns g c =
    let xs = c.as_slice-listed.result.now in
    let first = g.S.Serializer.written c.begin_seq.new.self in
    let end = g.S.Serializer.written c.end_seq.new.self in
    let begun = subst (λ n. Logs (g.S.Serializer.written c.args.out.now) first (seq_begins (Some n))) (sym (items_len-texts xs)) c.in_ok-begin_seq.ensures in
    let none : drop c.loop-id.id-index xs ≡ [] = drop_all c.loop-id.id-index xs (omega arith) in
    let whole = on_ok_weaker c.end_seq.result (λ e. (
      first,
      begun,
      c.loop-id.invariant end (subst (λ ys. SendsItems (items_of (map string ys)) (g.S.Serializer.written c.loop-id.out) end) (sym none) e),
    )) c.end_seq.ensures in
    subst (λ ys. OnOk c.end_seq.result (SendsValue (ids_json ys) (g.S.Serializer.written c.args.out.now) end)) c.as_slice-listed.ensures.value whole
