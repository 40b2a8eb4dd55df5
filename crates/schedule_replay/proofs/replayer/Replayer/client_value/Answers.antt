use Rattle.std.proofs.Common.{◌≡◌, ◌++◌, ap, sym, ◌∙◌}
use Rattle.std.specs.declared.vec.Vec.{Vec}
use Rattle.std.specs.declared.alloc.Global.{Global}
use Rattle.cluster_state.specs.Initial.{empty_value}
use Rattle.cluster_state.specs.declared.state.ClusterValue.{ClusterValue}
use Rattle.world_model.specs.declared.acts.Act.TheVariants.{Value}
use Rattle.trace_text.specs.Trace.{act_text}
use Rattle.replay_node.specs.declared.node.ReplayNode.{ReplayNode}
use Rattle.schedule_replay.specs.Replayed.{value_with}
use Rattle.schedule_replay.proofs.Lines.{act_done}
use Rattle.schedule_replay.proofs.Movement.{place_inside}
use Rattle.schedule_replay.proofs.replayer.Replayer.client_value.Goals as goal

pub bounds-nodes-place : goal.bounds-nodes-place
bounds-nodes-place c = place_inside _ _ _ _ _ _ _ _ (record { is = c.as_slice.ensures.value; found = c.place_of-place.ensures; lent_is = c.as_mut_slice-nodes.ensures.value; long = c.as_mut_slice-nodes.ensures.len; stands = c.requires.stands })

pub returns : goal.returns
returns c =
    let plain = λ (v : ClusterValue). record empty_value { settings = v.settings } in
    let act_with = λ (v : ClusterValue). Value c.args.version c.args.config.now v in
    let value : c.in_ok-value.value ≡ value_with c.args.setting = c.in_ok-value.ensures in
    let alone : c.in_ok-value.value ≡ plain c.in_ok-value.value = value ∙ sym (ap plain value) in
    let act : act_with (plain c.in_ok-value.value) ≡ act_with (value_with c.args.setting) = ap (λ (v : ClusterValue). act_with (plain v)) value in
    let written : c.write_value.new.text ≡ c.clear.new.self ++ act_text (act_with (plain c.in_ok-value.value)) =
    c.in_ok-write_value.ensures ∙ ap (λ (v : ClusterValue). c.clear.new.self ++ act_text (act_with v)) alone
    in
    record {
      done = act_done _ _ _ _ _ _ _ _ (record { is = c.as_slice.ensures.value; found = c.place_of-place.ensures; lent_is = c.as_mut_slice-nodes.ensures.value; long = c.as_mut_slice-nodes.ensures.len; stands = c.requires.stands }) c.index-nodes-place.result c.client_value.new.self c.finish.result _ _ _ _ _ _ _ _ c.in_ok-did.did c.in_ok-did.ensures act
          (ap (λ (v : Vec ReplayNode Global). v.items) c.finish.ensures.nodes) c.finish.ensures.sent c.requires.listed tt c.clear.ensures written c.finish.ensures.written;
    }
