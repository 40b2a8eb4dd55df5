use Rattle.std.proofs.Common.{◌-◌, ◌++◌, ◌∙◌, ℕ, ap, arith, refl}
use Rattle.std.proofs.lemmas.Result.{on_ok_weaker}
use Rattle.trace_text.specs.Trace.{act_text}
use Rattle.replay_node.specs.Did.{did_text}
use Rattle.replay_node.specs.Sent.{message_of, taking}
use Rattle.schedule_replay.proofs.Lines.{act_done, delivered, delivered_source, takes_message}
use Rattle.schedule_replay.proofs.Movement.{here, place_few, place_inside}
use Rattle.schedule_replay.proofs.Room.{has_room}
use Rattle.schedule_replay.proofs.replayer.Replayer.hand.Goals as goal

pub bounds-nodes-place : goal.bounds-nodes-place
bounds-nodes-place c = place_inside _ _ _ _ _ _ _ _ (record { is = c.as_slice.ensures.value; found = c.place_of-place.ensures; lent_is = c.as_mut_slice-nodes.ensures.value; long = c.as_mut_slice-nodes.ensures.len; stands = c.requires.stands })

pub offset_bounds-nodes-place : goal.offset_bounds-nodes-place
offset_bounds-nodes-place c = omega (arith, place_few _ _ _ _ _ _ _ _ (record { is = c.as_slice.ensures.value; found = c.place_of-place.ensures; lent_is = c.as_mut_slice-nodes.ensures.value; long = c.as_mut_slice-nodes.ensures.len; stands = c.requires.stands }))

pub deliver-requires : goal.deliver-requires
deliver-requires c =
    let s = c.requires.stands in
    let sent = c.in_ok-message.ensures in
    has_room c.args.ids.now _ _ _ (here _ _ _ _ _ _ _ _ (record { is = c.as_slice.ensures.value; found = c.place_of-place.ensures; lent_is = c.as_mut_slice-nodes.ensures.value; long = c.as_mut_slice-nodes.ensures.len; stands = c.requires.stands }) c.index-nodes-place.result s.0 s.1.nodes_stand).1
    (s.1.taken c.args.n.now) (delivered_source _ _ _ s.0 (c.args.ordinal - 1) (message_of c.in_ok-message.message) s.1 sent) s.1.few s.1.ascending

pub returns : goal.returns
returns c =
    let s = c.requires.stands in
    let sent = c.in_ok-message.ensures in
    let written = c.in_ok-write_delivery.ensures ∙ ap (λ (count : ℕ). c.args.text.now ++ did_text count c.args.n.now (act_text (taking (message_of c.in_ok-message.message))) c.in_ok-did.did) c.len.ensures.value in
    record {
      done = on_ok_weaker c.keep.result (delivered _ _ _ _ _ _ _ c.args.n.now c.args.ordinal (message_of c.in_ok-message.message) sent)
          (act_done _ _ _ _ _ _ _ _ (record { is = c.as_slice.ensures.value; found = c.place_of-place.ensures; lent_is = c.as_mut_slice-nodes.ensures.value; long = c.as_mut_slice-nodes.ensures.len; stands = c.requires.stands }) c.index-nodes-place.result c.deliver.new.self c.keep.result _ _ _ _ _ _ _ _ c.in_ok-did.did c.in_ok-did.ensures refl
          refl c.keep.ensures c.requires.listed (takes_message _ _ _ (delivered_source _ _ _ s.0 (c.args.ordinal - 1) (message_of c.in_ok-message.message) s.1 sent))
          refl refl (on_ok_weaker c.keep.result (λ kept. written) c.keep.ensures));
    }
