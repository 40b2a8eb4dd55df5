use Rattle.std.proofs.Common.{◌≡◌, ◌∙◌, ◌<◌, Some, List, ap, arith, length, slice_get, sym}
use Rattle.std.proofs.lemmas.List.{length-map}
use Rattle.std.proofs.lemmas.Result.{IfOk-weaker}
use Rattle.world_model.specs.declared.acts.Message.{Message}
use Rattle.replay_node.specs.Packed.{unpacked}
use Rattle.replay_node.proofs.Packing.{found_at}
use Rattle.replay_node.proofs.sent_messages.SentMessages.get.Goals as goal

pub returns-in-Some : goal.returns-in-Some
returns-in-Some c =
    let at = ap (λ (ms : List Message). slice_get ms c.args.place) (sym c.self.view_is) ∙ c.self.invariant.1 _ c.in-Some.ensures in
    IfOk-weaker c.share.result _ _ (λ m is. at ∙ ap (λ (x : Message). Some x) (sym is)) c.share.ensures

pub returns-in-None : goal.returns-in-None
returns-in-None c =
    let ps = c.self.inside.packed.items in
    let many : length c.args.self.now ≡ length ps = ap (λ (ms : List Message). length ms) (sym c.self.view_is) ∙ length-map ps (unpacked c.self.inside.roster) in
    let within : c.args.place < length ps = omega (arith, many, c.requires) in
    let found = found_at c.self.inside.roster c.as_slice.result.now ps c.as_slice-in-None.result.now c.args.place c.index-as_slice-place.result c.as_slice.ensures.value c.as_slice-in-None.ensures.value within c.index-as_slice-place.is c.self.invariant.0 in
    let at = ap (λ (ms : List Message). slice_get ms c.args.place) (sym c.self.view_is) ∙ found.is in
    IfOk-weaker c.unpack.result _ _ (λ m is. at ∙ ap (λ (x : Message). Some x) (sym is)) c.unpack.ensures
