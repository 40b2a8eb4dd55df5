use Rattle.std.proofs.Common.{◌≡◌, List, map, ap, ◌∙◌}
use Rattle.voting_config.specs.Ids.{Id}
use Rattle.cluster_state.specs.declared.messages.PublishRequest.{PublishRequest}
use Rattle.cluster_state.specs.declared.state.ClusterState.{ClusterState}
use Rattle.cluster_state.specs.declared.state.ClusterValue.{ClusterValue}
use Rattle.wire_frames.specs.declared.frame.Frame.{Frame}
use Rattle.wire_frames.specs.declared.frame.WireMessage.TheVariants as message
use Rattle.coordinator.specs.Plans.{frame_to}
use Rattle.coordinator.proofs.plan.new_state.Goals as goal

pub returns : goal.returns
returns c =
    let me = c.args.me in
    let frames_of : ClusterState → List Id → List Frame = λ s members. map (λ (to : Id). frame_to me (message.Publish s) to) members in
    let value : c.of-value.result ≡ c.args.state.value = c.of-value.ensures ∙ ap (λ (s : ClusterState). s.value) (c.in_ok-share-2.ensures ∙ c.in_ok-state.ensures) in
    let members = c.as_slice.ensures.value ∙ ap (λ (v : ClusterValue). v.members) (c.deref.ensures ∙ value) in
    record {
      request = ap (λ (s : ClusterState). let r : PublishRequest = record { source = me; state = s } in r) c.in_ok-state.ensures;
      config = c.of-config.ensures ∙ ap (λ (s : ClusterState). s.config) (c.in_ok-share.ensures ∙ c.in_ok-state.ensures);
      value = value;
      frames = c.in_ok-frames.ensures ∙ ap (λ (s : ClusterState). frames_of s c.as_slice.result.now) c.in_ok-state.ensures ∙ ap (λ (l : List Id). frames_of c.args.state l) members;
    }
