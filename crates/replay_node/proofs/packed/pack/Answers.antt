use Rattle.std.proofs.Common.{◌≡◌, ◌∙◌, ap, sym}
use Rattle.std.proofs.lemmas.Result.{IfOk-weaker}
use Rattle.voting_config.specs.Ids.{Id}
use Rattle.cluster_state.specs.declared.messages.PublishRequest.{PublishRequest}
use Rattle.world_model.specs.declared.acts.Message.TheVariants.{Commit as CommitMessage, Publish as PublishMessage}
use Rattle.replay_node.specs.Sent.{message_of}
use Rattle.replay_node.proofs.Packing.{has_place}
use Rattle.replay_node.proofs.packed.pack.Goals as goal

pub returns-in-Ok-admit-clause-packed : goal.returns-in-Ok-admit-clause-packed
returns-in-Ok-admit-clause-packed c =
    let source : c.source.result.now ≡ c.in-Publish.request.value.source = c.source.ensures ∙ ap (λ (r : PublishRequest). r.source) c.deref.ensures in
    let state : c.state.result.now ≡ c.in-Publish.request.value.state = c.state.ensures.state ∙ ap (λ (r : PublishRequest). r.state) c.deref-in-Ok-admit.ensures in
    let is = (λ i. PublishMessage (record { source = source i; state = state i })) ∙ ap message_of (sym c.in-Publish.is) in
    let place = has_place c.admit.new.self c.source.result.now c.in-Ok-admit.source c.in-Ok-admit.ensures.place in
    IfOk-weaker c.pack_publish.result _ _ (λ p packs. let all = packs c.admit.new.self c.source.result.now place in (all.0, all.1 ∙ is)) c.pack_publish.ensures

pub returns-in-Ok-admit-2-clause-packed : goal.returns-in-Ok-admit-2-clause-packed
returns-in-Ok-admit-2-clause-packed c =
    let commit = c.in-Commit.commit in
    let place = has_place c.admit-in-Commit.new.self commit.source c.in-Ok-admit-2.source c.in-Ok-admit-2.ensures.place in
    (place.within, ap (λ (id : Id). CommitMessage (record { source = id; term = commit.term; version = commit.version })) place.is ∙ ap message_of (sym c.in-Commit.is))
