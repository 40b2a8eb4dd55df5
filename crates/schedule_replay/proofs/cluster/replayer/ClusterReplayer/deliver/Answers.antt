use Rattle.std.proofs.Common.{◌≡◌, ◌-◌, ◌∙◌, Bool, List, None, Some, true, false, not, ap, refl, slice_get, subst, sym}
use Rattle.std.proofs.lemmas.Bool.{not-false}
use Rattle.std.proofs.lemmas.Result.{on_ok_weaker}
use Rattle.std.proofs.lemmas.Option.{slice_get_past}
use Rattle.wire_frames.specs.declared.frame.Frame.{Frame}
use Rattle.voting_config.specs.Ids.{same}
use Rattle.replay_node.specs.Clusters.{Cluster, own_world, settings_of}
use Rattle.replay_node.specs.NodeWorld.{needs_opening}
use Rattle.schedule_replay.specs.ClusterStands.{AllFor}
use Rattle.schedule_replay.proofs.ClusterLines.{handed_over, misrouted, unsent_up}
use Rattle.schedule_replay.proofs.Lines.{lent_at}
use Rattle.schedule_replay.proofs.cluster.replayer.ClusterReplayer.deliver.Goals as goal

pub returns-then-runs : goal.returns-then-runs
returns-then-runs c =
    let ids = c.args.schedule.now.nodes in
    let initial = c.args.schedule.now.initial in
    let voting_only = c.args.schedule.now.voting_only in
    let second = c.args.schedule.now.second in
    let old = c.args.self.now in
    let up : (d : Cluster) → AllFor ids initial voting_only second ids old.nodes.items d → true ≡ not (needs_opening (own_world (settings_of ids initial voting_only second c.args.n) d)) = λ d s. sym c.if-runs.true ∙ c.runs-runs.ensures d s in
    let none : slice_get old.frames.items (c.args.ordinal - 1) ≡ None = subst (λ (x : List Frame). slice_get x (c.args.ordinal - 1) ≡ None) c.as_slice.ensures.value (slice_get_past c.as_slice.result.now (c.args.ordinal - 1) c.in-None.ensures.lookup.3) in
    record { done = on_ok_weaker c.word.result (unsent_up ids initial voting_only second c.args.n old.nodes.items old.frames.items c.args.ordinal c.args.text.now c.word.new.self none up) c.word.ensures }

pub returns-then-ne : goal.returns-then-ne
returns-then-ne c =
    let ids = c.args.schedule.now.nodes in
    let initial = c.args.schedule.now.initial in
    let voting_only = c.args.schedule.now.voting_only in
    let second = c.args.schedule.now.second in
    let old = c.args.self.now in
    let up : (d : Cluster) → AllFor ids initial voting_only second ids old.nodes.items d → true ≡ not (needs_opening (own_world (settings_of ids initial voting_only second c.args.n) d)) = λ d s. sym c.if-not-runs.false ∙ c.runs-runs.ensures d s in
    let at = lent_at old.frames.items c.as_slice.result.now (c.args.ordinal - 1) c.in-Some.frame.now c.as_slice.ensures.value c.in-Some.ensures.lookup.3.0 c.in-Some.ensures.lookup.1 in
    let other : same c.in-Some.frame.now.to c.args.n ≡ false = not_true _ c.if-ne.ensures in
    record { done = on_ok_weaker c.word-then-ne.result (misrouted ids initial voting_only second c.args.n old.nodes.items old.frames.items c.args.ordinal c.in-Some.frame.now c.args.text.now c.word-then-ne.new.self at up other) c.word-then-ne.ensures }
  where
    not_true : (b : Bool) → true ≡ not b → b ≡ false
    not_true true e = absurd (cc)
    not_true false e = refl

pub returns-in_ok-frame-in-Some : goal.returns-in_ok-frame-in-Some
returns-in_ok-frame-in-Some c =
    let ids = c.args.schedule.now.nodes in
    let initial = c.args.schedule.now.initial in
    let voting_only = c.args.schedule.now.voting_only in
    let second = c.args.schedule.now.second in
    let old = c.args.self.now in
    let up : (d : Cluster) → AllFor ids initial voting_only second ids old.nodes.items d → true ≡ not (needs_opening (own_world (settings_of ids initial voting_only second c.args.n) d)) = λ d s. sym c.if-not-runs.false ∙ c.runs-runs.ensures d s in
    let at = lent_at old.frames.items c.as_slice.result.now (c.args.ordinal - 1) c.in-Some.frame.now c.as_slice.ensures.value c.in-Some.ensures.lookup.3.0 c.in-Some.ensures.lookup.1 in
    let copied : c.in_ok-frame-in-Some.frame ≡ c.in-Some.frame.now = c.in_ok-frame-in-Some.ensures in
    let to : same c.in-Some.frame.now.to c.args.n ≡ true = not-false _ (sym c.if-ne.ensures) in
    let mine : same c.in_ok-frame-in-Some.frame.to c.args.n ≡ true = ap (λ (f : Frame). same f.to c.args.n) copied ∙ to in
    record {
      done = on_ok_weaker c.event.result (handed_over ids initial voting_only second c.args.n old.nodes.items old.frames.items c.args.ordinal c.in_ok-frame-in-Some.frame c.event.new.self.nodes.items c.event.new.self.frames.items c.args.text.now c.event.new.text
          (at ∙ ap (λ (f : Frame). Some f) (sym copied)) up mine) c.event.ensures.done;
    }
