use Rattle.std.proofs.Common.{◌≡◌, ◌≤◌, length, sym, ap, subst, ◌∙◌}
use Rattle.cluster_state.specs.declared.state.ClusterState.{ClusterState}
use Rattle.cluster_state.specs.declared.state.Kept.{Kept}
use Rattle.cluster_state.specs.Settings.{IsSettings}
use Rattle.policy_model.specs.Fitting.{IsFitView}
use Rattle.policy_model.specs.Views.{View}
use Rattle.policy_model.proofs.Fits.{opened_fit}
use Rattle.policy_model.proofs.Frames.{opened_small}
use Rattle.policy_model.specs.Bounds.{IsSmallView}
use Rattle.voting_config.specs.Ids.{most_ids}
use Rattle.world_model.specs.NodeState.{NodeState}
use Rattle.peer_finder.specs.Peers.{PeerFinder}
use Rattle.fault_checks.specs.Followers.{Followers}
use Rattle.master_tasks.specs.Queue.{Tasks}
use Rattle.policy_model.specs.Moves.{opened}
use Rattle.policy_model.proofs.Standing.{opening_moves}
use Rattle.coordinator.proofs.coordinator.Coordinator.open.Goals as goal

pub returns-clause-view : goal.returns-clause-view
returns-clause-view g c =
    ap (λ (n : NodeState). record (opened c.args.settings (g.K.Keeper.record_of c.args.keeper)) { node = n; finder = c.new-2.result; followers = c.new-3.result; tasks = c.new-4.result }) c.new.ensures.stands
    ∙ ap (λ (f : PeerFinder). record (opened c.args.settings (g.K.Keeper.record_of c.args.keeper)) { finder = f; followers = c.new-3.result; tasks = c.new-4.result }) c.new-2.ensures
    ∙ ap (λ (f : Followers). record (opened c.args.settings (g.K.Keeper.record_of c.args.keeper)) { followers = f; tasks = c.new-4.result }) c.new-3.ensures
    ∙ ap (λ (t : Tasks). record (opened c.args.settings (g.K.Keeper.record_of c.args.keeper)) { tasks = t }) c.new-4.ensures

pub returns-clause-stands : goal.returns-clause-stands
returns-clause-stands g c = λ life continues.
    ap (λ (n : NodeState). record (opened c.args.settings (g.K.Keeper.record_of c.args.keeper)) { node = n; finder = c.new-2.result; followers = c.new-3.result; tasks = c.new-4.result }) c.new.ensures.stands
    ∙ ap (λ (f : PeerFinder). record (opened c.args.settings (g.K.Keeper.record_of c.args.keeper)) { finder = f; followers = c.new-3.result; tasks = c.new-4.result }) c.new-2.ensures
    ∙ ap (λ (f : Followers). record (opened c.args.settings (g.K.Keeper.record_of c.args.keeper)) { followers = f; tasks = c.new-4.result }) c.new-3.ensures
    ∙ ap (λ (t : Tasks). record (opened c.args.settings (g.K.Keeper.record_of c.args.keeper)) { tasks = t }) c.new-4.ensures
    ∙ sym (opening_moves c.args.settings life (g.K.Keeper.record_of c.args.keeper) continues)

pub returns-clause-fit : goal.returns-clause-fit
returns-clause-fit g c =
    let accepted : c.deref.result.now ≡ (g.K.Keeper.record_of c.args.keeper).accepted = c.deref.ensures ∙ ap (λ (r : Kept). r.accepted) c.kept.ensures.kept in
    let settings = subst (λ (s : ClusterState). IsSettings s.value.settings) accepted c.texts.ensures.settings in
    subst (λ (v : View). IsFitView v) (sym (returns-clause-view g c))
    (opened_fit c.args.settings (g.K.Keeper.record_of c.args.keeper) (record { term = c.kept.ensures.bounded; accepted = c.kept.ensures.fit; older = c.kept.ensures.older; settings = settings }))

pub returns-clause-small : goal.returns-clause-small
returns-clause-small g c =
    let accepted : c.deref.result.now ≡ (g.K.Keeper.record_of c.args.keeper).accepted = c.deref.ensures ∙ ap (λ (r : Kept). r.accepted) c.kept.ensures.kept in
    subst (λ (v : View). IsSmallView v) (sym (returns-clause-view g c))
    (opened_small c.args.settings (g.K.Keeper.record_of c.args.keeper) (subst (λ (s : ClusterState). length s.value.members ≤ most_ids) accepted c.len.ensures.fits))
