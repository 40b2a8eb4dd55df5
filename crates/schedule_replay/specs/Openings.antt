-- For the contracts inside: what an opening of a node's journal makes of the node.
use Rattle.std.specs.Prelude.{◌≡◌, Bool, false, true, ℕ, List, length}
use Rattle.cluster_state.specs.Initial.{empty_record}
use Rattle.wire_frames.specs.declared.frame.Frame.{Frame}
use Rattle.world_model.specs.declared.acts.Act.TheVariants.{Open as OpenAct}
use Rattle.world_model.specs.Histories.{ContinuesUnlessFirst}
use Rattle.world_model.specs.NodeState.{opened}
use Rattle.coord_state.specs.StandsFor.{StandsFor}
use Rattle.replay_node.specs.NodeDisk.{MemFuse}
use Rattle.replay_node.specs.NodeWorld.{fresh_node, needs_opening}
use Rattle.replay_node.specs.Opens.{ClosedStands}
use Rattle.trace_text.specs.Published.{last_published}
use Rattle.replay_node.specs.Stands.{Journal, journal_ghosts}
use Rattle.voting_config.specs.Ids.{Id}
use Rattle.policy_model.specs.declared.settings.Settings.{Settings}
use Rattle.policy_model.specs.Entries.{Life, NotBegun, Opened, log_of}
use Rattle.policy_model.specs.Events.{acts_of}
use Rattle.policy_model.specs.Fitting.{IsFitView}
use Rattle.coordinator.specs.Lives.{StandsForLife}
use Rattle.coordinator.specs.Views.{IsReady, view_in}
use Rattle.replay_node.specs.Clusters.{first_life, settings_of}
use Rattle.schedule_replay.specs.OwnStands.{LifeFor, NodeFor, OwnDone}
use Rattle.schedule_replay.specs.Own.{Own, own_restart, own_restart_frames, own_restart_results}
use Rattle.schedule_replay.specs.OpenNodes.{Node, keeper}
use Rattle.schedule_replay.specs.declared.cluster.node.ClusterNode.{ClusterNode}

-- a node that was just opened over this journal
pub record OverJournal (s : Settings) (j : Journal) (node : Node) : Type 0 where
  pub settings : node.settings ≡ s
  pub keeper_is : node.core.keeper ≡ j
  pub ready : IsReady node
  pub stands : StandsFor journal_ghosts node.core (opened j.kept)
  pub fit : IsFitView (view_in keeper node)
  pub first : j.kept ≡ empty_record → StandsForLife keeper node NotBegun
  pub later : (life : Life) → ContinuesUnlessFirst (acts_of (log_of life)) (OpenAct j.kept) → StandsForLife keeper node (Opened life j.kept)

-- a node whose journal is closed, and its disk
pub record ClosedFor (s : Settings) (c : ClusterNode) (fuse : MemFuse) (own : Own) : Type 0 where
  pub me_is : c.me ≡ s.me
  pub closed : ClosedStands fuse own.node
  pub needs : needs_opening own.node ≡ true
  pub published : c.published ≡ last_published own.node.acts
  pub life : LifeFor s own.life own.node false

-- the node was opened again, of the nodes and with the initial names of a schedule
abbrev pub Restarts : (nodes initial voting_only : List Id) (second : Bool) → (old new : ClusterNode) → MemFuse → (frames frames_now : List Frame)
    → (was now : List ℕ) → Type 0
Restarts nodes initial voting_only second old new fuse frames frames_now was now =
    let s : Settings = settings_of nodes initial voting_only second old.me in
    (own : Own) → ClosedFor s old fuse own
    → OwnDone s new (own_restart s own) frames frames_now (own_restart_frames s own) was now (own_restart_results s (length frames) own)

-- the same of a node that was opened only where its journal was closed
abbrev pub Reopens : (nodes initial voting_only : List Id) (second : Bool) → (old new : ClusterNode) → (frames frames_now : List Frame) → (was now : List ℕ)
    → Type 0
Reopens nodes initial voting_only second old new frames frames_now was now =
    let s : Settings = settings_of nodes initial voting_only second old.me in
    (own : Own) → NodeFor s old own false
    → OwnDone s new (own_restart s own) frames frames_now (own_restart_frames s own) was now (own_restart_results s (length frames) own)

-- what a node is before the first line
abbrev pub fresh_own : Settings → Own
fresh_own s = record { life = first_life s; node = fresh_node }
