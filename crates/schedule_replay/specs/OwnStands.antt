-- For the contracts inside: when a node of a cluster, open or down, stands for its life, for what it did and for its disk; and what a line
-- makes of it.
use Rattle.std.specs.Prelude.{◌≡◌, Bool, true, false, ℕ, List, ◌++◌, length}
use Rattle.std.specs.List.{AllByRecursion}
use Rattle.wire_frames.specs.declared.frame.Frame.{Frame}
use Rattle.wire_frames.specs.Frames.{IsFitFrame}
use Rattle.replay_node.specs.NodeDisk.{Restarted}
use Rattle.replay_node.specs.NodeWorld.{NodeWorld, needs_opening}
use Rattle.trace_text.specs.Published.{last_published}
use Rattle.replay_node.specs.Stands.{DownStands}
use Rattle.policy_model.specs.declared.settings.Settings.{Settings}
use Rattle.policy_model.specs.Entries.{Life, log_of}
use Rattle.policy_model.specs.Events.{acts_of}
use Rattle.policy_model.specs.Follows.{Follows, is_struck, starts_next}
use Rattle.schedule_replay.specs.Own.{Own}
use Rattle.schedule_replay.specs.OpenNodes.{OpenFor}
use Rattle.schedule_replay.specs.declared.cluster.node.ClusterNode.{ClusterNode}
use Rattle.schedule_replay.specs.declared.cluster.node.Slot.{Slot}
use Rattle.schedule_replay.specs.declared.cluster.node.Slot.TheVariants.{Open, Down}

-- a life that follows the policy, and its acts; `starts` where the start comes next
pub record LifeFor (s : Settings) (life : Life) (x : NodeWorld) (starts : Bool) : Type 0 where
  pub follows : Follows s life
  pub acts : acts_of (log_of life) ≡ x.acts
  pub starts_is : starts_next life ≡ starts
  pub unstruck : needs_opening x ≡ false → is_struck life ≡ false
  pub opened : starts ≡ true → needs_opening x ≡ false

abbrev pub SlotFor : Settings → Slot → Own → Type 0
SlotFor s (Open node) own = OpenFor s node own.life own.node
SlotFor s (Down fuse) own = DownStands fuse own.node

-- a node whose disk has stopped goes down, and its disk runs again
abbrev pub ClosesTo : Slot → Slot → Type 0
ClosesTo (Open node) (Down fuse) = Restarted node.core.keeper.log.disk fuse
ClosesTo (Open node) (Open other) = ⊥
ClosesTo (Down fuse) new = new ≡ Down fuse

pub record NodeFor (s : Settings) (c : ClusterNode) (own : Own) (starts : Bool) : Type 0 where
  pub me_is : c.me ≡ s.me
  pub slot : SlotFor s c.slot own
  pub published : c.published ≡ last_published own.node.acts
  pub life : LifeFor s own.life own.node starts

-- the node stands for this, these frames were sent, and these results were written
pub record OwnDone (s : Settings) (new : ClusterNode) (own : Own) (frames frames_now sent : List Frame)
    (was now results : List ℕ) : Type 0 where
  pub stands : NodeFor s new own false
  pub sent_is : frames_now ≡ frames ++ sent
  pub written : now ≡ was ++ results
  pub fit : AllByRecursion IsFitFrame sent

-- a line of one node: whatever the node stood for, it stands for that after the line
abbrev pub OwnDoes : (old new : ClusterNode) → (starts : Bool) → (frames frames_now : List Frame) → (was now : List ℕ)
    → (Settings → Own → Own) → (Settings → Own → List Frame) → (Settings → ℕ → Own → List ℕ) → Type 0
OwnDoes old new starts frames frames_now was now after sent results =
    (s : Settings) (own : Own) → NodeFor s old own starts
    → OwnDone s new (after s own) frames frames_now (sent s own) was now (results s (length frames) own)
