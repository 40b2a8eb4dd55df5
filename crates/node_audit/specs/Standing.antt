-- For the contracts inside: when the fields of a node stand for its acts so far, and how an act may end.
use Rattle.std.specs.Prelude.{◌≡◌, true, false}
use Rattle.cluster_state.specs.declared.state.Kept.{Kept}
use Rattle.world_model.specs.declared.acts.Act.{Act}
use Rattle.world_model.specs.declared.acts.ActReply.{ActReply}
use Rattle.world_model.specs.declared.acts.ActReply.TheVariants as reply
use Rattle.world_model.specs.Acts.{NodeHistory}
use Rattle.world_model.specs.NodeState.{NodeState, node_state, durable_of, halted_of}
use Rattle.world_model.specs.Replies.{is_taken, writes}
use Rattle.world_model.specs.Histories.{is_down}
use Rattle.world_model.specs.Settled.{settled, IsUnstruck}
use Rattle.trace_text.specs.declared.ending.Ending.{Ending}
use Rattle.trace_text.specs.declared.ending.Ending.TheVariants as ending
use Rattle.node_audit.specs.declared.running.Running.{Running}
use Rattle.node_audit.specs.declared.node.Struck.{Struck}
use Rattle.node_audit.specs.declared.node.Node.{Node}
use Rattle.node_audit.specs.declared.node.Node.TheVariants as node

-- the fields, as the state that they are
abbrev pub seen : Running → NodeState
seen r = record {
  term = r.term;
  accepted = r.accepted;
  committed = r.committed;
  started_join = r.started;
  join_votes = r.votes;
  election_won = r.won;
  published_version = r.version;
  published_config = r.config;
  publish_votes = r.acks;
  halted = false;
}

abbrev pub kept_by : NodeState → Kept
kept_by p = record { term = p.term; accepted = p.accepted; committed = p.committed }

pub record StandsRunning (r : Running) (g : NodeHistory) : Type 0 where
  pub fields : seen r ≡ node_state g
  pub up : is_down g ≡ false
  pub unstruck : IsUnstruck g

-- what the node keeps without the act in which it was struck, and with it
pub record StandsStruck (s : Struck) (g : NodeHistory) : Type 0 where
  pub before : s.before ≡ durable_of (settled false g)
  pub after : s.after ≡ durable_of (settled true g)

pub record StandsHalted (s : Struck) (g : NodeHistory) : Type 0 where
  pub halted : halted_of g ≡ true
  pub up : is_down g ≡ false
  pub struck : StandsStruck s g

pub record StandsDown (s : Struck) (g : NodeHistory) : Type 0 where
  pub down : is_down g ≡ true
  pub struck : StandsStruck s g

abbrev pub Stands : Node → NodeHistory → Type 0
Stands (node.Running r) g = StandsRunning r g
Stands (node.Halted s) g = StandsHalted s g
Stands (node.Down s) g = StandsDown s g

-- ---- how an act may end

-- an act may end so, to which the node's reply is this
abbrev pub MayEnd : ActReply → Act → Ending → Type 0
MayEnd r act ending.Taken = is_taken r ≡ true
MayEnd r act (ending.Refused cause) = r ≡ reply.Refused cause
MayEnd r act ending.Stopped = r ≡ reply.Stopped
MayEnd r act ending.Disk = (is_taken r ≡ true) × (writes act ≡ true)
MayEnd r act ending.Crashed = (is_taken r ≡ true) × (writes act ≡ true)
