-- Part of the statement: the lines of a trace that show an event of a node.
use Rattle.std.specs.Prelude.{ℕ, Option, List, ◌++◌, codes}
use Rattle.std.specs.List.{flat_map}
use Rattle.voting_config.specs.Ids.{Id}
use Rattle.cluster_state.specs.declared.state.ClusterState.{ClusterState}
use Rattle.client_lines.specs.Replies.{reply_text}
use Rattle.master_tasks.specs.declared.waiting.Outgoing.{Outgoing}
use Rattle.wire_frames.specs.declared.frame.Frame.{Frame}
use Rattle.policy_model.specs.declared.events.DropCause.{DropCause}
use Rattle.policy_model.specs.declared.events.DropCause.TheVariants.{Checks, Lag, Disconnect}
use Rattle.policy_model.specs.declared.events.MemberDrop.{MemberDrop}
use Rattle.policy_model.specs.declared.events.Deed.{Deed}
use Rattle.event_text.specs.Frames.{frames_text}
use Rattle.event_text.specs.Deeds.{deeds_text}

abbrev pub cause_text : DropCause → List ℕ
cause_text Checks = codes "checks"
cause_text Lag = codes "lag"
cause_text Disconnect = codes "disconnect"

-- the node queues that this member is removed
abbrev pub drop_line : Id → MemberDrop → List ℕ
drop_line n d = codes "drop " ++ n ++ codes " " ++ d.member ++ codes " " ++ cause_text d.cause ++ codes "\n"

abbrev pub drops_text : Id → List MemberDrop → List ℕ
drops_text n drops = flat_map (drop_line n) drops

-- the node answers a client
abbrev pub reply_line : Id → Outgoing → List ℕ
reply_line n answer = codes "reply " ++ n ++ codes " " ++ reply_text answer.reply ++ codes "\n"

abbrev pub replies_text : Id → List Outgoing → List ℕ
replies_text n replies = flat_map (reply_line n) replies

-- An event of a node that had published this state last before it, after so many frames: acts and changes of mode, then drops, then
-- frames, then replies.
abbrev pub event_results : (count : ℕ) → Id → Option ClusterState → List Deed → List MemberDrop → List Frame → List Outgoing → List ℕ
event_results count n published deeds drops frames replies =
    deeds_text n published deeds ++ drops_text n drops ++ frames_text count frames ++ replies_text n replies
