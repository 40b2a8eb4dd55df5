-- Part of the statement: the lines of a trace that show frames.
use Rattle.std.specs.Prelude.{ℕ, ◌+◌, Bool, true, false, Option, None, Some, List, [], ◌∷◌, ◌++◌, codes, decimal}
use Rattle.voting_config.specs.Ids.{Id}
use Rattle.cluster_state.specs.declared.state.StateId.{StateId}
use Rattle.wire_frames.specs.declared.frame.Frame.{Frame}
use Rattle.wire_frames.specs.declared.frame.WireMessage.{WireMessage}
use Rattle.wire_frames.specs.declared.frame.WireMessage.TheVariants as message
use Rattle.voting_config.specs.Lists.{list_text}
use Rattle.trace_text.specs.Trace.{id_text, state_text}

abbrev pub answer_text : Bool → List ℕ
answer_text true = codes "yes"
answer_text false = codes "no"

abbrev pub master_text : Option Id → List ℕ
master_text None = codes "_"
master_text (Some master) = master

abbrev pub state_id_text : StateId → List ℕ
state_id_text id = id_text id.term id.version

-- the word of the message, and its fields
abbrev pub message_text : WireMessage → List ℕ
message_text (message.StartJoin candidate term) = codes "startjoin " ++ candidate ++ codes " " ++ decimal term
message_text (message.Join term last) = codes "join " ++ decimal term ++ codes " " ++ state_id_text last
message_text (message.Publish state) = codes "publish " ++ state_text state
message_text (message.Response id) = codes "response " ++ state_id_text id
message_text (message.Commit id) = codes "commit " ++ state_id_text id
message_text (message.JoinAsk term) = codes "joinask " ++ decimal term
message_text (message.PeersAsk known) = codes "peersask " ++ list_text known
message_text (message.PeersAnswer master term known) = codes "peersanswer " ++ master_text master ++ codes " " ++ decimal term ++ codes " "
    ++ list_text known
message_text message.PreVoteAsk = codes "prevoteask"
message_text (message.PreVoteAnswer term last) = codes "prevoteanswer " ++ decimal term ++ codes " " ++ state_id_text last
message_text (message.PreVoteRefuse leader) = codes "prevoterefuse " ++ leader
message_text (message.FollowerCheck term) = codes "followercheck " ++ decimal term
message_text (message.FollowerAnswer good term applied) = codes "followeranswer " ++ answer_text good ++ codes " " ++ decimal term
    ++ codes " " ++ state_id_text applied
message_text (message.LeaderCheck term) = codes "leadercheck " ++ decimal term
message_text (message.LeaderAnswer good) = codes "leaderanswer " ++ answer_text good

-- the frame of this number
abbrev pub frame_line : (number : ℕ) → Frame → List ℕ
frame_line number f = codes "m" ++ decimal number ++ codes " " ++ f.from ++ codes "->" ++ f.to ++ codes " " ++ message_text f.message
    ++ codes "\n"

-- frames, numbered from the one after so many on
abbrev pub frames_text : (count : ℕ) → List Frame → List ℕ
frames_text count [] = []
frames_text count (f ∷ fs) = frame_line (count + 1) f ++ frames_text (count + 1) fs
