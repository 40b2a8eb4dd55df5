-- Part of the statement: what is written for a reply.
use Rattle.std.specs.Prelude.{ℕ, List, codes}
use Rattle.serde_json.specs.Data.{Data, number, unsigned, string, object, no_members, member, put}
use Rattle.serde_json.specs.Written.{compact_text}
use Rattle.cluster_state.specs.Json.{ids_json, master_json, state_json}
use Rattle.cluster_state.specs.declared.state.ClusterState.{ClusterState}
use Rattle.cluster_state.specs.declared.state.StateId.{StateId}
use Rattle.cluster_state.specs.declared.reply.LineFault.{LineFault}
use Rattle.cluster_state.specs.declared.reply.LineFault.TheVariants.{TooLong, NotJson, BadShape}
use Rattle.cluster_state.specs.declared.reply.Answer.{Answer}
use Rattle.cluster_state.specs.declared.reply.Answer.TheVariants.{Acked, State, NotMaster, BadSetting, QueueFull, TooManySettings, TooManyExclusions, StillMember, FailedToCommit, ExclusionTimeout}
use Rattle.cluster_state.specs.declared.reply.Reply.{Reply}
use Rattle.cluster_state.specs.declared.reply.Reply.TheVariants.{To, BadLine}

abbrev pub number_json : ℕ → Data
number_json n = number (unsigned n)

abbrev pub state_id_json : StateId → Data
state_id_json id = object (member (codes "term") (number_json id.term) (member (codes "version") (number_json id.version) no_members))

-- an id with one thing beside it, the keys in the order of their bytes
unfoldable pub beside_id : ℕ → List ℕ → Data → Data
beside_id id name d = object (put name d (member (codes "id") (number_json id) no_members))

-- an id with a state beside it, key by key
abbrev pub state_reply : ℕ → ClusterState → Data
state_reply id state = object (member (codes "id") (number_json id) (member (codes "state") (state_json state) no_members))

abbrev pub answer_json : ℕ → Answer → Data
answer_json id (Acked state) = beside_id id (codes "acked") (state_id_json state)
answer_json id (State state) = beside_id id (codes "state") (state_json state)
answer_json id (NotMaster master) = beside_id id (codes "not_master") (master_json master)
answer_json id (BadSetting length) = beside_id id (codes "bad_setting") (number_json length)
answer_json id (QueueFull count) = beside_id id (codes "queue_full") (number_json count)
answer_json id (TooManySettings count) = beside_id id (codes "too_many_settings") (number_json count)
answer_json id (TooManyExclusions count) = beside_id id (codes "too_many_exclusions") (number_json count)
answer_json id (StillMember node) = beside_id id (codes "still_member") (string node)
answer_json id (FailedToCommit term) = beside_id id (codes "failed_to_commit") (number_json term)
answer_json id (ExclusionTimeout nodes) = beside_id id (codes "exclusion_timeout") (ids_json nodes)

abbrev pub fault_name : LineFault → List ℕ
fault_name TooLong = codes "too_long"
fault_name NotJson = codes "not_json"
fault_name BadShape = codes "bad_shape"

abbrev pub reply_json : Reply → Data
reply_json (To id answer) = answer_json id answer
reply_json (BadLine fault) = object (member (codes "error") (string (fault_name fault)) no_members)

-- with no blanks
unfoldable pub text_of : Data → List ℕ
text_of d = compact_text d

abbrev pub reply_text : Reply → List ℕ
reply_text reply = text_of (reply_json reply)
