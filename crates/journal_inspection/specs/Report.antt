-- Part of the statement: what is written of a journal: seven lines that show what it keeps, or the line that says why it is none.
use Rattle.std.specs.Prelude.{ℕ, List, ◌++◌, codes, decimal}
use Rattle.hex.specs.Hex.{encode_lower}
use Rattle.sha2.specs.Sha256.{sha256}
use Rattle.serde_json.specs.Written.{compact_text}
use Rattle.voting_config.specs.Lists.{list_text}
use Rattle.cluster_state.specs.Json.{state_json}
use Rattle.cluster_state.specs.States.{state}
use Rattle.cluster_state.specs.FaultNames.{field_name}
use Rattle.cluster_state.specs.declared.state.ClusterState.{ClusterState}
use Rattle.cluster_state.specs.declared.state.Kept.{Kept}
use Rattle.state_journal.specs.declared.why.BodyFault.{BodyFault}
use Rattle.state_journal.specs.declared.why.BodyFault.TheVariants as body
use Rattle.state_journal.specs.declared.why.Fault.{Fault}
use Rattle.state_journal.specs.declared.why.Fault.TheVariants as fault
use Rattle.state_journal.specs.declared.why.Why.{Why}
use Rattle.state_journal.specs.declared.why.Why.TheVariants.{At, Twin}
use Rattle.zen_disk.specs.declared.side.Side.TheVariants.{Zero, One}

-- ---- what a journal keeps

-- the SHA-256 of the state's encoding, in lower-case hexadecimal
unfoldable pub digest_text : ClusterState → List ℕ
digest_text s = encode_lower (sha256 (state.spelling s))

abbrev pub accepted_lines : ClusterState → List ℕ
accepted_lines s = codes "accepted=" ++ decimal s.term ++ codes "/" ++ decimal s.version ++ codes "\nconfig=" ++ list_text s.config

abbrev pub state_lines : ClusterState → List ℕ
state_lines s = codes "\nsha256=" ++ digest_text s ++ codes "\nstate=" ++ compact_text (state_json s) ++ codes "\n"

-- the seven lines, where so many bodies are in use
abbrev pub report : Kept → ℕ → List ℕ
report kept records =
    codes "term=" ++ decimal kept.term ++ codes "\n" ++ accepted_lines kept.accepted ++ codes "\ncommitted=" ++ list_text kept.committed
    ++ codes "\nrecords=" ++ decimal records ++ state_lines kept.accepted

-- ---- why the files are no journal

abbrev pub body_fault_text : BodyFault → List ℕ
body_fault_text body.Tag = codes "Tag"
body_fault_text (body.Field fault) = field_name fault
body_fault_text body.Trailing = codes "Trailing"

-- the first fault of one file
abbrev pub fault_text : Fault → List ℕ
fault_text fault.Header = codes "Header"
fault_text (fault.Cut at) = codes "Cut(" ++ decimal at ++ codes ")"
fault_text (fault.Long at) = codes "Long(" ++ decimal at ++ codes ")"
fault_text (fault.Body at why) = codes "Body(" ++ decimal at ++ codes "," ++ body_fault_text why ++ codes ")"
fault_text (fault.Damaged at stored found) = codes "Damaged(" ++ decimal at ++ codes ")"
fault_text (fault.Order at) = codes "Order(" ++ decimal at ++ codes ")"

-- a fault of side one is marked as its
abbrev pub why_text : Why → List ℕ
why_text (At Zero f) = fault_text f
why_text (At One f) = codes "1:" ++ fault_text f
why_text Twin = codes "Twin"

abbrev pub not_a_journal : Why → List ℕ
not_a_journal why = codes "zen: not a journal: " ++ why_text why ++ codes "\n"
