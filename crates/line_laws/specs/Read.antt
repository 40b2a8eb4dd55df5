-- For the contracts inside: that the lines which `zen` writes are read by an audit as what they show, as statements.
use Rattle.std.specs.Prelude.{◌≡◌, ◌≢◌, ◌≤◌, ℕ, false, true, None, Some, Option, Ok, List, [], ◌∷◌, ◌++◌, codes, decimal, length, map, IsTrue}
use Rattle.voting_config.specs.Ids.{Id, is_id, IsIdSet}
use Rattle.voting_config.specs.Lists.{list_text}
use Rattle.cluster_state.specs.declared.state.ClusterState.{ClusterState}
use Rattle.cluster_state.specs.declared.state.Kept.{Kept}
use Rattle.world_model.specs.declared.acts.Act.{Act}
use Rattle.world_model.specs.declared.acts.Message.{Message}
use Rattle.world_model.specs.Acts.{is_opening}
use Rattle.master_tasks.specs.declared.waiting.Outgoing.{Outgoing}
use Rattle.wire_frames.specs.declared.frame.Frame.{Frame}
use Rattle.policy_model.specs.declared.events.MemberDrop.{MemberDrop}
use Rattle.policy_model.specs.declared.events.Mode.{Mode}
use Rattle.schedule_text.specs.declared.level.Level.{Level}
use Rattle.schedule_text.specs.declared.schedule.Line.{Line}
use Rattle.schedule_text.specs.Lines.{FitsLine, is_one_line, line_text, words_of}
use Rattle.trace_text.specs.declared.ending.Ending.{Ending}
use Rattle.trace_text.specs.Trace.{act_line, ending_text, record_line, won_text, committed_text, message_line, down_line, up_line, crashed_line, disk_line}
use Rattle.event_text.specs.Events.{drop_line, reply_line}
use Rattle.event_text.specs.Frames.{frame_line}
use Rattle.event_text.specs.Deeds.{mode_line}
use Rattle.recorded_trace.specs.declared.entry.Entry.{Entry}
use Rattle.recorded_trace.specs.declared.entry.Entry.TheVariants.{Acted, Recorded}
use Rattle.recorded_trace.specs.Acts.{shown_record}
use Rattle.recorded_trace.specs.Lines.{shown_at}
use Rattle.recorded_trace.specs.Reading.{Recording, most_bytes, recording_of}
use Rattle.line_laws.specs.Fits.{IsSmall, FitsFrame, FitsMessage, FitsMode}
use Rattle.line_laws.specs.Readable.{IsReadable, IsReadableRecord, EndsAs}

-- the text is one line with its line feed; its words begin with these, and it shows this: an entry, or nothing that an audit looks at
pub record IsRead (text : List ℕ) (prefix : List (List ℕ)) (told : Option Entry) : Type 0 where
  pub line : List ℕ
  pub is : text ≡ line ++ codes "\n"
  pub alone : IsTrue (is_one_line line)
  pub rest : List (List ℕ)
  pub words : words_of line ≡ prefix ++ rest
  pub tells : shown_at line ≡ Ok told

-- a line with this first word, which is skipped
abbrev pub IsSkipped : List ℕ → List ℕ → Type 0
IsSkipped verb text = IsRead text (verb ∷ []) None

-- an act with its ending
abbrev pub LawAct : Type 0
LawAct = (n : Id) (e : Ending) (act : Act) → IsTrue (is_id n) → is_opening act ≡ false → EndsAs act e → IsReadable act
    → IsRead (act_line n e act) (codes "act" ∷ n ∷ ending_text e ∷ []) (Some (Acted n e act))

-- a record, as far as its line shows it
abbrev pub recorded : Id → Kept → Entry
recorded n found = Recorded n
    (shown_record found.term (record { term = found.accepted.term; version = found.accepted.version }) found.accepted.config
    found.committed)

abbrev pub LawRecord : Type 0
LawRecord = (n : Id) (found : Kept) → IsTrue (is_id n) → IsReadableRecord found
    → IsRead (record_line n found.term found.accepted found.committed) (codes "record" ∷ []) (Some (recorded n found))

-- the echo of a line of a schedule
abbrev pub LawEcho : Type 0
LawEcho = (level : Level) (nodes : List Id) (l : Line) → IsIdSet nodes → FitsLine level nodes l
    → IsSkipped (codes ">") (codes "> " ++ line_text l ++ codes "\n")

-- an election that was won, a state that is committed, a message
pub record LawShown : Type 0 where
  pub won : (n : Id) (term : ℕ) → IsTrue (is_id n) → IsSkipped (codes "won") (won_text true n term)
  pub committed : (state : ClusterState) → IsSkipped (codes "committed") (committed_text (Some state))
  pub sent : (number : ℕ) (message : Message) → IsSmall number → FitsMessage message
      → IsSkipped (codes "m" ++ decimal number) (message_line number message)

-- a node that is down, that is up, that stops, or whose disk fails; a message that was not sent, or is for another node
pub record LawNode : Type 0 where
  pub down : (n : Id) → IsTrue (is_id n) → IsSkipped (codes "down") (down_line n)
  pub up : (n : Id) → IsTrue (is_id n) → IsSkipped (codes "up") (up_line n)
  pub crashed : (n : Id) → IsTrue (is_id n) → IsSkipped (codes "crashed") (crashed_line n)
  pub disk : (n : Id) → IsTrue (is_id n) → IsSkipped (codes "disk") (disk_line n)
  pub unsent : IsSkipped (codes "unsent") (codes "unsent\n")
  pub misrouted : IsSkipped (codes "misrouted") (codes "misrouted\n")

-- what a whole node shows beside its acts
pub record LawEvent : Type 0 where
  pub mode : (n : Id) (mode : Mode) (term : ℕ) → IsTrue (is_id n) → FitsMode mode → IsSkipped (codes "mode") (mode_line n mode term)
  pub drop : (n : Id) (dropped : MemberDrop) → IsTrue (is_id n) → IsTrue (is_id dropped.member)
      → IsSkipped (codes "drop") (drop_line n dropped)
  pub frame : (number : ℕ) (frame : Frame) → IsSmall number → FitsFrame frame
      → IsSkipped (codes "m" ++ decimal number) (frame_line number frame)
  pub reply : (n : Id) (answer : Outgoing) → IsTrue (is_id n) → IsSkipped (codes "reply") (reply_line n answer)

-- Lines one after another, which show these entries.
pub data Shows : List ℕ → List Entry → Type 0 where
  Nothing : Shows [] []
  Skip : (line more : List ℕ) (entries : List Entry) → IsTrue (is_one_line line) → shown_at line ≡ Ok None → Shows more entries
      → Shows (line ++ 10 ∷ more) entries
  Show : (line more : List ℕ) (entry : Entry) (entries : List Entry) → IsTrue (is_one_line line) → shown_at line ≡ Ok (Some entry)
      → Shows more entries → Shows (line ++ 10 ∷ more) (entry ∷ entries)

-- the first line of a recorded trace
abbrev pub header : List Id → List ℕ
header initial = codes "initial " ++ list_text initial ++ codes "\n"

-- the bytes are read as this configuration, and these entries
pub record Records (bytes : List ℕ) (initial : List Id) (entries : List Entry) : Type 0 where
  pub trace : Recording
  pub read : recording_of bytes ≡ Ok trace
  pub from : trace.initial ≡ initial
  pub shows : map (λ x. x.entry) trace.entries ≡ entries

-- such lines after a first line are a recorded trace, unless they are too long
abbrev pub LawTrace : Type 0
LawTrace = (initial : List Id) (bytes : List ℕ) (entries : List Entry) → IsIdSet initial → initial ≢ [] → Shows bytes entries
    → length (header initial ++ bytes) ≤ most_bytes → Records (header initial ++ bytes) initial entries
