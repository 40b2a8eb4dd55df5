-- Laws of their own: the lines that `zen` writes are read as what they are.
use Rattle.std.specs.Prelude.{◌≡◌, ℕ, true, Some, Ok, List, ◌++◌, codes, IsTrue, [], ◌∷◌}
use Rattle.voting_config.specs.Ids.{Id, is_id, IsIdSet}
use Rattle.cluster_state.specs.declared.state.ClusterState.{ClusterState}
use Rattle.world_model.specs.declared.acts.Act.{Act}
use Rattle.world_model.specs.declared.acts.Message.{Message}
use Rattle.world_model.specs.declared.acts.Outcome.{Outcome}
use Rattle.master_tasks.specs.declared.waiting.Outgoing.{Outgoing}
use Rattle.wire_frames.specs.declared.frame.Frame.{Frame}
use Rattle.policy_model.specs.declared.events.MemberDrop.{MemberDrop}
use Rattle.policy_model.specs.declared.events.Mode.{Mode}
use Rattle.schedule_text.specs.declared.level.Level.{Level}
use Rattle.schedule_text.specs.declared.schedule.Line.{Line}
use Rattle.schedule_text.specs.Lines.{FitsLine, is_one_line, line_text}
use Rattle.trace_text.specs.Endings.{ending_of}
use Rattle.trace_text.specs.Trace.{outcome_line, won_text, committed_text, message_line, down_line, up_line, crashed_line, disk_line}
use Rattle.event_text.specs.Events.{drop_line, reply_line}
use Rattle.event_text.specs.Frames.{frame_line}
use Rattle.event_text.specs.Deeds.{mode_line}
use Rattle.trace_reader.specs.declared.progress.Progress.{Progress}
use Rattle.trace_reader.specs.declared.said.Said.{Said}
use Rattle.trace_reader.specs.declared.said.Said.TheVariants as said
use Rattle.trace_reader.specs.declared.said.TraceLine.{TraceLine}
use Rattle.trace_reader.specs.Echoes.{said_by}
use Rattle.trace_reader.specs.Reading.{after_line, first_progress, sized_at, said_at, trace_at}
use Rattle.trace_laws.specs.Said.{outcome_said, message_said, mode_said_by}
use Rattle.line_laws.specs.Fits.{IsSmall, FitsAct, FitsEnding, FitsFrame, FitsMessage, FitsMode}

-- A text is one line with its line feed, which tells this where it is within the limits of a trace.
pub record IsRead (p : Progress) (text : List ℕ) (said : Said) : Type 0 where
  pub line : List ℕ
  pub is : text ≡ line ++ codes "\n"
  pub alone : IsTrue (is_one_line line)
  pub tells : sized_at p line ≡ Ok tt → said_at p line ≡ Ok said

-- A line of a result, behind a line of the schedule of this node.
abbrev pub IsResult : Progress → Id → Type 0
IsResult p actor = p.actor ≡ Some actor

-- an act, and an opening of a journal
abbrev pub LawOutcome : Type 0
LawOutcome = (p : Progress) (actor n : Id) (o : Outcome) (act : Act) → IsResult p actor → IsTrue (is_id n) → FitsEnding (ending_of o)
    → FitsAct act → IsRead p (outcome_line n o act) (outcome_said n o act)

-- an election that was won
abbrev pub LawWon : Type 0
LawWon = (p : Progress) (actor n : Id) (term : ℕ) → IsResult p actor → IsTrue (is_id n) → IsSmall term
    → IsRead p (won_text true n term) (said.Won n term)

-- a state that is committed, by the node of the last line of the schedule
abbrev pub LawCommitted : Type 0
LawCommitted = (p : Progress) (actor : Id) (state : ClusterState) → IsResult p actor
    → IsRead p (committed_text (Some state)) (said.Committed actor)

-- the next message
abbrev pub LawSent : Type 0
LawSent = (p : Progress) (actor : Id) (message : Message) → IsResult p actor → IsSmall p.next → FitsMessage message
    → IsRead p (message_line p.next message) (message_said message)

-- the next frame
abbrev pub LawFramed : Type 0
LawFramed = (p : Progress) (actor : Id) (frame : Frame) → IsResult p actor → IsSmall p.next → FitsFrame frame
    → IsRead p (frame_line p.next frame) (said.Sent frame.from (Some frame.to))

-- a node that is down, that is up, that stops, or whose disk fails
pub record LawState : Type 0 where
  pub down : (p : Progress) (actor n : Id) → IsResult p actor → IsTrue (is_id n) → IsRead p (down_line n) (said.Down n)
  pub up : (p : Progress) (actor n : Id) → IsResult p actor → IsTrue (is_id n) → IsRead p (up_line n) (said.Up n)
  pub crashed : (p : Progress) (actor n : Id) → IsResult p actor → IsTrue (is_id n) → IsRead p (crashed_line n) (said.Crashed n)
  pub disk : (p : Progress) (actor n : Id) → IsResult p actor → IsTrue (is_id n) → IsRead p (disk_line n) (said.Disk n)

-- a message that was not sent, or is for another node
pub record LawDelivery : Type 0 where
  pub unsent : (p : Progress) (actor : Id) → IsResult p actor → IsRead p (codes "unsent\n") (said.Unsent actor)
  pub misrouted : (p : Progress) (actor : Id) → IsResult p actor → IsRead p (codes "misrouted\n") (said.Misrouted actor)

-- a mode, a member that is dropped, and a reply to a client
pub record LawNote : Type 0 where
  pub mode : (p : Progress) (actor n : Id) (mode : Mode) (term : ℕ) → IsResult p actor → IsTrue (is_id n) → FitsMode mode → IsSmall term
      → IsRead p (mode_line n mode term) (said.Mode n (mode_said_by mode) term)
  pub drop : (p : Progress) (actor n : Id) (dropped : MemberDrop) → IsResult p actor → IsTrue (is_id n) → IsTrue (is_id dropped.member)
      → IsRead p (drop_line n dropped) (said.Dropped n)
  pub reply : (p : Progress) (actor n : Id) (answer : Outgoing) → IsResult p actor → IsTrue (is_id n)
      → IsRead p (reply_line n answer) (said.Replied n)

-- the echo of a line of a schedule of these nodes
abbrev pub LawEcho : Type 0
LawEcho = (p : Progress) (level : Level) (ids : List Id) (l : Line) → IsIdSet ids → FitsLine level ids l
    → IsRead p (codes "> " ++ line_text l ++ codes "\n") (said_by l)

-- Lines one after another, each of which tells something where it stands.
pub data AreRead : Progress → List ℕ → List TraceLine → Type 0 where
  Nothing : (p : Progress) → AreRead p [] []
  Read : (p : Progress) (line more : List ℕ) (said : Said) (lines : List TraceLine) → IsTrue (is_one_line line) → said_at p line ≡ Ok said
      → AreRead (after_line p line said) more lines → AreRead p (line ++ 10 ∷ more) (record { text = line; said = said } ∷ lines)

-- such lines are a trace, and are read as what they tell
abbrev pub LawTrace : Type 0
LawTrace = (bytes : List ℕ) (lines : List TraceLine) → AreRead first_progress bytes lines → trace_at bytes ≡ Ok lines
