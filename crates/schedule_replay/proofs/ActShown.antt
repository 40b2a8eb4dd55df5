-- What an act writes is the text of what it shows, and its outcome is read off that.
use Rattle.std.proofs.Common.{◌≡◌, ℕ, ◌+◌, Bool, true, false, cond, Option, None, Some, ◌++◌, refl, sym}
use Rattle.voting_config.specs.Ids.{Id}
use Rattle.cluster_state.specs.declared.state.ClusterState.{ClusterState}
use Rattle.world_model.specs.declared.acts.Act.{Act}
use Rattle.world_model.specs.declared.acts.Act.TheVariants.{Bootstrap, StartJoin, TakeJoin, Value, Publish, Response, Commit, Open}
use Rattle.world_model.specs.declared.acts.Message.{Message}
use Rattle.world_model.specs.declared.acts.Message.TheVariants.{Commit as CommitMessage}
use Rattle.world_model.specs.declared.acts.ActReply.{ActReply}
use Rattle.world_model.specs.declared.acts.ActReply.TheVariants.{Taken, Refused, Stopped}
use Rattle.world_model.specs.declared.acts.Outcome.{Outcome}
use Rattle.world_model.specs.declared.acts.Outcome.TheVariants.{Answered}
use Rattle.world_model.specs.Acts.{NodeHistory, wins}
use Rattle.world_model.specs.Replies.{reply_of}
use Rattle.world_model.specs.Histories.{is_opening}
use Rattle.world_model.proofs.Guards.{boot_guard, start_guard, value_guard, publish_guard, response_guard, commit_guard}
use Rattle.trace_text.specs.Endings.{ending_of}
use Rattle.event_text.specs.Deeds.{act_lines}
use Rattle.trace_text.specs.Trace.{act_line, outcome_line, won_line, won_text, committed_line, committed_text, sent_line, results}
use Rattle.replay_node.specs.Did.{is_won, won_by}
use Rattle.replay_node.specs.NodeDisk.{CallsEnd, Done, Failed, CrashedIn}
use Rattle.replay_node.specs.NodeWorld.{outcome_by}
use Rattle.schedule_replay.specs.Parts.{sends_text, shown_text}
use Rattle.schedule_replay.specs.HistoryShown.{message_in, outcome_shown}
use Rattle.schedule_replay.specs.ActShown.{won_term, state_committed, message_sent, act_shown}
use Rattle.schedule_replay.specs.ClusterParts.{act_text}

-- ---- the text of an act

outcome_text : (n : Id) (o : Outcome) (act : Act) → is_opening act ≡ false → outcome_line n o act ≡ act_line n (ending_of o) act
outcome_text n o (Open found) shut = cc
outcome_text n o act shut = refl

won_text_is : (n : Id) (act : Act) (o : Outcome) → won_line n act o ≡ won_by (won_term act o) n
won_text_is n (TakeJoin j) o = from (wins o)
  where
    from : (b : Bool) → won_text b n j.term ≡ won_by (cond b (Some j.term) None) n
    from true = refl
    from false = refl
won_text_is n act o = refl

committed_text_is : (o : Outcome) (published : Option ClusterState) → committed_line o published ≡ committed_text (state_committed o published)
committed_text_is (Answered (Taken (Some (CommitMessage c)) w)) published = refl
committed_text_is o published = refl

sent_text_is : (number : ℕ) (o : Outcome) → sent_line number o ≡ sends_text (message_sent number o)
sent_text_is number (Answered (Taken (Some m) w)) = refl
sent_text_is number o = refl

-- what an act writes is the text of what it shows
pub results_shown : (count : ℕ) (published : Option ClusterState) (n : Id) (act : Act) (o : Outcome) → is_opening act ≡ false → results count published n act o ≡ shown_text (act_shown count published n act o)
results_shown count published n act o shut =
    λ i. outcome_text n o act shut i ++ (won_text_is n act o i ++ (committed_text_is o published i ++ sent_text_is (count + 1) o i))

-- ---- the outcome of an act that is shown

-- no reply but that to a join wins
pub no_win : (me : Id) (g : NodeHistory) (act : Act) (s : Option Message) (w : Bool) → is_opening act ≡ false → Taken s w ≡ reply_of me g act → is_won (won_term act (Answered (Taken s w))) ≡ w
no_win me g (TakeJoin j) s true shut h = refl
no_win me g (TakeJoin j) s false shut h = refl
no_win me g (Bootstrap config) s w shut h = sym (boot_guard me g config s w h).flag
no_win me g (StartJoin candidate term) s w shut h = sym (start_guard me g candidate term s w h).flag
no_win me g (Value version config value) s w shut h = sym (value_guard me g version config value s w h).flag
no_win me g (Publish r) s w shut h = sym (publish_guard me g r s w h).flag
no_win me g (Response r) s w shut h = sym (response_guard me g r s w h).flag
no_win me g (Commit c) s w shut h = sym (commit_guard me g c s w h).flag
no_win me g (Open found) s w shut h = cc

message_is : (number : ℕ) (s : Option Message) (w : Bool) → message_in (message_sent number (Answered (Taken s w))) ≡ s
message_is number None w = refl
message_is number (Some m) w = refl

-- the outcome that an act of this node shows
abbrev pub ShowsOutcome : Id → Act → Outcome → Type 0
ShowsOutcome n act o = (number : ℕ) → outcome_shown (ending_of o) (won_term act o) (message_sent number o) ≡ o

reply_shown : (me : Id) (g : NodeHistory) (act : Act) (reply : ActReply) → is_opening act ≡ false → reply ≡ reply_of me g act → ShowsOutcome me act (Answered reply)
reply_shown me g act (Taken s w) shut h number = λ i. Answered (Taken (message_is number s w i) (no_win me g act s w shut h i))
reply_shown me g act (Refused cause) shut h number = refl
reply_shown me g act Stopped shut h number = refl

pub outcome_shows : (me : Id) (g : NodeHistory) (act : Act) (end : CallsEnd) → is_opening act ≡ false → ShowsOutcome me act (outcome_by end (reply_of me g act))
outcome_shows me g act Done shut = reply_shown me g act (reply_of me g act) shut refl
outcome_shows me g act Failed shut = λ number. refl
outcome_shows me g act (CrashedIn way) shut = λ number. refl

-- ---- of whole nodes, where frames are shown in place of the message

pub cluster_act_shown : (count : ℕ) (published : Option ClusterState) (n : Id) (act : Act) (o : Outcome) → is_opening act ≡ false → act_lines n published act o ≡ act_text (act_shown count published n act o)
cluster_act_shown count published n act o shut = λ i. outcome_text n o act shut i ++ won_text_is n act o i ++ committed_text_is o published i
