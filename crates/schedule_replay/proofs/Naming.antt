-- The configurations that are published in a schedule are of its nodes, so a line may name them again.
use Rattle.std.proofs.Common.{◌≡◌, ℕ, zero, suc, Bool, true, false, ◌&&◌, ◌⊎◌, inl, inr, Option, None, Some, List, [], ◌∷◌, ◌++◌, refl, sym, ◌∙◌, ap, subst, append-nil, slice_get, if◌then◌else◌}
use Rattle.std.specs.List.{AllByRecursion, Contains}
use Rattle.std.proofs.lemmas.Option.{slice_get-get_or}
use Rattle.voting_config.specs.Ids.{Id, are_among, is_quorum_of}
use Rattle.voting_config.specs.Lists.{are_ids_after}
use Rattle.cluster_state.specs.declared.state.ClusterState.{ClusterState}
use Rattle.cluster_state.specs.declared.state.Kept.{Kept}
use Rattle.cluster_state.specs.Initial.{initial_state}
use Rattle.world_model.specs.declared.acts.Act.{Act}
use Rattle.world_model.specs.declared.acts.Act.TheVariants.{Bootstrap, StartJoin, Value}
use Rattle.world_model.specs.declared.acts.ActReply.{ActReply}
use Rattle.world_model.specs.declared.acts.ActReply.TheVariants.{Taken, Refused, Stopped}
use Rattle.world_model.specs.declared.acts.Message.{Message}
use Rattle.world_model.specs.declared.acts.Message.TheVariants.{Join as JoinMessage, Publish as PublishMessage, Response as ResponseMessage, Commit as CommitMessage}
use Rattle.world_model.specs.declared.acts.Outcome.TheVariants.{Answered}
use Rattle.world_model.specs.Acts.{NodeHistory}
use Rattle.world_model.specs.NodeState.{accepted_of}
use Rattle.world_model.specs.Histories.{History, node_history, sent, sent_by, IsLegal}
use Rattle.world_model.specs.Replies.{reply_of}
use Rattle.world_model.proofs.System.{IsSystem, Origin, origin}
use Rattle.world_model.proofs.Durable.{IsAcceptedIn, accepted_origin, quorum_named}
use Rattle.world_model.proofs.Legal.{sent_to, system_of_legal}
use Rattle.schedule_text.specs.declared.schedule.Line.{Line}
use Rattle.schedule_text.specs.declared.schedule.Line.TheVariants as line
use Rattle.schedule_text.specs.declared.level.Level.TheVariants.{Core}
use Rattle.schedule_text.specs.Lines.{FitsLine}
use Rattle.replay_node.specs.NodeDisk.{CallsEnd, Done, Failed, CrashedIn, opening}
use Rattle.replay_node.specs.NodeWorld.{act_called, found_at, needs_opening, outcome_at, outcome_by}
use Rattle.replay_node.specs.Sent.{taking}
use Rattle.world_model.specs.Settled.{is_kept, settled_for}
use Rattle.replay_node.specs.Worlds.{World, did, did_unless_down, fresh_world, history_opened, node_world, opened, restarted}
use Rattle.world_model.proofs.AllSettled.{settled_sent}
use Rattle.replay_node.proofs.Moves.{history_if}
use Rattle.schedule_replay.specs.Replayed.{after, message_at, replayed_from, took_some, value_with}

-- a configuration that a line of these nodes may name
abbrev pub IsNamed : List Id → List Id → Type 0
IsNamed nodes config = (are_ids_after [] config && are_among nodes config) ≡ true

abbrev NamesAct : List Id → Act → Type 0
NamesAct nodes (Value version config value) = IsNamed nodes config
NamesAct nodes other = Unit {0}

abbrev NamesMessage : List Id → Message → Type 0
NamesMessage nodes (PublishMessage r) = IsNamed nodes r.state.config
NamesMessage nodes other = Unit {0}

-- from w on nothing was sent, or what an act of a node sends
record ActSends (nodes : List Id) (w v : World) : Type 0 where
  node : Id
  act : Act
  names : NamesAct nodes act
  sends : sent v.history ≡ sent w.history ++ sent_by (outcome_at node (node_world w node) act)

abbrev Sends : List Id → World → World → Type 0
Sends nodes w v = (sent w.history ≡ sent v.history) ⊎ ActSends nodes w v

act_sends : (nodes : List Id) (w : World) (n : Id) (act : Act) → NamesAct nodes act → Sends nodes w (did_unless_down w n act)
act_sends nodes w n act names = from (w.down n)
  where
    from : (b : Bool) → Sends nodes w (if b then w else did w n act)
    from true = inl refl
    from false = inr (record { node = n; act = act; names = names; sends = refl })

taking_names : (nodes : List Id) (m : Message) → NamesAct nodes (taking m)
taking_names nodes (JoinMessage j) = tt
taking_names nodes (PublishMessage r) = tt
taking_names nodes (ResponseMessage r) = tt
taking_names nodes (CommitMessage c) = tt

taken_sends : (nodes : List Id) (w : World) (n : Id) (m : Option Message) → Sends nodes w (took_some w n m)
taken_sends nodes w n None = inl refl
taken_sends nodes w n (Some m) = act_sends nodes w n (taking m) (taking_names nodes m)

opened_sent : (h : History) (n : Id) (found : Kept) (end : CallsEnd) → sent h ≡ sent (history_opened end h n found)
opened_sent h n found Failed = refl
opened_sent h n found (CrashedIn way) = refl
opened_sent h n found Done =
    let k : Bool = is_kept (node_history h n) found in
    sym (append-nil (sent (settled_for n k h)) ∙ settled_sent n k h)

restart_sends : (nodes : List Id) (w : World) (n : Id) → Sends nodes w (restarted w n)
restart_sends nodes w n = from (needs_opening (node_world w n))
  where
    from : (b : Bool) → Sends nodes w (if b then opened w n else w)
    from false = inl refl
    from true = inl (opened_sent w.history n (found_at (node_world w n)) (opening (w.disks n)).ended)

line_sends : (nodes initial : List Id) (w : World) (l : Line) → FitsLine Core nodes l → Sends nodes w (after initial w l)
line_sends nodes initial w (line.Boot n) f = act_sends nodes w n (Bootstrap initial) tt
line_sends nodes initial w (line.StartJoin n candidate term) f = act_sends nodes w n (StartJoin candidate term) tt
line_sends nodes initial w (line.Value n version text config) f = act_sends nodes w n (Value version config (value_with text)) f.3
line_sends nodes initial w (line.Deliver n number) f = taken_sends nodes w n (message_at w number)
line_sends nodes initial w (line.Crash n way) f = inl (ap sent (history_if w _ (w.down n) refl))
line_sends nodes initial w (line.Restart n) f = restart_sends nodes w n
line_sends nodes initial w (line.Fuse n count way) f = inl refl
line_sends nodes initial w (line.Fail n count) f = inl refl
line_sends nodes initial w (line.Tick n now word) f = inl refl
line_sends nodes initial w (line.Client n bytes) f = inl refl
line_sends nodes initial w (line.Disconnect n peer) f = inl refl

-- ---- the configurations

all_more : (P : Message → Type 0) (ms ns : List Message) → AllByRecursion P ms → AllByRecursion P ns → AllByRecursion P (ms ++ ns)
all_more P [] ns f g = g
all_more P (m ∷ ms) ns f g = (f.0, all_more P ms ns f.1 g)

message_names : (nodes : List Id) (me : Id) (g : NodeHistory) (act : Act) (m : Message) → NamesAct nodes act → Origin me g act m → NamesMessage nodes m
message_names nodes me g act (JoinMessage j) names by = tt
message_names nodes me g act (PublishMessage r) names by = subst (NamesAct nodes) by.act_is names
message_names nodes me g act (ResponseMessage r) names by = tt
message_names nodes me g act (CommitMessage c) names by = tt

reply_names : (nodes : List Id) (me : Id) (g : NodeHistory) (act : Act) (reply : ActReply) → NamesAct nodes act → reply ≡ reply_of me g act → AllByRecursion (NamesMessage nodes) (sent_by (Answered reply))
reply_names nodes me g act (Taken (Some m) wins) names is = (message_names nodes me g act m names (origin me g act m wins is), tt)
reply_names nodes me g act (Taken None wins) names is = tt
reply_names nodes me g act (Refused cause) names is = tt
reply_names nodes me g act Stopped names is = tt

outcome_names : (nodes : List Id) (end : CallsEnd) (reply : ActReply) → AllByRecursion (NamesMessage nodes) (sent_by (Answered reply)) → AllByRecursion (NamesMessage nodes) (sent_by (outcome_by end reply))
outcome_names nodes Done reply f = f
outcome_names nodes Failed reply f = tt
outcome_names nodes (CrashedIn way) reply f = tt

all_named : (nodes : List Id) (w v : World) → Sends nodes w v → AllByRecursion (NamesMessage nodes) (sent w.history) → AllByRecursion (NamesMessage nodes) (sent v.history)
all_named nodes w v (inl e) f = subst (AllByRecursion (NamesMessage nodes)) e f
all_named nodes w v (inr s) f =
    let g : NodeHistory = node_history w.history s.node in
    subst (AllByRecursion (NamesMessage nodes)) (sym s.sends)
    (all_more (NamesMessage nodes) (sent w.history) _ f
    (outcome_names nodes (act_called s.node (node_world w s.node) s.act).ended (reply_of s.node g s.act) (reply_names nodes s.node g s.act (reply_of s.node g s.act) s.names refl)))

lines_named : (nodes initial : List Id) (w : World) (ls : List Line) → AllByRecursion (FitsLine Core nodes) ls → AllByRecursion (NamesMessage nodes) (sent w.history) → AllByRecursion (NamesMessage nodes) (sent (replayed_from initial w ls).history)
lines_named nodes initial w [] f named = named
lines_named nodes initial w (l ∷ ls) f named =
    lines_named nodes initial (after initial w l) ls f.1 (all_named nodes w (after initial w l) (line_sends nodes initial w l f.0) named)

named_at : (nodes : List Id) (ms : List Message) (k : ℕ) (m : Message) → AllByRecursion (NamesMessage nodes) ms → slice_get ms k ≡ Some m → NamesMessage nodes m
named_at nodes [] k m f e = absurd (cc)
named_at nodes (x ∷ xs) zero m f e = let is : x ≡ m = cc in subst (NamesMessage nodes) is f.0
named_at nodes (x ∷ xs) (suc k) m f e = named_at nodes xs k m f.1 e

named_in : (nodes : List Id) (ms : List Message) (m : Message) → AllByRecursion (NamesMessage nodes) ms → Contains ms m → NamesMessage nodes m
named_in nodes ms m f c = named_at nodes ms c.0 m f (slice_get-get_or ms c.0 m c.1 ∙ ap (λ (x : Message). Some x) c.2)

-- the configuration that a node has accepted, where it has a quorum
module _ (nodes initial : List Id) (w : World) (legal : IsLegal initial w.history) (named : AllByRecursion (NamesMessage nodes) (sent w.history)) (first : IsNamed nodes initial) where
  accepted_named : (n : Id) (votes : List Id) → is_quorum_of (accepted_of (node_history w.history n)).config votes ≡ true → IsNamed nodes (accepted_of (node_history w.history n)).config
  accepted_named n votes quorum = from (accepted_origin (node_history w.history) (initial_state initial) W n (node_history w.history n) (W n))
    where
      W : IsSystem (node_history w.history) (initial_state initial)
      W = system_of_legal initial w.history legal

      from : IsAcceptedIn (node_history w.history) (initial_state initial) (accepted_of (node_history w.history n)) → IsNamed nodes (accepted_of (node_history w.history n)).config
      from (inl e) = absurd (quorum_named _ votes quorum (ap (λ (s : ClusterState). s.config) e))
      from (inr (inl e)) = subst (λ (s : ClusterState). IsNamed nodes s.config) (sym e.0) first
      from (inr (inr p)) =
          subst (λ (s : ClusterState). IsNamed nodes s.config) p.is_state
          (named_in nodes (sent w.history) (PublishMessage p.request) named (sent_to w.history p.request.source (PublishMessage p.request) p.is_sent))

pub config_named : (nodes initial : List Id) (ls : List Line) → AllByRecursion (FitsLine Core nodes) ls → IsNamed nodes initial → IsLegal initial (replayed_from initial fresh_world ls).history
    → (n : Id) (votes : List Id) → is_quorum_of (accepted_of (node_history (replayed_from initial fresh_world ls).history n)).config votes ≡ true
    → IsNamed nodes (accepted_of (node_history (replayed_from initial fresh_world ls).history n)).config
config_named nodes initial ls f first legal n votes quorum =
    accepted_named nodes initial (replayed_from initial fresh_world ls) legal (lines_named nodes initial fresh_world ls f tt) first n votes quorum
