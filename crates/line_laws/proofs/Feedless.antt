-- No line feed stands in what a line tells.
use Rattle.std.proofs.Common.{◌≡◌, ℕ, true, false, not, Option, None, Some, List, [], ◌∷◌, ◌++◌, IsTrue, refl, codes, decimal, arith}
use Rattle.std.specs.Prelude.{◌==◌}
use Rattle.std.specs.List.{list_all}
use Rattle.std.proofs.lemmas.Bool.{and_parts, and_from}
use Rattle.voting_config.specs.Ids.{Id, is_id}
use Rattle.cluster_state.specs.declared.state.ClusterState.{ClusterState}
use Rattle.cluster_state.specs.declared.state.StateId.{StateId}
use Rattle.cluster_state.specs.declared.reply.Reply.{Reply}
use Rattle.cluster_state.specs.Json.{state_json, value_json}
use Rattle.client_lines.specs.Replies.{reply_json, reply_text, text_of}
use Rattle.serde_json.specs.Written.{compact_text}
use Rattle.world_model.specs.declared.acts.Act.{Act}
use Rattle.world_model.specs.declared.acts.Act.TheVariants.{Bootstrap, StartJoin, TakeJoin, Value, Publish, Response, Commit, Open}
use Rattle.world_model.specs.declared.acts.Message.{Message}
use Rattle.world_model.specs.declared.acts.Message.TheVariants.{Join as JoinMessage, Publish as PublishMessage, Response as ResponseMessage, Commit as CommitMessage}
use Rattle.wire_frames.specs.declared.frame.WireMessage.{WireMessage as FrameMessage}
use Rattle.wire_frames.specs.declared.frame.WireMessage.TheVariants as frame
use Rattle.voting_config.specs.Lists.{list_text}
use Rattle.schedule_text.proofs.WordLaws.{lacks, id_plain, join_all}
use Rattle.trace_text.specs.Trace.{act_text, id_text, message_text, state_text}
use Rattle.event_text.specs.Frames.{message_text as frame_text, master_text}
use Rattle.line_laws.specs.Fits.{AreIds, FitsMaster, FitsAct, FitsFrameMessage}
use Rattle.line_laws.proofs.Plain.{plain_lacks}
use Rattle.line_laws.proofs.Json.{both, data_feedless, digits_feedless}

-- ---- pieces

-- pieces behind a text, one after the other
abbrev pub glue : List ℕ → List (List ℕ) → List ℕ
glue text [] = text
glue text (p ∷ ps) = glue (text ++ p) ps

-- no line feed stands in any of them
abbrev pub AreFeedless : List (List ℕ) → Type 0
AreFeedless [] = Unit {0}
AreFeedless (p ∷ ps) = (lacks 10 p ≡ true) × AreFeedless ps

pub glued : (text : List ℕ) (pieces : List (List ℕ)) → lacks 10 text ≡ true → AreFeedless pieces → lacks 10 (glue text pieces) ≡ true
glued text [] h k = h
glued text (p ∷ ps) h k = glued (text ++ p) ps (both text p h k.0) k.1

pub id_feedless : (n : Id) → IsTrue (is_id n) → lacks 10 n ≡ true
id_feedless n h = plain_lacks 10 (omega arith) n (id_plain n h)

each_feedless : (ids : List Id) → AreIds ids → list_all (lacks 10) ids ≡ true
each_feedless [] h = refl
each_feedless (n ∷ ns) h = let parts = and_parts (is_id n) _ h in and_from (lacks 10 n) (list_all (lacks 10) ns) (id_feedless n parts.0) (each_feedless ns parts.1)

pub list_feedless : (ids : List Id) → AreIds ids → lacks 10 (list_text ids) ≡ true
list_feedless [] h = refl
list_feedless (n ∷ ns) h = join_all (λ b. not (b == 10)) 44 refl (n ∷ ns) (each_feedless (n ∷ ns) h)

pub pair_feedless : (term version : ℕ) → lacks 10 (id_text term version) ≡ true
pair_feedless term version = both (decimal term ++ codes "/") (decimal version) (both (decimal term) (codes "/") (digits_feedless term) refl) (digits_feedless version)

pub state_feedless : (s : ClusterState) → lacks 10 (state_text s) ≡ true
state_feedless s = data_feedless (state_json s)

-- ---- acts and messages

pub act_feedless : (a : Act) → FitsAct a → lacks 10 (act_text a) ≡ true
act_feedless (Bootstrap config) h = list_feedless config h
act_feedless (StartJoin candidate term) h = glued candidate (codes " " ∷ decimal term ∷ []) (id_feedless candidate h) (refl, ((digits_feedless term), tt))
act_feedless (TakeJoin j) h =
    glued j.source (codes " " ∷ j.target ∷ codes " " ∷ decimal j.term ∷ codes " " ∷ id_text j.last_term j.last_version ∷ []) (id_feedless j.source h.0)
    (refl, ((id_feedless j.target h.1), (refl, ((digits_feedless j.term), (refl, ((pair_feedless j.last_term j.last_version), tt))))))
act_feedless (Value version config value) h =
    glued (decimal version) (codes " " ∷ list_text config ∷ codes " " ∷ compact_text (value_json value) ∷ []) (digits_feedless version)
    (refl, ((list_feedless config h), (refl, ((data_feedless (value_json value)), tt))))
act_feedless (Publish r) h = glued r.source (codes " " ∷ state_text r.state ∷ []) (id_feedless r.source h) (refl, ((state_feedless r.state), tt))
act_feedless (Response r) h =
    glued r.source (codes " " ∷ r.target ∷ codes " " ∷ id_text r.term r.version ∷ []) (id_feedless r.source h.0)
    (refl, ((id_feedless r.target h.1), (refl, ((pair_feedless r.term r.version), tt))))
act_feedless (Commit c) h = glued c.source (codes " " ∷ id_text c.term c.version ∷ []) (id_feedless c.source h) (refl, ((pair_feedless c.term c.version), tt))
act_feedless (Open found) h = refl

pub message_feedless : (m : Message) → lacks 10 (message_text m) ≡ true
message_feedless (JoinMessage j) = glued (decimal j.term) (codes " " ∷ id_text j.last_term j.last_version ∷ []) (digits_feedless j.term) (refl, ((pair_feedless j.last_term j.last_version), tt))
message_feedless (PublishMessage r) = state_feedless r.state
message_feedless (ResponseMessage r) = pair_feedless r.term r.version
message_feedless (CommitMessage c) = pair_feedless c.term c.version

master_feedless : (m : Option Id) → FitsMaster m → lacks 10 (master_text m) ≡ true
master_feedless None h = refl
master_feedless (Some master) h = id_feedless master h

-- a number and an id of a state
term_and_id : (term : ℕ) (id : StateId) → lacks 10 (glue (decimal term) (codes " " ∷ id_text id.term id.version ∷ [])) ≡ true
term_and_id term id = glued (decimal term) (codes " " ∷ id_text id.term id.version ∷ []) (digits_feedless term) (refl, ((pair_feedless id.term id.version), tt))

pub frame_feedless : (m : FrameMessage) → FitsFrameMessage m → lacks 10 (frame_text m) ≡ true
frame_feedless (frame.StartJoin candidate term) h = glued candidate (codes " " ∷ decimal term ∷ []) (id_feedless candidate h) (refl, ((digits_feedless term), tt))
frame_feedless (frame.Join term last) h = term_and_id term last
frame_feedless (frame.Publish state) h = state_feedless state
frame_feedless (frame.Response id) h = pair_feedless id.term id.version
frame_feedless (frame.Commit id) h = pair_feedless id.term id.version
frame_feedless (frame.JoinAsk term) h = digits_feedless term
frame_feedless (frame.PeersAsk known) h = list_feedless known h
frame_feedless (frame.PeersAnswer master term known) h =
    glued (master_text master) (codes " " ∷ decimal term ∷ codes " " ∷ list_text known ∷ []) (master_feedless master h.0)
    (refl, ((digits_feedless term), (refl, ((list_feedless known h.1), tt))))
frame_feedless frame.PreVoteAsk h = refl
frame_feedless (frame.PreVoteAnswer term last) h = term_and_id term last
frame_feedless (frame.PreVoteRefuse leader) h = id_feedless leader h
frame_feedless (frame.FollowerCheck term) h = digits_feedless term
frame_feedless (frame.FollowerAnswer true term applied) h = term_and_id term applied
frame_feedless (frame.FollowerAnswer false term applied) h = term_and_id term applied
frame_feedless (frame.LeaderCheck term) h = digits_feedless term
frame_feedless (frame.LeaderAnswer true) h = refl
frame_feedless (frame.LeaderAnswer false) h = refl

-- ---- replies

pub reply_feedless : (r : Reply) → lacks 10 (reply_text r) ≡ true
unfolding text_of
reply_feedless r = data_feedless (reply_json r)
