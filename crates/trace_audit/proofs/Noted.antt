-- What is noted of each entry.
use Rattle.std.proofs.Common.{◌≡◌, ℕ, Bool, true, false, cond, Option, None, Some, List, [], ◌∷◌, ◌++◌, refl, sym, ◌∙◌, ap, subst, append-nil, map}
use Rattle.std.proofs.lemmas.List.{map-append}
use Rattle.voting_config.specs.Ids.{Id}
use Rattle.cluster_state.specs.declared.messages.ApplyCommit.{ApplyCommit}
use Rattle.world_model.specs.declared.acts.ActReply.TheVariants.{Taken, Refused, Stopped}
use Rattle.world_model.specs.declared.acts.Act.{Act}
use Rattle.world_model.specs.declared.acts.Outcome.{Outcome}
use Rattle.world_model.specs.declared.acts.Message.{Message}
use Rattle.world_model.specs.declared.acts.Cause.{Cause}
use Rattle.world_model.specs.Acts.{wins}
use Rattle.world_model.specs.declared.acts.Message.TheVariants.{Join as JoinMessage, Publish as PublishMessage, Response as ResponseMessage, Commit as CommitMessage}
use Rattle.world_model.specs.declared.acts.Outcome.TheVariants.{Answered, Disk, Crashed}
use Rattle.world_model.specs.NodeState.{term_of}
use Rattle.world_model.specs.Histories.{History, Next, node_history, sent, sent_by, IsLegal}
use Rattle.world_model.specs.Safety.{Published, winners, published, published_by}
use Rattle.world_model.specs.Settled.{settled_for}
use Rattle.world_model.proofs.AllSettled.{settled_sent}
use Rattle.trace_audit.specs.declared.notes.Notes.{Notes}
use Rattle.trace_audit.specs.declared.verdict.Winner.{Winner}
use Rattle.trace_audit.specs.Places.{IsSentOf}
use Rattle.trace_audit.specs.Verdicts.{winner_of, winners_of, commit_of}
use Rattle.trace_audit.specs.Stands.{AreNotes, NotesOf, commits_by, winners_by, messages_by}
use Rattle.world_model.proofs.SettledLists.{settled_winners, settled_publications}

-- notes of the same lists
pub same_notes : (n : Notes) (ms ns : List Message) (ws vs : List Winner) (cs ds : List ApplyCommit) → ms ≡ ns → ws ≡ vs → cs ≡ ds → AreNotes n ms ws cs → AreNotes n ns vs ds
same_notes n ms ns ws vs cs ds e f g a = record {
  sent = subst (λ (l : List Message). IsSentOf n.sent l) e a.sent;
  winners = a.winners ∙ f;
  published = a.published ∙ g;
}

messages_are : (sends : Option Message) (w : Bool) → messages_by sends ≡ sent_by (Answered (Taken sends w))
messages_are None w = refl
messages_are (Some m) w = refl

wins_are : (h : History) (n : Id) (act : Act) (sends : Option Message) (term : ℕ) (w : Bool) → (w ≡ true → term ≡ term_of (node_history h n)) → winners_of h ++ winners_by n term w ≡ winners_of (Next h n act (Answered (Taken sends w)))
wins_are h n act sends term false e = append-nil (winners_of h)
wins_are h n act sends term true e =
    ap (λ (t : ℕ). winners_of h ++ record { node = n; term = t } ∷ []) (e refl)
    ∙ sym (map-append winner_of (winners h) (record { node = n; term = term_of (node_history h n) } ∷ []))

commits_are : (h : History) (n : Id) (act : Act) (sends : Option Message) (w : Bool) → map commit_of (published h) ++ commits_by n sends ≡ map commit_of (published (Next h n act (Answered (Taken sends w))))
commits_are h n act None w = sym (map-append commit_of (published h) [])
commits_are h n act (Some (PublishMessage r)) w = sym (map-append commit_of (published h) (published_by h n (Answered (Taken (Some (PublishMessage r)) w))))
commits_are h n act (Some (JoinMessage j)) w = sym (map-append commit_of (published h) [])
commits_are h n act (Some (ResponseMessage r)) w = sym (map-append commit_of (published h) [])
commits_are h n act (Some (CommitMessage c)) w = sym (map-append commit_of (published h) [])

pub noted : (a : Notes) (h : History) (n : Id) (act : Act) (sends : Option Message) (term : ℕ) (w : Bool) → (w ≡ true → term ≡ term_of (node_history h n))
    → AreNotes a (sent h ++ messages_by sends) (winners_of h ++ winners_by n term w) (map commit_of (published h) ++ commits_by n sends) → NotesOf a (Next h n act (Answered (Taken sends w)))
noted a h n act sends term w e k =
    same_notes a _ _ _ _ _ _ (ap (λ (l : List Message). sent h ++ l) (messages_are sends w)) (wins_are h n act sends term w e) (commits_are h n act sends w) k

-- an act that was not taken, of which nothing is noted
record IsQuiet (o : Outcome) : Type 0 where
  sends : sent_by o ≡ []
  wins : wins o ≡ false
  publishes : (h : History) (n : Id) → published_by h n o ≡ []

quietly : (a : Notes) (h : History) (n : Id) (act : Act) (o : Outcome) → IsQuiet o → NotesOf a h → NotesOf a (Next h n act o)
quietly a h n act o q k =
    same_notes a _ _ _ _ _ _
    (sym (ap (λ (l : List Message). sent h ++ l) q.sends ∙ append-nil (sent h)))
    (ap (λ (b : Bool). map winner_of (cond b (winners h ++ record { node = n; term = term_of (node_history h n) } ∷ []) (winners h))) (sym q.wins))
    (ap (map commit_of) (sym (ap (λ (l : List Published). published h ++ l) (q.publishes h n) ∙ append-nil (published h)))) k

pub quiet_plain : (a : Notes) (h : History) (n : Id) (act : Act) → NotesOf a h → NotesOf a (Next h n act (Answered (Taken None false)))
quiet_plain a h n act k = quietly a h n act (Answered (Taken None false)) (record { sends = refl; wins = refl; publishes = λ h n. refl }) k

-- where an act that was struck is settled, the notes stay
pub settled_notes : (initial : List Id) (a : Notes) (h : History) (n : Id) (k : Bool) → IsLegal initial h → NotesOf a h → NotesOf a (settled_for n k h)
settled_notes initial a h n k l x =
    same_notes a _ _ _ _ _ _ (sym (settled_sent n k h)) (ap (map winner_of) (sym (settled_winners initial h n k l))) (ap (map commit_of) (sym (settled_publications initial h n k l))) x
