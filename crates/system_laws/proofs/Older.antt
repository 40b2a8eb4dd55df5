-- What happens in a system of nodes whose journals were begun before states had parents is safe, if read without parents.
use Rattle.std.proofs.Common.{◌≡◌, ◌≢◌, Bool, true, false, cond, ◌⊎◌, inl, inr, None, List, [], refl, sym, ◌∙◌, ap, subst}
use Rattle.std.specs.List.{Contains}
use Rattle.std.proofs.lemmas.List.Elements.{Contains-append_left, Contains-append_right, Contains-append_cases}
use Rattle.voting_config.specs.Ids.{Id, same}
use Rattle.voting_config.proofs.Sets.{same_is}
use Rattle.cluster_state.specs.declared.state.Kept.{Kept}
use Rattle.world_model.specs.declared.acts.Act.{Act}
use Rattle.world_model.specs.declared.acts.Act.TheVariants.{Bootstrap, StartJoin, TakeJoin, Value, Publish, Response, Commit, Open}
use Rattle.world_model.specs.declared.acts.Message.{Message}
use Rattle.world_model.specs.declared.acts.ActReply.TheVariants.{Taken}
use Rattle.world_model.specs.declared.acts.Outcome.{Outcome}
use Rattle.world_model.specs.declared.acts.Outcome.TheVariants.{Answered, Disk, Crashed}
use Rattle.world_model.specs.Acts.{NodeHistory, NoActs, Then}
use Rattle.world_model.specs.NodeState.{NodeState, node_state, durable_of}
use Rattle.world_model.specs.Replies.{IsOutcomeAt}
use Rattle.world_model.specs.Histories.{History, NoEntries, Next, node_history, sent, sent_by, is_down, IsSourced, MayHappen}
use Rattle.world_model.specs.Moves.{node_state_after, node_state-Then, is_opening}
use Rattle.world_model.specs.Bare.{GoesOn}
use Rattle.world_model.proofs.Legal.{own_deeds, none_of}
use Rattle.world_model.proofs.Forgetting.{forgotten}
use Rattle.agreement.proofs.Laws.{safe_before}
use Rattle.policy_model.specs.declared.settings.Settings.{Settings}
use Rattle.policy_model.specs.Entries.{Did, Gone, Bad, NoMemory, Unread, NotBegun, Opened}
use Rattle.system_laws.specs.Systems.{System, Nothing, Starts, Lives, Dies, Runs, run_of, history_of, frames_sent, TakesSentFrames}
use Rattle.system_laws.specs.OlderSystems.{followed_by, MayStartAfter, AreRunsAfter, LawOlderSystemIsSafe}
use Rattle.system_laws.proofs.Stepping.{continues-always, Rule, acted-next}
use Rattle.system_laws.proofs.Assembly.{IsSound, sent-more, run-other, node_state-opened, event-sound, idle-sound, die-sound}

-- ---- a node since the older history

-- Since then a node did nothing, or what it is follows from what it did since; and whether it is down is told by its last act.
pub record IsNewer (whole since : NodeHistory) : Type 0 where
  pub node : node_state whole ≡ node_state since
  pub down : is_down whole ≡ is_down since

abbrev pub MayBeNewer : NodeHistory → NodeHistory → Type 0
MayBeNewer whole since = (since ≡ NoActs) ⊎ IsNewer whole since

last_down : (x y : NodeHistory) (a : Act) (o : Outcome) → is_down (Then x a o) ≡ is_down (Then y a o)
last_down x y a (Answered r) = refl
last_down x y a (Disk k) = refl
last_down x y a (Crashed k) = refl

newer-act : (x y : NodeHistory) (a : Act) (o : Outcome) → is_opening a ≡ false → IsNewer x y → IsNewer (Then x a o) (Then y a o)
newer-act x y a o e n = record {
  node = node_state-Then x a o e ∙ (ap (λ (p : NodeState). node_state_after p a o) n.node ∙ sym (node_state-Then y a o e));
  down = last_down x y a o;
}

newer : (x y : NodeHistory) → y ≢ NoActs → MayBeNewer x y → IsNewer x y
newer x y acted (inl none) = absurd (acted none)
newer x y acted (inr n) = n

-- an opening by what the node kept makes it so
kept-of : (x y : NodeHistory) → IsNewer x y → durable_of x ≡ durable_of y
kept-of x y n = ap (λ (p : NodeState). record { term = p.term; accepted = p.accepted; committed = p.committed }) n.node

opened-alike : (x y : NodeHistory) (found : Kept) → found ≡ durable_of x → MayBeNewer x y
    → node_state (Then y (Open found) (Answered (Taken None false))) ≡ node_state (Then NoActs (Open found) (Answered (Taken None false)))
opened-alike x y found k (inl none) = ap (λ (g : NodeHistory). node_state (Then g (Open found) (Answered (Taken None false)))) none
opened-alike x y found k (inr n) = node_state-opened y found (k ∙ kept-of x y n)

newer-opened : (x y : NodeHistory) (found : Kept) → found ≡ durable_of x → MayBeNewer x y
    → IsNewer (Then x (Open found) (Answered (Taken None false))) (Then y (Open found) (Answered (Taken None false)))
newer-opened x y found k m = record { node = node_state-opened x found k ∙ sym (opened-alike x y found k m); down = refl }

-- ---- the whole history

module _ (initial : List Id) (older : History) where
  -- the older history goes on by it, and each node is so
  pub record GoesOnWith (k : History) : Type 0 where
    pub goes_on : GoesOn initial older (followed_by older k)
    pub nodes : (n : Id) → MayBeNewer (node_history (followed_by older k) n) (node_history k n)

  sent-since : (k : History) (m : Message) → Contains (sent k) m → Contains (sent (followed_by older k)) m
  sent-since NoEntries m c = none_of m c
  sent-since (Next k n a o) m c = from (Contains-append_cases (sent k) (sent_by o) m c) (sent-since k m)
    where
      from : Contains (sent k) m ⊎ Contains (sent_by o) m → (Contains (sent k) m → Contains (sent (followed_by older k)) m)
          → Contains (sent (followed_by older (Next k n a o))) m
      from (inl before) still = Contains-append_left (sent (followed_by older k)) (sent_by o) m (still before)
      from (inr now) still = Contains-append_right (sent (followed_by older k)) (sent_by o) m now

  sourced-since : (k : History) (a : Act) → IsSourced initial (sent k) a → IsSourced initial (sent (followed_by older k)) a
  sourced-since k (Bootstrap config) s = s
  sourced-since k (StartJoin candidate term) s = tt
  sourced-since k (TakeJoin join) s = sent-since k _ s
  sourced-since k (Value version config value) s = tt
  sourced-since k (Publish request) s = sent-since k _ s
  sourced-since k (Response response) s = sent-since k _ s
  sourced-since k (Commit commit) s = sent-since k _ s
  sourced-since k (Open found) s = tt

  -- one more act of a node that is so after it
  more : (k : History) (n : Id) (a : Act) (o : Outcome) (m : Id)
      → IsNewer (Then (node_history (followed_by older k) n) a o) (Then (node_history k n) a o) → MayBeNewer (node_history (followed_by older k) m) (node_history k m)
      → MayBeNewer (node_history (Next (followed_by older k) n a o) m) (node_history (Next k n a o) m)
  more k n a o m mine theirs = from (same n m) refl
    where
      from : (b : Bool) → same n m ≡ b
          → MayBeNewer (cond b (Then (node_history (followed_by older k) m) a o) (node_history (followed_by older k) m)) (cond b (Then (node_history k m) a o) (node_history k m))
      from true e = inr (subst (λ (x : Id). IsNewer (Then (node_history (followed_by older k) x) a o) (Then (node_history k x) a o)) (same_is n m e) mine)
      from false e = theirs

  grows : (k : History) (n : Id) (a : Act) (o : Outcome) → GoesOnWith k → node_history k n ≢ NoActs → is_opening a ≡ false → MayHappen initial k n a o → GoesOnWith (Next k n a o)
  grows k n a o g acted e m = record {
    goes_on = inr (
      g.goes_on,
      record {
        follows = record {
          follows = subst (λ (p : NodeState). IsOutcomeAt n p a o) (sym is.node) m.follows.follows;
          up = λ down. m.follows.up (sym is.down ∙ down);
        };
        continues = continues-always (node_history (followed_by older k) n) a e;
        sourced = sourced-since k a m.sourced;
      },
    );
    nodes = λ x. more k n a o x (newer-act (node_history (followed_by older k) n) (node_history k n) a o e is) (g.nodes x);
  }
    where
      is : IsNewer (node_history (followed_by older k) n) (node_history k n)
      is = newer (node_history (followed_by older k) n) (node_history k n) acted (g.nodes n)

  abbrev older_rule : Rule initial
  older_rule = record { Right = GoesOnWith; grows = grows }

  goes-on-self : (p : History) → GoesOn initial p p
  goes-on-self NoEntries = refl
  goes-on-self (Next h n a o) = inl refl

  begun : IsSound initial older_rule Nothing
  begun = record { legal = record { goes_on = goes-on-self older; nodes = λ n. inl refl }; frames = tt; runs = λ n. tt }

  start-after : (h : System) (s : Settings) (found : Kept) → IsSound initial older_rule h → MayStartAfter initial older h s found → IsSound initial older_rule (Starts h s found)
  start-after h s found sound may =
      let k : History = history_of h in
      let g : NodeHistory = node_history k s.me in
      let whole : NodeHistory = node_history (followed_by older k) s.me in
      let open_now : History = Next k s.me (Open found) (Answered (Taken None false)) in
      let own : node_history open_now s.me ≡ Then g (Open found) (Answered (Taken None false)) = own_deeds k s.me (Open found) (Answered (Taken None false)) in
      record {
        legal = record {
          goes_on = inr (sound.legal.goes_on, record { follows = record { follows = refl; up = λ d. refl }; continues = may.kept; sourced = tt });
          nodes = λ n. more k s.me (Open found) (Answered (Taken None false)) n (newer-opened whole g found may.kept (sound.legal.nodes s.me)) (sound.legal.nodes n);
        };
        frames = sent-more (sent k) (sent open_now) (frames_sent h) (λ m c. Contains-append_left (sent k) [] m c) sound.frames;
        runs = λ m.
            run-other initial k open_now s.me m (λ x. Runs s (Opened NotBegun found)) (run_of h m)
            (λ e. ap (λ (b : Bool). cond b (Then (node_history k m) (Open found) (Answered (Taken None false))) (node_history k m)) e)
            (record {
              me = refl;
              named = may.named;
              node = sym (ap node_state own ∙ opened-alike whole g found may.kept (sound.legal.nodes s.me));
              up = λ u. ap is_down own;
              acted = acted-next k s.me (Open found) (Answered (Taken None false));
            })
            (sound.runs m);
      }

  sound-after : (h : System) → AreRunsAfter initial older h → TakesSentFrames h → IsSound initial older_rule h
  sound-after Nothing l c = begun
  sound-after (Starts h s found) l c = start-after h s found (sound-after h l.0 c) l.1
  sound-after (Lives h n (Did event items)) l c = event-sound initial older_rule h n event items (sound-after h l.0 c.0) l.1 c.1
  sound-after (Lives h n (Gone conn)) l c = let b = sound-after h l.0 c in record { legal = b.legal; frames = b.frames; runs = idle-sound initial older_rule h n (Gone conn) b (λ x. refl) (λ x. refl) }
  sound-after (Lives h n (Bad conn fault)) l c = let b = sound-after h l.0 c in record { legal = b.legal; frames = b.frames; runs = idle-sound initial older_rule h n (Bad conn fault) b (λ x. refl) (λ x. refl) }
  sound-after (Lives h n NoMemory) l c = let b = sound-after h l.0 c in record { legal = b.legal; frames = b.frames; runs = idle-sound initial older_rule h n NoMemory b (λ x. refl) (λ x. refl) }
  sound-after (Lives h n (Unread conn)) l c = let b = sound-after h l.0 c in record { legal = b.legal; frames = b.frames; runs = idle-sound initial older_rule h n (Unread conn) b (λ x. refl) (λ x. refl) }
  sound-after (Dies h n event items) l c = die-sound initial older_rule h n event items (sound-after h l.0 c.0) l.1 c.1

pub older_is_safe : LawOlderSystemIsSafe
older_is_safe initial older h was l =
    let goes_on = (sound-after initial older h l.runs l.sent).legal.goes_on in
    record { goes_on = goes_on; safe = safe_before initial _ (forgotten initial older (followed_by older (history_of h)) was goes_on) }
