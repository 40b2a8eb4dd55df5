-- Each line of a schedule keeps what is true of all nodes, and so the laws hold.
use Rattle.std.proofs.Common.{◌≡◌, ℕ, ◌-◌, ◌≤◌, Bool, true, false, ◌||◌, inl, cond, Option, None, Some, List, [], ◌∷◌, refl, sym, ◌∙◌, ap, subst, slice_get, append-nil, if◌then◌else◌, arith}
use Rattle.std.specs.List.{AllByRecursion, Contains}
use Rattle.std.proofs.lemmas.Bool.{and_parts}
use Rattle.voting_config.specs.Ids.{Id, has, same, are_among, without_id, IsIdSet}
use Rattle.voting_config.proofs.Sets.{same_is, same_self}
use Rattle.cluster_state.specs.Field.{last_number}
use Rattle.cluster_state.specs.States.{state as state_field}
use Rattle.cluster_state.specs.declared.state.ClusterState.{ClusterState}
use Rattle.cluster_state.specs.declared.state.Kept.{Kept}
use Rattle.zen_disk.specs.declared.orders.Order.{Order}
use Rattle.zen_disk.specs.declared.orders.Order.TheVariants.{Stop, Fault}
use Rattle.zen_disk.specs.declared.orders.Way.{Way}
use Rattle.wire_frames.specs.declared.frame.Frame.{Frame}
use Rattle.wire_frames.specs.declared.frame.WireMessage.{WireMessage as FrameMessage}
use Rattle.wire_frames.specs.declared.frame.WireMessage.TheVariants as message
use Rattle.world_model.specs.declared.acts.Act.TheVariants.{Open}
use Rattle.world_model.specs.declared.acts.Message.{Message}
use Rattle.world_model.specs.declared.acts.Message.TheVariants.{Publish as PublishMessage}
use Rattle.world_model.specs.declared.acts.ActReply.TheVariants.{Taken}
use Rattle.world_model.specs.declared.acts.Outcome.TheVariants.{Answered}
use Rattle.world_model.specs.Acts.{NodeHistory, NoActs, Then}
use Rattle.world_model.specs.NodeState.{durable_of}
use Rattle.world_model.specs.Histories.{History, node_history, sent, IsLocal, ContinuesUnlessFirst}
use Rattle.world_model.proofs.Assemble.{legal_is}
use Rattle.replay_node.specs.NodeDisk.{CallsEnd, Done, Failed, CrashedIn, opening}
use Rattle.replay_node.specs.NodeLines.{after_stop}
use Rattle.replay_node.specs.NodeWorld.{NodeWorld, acts_reopened, after_crash, after_opening, after_order, found_at, needs_opening, opened_by as node_opened}
use Rattle.world_model.specs.Settled.{is_kept, settled}
use Rattle.world_model.proofs.AllSettled.{settled_sent}
use Rattle.replay_node.proofs.Found.{found_is}
use Rattle.replay_node.specs.Worlds.{history_opened, node_world, crashed, ordered, opened}
use Rattle.replay_node.proofs.Moves.{NodeMoves, moves_crashed, moves_ordered, moves_restarted, history_if}
use Rattle.replay_node.proofs.NodeSound.{found_either}
use Rattle.policy_model.specs.declared.settings.Settings.{Settings}
use Rattle.policy_model.specs.declared.events.Event.{Event}
use Rattle.policy_model.specs.declared.events.Event.TheVariants.{Start, Tick, Frame as FrameCame, Client as LineCame, Disconnected as PeerGone}
use Rattle.policy_model.specs.Events.{acts_of}
use Rattle.policy_model.specs.Entries.{Life, Opened, log_of}
use Rattle.policy_model.specs.Follows.{is_start}
use Rattle.policy_model.specs.Parts.{no_peers}
use Rattle.policy_model.specs.Views.{view_of}
use Rattle.policy_model.proofs.Standing.{opening_moves}
use Rattle.schedule_text.specs.declared.schedule.Line.{Line}
use Rattle.schedule_text.specs.declared.schedule.Line.TheVariants as line
use Rattle.schedule_text.specs.declared.schedule.Schedule.{Schedule}
use Rattle.replay_node.specs.Course.{settled_life}
use Rattle.replay_node.specs.Clusters.{Cluster, settings_of, with_life, event_course, after_event, after_event_if_up, after_frame, life_opened, with_opened, opened_by, after_restart, frame_at, fresh_cluster, after, replayed_from, replayed_history, replayed_life}
use Rattle.cluster_replay.specs.Laws.{IsWellFormed, node_of, LawClusterRepliesAreTrue, LawClusterReplayIsLegal, LawLivesFollow, LawVotingOnlyNeverWins}
use Rattle.system_laws.specs.VotingOnly.{CountsNoJoin}
use Rattle.system_laws.proofs.VotingOnly.{no_winner, voting_only_never_leads}
use Rattle.cluster_replay.proofs.Allowing.{FitView, fit-none, IsGoodFrame, IsSentBy}
use Rattle.cluster_replay.proofs.AllowedRules.{MayCome}
use Rattle.cluster_replay.proofs.Asking.{good-asks}
use Rattle.trace_text.proofs.IdLists.{none_set}
use Rattle.cluster_replay.proofs.NextFits.{FitAccepted, empty_accepted}
use Rattle.system_laws.proofs.Done.{contained}
use Rattle.cluster_replay.proofs.Invariants.{SoundNode, SoundCluster, Waits, listed-id, each-stays, event_names, event_sound, others_ids}
use Rattle.cluster_replay.proofs.Naming.{NamesItem, peers-met}
use Rattle.replay_node.proofs.Lives.{settled_acts, settled_follows}
use Rattle.replay_node.proofs.WorldSound.{SoundWorld, IsFitMessage, armed, fresh, reopened, stopped}
use Rattle.client_guarantees.proofs.Laws.{run_of_life, replies_are_true}
use Rattle.master_tasks.proofs.Limits.{each_at}

-- ---- a node that is not touched but in its disk

node_stopped : (s : Settings) (life : Life) (way : Way) (x : NodeWorld) → SoundNode s life x → SoundNode s life (after_stop way x)
node_stopped s life way x h = from x.down
  where
    from : (b : Bool) → SoundNode s life (if b then x else after_crash way x)
    from true = h
    from false = record { follows = h.follows; acts = h.acts; begun = h.begun; ready = λ up. absurd (cc) }

node_ordered : (s : Settings) (life : Life) (order : Order) (x : NodeWorld) → SoundNode s life x → SoundNode s life (after_order order x)
node_ordered s life order x h = record { follows = h.follows; acts = h.acts; begun = h.begun; ready = h.ready }

module _ (nodes initial voting_only : List Id) (second : Bool) (ids : IsIdSet nodes) (set : IsIdSet initial) where
  line_crash : (n : Id) (way : Way) (c : Cluster) → has n nodes ≡ true → SoundCluster nodes initial voting_only second c → SoundCluster nodes initial voting_only second (record c { world = crashed c.world n way })
  line_crash n way c listed h =
      let moves = moves_crashed n way c.world in
      record {
        world = stopped initial c.world n way h.world;
        each = each-stays nodes initial voting_only second n c.lives c.world (crashed c.world n way) moves.others (subst (λ (x : NodeWorld). SoundNode (settings_of nodes initial voting_only second n) (c.lives n) x) (sym moves.own) (node_stopped (settings_of nodes initial voting_only second n) (c.lives n) way (node_world c.world n) (h.each n listed))) h.each;
        frames = subst (λ (x : History). AllByRecursion (IsGoodFrame (sent x)) c.frames) (history_if c.world _ (c.world.down n) refl) h.frames;
      }

  line_order : (n : Id) (order : Order) (c : Cluster) → has n nodes ≡ true → SoundCluster nodes initial voting_only second c → SoundCluster nodes initial voting_only second (record c { world = ordered c.world n order })
  line_order n order c listed h =
      let moves = moves_ordered n order c.world in
      record {
        world = armed initial c.world n order h.world;
        each = each-stays nodes initial voting_only second n c.lives c.world (ordered c.world n order) moves.others (subst (λ (x : NodeWorld). SoundNode (settings_of nodes initial voting_only second n) (c.lives n) x) (sym moves.own) (node_ordered (settings_of nodes initial voting_only second n) (c.lives n) order (node_world c.world n) (h.each n listed))) h.each;
        frames = h.frames;
      }

  -- ---- an event

  line_event : (n : Id) (e : Event) (c : Cluster) → has n nodes ≡ true → is_start e ≡ false → MayCome (sent c.world.history) e → SoundCluster nodes initial voting_only second c → SoundCluster nodes initial voting_only second (after_event_if_up (settings_of nodes initial voting_only second n) c e)
  line_event n e c listed start comes h = from (needs_opening (node_world c.world n)) refl
    where
      from : (b : Bool) → needs_opening (node_world c.world n) ≡ b → SoundCluster nodes initial voting_only second (if b then c else after_event (settings_of nodes initial voting_only second n) c e)
      from true needs = h
      from false runs =
          let node = h.each n listed in
          event_sound nodes initial voting_only second n c e (listed-id n nodes ids.each listed) ids.each set listed h.world h.frames (λ m there other. h.each m there)
          (record { follows = node.follows; acts = node.acts; runs = runs; ready = node.ready runs; start = start ∙ sym node.begun }) comes

  pub event_named : (n : Id) (e : Event) (c : Cluster) → has n nodes ≡ true → is_start e ≡ false → MayCome (sent c.world.history) e → SoundCluster nodes initial voting_only second c → needs_opening (node_world c.world n) ≡ false
      → AllByRecursion NamesItem (event_course (settings_of nodes initial voting_only second n) c e).items
  event_named n e c listed start comes h runs =
      let node = h.each n listed in
      event_names (settings_of nodes initial voting_only second n) (listed-id n nodes ids.each listed) (others_ids n nodes ids.each) set c.world (c.lives n) e h.world
      (record { follows = node.follows; acts = node.acts; runs = runs; ready = node.ready runs; start = start ∙ sym node.begun }) comes

  fit_message : (ms : List Message) (m : Message) → AllByRecursion IsFitMessage ms → Contains ms m → IsFitMessage m
  fit_message ms m f k = contained IsFitMessage ms m f k

  pub frame_comes : (ms : List Message) (f : Frame) → AllByRecursion IsFitMessage ms → IsGoodFrame ms f → MayCome ms (FrameCame f)
  frame_comes ms f fits good = (good, λ state e. from f.message state e good.sent)
    where
      from : (m : FrameMessage) (state : ClusterState) → m ≡ message.Publish state → IsSentBy ms f.from f.to m → state_field.Fits state
      from m state e k = fit_message ms (PublishMessage (record { source = f.from; state = state })) fits (subst (λ (x : FrameMessage). IsSentBy ms f.from f.to x) e k)

  line_frame : (n : Id) (k : ℕ) (o : Option Frame) (c : Cluster) → has n nodes ≡ true → slice_get c.frames k ≡ o → SoundCluster nodes initial voting_only second c → SoundCluster nodes initial voting_only second (after_frame (settings_of nodes initial voting_only second n) c o)
  line_frame n k None c listed e h = h
  line_frame n k (Some f) c listed e h = from (same f.to n)
    where
      from : (b : Bool) → SoundCluster nodes initial voting_only second (if b then after_event_if_up (settings_of nodes initial voting_only second n) c (FrameCame f) else c)
      from true = line_event n (FrameCame f) c listed refl (frame_comes (sent c.world.history) f h.world.messages (each_at (IsGoodFrame (sent c.world.history)) c.frames k f h.frames e)) h
      from false = h

  -- ---- an opening

  continues : (g : NodeHistory) (found : Kept) → found ≡ durable_of g → ContinuesUnlessFirst g (Open found)
  continues NoActs found e = tt
  continues (Then g act o) found e = e

  sent_opened : (n : Id) (c : Cluster) → needs_opening (node_world c.world n) ≡ true → sent (opened c.world n).history ≡ sent c.world.history
  sent_opened n c needs = from (opening (c.world.disks n)).ended
    where
      from : (end : CallsEnd) → sent (history_opened end c.world.history n (found_at (node_world c.world n))) ≡ sent c.world.history
      from Done = append-nil _ ∙ settled_sent n _ c.world.history
      from Failed = refl
      from (CrashedIn way) = refl

  -- a restart, and what the node does at its start
  pub line_restart : (n : Id) (c : Cluster) → has n nodes ≡ true → SoundCluster nodes initial voting_only second c → SoundCluster nodes initial voting_only second (after_restart (settings_of nodes initial voting_only second n) c)
      × (needs_opening (node_world c.world n) ≡ true → (opening (node_world c.world n).disk).ended ≡ Done → AllByRecursion NamesItem (event_course (settings_of nodes initial voting_only second n) (with_opened (settings_of nodes initial voting_only second n) c) Start).items)
  line_restart n c listed h = (from (needs_opening (node_world c.world n)) refl, started)
    where
      s : Settings
      s = settings_of nodes initial voting_only second n

      x : NodeWorld
      x = node_world c.world n

      found : Kept
      found = found_at (node_world c.world n)

      k : Bool
      k = is_kept (node_world c.world n).acts (found_at (node_world c.world n))

      node : SoundNode (settings_of nodes initial voting_only second n) (c.lives n) (node_world c.world n)
      node = h.each n listed

      own : IsLocal n (node_history c.world.history n)
      own = (((legal_is initial c.world.history).0 h.world.legal).0 n).0

      world_opened : needs_opening (node_world c.world n) ≡ true → SoundWorld initial (opened c.world n)
      world_opened needs = subst (λ (b : Bool). SoundWorld initial (if b then opened c.world n else c.world)) needs (reopened initial c.world n h.world)

      moves : needs_opening (node_world c.world n) ≡ true → NodeMoves n c.world (after_opening (node_world c.world n)) (opened c.world n)
      moves needs =
          subst (λ (b : Bool). NodeMoves n c.world (if b then after_opening (node_world c.world n) else node_world c.world n) (if b then opened c.world n else c.world)) needs (moves_restarted n c.world)

      finds : needs_opening (node_world c.world n) ≡ true → found ≡ durable_of (settled k (node_world c.world n).acts)
      finds needs = found_is n (node_world c.world n).acts found own (found_either n (node_world c.world n) own (h.world.nodes n) needs)

      -- the life that is opened
      life_acts : acts_of (log_of (settled_life k (c.lives n))) ≡ settled k (node_world c.world n).acts
      life_acts = settled_acts (settings_of nodes initial voting_only second n) k (c.lives n) node.follows ∙ ap (settled k) node.acts

      life_continues : needs_opening (node_world c.world n) ≡ true → ContinuesUnlessFirst (acts_of (log_of (settled_life k (c.lives n)))) (Open found)
      life_continues needs = continues (acts_of (log_of (settled_life k (c.lives n)))) found (finds needs ∙ sym (ap durable_of life_acts))

      -- the record fits, kept or not
      fit_found : needs_opening (node_world c.world n) ≡ true → FitAccepted found.accepted
      fit_found needs =
          let fit = (h.world.nodes n).fit k in
          subst FitAccepted (sym (ap (λ (r : Kept). r.accepted) (finds needs))) (record { config = fit.fits.1.0; value = fit.fits.1.1.1 })

      view : needs_opening (node_world c.world n) ≡ true → FitView (view_of (settings_of nodes initial voting_only second n) (log_of (Opened (settled_life k (c.lives n)) found)))
      view needs =
          subst FitView (sym (opening_moves (settings_of nodes initial voting_only second n) (settled_life k (c.lives n)) found (life_continues needs)))
          (
          let fit = (h.world.nodes n).fit k in
          record {
            node = record { accepted = fit_found needs; votes = none_set };
            tasks = fit-none;
            names = record {
              term = subst (λ (r : Kept). r.term ≤ last_number) (sym (finds needs)) fit.bounded;
              version = subst (λ (r : Kept). r.accepted.version ≤ last_number) (sym (finds needs)) fit.fits.0.0.0.1;
              mode = tt;
              peers = refl;
              publication = tt;
              watched = refl;
            };
          }
          )

      own_life : with_life c.lives n (life_opened (settings_of nodes initial voting_only second n) c) n ≡ life_opened (settings_of nodes initial voting_only second n) c
      own_life = ap (λ (b : Bool). cond b (life_opened (settings_of nodes initial voting_only second n) c) (c.lives n)) (same_self n)

      others : needs_opening (node_world c.world n) ≡ true → (m : Id) → has m nodes ≡ true → same n m ≡ false
          → SoundNode (settings_of nodes initial voting_only second m) (with_life c.lives n (life_opened (settings_of nodes initial voting_only second n) c) m) (node_world (opened c.world n) m)
      others needs m there other =
          subst (λ (b : Bool). SoundNode (settings_of nodes initial voting_only second m) (cond b (life_opened (settings_of nodes initial voting_only second n) c) (c.lives m)) (node_world (opened c.world n) m)) (sym other)
          (subst (λ (y : NodeWorld). SoundNode (settings_of nodes initial voting_only second m) (c.lives m) y) (sym ((moves needs).others m other)) (h.each m there))

      -- where the journal is open
      waits : needs_opening (node_world c.world n) ≡ true → (opening (node_world c.world n).disk).ended ≡ Done
          → Waits (settings_of nodes initial voting_only second n) (with_life c.lives n (life_opened (settings_of nodes initial voting_only second n) c) n) (node_world (opened c.world n) n) Start
      waits needs e =
          let is : node_world (opened c.world n) n ≡ record { acts = acts_reopened (node_world c.world n).acts found; disk = (opening (node_world c.world n).disk).disk; down = false } =
          (moves needs).own ∙ ap (λ (end : CallsEnd). node_opened end (node_world c.world n).acts (opening (node_world c.world n).disk).disk found) e
          in
          subst (λ (l : Life). Waits s l (node_world (opened c.world n) n) Start) (sym own_life) (subst (λ (y : NodeWorld). Waits s (life_opened s c) y Start) (sym is) (record {
            follows = (settled_follows s k (c.lives n) node.follows, life_continues needs);
            acts = ap (λ (g : NodeHistory). Then g (Open found) (Answered (Taken None false))) life_acts;
            runs = refl;
            ready = record { unstruck = refl; view = view needs };
            start = refl;
          }))

      done : needs_opening (node_world c.world n) ≡ true → (opening (node_world c.world n).disk).ended ≡ Done → SoundCluster nodes initial voting_only second (after_event (settings_of nodes initial voting_only second n) (with_opened (settings_of nodes initial voting_only second n) c) Start)
      done needs e =
          event_sound nodes initial voting_only second n (with_opened s c) Start (listed-id n nodes ids.each listed) ids.each set listed (world_opened needs)
          (subst (λ (ms : List Message). AllByRecursion (IsGoodFrame ms) c.frames) (sym (sent_opened n c needs)) h.frames)
          (others needs) (waits needs e) tt

      started : needs_opening (node_world c.world n) ≡ true → (opening (node_world c.world n).disk).ended ≡ Done → AllByRecursion NamesItem (event_course (settings_of nodes initial voting_only second n) (with_opened (settings_of nodes initial voting_only second n) c) Start).items
      started needs e =
          event_names s (listed-id n nodes ids.each listed) (others_ids n nodes ids.each) set (opened c.world n) (with_life c.lives n (life_opened s c) n) Start (world_opened needs) (waits needs e) tt

      -- where it could not be opened
      stays : needs_opening (node_world c.world n) ≡ true → node_world (opened c.world n) n ≡ record { acts = (node_world c.world n).acts; disk = (opening (node_world c.world n).disk).disk; down = true } → SoundCluster nodes initial voting_only second (record c { world = opened c.world n })
      stays needs is = record {
        world = world_opened needs;
        each = each-stays nodes initial voting_only second n c.lives c.world (opened c.world n) (moves needs).others
            (subst (λ (y : NodeWorld). SoundNode (settings_of nodes initial voting_only second n) (c.lives n) y) (sym is) (record { follows = node.follows; acts = node.acts; begun = node.begun; ready = λ up. absurd (cc) })) h.each;
        frames = subst (λ (ms : List Message). AllByRecursion (IsGoodFrame ms) c.frames) (sym (sent_opened n c needs)) h.frames;
      }

      by_end : needs_opening (node_world c.world n) ≡ true → (end : CallsEnd) → (opening (node_world c.world n).disk).ended ≡ end → SoundCluster nodes initial voting_only second (opened_by (settings_of nodes initial voting_only second n) end c)
      by_end needs Done e = done needs e
      by_end needs Failed e = stays needs ((moves needs).own ∙ ap (λ (end : CallsEnd). node_opened end (node_world c.world n).acts (opening (node_world c.world n).disk).disk found) e)
      by_end needs (CrashedIn way) e = stays needs ((moves needs).own ∙ ap (λ (end : CallsEnd). node_opened end (node_world c.world n).acts (opening (node_world c.world n).disk).disk found) e)

      from : (b : Bool) → needs_opening (node_world c.world n) ≡ b → SoundCluster nodes initial voting_only second (if b then opened_by (settings_of nodes initial voting_only second n) (opening (node_world c.world n).disk).ended c else c)
      from false runs = h
      from true needs = by_end needs (opening (node_world c.world n).disk).ended refl

  -- ---- the lines

  pub line_sound : (c : Cluster) (l : Line) → has (node_of l) nodes ≡ true → SoundCluster nodes initial voting_only second c → SoundCluster nodes initial voting_only second (after nodes initial voting_only second c l)
  line_sound c (line.Tick n now word) f h = line_event n (Tick now word) c f refl tt h
  line_sound c (line.Client n bytes) f h = line_event n (LineCame 0 bytes) c f refl (good-asks bytes) h
  line_sound c (line.Disconnect n peer) f h = line_event n (PeerGone peer) c f refl tt h
  line_sound c (line.Deliver n number) f h = line_frame n (number - 1) (frame_at c number) c f refl h
  line_sound c (line.Crash n way) f h = line_crash n way c f h
  line_sound c (line.Restart n) f h = (line_restart n c f h).0
  line_sound c (line.Fuse n count way) f h = line_order n (Stop count way) c f h
  line_sound c (line.Fail n count) f h = line_order n (Fault count) c f h
  line_sound c (line.Boot n) f h = h
  line_sound c (line.StartJoin n candidate term) f h = h
  line_sound c (line.Value n version text config) f h = h

  lines_sound : (c : Cluster) (ls : List Line) → AllByRecursion (λ (l : Line). has (node_of l) nodes ≡ true) ls → SoundCluster nodes initial voting_only second c → SoundCluster nodes initial voting_only second (replayed_from nodes initial voting_only second c ls)
  lines_sound c [] f h = h
  lines_sound c (l ∷ ls) f h = lines_sound (after nodes initial voting_only second c l) ls f.1 (line_sound c l f.0 h)

  pub fresh_sound : SoundCluster nodes initial voting_only second (fresh_cluster nodes initial voting_only second)
  fresh_sound = record {
    world = fresh initial;
    each = λ n listed. record {
      follows = (tt, record { up = refl; start = refl; does = inl refl });
      acts = refl;
      begun = refl;
      ready = λ runs. record { unstruck = refl; view = record { node = record { accepted = empty_accepted; votes = none_set }; tasks = fit-none; names = record { term = omega arith; version = omega arith; mode = tt; peers = peers-met (no_peers n) (without_id n nodes) refl (others_ids n nodes ids.each); publication = tt; watched = refl } } };
    };
    frames = tt;
  }

sound : (s : Schedule) → IsWellFormed s → SoundCluster s.nodes s.initial s.voting_only s.second (replayed_from s.nodes s.initial s.voting_only s.second (fresh_cluster s.nodes s.initial s.voting_only s.second) s.lines)
sound s is = lines_sound s.nodes s.initial s.voting_only s.second is.nodes is.initial (fresh_cluster s.nodes s.initial s.voting_only s.second) s.lines is.lines (fresh_sound s.nodes s.initial s.voting_only s.second is.nodes is.initial)

pub lives_follow : LawLivesFollow
lives_follow s is n listed = let node = (sound s is).each n listed in record { follows = node.follows; acts = sym node.acts }

pub cluster_replay_is_legal : LawClusterReplayIsLegal
cluster_replay_is_legal s is = (sound s is).world.legal

pub cluster_replies_are_true : LawClusterRepliesAreTrue
cluster_replies_are_true s is n listed =
    replies_are_true s.initial (replayed_history s) (cluster_replay_is_legal s is) (settings_of s.nodes s.initial s.voting_only s.second n) (replayed_life s n)
    (run_of_life (replayed_history s) (settings_of s.nodes s.initial s.voting_only s.second n) (replayed_life s n) (lives_follow s is n listed))

-- one of some ids that are all among others is one of those
among_others : (ids xs : List Id) (x : Id) → are_among ids xs ≡ true → has x xs ≡ true → has x ids ≡ true
among_others ids [] x among e = absurd (cc)
among_others ids (y ∷ ys) x among e =
    let parts = and_parts (has y ids) _ among in
    from (among_others ids ys x parts.1) (same y x) refl e parts.0
  where
    from : (has x ys ≡ true → has x ids ≡ true) → (b : Bool) → same y x ≡ b → (b || has x ys) ≡ true → has y ids ≡ true → has x ids ≡ true
    from others true s here first = subst (λ (i : Id). has i ids ≡ true) (same_is y x s) first
    from others false s there first = others there

pub voting_only_never_wins : LawVotingOnlyNeverWins
voting_only_never_wins s is among w won = from (has w.node s.voting_only) refl
  where
    -- a voting-only node follows the policy and knows that it is one
    counts_none : has w.node s.voting_only ≡ true → CountsNoJoin (node_history (replayed_history s) w.node)
    counts_none listed =
        let life = lives_follow s is w.node (among_others s.nodes s.voting_only w.node among listed) in
        subst CountsNoJoin (sym life.acts) (voting_only_never_leads (settings_of s.nodes s.initial s.voting_only s.second w.node) (replayed_life s w.node) life.follows listed).joins

    from : (b : Bool) → has w.node s.voting_only ≡ b → b ≡ false
    from true listed = absurd (no_winner s.initial (replayed_history s) w.node (cluster_replay_is_legal s is) (counts_none listed) w won refl)
    from false listed = refl
