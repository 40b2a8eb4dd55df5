-- What each line of a schedule keeps true of all nodes, and of one node.
use Rattle.std.proofs.Common.{◌≡◌, Bool, true, false, ◌||◌, ◌⊎◌, inl, inr, cond, List, [], ◌∷◌, refl, sym, subst}
use Rattle.std.specs.List.{flat_map, AllByRecursion, list_all}
use Rattle.std.proofs.lemmas.Bool.{and_parts}
use Rattle.voting_config.specs.Ids.{Id, is_id, has, same, without_id, IsIdSet}
use Rattle.voting_config.proofs.Kept.{list_all-filter}
use Rattle.wire_frames.specs.declared.frame.Frame.{Frame}
use Rattle.world_model.specs.declared.acts.Message.{Message}
use Rattle.world_model.specs.Histories.{sent}
use Rattle.voting_config.proofs.Sets.{same_is}
use Rattle.replay_node.specs.NodeWorld.{NodeWorld, needs_opening}
use Rattle.replay_node.specs.Worlds.{World, node_world}
use Rattle.master_tasks.proofs.Limits.{each_append}
use Rattle.policy_model.specs.declared.settings.Settings.{Settings}
use Rattle.policy_model.specs.declared.events.Event.{Event}
use Rattle.policy_model.specs.declared.events.Event.TheVariants.{Start, Tick, Frame as FrameCame, Client as LineCame, Disconnected as PeerGone}
use Rattle.policy_model.specs.Events.{Begins, Item, And, acts_of}
use Rattle.policy_model.specs.Entries.{Life, Lived, Did, log_of, frames_in, frames_of}
use Rattle.policy_model.specs.Views.{view_of}
use Rattle.policy_model.specs.Moves.{moved, view_of-And}
use Rattle.policy_model.specs.Follows.{Follows, IsNext, IsStruck, is_struck, is_start, starts_next, items_of}
use Rattle.policy_model.proofs.Answering.{answered-next}
use Rattle.policy_model.proofs.Standing.{view_of-added, own-answered}
use Rattle.replay_node.specs.Course.{Course, played}
use Rattle.replay_node.specs.Clusters.{Cluster, settings_of, with_life, event_course, after_event}
use Rattle.system_laws.proofs.Done.{all-sorted}
use Rattle.system_laws.proofs.Meant.{Covers}
use Rattle.cluster_replay.proofs.Allowing.{FitView, IsGoodFrame, sent-covers, IsAllowed, fit-moved, frames-sent, items-name}
use Rattle.cluster_replay.proofs.Naming.{AllIds, NamesItem, struck-names}
use Rattle.cluster_replay.proofs.AllowedRules.{MayCome, allowed-next}
use Rattle.replay_node.proofs.Lives.{no_fault}
use Rattle.cluster_replay.proofs.Playing.{Played, Whole, Cut, plays}
use Rattle.replay_node.proofs.WorldSound.{SoundWorld}

-- an event may come
pub record Ready (s : Settings) (life : Life) : Type 0 where
  pub unstruck : is_struck life ≡ false
  pub view : FitView (view_of s (log_of life))

-- a node with this life, of which the history and its disk say this
pub record SoundNode (s : Settings) (life : Life) (x : NodeWorld) : Type 0 where
  pub follows : Follows s life
  pub acts : acts_of (log_of life) ≡ x.acts
  pub begun : starts_next life ≡ false
  pub ready : needs_opening x ≡ false → Ready s life

pub record SoundCluster (nodes initial voting_only : List Id) (second : Bool) (c : Cluster) : Type 0 where
  pub world : SoundWorld initial c.world
  pub each : (n : Id) → has n nodes ≡ true → SoundNode (settings_of nodes initial voting_only second n) (c.lives n) (node_world c.world n)
  pub frames : AllByRecursion (IsGoodFrame (sent c.world.history)) c.frames

-- ---- lists

pub good-more : (ms ns : List Message) (fs : List Frame) → Covers ms ns → AllByRecursion (IsGoodFrame ms) fs → AllByRecursion (IsGoodFrame ns) fs
good-more ms ns [] c h = tt
good-more ms ns (f ∷ fs) c h = (record { from = h.0.from; to = h.0.to; names = h.0.names; sent = sent-covers ms ns f.from f.to f.message c h.0.sent }, good-more ms ns fs c h.1)

pub listed-id : (n : Id) (nodes : List Id) → list_all is_id nodes ≡ true → has n nodes ≡ true → is_id n ≡ true
listed-id n [] h k = absurd (cc)
listed-id n (x ∷ xs) h k = let parts = and_parts (is_id x) (list_all is_id xs) h in from (same x n) refl k parts.0 (λ t. listed-id n xs parts.1 t)
  where
    from : (b : Bool) → same x n ≡ b → (b || has n xs) ≡ true → is_id x ≡ true → (has n xs ≡ true → is_id n ≡ true) → is_id n ≡ true
    from true e t first later = subst (λ (y : Id). is_id y ≡ true) (same_is x n e) first
    from false e t first later = later t

-- the ids of the others are ids
pub others_ids : (n : Id) (nodes : List Id) → AllIds nodes → AllIds (without_id n nodes)
others_ids n nodes h = list_all-filter is_id _ nodes h

-- ---- one node moves

-- the life of one node is another, and its part of the world; the other nodes stay
pub each-moved : (nodes initial voting_only : List Id) (second : Bool) (n : Id) (lives : Id → Life) (w v : World) (life : Life) → ((m : Id) → same n m ≡ false → node_world v m ≡ node_world w m)
    → SoundNode (settings_of nodes initial voting_only second n) life (node_world v n)
    → ((m : Id) → has m nodes ≡ true → SoundNode (settings_of nodes initial voting_only second m) (lives m) (node_world w m))
    → (m : Id) → has m nodes ≡ true → SoundNode (settings_of nodes initial voting_only second m) (with_life lives n life m) (node_world v m)
each-moved nodes initial voting_only second n lives w v life others here there m listed = from (same n m) refl
  where
    from : (b : Bool) → same n m ≡ b → SoundNode (settings_of nodes initial voting_only second m) (cond b life (lives m)) (node_world v m)
    from true e = subst (λ (i : Id). SoundNode (settings_of nodes initial voting_only second i) life (node_world v i)) (same_is n m e) here
    from false e = subst (λ (x : NodeWorld). SoundNode (settings_of nodes initial voting_only second m) (lives m) x) (sym (others m e)) (there m listed)

-- the same where the lives stay
pub each-stays : (nodes initial voting_only : List Id) (second : Bool) (n : Id) (lives : Id → Life) (w v : World) → ((m : Id) → same n m ≡ false → node_world v m ≡ node_world w m)
    → SoundNode (settings_of nodes initial voting_only second n) (lives n) (node_world v n)
    → ((m : Id) → has m nodes ≡ true → SoundNode (settings_of nodes initial voting_only second m) (lives m) (node_world w m))
    → (m : Id) → has m nodes ≡ true → SoundNode (settings_of nodes initial voting_only second m) (lives m) (node_world v m)
each-stays nodes initial voting_only second n lives w v others here there m listed = from (same n m) refl
  where
    from : (b : Bool) → same n m ≡ b → SoundNode (settings_of nodes initial voting_only second m) (lives m) (node_world v m)
    from true e = subst (λ (i : Id). SoundNode (settings_of nodes initial voting_only second i) (lives i) (node_world v i)) (same_is n m e) here
    from false e = subst (λ (x : NodeWorld). SoundNode (settings_of nodes initial voting_only second m) (lives m) x) (sym (others m e)) (there m listed)

-- ---- an event

-- a node at which an event may come; it need not have had its first one
pub record Waits (s : Settings) (life : Life) (x : NodeWorld) (e : Event) : Type 0 where
  pub follows : Follows s life
  pub acts : acts_of (log_of life) ≡ x.acts
  pub runs : needs_opening x ≡ false
  pub ready : Ready s life
  pub start : is_start e ≡ starts_next life

module _ (s : Settings) (mine : is_id s.me ≡ true) (peers : AllIds s.peers) (initial : IsIdSet s.initial) (w : World) (life : Life) (e : Event) (sound : SoundWorld s.initial w) (waits : Waits s life (node_world w s.me) e) (comes : MayCome (sent w.history) e) where
  abbrev items : List Item
  items = items_of s (log_of life) e

  abbrev course : Course
  course = played s.me w (items_of s (log_of life) e)

  begins : view_of s (And (log_of life) (Begins e)) ≡ moved s (view_of s (log_of life)) (Begins e)
  begins = view_of-And s (log_of life) (Begins e) refl

  -- a tick's moment is all that the beginning changes
  fit_begun : (x : Event) → FitView (view_of s (log_of life)) → FitView (moved s (view_of s (log_of life)) (Begins x))
  fit_begun Start f = f
  fit_begun (Tick now word) f = record { node = f.node; tasks = f.tasks; names = record { term = f.names.term; version = f.names.version; mode = f.names.mode; peers = f.names.peers; publication = f.names.publication; watched = f.names.watched } }
  fit_begun (FrameCame frame) f = f
  fit_begun (LineCame conn line) f = f
  fit_begun (PeerGone peer) f = f

  fit : FitView (view_of s (And (log_of life) (Begins e)))
  fit = subst FitView (sym begins) (fit_begun e waits.ready.view)

  allowed : IsAllowed s (sent w.history) (view_of s (And (log_of life) (Begins e))) items
  allowed = allowed-next s mine peers initial (sent w.history) (view_of s (And (log_of life) (Begins e))) e fit comes

  pub event_plays : Played s w (And (log_of life) (Begins e)) items course
  event_plays = plays s (sent w.history) w (And (log_of life) (Begins e)) (view_of s (And (log_of life) (Begins e))) items allowed refl refl sound waits.acts waits.runs

  -- the look-backs after the event
  fit_after : FitView (view_of s (log_of (Lived life (Did e items))))
  fit_after =
      let own = own-answered s (view_of s (And (log_of life) (Begins e))) items (answered-next s (view_of s (And (log_of life) (Begins e))) e) in
      subst FitView (sym (view_of-added s (And (log_of life) (Begins e)) items own)) (fit-moved s (sent w.history) _ items allowed fit)

  event_next : IsNext s life e course.items
  event_next = record { up = waits.ready.unstruck; start = waits.start; does = does event_plays.ends }
    where
      does : ((course.struck ≡ false) × Whole s w items course) ⊎ ((course.struck ≡ true) × Cut s items course) → (course.items ≡ items) ⊎ IsStruck items course.items
      does (inl whole) = inl whole.1.items
      does (inr cut) = inr cut.1.struck

  event_ready : needs_opening (node_world course.world s.me) ≡ false → Ready s (Lived life (Did e course.items))
  event_ready runs = from event_plays.ends
    where
      from : ((course.struck ≡ false) × Whole s w items course) ⊎ ((course.struck ≡ true) × Cut s items course) → Ready s (Lived life (Did e course.items))
      from (inl whole) = subst (λ (is : List Item). Ready s (Lived life (Did e is))) (sym whole.1.items) (record { unstruck = no_fault s (log_of life) e; view = fit_after })
      from (inr cut) = absurd (let stops = cut.1.stops in cc)

  pub event_node : SoundNode s (Lived life (Did e course.items)) (node_world course.world s.me)
  event_node = record { follows = (waits.follows, event_next); acts = event_plays.acts; begun = refl; ready = event_ready }

  -- what it sends was sent by its acts
  pub event_frames : AllByRecursion (IsGoodFrame (sent course.world.history)) (frames_of course.items)
  event_frames = all-sorted (IsGoodFrame (sent course.world.history)) (flat_map frames_in course.items) (from event_plays.ends)
    where
      from : ((course.struck ≡ false) × Whole s w items course) ⊎ ((course.struck ≡ true) × Cut s items course) → AllByRecursion (IsGoodFrame (sent course.world.history)) (flat_map frames_in course.items)
      from (inl whole) =
          subst (λ (is : List Item). AllByRecursion (IsGoodFrame (sent course.world.history)) (flat_map frames_in is)) (sym whole.1.items)
          (subst (λ (ms : List Message). AllByRecursion (IsGoodFrame ms) (flat_map frames_in items)) (sym whole.1.sent_is) (frames-sent s (sent w.history) _ items mine allowed))
      from (inr cut) = subst (λ (fs : List Frame). AllByRecursion (IsGoodFrame (sent course.world.history)) fs) (sym cut.1.silent) tt

  -- what it does names ids
  pub event_names : AllByRecursion NamesItem course.items
  event_names = from event_plays.ends
    where
      all : AllByRecursion NamesItem items
      all = items-name s (sent w.history) _ items mine allowed

      from : ((course.struck ≡ false) × Whole s w items course) ⊎ ((course.struck ≡ true) × Cut s items course) → AllByRecursion NamesItem course.items
      from (inl whole) = subst (λ (is : List Item). AllByRecursion NamesItem is) (sym whole.1.items) all
      from (inr cut) = struck-names items course.items cut.1.struck all

-- all nodes after an event of one of them
pub event_sound : (nodes initial voting_only : List Id) (second : Bool) (n : Id) (c : Cluster) (e : Event) → is_id n ≡ true → AllIds nodes → IsIdSet initial → has n nodes ≡ true → SoundWorld initial c.world → AllByRecursion (IsGoodFrame (sent c.world.history)) c.frames
    → ((m : Id) → has m nodes ≡ true → same n m ≡ false → SoundNode (settings_of nodes initial voting_only second m) (c.lives m) (node_world c.world m))
    → Waits (settings_of nodes initial voting_only second n) (c.lives n) (node_world c.world n) e → MayCome (sent c.world.history) e → SoundCluster nodes initial voting_only second (after_event (settings_of nodes initial voting_only second n) c e)
event_sound nodes initial voting_only second n c e mine ids set listed sound frames others waits comes =
    let s : Settings = settings_of nodes initial voting_only second n in
    let p = event_plays s mine (others_ids n nodes ids) set c.world (c.lives n) e sound waits comes in
    record {
      world = p.sound;
      each = λ m there. from m there (same n m) refl;
      frames = each_append (IsGoodFrame (sent (event_course s c e).world.history)) c.frames _ (good-more (sent c.world.history) _ c.frames p.covers frames) (event_frames s mine (others_ids n nodes ids) set c.world (c.lives n) e sound waits comes);
    }
  where
    from : (m : Id) → has m nodes ≡ true → (b : Bool) → same n m ≡ b → SoundNode (settings_of nodes initial voting_only second m) (cond b (Lived (c.lives n) (Did e (event_course (settings_of nodes initial voting_only second n) c e).items)) (c.lives m)) (node_world (event_course (settings_of nodes initial voting_only second n) c e).world m)
    from m there true same_id =
        let s : Settings = settings_of nodes initial voting_only second n in
        subst (λ (i : Id). SoundNode (settings_of nodes initial voting_only second i) (Lived (c.lives n) (Did e (event_course s c e).items)) (node_world (event_course s c e).world i)) (same_is n m same_id)
        (event_node s mine (others_ids n nodes ids) set c.world (c.lives n) e sound waits comes)
    from m there false other =
        let s : Settings = settings_of nodes initial voting_only second n in
        let p = event_plays s mine (others_ids n nodes ids) set c.world (c.lives n) e sound waits comes in
        subst (λ (x : NodeWorld). SoundNode (settings_of nodes initial voting_only second m) (c.lives m) x) (sym (p.others m other)) (others m there other)
