-- The changes of mode, the drops and the replies that the parts of a schedule of whole nodes show of a node are those of its life.
use Rattle.std.proofs.Common.{◌≡◌, ℕ, Bool, true, false, cond, Option, None, Some, List, [], ◌∷◌, ◌++◌, length, map, flat_map, refl, sym, ap, ◌∙◌, append-nil, append_assoc, if◌then◌else◌}
use Rattle.std.proofs.lemmas.Grind.{flat_map-append}
use Rattle.voting_config.specs.Ids.{Id, same}
use Rattle.master_tasks.specs.declared.waiting.Outgoing.{Outgoing}
use Rattle.wire_frames.specs.declared.frame.Frame.{Frame}
use Rattle.world_model.specs.declared.acts.Outcome.TheVariants.{Answered, Disk, Crashed}
use Rattle.world_model.specs.Histories.{History, Next, node_history, sent}
use Rattle.voting_config.proofs.Sets.{same_is}
use Rattle.schedule_text.specs.declared.schedule.Line.{Line}
use Rattle.schedule_text.specs.declared.schedule.Line.TheVariants as line
use Rattle.policy_model.specs.declared.settings.Settings.{Settings}
use Rattle.policy_model.specs.declared.events.Event.{Event}
use Rattle.policy_model.specs.declared.events.Event.TheVariants.{Start, Tick, Frame as FrameCame, Client as LineCame, Disconnected as PeerGone}
use Rattle.policy_model.specs.declared.events.Deed.{Deed}
use Rattle.policy_model.specs.declared.events.Deed.TheVariants as deed
use Rattle.policy_model.specs.declared.events.Mode.{Mode}
use Rattle.policy_model.specs.declared.events.MemberDrop.{MemberDrop}
use Rattle.policy_model.specs.Events.{Item, Opens, Begins, Acts, ChangesMode, Drops, Sends, Replies, Notes}
use Rattle.policy_model.specs.Entries.{Life, NotBegun, Opened, Lived, Did, Gone, Bad, NoMemory, Unread, deeds_of, drops_of, drops_in, by_member, frames_of, replies_of}
use Rattle.policy_model.specs.Struck.{settled_item}
use Rattle.replay_node.specs.Course.{settled_life}
use Rattle.replay_node.specs.NodeDisk.{CallsEnd, Done, Failed, CrashedIn, opening}
use Rattle.replay_node.specs.NodeWorld.{found_at, needs_opening}
use Rattle.world_model.specs.Settled.{is_kept}
use Rattle.replay_node.specs.Clusters.{Cluster, after, after_event, after_event_if_up, after_frame, after_restart, event_course, fresh_cluster, frame_at, life_opened, opened_by, own_world, replayed_from, settings_of, with_life, with_opened}
use Rattle.schedule_replay.specs.Parts.{TracePart, Did as DidShow, Echo, WasDown, WentDown, Unsent}
use Rattle.trace_text.specs.Published.{last_published}
use Rattle.schedule_replay.specs.ActShown.{act_shown}
use Rattle.schedule_replay.specs.TraceParts.{restart_part}
use Rattle.schedule_replay.specs.ClusterParts.{ClusterPart, Shared, ModeChanged, Framed, Dropped, Replied, Misrouted}
use Rattle.schedule_replay.specs.ClusterShown.{ModeShown, numbered_frames, mode_in, modes_of, modes_shown, drop_in, drops_shown, reply_in, replies_shown, life_shows, life_modes, life_drops, life_replies}
use Rattle.schedule_replay.specs.ClusterTraceParts.{policy_parts, items_parts, event_parts, event_parts_if_up, frame_parts, start_parts, restart_parts, line_parts, parts_from}

-- what parts show of a node, and what the items of its events do
record Said (X : Type 0) : Type 1 where
  part : Id → ClusterPart → List X
  items : List Item → List X
  shared : (m : Id) (x : TracePart) → part m (Shared x) ≡ []
  misrouted : (m : Id) → part m Misrouted ≡ []
  event : (m n : Id) (h : History) (count : ℕ) (is : List Item) → flat_map (part m) (items_parts h count n is) ≡ (if same n m then items is else [])
  settled : (k : Bool) (is : List Item) → items (map (settled_item k) is) ≡ items is

-- ---- the parts of an event

module _ {X : Type 0} (f : ClusterPart → List X) where
  joined : (xs ys : List ClusterPart) (firsts rest : List X) → flat_map f xs ≡ firsts → flat_map f ys ≡ rest → flat_map f (xs ++ ys) ≡ firsts ++ rest
  joined xs ys firsts rest p q = flat_map-append f xs ys ∙ (λ i. p i ++ q i)

  four : (ps ds fs rs : List ClusterPart) (a d r : List X) → flat_map f ps ≡ a → flat_map f ds ≡ d → flat_map f fs ≡ [] → flat_map f rs ≡ r → flat_map f (ps ++ ds ++ fs ++ rs) ≡ a ++ d ++ r
  four ps ds fs rs a d r p q s t =
      joined (ps ++ ds ++ fs) rs (a ++ d) r
      (joined (ps ++ ds) fs (a ++ d) [] (joined ps ds a d p q) s ∙ append-nil (a ++ d)) t

no_policy : {X : Type 0} (f : ClusterPart → List X) → ((x : TracePart) → f (Shared x) ≡ []) → ((n : Id) (mode : Mode) (term : ℕ) → f (ModeChanged n mode term) ≡ []) → (n : Id) (h : History) (ss : List Deed) → flat_map f (policy_parts h n ss) ≡ []
no_policy f a b n h [] = refl
no_policy f a b n h (deed.Act act o ∷ ss) = (λ i. a (DidShow (act_shown (length (sent h)) (last_published (node_history h n)) n act o)) i ++ flat_map f (policy_parts (Next h n act o) n ss)) ∙ no_policy f a b n (Next h n act o) ss
no_policy f a b n h (deed.Mode mode term ∷ ss) = (λ i. b n mode term i ++ flat_map f (policy_parts h n ss)) ∙ no_policy f a b n h ss

none_of_all : {X A : Type 0} (f : ClusterPart → List X) (part : A → ClusterPart) → ((a : A) → f (part a) ≡ []) → (xs : List A) → flat_map f (map part xs) ≡ []
none_of_all f part e [] = refl
none_of_all f part e (a ∷ xs) = (λ i. e a i ++ flat_map f (map part xs)) ∙ none_of_all f part e xs

own : {X : Type 0} (f : ClusterPart → List X) (part : X → ClusterPart) (b : Bool) → ((x : X) → f (part x) ≡ (if b then x ∷ [] else [])) → (xs : List X) → flat_map f (map part xs) ≡ (if b then xs else [])
own f part true e [] = refl
own f part false e [] = refl
own f part true e (x ∷ xs) = λ i. e x i ++ own f part true e xs i
own f part false e (x ∷ xs) = λ i. e x i ++ own f part false e xs i

-- ---- the changes of mode

chosen : {X : Type 0} (b : Bool) (x : X) (xs : List X) → (if b then x ∷ [] else []) ++ (if b then xs else []) ≡ (if b then x ∷ xs else [])
chosen true x xs = refl
chosen false x xs = refl

none_chosen : {X : Type 0} (b : Bool) (xs : List X) → xs ≡ [] → (if b then xs else []) ≡ []
none_chosen true xs e = e
none_chosen false xs e = refl

mode_parts : (m n : Id) (h : History) (is : List Item) → flat_map (mode_in m) (policy_parts h n (deeds_of is)) ≡ (if same n m then modes_of is else [])
mode_parts m n h [] = sym (none_chosen (same n m) (modes_of []) refl)
mode_parts m n h (Acts act o ∷ is) = mode_parts m n (Next h n act o) is
mode_parts m n h (ChangesMode mode term ∷ is) =
    ap (λ (xs : List ModeShown). (if same n m then record { mode = mode; term = term } ∷ [] else []) ++ xs) (mode_parts m n h is)
    ∙ chosen (same n m) (record { mode = mode; term = term }) (modes_of is)
mode_parts m n h (Opens found ∷ is) = mode_parts m n h is
mode_parts m n h (Begins event ∷ is) = mode_parts m n h is
mode_parts m n h (Drops member cause ∷ is) = mode_parts m n h is
mode_parts m n h (Sends frame ∷ is) = mode_parts m n h is
mode_parts m n h (Replies answer ∷ is) = mode_parts m n h is
mode_parts m n h (Notes note ∷ is) = mode_parts m n h is

settled_modes : (k : Bool) (is : List Item) → modes_of (map (settled_item k) is) ≡ modes_of is
settled_modes k [] = refl
settled_modes k (ChangesMode mode term ∷ is) = ap (λ (xs : List ModeShown). record { mode = mode; term = term } ∷ xs) (settled_modes k is)
settled_modes k (Acts act (Answered reply) ∷ is) = settled_modes k is
settled_modes k (Acts act (Disk was) ∷ is) = settled_modes k is
settled_modes k (Acts act (Crashed was) ∷ is) = settled_modes k is
settled_modes k (Opens found ∷ is) = settled_modes k is
settled_modes k (Begins event ∷ is) = settled_modes k is
settled_modes k (Drops member cause ∷ is) = settled_modes k is
settled_modes k (Sends frame ∷ is) = settled_modes k is
settled_modes k (Replies answer ∷ is) = settled_modes k is
settled_modes k (Notes note ∷ is) = settled_modes k is

said_modes : Said ModeShown
said_modes = record {
  part = mode_in;
  items = modes_of;
  shared = λ m x. refl;
  misrouted = λ m. refl;
  event = λ m n h count is.
      four (mode_in m) (policy_parts h n (deeds_of is)) (map (Dropped n) (drops_of is)) (map Framed (numbered_frames count (frames_of is))) (map (Replied n) (replies_of is)) (if same n m then modes_of is else []) [] []
      (mode_parts m n h is) (none_of_all (mode_in m) (Dropped n) (λ d. refl) (drops_of is)) (none_of_all (mode_in m) Framed (λ d. refl) (numbered_frames count (frames_of is))) (none_of_all (mode_in m) (Replied n) (λ d. refl) (replies_of is))
      ∙ append-nil ((if same n m then modes_of is else []) ++ []) ∙ append-nil (if same n m then modes_of is else []);
  settled = settled_modes;
}

-- ---- the drops

settled_drops : (k : Bool) (is : List Item) → flat_map drops_in (map (settled_item k) is) ≡ flat_map drops_in is
settled_drops k [] = refl
settled_drops k (Drops member cause ∷ is) = ap (λ (xs : List MemberDrop). record { member = member; cause = cause } ∷ xs) (settled_drops k is)
settled_drops k (Acts act (Answered reply) ∷ is) = settled_drops k is
settled_drops k (Acts act (Disk was) ∷ is) = settled_drops k is
settled_drops k (Acts act (Crashed was) ∷ is) = settled_drops k is
settled_drops k (Opens found ∷ is) = settled_drops k is
settled_drops k (Begins event ∷ is) = settled_drops k is
settled_drops k (ChangesMode mode term ∷ is) = settled_drops k is
settled_drops k (Sends frame ∷ is) = settled_drops k is
settled_drops k (Replies answer ∷ is) = settled_drops k is
settled_drops k (Notes note ∷ is) = settled_drops k is

said_drops : Said MemberDrop
said_drops = record {
  part = drop_in;
  items = drops_of;
  shared = λ m x. refl;
  misrouted = λ m. refl;
  event = λ m n h count is.
      four (drop_in m) (policy_parts h n (deeds_of is)) (map (Dropped n) (drops_of is)) (map Framed (numbered_frames count (frames_of is))) (map (Replied n) (replies_of is)) [] (if same n m then drops_of is else []) []
      (no_policy (drop_in m) (λ x. refl) (λ a b c. refl) n h (deeds_of is)) (own (drop_in m) (Dropped n) (same n m) (λ d. refl) (drops_of is)) (none_of_all (drop_in m) Framed (λ d. refl) (numbered_frames count (frames_of is))) (none_of_all (drop_in m) (Replied n) (λ d. refl) (replies_of is))
      ∙ append-nil (if same n m then drops_of is else []);
  settled = λ k is. ap by_member (settled_drops k is);
}

-- ---- the replies

settled_replies : (k : Bool) (items : List Item) → replies_of (map (settled_item k) items) ≡ replies_of items
settled_replies k [] = refl
settled_replies k (Replies answer ∷ is) = ap (λ (xs : List Outgoing). answer ∷ xs) (settled_replies k is)
settled_replies k (Acts act (Answered reply) ∷ is) = settled_replies k is
settled_replies k (Acts act (Disk was) ∷ is) = settled_replies k is
settled_replies k (Acts act (Crashed was) ∷ is) = settled_replies k is
settled_replies k (Opens found ∷ is) = settled_replies k is
settled_replies k (Begins event ∷ is) = settled_replies k is
settled_replies k (ChangesMode mode term ∷ is) = settled_replies k is
settled_replies k (Drops member cause ∷ is) = settled_replies k is
settled_replies k (Sends frame ∷ is) = settled_replies k is
settled_replies k (Notes note ∷ is) = settled_replies k is

said_replies : Said Outgoing
said_replies = record {
  part = reply_in;
  items = replies_of;
  shared = λ m x. refl;
  misrouted = λ m. refl;
  event = λ m n h count is.
      four (reply_in m) (policy_parts h n (deeds_of is)) (map (Dropped n) (drops_of is)) (map Framed (numbered_frames count (frames_of is))) (map (Replied n) (replies_of is)) [] [] (if same n m then replies_of is else [])
      (no_policy (reply_in m) (λ x. refl) (λ a b c. refl) n h (deeds_of is)) (none_of_all (reply_in m) (Dropped n) (λ d. refl) (drops_of is)) (none_of_all (reply_in m) Framed (λ d. refl) (numbered_frames count (frames_of is))) (own (reply_in m) (Replied n) (same n m) (λ d. refl) (replies_of is));
  settled = settled_replies;
}

-- ---- all lines, of any of these

module _ {X : Type 0} (r : Said X) (m : Id) where
  -- what was shown of the node is what its life shows, as far as they go
  abbrev Goes : Cluster → Cluster → List ClusterPart → Type 0
  Goes c d xs = life_shows r.items (c.lives m) ++ flat_map (r.part m) xs ≡ life_shows r.items (d.lives m)

  stays : (c : Cluster) (xs : List ClusterPart) → flat_map (r.part m) xs ≡ [] → Goes c c xs
  stays c xs e = ap (λ (ys : List X). life_shows r.items (c.lives m) ++ ys) e ∙ append-nil (life_shows r.items (c.lives m))

  one_shared : (x : TracePart) (xs : List ClusterPart) → flat_map (r.part m) (Shared x ∷ xs) ≡ flat_map (r.part m) xs
  one_shared x xs = λ i. r.shared m x i ++ flat_map (r.part m) xs

  stays_shared : (c : Cluster) (x : TracePart) → Goes c c (Shared x ∷ [])
  stays_shared c x = stays c (Shared x ∷ []) (one_shared x [])

  goes : (c d e : Cluster) (xs ys : List ClusterPart) → Goes c d xs → Goes d e ys → Goes c e (xs ++ ys)
  goes c d e xs ys p q =
      ap (λ (zs : List X). life_shows r.items (c.lives m) ++ zs) (flat_map-append (r.part m) xs ys)
      ∙ sym (append_assoc (life_shows r.items (c.lives m)) (flat_map (r.part m) xs) (flat_map (r.part m) ys))
      ∙ ap (λ (zs : List X). zs ++ flat_map (r.part m) ys) p
      ∙ q

  settled_life_shows : (k : Bool) (life : Life) → life_shows r.items (settled_life k life) ≡ life_shows r.items life
  settled_life_shows k NotBegun = refl
  settled_life_shows k (Opened life found) = refl
  settled_life_shows k (Lived life (Did event items)) = ap (λ (xs : List X). life_shows r.items life ++ xs) (r.settled k items)
  settled_life_shows k (Lived life (Gone conn)) = refl
  settled_life_shows k (Lived life (Bad conn fault)) = refl
  settled_life_shows k (Lived life NoMemory) = refl
  settled_life_shows k (Lived life (Unread conn)) = refl

  module _ (s : Settings) where
    -- the life of a node that shows this, among all lives
    with_more : (lives : Id → Life) (life : Life) (more : List X) → life_shows r.items (lives s.me) ++ more ≡ life_shows r.items life
        → life_shows r.items (lives m) ++ (if same s.me m then more else []) ≡ life_shows r.items (with_life lives s.me life m)
    with_more lives life more e = from (same s.me m) refl
      where
        from : (b : Bool) → same s.me m ≡ b → life_shows r.items (lives m) ++ (if b then more else []) ≡ life_shows r.items (cond b life (lives m))
        from true is = ap (λ (k : Id). life_shows r.items (lives k) ++ more) (sym (same_is s.me m is)) ∙ e
        from false is = append-nil (life_shows r.items (lives m))

    event_goes : (c : Cluster) (event : Event) → Goes c (after_event s c event) (event_parts s c event)
    event_goes c event =
        let items : List Item = (event_course s c event).items in
        ap (λ (xs : List X). life_shows r.items (c.lives m) ++ xs) (r.event m s.me c.world.history (length c.frames) items)
        ∙ with_more c.lives (Lived (c.lives s.me) (Did event items)) (r.items items) refl

    if_up_goes : (c : Cluster) (event : Event) → Goes c (after_event_if_up s c event) (event_parts_if_up s c event)
    if_up_goes c event = from (needs_opening (own_world s c))
      where
        from : (b : Bool) → Goes c (if b then c else after_event s c event) (if b then Shared (WasDown s.me) ∷ [] else event_parts s c event)
        from true = stays_shared c (WasDown s.me)
        from false = event_goes c event

    frame_goes : (c : Cluster) (f : Option Frame) → Goes c (after_frame s c f) (frame_parts s c f)
    frame_goes c None = from (needs_opening (own_world s c))
      where
        from : (b : Bool) → Goes c c ((if b then Shared (WasDown s.me) else Shared Unsent) ∷ [])
        from true = stays_shared c (WasDown s.me)
        from false = stays_shared c Unsent
    frame_goes c (Some frame) = from (needs_opening (own_world s c)) (same frame.to s.me)
      where
        from : (down own : Bool) → Goes c (if own then (if down then c else after_event s c (FrameCame frame)) else c)
            (if down then Shared (WasDown s.me) ∷ [] else (if own then event_parts s c (FrameCame frame) else Misrouted ∷ []))
        from true true = stays_shared c (WasDown s.me)
        from true false = stays_shared c (WasDown s.me)
        from false true = event_goes c (FrameCame frame)
        from false false = stays c (Misrouted ∷ []) (λ i. r.misrouted m i ++ [])

    opened_goes : (c : Cluster) → Goes c (with_opened s c) []
    opened_goes c = from (same s.me m) (with_more c.lives (life_opened s c) [] (append-nil _ ∙ sym (settled_life_shows (is_kept (own_world s c).acts (found_at (own_world s c))) (c.lives s.me))))
      where
        from : (b : Bool) → life_shows r.items (c.lives m) ++ (if b then [] else []) ≡ life_shows r.items ((with_opened s c).lives m) → Goes c (with_opened s c) []
        from true e = e
        from false e = e

    start_goes : (c : Cluster) (end : CallsEnd) → Goes c (opened_by s end c) (start_parts s end c)
    start_goes c Done = goes c (with_opened s c) (after_event s (with_opened s c) Start) [] (event_parts s (with_opened s c) Start) (opened_goes c) (event_goes (with_opened s c) Start)
    start_goes c Failed = append-nil (life_shows r.items (c.lives m))
    start_goes c (CrashedIn way) = append-nil (life_shows r.items (c.lives m))

    restart_goes : (c : Cluster) → Goes c (after_restart s c) (restart_parts s c)
    restart_goes c = from (needs_opening (own_world s c))
      where
        from : (b : Bool) → Goes c (if b then opened_by s (opening (own_world s c).disk).ended c else c)
            (Shared (restart_part c.world s.me) ∷ (if b then start_parts s (opening (own_world s c).disk).ended c else []))
        from true =
            ap (λ (xs : List X). life_shows r.items (c.lives m) ++ xs) (one_shared (restart_part c.world s.me) (start_parts s (opening (own_world s c).disk).ended c))
            ∙ start_goes c (opening (own_world s c).disk).ended
        from false = stays_shared c (restart_part c.world s.me)

  module _ (nodes initial voting_only : List Id) (second : Bool) where
    crash_goes : (c : Cluster) (n : Id) (b : Bool) → Goes c c ((if b then Shared (WasDown n) else Shared (WentDown n)) ∷ [])
    crash_goes c n true = stays_shared c (WasDown n)
    crash_goes c n false = stays_shared c (WentDown n)

    line_goes : (c : Cluster) (l : Line) → Goes c (after nodes initial voting_only second c l) (line_parts nodes initial voting_only second c l)
    line_goes c (line.Tick n now word) = if_up_goes (settings_of nodes initial voting_only second n) c (Tick now word)
    line_goes c (line.Client n bytes) = if_up_goes (settings_of nodes initial voting_only second n) c (LineCame 0 bytes)
    line_goes c (line.Disconnect n peer) = if_up_goes (settings_of nodes initial voting_only second n) c (PeerGone peer)
    line_goes c (line.Deliver n number) = frame_goes (settings_of nodes initial voting_only second n) c (frame_at c number)
    line_goes c (line.Crash n way) = crash_goes c n (c.world.down n)
    line_goes c (line.Restart n) = restart_goes (settings_of nodes initial voting_only second n) c
    line_goes c (line.Fuse n count way) = append-nil (life_shows r.items (c.lives m))
    line_goes c (line.Fail n count) = append-nil (life_shows r.items (c.lives m))
    line_goes c (line.Boot n) = append-nil (life_shows r.items (c.lives m))
    line_goes c (line.StartJoin n candidate term) = append-nil (life_shows r.items (c.lives m))
    line_goes c (line.Value n version text config) = append-nil (life_shows r.items (c.lives m))

    lines_go : (c : Cluster) (ls : List Line) → Goes c (replayed_from nodes initial voting_only second c ls) (parts_from nodes initial voting_only second c ls)
    lines_go c [] = append-nil (life_shows r.items (c.lives m))
    lines_go c (l ∷ ls) =
        ap (λ (xs : List X). life_shows r.items (c.lives m) ++ xs) (one_shared (Echo l) (line_parts nodes initial voting_only second c l ++ parts_from nodes initial voting_only second (after nodes initial voting_only second c l) ls))
        ∙ goes c (after nodes initial voting_only second c l) (replayed_from nodes initial voting_only second c (l ∷ ls)) (line_parts nodes initial voting_only second c l) (parts_from nodes initial voting_only second (after nodes initial voting_only second c l) ls) (line_goes c l)
        (lines_go (after nodes initial voting_only second c l) ls)

    -- a node's life begins with its start, which changes nothing that is shown
    all_said : (ls : List Line) → life_shows r.items ((fresh_cluster nodes initial voting_only second).lives m) ≡ [] → flat_map (r.part m) (parts_from nodes initial voting_only second (fresh_cluster nodes initial voting_only second) ls)
        ≡ life_shows r.items ((replayed_from nodes initial voting_only second (fresh_cluster nodes initial voting_only second) ls).lives m)
    all_said ls none = ap (λ (xs : List X). xs ++ flat_map (r.part m) (parts_from nodes initial voting_only second (fresh_cluster nodes initial voting_only second) ls)) (sym none) ∙ lines_go (fresh_cluster nodes initial voting_only second) ls

-- ---- each of them

module _ (m : Id) (nodes initial voting_only : List Id) (second : Bool) (ls : List Line) where
  pub all_modes : modes_shown m (parts_from nodes initial voting_only second (fresh_cluster nodes initial voting_only second) ls) ≡ life_modes ((replayed_from nodes initial voting_only second (fresh_cluster nodes initial voting_only second) ls).lives m)
  unfolding said_modes
  all_modes = all_said said_modes m nodes initial voting_only second ls refl

  pub all_drops : drops_shown m (parts_from nodes initial voting_only second (fresh_cluster nodes initial voting_only second) ls) ≡ life_drops ((replayed_from nodes initial voting_only second (fresh_cluster nodes initial voting_only second) ls).lives m)
  unfolding said_drops
  all_drops = all_said said_drops m nodes initial voting_only second ls refl

  pub all_replies : replies_shown m (parts_from nodes initial voting_only second (fresh_cluster nodes initial voting_only second) ls) ≡ life_replies ((replayed_from nodes initial voting_only second (fresh_cluster nodes initial voting_only second) ls).lives m)
  unfolding said_replies
  all_replies = all_said said_replies m nodes initial voting_only second ls refl
