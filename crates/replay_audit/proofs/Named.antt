-- What the parts of a schedule of whole nodes name are ids, and the acts of a node's own have numbers within the limits.
use Rattle.std.proofs.Common.{◌≡◌, ℕ, ◌+◌, ◌-◌, Bool, true, false, None, Some, Option, List, [], ◌∷◌, length, map, refl, slice_get, if◌then◌else◌, IsTrue, arith}
use Rattle.std.specs.List.{AllByRecursion, flat_map}
use Rattle.voting_config.specs.Ids.{Id, is_id, has, same, before, IsIdSet}
use Rattle.cluster_state.specs.declared.state.Kept.{Kept}
use Rattle.master_tasks.proofs.Limits.{each_append, each_at}
use Rattle.master_tasks.specs.declared.waiting.Outgoing.{Outgoing}
use Rattle.wire_frames.specs.declared.frame.Frame.{Frame}
use Rattle.wire_frames.specs.declared.frame.WireMessage.{WireMessage as FrameMessage}
use Rattle.wire_frames.specs.declared.frame.WireMessage.TheVariants as message
use Rattle.world_model.specs.declared.acts.Act.{Act}
use Rattle.world_model.specs.declared.acts.Act.TheVariants.{Bootstrap, StartJoin, TakeJoin, Value, Publish, Response, Commit, Open}
use Rattle.world_model.specs.Histories.{History, Next, sent}
use Rattle.schedule_text.specs.declared.schedule.Line.{Line}
use Rattle.schedule_text.specs.declared.schedule.Line.TheVariants as line
use Rattle.line_laws.specs.Fits.{FitsFrame, FitsFrameMessage, FitsMaster, FitsMode}
use Rattle.line_laws.specs.Readable.{IsReadable}
use Rattle.policy_model.specs.declared.events.Event.{Event}
use Rattle.policy_model.specs.declared.events.Event.TheVariants.{Start, Tick, Frame as FrameCame, Client as LineCame, Disconnected as PeerGone}
use Rattle.policy_model.specs.declared.events.MemberDrop.{MemberDrop}
use Rattle.policy_model.specs.declared.events.Mode.{Mode}
use Rattle.policy_model.specs.declared.events.Mode.TheVariants.{Candidate, Leader, Follower}
use Rattle.policy_model.specs.declared.events.Deed.{Deed as NodeStep}
use Rattle.policy_model.specs.declared.events.Deed.TheVariants as deed
use Rattle.policy_model.specs.Events.{Item, Opens, Begins, Acts, ChangesMode, Drops, Sends, Replies, Notes}
use Rattle.policy_model.specs.Entries.{by_member, drops_in, drops_of, frames_in, frames_of, put_drop, replies_of, deeds_of}
use Rattle.replay_node.specs.NodeDisk.{CallsEnd, Done, Failed, CrashedIn, opening}
use Rattle.replay_node.specs.NodeWorld.{found_at, needs_opening}
use Rattle.replay_node.specs.Worlds.{node_world}
use Rattle.replay_node.specs.Clusters.{Cluster, after, event_course, frame_at, settings_of, with_opened}
use Rattle.schedule_replay.specs.Parts.{TracePart, Did, WasDown, WentDown, Unsent}
use Rattle.schedule_replay.specs.TraceParts.{opening_part}
use Rattle.schedule_replay.specs.ClusterParts.{ClusterPart, Shared, ModeChanged, Dropped, Framed, Replied}
use Rattle.schedule_replay.specs.ClusterShown.{numbered_frames}
use Rattle.schedule_replay.specs.ClusterTraceParts.{event_parts_if_up, frame_parts, items_parts, line_parts, policy_parts, restart_parts, start_parts, parts_from}
use Rattle.cluster_replay.specs.Laws.{node_of}
use Rattle.cluster_replay.proofs.Naming.{frames-sorted, NamesAct, NamesFrame, NamesItem, NamesMaster, NamesMessage, NamesMode}
use Rattle.cluster_replay.proofs.Allowing.{IsGoodFrame}
use Rattle.cluster_replay.proofs.Asking.{good-asks}
use Rattle.cluster_replay.proofs.Invariants.{SoundCluster}
use Rattle.cluster_replay.proofs.Schedules.{event_named, frame_comes, line_restart, line_sound}

-- what a node does of its own accord names ids, and numbers and values within the limits
abbrev pub IsNamedAct : Act → Type 0
IsNamedAct (StartJoin candidate term) = IsReadable (StartJoin candidate term)
IsNamedAct (Value version config value) = IsReadable (Value version config value)
IsNamedAct other = Unit {0}

-- what a part names are ids: who leads, who is dropped, and whom a frame names
abbrev pub IsNamed : ClusterPart → Type 0
IsNamed (Shared (Did x)) = IsNamedAct x.act
IsNamed (ModeChanged n mode term) = FitsMode mode
IsNamed (Dropped n d) = IsTrue (is_id d.member)
IsNamed (Framed f) = FitsFrame f.frame
IsNamed other = Unit {0}

abbrev pub AreNamed : List ClusterPart → Type 0
AreNamed xs = AllByRecursion IsNamed xs

-- ---- of items

named_act : (act : Act) → NamesAct act → IsNamedAct act
named_act (StartJoin candidate term) h = (h.0, omega (arith, h.1))
named_act (Value version config value) h = (omega (arith, h.2), h.0, h.1)
named_act (Bootstrap config) h = tt
named_act (TakeJoin join) h = tt
named_act (Publish request) h = tt
named_act (Response response) h = tt
named_act (Commit commit) h = tt
named_act (Open found) h = tt

named_mode : (mode : Mode) → NamesMode mode → FitsMode mode
named_mode Candidate h = tt
named_mode Leader h = tt
named_mode (Follower leader) h = h

named_master : (master : Option Id) → NamesMaster master → FitsMaster master
named_master None h = tt
named_master (Some master) h = h

named_message : (m : FrameMessage) → NamesMessage m → FitsFrameMessage m
named_message (message.StartJoin candidate term) h = h.0
named_message (message.PeersAsk known) h = h
named_message (message.PeersAnswer master term known) h = (named_master master h.0, h.2)
named_message (message.PreVoteRefuse leader) h = h
named_message (message.Join term last) h = tt
named_message (message.JoinAsk term) h = tt
named_message (message.FollowerCheck term) h = tt
named_message (message.Publish state) h = tt
named_message (message.Response id) h = tt
named_message (message.Commit id) h = tt
named_message message.PreVoteAsk h = tt
named_message (message.PreVoteAnswer term last) h = tt
named_message (message.FollowerAnswer good term applied) h = tt
named_message (message.LeaderCheck term) h = tt
named_message (message.LeaderAnswer good) h = tt

abbrev NamesStep : NodeStep → Type 0
NamesStep (deed.Act act o) = NamesAct act
NamesStep (deed.Mode mode term) = NamesMode mode

steps_named : (is : List Item) → AllByRecursion NamesItem is → AllByRecursion NamesStep (deeds_of is)
steps_named [] h = tt
steps_named (Opens found ∷ is) h = steps_named is h.1
steps_named (Begins event ∷ is) h = steps_named is h.1
steps_named (Acts act outcome ∷ is) h = (h.0, steps_named is h.1)
steps_named (ChangesMode mode term ∷ is) h = (h.0, steps_named is h.1)
steps_named (Drops member cause ∷ is) h = steps_named is h.1
steps_named (Sends frame ∷ is) h = steps_named is h.1
steps_named (Replies answer ∷ is) h = steps_named is h.1
steps_named (Notes note ∷ is) h = steps_named is h.1

policy_named : (h : History) (n : Id) (ss : List NodeStep) → AllByRecursion NamesStep ss → AreNamed (policy_parts h n ss)
policy_named h n [] k = tt
policy_named h n (deed.Act act o ∷ ss) k = (named_act act k.0, policy_named (Next h n act o) n ss k.1)
policy_named h n (deed.Mode mode term ∷ ss) k = (named_mode mode k.0, policy_named h n ss k.1)

abbrev NamesDrop : MemberDrop → Type 0
NamesDrop d = IsTrue (is_id d.member)

drops_named : (is : List Item) → AllByRecursion NamesItem is → AllByRecursion NamesDrop (flat_map drops_in is)
drops_named [] h = tt
drops_named (Opens found ∷ is) h = drops_named is h.1
drops_named (Begins event ∷ is) h = drops_named is h.1
drops_named (Acts act outcome ∷ is) h = drops_named is h.1
drops_named (ChangesMode mode term ∷ is) h = drops_named is h.1
drops_named (Drops member cause ∷ is) h = (h.0, drops_named is h.1)
drops_named (Sends frame ∷ is) h = drops_named is h.1
drops_named (Replies answer ∷ is) h = drops_named is h.1
drops_named (Notes note ∷ is) h = drops_named is h.1

drop_put : (d : MemberDrop) (ds : List MemberDrop) → NamesDrop d → AllByRecursion NamesDrop ds → AllByRecursion NamesDrop (put_drop d ds)
drop_put d [] h k = (h, tt)
drop_put d (e ∷ es) h k = from (before e.member d.member) (drop_put d es h k.1)
  where
    from : (b : Bool) → AllByRecursion NamesDrop (put_drop d es) → AllByRecursion NamesDrop (if b then e ∷ put_drop d es else d ∷ e ∷ es)
    from true rest = (k.0, rest)
    from false rest = (h, k)

drops_sorted : (ds : List MemberDrop) → AllByRecursion NamesDrop ds → AllByRecursion NamesDrop (by_member ds)
drops_sorted [] h = tt
drops_sorted (d ∷ ds) h = drop_put d (by_member ds) h.0 (drops_sorted ds h.1)

dropped_named : (n : Id) (ds : List MemberDrop) → AllByRecursion NamesDrop ds → AreNamed (map (Dropped n) ds)
dropped_named n [] h = tt
dropped_named n (d ∷ ds) h = (h.0, dropped_named n ds h.1)

frames_named : (is : List Item) → AllByRecursion NamesItem is → AllByRecursion NamesFrame (flat_map frames_in is)
frames_named [] h = tt
frames_named (Opens found ∷ is) h = frames_named is h.1
frames_named (Begins event ∷ is) h = frames_named is h.1
frames_named (Acts act outcome ∷ is) h = frames_named is h.1
frames_named (ChangesMode mode term ∷ is) h = frames_named is h.1
frames_named (Drops member cause ∷ is) h = frames_named is h.1
frames_named (Sends frame ∷ is) h = (h.0, frames_named is h.1)
frames_named (Replies answer ∷ is) h = frames_named is h.1
frames_named (Notes note ∷ is) h = frames_named is h.1

framed_named : (count : ℕ) (fs : List Frame) → AllByRecursion NamesFrame fs → AreNamed (map Framed (numbered_frames count fs))
framed_named count [] h = tt
framed_named count (f ∷ fs) h = ((h.0.0, h.0.1, named_message f.message h.0.2), framed_named (count + 1) fs h.1)

replied_named : (n : Id) (rs : List Outgoing) → AreNamed (map (Replied n) rs)
replied_named n [] = tt
replied_named n (r ∷ rs) = (tt, replied_named n rs)

items_named : (h : History) (count : ℕ) (n : Id) (is : List Item) → AllByRecursion NamesItem is → AreNamed (items_parts h count n is)
items_named h count n is k =
    each_append IsNamed _ (map (Replied n) (replies_of is))
    (each_append IsNamed _ (map Framed (numbered_frames count (frames_of is)))
    (each_append IsNamed (policy_parts h n (deeds_of is)) (map (Dropped n) (drops_of is)) (policy_named h n (deeds_of is) (steps_named is k)) (dropped_named n (drops_of is) (drops_sorted (flat_map drops_in is) (drops_named is k))))
    (framed_named count (frames_of is) (frames-sorted (flat_map frames_in is) (frames_named is k))))
    (replied_named n (replies_of is))

-- ---- of lines

named_if : (b c : Bool) (xs ys : List ClusterPart) → b ≡ c → (c ≡ true → AreNamed xs) → (c ≡ false → AreNamed ys) → AreNamed (if b then xs else ys)
named_if true true xs ys e p q = p refl
named_if false false xs ys e p q = q refl
named_if true false xs ys e p q = absurd (cc)
named_if false true xs ys e p q = absurd (cc)

named_one : (b : Bool) (x y : ClusterPart) → IsNamed x → IsNamed y → AreNamed ((if b then x else y) ∷ [])
named_one true x y p q = (p, tt)
named_one false x y p q = (q, tt)

module _ (nodes initial voting_only : List Id) (second : Bool) (ids : IsIdSet nodes) (set : IsIdSet initial) where
  named_event_if_up : (n : Id) (e : Event) (c : Cluster) → has n nodes ≡ true → (needs_opening (node_world c.world n) ≡ false → AllByRecursion NamesItem (event_course (settings_of nodes initial voting_only second n) c e).items)
      → AreNamed (event_parts_if_up (settings_of nodes initial voting_only second n) c e)
  named_event_if_up n e c listed names =
      named_if (needs_opening (node_world c.world n)) (needs_opening (node_world c.world n)) _ _ refl (λ t. (tt, tt)) (λ runs. items_named c.world.history (length c.frames) n _ (names runs))

  named_frame : (n : Id) (k : ℕ) (o : Option Frame) (c : Cluster) → has n nodes ≡ true → slice_get c.frames k ≡ o → SoundCluster nodes initial voting_only second c → AreNamed (frame_parts (settings_of nodes initial voting_only second n) c o)
  named_frame n k None c listed e h = named_one (needs_opening (node_world c.world n)) (Shared (WasDown n)) (Shared Unsent) tt tt
  named_frame n k (Some f) c listed e h =
      named_if (needs_opening (node_world c.world n)) (needs_opening (node_world c.world n)) _ _ refl (λ t. (tt, tt))
      (λ runs. named_if (same f.to n) (same f.to n) _ _ refl
      (λ t. items_named c.world.history (length c.frames) n _ (event_named nodes initial voting_only second ids set n (FrameCame f) c listed refl (frame_comes nodes initial voting_only second ids set (sent c.world.history) f h.world.messages (each_at (IsGoodFrame (sent c.world.history)) c.frames k f h.frames e)) h runs))
      (λ t. (tt, tt)))

  named_opening : (end : CallsEnd) (n : Id) (found : Kept) → IsNamed (Shared (opening_part end n found))
  named_opening Done n found = tt
  named_opening Failed n found = tt
  named_opening (CrashedIn way) n found = tt

  named_restart_step : (b : Bool) (x y : TracePart) → IsNamed (Shared x) → IsNamed (Shared y) → IsNamed (Shared (if b then x else y))
  named_restart_step true x y p q = p
  named_restart_step false x y p q = q

  named_start : (n : Id) (end : CallsEnd) (c : Cluster) → (end ≡ Done → AllByRecursion NamesItem (event_course (settings_of nodes initial voting_only second n) (with_opened (settings_of nodes initial voting_only second n) c) Start).items) → AreNamed (start_parts (settings_of nodes initial voting_only second n) end c)
  named_start n Done c names = items_named (with_opened (settings_of nodes initial voting_only second n) c).world.history (length c.frames) n ((event_course (settings_of nodes initial voting_only second n) (with_opened (settings_of nodes initial voting_only second n) c) Start).items) (names refl)
  named_start n Failed c names = tt
  named_start n (CrashedIn way) c names = tt

  named_restart : (n : Id) (c : Cluster) → has n nodes ≡ true → SoundCluster nodes initial voting_only second c → AreNamed (restart_parts (settings_of nodes initial voting_only second n) c)
  named_restart n c listed h = (
    named_restart_step (needs_opening (node_world c.world n)) _ _ (named_opening (opening (c.world.disks n)).ended n (found_at (node_world c.world n))) tt,
    named_if (needs_opening (node_world c.world n)) (needs_opening (node_world c.world n)) _ _ refl
        (λ needs. named_start n (opening (node_world c.world n).disk).ended c ((line_restart nodes initial voting_only second ids set n c listed h).1 needs)) (λ t. tt),
  )

  named_line : (c : Cluster) (l : Line) → has (node_of l) nodes ≡ true → SoundCluster nodes initial voting_only second c → AreNamed (line_parts nodes initial voting_only second c l)
  named_line c (line.Tick n now word) f h = named_event_if_up n (Tick now word) c f (λ runs. event_named nodes initial voting_only second ids set n (Tick now word) c f refl tt h runs)
  named_line c (line.Client n bytes) f h = named_event_if_up n (LineCame 0 bytes) c f (λ runs. event_named nodes initial voting_only second ids set n (LineCame 0 bytes) c f refl (good-asks bytes) h runs)
  named_line c (line.Disconnect n peer) f h = named_event_if_up n (PeerGone peer) c f (λ runs. event_named nodes initial voting_only second ids set n (PeerGone peer) c f refl tt h runs)
  named_line c (line.Deliver n number) f h = named_frame n (number - 1) (frame_at c number) c f refl h
  named_line c (line.Crash n way) f h = named_one (c.world.down n) (Shared (WasDown n)) (Shared (WentDown n)) tt tt
  named_line c (line.Restart n) f h = named_restart n c f h
  named_line c (line.Fuse n count way) f h = tt
  named_line c (line.Fail n count) f h = tt
  named_line c (line.Boot n) f h = tt
  named_line c (line.StartJoin n candidate term) f h = tt
  named_line c (line.Value n version text config) f h = tt

  pub named_lines : (c : Cluster) (ls : List Line) → AllByRecursion (λ (l : Line). has (node_of l) nodes ≡ true) ls → SoundCluster nodes initial voting_only second c → AreNamed (parts_from nodes initial voting_only second c ls)
  named_lines c [] f h = tt
  named_lines c (l ∷ ls) f h =
      (tt, each_append IsNamed (line_parts nodes initial voting_only second c l) _ (named_line c l f.0 h) (named_lines (after nodes initial voting_only second c l) ls f.1 (line_sound nodes initial voting_only second ids set c l f.0 h)))
