-- Who is no node of a schedule does nothing in it.
use Rattle.std.proofs.Common.{◌≡◌, Bool, true, false, Option, None, Some, List, [], ◌∷◌, refl, ◌∙◌, ap, subst, if◌then◌else◌}
use Rattle.std.specs.List.{AllByRecursion}
use Rattle.std.proofs.lemmas.Bool.{both_ways}
use Rattle.voting_config.specs.Ids.{Id, has, same}
use Rattle.voting_config.proofs.Sets.{same_is}
use Rattle.wire_frames.specs.declared.frame.Frame.{Frame}
use Rattle.zen_disk.specs.declared.orders.Order.TheVariants.{Stop, Fault}
use Rattle.world_model.specs.Acts.{NoActs}
use Rattle.world_model.specs.Histories.{node_history}
use Rattle.policy_model.specs.declared.events.Event.{Event}
use Rattle.policy_model.specs.declared.events.Event.TheVariants.{Start, Tick, Frame as FrameCame, Client as LineCame, Disconnected as PeerGone}
use Rattle.policy_model.specs.Events.{Item, Opens, Begins, Acts, ChangesMode, Drops, Sends, Replies, Notes}
use Rattle.policy_model.specs.Entries.{log_of}
use Rattle.policy_model.specs.Follows.{items_of}
use Rattle.schedule_text.specs.declared.schedule.Line.{Line}
use Rattle.schedule_text.specs.declared.schedule.Line.TheVariants as line
use Rattle.schedule_text.specs.declared.schedule.Schedule.{Schedule}
use Rattle.replay_node.specs.NodeDisk.{CallsEnd, Done, Failed, CrashedIn, opening}
use Rattle.replay_node.specs.NodeWorld.{NodeWorld, act_called, outcome_at, needs_opening}
use Rattle.replay_node.specs.Course.{act_then, played}
use Rattle.replay_node.specs.Worlds.{World, node_world, did}
use Rattle.replay_node.specs.Clusters.{Cluster, settings_of, after_event, after_event_if_up, after_frame, with_opened, opened_by, after_restart, frame_at, fresh_cluster, after, replayed_from, replayed_history}
use Rattle.replay_node.proofs.Moves.{moves_did, moves_opened, moves_crashed, moves_ordered}
use Rattle.cluster_replay.specs.Laws.{IsWellFormed, node_of}

apart : (n m : Id) (nodes : List Id) → has n nodes ≡ true → has m nodes ≡ false → same n m ≡ false
apart n m nodes is out = from (same n m) refl
  where
    from : (b : Bool) → same n m ≡ b → b ≡ false
    from true e = absurd (both_ways _ out (subst (λ (x : Id). has x nodes ≡ true) (same_is n m e) is))
    from false e = refl

-- m is another node than n
module _ (n m : Id) (other : same n m ≡ false) where
  played_others : (w : World) (is : List Item) → node_world (played n w is).world m ≡ node_world w m
  played_others w [] = refl
  played_others w (Acts act outcome ∷ is) = from (act_called n (node_world w n) act).ended (played_others (did w n act) is)
    where
      from : (end : CallsEnd) → node_world (played n (did w n act) is).world m ≡ node_world (did w n act) m
          → node_world (act_then end (Acts act (outcome_at n (node_world w n) act)) (did w n act) (λ (v : World). played n v is)).world m ≡ node_world w m
      from Done rest = rest ∙ (moves_did n act w).others m other
      from Failed rest = (moves_did n act w).others m other
      from (CrashedIn way) rest = (moves_did n act w).others m other
  played_others w (Opens found ∷ is) = played_others w is
  played_others w (Begins event ∷ is) = played_others w is
  played_others w (ChangesMode mode term ∷ is) = played_others w is
  played_others w (Drops member cause ∷ is) = played_others w is
  played_others w (Sends frame ∷ is) = played_others w is
  played_others w (Replies answer ∷ is) = played_others w is
  played_others w (Notes note ∷ is) = played_others w is

  module _ (nodes initial voting_only : List Id) (second : Bool) where
    event_others : (c : Cluster) (e : Event) → node_world (after_event (settings_of nodes initial voting_only second n) c e).world m ≡ node_world c.world m
    event_others c e = played_others c.world (items_of (settings_of nodes initial voting_only second n) (log_of (c.lives n)) e)

    if_up_others : (c : Cluster) (e : Event) → node_world (after_event_if_up (settings_of nodes initial voting_only second n) c e).world m ≡ node_world c.world m
    if_up_others c e = from (needs_opening (node_world c.world n))
      where
        from : (b : Bool) → node_world (if b then c else after_event (settings_of nodes initial voting_only second n) c e).world m ≡ node_world c.world m
        from true = refl
        from false = event_others c e

    frame_others : (c : Cluster) (o : Option Frame) → node_world (after_frame (settings_of nodes initial voting_only second n) c o).world m ≡ node_world c.world m
    frame_others c None = refl
    frame_others c (Some f) = from (same f.to n)
      where
        from : (b : Bool) → node_world (if b then after_event_if_up (settings_of nodes initial voting_only second n) c (FrameCame f) else c).world m ≡ node_world c.world m
        from true = if_up_others c (FrameCame f)
        from false = refl

    opened_others : (c : Cluster) (end : CallsEnd) → node_world (opened_by (settings_of nodes initial voting_only second n) end c).world m ≡ node_world c.world m
    opened_others c Done = event_others (with_opened (settings_of nodes initial voting_only second n) c) Start ∙ (moves_opened n c.world).others m other
    opened_others c Failed = (moves_opened n c.world).others m other
    opened_others c (CrashedIn way) = (moves_opened n c.world).others m other

    restart_others : (c : Cluster) → node_world (after_restart (settings_of nodes initial voting_only second n) c).world m ≡ node_world c.world m
    restart_others c = from (needs_opening (node_world c.world n))
      where
        from : (b : Bool) → node_world (if b then opened_by (settings_of nodes initial voting_only second n) (opening (node_world c.world n).disk).ended c else c).world m ≡ node_world c.world m
        from true = opened_others c (opening (node_world c.world n).disk).ended
        from false = refl

module _ (nodes initial voting_only : List Id) (second : Bool) (m : Id) (out : has m nodes ≡ false) where
  line_others : (c : Cluster) (l : Line) → has (node_of l) nodes ≡ true → node_world (after nodes initial voting_only second c l).world m ≡ node_world c.world m
  line_others c (line.Tick n now word) f = if_up_others n m (apart n m nodes f out) nodes initial voting_only second c (Tick now word)
  line_others c (line.Client n bytes) f = if_up_others n m (apart n m nodes f out) nodes initial voting_only second c (LineCame 0 bytes)
  line_others c (line.Disconnect n peer) f = if_up_others n m (apart n m nodes f out) nodes initial voting_only second c (PeerGone peer)
  line_others c (line.Deliver n number) f = frame_others n m (apart n m nodes f out) nodes initial voting_only second c (frame_at c number)
  line_others c (line.Crash n way) f = (moves_crashed n way c.world).others m (apart n m nodes f out)
  line_others c (line.Restart n) f = restart_others n m (apart n m nodes f out) nodes initial voting_only second c
  line_others c (line.Fuse n count way) f = (moves_ordered n (Stop count way) c.world).others m (apart n m nodes f out)
  line_others c (line.Fail n count) f = (moves_ordered n (Fault count) c.world).others m (apart n m nodes f out)
  line_others c (line.Boot n) f = refl
  line_others c (line.StartJoin n candidate term) f = refl
  line_others c (line.Value n version text config) f = refl

  lines_others : (c : Cluster) (ls : List Line) → AllByRecursion (λ (l : Line). has (node_of l) nodes ≡ true) ls → node_world (replayed_from nodes initial voting_only second c ls).world m ≡ node_world c.world m
  lines_others c [] f = refl
  lines_others c (l ∷ ls) f = lines_others (after nodes initial voting_only second c l) ls f.1 ∙ line_others c l f.0

pub idle-outside : (s : Schedule) → IsWellFormed s → (m : Id) → has m s.nodes ≡ false → node_history (replayed_history s) m ≡ NoActs
idle-outside s is m out = ap (λ (x : NodeWorld). x.acts) (lines_others s.nodes s.initial s.voting_only s.second m out (fresh_cluster s.nodes s.initial s.voting_only s.second) s.lines is.lines)
