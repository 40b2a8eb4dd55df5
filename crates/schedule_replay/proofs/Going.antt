-- What a line makes of a cluster is what it makes of its node alone.
use Rattle.std.proofs.Common.{◌≡◌, Bool, true, false, cond, ℕ, List, [], ◌++◌, append-nil, length, refl, sym, ◌∙◌, ap, subst, if◌then◌else◌}
use Rattle.voting_config.specs.Ids.{Id, same}
use Rattle.voting_config.proofs.Sets.{same_self}
use Rattle.wire_frames.specs.declared.frame.Frame.{Frame}
use Rattle.zen_disk.specs.declared.orders.Order.{Order}
use Rattle.zen_disk.specs.declared.orders.Way.{Way}
use Rattle.trace_text.specs.Trace.{down_line}
use Rattle.replay_node.specs.Clusters.{Cluster, after_event, after_event_if_up, after_restart, event_course, life_opened, opened_by, own_world, with_life, with_opened}
use Rattle.replay_node.specs.NodeDisk.{CallsEnd, Done, Failed, CrashedIn, opening}
use Rattle.replay_node.specs.NodeLines.{restart_text, stop_text}
use Rattle.replay_node.specs.NodeWorld.{NodeWorld, after_opening, needs_opening}
use Rattle.replay_node.specs.Worlds.{World, crashed, node_world, opened, ordered}
use Rattle.replay_node.proofs.Alone.{PlaysAlone, plays_alone}
use Rattle.replay_node.proofs.Moves.{NodeMoves, moves_crashed, moves_opened, moves_ordered}
use Rattle.policy_model.specs.declared.settings.Settings.{Settings}
use Rattle.policy_model.specs.declared.events.Event.{Event}
use Rattle.policy_model.specs.declared.events.Event.TheVariants.{Start}
use Rattle.policy_model.specs.Entries.{Life, Lived, Did, log_of, frames_of}
use Rattle.policy_model.specs.Events.{Item}
use Rattle.policy_model.specs.Follows.{items_of}
use Rattle.schedule_replay.specs.ClusterStands.{GoesOn}
use Rattle.schedule_replay.specs.EventEnds.{own_course}
use Rattle.schedule_replay.specs.Own.{Own, own_crash, own_event, own_event_if_up, own_frames_if_up, own_in, own_items, own_opened, own_opened_by, own_order, own_restart, own_restart_frames, own_restart_results, own_results, own_results_if_up, own_started_frames, own_started_results}
use Rattle.schedule_replay.specs.ClusterTrace.{event_shown, event_shown_if_up, items_text, restart_shown, start_shown}

-- the cluster goes on by its node, which sends this and shows this
pub record GoesAs (n : Id) (c later : Cluster) (own : Own) (sent : List Frame) (shown results : List ℕ) : Type 0 where
  pub goes : GoesOn n c own later
  pub frames : c.frames ++ sent ≡ later.frames
  pub shows : results ≡ shown

abbrev own_of : Life → NodeWorld → Own
own_of life x = record { life = life; node = x }

same_own : (a b : Life) (x y : NodeWorld) → a ≡ b → x ≡ y → own_of a x ≡ own_of b y
same_own a b x y l w = ap (λ (z : Life). own_of z x) l ∙ ap (λ (z : NodeWorld). own_of b z) w

life_own : (lives : Id → Life) (n : Id) (life : Life) → with_life lives n life n ≡ life
life_own lives n life = ap (λ (b : Bool). cond b life (lives n)) (same_self n)

life_other : (lives : Id → Life) (n : Id) (life : Life) (m : Id) → same n m ≡ false → with_life lives n life m ≡ lives m
life_other lives n life m other = ap (λ (b : Bool). cond b life (lives m)) other

stays : (n : Id) (c : Cluster) → GoesOn n c (own_in c n) c
stays n c = record { own_is = refl; others = λ m other. refl }

-- the world moved, and the life of the node
moved_both : (n : Id) (c : Cluster) (w : World) (x : NodeWorld) (life : Life) (frames : List Frame) → node_world w n ≡ x → ((m : Id) → same n m ≡ false → node_world w m ≡ node_world c.world m)
    → GoesOn n c (record { life = life; node = x }) (record { world = w; lives = with_life c.lives n life; frames = frames })
moved_both n c w x life frames own others = record {
  own_is = same_own _ _ _ _ (life_own c.lives n life) own;
  others = λ m other. same_own _ _ _ _ (life_other c.lives n life m other) (others m other);
}

-- the world alone moved
moved_world : (n : Id) (c : Cluster) (w : World) (x : NodeWorld) → NodeMoves n c.world x w → GoesOn n c (record (own_in c n) { node = x }) (record c { world = w })
moved_world n c w x moves = record {
  own_is = same_own _ _ _ _ refl moves.own;
  others = λ m other. same_own _ _ _ _ refl (moves.others m other);
}

pub goes_crash : (n : Id) (way : Way) (c : Cluster) → GoesAs n c (record c { world = crashed c.world n way }) (own_crash way (own_in c n)) [] (stop_text n (node_world c.world n)) (stop_text n (own_in c n).node)
goes_crash n way c = record { goes = moved_world n c (crashed c.world n way) _ (moves_crashed n way c.world); frames = append-nil c.frames; shows = refl }

pub goes_order : (n : Id) (order : Order) (c : Cluster) → GoesAs n c (record c { world = ordered c.world n order }) (own_order order (own_in c n)) [] [] []
goes_order n order c = record { goes = moved_world n c (ordered c.world n order) _ (moves_ordered n order c.world); frames = append-nil c.frames; shows = refl }

module _ (s : Settings) where
  event_goes : (c : Cluster) (event : Event)
      → GoesAs s.me c (after_event s c event) (own_event s (own_in c s.me) event) (frames_of (own_items s (own_in c s.me) event)) (event_shown s c event) (own_results s (length c.frames) (own_in c s.me) event)
  event_goes c event =
      let alone : PlaysAlone s.me c.world (event_course s c event) (own_course s (c.lives s.me) (own_world s c) event) = plays_alone s.me c.world (items_of s (log_of (c.lives s.me)) event) in
      let items : (event_course s c event).items ≡ own_items s (own_in c s.me) event = alone.items in
      record {
        goes = subst (λ (is : List Item). GoesOn s.me c (record { life = Lived (c.lives s.me) (Did event is); node = (own_event s (own_in c s.me) event).node }) (after_event s c event)) items
            (moved_both s.me c (event_course s c event).world (own_event s (own_in c s.me) event).node (Lived (c.lives s.me) (Did event (event_course s c event).items)) (c.frames ++ frames_of (event_course s c event).items) alone.node alone.others);
        frames = ap (λ (is : List Item). c.frames ++ frames_of is) (sym items);
        shows = ap (λ (is : List Item). items_text (length c.frames) s.me (own_world s c).acts is) (sym items);
      }

  pub goes_if_up : (c : Cluster) (event : Event)
      → GoesAs s.me c (after_event_if_up s c event) (own_event_if_up s event (own_in c s.me)) (own_frames_if_up s event (own_in c s.me)) (event_shown_if_up s c event) (own_results_if_up s event (length c.frames) (own_in c s.me))
  goes_if_up c event = by (needs_opening (own_world s c))
    where
      by : (b : Bool)
          → GoesAs s.me c (if b then c else after_event s c event) (if b then own_in c s.me else own_event s (own_in c s.me) event) (if b then [] else frames_of (own_items s (own_in c s.me) event))
          (if b then down_line s.me else event_shown s c event) (if b then down_line s.me else own_results s (length c.frames) (own_in c s.me) event)
      by true = record { goes = stays s.me c; frames = append-nil c.frames; shows = refl }
      by false = event_goes c event

  -- ---- a restart

  opened_goes : (c : Cluster) → GoesOn s.me c (own_opened (own_in c s.me)) (with_opened s c)
  opened_goes c = let moves = moves_opened s.me c.world in moved_both s.me c (opened c.world s.me) (after_opening (own_world s c)) (life_opened s c) c.frames moves.own moves.others

  opening_goes : (c : Cluster) (end : CallsEnd)
      → GoesAs s.me c (opened_by s end c) (own_opened_by s end (own_in c s.me)) (own_started_frames s end (own_in c s.me)) (start_shown s end c) (own_started_results s end (length c.frames) (own_in c s.me))
  opening_goes c Failed = record { goes = moved_world s.me c (opened c.world s.me) _ (moves_opened s.me c.world); frames = append-nil c.frames; shows = refl }
  opening_goes c (CrashedIn way) = record { goes = moved_world s.me c (opened c.world s.me) _ (moves_opened s.me c.world); frames = append-nil c.frames; shows = refl }
  opening_goes c Done =
      let first : GoesOn s.me c (own_opened (own_in c s.me)) (with_opened s c) = opened_goes c in
      let second = event_goes (with_opened s c) Start in
      record {
        goes = record {
          own_is = second.goes.own_is ∙ ap (λ (o : Own). own_event s o Start) first.own_is;
          others = λ m other. second.goes.others m other ∙ first.others m other;
        };
        frames = ap (λ (o : Own). c.frames ++ frames_of (own_items s o Start)) (sym first.own_is) ∙ second.frames;
        shows = ap (λ (o : Own). own_results s (length c.frames) o Start) (sym first.own_is) ∙ second.shows;
      }

  pub goes_restart : (c : Cluster)
      → GoesAs s.me c (after_restart s c) (own_restart s (own_in c s.me)) (own_restart_frames s (own_in c s.me)) (restart_shown s c) (own_restart_results s (length c.frames) (own_in c s.me))
  goes_restart c = by (needs_opening (own_world s c))
    where
      end : CallsEnd
      end = (opening (own_world s c).disk).ended

      by : (b : Bool)
          → GoesAs s.me c (if b then opened_by s end c else c) (if b then own_opened_by s end (own_in c s.me) else own_in c s.me) (if b then own_started_frames s end (own_in c s.me) else [])
          (restart_text s.me (own_world s c) ++ (if b then start_shown s end c else [])) (restart_text s.me (own_world s c) ++ (if b then own_started_results s end (length c.frames) (own_in c s.me) else []))
      by true =
          let done = opening_goes c end in
          record { goes = done.goes; frames = done.frames; shows = ap (λ (t : List ℕ). restart_text s.me (own_world s c) ++ t) done.shows }
      by false = record { goes = stays s.me c; frames = append-nil c.frames; shows = refl }
