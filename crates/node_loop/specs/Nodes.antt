-- For the contracts inside: the words for what a node comes to, by its ghost members and those of its link and its sink.
use Rattle.std.specs.Prelude.{◌≡◌, Option, List, false}
use Rattle.policy_model.specs.declared.settings.Settings.{Settings}
use Rattle.policy_model.specs.Entries.{Life}
use Rattle.zen_link.specs.declared.link.Link.{Ghosts as Links}
use Rattle.zen_link.specs.declared.stream.Sink.{Ghosts as Sinks}
use Rattle.node_loop.specs.declared.event_node.EventNode.{Ghosts}
use Rattle.node_loop.specs.declared.node.End.{End}
use Rattle.node_loop.specs.Crashes.{Holds}
use Rattle.node_loop.specs.Happenings.{Mark}
use Rattle.node_loop.specs.Turns.{is_stop}
use Rattle.node_loop.specs.WritesAndSends.{WritesAndSends, HasCauses, IsUp, does_all, goes_on}

-- a node that stood for one life stands for another, and came there by one entry after the other
abbrev pub HoldsBy : {S X : Type 0} (k : Ghosts S X) (old now : S) (s : Settings) (life new : Life) → Type 0
HoldsBy k old now s life new = Holds k.stands_for k.told k.moment k.left_since k.faults old now s life new

module _ {S X L O : Type 0} (k : Ghosts S X) (l : Links L X) (o : Sinks O) (old now : S) (link_old link_now : L) (out_old out_now : O) where
  -- what happened in this course to a node that is up is written and sent
  abbrev pub Handles : List Mark → Option End → Type 0
  Handles course end =
      (s : Settings) (life : Life) → k.stands_for old s life → IsUp life
      → WritesAndSends k.output (k.text s) s life course end (o.written out_old) (o.written out_now) (l.told link_old) (l.told link_now)
      (HoldsBy k old now s life)

  -- Whatever happened: the run ends in it only where not all was done, and each such end has its cause. A Stop is no such end, and the link
  -- was not asked.
  pub record EndsRightly (end : Option End) : Type 0 where
    pub within : does_all end ≡ goes_on end
    pub stop : is_stop end ≡ false
    pub causes : HasCauses end (k.faults old) (k.faults now) (o.faults out_old) (o.faults out_now) (l.faults link_old) (l.faults link_now)
    pub asked : l.asked link_now ≡ l.asked link_old
