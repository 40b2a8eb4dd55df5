-- Part of the statement: when a node that writes its lines stands for a life.
use Rattle.std.specs.Prelude.{◌≡◌, ℕ, Option, Some, None, List}
use Rattle.voting_config.specs.Ids.{Id}
use Rattle.wire_frames.specs.declared.frame.Frame.{Frame}
use Rattle.master_tasks.specs.declared.waiting.Outgoing.{Outgoing}
use Rattle.policy_model.specs.declared.events.Event.{Event}
use Rattle.coordinator.specs.declared.step.Entries.{Entries}
use Rattle.coordinator.specs.Steps.{AreEntries}
use Rattle.state_journal.specs.declared.keeper.Keeper.{Ghosts}
use Rattle.coordinator.specs.declared.coordinator.Coordinator.{Coordinator}
use Rattle.coordinator.specs.declared.step.Sealed.{Sealed}
use Rattle.coordinator.specs.Lives.{StandsForLife}
use Rattle.policy_model.specs.declared.settings.Settings.{Settings}
use Rattle.policy_model.specs.Events.{Item}
use Rattle.policy_model.specs.Entries.{Life, Lived, Entry, Did, Gone, Bad, NoMemory, Unread, frames_of, replies_of}
use Rattle.policy_model.specs.Follows.{is_struck}
use Rattle.node_loop.specs.declared.lines.LastSent.{LastSent}
use Rattle.node_loop.specs.Crashes.{LeavesLast, last_idle}
use Rattle.node_loop.specs.Reports.{Output, IsIdle}
use Rattle.node_loop.specs.EventNodes.{AreLines}
use Rattle.node_loop.specs.Texts.{IsLastSent}

-- The node has these settings and is what its life makes of it; it is halted exactly where its last event was struck. A crash now
-- leaves the last record of its life. What it keeps for its lines is right, or lost.
pub record Reports {K : Type 0} (k : Ghosts K) (node : Coordinator K) (last_sent : Option LastSent) (s : Settings)
    (life : Life) : Type 0 where
  pub settings : node.settings ≡ s
  pub stands : StandsForLife k node life
  pub stopped : k.has_stopped node.core.keeper ≡ is_struck life
  pub leaves : k.told → LeavesLast k.moment k.left_since node.core.keeper life
  pub lines : IsLastSent last_sent life

-- what is sent of an event
abbrev pub sent_of : Sealed → Output
sent_of sealed = record { frames = sealed.sends.list; replies = sealed.replies.sent }

-- Where what was kept is right for a life, the lines of an event with these entries, frames and replies are those of its entry, and
-- what is kept then is right for the life with it; or there are no lines, and nothing is kept.
abbrev pub AreLined : (text : Settings → Life → Entry → List ℕ) → Id → Option LastSent → Entries → List Frame → List Outgoing → Option (List ℕ) → Option LastSent → Type 0
AreLined text node last_sent entries frames replies lines kept =
    (s : Settings) (life : Life) (event : Event) (items : List Item) → node ≡ s.me → IsLastSent last_sent life
    → AreEntries event items entries
    → frames ≡ frames_of items → replies ≡ replies_of items
    → AreLines lines (text s life (Did event items)) × IsLastSent kept (Lived life (Did event items))

-- ---- an entry of no event changes nothing that a node stands for

last_sent_idle : (last_sent : Option LastSent) (life : Life) (e : Entry) → IsIdle e → IsLastSent last_sent life
    → IsLastSent last_sent (Lived life e)
last_sent_idle None life e is right = tt
last_sent_idle (Some last_sent) life (Did event items) is right = absurd is
last_sent_idle (Some last_sent) life (Gone conn) is right = right
last_sent_idle (Some last_sent) life (Bad conn fault) is right = right
last_sent_idle (Some last_sent) life NoMemory is right = right
last_sent_idle (Some last_sent) life (Unread conn) is right = right

pub reports_idle : {K : Type 0} (k : Ghosts K) (node : Coordinator K) (last_sent : Option LastSent) (s : Settings) (life : Life) (e : Entry)
    → IsIdle e → Reports k node last_sent s life → Reports k node last_sent s (Lived life e)
reports_idle k node last_sent s life (Did event items) is r = absurd is
reports_idle k node last_sent s life (Gone conn) is r = record {
  settings = r.settings;
  stands = r.stands;
  stopped = r.stopped;
  leaves = λ t. last_idle k.moment k.left_since node.core.keeper life (Gone conn) is (r.leaves t);
  lines = last_sent_idle last_sent life (Gone conn) is r.lines;
}
reports_idle k node last_sent s life (Bad conn fault) is r = record {
  settings = r.settings;
  stands = r.stands;
  stopped = r.stopped;
  leaves = λ t. last_idle k.moment k.left_since node.core.keeper life (Bad conn fault) is (r.leaves t);
  lines = last_sent_idle last_sent life (Bad conn fault) is r.lines;
}
reports_idle k node last_sent s life NoMemory is r = record {
  settings = r.settings;
  stands = r.stands;
  stopped = r.stopped;
  leaves = λ t. last_idle k.moment k.left_since node.core.keeper life NoMemory is (r.leaves t);
  lines = last_sent_idle last_sent life NoMemory is r.lines;
}
reports_idle k node last_sent s life (Unread conn) is r = record {
  settings = r.settings;
  stands = r.stands;
  stopped = r.stopped;
  leaves = λ t. last_idle k.moment k.left_since node.core.keeper life (Unread conn) is (r.leaves t);
  lines = last_sent_idle last_sent life (Unread conn) is r.lines;
}
