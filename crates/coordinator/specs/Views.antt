-- For the contracts inside: a node as the rules see it, by its fields.
use Rattle.std.specs.Prelude.{◌≡◌, ◌≤◌}
use Rattle.state_journal.specs.declared.keeper.Keeper.{Ghosts}
use Rattle.coord_state.specs.StandsFor.{fields_of}
use Rattle.policy_model.specs.Views.{View}
use Rattle.policy_model.specs.Parts.{last_moment}
use Rattle.coordinator.specs.declared.coordinator.Coordinator.{Coordinator}

-- it is one node, and its moment is none beyond the last
pub record IsReady {K : Type 0} (c : Coordinator K) : Type 0 where
  pub me : c.core.me ≡ c.settings.me
  pub moment : c.moment ≤ last_moment

module _ {K : Type 0} (k : Ghosts K) where
  abbrev pub view_in : Coordinator K → View
  view_in c = record {
    node = fields_of k c.core;
    mode = c.mode;
    leader_term = c.leader_term;
    moment = c.moment;
    led_from = c.led_from;
    finder = c.finder;
    deadline = c.deadline;
    lost_leader = c.lost_leader;
    attempt = c.attempt;
    round = c.round;
    publication = c.publication;
    applied = c.applied;
    followers = c.followers;
    leader_check = c.leader_check;
    tasks = c.tasks;
    handover_due = c.handover_due;
  }
