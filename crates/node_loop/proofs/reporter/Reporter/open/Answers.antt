use Rattle.std.proofs.Common.{refl, ap, ◌∙◌}
use Rattle.policy_model.specs.Entries.{Opened}
use Rattle.policy_model.specs.Views.{View}
use Rattle.node_loop.proofs.Lasting.{leaves_now}
use Rattle.node_loop.proofs.reporter.Reporter.open.Goals as goal

pub returns-clause-stands : goal.returns-clause-stands
returns-clause-stands g c life continues =
    let runs = ap g.K.Keeper.has_stopped c.open.ensures.keeper ∙ c.requires in
    let stands = c.open.ensures.stands life continues in
    record {
      settings = c.open.ensures.settings;
      stands = stands;
      stopped = runs;
      leaves = λ told. leaves_now g.K.Keeper g.met.K.Keeper.only_kept c.open.result.core (Opened life (g.K.Keeper.record_of c.args.keeper)) told runs refl (ap (λ (v : View). v.node) stands);
      lines = (refl, refl);
    }
