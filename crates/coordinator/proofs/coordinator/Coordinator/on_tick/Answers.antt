use Rattle.coordinator.proofs.OnTick.{tick_fine, tick_struck, tick_undone}
use Rattle.coordinator.proofs.coordinator.Coordinator.on_tick.Goals as goal

pub returns-in-Ok : goal.returns-in-Ok
returns-in-Ok g c =
    tick_fine g.K.Keeper c.args.self.now c.begin_tick.new.self c.tick_by_mode.new.self c.args.now c.args.word _ _ (record { rest = c.begin_tick.ensures.rest; moment = c.begin_tick.ensures.moment }) c.in-Ok.ensures.does

pub returns-in-Err-Struck : goal.returns-in-Err-Struck
returns-in-Err-Struck g c =
    tick_struck g.K.Keeper c.args.self.now c.begin_tick.new.self c.tick_by_mode.new.self c.args.now c.args.word _ _ (record { rest = c.begin_tick.ensures.rest; moment = c.begin_tick.ensures.moment }) (rw c.in-Err-Struck.field-0-is at c.in-Err-Struck.ensures.does)

pub returns-in-Err-Memory : goal.returns-in-Err-Memory
returns-in-Err-Memory g c =
    tick_undone g.K.Keeper c.args.self.now c.begin_tick.new.self c.tick_by_mode.new.self c.args.now (record { rest = c.begin_tick.ensures.rest; moment = c.begin_tick.ensures.moment }) (rw c.in-Err-Memory.field-0-is at c.in-Err-Memory.ensures.does)
