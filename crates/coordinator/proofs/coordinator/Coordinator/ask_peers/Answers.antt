use Rattle.std.proofs.Common.{arith, ap}
use Rattle.wire_frames.specs.declared.frame.Frame.{Frame}
use Rattle.coordinator.specs.Lists.{Roomed}
use Rattle.coordinator.specs.Showing.{shown_in}
use Rattle.coordinator.proofs.Discovering.{asks_are, asks_made, asks_nobody}
use Rattle.coordinator.proofs.coordinator.Coordinator.ask_peers.Goals as goal

pub append-requires : goal.append-requires
append-requires g c = omega (arith, (asks_are _ _ _ c.args.asks c.in-Some.asks c.requires.asks c.in-Some.is).few, c.requires.frames)

pub returns-in-None-clause-does : goal.returns-in-None-clause-does
returns-in-None-clause-does g c =
    asks_nobody g.K.Keeper c.args.self.now _ c.args.asks c.requires.asks c.in-None.is

pub returns-in-Some-clause-does : goal.returns-in-Some-clause-does
returns-in-Some-clause-does g c =
    asks_made g.K.Keeper c.args.self.now c.asked.new.self _ _ c.in-Some.asks (asks_are _ _ _ c.args.asks c.in-Some.asks c.requires.asks c.in-Some.is) c.asked.ensures.now (ap (λ (f : Roomed Frame). record (shown_in c.args.out.now) { frames = f.list }) c.append.ensures)

pub returns-in-Some-clause-uses : goal.returns-in-Some-clause-uses
returns-in-Some-clause-uses g c =
    let few = (asks_are _ _ _ c.args.asks c.in-Some.asks c.requires.asks c.in-Some.is).few in
    let left = ap (λ (f : Roomed Frame). f.room) c.append.ensures in
    record { deeds = omega arith; frames = omega (arith, few, left); replies = omega arith }
