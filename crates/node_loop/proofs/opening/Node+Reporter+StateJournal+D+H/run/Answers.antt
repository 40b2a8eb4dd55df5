use Rattle.std.proofs.Common.{sym, subst}
use Rattle.state_journal.specs.contracts.journal.StateJournalKeeper.TheImpl as StateJournalKeeper
use Rattle.node_loop.specs.Crashes.{Holds}
use Rattle.node_loop.specs.Reporting.{Reports, sent_of}
use Rattle.node_loop.specs.Running.{StoodOn, LeavesLastOn, HoldsOn}
use Rattle.node_loop.specs.Texts.{opening_text}
use Rattle.node_loop.specs.Turns.{Serves}
use Rattle.node_loop.proofs.Running.{serves_mapped, holds_of}
use Rattle.node_loop.proofs.opening.Node+Reporter+StateJournal+D+H.run.Goals as goal

pub returns-clause-serves : goal.returns-clause-serves
returns-clause-serves g c s life reports opened reads =
    let k = StateJournalKeeper.ghosts g.row.D g.D.Disks g.D.Disks-dict in
    let d = g.D.Disks in
    let out = g.O.Sink.written c.args.out.now in
    let out_now = g.O.Sink.written c.serve-end.new.out in
    let told = g.L.Link.told c.args.link.now in
    let told_now = g.L.Link.told c.serve-end.new.link in
    let was = c.args.self.inner in
    let now = c.serve-end.new.self.inner in
    let end = c.serve-end.result in
    let asked = g.L.Link.asked c.args.link.now in
    let asked_now = g.L.Link.asked c.serve-end.new.link in
    let turns = c.args.turns in
    subst (λ disk. Serves sent_of (g.H.History.lines s) s life end out out_now told told_now (HoldsOn d was.node.core.keeper.log.disk disk s life) asked asked_now turns (opening_text s life))
    (sym c.into_disk.ensures)
    (serves_mapped sent_of (g.H.History.lines s) s life end out_now told told_now
    (Holds (λ r s l. Reports k r.node r.last_sent s l) d.told (λ r. d.moment r.node.core.keeper.log.disk) (λ r. StoodOn d r.node.core.keeper.log.disk) (λ r. d.faults r.node.core.keeper.log.disk) was now s life)
    (HoldsOn d was.node.core.keeper.log.disk now.node.core.keeper.log.disk s life) asked asked_now turns
    (λ new h. holds_of (λ r s l. Reports k r.node r.last_sent s l) (LeavesLastOn d) d.told d.moment (StoodOn d) d.faults (λ r. r.node.core.keeper.log.disk)
    (λ r s l reports t. let last = reports.leaves t in record { since = last.since; past = last.past; at_once = last.at_once; only = last.only }) was now s life new h)
    out (opening_text s life) (c.serve-end.ensures.serves s life reports opened reads))
