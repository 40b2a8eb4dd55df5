use Rattle.zen_disk.specs.UndoLog.{past_in}
use Rattle.zen_disk.proofs.UndoLogLemmas.{placed_either}
use Rattle.zen_disk.proofs.memory.MemFile.place.Goals as goal

pub invariant_of-self : goal.invariant_of-self
invariant_of-self c =
    let file = c.args.self.now in
    let new = c.write_over.new in
    let clauses = c.write_over.ensures in
    record {
      proper = placed_either c.write_over.result (past_in file.log) (past_in new.log) file.bytes.items new.file.items c.args.bytes.now c.args.at c.requires
          clauses.ok clauses.noted clauses.err clauses.err_log file.proper;
    }
