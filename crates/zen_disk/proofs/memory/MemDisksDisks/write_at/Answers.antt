use Rattle.std.proofs.Common.{◌≡◌, ◌≤◌, ◌∙◌, refl, sym, ap, subst, List, ℕ, length, reverse, false}
use Rattle.zen_disk.specs.Numbered.{is_listed}
use Rattle.zen_disk.specs.Sides.{on}
use Rattle.zen_disk.specs.declared.side.Side.{Side}
use Rattle.zen_disk.specs.declared.side.Side.TheVariants.{Zero, One}
use Rattle.zen_disk.specs.MemDisks.{files_of, past_of, read_of}
use Rattle.zen_disk.specs.UndoLog.{overwrite_at, past_in}
use Rattle.zen_disk.specs.UndoRecord.{Overwrote}
use Rattle.zen_disk.proofs.UndoLogLemmas.{placed_crash, placed_back, placed_state}
use Rattle.zen_disk.proofs.Both.{placed_given, placed_elapses, order_more, moved}
use Rattle.zen_disk.proofs.memory.MemDisksDisks.write_at.Goals as goal

pub returns-in-Ok-clause-crash : goal.returns-in-Ok-clause-crash
returns-in-Ok-clause-crash c =
    let old = c.args.self.now in
    let file = c.args.self.now.zero in
    let new = c.place.new.self in
    let at = c.args.at in
    let bytes = c.args.bytes.now in
    let inside : c.args.at ≤ length c.args.self.now.zero.bytes.items =
    subst (λ (s : Side). c.args.at ≤ length (on s (read_of c.args.self.now))) c.in-Zero.is (c.requires tt) in
    let crash =
    placed_crash (past_in file.log) (past_in new.log) file.bytes.items new.bytes.items bytes at inside c.in-Ok.ensures.ok c.in-Ok.ensures.noted in
    placed_given Zero c.args.side (past_of old) (read_of old) (past_in new.log) new.bytes.items at (length bytes) c.in-Zero.is crash

pub returns-in-Ok-clause-time : goal.returns-in-Ok-clause-time
returns-in-Ok-clause-time c =
    let old = c.args.self.now in
    let file = c.args.self.now.zero in
    let new = c.place.new.self in
    let at = c.args.at in
    let bytes = c.args.bytes.now in
    let inside : c.args.at ≤ length c.args.self.now.zero.bytes.items =
    subst (λ (s : Side). c.args.at ≤ length (on s (read_of c.args.self.now))) c.in-Zero.is (c.requires tt) in
    let order = c.place.new.order.items in
    let past = c.in-Ok.ensures.noted in
    let back =
    placed_back (past_in file.log) (past_in new.log) file.bytes.items new.bytes.items bytes at inside c.in-Ok.ensures.ok c.in-Ok.ensures.noted in
    let more = order_more old.order.items Zero c.args.side order c.in-Ok.ensures.order c.in-Zero.is in
    let call = Overwrote (overwrite_at at bytes file.bytes.items) in
    placed_elapses Zero (reverse old.order.items) (reverse order) (past_of old) (read_of old) (past_in new.log) call new.bytes.items
    more past back

pub returns-in-Ok-clause-moves : goal.returns-in-Ok-clause-moves
returns-in-Ok-clause-moves c =
    let old = c.args.self.now in
    let file = c.args.self.now.zero in
    let new = c.place.new.self in
    let at = c.args.at in
    let bytes = c.args.bytes.now in
    let inside : c.args.at ≤ length c.args.self.now.zero.bytes.items =
    subst (λ (s : Side). c.args.at ≤ length (on s (read_of c.args.self.now))) c.in-Zero.is (c.requires tt) in
    let number = c.count_call.new.made in
    let listed_in : is_listed c.deref.result.now number ≡ is_listed c.args.self.now.failing.items number =
    ap (λ (l : List ℕ). is_listed l number) c.deref.ensures.value in
    let unlisted : is_listed c.args.self.now.failing.items number ≡ false =
    sym listed_in ∙ sym c.count_call.ensures.listed ∙ c.if-count_call.false in
    let state =
    placed_state (past_in file.log) (past_in new.log) file.bytes.items new.bytes.items bytes at inside c.in-Ok.ensures.ok c.in-Ok.ensures.noted in
    record {
      file = moved Zero c.args.side (files_of old) at bytes _ c.in-Zero.is state;
      made = c.count_call.ensures.made;
      failing = refl;
      answer = λ listed. absurd (let e = sym unlisted ∙ listed in cc e);
      faults = λ ok. refl;
    }

pub returns-in-Ok-place-clause-crash : goal.returns-in-Ok-place-clause-crash
returns-in-Ok-place-clause-crash c =
    let old = c.args.self.now in
    let file = c.args.self.now.one in
    let new = c.place-in-One.new.self in
    let at = c.args.at in
    let bytes = c.args.bytes.now in
    let inside : c.args.at ≤ length c.args.self.now.one.bytes.items =
    subst (λ (s : Side). c.args.at ≤ length (on s (read_of c.args.self.now))) c.in-One.is (c.requires tt) in
    let crash =
    placed_crash (past_in file.log) (past_in new.log) file.bytes.items new.bytes.items bytes at inside c.in-Ok-place.ensures.ok c.in-Ok-place.ensures.noted in
    placed_given One c.args.side (past_of old) (read_of old) (past_in new.log) new.bytes.items at (length bytes) c.in-One.is crash

pub returns-in-Ok-place-clause-time : goal.returns-in-Ok-place-clause-time
returns-in-Ok-place-clause-time c =
    let old = c.args.self.now in
    let file = c.args.self.now.one in
    let new = c.place-in-One.new.self in
    let at = c.args.at in
    let bytes = c.args.bytes.now in
    let inside : c.args.at ≤ length c.args.self.now.one.bytes.items =
    subst (λ (s : Side). c.args.at ≤ length (on s (read_of c.args.self.now))) c.in-One.is (c.requires tt) in
    let order = c.place-in-One.new.order.items in
    let past = c.in-Ok-place.ensures.noted in
    let back =
    placed_back (past_in file.log) (past_in new.log) file.bytes.items new.bytes.items bytes at inside c.in-Ok-place.ensures.ok c.in-Ok-place.ensures.noted in
    let more = order_more old.order.items One c.args.side order c.in-Ok-place.ensures.order c.in-One.is in
    let call = Overwrote (overwrite_at at bytes file.bytes.items) in
    placed_elapses One (reverse old.order.items) (reverse order) (past_of old) (read_of old) (past_in new.log) call new.bytes.items
    more past back

pub returns-in-Ok-place-clause-moves : goal.returns-in-Ok-place-clause-moves
returns-in-Ok-place-clause-moves c =
    let old = c.args.self.now in
    let file = c.args.self.now.one in
    let new = c.place-in-One.new.self in
    let at = c.args.at in
    let bytes = c.args.bytes.now in
    let inside : c.args.at ≤ length c.args.self.now.one.bytes.items =
    subst (λ (s : Side). c.args.at ≤ length (on s (read_of c.args.self.now))) c.in-One.is (c.requires tt) in
    let number = c.count_call.new.made in
    let listed_in : is_listed c.deref.result.now number ≡ is_listed c.args.self.now.failing.items number =
    ap (λ (l : List ℕ). is_listed l number) c.deref.ensures.value in
    let unlisted : is_listed c.args.self.now.failing.items number ≡ false =
    sym listed_in ∙ sym c.count_call.ensures.listed ∙ c.if-count_call.false in
    let state =
    placed_state (past_in file.log) (past_in new.log) file.bytes.items new.bytes.items bytes at inside c.in-Ok-place.ensures.ok c.in-Ok-place.ensures.noted in
    record {
      file = moved One c.args.side (files_of old) at bytes _ c.in-One.is state;
      made = c.count_call.ensures.made;
      failing = refl;
      answer = λ listed. absurd (let e = sym unlisted ∙ listed in cc e);
      faults = λ ok. refl;
    }
