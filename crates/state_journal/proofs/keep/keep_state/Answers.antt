use Rattle.std.proofs.Common.{◌≡◌, ◌+◌, ◌≤◌, ◌∷◌, ◌∙◌, Bool, true, false, length, sym, ap, subst, arith}
use Rattle.std.specs.Prelude.{OnOk, is_ok}
use Rattle.zen_disk.specs.Moments.{LeavesOnly}
use Rattle.zen_disk.specs.Runs.{CallsMade}
use Rattle.gate_log.specs.Generations.{standing_in}
use Rattle.gate_log.specs.Journal.{framed, most_body}
use Rattle.gate_log.specs.Place.{place, renews}
use Rattle.gate_log.proofs.Laid.{length-framed}
use Rattle.state_journal.specs.Bodies.{guarded, body_of}
use Rattle.state_journal.specs.Keeping.{generation_after, record_with, writing_calls, written_in, IsWritten}
use Rattle.state_journal.specs.declared.change.Change.TheVariants.{Accepted}
use Rattle.state_journal.proofs.Refused.{only_disk, called}
use Rattle.state_journal.proofs.Spelled.{draft_short, drafted_is, accepted_plain, state_plain, length-accepted, length-body}
use Rattle.state_journal.proofs.Writing.{next_epoch}
use Rattle.state_journal.proofs.keep.keep_state.Goals as goal

pub overflow_add-len : goal.overflow_add-len
overflow_add-len g c = omega (arith, c.len.ensures, draft_short c.requires.drafted.0 c.args.draft.now c.requires.drafted.1)

pub begins-requires : goal.begins-requires
begins-requires g c = omega (arith, c.len.ensures, draft_short c.requires.drafted.0 c.args.draft.now c.requires.drafted.1)

pub begin-requires-clause-next : goal.begin-requires-clause-next
begin-requires-clause-next g c =
    let body = guarded (130 ∷ c.args.draft.now.state) in
    next_epoch c.args.due (place c.args.log.now) body (sym (c.begins.ensures body (omega (arith, c.len.ensures, length-body (130 ∷ c.args.draft.now.state)))) ∙ c.if-begins.true)

pub lay_accepted-requires-clause-size : goal.lay_accepted-requires-clause-size
lay_accepted-requires-clause-size g c = draft_short c.requires.drafted.0 c.args.draft.now c.requires.drafted.1

pub append_framed-requires : goal.append_framed-requires
append_framed-requires g c = (guarded (130 ∷ c.args.draft.now.state), c.frame.ensures ∙ c.lay_accepted.ensures.frame, state_plain c.args.draft.now.state)

pub returns-clause-cause : goal.returns-clause-cause
returns-clause-cause g c =
    (c.append_framed.ensures.appends (guarded (130 ∷ c.args.draft.now.state)) (c.frame.ensures ∙ c.lay_accepted.ensures.frame) (state_plain c.args.draft.now.state)).answers.cause

pub returns-clause-later : goal.returns-clause-later
returns-clause-later g c =
    (c.append_framed.ensures.appends (guarded (130 ∷ c.args.draft.now.state)) (c.frame.ensures ∙ c.lay_accepted.ensures.frame) (state_plain c.args.draft.now.state)).answers.later

pub returns-clause-stops : goal.returns-clause-stops
returns-clause-stops g c =
    (c.append_framed.ensures.appends (guarded (130 ∷ c.args.draft.now.state)) (c.frame.ensures ∙ c.lay_accepted.ensures.frame) (state_plain c.args.draft.now.state)).answers.stops

pub returns-clause-goes_on : goal.returns-clause-goes_on
returns-clause-goes_on g c =
    (c.append_framed.ensures.appends (guarded (130 ∷ c.args.draft.now.state)) (c.frame.ensures ∙ c.lay_accepted.ensures.frame) (state_plain c.args.draft.now.state)).answers.goes_on

pub returns-then-begins-clause-ok : goal.returns-then-begins-clause-ok
returns-then-begins-clause-ok g c = λ told s is.
    let body = body_of (Accepted s) in
    let p = place c.args.log.now in
    let size : length body ≡ c.len.result + 33 = omega (arith, c.len.ensures, length-accepted s, ap length is.spelled) in
    let renewing : renews c.args.due p body ≡ true = sym (c.begins.ensures body size) ∙ c.if-begins.true in
    subst
    (λ (b : Bool). OnOk c.begin.result (standing_in (g.D.Disks.seen c.begin.new.log.disk) ≡ written_in b (standing_in (g.D.Disks.seen c.args.log.now.disk)) body (generation_after p (record_with c.args.term s c.args.committed.now))))
    (sym renewing) (c.begin.ensures.ok told s is)

pub returns-then-begins-clause-any_moment : goal.returns-then-begins-clause-any_moment
returns-then-begins-clause-any_moment g c = λ told s is.
    let body = body_of (Accepted s) in
    let p = place c.args.log.now in
    let size : length body ≡ c.len.result + 33 = omega (arith, c.len.ensures, length-accepted s, ap length is.spelled) in
    let renewing : renews c.args.due p body ≡ true = sym (c.begins.ensures body size) ∙ c.if-begins.true in
    subst
    (λ (b : Bool). LeavesOnly g.D.Disks.moment g.D.Disks.left_since c.args.log.now.disk c.begin.new.log.disk
    (IsWritten b (standing_in (g.D.Disks.seen c.args.log.now.disk)) body (generation_after p (record_with c.args.term s c.args.committed.now))))
    (sym renewing) (c.begin.ensures.any_moment told s is)

pub returns-then-begins-clause-ran : goal.returns-then-begins-clause-ran
returns-then-begins-clause-ran g c = λ s is.
    let body = body_of (Accepted s) in
    let p = place c.args.log.now in
    let size : length body ≡ c.len.result + 33 = omega (arith, c.len.ensures, length-accepted s, ap length is.spelled) in
    let renewing : renews c.args.due p body ≡ true = sym (c.begins.ensures body size) ∙ c.if-begins.true in
    subst
    (λ (b : Bool). CallsMade g.D.Disks.moves (writing_calls b p body (generation_after p (record_with c.args.term s c.args.committed.now))) c.args.log.now.disk c.begin.new.log.disk (is_ok c.begin.result))
    (sym renewing) (c.begin.ensures.ran s is)

pub returns-clause-ok : goal.returns-clause-ok
returns-clause-ok g c = λ told s is.
    let body = body_of (Accepted s) in
    let p = place c.args.log.now in
    let size : length body ≡ c.len.result + 33 = omega (arith, c.len.ensures, length-accepted s, ap length is.spelled) in
    let staying : renews c.args.due p body ≡ false = sym (c.begins.ensures body size) ∙ c.if-begins.false in
    let framed_is = c.frame.ensures ∙ c.lay_accepted.ensures.frame ∙ ap framed (drafted_is s c.args.draft.now is) in
    subst
    (λ (b : Bool). OnOk c.append_framed.result (standing_in (g.D.Disks.seen c.append_framed.new.self.disk) ≡ written_in b (standing_in (g.D.Disks.seen c.args.log.now.disk)) body (generation_after p (record_with c.args.term s c.args.committed.now))))
    (sym staying) ((c.append_framed.ensures.appends body framed_is (accepted_plain s)).ok told)

pub returns-clause-only : goal.returns-clause-only
returns-clause-only g c =
    let s = c.requires.drafted.0 in
    let is = c.requires.drafted.1 in
    let framed_is = c.frame.ensures ∙ c.lay_accepted.ensures.frame in
    let size : length c.frame.result.now ≤ most_body + 5 = omega (arith, ap length framed_is, length-framed (guarded (130 ∷ c.args.draft.now.state)), length-body (130 ∷ c.args.draft.now.state), draft_short s c.args.draft.now is) in
    let appends = c.append_framed.ensures.appends (body_of (Accepted s)) (framed_is ∙ ap framed (drafted_is s c.args.draft.now is)) (accepted_plain s) in
    only_disk c.append_framed.result (λ e. let stopped = appends.answers.stopped.0 e in absurd (cc (stopped, c.requires.runs))) (λ e. let long = c.append_framed.ensures.too_long.0 e in absurd (omega (arith, long.1, size))) c.append_framed.ensures.only

pub returns-clause-any_moment : goal.returns-clause-any_moment
returns-clause-any_moment g c = λ told s is.
    let body = body_of (Accepted s) in
    let p = place c.args.log.now in
    let size : length body ≡ c.len.result + 33 = omega (arith, c.len.ensures, length-accepted s, ap length is.spelled) in
    let staying : renews c.args.due p body ≡ false = sym (c.begins.ensures body size) ∙ c.if-begins.false in
    let framed_is = c.frame.ensures ∙ c.lay_accepted.ensures.frame ∙ ap framed (drafted_is s c.args.draft.now is) in
    subst
    (λ (b : Bool). LeavesOnly g.D.Disks.moment g.D.Disks.left_since c.args.log.now.disk c.append_framed.new.self.disk
    (IsWritten b (standing_in (g.D.Disks.seen c.args.log.now.disk)) body (generation_after p (record_with c.args.term s c.args.committed.now))))
    (sym staying) ((c.append_framed.ensures.appends body framed_is (accepted_plain s)).any_moment told c.requires.runs)

pub returns-clause-ran : goal.returns-clause-ran
returns-clause-ran g c = λ s is.
    let body = body_of (Accepted s) in
    let p = place c.args.log.now in
    let size : length body ≡ c.len.result + 33 = omega (arith, c.len.ensures, length-accepted s, ap length is.spelled) in
    let staying : renews c.args.due p body ≡ false = sym (c.begins.ensures body size) ∙ c.if-begins.false in
    let laid_is = c.frame.ensures ∙ c.lay_accepted.ensures.frame in
    let short : length c.frame.result.now ≤ most_body + 5 = omega (arith, ap length laid_is, length-framed (guarded (130 ∷ c.args.draft.now.state)), length-body (130 ∷ c.args.draft.now.state), draft_short s c.args.draft.now is) in
    let appends = c.append_framed.ensures.appends body (laid_is ∙ ap framed (drafted_is s c.args.draft.now is)) (accepted_plain s) in
    let ran =
    appends.ran
    (called c.append_framed.result (λ e. let stopped = appends.answers.stopped.0 e in absurd (cc (stopped, c.requires.runs))) (λ e. let long = c.append_framed.ensures.too_long.0 e in absurd (omega (arith, long.1, short))) c.append_framed.ensures.only) in
    subst
    (λ (b : Bool). CallsMade g.D.Disks.moves (writing_calls b p body (generation_after p (record_with c.args.term s c.args.committed.now))) c.args.log.now.disk c.append_framed.new.self.disk (is_ok c.append_framed.result))
    (sym staying) ran
