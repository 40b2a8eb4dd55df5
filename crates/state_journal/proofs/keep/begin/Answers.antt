use Rattle.std.proofs.Common.{◌≡◌, ◌+◌, ◌≤◌, ◌∙◌, ℕ, List, length, ap, subst, arith}
use Rattle.std.specs.Prelude.{is_ok}
use Rattle.zen_disk.specs.Runs.{CallsMade}
use Rattle.zen_disk.specs.Sides.{other}
use Rattle.gate_log.specs.Calls.{renewal_calls}
use Rattle.gate_log.specs.Journal.{framed, most_body}
use Rattle.state_journal.specs.Bodies.{guarded, body_of}
use Rattle.state_journal.specs.Drafts.{generation_prefix}
use Rattle.state_journal.specs.Keeping.{record_with}
use Rattle.state_journal.specs.declared.change.Change.TheVariants.{Renewed}
use Rattle.state_journal.proofs.Beginning.{begins_next, generation_is, begins_with, frame_short}
use Rattle.state_journal.proofs.Refused.{only_disk, called}
use Rattle.state_journal.proofs.Spelled.{draft_short}
use Rattle.state_journal.proofs.keep.begin.Goals as goal

pub lay_generation-requires-clause-state : goal.lay_generation-requires-clause-state
lay_generation-requires-clause-state g c = draft_short c.requires.drafted.0 c.args.draft.now c.requires.drafted.1

pub renew-requires : goal.renew-requires
renew-requires g c =
    let epoch = c.args.log.now.epoch in
    let e = c.epoch.result in
    let state = c.args.draft.now.state in
    let body = guarded (generation_prefix (epoch + 1) c.args.term state c.args.committed.now) in
    let next : guarded (generation_prefix (e + 1) c.args.term state c.args.committed.now) ≡ body = ap (λ (n : ℕ). guarded (generation_prefix (n + 1) c.args.term state c.args.committed.now)) c.epoch.ensures.value in
    (body, c.frame.ensures ∙ c.lay_generation.ensures.frame ∙ ap framed next, begins_next epoch c.args.term state c.args.committed.now c.requires.next)

pub returns-clause-ok : goal.returns-clause-ok
returns-clause-ok g c = λ told s is.
    let epoch = c.args.log.now.epoch in
    let same = generation_is epoch c.epoch.result c.args.term s c.args.draft.now c.args.committed.now is c.epoch.ensures.value in
    let begins = begins_with epoch c.epoch.result c.args.term s c.args.draft.now c.args.committed.now is c.epoch.ensures.value c.requires.next in
    c.renew.ensures.ok told (body_of (Renewed (record { epoch = epoch + 1; kept = record_with c.args.term s c.args.committed.now }))) (c.frame.ensures ∙ c.lay_generation.ensures.frame ∙ ap framed same) begins

pub returns-clause-only : goal.returns-clause-only
returns-clause-only g c =
    let drafted = c.requires.drafted in
    let size : length c.frame.result.now ≤ most_body + 5 = frame_short c.args.log.now.epoch c.epoch.result c.args.term drafted.0 c.args.draft.now c.args.committed.now drafted.1 c.epoch.ensures.value c.frame.result.now c.lay_generation.ensures.fits (c.frame.ensures ∙ c.lay_generation.ensures.frame) in
    only_disk c.renew.result (λ is. let stopped = c.renew.ensures.answers.stopped.0 is in absurd (cc (stopped, c.requires.runs))) (λ is. let long = c.renew.ensures.too_long.0 is in absurd (omega (arith, long.1, size))) c.renew.ensures.only

pub returns-clause-any_moment : goal.returns-clause-any_moment
returns-clause-any_moment g c = λ told s is.
    let epoch = c.args.log.now.epoch in
    let same = generation_is epoch c.epoch.result c.args.term s c.args.draft.now c.args.committed.now is c.epoch.ensures.value in
    let begins = begins_with epoch c.epoch.result c.args.term s c.args.draft.now c.args.committed.now is c.epoch.ensures.value c.requires.next in
    c.renew.ensures.any_moment told (body_of (Renewed (record { epoch = epoch + 1; kept = record_with c.args.term s c.args.committed.now }))) (c.frame.ensures ∙ c.lay_generation.ensures.frame ∙ ap framed same) begins c.requires.runs

pub returns-clause-ran : goal.returns-clause-ran
returns-clause-ran g c = λ s is.
    let epoch = c.args.log.now.epoch in
    let log = c.args.log.now in
    let same = generation_is epoch c.epoch.result c.args.term s c.args.draft.now c.args.committed.now is c.epoch.ensures.value in
    let framed_is = c.frame.ensures ∙ c.lay_generation.ensures.frame ∙ ap framed same in
    let size : length c.frame.result.now ≤ most_body + 5 = frame_short epoch c.epoch.result c.args.term s c.args.draft.now c.args.committed.now is c.epoch.ensures.value c.frame.result.now c.lay_generation.ensures.fits (c.frame.ensures ∙ c.lay_generation.ensures.frame) in
    let ran = c.renew.ensures.ran (called c.renew.result (λ is. let stopped = c.renew.ensures.answers.stopped.0 is in absurd (cc (stopped, c.requires.runs))) (λ is. let long = c.renew.ensures.too_long.0 is in absurd (omega (arith, long.1, size))) c.renew.ensures.only) in
    subst (λ (frame : List ℕ). CallsMade g.D.Disks.moves (renewal_calls (other log.side) log.other_gate frame) log.disk c.renew.new.self.disk (is_ok c.renew.result)) framed_is ran
