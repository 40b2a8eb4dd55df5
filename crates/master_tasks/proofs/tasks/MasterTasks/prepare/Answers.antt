use Rattle.std.proofs.Common.{◌≡◌, ◌∙◌, ap, sym, subst, refl, true, false, List, [], arith}
use Rattle.cluster_state.specs.declared.state.ClusterValue.{ClusterValue}
use Rattle.cluster_state.specs.States.{IsFitValue, id_of}
use Rattle.cluster_state.proofs.JsonLaws.{ascending_keys}
use Rattle.master_tasks.proofs.Limits.{fits_next, good_waiting}
use Rattle.cluster_state.specs.declared.state.StateId.{StateId}
use Rattle.master_tasks.specs.declared.waiting.Waiting.{Waiting}
use Rattle.master_tasks.specs.Replying.{with_sent}
use Rattle.master_tasks.specs.Fitting.{HaveGoodSettings}
use Rattle.master_tasks.specs.Answering.{answers_by, left_by, nothing_new}
use Rattle.master_tasks.specs.NextState.{Leader, leader_of}
use Rattle.master_tasks.specs.declared.next.Next.TheVariants.{Same}
use Rattle.master_tasks.proofs.Making.{Made, is_old, made, waiting_new, next_new, waiting_same, next_same}
use Rattle.master_tasks.proofs.tasks.MasterTasks.prepare.Goals as goal

-- what was made, where the state is new
abbrev new_leader : goal.Else-is_nothing_new → Leader
new_leader c = leader_of c.args.me c.args.term c.args.accepted.now c.args.committed.now c.args.votes.now c.args.policy

made_new : (c : goal.Else-is_nothing_new) → Made (new_leader c) c.args.self.now c.process.new.value c.in_ok-waiting.field-0.waiting.items c.in_ok-waiting.field-0.anew c.in_ok-waiting.field-0.replies c.in_ok-config.config
made_new c =
    made (new_leader c) c.args.self.now c.in_ok-value.value _ _ _ _ _
    (rw c.deref-state.ensures at c.in_ok-value.ensures) c.in_ok-waiting.ensures.value c.in_ok-waiting.ensures.waiting c.in_ok-waiting.ensures.anew c.in_ok-waiting.ensures.replies (rw c.deref-state.ensures at c.in_ok-config.ensures)

is_new : (c : goal.Else-is_nothing_new) → false ≡ is_old (new_leader c) c.args.self.now c.in_ok-waiting.field-0.anew c.in_ok-config.config c.process.new.value
is_new c = rw c.deref-state.ensures at (sym c.if-is_nothing_new.false ∙ c.is_nothing_new.ensures)

pub returns-clause-waiting : goal.returns-clause-waiting
returns-clause-waiting c = waiting_new (new_leader c) c.args.self.now _ _ _ _ _ (made_new c) (is_new c)

pub returns-clause-next : goal.returns-clause-next
returns-clause-next c = next_new (new_leader c) c.args.self.now _ _ _ _ _ (made_new c) (is_new c)

pub returns-clause-few : goal.returns-clause-few
returns-clause-few c = c.in_ok-waiting.ensures.few

pub returns-clause-fits : goal.returns-clause-fits
returns-clause-fits c = λ fit good.
    let P : ClusterValue → Type 0 = IsFitValue in
    let up = ascending_keys [] c.args.accepted.now.value.settings refl (rw c.deref-state.ensures at c.texts.ensures.settings.ascending) in
    subst P (sym (made_new c).value_is) (fits_next (new_leader c) c.args.self.now fit up good)

pub returns-clause-good : goal.returns-clause-good
returns-clause-good c = λ good.
    let P : List Waiting → Type 0 = HaveGoodSettings in
    subst P (sym (returns-clause-waiting c)) (good_waiting (new_leader c) c.args.self.now good)

-- what was made, where nothing is new
abbrev same_leader : goal.After-drop-value-then-is_nothing_new-3 → Leader
same_leader c = leader_of c.args.me c.args.term c.args.accepted.now c.args.committed.now c.args.votes.now c.args.policy

made_same : (c : goal.After-drop-value-then-is_nothing_new-3) → Made (same_leader c) c.args.self.now c.process.new.value c.in_ok-waiting.field-0.waiting.items c.in_ok-waiting.field-0.anew c.in_ok-waiting.field-0.replies c.in_ok-config.config
made_same c =
    made (same_leader c) c.args.self.now c.in_ok-value.value _ _ _ _ _
    (rw c.deref-state.ensures at c.in_ok-value.ensures) c.in_ok-waiting.ensures.value c.in_ok-waiting.ensures.waiting c.in_ok-waiting.ensures.anew c.in_ok-waiting.ensures.replies (rw c.deref-state.ensures at c.in_ok-config.ensures)

is_same : (c : goal.After-drop-value-then-is_nothing_new-3) → true ≡ is_old (same_leader c) c.args.self.now c.in_ok-waiting.field-0.anew c.in_ok-config.config c.process.new.value
is_same c = rw c.deref-state.ensures at (sym c.if-is_nothing_new.true ∙ c.is_nothing_new.ensures)

pub returns-then-is_nothing_new-clause-waiting : goal.returns-then-is_nothing_new-clause-waiting
returns-then-is_nothing_new-clause-waiting c =
    let waiting = c.in_ok-waiting.field-0.waiting.items in
    let committed = c.args.committed.now in
    c.answer_by.ensures.left
    ∙ ap (λ (id : StateId). left_by (nothing_new committed id) waiting) (c.id.ensures ∙ ap id_of c.deref-state.ensures)
    ∙ waiting_same (same_leader c) c.args.self.now _ _ _ _ _ (made_same c) (is_same c)

pub returns-then-is_nothing_new-clause-next : goal.returns-then-is_nothing_new-clause-next
returns-then-is_nothing_new-clause-next c =
    let waiting = c.in_ok-waiting.field-0.waiting.items in
    let committed = c.args.committed.now in
    ap Same (c.answer_by.ensures.sent ∙ ap (λ (id : StateId). with_sent c.in_ok-waiting.field-0.replies (answers_by (nothing_new committed id) waiting)) (c.id.ensures ∙ ap id_of c.deref-state.ensures))
    ∙ next_same (same_leader c) c.args.self.now _ _ _ _ _ (made_same c) (is_same c)

pub returns-then-is_nothing_new-clause-few : goal.returns-then-is_nothing_new-clause-few
returns-then-is_nothing_new-clause-few c = omega (arith, c.answer_by.ensures.few, c.in_ok-waiting.ensures.few)

pub returns-then-is_nothing_new-clause-good : goal.returns-then-is_nothing_new-clause-good
returns-then-is_nothing_new-clause-good c = λ good.
    let P : List Waiting → Type 0 = HaveGoodSettings in
    subst P (sym (returns-then-is_nothing_new-clause-waiting c)) (good_waiting (same_leader c) c.args.self.now good)
