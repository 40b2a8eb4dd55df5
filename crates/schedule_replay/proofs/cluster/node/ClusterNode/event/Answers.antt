use Rattle.std.proofs.Common.{refl, subst}
use Rattle.std.specs.Prelude.{Result, Ok, Err, OnOk}
use Rattle.std.proofs.lemmas.Result.{on_ok_weaker}
use Rattle.schedule_replay.specs.EventEnds.{Ends}
use Rattle.schedule_replay.specs.declared.cluster.stepping.Ended.{Ended}
use Rattle.schedule_replay.proofs.EventsDone.{does_crashed, does_failed, does_stopped, does_whole}
use Rattle.schedule_replay.proofs.cluster.node.ClusterNode.event.Goals as goal

two_ok : {T E : Type 0} (r : Result T E) (P Q R : Type 0) → (P → Q → R) → OnOk r P → OnOk r Q → OnOk r R
two_ok (Ok x) P Q R f p q = f p q
two_ok (Err e) P Q R f p q = tt

three_ok : {T E : Type 0} (r : Result T E) (P Q R S : Type 0) → (P → Q → R → S) → OnOk r P → OnOk r Q → OnOk r R → OnOk r S
three_ok (Ok x) P Q R S f p q z = f p q z
three_ok (Err e) P Q R S f p q z = tt

pub returns-in-Stopped : goal.returns-in-Stopped
returns-in-Stopped c =
    let ends = subst (λ (e : Ended). Ends c.in-Open.node c.step.new.node c.args.event e) c.in-Stopped.is c.in_ok-step.ensures in
    on_ok_weaker c.write_down_line-in-Stopped.result
    (does_stopped c.args.self.now c.args.event c.in-Open.node c.step.new.node c.in-Open.is ends c.args.frames.now.items c.args.text.now c.write_down_line-in-Stopped.new.text)
    c.write_down_line-in-Stopped.ensures

pub returns-in-Whole : goal.returns-in-Whole
returns-in-Whole c =
    let ends = subst (λ (e : Ended). Ends c.in-Open.node c.step.new.node c.args.event e) c.in-Whole.is c.in_ok-step.ensures in
    let does = does_whole c.args.self.now c.args.event c.in-Open.node c.step.new.node c.in-Open.is c.in-Whole.sealed ends c.show_whole.new.published c.args.frames.now.items c.show_whole.new.frames.items c.args.text.now c.show_whole.new.text in
    three_ok c.show_whole.result _ _ _ _ does c.show_whole.ensures.text c.show_whole.ensures.published c.show_whole.ensures.frames

pub returns-in-Failed : goal.returns-in-Failed
returns-in-Failed c =
    let ends = subst (λ (e : Ended). Ends c.in-Open.node c.step.new.node c.args.event e) c.in-Failed.is c.in_ok-step.ensures in
    two_ok c.show_struck.result _ _ _ (does_failed c.args.self.now c.args.event c.in-Open.node c.step.new.node c.in-Open.is c.in-Failed.entries ends c.show_struck.new.published c.args.frames.now.items c.args.text.now c.show_struck.new.text) c.show_struck.ensures.text c.show_struck.ensures.published

pub returns-in-Crashed : goal.returns-in-Crashed
returns-in-Crashed c =
    let ends = subst (λ (e : Ended). Ends c.in-Open.node c.step.new.node c.args.event e) c.in-Crashed.is c.in_ok-step.ensures in
    let down = c.go_down.ensures in
    two_ok c.show_struck-in-Crashed.result _ _ _ (does_crashed c.args.self.now c.args.event c.in-Open.node c.step.new.node c.in-Open.is c.in-Crashed.entries ends c.go_down.new.self (record c.go_down.new.self { published = c.show_struck-in-Crashed.new.published }) down.me down.published refl refl down.slot c.args.frames.now.items c.args.text.now c.show_struck-in-Crashed.new.text) c.show_struck-in-Crashed.ensures.text c.show_struck-in-Crashed.ensures.published
