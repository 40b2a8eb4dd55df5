use Rattle.std.proofs.Common.{◌≡◌, Bool, true, false, ap, refl, subst, sym, ◌∙◌}
use Rattle.std.specs.Prelude.{Err, Some}
use Rattle.zen_disk.specs.declared.orders.Struck.TheVariants.{Stop, Fault}
use Rattle.replay_node.specs.NodeDisk.{MemFuse}
use Rattle.replay_node.specs.Stands.{Journal}
use Rattle.coordinator.specs.Steps.{Steps}
use Rattle.coordinator.specs.declared.step.StepError.{StepError}
use Rattle.policy_model.specs.Entries.{log_of}
use Rattle.policy_model.specs.Follows.{items_of}
use Rattle.schedule_replay.specs.OpenNodes.{keeper}
use Rattle.schedule_replay.proofs.Bridge.{crashed_event, failed_event, whole_event}
use Rattle.schedule_replay.proofs.cluster.stepping.step.Goals as goal

pub returns-in-Ok : goal.returns-in-Ok
returns-in-Ok c s life x stands =
    whole_event s life x c.args.event c.args.node.now c.step.new.self stands c.in-Ok.ensures.ready (from c.args.node.now.core.keeper.log.stopped refl) c.in-Ok.sealed (c.in-Ok.ensures.does life stands.life_is) c.in-Ok.ensures.within
  where
    from : (b : Bool) → c.args.node.now.core.keeper.log.stopped ≡ b → c.args.node.now.core.keeper.log.stopped ≡ false
    from false e = e
    from true e = absurd (let answer = c.in-Ok.ensures.stopped.1 e in cc)

pub returns-in-Some-Fault : goal.returns-in-Some-Fault
returns-in-Some-Fault c s life x stands =
    let steps = subst (λ (e : StepError). Steps keeper c.args.node.now c.step.new.self c.args.event (items_of c.args.node.now.settings (log_of life) c.args.event) (Err e)) c.in-Err-Disk.field-0-is (c.in-Err-Disk.ensures.does life stands.life_is) in
    let disk : c.disk.result.now ≡ c.step.new.self.core.keeper.log.disk = c.disk.ensures ∙ ap (λ (j : Journal). j.log.disk) c.keeper.ensures in
    let struck : c.step.new.self.core.keeper.log.disk.struck ≡ Some Fault = ap (λ (f : MemFuse). f.struck) (sym disk) ∙ sym c.struck.ensures ∙ (let a = c.in-Some-Fault.is in let b = c.in-Some-Fault.field-0-is in cc) in
    failed_event s life x c.args.event c.args.node.now c.step.new.self stands c.in-Err-Disk.ensures.ready (from c.args.node.now.core.keeper.log.stopped refl) c.in-Err-Disk.entries steps struck
  where
    from : (b : Bool) → c.args.node.now.core.keeper.log.stopped ≡ b → c.args.node.now.core.keeper.log.stopped ≡ false
    from false e = e
    from true e = absurd (let answer = c.in-Err-Disk.ensures.stopped.1 e in let is = c.in-Err-Disk.field-0-is in cc)

pub returns-in-Some-Stop : goal.returns-in-Some-Stop
returns-in-Some-Stop c s life x stands =
    let steps = subst (λ (e : StepError). Steps keeper c.args.node.now c.step.new.self c.args.event (items_of c.args.node.now.settings (log_of life) c.args.event) (Err e)) c.in-Err-Disk.field-0-is (c.in-Err-Disk.ensures.does life stands.life_is) in
    let disk : c.disk.result.now ≡ c.step.new.self.core.keeper.log.disk = c.disk.ensures ∙ ap (λ (j : Journal). j.log.disk) c.keeper.ensures in
    let struck : c.step.new.self.core.keeper.log.disk.struck ≡ Some Stop = ap (λ (f : MemFuse). f.struck) (sym disk) ∙ sym c.struck.ensures ∙ (let a = c.in-Some-Stop.is in let b = c.in-Some-Stop.field-0-is in cc) in
    crashed_event s life x c.args.event c.args.node.now c.step.new.self stands c.in-Err-Disk.ensures.ready (from c.args.node.now.core.keeper.log.stopped refl) c.in-Err-Disk.entries steps struck
  where
    from : (b : Bool) → c.args.node.now.core.keeper.log.stopped ≡ b → c.args.node.now.core.keeper.log.stopped ≡ false
    from false e = e
    from true e = absurd (let answer = c.in-Err-Disk.ensures.stopped.1 e in let is = c.in-Err-Disk.field-0-is in cc)
