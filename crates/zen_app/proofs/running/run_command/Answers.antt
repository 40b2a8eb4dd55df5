use Rattle.std.proofs.Common.{◌∙◌, ap, refl, Some}
use Rattle.command_line.specs.declared.command.ProgramCommand.{ProgramCommand}
use Rattle.command_line.specs.declared.command.ProgramCommand.TheVariants.{UnsafeBootstrap, DetachCluster}
use Rattle.zen_app.proofs.RunEnds.{ran_replay, ran_inspect, ran_node, ran_tool, ran_generate, ran_trial, ran_rescue, ran_audit}
use Rattle.zen_app.proofs.running.run_command.Goals as goal

pub returns-in-Replay : goal.returns-in-Replay
returns-in-Replay g c = λ words is_of.
    let is = is_of ∙ ap (λ (x : ProgramCommand). Some x) c.in-Replay.is in
    ran_replay _ _ _ _ _ _ _ _ _ _ is c.run_replay.ensures

pub returns-in-Node : goal.returns-in-Node
returns-in-Node g c = λ words is_of.
    let is = is_of ∙ ap (λ (x : ProgramCommand). Some x) c.in-Node.is in
    ran_node _ _ _ _ _ _ _ _ _ _ is c.run_node.ensures.run c.run_node.ensures.faults c.run_node.ensures.held

pub returns-in-Generate : goal.returns-in-Generate
returns-in-Generate g c = λ words is_of.
    let is = is_of ∙ ap (λ (x : ProgramCommand). Some x) c.in-Generate.is in
    ran_generate _ _ _ _ _ _ _ _ _ _ is c.run_generate.ensures.says c.run_generate.ensures.write c.run_generate.ensures.later

pub returns-in-Trial : goal.returns-in-Trial
returns-in-Trial g c = λ words is_of.
    let is = is_of ∙ ap (λ (x : ProgramCommand). Some x) c.in-Trial.is in
    ran_trial _ _ _ _ _ _ _ _ _ _ is c.try_nodes.ensures.run c.try_nodes.ensures.held c.try_nodes.ensures.host_fault c.try_nodes.ensures.write_fault c.try_nodes.ensures.later c.try_nodes.ensures.wrote_later

pub returns-in-Inspect : goal.returns-in-Inspect
returns-in-Inspect g c = λ words is_of.
    let is = is_of ∙ ap (λ (x : ProgramCommand). Some x) c.in-Inspect.is in
    ran_inspect _ _ _ _ _ _ _ _ _ c.in-Inspect.dir c.inspect.result is c.status_after.ensures
    ((rw c.as_str.ensures at c.inspect.ensures.asked)) c.inspect.ensures.ended c.inspect.ensures.complete c.inspect.ensures.links c.inspect.ensures.held c.inspect.ensures.wrote_later c.inspect.ensures.later

pub returns-in-Rescue : goal.returns-in-Rescue
returns-in-Rescue g c = λ words is_of.
    let is = is_of ∙ ap (λ (x : ProgramCommand). Some x) c.in-Rescue.is in
    ran_rescue _ _ _ _ _ _ _ _ _ _ is c.run_rescue.ensures

pub returns-in-UnsafeBootstrap : goal.returns-in-UnsafeBootstrap
returns-in-UnsafeBootstrap g c = λ words is_of.
    let is = is_of ∙ ap (λ (x : ProgramCommand). Some x) c.in-UnsafeBootstrap.is in
    ran_tool _ _ _ _ _ _ _ _ _ (UnsafeBootstrap c.in-UnsafeBootstrap.id c.in-UnsafeBootstrap.dir) is
    ((rw c.as_str-in-UnsafeBootstrap.ensures at c.use_on.ensures.run), refl) c.use_on.ensures.faults c.use_on.ensures.held

pub returns-in-DetachCluster : goal.returns-in-DetachCluster
returns-in-DetachCluster g c = λ words is_of.
    let is = is_of ∙ ap (λ (x : ProgramCommand). Some x) c.in-DetachCluster.is in
    ran_tool _ _ _ _ _ _ _ _ _ (DetachCluster c.in-DetachCluster.dir) is
    ((rw c.as_str-in-DetachCluster.ensures at c.use_on-in-DetachCluster.ensures.run), refl) c.use_on-in-DetachCluster.ensures.faults c.use_on-in-DetachCluster.ensures.held

pub returns-in-Audit : goal.returns-in-Audit
returns-in-Audit g c = λ words is_of.
    let is = is_of ∙ ap (λ (x : ProgramCommand). Some x) c.in-Audit.is in
    ran_audit _ _ _ _ _ _ _ _ _ c.run_audit.result is c.audit_status.ensures c.run_audit.ensures
