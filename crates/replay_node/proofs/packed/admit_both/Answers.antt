use Rattle.replay_node.proofs.Packing.{admits, grows_on, has_place, still_there}
use Rattle.replay_node.proofs.packed.admit_both.Goals as goal

pub returns-in_err-admit-2-clause-roster : goal.returns-in_err-admit-2-clause-roster
returns-in_err-admit-2-clause-roster c =
    grows_on c.args.roster.now c.admit.new.self c.admit-2.new.self (admits c.admit.result c.args.roster.now c.admit.new.self c.args.source c.admit.ensures.ok c.admit.ensures.err)
    (admits c.admit-2.result c.admit.new.self c.admit-2.new.self c.args.target c.admit-2.ensures.ok c.admit-2.ensures.err)

pub returns-clause-roster : goal.returns-clause-roster
returns-clause-roster c =
    grows_on c.args.roster.now c.admit.new.self c.admit-2.new.self (admits c.admit.result c.args.roster.now c.admit.new.self c.args.source c.admit.ensures.ok c.admit.ensures.err)
    (admits c.admit-2.result c.admit.new.self c.admit-2.new.self c.args.target c.admit-2.ensures.ok c.admit-2.ensures.err)

pub returns-clause-source : goal.returns-clause-source
returns-clause-source c =
    still_there c.admit.new.self c.admit-2.new.self c.args.source c.in_ok-admit.field-0 (admits c.admit-2.result c.admit.new.self c.admit-2.new.self c.args.target c.admit-2.ensures.ok c.admit-2.ensures.err)
    (has_place c.admit.new.self c.args.source c.in_ok-admit.field-0 c.in_ok-admit.ensures.place)

pub returns-clause-target : goal.returns-clause-target
returns-clause-target c = has_place c.admit-2.new.self c.args.target c.in_ok-admit-2.field-0 c.in_ok-admit-2.ensures.place
