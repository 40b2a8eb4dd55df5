use Rattle.std.proofs.Common.{sym, subst, arith}
use Rattle.std.specs.Prelude.{Option}
use Rattle.cluster_state.specs.declared.state.Kept.{Kept}
use Rattle.coord_state.proofs.coord.CoordState.kept.Goals as goal

pub returns-clause-durable : goal.returns-clause-durable
returns-clause-durable g c told running found =
    let keeper = c.args.self.now.keeper in
    let now = g.K.Keeper.moment keeper in (
      λ left. g.met.K.Keeper.only_kept keeper found told running left,
      λ is. subst (λ (f : Option Kept). g.K.Keeper.left_since keeper now f) (sym is) (g.met.K.Keeper.may_stay keeper now told (omega arith) running),
    )
