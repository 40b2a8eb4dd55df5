use Rattle.voting_config.specs.Ids.{most_ids}
use Rattle.cluster_state.proofs.Fitting.{fits_ids, on_ok}
use Rattle.cluster_state.proofs.writing.write_id_set.Goals as goal

pub returns-clause-fits : goal.returns-clause-fits
returns-clause-fits c = on_ok c.write_each_id.result _ (fits_ids most_ids c.args.nodes.now c.requires c.requires.fits)
