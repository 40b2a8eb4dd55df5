use Rattle.voting_config.specs.Ids.{most_ids}
use Rattle.cluster_state.proofs.Fitting.{fits_ids}
use Rattle.state_journal.proofs.draft.set_bytes.Goals as goal

pub returns-clause-fits : goal.returns-clause-fits
returns-clause-fits c = fits_ids most_ids c.args.set.now c.requires c.requires.fits
