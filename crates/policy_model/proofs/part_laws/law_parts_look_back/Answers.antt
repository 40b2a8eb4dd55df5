use Rattle.policy_model.proofs.PartLookBacks.{finder_looks_back, round_looks_back, publication_looks_back, followers_look_back, leader_check_looks_back}
use Rattle.policy_model.proofs.part_laws.law_parts_look_back.Goals as goal

pub returns-clause-finder : goal.returns-clause-finder
returns-clause-finder c s l = finder_looks_back s l

pub returns-clause-round : goal.returns-clause-round
returns-clause-round c s l = round_looks_back s l

pub returns-clause-publication : goal.returns-clause-publication
returns-clause-publication c l = publication_looks_back l

pub returns-clause-followers : goal.returns-clause-followers
returns-clause-followers c s l = followers_look_back s l

pub returns-clause-leader_check : goal.returns-clause-leader_check
returns-clause-leader_check c l = leader_check_looks_back l
