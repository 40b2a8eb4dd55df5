use Rattle.node_tool.proofs.using.use_opened.Goals as goal

pub returns : goal.returns
returns g c = record {
  new = c.use_on-tooled.new.journal;
  is_back = c.into_disk.ensures;
  uses = c.use_on-tooled.ensures.uses;
  writes = c.use_on-tooled.ensures.writes;
  later = c.use_on-tooled.ensures.later;
  any_moment = c.use_on-tooled.ensures.any_moment;
}
