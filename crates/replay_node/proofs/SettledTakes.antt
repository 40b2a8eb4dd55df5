-- What a node took and published is the same when an act that was struck is found to be kept or not.
use Rattle.std.proofs.Common.{◌≡◌, Bool, List, refl, ap}
use Rattle.voting_config.specs.Ids.{Id}
use Rattle.world_model.specs.declared.acts.Act.{Act}
use Rattle.world_model.specs.declared.acts.Act.TheVariants.{TakeJoin, Value, Response, Open}
use Rattle.world_model.specs.declared.acts.Outcome.{Outcome}
use Rattle.world_model.specs.declared.acts.Outcome.TheVariants.{Answered, Disk, Crashed}
use Rattle.world_model.specs.Acts.{NodeHistory, NoActs, Then}
use Rattle.world_model.specs.Settled.{settled}
use Rattle.replay_node.specs.Takes.{TakesFrom}
use Rattle.trace_text.specs.Published.{published_by, last_published}

takes_by : (ids : List Id) (g : NodeHistory) (act : Act) (o p : Outcome) → TakesFrom ids (Then g act o) → TakesFrom ids (Then g act p)
takes_by ids g (TakeJoin join) o p t = t
takes_by ids g act o p t = t

pub settled_takes : (ids : List Id) (k : Bool) (g : NodeHistory) → TakesFrom ids g → TakesFrom ids (settled k g)
settled_takes ids k NoActs t = t
settled_takes ids k (Then g act (Disk was)) t = takes_by ids g act (Disk was) (Disk k) t
settled_takes ids k (Then g act (Crashed was)) t = takes_by ids g act (Crashed was) (Crashed k) t
settled_takes ids k (Then g (Open found) (Answered reply)) t = t
settled_takes ids k (Then g (TakeJoin join) (Answered reply)) t = (settled_takes ids k g t.0, t.1)
settled_takes ids k (Then g (Response response) (Answered reply)) t = (settled_takes ids k g t.0, t.1)
settled_takes ids k (Then g act (Answered reply)) t = settled_takes ids k g t

published_disk : (g : NodeHistory) (act : Act) (j k : Bool) → last_published (Then g act (Disk j)) ≡ last_published (Then g act (Disk k))
published_disk g (Value version config value) j k = refl
published_disk g act j k = refl

published_crash : (g : NodeHistory) (act : Act) (j k : Bool) → last_published (Then g act (Crashed j)) ≡ last_published (Then g act (Crashed k))
published_crash g (Value version config value) j k = refl
published_crash g act j k = refl

pub settled_published : (k : Bool) (g : NodeHistory) → last_published (settled k g) ≡ last_published g
settled_published k NoActs = refl
settled_published k (Then g act (Disk was)) = published_disk g act k was
settled_published k (Then g act (Crashed was)) = published_crash g act k was
settled_published k (Then g (Open found) (Answered reply)) = refl
settled_published k (Then g (Value version config value) (Answered reply)) = ap (published_by (Answered reply)) (settled_published k g)
settled_published k (Then g act (Answered reply)) = settled_published k g
