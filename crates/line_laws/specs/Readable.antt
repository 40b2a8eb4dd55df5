-- For the contracts inside: which acts and records a line shows as they are: their ids are ids, their lists sets, their numbers of 64 bits,
-- and their values within the limits of a value.
use Rattle.std.specs.Prelude.{◌≡◌, List, IsTrue}
use Rattle.voting_config.specs.Ids.{Id, is_id, most_ids}
use Rattle.cluster_state.specs.Fields.{ids}
use Rattle.cluster_state.specs.States.{value as value_field}
use Rattle.cluster_state.specs.declared.state.ClusterState.{ClusterState}
use Rattle.cluster_state.specs.declared.state.Kept.{Kept}
use Rattle.world_model.specs.declared.acts.Act.{Act}
use Rattle.world_model.specs.declared.acts.Act.TheVariants.{Bootstrap, StartJoin, TakeJoin, Value, Publish, Response, Commit, Open}
use Rattle.world_model.specs.declared.acts.Cause.{Cause}
use Rattle.world_model.specs.declared.acts.Cause.TheVariants.{Initial as InitialRefused, Start as StartRefused, Join as JoinRefused, Value as ValueRefused, Publish as PublishRefused, Response as ResponseRefused, Commit as CommitRefused}
use Rattle.trace_text.specs.declared.ending.Ending.{Ending}
use Rattle.trace_text.specs.declared.ending.Ending.TheVariants as ending
use Rattle.recorded_trace.specs.declared.kind.Kind.{Kind}
use Rattle.recorded_trace.specs.declared.kind.Kind.TheVariants as kind
use Rattle.line_laws.specs.Fits.{IsSmall, AreSmall, FitsCause, FitsState}

-- ids that ascend, no more than a set has
abbrev pub IsListed : List Id → Type 0
IsListed xs = (ids most_ids).Fits xs

pub record IsReadableState (s : ClusterState) : Type 0 where
  pub numbers : FitsState s
  pub config : IsListed s.config
  pub committed : IsListed s.committed
  pub value : value_field.Fits s.value

pub record IsReadableRecord (found : Kept) : Type 0 where
  pub term : IsSmall found.term
  pub accepted : IsReadableState found.accepted
  pub committed : IsListed found.committed

abbrev pub IsReadable : Act → Type 0
IsReadable (Bootstrap config) = IsListed config
IsReadable (StartJoin candidate term) = IsTrue (is_id candidate) × IsSmall term
IsReadable (TakeJoin j) = IsTrue (is_id j.source) × IsTrue (is_id j.target) × IsSmall j.term × AreSmall j.last_term j.last_version
IsReadable (Value version config value) = IsSmall version × IsListed config × value_field.Fits value
IsReadable (Publish r) = IsTrue (is_id r.source) × IsReadableState r.state
IsReadable (Response r) = IsTrue (is_id r.source) × IsTrue (is_id r.target) × AreSmall r.term r.version
IsReadable (Commit c) = IsTrue (is_id c.source) × AreSmall c.term c.version
IsReadable (Open found) = IsReadableRecord found

-- an act by its word, and the acts that a cause refuses
abbrev pub kind_of : Act → Kind
kind_of (Bootstrap config) = kind.Boot
kind_of (StartJoin candidate term) = kind.StartJoin
kind_of (TakeJoin join) = kind.Join
kind_of (Value version config value) = kind.Value
kind_of (Publish request) = kind.Publish
kind_of (Response response) = kind.Response
kind_of (Commit commit) = kind.Commit
kind_of (Open found) = kind.Boot

abbrev pub refuses : Cause → Kind
refuses (InitialRefused c) = kind.Boot
refuses (StartRefused c) = kind.StartJoin
refuses (JoinRefused c) = kind.Join
refuses (ValueRefused c) = kind.Value
refuses (PublishRefused c) = kind.Publish
refuses (ResponseRefused c) = kind.Response
refuses (CommitRefused c) = kind.Commit

-- an act may end so: a cause that refuses it is one of its own
abbrev pub EndsAs : Act → Ending → Type 0
EndsAs act (ending.Refused cause) = FitsCause cause × (refuses cause ≡ kind_of act)
EndsAs act other = Unit {0}
