-- For the contracts inside: how a response is counted, and what its commit brings.
use Rattle.std.specs.Prelude.{List, [], ◌∷◌, ◌++◌, if◌then◌else◌}
use Rattle.voting_config.specs.Ids.{Id}
use Rattle.cluster_state.specs.declared.state.StateId.{StateId}
use Rattle.world_model.specs.declared.acts.Act.{Act}
use Rattle.world_model.specs.declared.acts.Act.TheVariants.{Response}
use Rattle.master_tasks.specs.Answering.{answers_by, committed_in}
use Rattle.policy_model.specs.declared.settings.Settings.{Settings}
use Rattle.policy_model.specs.Events.{Item, Notes, CommitAcked}
use Rattle.policy_model.specs.Views.{View}
use Rattle.policy_model.specs.Parts.{published_id}
use Rattle.policy_model.specs.Doing.{reply_all, reply_now, act_now, after_act}
use Rattle.policy_model.specs.Publications.{is_commit_sent, commits_now, sends_commit}

abbrev pub responding : Settings → Id → StateId → Act
responding s p id = Response (record { source = p; target = s.me; term = id.term; version = id.version })

-- a response that fits is counted, and the commit that it sends goes out
abbrev pub takes_response : Settings → View → Id → StateId → List Item
takes_response s v p id =
    act_now s v (responding s p id)
    ∷ (if commits_now (reply_now s v (responding s p id))
    then sends_commit s (after_act s v (responding s p id)) (is_commit_sent v.publication) p id else [])

-- the requests in the published state are acknowledged
abbrev pub acks_commit : Settings → View → List Item
acks_commit s v = reply_all s (answers_by (committed_in (published_id v.node)) v.tasks.waiting) ++ Notes CommitAcked ∷ []
