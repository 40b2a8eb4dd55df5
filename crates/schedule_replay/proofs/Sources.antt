-- Each message is from a node of the schedule.
use Rattle.std.proofs.Common.{◌≡◌, sym, Bool, true, false, cond, None, Some, List, ◌++◌, refl, subst, ◌∙◌}
use Rattle.std.proofs.lemmas.List.Folds.{list_all-append}
use Rattle.std.proofs.lemmas.Bool.{and_from}
use Rattle.voting_config.specs.Ids.{Id, has, same}
use Rattle.world_model.specs.declared.acts.Act.{Act}
use Rattle.world_model.specs.declared.acts.Act.TheVariants.{Bootstrap, StartJoin, TakeJoin, Value, Publish, Response, Commit, Open}
use Rattle.world_model.specs.declared.acts.Message.{Message}
use Rattle.world_model.specs.declared.acts.ActReply.{ActReply}
use Rattle.world_model.specs.declared.acts.ActReply.TheVariants.{Taken, Refused, Stopped}
use Rattle.world_model.specs.declared.acts.Outcome.{Outcome}
use Rattle.world_model.specs.declared.acts.Outcome.TheVariants.{Answered}
use Rattle.world_model.specs.Acts.{NodeHistory, NoActs, Then}
use Rattle.world_model.specs.Replies.{reply_of}
use Rattle.world_model.proofs.System.{origin}
use Rattle.world_model.specs.Histories.{History, Next, node_history, sent_by}
use Rattle.world_model.proofs.Legal.{origin_source}
use Rattle.replay_node.specs.NodeDisk.{CallsEnd, Done, Failed, CrashedIn}
use Rattle.replay_node.specs.NodeWorld.{NodeWorld, act_called, outcome_at, outcome_by}
use Rattle.replay_node.specs.Sent.{source_of, are_from}
use Rattle.replay_node.specs.Takes.{TakesFrom}

reply_from : (ids : List Id) (me : Id) (g : NodeHistory) (act : Act) → has me ids ≡ true → are_from ids (sent_by (Answered (reply_of me g act))) ≡ true
reply_from ids me g act listed = from (reply_of me g act) refl
  where
    from : (r : ActReply) → r ≡ reply_of me g act → are_from ids (sent_by (Answered r)) ≡ true
    from (Taken (Some m) w) e = and_from _ _ (subst (λ (i : Id). has i ids ≡ true) (sym (origin_source me g act m (origin me g act m w e))) listed) refl
    from (Taken None w) e = refl
    from (Refused cause) e = refl
    from Stopped e = refl

-- an act that the disk failed or stopped in sends nothing
outcome_from : (ids : List Id) (end : CallsEnd) (reply : ActReply) → are_from ids (sent_by (Answered reply)) ≡ true → are_from ids (sent_by (outcome_by end reply)) ≡ true
outcome_from ids Done reply f = f
outcome_from ids Failed reply f = refl
outcome_from ids (CrashedIn way) reply f = refl

pub more_from : (ids : List Id) (me : Id) (messages : List Message) (w : NodeWorld) (act : Act) → has me ids ≡ true → are_from ids messages ≡ true → are_from ids (messages ++ sent_by (outcome_at me w act)) ≡ true
more_from ids me messages w act listed f =
    list_all-append (λ (m : Message). has (source_of m) ids) messages (sent_by (outcome_at me w act))
    ∙ and_from _ _ f (outcome_from ids (act_called me w act).ended (reply_of me w.acts act) (reply_from ids me w.acts act listed))

takes_then : (ids : List Id) (g : NodeHistory) (act : Act) (o p : Outcome) → TakesFrom ids g → TakesFrom ids (Then NoActs act o) → TakesFrom ids (Then g act p)
takes_then ids g (TakeJoin j) o p l a = (l, a.1)
takes_then ids g (Response r) o p l a = (l, a.1)
takes_then ids g (Bootstrap config) o p l a = l
takes_then ids g (StartJoin candidate term) o p l a = l
takes_then ids g (Value version config value) o p l a = l
takes_then ids g (Publish request) o p l a = l
takes_then ids g (Commit commit) o p l a = l
takes_then ids g (Open found) o p l a = l

pub takes_next : (ids : List Id) (h : History) (n m : Id) (act : Act) (o p : Outcome) → TakesFrom ids (node_history h m) → TakesFrom ids (Then NoActs act o) → TakesFrom ids (node_history (Next h n act p) m)
takes_next ids h n m act o p l a = from (same n m)
  where
    from : (b : Bool) → TakesFrom ids (cond b (Then (node_history h m) act p) (node_history h m))
    from true = takes_then ids (node_history h m) act o p l a
    from false = l
