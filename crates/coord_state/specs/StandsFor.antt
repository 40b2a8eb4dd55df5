-- For the contracts inside: when a node's fields stand for its acts so far, and what an act makes of them.
use Rattle.std.specs.Prelude.{◌≡◌, ℕ, ◌≤◌, Some, List, true, false}
use Rattle.std.proofs.Common.{subst, sym, ◌∙◌, ap}
use Rattle.zen_disk.specs.Faults.{Rose}
use Rattle.voting_config.specs.Ids.{Id}
use Rattle.cluster_state.specs.declared.messages.PublishRequest.{PublishRequest}
use Rattle.cluster_state.specs.declared.state.ClusterValue.{ClusterValue}
use Rattle.state_journal.specs.declared.keeper.Keeper.{Ghosts}
use Rattle.world_model.specs.declared.acts.Act.{Act}
use Rattle.world_model.specs.declared.acts.Outcome.{Outcome}
use Rattle.world_model.specs.Acts.{NodeHistory, Then, is_disk, is_crashed}
use Rattle.world_model.specs.NodeState.{NodeState, node_state}
use Rattle.world_model.specs.Replies.{id_of, IsOutcome, IsOutcomeAt}
use Rattle.world_model.specs.Moves.{node_state_after, node_state-Then, is_opening}
use Rattle.coord_state.specs.declared.coord.CoordState.{CoordState}

module _ {K : Type 0} (k : Ghosts K) where
  -- the node's state, as its fields show it
  abbrev pub fields_of : CoordState K → NodeState
  fields_of c = record {
    term = (k.record_of c.keeper).term;
    accepted = (k.record_of c.keeper).accepted;
    committed = (k.record_of c.keeper).committed;
    started_join = c.started_join;
    join_votes = c.join_votes;
    election_won = c.election_won;
    published_version = c.published_version;
    published_config = c.published_config;
    publish_votes = c.publish_votes;
    halted = k.has_stopped c.keeper;
  }

  -- the request by which the node publishes a value
  abbrev pub request_of : CoordState K → ℕ → List Id → ClusterValue → PublishRequest
  request_of c version config value =
      let kept = k.record_of c.keeper in
      record {
        source = c.me;
        state = record {
          term = kept.term;
          version = version;
          parent = Some (id_of kept.accepted);
          config = config;
          committed = kept.committed;
          value = value;
        };
      }

  -- the fields are what the acts so far make of a node
  abbrev pub StandsFor : CoordState K → NodeHistory → Type 0
  StandsFor c g = fields_of c ≡ node_state g

  -- one act, told by the fields alone
  pub record ActsAt (old new : CoordState K) (act : Act) (outcome : Outcome) : Type 0 where
    pub me : new.me ≡ old.me
    pub answers : IsOutcomeAt old.me (fields_of old) act outcome
    pub after : fields_of new ≡ node_state_after (fields_of old) act outcome
    pub runs : is_crashed outcome ≡ false
    pub later : k.faults old.keeper ≤ k.faults new.keeper
    pub fault : is_disk outcome ≡ true → Rose (k.faults old.keeper) (k.faults new.keeper)

  -- one act: whatever acts the node stood for, the outcome is the reply to it, and the node stands for them with it
  pub record Acts (old new : CoordState K) (act : Act) (outcome : Outcome) : Type 0 where
    pub at : ActsAt old new act outcome
    pub answers : (g : NodeHistory) → StandsFor old g → IsOutcome old.me g act outcome
    pub stands : (g : NodeHistory) → StandsFor old g → StandsFor new (Then g act outcome)

  -- what is said of the fields holds of all acts that they stand for
  pub acts : (old new : CoordState K) (act : Act) (outcome : Outcome) → is_opening act ≡ false → ActsAt old new act outcome
      → Acts old new act outcome
  acts old new act outcome h a = record {
    at = a;
    answers = λ g s. subst (λ (p : NodeState). IsOutcomeAt old.me p act outcome) s a.answers;
    stands = λ g s. a.after ∙ ap (λ (p : NodeState). node_state_after p act outcome) s ∙ sym (node_state-Then g act outcome h);
  }
