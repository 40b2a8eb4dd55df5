-- Each look-back is the literal definition.
use Rattle.std.proofs.Common.{◌≡◌, ℕ, max, Bool, true, false, cond, ◌&&◌, ◌||◌, Option, None, Some, List, [], ◌∷◌, refl, sym, ◌∙◌, ap, arith}
use Rattle.std.proofs.lemmas.Bool.{both_ways, or_parts, and_parts, not-true}
use Rattle.std.specs.Option.{unwrap_or}
use Rattle.voting_config.specs.Ids.{Id, with_id, set_of}
use Rattle.voting_config.proofs.Sets.{set_of-cons}
use Rattle.world_model.specs.Acts.{NodeHistory, Bootstrap, StartJoin, TakeJoin, Value, Publish, Response, Commit, Open, NoActs, Then, Taken, Answered, Disk, Crashed, is_ok, is_disk}
use Rattle.world_model.specs.NodeState.{node_state, durable_of, term_of, accepted_of, committed_of, started_join_of, join_votes_of, election_won_of, published_version_of, published_config_of, publish_votes_of, halted_of}
use Rattle.world_model.specs.Histories.{IsLocal}
use Rattle.world_model.specs.Literal.{any, after_last, last, all, has_a, winning_join, ok_join, ok_response, ok_value, Proposal, has_round, round_of, literal_term, literal_accepted, literal_committed, literal_join_votes, literal_election_won, literal_published, literal_publish_votes, literal_halted, literal_durable, literal_state, KeepsLiterally}
use Rattle.world_model.proofs.Guards.{join_guard, value_guard, response_guard}

-- Of any acts.

pub started_is : (g : NodeHistory) → started_join_of g ≡ has_round g
started_is NoActs = refl
started_is (Then g (StartJoin c t) o) = ap (λ b. is_ok o || b) (started_is g)
started_is (Then g (Open found) o) = refl
started_is (Then g a o) = started_is g

pub halted_is : (g : NodeHistory) → halted_of g ≡ literal_halted g
halted_is NoActs = refl
halted_is (Then g (Open found) o) = refl
halted_is (Then g a o) = ap (λ b. is_disk o || b) (halted_is g)

one_more_term : (t m r s : ℕ) → m ≡ max r s → max t m ≡ max r (max t s)
one_more_term t m r s h = omega arith

pub term_is : (g : NodeHistory) → term_of g ≡ literal_term g
term_is NoActs = refl
term_is (Then g (StartJoin c t) (Answered (Taken s w))) = one_more_term _ _ _ _ (term_is g)
term_is (Then g (StartJoin c t) (Disk true)) = one_more_term _ _ _ _ (term_is g)
term_is (Then g (StartJoin c t) (Crashed true)) = one_more_term _ _ _ _ (term_is g)
term_is (Then NoActs (Open found) o) = omega arith
term_is (Then (Then g a u) (Open found) o) = term_is (Then g a u)
term_is (Then g a o) = term_is g

pub accepted_is : (g : NodeHistory) → accepted_of g ≡ literal_accepted g
accepted_is NoActs = refl
accepted_is (Then g (Bootstrap c) (Answered (Taken s w))) = refl
accepted_is (Then g (Bootstrap c) (Disk true)) = refl
accepted_is (Then g (Bootstrap c) (Crashed true)) = refl
accepted_is (Then g (Publish r) (Answered (Taken s w))) = refl
accepted_is (Then g (Publish r) (Disk true)) = refl
accepted_is (Then g (Publish r) (Crashed true)) = refl
accepted_is (Then NoActs (Open found) o) = refl
accepted_is (Then (Then g a u) (Open found) o) = accepted_is (Then g a u)
accepted_is (Then g a o) = accepted_is g

pub committed_is : (g : NodeHistory) → committed_of g ≡ literal_committed g
committed_is NoActs = refl
committed_is (Then g (Bootstrap c) (Answered (Taken s w))) = refl
committed_is (Then g (Bootstrap c) (Disk true)) = refl
committed_is (Then g (Bootstrap c) (Crashed true)) = refl
committed_is (Then g (Publish r) (Answered (Taken s w))) = refl
committed_is (Then g (Publish r) (Disk true)) = refl
committed_is (Then g (Publish r) (Crashed true)) = refl
committed_is (Then g (Commit c) (Answered (Taken s w))) = λ i. (accepted_is g i).config
committed_is (Then g (Commit c) (Disk true)) = λ i. (accepted_is g i).config
committed_is (Then g (Commit c) (Crashed true)) = λ i. (accepted_is g i).config
committed_is (Then NoActs (Open found) o) = refl
committed_is (Then (Then g a u) (Open found) o) = committed_is (Then g a u)
committed_is (Then g a o) = committed_is g

pub durable_is : (g : NodeHistory) → durable_of g ≡ literal_durable g
durable_is g = λ i. record { term = term_is g i; accepted = accepted_is g i; committed = committed_is g i }

pub keeps_literally : (g : NodeHistory) → KeepsLiterally g
keeps_literally g = record { durable = durable_is g; started_join = started_is g; halted = halted_is g }

-- Of acts that follow each other. What is looked up of a round is only taken in a round.

-- in a round a look-up is that of the round
in_round : {A : Type 0} (b : Bool) (x y : A) → b ≡ true → x ≡ cond b x y
in_round true x y h = refl
in_round false x y h = cc

one_more_source : (s : Id) (ids sources : List Id) (b : Bool) → b ≡ true → ids ≡ cond b (set_of sources) [] → with_id s ids ≡ cond b (set_of (s ∷ sources)) []
one_more_source s ids sources true h k = ap (with_id s) k ∙ sym (set_of-cons s sources)
one_more_source s ids sources false h k = cc

pub votes_is : (me : Id) (g : NodeHistory) → IsLocal me g → join_votes_of g ≡ literal_join_votes g
votes_is me NoActs f = refl
votes_is me (Then g (StartJoin c t) (Answered (Taken s w))) f = refl
votes_is me (Then g (TakeJoin j) (Answered (Taken s w))) f =
    let guard = join_guard me g j s w f.1.follows in
    one_more_source j.source (join_votes_of g) (all ok_join (round_of g)) (has_round g) (sym (started_is g) ∙ guard.started) (votes_is me g f.0)
votes_is me (Then g (Open found) o) f = refl
votes_is me (Then g a o) f = votes_is me g f.0

pub won_is : (me : Id) (g : NodeHistory) → IsLocal me g → election_won_of g ≡ literal_election_won g
won_is me NoActs f = refl
won_is me (Then g (StartJoin c t) (Answered (Taken s w))) f = refl
won_is me (Then g (TakeJoin j) (Answered (Taken s w))) f =
    let guard = join_guard me g j s w f.1.follows in
    from w (election_won_of g) (any winning_join (round_of g)) (has_round g) (sym (started_is g) ∙ guard.started) (won_is me g f.0)
  where
    from : (w v r b : Bool) → b ≡ true → v ≡ (b && r) → (w || v) ≡ (b && (w || r))
    from w v r true h k = ap (λ t. w || t) k
    from w v r false h k = cc
won_is me (Then g (Open found) o) f = refl
won_is me (Then g a o) f = won_is me g f.0

-- who won is in a round
won_in_round : (me : Id) (g : NodeHistory) → IsLocal me g → election_won_of g ≡ true → has_round g ≡ true
won_in_round me g f h = (and_parts _ _ (sym (won_is me g f) ∙ h)).0

-- no value without a win
no_value : (me : Id) (g : NodeHistory) → IsLocal me g → election_won_of g ≡ false → last ok_value (round_of g) ≡ None
no_value me NoActs f h = refl
no_value me (Then g (StartJoin c t) (Answered (Taken s w))) f h = refl
no_value me (Then g (TakeJoin j) (Answered (Taken s w))) f h = no_value me g f.0 (or_parts _ _ h).1
no_value me (Then g (Value v c x) (Answered (Taken s w))) f h = absurd (both_ways _ h (value_guard me g v c x s w f.1.follows).won)
no_value me (Then g (Open found) o) f h = refl
no_value me (Then g a o) f h = no_value me g f.0 h

abbrev pub published_of : NodeHistory → Proposal
published_of g = record { version = published_version_of g; config = published_config_of g }

pub published_is : (me : Id) (g : NodeHistory) → IsLocal me g → published_of g ≡ literal_published g
published_is me NoActs f = refl
published_is me (Then g (StartJoin c t) (Answered (Taken s w))) f = λ i. record { version = 0; config = (accepted_is g i).config }
published_is me (Then g (TakeJoin j) (Answered (Taken s true))) f =
    let guard = join_guard me g j s true f.1.follows in
    let before = not-true _ (and_parts _ _ (sym guard.flag)).0 in
    from (has_round g) (last ok_value (round_of g)) _ _ _ _ _ _ (sym (started_is g) ∙ guard.started) (no_value me g f.0 before) (λ i. (accepted_is g i).version) (published_is me g f.0)
  where
    from : (b : Bool) (o : Option Proposal) (a l v w : ℕ) (c k : List Id) → b ≡ true → o ≡ None → a ≡ l
        → record { version = v; config = c } ≡ cond b (unwrap_or o (record { version = w; config = k })) (record { version = 0; config = [] })
        → record { version = a; config = c } ≡ cond b (unwrap_or o (record { version = cond (b && true) l 0; config = k })) (record { version = 0; config = [] })
    from true None a l v w c k h e p q = λ i. record { version = p i; config = (q i).config }
    from true (Some x) a l v w c k h e p q = cc
    from false o a l v w c k h e p q = cc
published_is me (Then g (Value v c x) (Answered (Taken s w))) f =
    let guard = value_guard me g v c x s w f.1.follows in
    in_round (has_round g) _ _ (won_in_round me g f.0 guard.won)
published_is me (Then g (Open found) o) f = refl
published_is me (Then g a o) f = published_is me g f.0

pub acks_is : (me : Id) (g : NodeHistory) → IsLocal me g → publish_votes_of g ≡ literal_publish_votes g
acks_is me NoActs f = refl
acks_is me (Then g (StartJoin c t) (Answered (Taken s w))) f = refl
acks_is me (Then g (Value v c y) (Answered (Taken s w))) f =
    let guard = value_guard me g v c y s w f.1.follows in
    in_round (has_round g) [] [] (won_in_round me g f.0 guard.won)
acks_is me (Then g (Response r) (Answered (Taken s w))) f =
    let guard = response_guard me g r s w f.1.follows in
    one_more_source r.source (publish_votes_of g) (all ok_response (after_last (has_a ok_value) (round_of g))) (has_round g) (won_in_round me g f.0 guard.won) (acks_is me g f.0)
acks_is me (Then g (Open found) o) f = refl
acks_is me (Then g a o) f = acks_is me g f.0

pub literal_is : (me : Id) (g : NodeHistory) → IsLocal me g → node_state g ≡ literal_state g
literal_is me g f =
    let published = published_is me g f in
    λ i. record {
      term = term_is g i;
      accepted = accepted_is g i;
      committed = committed_is g i;
      started_join = started_is g i;
      join_votes = votes_is me g f i;
      election_won = won_is me g f i;
      published_version = (published i).version;
      published_config = (published i).config;
      publish_votes = acks_is me g f i;
      halted = halted_is g i;
    }
