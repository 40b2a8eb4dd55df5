-- A replay and what observes it, line by line.
use Rattle.std.proofs.Common.{◌≡◌, ℕ, ◌+◌, ◌<◌, ◌≤◌, Bool, List, [], ◌∷◌, ◌++◌, length, take, get_or, refl, sym, ap, subst, ◌∙◌, append-nil, append_assoc}
use Rattle.std.proofs.lemmas.List.{take_all, take_more}
use Rattle.voting_config.specs.Ids.{Id}
use Rattle.wire_frames.specs.declared.frame.Frame.{Frame}
use Rattle.schedule_text.specs.declared.schedule.Line.{Line}
use Rattle.trace_summary.specs.Tallies.{EndsLine}
use Rattle.replay_node.specs.Clusters.{Cluster, fresh_cluster, after as cluster_after, replayed_from as cluster_from}
use Rattle.world_model.specs.declared.acts.Message.{Message}
use Rattle.replay_node.specs.declared.node.ReplayNode.{ReplayNode}
use Rattle.replay_node.specs.Worlds.{World, fresh_world}
use Rattle.schedule_replay.specs.Replayed.{after, replayed_from}
use Rattle.schedule_replay.specs.Trace.{trace_from, trace_line}
use Rattle.schedule_replay.specs.ClusterTrace.{trace_from as cluster_trace, trace_line as cluster_line}
use Rattle.schedule_replay.specs.WorldStands.{Stands, WritesLine}
use Rattle.schedule_replay.specs.ClusterStands.{ClusterFor, WritesLine as WritesClusterLine}
use Rattle.schedule_replay.specs.Tallied.{Tallied, ClusterTallied}
use Rattle.schedule_replay.specs.declared.cluster.node.ClusterNode.{ClusterNode}
use Rattle.schedule_replay.proofs.Ending.{trace_ends, cluster_trace_ends}

-- a piece was added after whole lines
abbrev pub Adds : {T : Type 0} → (saw : T → List ℕ → Type 0) → T → T → List ℕ → Type 0
Adds saw old new piece = (text : List ℕ) → EndsLine text → saw old text → saw new (text ++ piece)

-- the lines up to the one in hand, and with it
pub taken_more : (lines : List Line) (i : ℕ) (line : Line) → i < length lines → line ≡ get_or lines i line → take (i + 1) lines ≡ take i lines ++ line ∷ []
taken_more lines i line within is = take_more lines i line within ∙ ap (λ (l : Line). take i lines ++ l ∷ []) (sym is)

pub all_taken : (lines : List Line) (i : ℕ) → length lines ≤ i → take i lines ≡ lines
all_taken lines i past = take_all i lines past

-- ---- one line more

pub replayed_more : (initial : List Id) (w : World) (ls : List Line) (l : Line) → replayed_from initial w (ls ++ l ∷ []) ≡ after initial (replayed_from initial w ls) l
replayed_more initial w [] l = refl
replayed_more initial w (x ∷ ls) l = replayed_more initial (after initial w x) ls l

trace_more : (initial : List Id) (w : World) (ls : List Line) (l : Line) → trace_from initial w (ls ++ l ∷ []) ≡ trace_from initial w ls ++ trace_line initial (replayed_from initial w ls) l
trace_more initial w [] l = append-nil (trace_line initial w l)
trace_more initial w (x ∷ ls) l =
    ap (λ (t : List ℕ). trace_line initial w x ++ t) (trace_more initial (after initial w x) ls l)
    ∙ sym (append_assoc (trace_line initial w x) (trace_from initial (after initial w x) ls) _)

module _ {T : Type 0} (saw : T → List ℕ → Type 0) (ids initial : List Id) (nodes more : List ReplayNode) (messages sent : List Message) (tally later : T) (none text : List ℕ) (done : List Line) (line : Line) where
  pub one_more : none ≡ [] → Tallied saw ids initial nodes messages tally done → WritesLine ids initial nodes more messages sent none text line → Adds saw tally later text → Tallied saw ids initial more sent later (done ++ line ∷ [])
  one_more empty m writes adds =
      let w : World = replayed_from initial fresh_world done in
      let step = (subst (λ (x : List ℕ). WritesLine ids initial nodes more messages sent x text line) empty writes) w m.stands in
      record {
        stands = subst (λ (v : World). Stands ids more sent v) (sym (replayed_more initial fresh_world done line)) step.stands;
        tallies = subst (λ (t : List ℕ). saw later t)
            (ap (λ (t : List ℕ). trace_from initial fresh_world done ++ t) step.written ∙ sym (trace_more initial fresh_world done line))
            (adds (trace_from initial fresh_world done) (trace_ends initial fresh_world done) m.tallies);
      }

-- after all lines the tally is that of the whole trace
pub whole_tallied : {T : Type 0} (saw : T → List ℕ → Type 0) (ids initial : List Id) (nodes : List ReplayNode) (messages : List Message) (tally : T) (lines all : List Line) (i : ℕ) → lines ≡ all → length lines ≤ i
    → Tallied saw ids initial nodes messages tally (take i lines) → saw tally (trace_from initial fresh_world all)
whole_tallied saw ids initial nodes messages tally lines all i are past m = subst (λ (ls : List Line). saw tally (trace_from initial fresh_world ls)) (all_taken lines i past ∙ are) m.tallies

-- ---- whole nodes

cluster_more : (nodes initial voting_only : List Id) (second : Bool) (c : Cluster) (ls : List Line) (l : Line) → cluster_from nodes initial voting_only second c (ls ++ l ∷ []) ≡ cluster_after nodes initial voting_only second (cluster_from nodes initial voting_only second c ls) l
cluster_more nodes initial voting_only second c [] l = refl
cluster_more nodes initial voting_only second c (x ∷ ls) l = cluster_more nodes initial voting_only second (cluster_after nodes initial voting_only second c x) ls l

cluster_trace_more : (nodes initial voting_only : List Id) (second : Bool) (c : Cluster) (ls : List Line) (l : Line) → cluster_trace nodes initial voting_only second c (ls ++ l ∷ []) ≡ cluster_trace nodes initial voting_only second c ls ++ cluster_line nodes initial voting_only second (cluster_from nodes initial voting_only second c ls) l
cluster_trace_more nodes initial voting_only second c [] l = append-nil (cluster_line nodes initial voting_only second c l)
cluster_trace_more nodes initial voting_only second c (x ∷ ls) l =
    ap (λ (t : List ℕ). cluster_line nodes initial voting_only second c x ++ t) (cluster_trace_more nodes initial voting_only second (cluster_after nodes initial voting_only second c x) ls l)
    ∙ sym (append_assoc (cluster_line nodes initial voting_only second c x) (cluster_trace nodes initial voting_only second (cluster_after nodes initial voting_only second c x) ls) _)

module _ {T : Type 0} (saw : T → List ℕ → Type 0) (ids initial voting_only : List Id) (second : Bool) (nodes more : List ClusterNode) (frames sent : List Frame) (tally later : T) (none text : List ℕ) (done : List Line) (line : Line) where
  pub one_more_cluster : none ≡ [] → ClusterTallied saw ids initial voting_only second nodes frames tally done → WritesClusterLine ids initial voting_only second nodes more frames sent none text line → Adds saw tally later text → ClusterTallied saw ids initial voting_only second more sent later (done ++ line ∷ [])
  one_more_cluster empty m writes adds =
      let first : Cluster = fresh_cluster ids initial voting_only second in
      let c : Cluster = cluster_from ids initial voting_only second first done in
      let step = (subst (λ (x : List ℕ). WritesClusterLine ids initial voting_only second nodes more frames sent x text line) empty writes) c m.stands in
      record {
        stands = subst (λ (d : Cluster). ClusterFor ids initial voting_only second more sent d) (sym (cluster_more ids initial voting_only second first done line)) step.stands;
        tallies = subst (λ (t : List ℕ). saw later t)
            (ap (λ (t : List ℕ). cluster_trace ids initial voting_only second first done ++ t) step.written ∙ sym (cluster_trace_more ids initial voting_only second first done line))
            (adds (cluster_trace ids initial voting_only second first done) (cluster_trace_ends ids initial voting_only second first done) m.tallies);
      }

pub whole_cluster_tallied : {T : Type 0} (saw : T → List ℕ → Type 0) (ids initial voting_only : List Id) (second : Bool) (nodes : List ClusterNode) (frames : List Frame) (tally : T) (lines all : List Line) (i : ℕ) → lines ≡ all → length lines ≤ i
    → ClusterTallied saw ids initial voting_only second nodes frames tally (take i lines) → saw tally (cluster_trace ids initial voting_only second (fresh_cluster ids initial voting_only second) all)
whole_cluster_tallied saw ids initial voting_only second nodes frames tally lines all i are past m = subst (λ (ls : List Line). saw tally (cluster_trace ids initial voting_only second (fresh_cluster ids initial voting_only second) ls)) (all_taken lines i past ∙ are) m.tallies
