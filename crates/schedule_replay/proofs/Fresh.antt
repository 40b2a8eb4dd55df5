-- Nodes that have opened their journals on empty disks.
use Rattle.std.proofs.Common.{◌≡◌, ℕ, suc, ◌+◌, ◌<◌, List, [], ◌∷◌, length, ◌++◌, refl, sym, ◌∙◌, ap, get_or, take}
use Rattle.std.proofs.lemmas.List.{take_more}
use Rattle.voting_config.specs.Ids.{Id}
use Rattle.replay_node.specs.NodeWorld.{fresh_node}
use Rattle.replay_node.specs.Stands.{NodeStands}
use Rattle.replay_node.specs.declared.node.ReplayNode.{ReplayNode}
use Rattle.replay_node.specs.Worlds.{World, fresh_world, node_world}
use Rattle.schedule_replay.specs.WorldStands.{AllStand}

-- there are as many nodes as ids
pub as_many : (ids : List Id) (cs : List ReplayNode) (w : World) → AllStand ids cs w → length cs ≡ length ids
as_many [] [] w s = refl
as_many [] (c ∷ cs) w s = absurd s
as_many (i ∷ is) [] w s = absurd s
as_many (i ∷ is) (c ∷ cs) w s = ap (λ (n : ℕ). suc n) (as_many is cs w s.2)

stand_more : (ids : List Id) (cs : List ReplayNode) (i : Id) (c : ReplayNode) (w : World) → AllStand ids cs w → c.me ≡ i → NodeStands c (node_world w i) → AllStand (ids ++ i ∷ []) (cs ++ c ∷ []) w
stand_more [] [] i c w s m n = (m, n, tt)
stand_more [] (d ∷ ds) i c w s m n = absurd s
stand_more (j ∷ js) [] i c w s m n = absurd s
stand_more (j ∷ js) (d ∷ ds) i c w s m n = (s.0, s.1, stand_more js ds i c w s.2 m n)

pub fresh_more : (ids : List Id) (place : ℕ) (i : Id) (cs more : List ReplayNode) (c : ReplayNode) → place < length ids → i ≡ get_or ids place i → AllStand (take place ids) cs fresh_world → more ≡ cs ++ c ∷ [] → c.me ≡ i → NodeStands c fresh_node → AllStand (take (place + 1) ids) more fresh_world
fresh_more ids place i cs more c within at s m me stands =
    let longer : take (place + 1) ids ≡ take place ids ++ i ∷ [] = take_more ids place i within ∙ ap (λ (x : Id). take place ids ++ x ∷ []) (sym at) in
    rw (longer, m) (stand_more (take place ids) cs i c fresh_world s me stands)
