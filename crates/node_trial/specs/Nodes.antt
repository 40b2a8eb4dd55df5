-- Part of the statement: the three nodes of a trial, and the words that run each.
use Rattle.std.specs.Prelude.{ℕ, ◌+◌, List, [], ◌∷◌, ◌++◌, codes, decimal}
use Rattle.node_trial.specs.declared.node.Trial.{Trial}
use Rattle.node_trial.specs.declared.node.TrialNode.{TrialNode}
use Rattle.node_trial.specs.declared.node.TrialNode.TheVariants as node
use Rattle.node_trial.specs.declared.node.Word.{Word}
use Rattle.node_trial.specs.declared.node.Word.TheVariants as word

-- what is tried: the program, the folder, the port of the first node, and after how many inputs a node ends
pub record ToldTrial : Type 0 where
  pub program : List ℕ
  pub dir : List ℕ
  pub port : ℕ
  pub turns : ℕ

abbrev pub told_trial : Trial → ToldTrial
told_trial t = record { program = t.program.now; dir = t.dir.now; port = t.port; turns = t.turns }

-- the nodes, in the order in which they are started
abbrev pub nodes : List TrialNode
nodes = node.A ∷ node.B ∷ node.C ∷ []

abbrev pub name_of : TrialNode → List ℕ
name_of node.A = codes "a"
name_of node.B = codes "b"
name_of node.C = codes "c"

abbrev pub others_of : TrialNode → TrialNode × TrialNode
others_of node.A = (node.B, node.C)
others_of node.B = (node.A, node.C)
others_of node.C = (node.A, node.B)

-- a node's port, where the first node has this one
abbrev pub port_of : ℕ → TrialNode → ℕ
port_of first node.A = first
port_of first node.B = first + 1
port_of first node.C = first + 2

-- where a node listens
abbrev pub address : ℕ → TrialNode → List ℕ
address first n = codes "127.0.0.1:" ++ decimal (port_of first n)

abbrev pub peer : ℕ → TrialNode → List ℕ
peer first n = name_of n ++ codes "=" ++ address first n

abbrev pub peers_of : ℕ → TrialNode → List ℕ
peers_of first n = peer first (others_of n).0 ++ codes "," ++ peer first (others_of n).1

abbrev pub folder_of : List ℕ → TrialNode → List ℕ
folder_of dir n = dir ++ codes "/" ++ name_of n

-- a word that runs a node
abbrev pub text_of_word : ToldTrial → TrialNode → Word → List ℕ
text_of_word t n (word.Fixed text) = text.now
text_of_word t n word.Id = name_of n
text_of_word t n word.Folder = folder_of t.dir n
text_of_word t n word.Address = address t.port n
text_of_word t n word.Peers = peers_of t.port n
text_of_word t n word.Turns = decimal t.turns

-- the words that run a node
abbrev pub words_of : ToldTrial → TrialNode → List (List ℕ)
words_of t n =
    codes "node" ∷ codes "--id" ∷ name_of n ∷ codes "--dir" ∷ folder_of t.dir n ∷ codes "--listen" ∷ address t.port n ∷ codes "--peers"
    ∷ peers_of t.port n
    ∷ codes "--initial" ∷ codes "a,b,c" ∷ codes "--turns" ∷ decimal t.turns ∷ []
