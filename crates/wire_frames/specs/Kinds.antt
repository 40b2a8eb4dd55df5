-- Part of the statement: the kinds of messages, and the byte that stands for each.
use Rattle.std.specs.Prelude.{ℕ, ◌==◌, List, [], ◌∷◌, Option, find}
use Rattle.wire_frames.specs.declared.frame.Kind.{Kind}
use Rattle.wire_frames.specs.declared.frame.Kind.TheVariants as kind
use Rattle.wire_frames.specs.declared.frame.WireMessage.{WireMessage}
use Rattle.wire_frames.specs.declared.frame.WireMessage.TheVariants as message

-- the byte that stands for the kind
abbrev pub code : Kind → ℕ
code kind.StartJoin = 1
code kind.Join = 2
code kind.Publish = 17
code kind.Response = 4
code kind.Commit = 5
code kind.JoinAsk = 6
code kind.PeersAsk = 7
code kind.PeersAnswer = 8
code kind.PreVoteAsk = 9
code kind.PreVoteAnswer = 10
code kind.PreVoteRefuse = 11
code kind.FollowerCheck = 12
code kind.FollowerAnswer = 13
code kind.LeaderCheck = 14
code kind.LeaderAnswer = 15

abbrev pub kinds : List Kind
kinds = kind.StartJoin ∷ kind.Join ∷ kind.Publish ∷ kind.Response ∷ kind.Commit ∷ kind.JoinAsk ∷ kind.PeersAsk ∷ kind.PeersAnswer
    ∷ kind.PreVoteAsk ∷ kind.PreVoteAnswer ∷ kind.PreVoteRefuse ∷ kind.FollowerCheck ∷ kind.FollowerAnswer ∷ kind.LeaderCheck
    ∷ kind.LeaderAnswer ∷ []

-- the kind that the byte stands for
abbrev pub kind_of : ℕ → Option Kind
kind_of byte = find (λ k. code k == byte) kinds

-- what the message is about
abbrev pub kind_of_message : WireMessage → Kind
kind_of_message (message.StartJoin candidate term) = kind.StartJoin
kind_of_message (message.Join term last) = kind.Join
kind_of_message (message.Publish state) = kind.Publish
kind_of_message (message.Response id) = kind.Response
kind_of_message (message.Commit id) = kind.Commit
kind_of_message (message.JoinAsk term) = kind.JoinAsk
kind_of_message (message.PeersAsk known) = kind.PeersAsk
kind_of_message (message.PeersAnswer master term known) = kind.PeersAnswer
kind_of_message message.PreVoteAsk = kind.PreVoteAsk
kind_of_message (message.PreVoteAnswer term last) = kind.PreVoteAnswer
kind_of_message (message.PreVoteRefuse leader) = kind.PreVoteRefuse
kind_of_message (message.FollowerCheck term) = kind.FollowerCheck
kind_of_message (message.FollowerAnswer good term applied) = kind.FollowerAnswer
kind_of_message (message.LeaderCheck term) = kind.LeaderCheck
kind_of_message (message.LeaderAnswer good) = kind.LeaderAnswer
