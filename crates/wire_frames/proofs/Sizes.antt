-- How long the body of a frame is at most.
use Rattle.std.proofs.Common.{◌≡◌, ℕ, ◌+◌, ◌≤◌, List, ◌++◌, length, ap, arith, length-append}
use Rattle.voting_config.specs.Ids.{most_ids}
use Rattle.cluster_state.specs.Field.{eight_bytes, optional}
use Rattle.cluster_state.specs.Fields.{id, ids}
use Rattle.cluster_state.proofs.Sizes.{length-eight, ids_short, optional_short, state_short}
use Rattle.wire_frames.specs.declared.frame.Frame.{Frame}
use Rattle.wire_frames.specs.declared.frame.WireMessage.{WireMessage}
use Rattle.wire_frames.specs.declared.frame.WireMessage.TheVariants as message
use Rattle.wire_frames.specs.Messages.{state_id, payload, FitsMessage}
use Rattle.wire_frames.specs.Frames.{SpellsBody}

-- a number, and bytes after it
number_then : (n : ℕ) (rest : List ℕ) → length (eight_bytes n ++ rest) ≡ 8 + length rest
number_then n rest = omega (arith, length-append (eight_bytes n) rest, length-eight n)

payload_short : (m : WireMessage) → FitsMessage m → length (payload m) ≤ 4800000
payload_short (message.StartJoin c n) h = omega (arith, h.0.1, length-append (id.spelling c) (eight_bytes n), length-eight n)
payload_short (message.Join n last) h = omega (arith, number_then n (state_id.spelling last), number_then last.term (eight_bytes last.version), length-eight last.version)
payload_short (message.Publish s) h = state_short s h
payload_short (message.Response i) h = omega (arith, number_then i.term (eight_bytes i.version), length-eight i.version)
payload_short (message.Commit i) h = omega (arith, number_then i.term (eight_bytes i.version), length-eight i.version)
payload_short (message.JoinAsk n) h = omega (arith, length-eight n)
payload_short (message.PeersAsk ps) h = omega (arith, ids_short most_ids ps h)
payload_short (message.PeersAnswer o n ps) h = omega (arith, optional_short o h.0, ids_short most_ids ps h.1.1, number_then n ((ids most_ids).spelling ps), length-append ((optional id).spelling o) (eight_bytes n ++ (ids most_ids).spelling ps))
payload_short message.PreVoteAsk h = omega arith
payload_short (message.PreVoteAnswer n last) h = omega (arith, number_then n (state_id.spelling last), number_then last.term (eight_bytes last.version), length-eight last.version)
payload_short (message.PreVoteRefuse l) h = omega (arith, h.1)
payload_short (message.FollowerCheck n) h = omega (arith, length-eight n)
payload_short (message.FollowerAnswer g n i) h = omega (arith, number_then n (state_id.spelling i), number_then i.term (eight_bytes i.version), length-eight i.version)
payload_short (message.LeaderCheck n) h = omega (arith, length-eight n)
payload_short (message.LeaderAnswer g) h = omega arith

-- a body is far shorter than the limit
pub body_short : (frame : Frame) (body : List ℕ) → SpellsBody frame body → length body ≤ 4900000
body_short frame body s =
    omega (
      arith,
      ap length s.whole,
      s.from.1,
      s.to.1,
      length-append (id.spelling frame.from) (id.spelling frame.to ++ s.fields),
      length-append (id.spelling frame.to) s.fields,
      ap length s.spelled.1,
      payload_short frame.message s.spelled.0,
    )
