use Rattle.std.proofs.Common.{◌≡◌, ◌++◌, OnOk, subst, sym}
use Rattle.wire_frames.specs.declared.frame.WireMessage.{WireMessage}
use Rattle.event_text.specs.Frames.{message_text}
use Rattle.event_text.proofs.frames.write_message.Goals as goal

pub returns-in-PreVoteAnswer : goal.returns-in-PreVoteAnswer
returns-in-PreVoteAnswer c =
    let w = c.write_term_and_id-in-PreVoteAnswer in
    subst (λ (m : WireMessage). OnOk w.result (w.new.text ≡ c.args.text.now ++ message_text m)) (sym c.in-PreVoteAnswer.is) w.ensures

pub returns-in-PreVoteRefuse : goal.returns-in-PreVoteRefuse
returns-in-PreVoteRefuse c =
    let w = c.write_node-in-PreVoteRefuse in
    subst (λ (m : WireMessage). OnOk w.result (w.new.text ≡ c.args.text.now ++ message_text m)) (sym c.in-PreVoteRefuse.is) w.ensures

pub returns-in-LeaderCheck : goal.returns-in-LeaderCheck
returns-in-LeaderCheck c =
    let w = c.write_term-in-LeaderCheck in
    subst (λ (m : WireMessage). OnOk w.result (w.new.text ≡ c.args.text.now ++ message_text m)) (sym c.in-LeaderCheck.is) w.ensures
