use Rattle.std.proofs.Common.{◌∙◌}
use Rattle.serde_json.proofs.FreeTexts.{text_of_value}
use Rattle.client_lines.specs.Replies.{state_reply}
use Rattle.client_lines.proofs.Texts.{state_reply-no_float, state_reply-text}
use Rattle.client_lines.proofs.writing.write_state.Goals as goal

pub returns-in-Ok : goal.returns-in-Ok
returns-in-Ok c =
    let sent = c.in-Ok.ensures.events in
    text_of_value (state_reply c.args.id c.args.state.now) sent.0 c.in-Ok.text.items sent.1 sent.2 (state_reply-no_float c.args.id c.args.state.now)
    ∙ state_reply-text c.args.id c.args.state.now
