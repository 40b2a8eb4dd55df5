-- For the contracts inside: what a node does once it has accepted a state.
use Rattle.std.specs.Prelude.{List, [], ◌∷◌, if◌then◌else◌}
use Rattle.voting_config.specs.Ids.{Id, same}
use Rattle.cluster_state.specs.declared.state.StateId.{StateId}
use Rattle.wire_frames.specs.declared.frame.WireMessage.TheVariants as message
use Rattle.policy_model.specs.declared.settings.Settings.{Settings}
use Rattle.policy_model.specs.Events.{Item}
use Rattle.policy_model.specs.Views.{View}
use Rattle.policy_model.specs.Doing.{send, becomes_follower}

-- the publisher is followed, unless it is the node itself
abbrev pub follows_other : Settings → View → Id → List Item
follows_other s v p = if same p s.me then [] else becomes_follower s v p

-- it is responded to, and followed
abbrev pub responds : Settings → View → Id → StateId → List Item
responds s v p id = send s p (message.Response id) ∷ follows_other s v p
