-- What the words give a node.
use Rattle.std.proofs.Common.{◌≡◌, List, [], ◌∷◌, map, refl, sym, ap, ◌∙◌}
use Rattle.voting_config.specs.Ids.{Id}
use Rattle.zen_link.specs.declared.link.Peer.{Peer}
use Rattle.zen_link.specs.declared.link.LinkSettings.{LinkSettings}
use Rattle.zen_host.specs.HostCalls.{ToldPeer, ToldSettings, told_peer, told_settings}
use Rattle.master_tasks.specs.declared.policy.Policy.{Policy}
use Rattle.policy_model.specs.declared.settings.Settings.{Settings}
use Rattle.command_line.specs.declared.command.NodeWords.{NodeWords}
use Rattle.zen_app.specs.NodeRuns.{settings_by}

told_ids : (peers : List Peer) → map (λ (p : ToldPeer). p.id) (map told_peer peers) ≡ map (λ (p : Peer). p.id) peers
told_ids [] = refl
told_ids (p ∷ peers) = ap (λ (ids : List Id). p.id ∷ ids) (told_ids peers)

same : (me me2 : Id) (peers peers2 : List Id) (initial initial2 voting_only voting_only2 : List Id) (policy : Policy) → me ≡ me2 → peers ≡ peers2 → initial ≡ initial2 → voting_only ≡ voting_only2
    → (let s : Settings = record { me = me; peers = peers; initial = initial; voting_only = voting_only; policy = policy } in s) ≡ record { me = me2; peers = peers2; initial = initial2; voting_only = voting_only2; policy = policy }
same me me2 peers peers2 initial initial2 voting_only voting_only2 policy m p i o = rw m (rw p (rw i (rw o refl)))

pub settings_are : (w : NodeWords) (link : LinkSettings) (peers initial voting_only : List Id) → told_settings link ≡ w.link → peers ≡ map (λ (p : Peer). p.id) link.peers.items → initial ≡ w.initial → voting_only ≡ w.voting_only
    → (let s : Settings = record { me = link.me; peers = peers; initial = initial; voting_only = voting_only; policy = record { shrink = w.shrink; second = w.second } } in s) ≡ settings_by w
settings_are w link peers initial voting_only told ids same_initial same_voting_only =
    same _ _ _ _ _ _ _ _ _ (ap (λ (t : ToldSettings). t.me) told) (ids ∙ sym (told_ids link.peers.items) ∙ ap (λ (t : ToldSettings). map (λ (p : ToldPeer). p.id) t.peers) told) same_initial same_voting_only
