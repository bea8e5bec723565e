-- Runs of a set are behaviours of MongoRaftReconfig, since they are runs of the machine.
use Rattle.std.proofs.Common.{◌≡◌, ◌∙◌, inl, inr, ap, sym, subst, refl, List, [], ◌∷◌}
use Rattle.set_model.specs.declared.command.Event.{Event}
use Rattle.set_model.specs.declared.role.Role as set
use Rattle.set_model.specs.declared.role.Role.TheVariants as roles
use Rattle.set_model.specs.Limits.{AllFit}
use Rattle.set_model.specs.Node.{Node}
use Rattle.set_model.specs.Run.{opening}
use Rattle.set_model.specs.World.{World, step}
use Rattle.commit_machine.specs.Machine.{run}
use Rattle.commit_machine.specs.Nodes.{Config, Snapshot, State, now}
use Rattle.commit_machine.proofs.Facts.{Invariant}
use Rattle.commit_machine.proofs.Keeps.{kept_opening, kept_run}
use Rattle.safety_laws.specs.Laws.{InEveryRun}
use Rattle.safety_laws.proofs.Delivers.{deliveries_tied}
use Rattle.safety_laws.proofs.Frame.{Goes, step_goes}
use Rattle.safety_laws.proofs.Opening.{begin, first_fine, opening_config, rel_opening}
use Rattle.safety_laws.proofs.Reconfigs.{voters_once}
use Rattle.safety_laws.proofs.Rel.{AreKept, Rel, role_of, snapshot_of}
use Rattle.safety_laws.proofs.Rows.{rows_tied}
use Rattle.published_laws.specs.Histories.{History}
use Rattle.published_laws.specs.Reconfig.{Role, Server, Variables}
use Rattle.published_laws.specs.ReconfigShown.{role_shown, shown, start}
use Rattle.published_laws.specs.SetShown.{AreServers, GoesOnWith, IsOnDisk, SetsAreReconfigs, first_voters, server_of, state_of}
use Rattle.published_laws.proofs.ReconfigRuns.{Leads, many, tied_first}
use Rattle.published_laws.proofs.ReconfigTied.{Tied}

role_is : (role : set.Role) → role_shown (role_of role) ≡ state_of role
role_is roles.Secondary = refl
role_is roles.Candidate = refl
role_is roles.Draining = refl
role_is roles.Primary = refl

server_is : (node : Node) → shown (snapshot_of node) ≡ server_of node
server_is node = ap (λ (r : Role). let s : Server = record (server_of node) { state = r } in s) (role_is node.role)

-- what a node's records come to, where that is what the machine has of it
on_disk : (node : Node) (a : Snapshot) → AreKept node.records node.first a → IsOnDisk node (shown a)
on_disk node a are = record {
  currentTerm = are.term;
  votedFor = are.vote;
  config = ap (λ (c : Config). c.voters) are.config;
  configVersion = ap (λ (c : Config). c.version) are.config;
  configTerm = ap (λ (c : Config). c.term) are.config;
  durable = are.point;
  log = are.entries;
}

module _ (world : World) (state : State) (history : History Variables) (rel : Rel world state) (tied : Tied history state) where
  are_servers : AreServers world history.now
  are_servers = record {
    up = λ number node there up. elim (rel.nodes number node there).1 [
      | inl is_up ↦ tied.shows.servers number ∙ ap shown (subst (λ n. now state n ≡ snapshot_of node) (rel.nodes number node there).0 is_up.snapshot) ∙ server_is node
      | inr down ↦ absurd (cc (up, down.up))
    ];
    down = λ number node there down. elim (rel.nodes number node there).1 [
      | inl is_up ↦ absurd (cc (down, is_up.up))
      | inr is_down ↦ subst (λ s. IsOnDisk node s) (sym (tied.shows.servers number))
          (on_disk node (now state number) (subst (λ n. AreKept node.records node.first (now state n)) (rel.nodes number node there).0 is_down.records))
    ];
  }

goes_on : (world : World) (state : State) (history : History Variables) (events : List Event) → Rel world state → Invariant state → Tied history state → AllFit world events → GoesOnWith world events history
goes_on world state history [] rel kept tied fit = tt
goes_on world state history (event ∷ events) rel kept tied fit =
    let goes : Goes world state (step world event).world = step_goes rows_tied deliveries_tied world event state kept rel fit.0 in
    let next : Leads history (run state goes.actions) = many history state goes.actions tied kept goes.allowed in (
      next.1,
      next.0,
      next.2,
      are_servers (step world event).world (run state goes.actions) next.0 goes.rel next.3,
      goes_on (step world event).world (run state goes.actions) next.0 events goes.rel (kept_run state goes.actions goes.allowed kept) next.3 fit.1,
    )

pub sets_are_reconfigs : InEveryRun SetsAreReconfigs
sets_are_reconfigs sizes events are is = (
  are_servers (opening sizes).world (begin sizes) (start (first_voters sizes)) (rel_opening sizes are) (tied_first (first_voters sizes)),
  goes_on (opening sizes).world (begin sizes) (start (first_voters sizes)) events (rel_opening sizes are)
      (kept_opening (first_voters sizes) (voters_once (opening_config sizes) (first_fine sizes are))) (tied_first (first_voters sizes)) is,
)
