-- What ties a behaviour of RaftMongo to the machine, and that it still does after an action that changes one
-- server.
use Rattle.std.proofs.Common.{◌≡◌, ◌∙◌, ◌<◌, ◌⊎◌, inl, inr, ap, sym, subst, refl, cond, ℕ, List, None, Some}
use Rattle.std.proofs.lemmas.Bool.{cases_eq, eq-eqb, ne_eqb}
use Rattle.std.specs.Prelude.{◌==◌, if◌then◌else◌}
use Rattle.rs_optime.specs.Membership.{In}
use Rattle.oplog_entry.specs.Visible.{last_of}
use Rattle.commit_machine.specs.Machine.{Action, actor, actor_after, after, before, new_votes, IsAllowed}
use Rattle.commit_machine.specs.Nodes.{Snapshot, State, Vote, Was, now}
use Rattle.commit_machine.specs.Words.{AtMost}
use Rattle.commit_machine.proofs.Growth.{always_after, now_actor, now_other, now_was, vote_cases}
use Rattle.commit_machine.proofs.Views.{IsGiven, vote_given}
use Rattle.published_laws.specs.Histories.{Had, History, Turned, followed}
use Rattle.published_laws.specs.RaftMongo.{Becomes, Server, Variables, servers_of}
use Rattle.published_laws.specs.RaftMongoShown.{IsShown, KeepsVoters, shown}
use Rattle.published_laws.proofs.Histories as histories

-- the voter gave the vote in one step
pub record HasTurned (history : History Variables) (vote : Vote) : Type 0 where
  pub before : Snapshot
  pub voted : Snapshot
  pub turned : Turned servers_of history vote.voter (shown before) (shown voted)
  pub first : (before.term < vote.term) ⊎ ((before.term ≡ vote.term) × (before.vote ≡ None))
  pub last : AtMost (last_of before.log) vote.last
  pub term : voted.term ≡ vote.term
  pub chosen : voted.vote ≡ Some vote.candidate

-- the voters are these
pub record Tied (members : List ℕ) (history : History Variables) (state : State) : Type 0 where
  pub shows : IsShown history.now state
  pub voters : (v : ℕ) (y : Snapshot) → Was state v y → y.config.voters ≡ members
  pub had : (v : ℕ) (y : Snapshot) → Was state v y → Had servers_of history v (shown y)
  pub votes : (vote : Vote) → In vote state.votes → HasTurned history vote

abbrev pub nothing_of : Variables → Unit {0}
nothing_of variables = tt

abbrev pub Leads : History Variables → History Variables → ℕ → Server → Type 0
Leads old next n it = histories.Leads Variables Server (Unit {0}) servers_of nothing_of old next n it

-- ---- one server is put

abbrev pub put : Variables → ℕ → Server → Variables
put variables n it = record { servers = λ m. if m == n then it else variables.servers m }

put_here : (variables : Variables) (n : ℕ) (it : Server) → (put variables n it).servers n ≡ it
put_here variables n it = ap (λ b. cond b it (variables.servers n)) (eq-eqb n n refl)

put_other : (variables : Variables) (n : ℕ) (it : Server) (m : ℕ) → (m ≡ n → ⊥) → (put variables n it).servers m ≡ variables.servers m
put_other variables n it m other = ap (λ b. cond b it (variables.servers m)) (ne_eqb m n other)

pub becomes_put : (members : List ℕ) (history : History Variables) (n : ℕ) (it : Server) → Becomes members history (put history.now n it) n it
becomes_put members history n it = record { changed = put_here history.now n it; others = put_other history.now n it }

pub leads_put : (history : History Variables) (n : ℕ) (it other : Server) → it ≡ other → Leads history (followed history (put history.now n it)) n other
leads_put history n it other same =
    histories.one_step Variables Server (Unit {0}) servers_of nothing_of history (put history.now n it) n other (put_here history.now n it ∙ same) (put_other history.now n it) refl

-- ---- still tied

turned_later : (old next : History Variables) → ((v : ℕ) (x y : Server) → Turned servers_of old v x y → Turned servers_of next v x y) → (vote : Vote) → HasTurned old vote → HasTurned next vote
turned_later old next later vote turned = record {
  before = turned.before;
  voted = turned.voted;
  turned = later vote.voter (shown turned.before) (shown turned.voted) turned.turned;
  first = turned.first;
  last = turned.last;
  term = turned.term;
  chosen = turned.chosen;
}

module _ (members : List ℕ) (history next : History Variables) (state : State) (action : Action) (tied : Tied members history state) (leads : Leads history next (actor action) (shown (actor_after state action))) where
  servers_after : (m : ℕ) → next.now.servers m ≡ shown (now (after state action) m)
  servers_after m = elim (cases_eq (actor action) m) [
    | inl same ↦ subst (λ n. next.now.servers n ≡ shown (now (after state action) n)) same (leads.changed ∙ ap shown (sym (now_actor state action)))
    | inr other ↦ leads.others m (λ same. other (sym same)) ∙ tied.shows m ∙ ap shown (sym (now_other state action m other))
  ]

  had_after : (v : ℕ) (y : Snapshot) → Was (after state action) v y → Had servers_of next v (shown y)
  had_after v y (inl new) = subst (λ n. Had servers_of next n (shown y)) new.0 (inl (leads.changed ∙ ap shown new.1))
  had_after v y (inr was) = leads.had v (shown y) (tied.had v y was)

  pub tied_after : (actor_after state action).config.voters ≡ members → ((vote : Vote) → In vote (new_votes state action) → HasTurned next vote) → Tied members next (after state action)
  tied_after same votes = record {
    shows = servers_after;
    voters = always_after (λ v y. y.config.voters ≡ members) state action tied.voters same;
    had = had_after;
    votes = λ vote there. elim (vote_cases state action vote there) [
      | inl new ↦ votes vote new
      | inr old ↦ turned_later history next leads.turned vote (tied.votes vote old)
    ];
  }

-- the voters stay
pub voters_stay : (members : List ℕ) (history : History Variables) (state : State) (action : Action) → Tied members history state → IsAllowed state action → KeepsVoters members action → (actor_after state action).config.voters ≡ members
voters_stay members history state (Action.Install n source seen) tied allowed same = tied.voters source seen allowed.0
voters_stay members history state (Action.Reconfig n version voters) tied allowed same = same
voters_stay members history state action tied allowed same = tied.voters (actor action) (before state action) (now_was state (actor action))

-- a vote that is given is one step
pub gives : (members : List ℕ) (history : History Variables) (new : Variables) (state : State) (action : Action) → IsAllowed state action → Tied members history state
    → new.servers (actor action) ≡ shown (actor_after state action) → (vote : Vote) → In vote (new_votes state action) → HasTurned (followed history new) vote
gives members history new state action allowed tied is vote there =
    let given : IsGiven state action vote = vote_given state action allowed vote there in
    record {
      before = before state action;
      voted = actor_after state action;
      turned = inl (subst (λ n. (history.now.servers n ≡ shown (before state action)) × (new.servers n ≡ shown (actor_after state action))) given.voter (tied.shows (actor action), is));
      first = given.first;
      last = given.last;
      term = given.term;
      chosen = given.chosen;
    }
