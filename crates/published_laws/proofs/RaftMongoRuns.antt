-- Runs of the machine are behaviours of RaftMongo, where the voters stay.
use Rattle.std.proofs.Common.{inl, ap, subst, sym, refl, ℕ, zero, suc, List, [], ◌∷◌, Option, None, Some}
use Rattle.commit_machine.specs.Machine.{Action, AreAllowed, after, run}
use Rattle.commit_machine.specs.Nodes.{Snapshot, State, opening}
use Rattle.commit_machine.proofs.Facts.{Invariant}
use Rattle.commit_machine.proofs.Keeps.{keeps, kept_opening}
use Rattle.published_laws.specs.Histories.{History, Path, Steps, followed}
use Rattle.published_laws.specs.RaftMongo.{Init, Next, Variables}
use Rattle.published_laws.specs.RaftMongoNames.{Name}
use Rattle.published_laws.specs.RaftMongoShown.{AllKeepVoters, GoesOn, IsDoneBy, IsShown, RunsAreRaftMongos, shown, start, theirs}
use Rattle.published_laws.proofs.RaftMongoActions.{Done, done}
use Rattle.published_laws.proofs.RaftMongoTied.{Tied}

goes_on : (members : List ℕ) (history : History Variables) (state : State) (actions : List Action) → Tied members history state → Invariant state → AreAllowed state actions → AllKeepVoters members actions → GoesOn members state actions history
goes_on members history state [] tied kept allowed same = tt
goes_on members history state (action ∷ actions) tied kept allowed same =
    let next : Done members history state action = done members history state tied kept action allowed.0 same.0 in
    (next.0, next.1, next.2.shows, goes_on members next.0 (after state action) actions next.2 (keeps state action allowed.0 kept) allowed.1 same.1)

first : (voters : List ℕ) → IsShown Init (opening voters)
first voters n = refl

pub tied_first : (voters : List ℕ) → Tied voters start (opening voters)
tied_first voters = record {
  shows = first voters;
  voters = λ v y was. ap (λ (x : Snapshot). x.config.voters) (sym was);
  had = λ v y was. inl (ap shown was);
  votes = λ vote there. absurd there;
}

pub runs_are_raft_mongos : RunsAreRaftMongos
runs_are_raft_mongos voters actions once allowed same =
    (first voters, goes_on voters start (opening voters) actions (tied_first voters) (kept_opening voters once) allowed same)

-- ---- many actions

-- steps are a path
path_of : (members : List ℕ) (name : Name) (names : List Name) (count : ℕ) (old next new : History Variables) → Steps (Next members name) count old next → Path (Next members) names next new
    → (all : List Name) × Path (Next members) all old new
path_of members name names zero old next new steps path = (names, subst (λ h. Path (Next members) names h new) steps path)
path_of members name names (suc count) old next new steps path =
    let more : (all : List Name) × Path (Next members) all (followed old steps.0) new = path_of members name names count (followed old steps.0) next new steps.2 path in
    (name ∷ more.0, (steps.0, steps.1, more.1))

path_by : (members : List ℕ) (by : Option Name) (names : List Name) (old next new : History Variables) → IsDoneBy members by old next → Path (Next members) names next new → (all : List Name) × Path (Next members) all old new
path_by members None names old next new same path = (names, subst (λ h. Path (Next members) names h new) same path)
path_by members (Some name) names old next new done_by path = path_of members name names done_by.0 old next new done_by.1 path

-- some steps lead to a history that is tied to the state
abbrev pub Leads : List ℕ → History Variables → State → Type 0
Leads members history state = (next : History Variables) × (names : List Name) × Path (Next members) names history next × Tied members next state

pub many : (members : List ℕ) (history : History Variables) (state : State) (actions : List Action) → Tied members history state → Invariant state → AreAllowed state actions → AllKeepVoters members actions
    → Leads members history (run state actions)
many members history state [] tied kept allowed same = (history, [], refl, tied)
many members history state (action ∷ actions) tied kept allowed same =
    let next : Done members history state action = done members history state tied kept action allowed.0 same.0 in
    let rest : Leads members next.0 (run (after state action) actions) = many members next.0 (after state action) actions next.2 (keeps state action allowed.0 kept) allowed.1 same.1 in
    let path : (all : List Name) × Path (Next members) all history rest.0 = path_by members (theirs action) rest.1 history next.0 rest.0 next.1 rest.2 in
    (rest.0, path.0, path.1, rest.3)

pub joined : (members : List ℕ) (one two : List Name) (old next new : History Variables) → Path (Next members) one old next → Path (Next members) two next new → (all : List Name) × Path (Next members) all old new
joined members [] two old next new same path = (two, subst (λ h. Path (Next members) two h new) same path)
joined members (name ∷ one) two old next new first path =
    let more : (all : List Name) × Path (Next members) all (followed old first.0) new = joined members one two (followed old first.0) next new first.2 path in
    (name ∷ more.0, (first.0, first.1, more.1))
