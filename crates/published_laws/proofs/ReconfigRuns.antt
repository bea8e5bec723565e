-- Runs of the machine are behaviours of MongoRaftReconfig.
use Rattle.std.proofs.Common.{inl, ap, subst, refl, ℕ, zero, suc, List, [], ◌∷◌, Option, None, Some}
use Rattle.commit_machine.specs.Machine.{Action, AreAllowed, after, run}
use Rattle.commit_machine.specs.Nodes.{State, opening}
use Rattle.commit_machine.proofs.Facts.{Invariant}
use Rattle.commit_machine.proofs.Keeps.{keeps, kept_opening}
use Rattle.published_laws.specs.Histories.{History, Path, Steps, followed}
use Rattle.published_laws.specs.Reconfig.{Init, Next, Variables}
use Rattle.published_laws.specs.ReconfigNames.{Name}
use Rattle.published_laws.specs.ReconfigShown.{GoesOn, IsDoneBy, IsShown, RunsAreReconfigs, shown, start, theirs}
use Rattle.published_laws.proofs.ReconfigActions.{Done, done}
use Rattle.published_laws.proofs.ReconfigTied.{Tied}

goes_on : (history : History Variables) (state : State) (actions : List Action) → Tied history state → Invariant state → AreAllowed state actions → GoesOn state actions history
goes_on history state [] tied kept allowed = tt
goes_on history state (action ∷ actions) tied kept allowed =
    let next : Done history state action = done history state tied kept action allowed.0 in
    (next.0, next.1, next.2.shows, goes_on next.0 (after state action) actions next.2 (keeps state action allowed.0 kept) allowed.1)

first : (voters : List ℕ) → IsShown (Init voters) (opening voters)
first voters = record { servers = λ n. refl; committed = refl }

pub tied_first : (voters : List ℕ) → Tied (start voters) (opening voters)
tied_first voters = record {
  shows = first voters;
  had = λ v y was. inl (ap shown was);
  votes = λ vote there. absurd there;
}

pub runs_are_reconfigs : RunsAreReconfigs
runs_are_reconfigs voters actions once allowed =
    (first voters, goes_on (start voters) (opening voters) actions (tied_first voters) (kept_opening voters once) allowed)

-- ---- many actions

-- steps are a path
path_of : (name : Name) (names : List Name) (count : ℕ) (old next new : History Variables) → Steps (Next name) count old next → Path Next names next new
    → (all : List Name) × Path Next all old new
path_of name names zero old next new steps path = (names, subst (λ h. Path Next names h new) steps path)
path_of name names (suc count) old next new steps path =
    let more : (all : List Name) × Path Next all (followed old steps.0) new = path_of name names count (followed old steps.0) next new steps.2 path in
    (name ∷ more.0, (steps.0, steps.1, more.1))

path_by : (by : Option Name) (names : List Name) (old next new : History Variables) → IsDoneBy by old next → Path Next names next new → (all : List Name) × Path Next all old new
path_by None names old next new same path = (names, subst (λ h. Path Next names h new) same path)
path_by (Some name) names old next new done_by path = path_of name names done_by.0 old next new done_by.1 path

-- some steps lead to a history that is tied to the state
abbrev pub Leads : History Variables → State → Type 0
Leads history state = (next : History Variables) × (names : List Name) × Path Next names history next × Tied next state

pub many : (history : History Variables) (state : State) (actions : List Action) → Tied history state → Invariant state → AreAllowed state actions → Leads history (run state actions)
many history state [] tied kept allowed = (history, [], refl, tied)
many history state (action ∷ actions) tied kept allowed =
    let next : Done history state action = done history state tied kept action allowed.0 in
    let rest : Leads next.0 (run (after state action) actions) = many next.0 (after state action) actions next.2 (keeps state action allowed.0 kept) allowed.1 in
    let path : (all : List Name) × Path Next all history rest.0 = path_by (theirs action) rest.1 history next.0 rest.0 next.1 rest.2 in
    (rest.0, path.0, path.1, rest.3)

pub joined : (one two : List Name) (old next new : History Variables) → Path Next one old next → Path Next two next new → (all : List Name) × Path Next all old new
joined [] two old next new same path = (two, subst (λ h. Path Next two h new) same path)
joined (name ∷ one) two old next new first path =
    let more : (all : List Name) × Path Next all (followed old first.0) new = joined one two (followed old first.0) next new first.2 path in
    (name ∷ more.0, (first.0, first.1, more.1))
