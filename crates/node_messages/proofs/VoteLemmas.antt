-- What a voter's decision says about the reason against it, and what a count results in.
use Rattle.std.proofs.Common.{◌≡◌, ap, refl, ℕ, Option, None, Some, Ok, Err}
use Rattle.std.specs.Prelude.{Result, OnOk, OnErr}
use Rattle.election_core.specs.Counting.{Tallied, with_yes}
use Rattle.election_core.specs.Voting.{unless_refused}
use Rattle.repl_msg.specs.declared.message.VoteRefusal.{VoteRefusal}
use Rattle.vote_store.specs.declared.vote.Vote.{Vote}

pub granted_none : (why : Option VoteRefusal) (vote given : Vote) → Ok given ≡ unless_refused why vote → None ≡ why
granted_none None vote given is = refl
granted_none (Some why) vote given is = absurd (cc is)

pub refused_some : (why : Option VoteRefusal) (vote : Vote) (given : VoteRefusal) → Err given ≡ unless_refused why vote → Some given ≡ why
refused_some None vote given is = absurd (cc is)
refused_some (Some why) vote given is = cc is

-- the voters stay, whether there was memory or not
pub same_voters : {X E : Type 0} (result : Result X E) (was now : Tallied) (from : ℕ) → OnOk result (now ≡ with_yes was from) → OnErr result (now ≡ was) → now.voters ≡ was.voters
same_voters (Ok x) was now from ok err = ap (λ (t : Tallied). t.voters) ok
same_voters (Err e) was now from ok err = ap (λ (t : Tallied). t.voters) err
