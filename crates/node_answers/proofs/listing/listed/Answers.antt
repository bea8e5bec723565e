use Rattle.std.proofs.Common.{◌≡◌, subst, IfOk}
use Rattle.version_store.specs.Store.{shown_at}
use Rattle.node_answers.proofs.ListingLemmas.{found_at-listed}
use Rattle.node_answers.proofs.listing.listed.Goals as goal

pub returns : goal.returns
returns c = λ documents is.
    let found = rw c.deref.ensures.value at c.found.ensures in
    subst (λ xs. IfOk c.found.result (λ list. list ≡ xs))
    (found_at-listed (λ place. shown_at c.args.store.now place c.args.at) c.in_ok-keys_at.field-0.items documents c.in_ok-keys_at.ensures.order c.in_ok-keys_at.ensures.shown is)
    found
