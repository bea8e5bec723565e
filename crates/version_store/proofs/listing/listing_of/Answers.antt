use Rattle.std.proofs.Common.{◌∙◌, ◌++◌, ap, refl, List}
use Rattle.version_store.specs.Past.{shown}
use Rattle.version_store.specs.Shards.{past_of}
use Rattle.version_store.specs.Shown.{one_at, shown_here}
use Rattle.version_store.specs.declared.shown.Shown.{Shown}
use Rattle.version_store.proofs.ListedLemmas.{listed_all}
use Rattle.version_store.proofs.listing.listing_of.Goals as goal

pub returns : goal.returns
returns c =
    listed_all c.args.documents.now c.args.at c.deref.result.now (record { at = c.args.at; places = c.in_ok-places_of.field-0 })
    (λ place. ap (λ (ds : List Shown). shown_here place ds) c.deref.ensures.value ∙ c.in_ok-add_shown.ensures.shown place
    ∙ ap (λ (ds : List Shown). shown_here place ds ++ one_at place (shown c.args.at (past_of c.args.documents.now place).versions)) c.new-shown.ensures.items)
    refl c.in_ok-places_of.ensures
