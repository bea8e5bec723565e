use Rattle.std.proofs.Common.{◌∙◌, ◌++◌, ap, sym, append-nil, List, ℕ}
use Rattle.bson_doc.specs.Place.{Place}
use Rattle.bson_doc.specs.Tree.{Fields}
use Rattle.version_store.specs.Past.{shown}
use Rattle.version_store.specs.Shards.{past_of}
use Rattle.version_store.specs.Shown.{shown_here}
use Rattle.version_store.proofs.ListedLemmas.{listed_in, turn_listed, turn_skipped, all_listed}
use Rattle.version_store.proofs.listing.add_listed.Goals as goal

pub loop-place-preserved-in-Continue-1 : goal.loop-place-preserved-in-Continue-1
loop-place-preserved-in-Continue-1 c q =
    turn_listed c.args.documents.now c.args.listing.now.at q c.loop-place.gathered.items c.push.new.self.items _ c.in-Some.place.now
    c.loop-place.place-iterator c.next.new.self c.in-Some.ensures.steps c.in_ok-push.ensures.items
    (ap (λ (ns : List ℕ). (ns, c.in-Some.place.now.1)) c.as_str-in-Some-read_at.ensures)
    (c.in-Some-read_at.ensures.shown ∙ ap (λ (ns : List ℕ). shown c.args.listing.now.at (past_of c.args.documents.now (ns, c.in-Some.place.now.1)).versions) c.as_str.ensures)
    ∙ c.loop-place.invariant q

pub loop-place-preserved : goal.loop-place-preserved
loop-place-preserved c q =
    turn_skipped c.args.documents.now c.args.listing.now.at q c.loop-place.gathered.items c.in-Some.place.now c.loop-place.place-iterator c.next.new.self c.in-Some.ensures.steps
    (c.in_default.ensures.shown ∙ ap (λ (ns : List ℕ). shown c.args.listing.now.at (past_of c.args.documents.now (ns, c.in-Some.place.now.1)).versions) c.as_str.ensures)
    ∙ c.loop-place.invariant q

pub returns : goal.returns
returns c q =
    let gives = c.into_iter-place-iterator.ensures.into_iter_gives in
    sym (append-nil (shown_here q c.loop-place.gathered.items))
    ∙ ap (λ (ks : List Place). shown_here q c.loop-place.gathered.items ++ listed_in c.args.documents.now c.args.listing.now.at q ks) (sym c.in-None.ensures.steps.0)
    ∙ c.loop-place.invariant q
    ∙ ap (λ (l : List (Place × Fields)). shown_here q c.args.gathered.now.items ++ l)
    (ap (λ (ks : List Place). listed_in c.args.documents.now c.args.listing.now.at q ks) gives.0 ∙ all_listed c.args.documents.now c.args.listing.now q c.requires gives.4)
