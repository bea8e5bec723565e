use Rattle.std.proofs.Common.{◌≡◌, ◌∙◌, ◌++◌, ap, sym, subst, append-nil, rules}
use Rattle.std.specs.List.Sorted.{IsStrictlySortedBy}
use Rattle.std.specs.Map.{keys_of}
use Rattle.bson_doc.specs.Key.{key_cmp}
use Rattle.version_store.specs.Documents.{Documents}
use Rattle.version_store.specs.Shown.{shown_here}
use Rattle.version_store.proofs.ShownLemmas.{left_in, turn_shown, shown_in, once_keyed}
use Rattle.version_store.proofs.tree.Tree.add_shown.Goals as goal

pub loop-id-preserved-in-Continue-1 : goal.loop-id-preserved-in-Continue-1
loop-id-preserved-in-Continue-1 c place =
    turn_shown c.args.at place c.loop-id.gathered.items c.push.new.self.items
    (record { ns = c.args.ns; id = c.in-Some.id; document = c.in-Some-read_at.document }) c.in-Some.history.now
    c.loop-id.id-iterator c.next.new.self (search rules) c.in-Some-read_at.ensures.shown c.in-Some.ensures.steps
    ∙ c.loop-id.invariant place

pub returns : goal.returns
returns c place =
    let gives = c.into_iter-id-iterator.ensures.into_iter_gives in
    let whole : c.into_iter-id-iterator.result ≡ c.args.self.now = gives.0 ∙ c.self.view_is in
    sym (append-nil (shown_here place c.loop-id.gathered.items))
    ∙ ap (λ (es : Documents). shown_here place c.loop-id.gathered.items ++ left_in c.args.ns.now c.args.at es place) (sym c.in-None.ensures.steps.0)
    ∙ c.loop-id.invariant place
    ∙ ap (λ l. shown_here place c.args.gathered.now.items ++ l)
    (ap (λ (es : Documents). left_in c.args.ns.now c.args.at es place) whole
    ∙ shown_in c.args.ns.now c.args.at c.args.self.now place (once_keyed place.1 c.args.self.now (subst (λ (es : Documents). IsStrictlySortedBy key_cmp (keys_of es)) c.self.view_is gives.5)))
