use Rattle.std.proofs.Common.{◌≡◌, ◌∙◌, ◌∷◌, [], ◌++◌, ap, sym}
use Rattle.oplog_entry.specs.Docs.{put_at}
use Rattle.doc_shelf.specs.Shelf.{Shelf}
use Rattle.doc_shelf.proofs.ShelfLemmas.{stands_again}
use Rattle.doc_shelf.proofs.shelf.Shelf.take_back.Goals as goal

pub returns : goal.returns
returns c shelf entry made =
    let items : c.args.self.now.before ≡ c.pop.new.self.items ++ c.in-Some.last ∷ [] = ap (λ (s : Shelf). s.before) (sym c.self.view_is) ∙ c.in-Some.ensures.items in
    stands_again c.args.self.now shelf entry c.pop.new.self.items c.in-Some.last c.in-Some-into_parts.place c.in-Some-into_parts.document _ made items (sym c.into_parts.ensures ∙ c.in-Some-into_parts.is)
    (c.in_ok-put_at.ensures.put ∙ ap (λ (s : Shelf). put_at s.documents c.in-Some-into_parts.place c.in-Some-into_parts.document) c.self.view_is)
