use Rattle.std.proofs.Common.{◌≡◌, ◌≤◌, ◌∙◌, ap, length, arith}
use Rattle.std.specs.Prelude.{insert}
use Rattle.doc_shelf.specs.Shelf.{stood_before}
use Rattle.doc_shelf.proofs.InsertLemmas.{put_in}
use Rattle.doc_shelf.proofs.shelf.Shelf.insert_applied.Goals as goal

pub returns : goal.returns
returns c =
    let old = c.args.self.now in
    let within : c.args.place ≤ length c.args.entries.now = omega (arith, c.requires.applied, c.requires.front.within) in
    let stood : c.in_ok-stood.stood ≡ stood_before old.documents c.args.entry.now = c.in_ok-stood.ensures in
    put_in c.args.entries.now old c.put_in.new.self c.args.place c.args.entry.now c.requires.front c.requires.applied within c.requires.apart
    c.in_ok-put_in.ensures.documents (c.in_ok-put_in.ensures.before ∙ ap (insert old.before c.args.place) stood)
