use Rattle.std.proofs.Common.{◌≡◌, ◌∙◌, ap, length, refl}
use Rattle.std.specs.FinMap as maps
use Rattle.doc_shelf.specs.Shelf.{Shelf}
use Rattle.oplog_entry.specs.Docs.{Documents}
use Rattle.checker_tables.proofs.FrontLemmas.{documents_whole}
use Rattle.checker_tables.proofs.doc_log.DocLog.latest.Goals as goal

pub returns : goal.returns
returns c =
    let long : c.len-count.result ≡ length c.args.self.now = cc (c.len-count.ensures.len, c.self.view_is) in (
      (refl, λ _. tt, c.local.follows.holds-at-none),
      record {
        document = c.get.ensures ∙ ap (λ (s : Shelf). maps.get s.documents c.args.place.now) c.in_ok-local.ensures.shelf
            ∙ ap (λ (d : Documents). maps.get d c.args.place.now) (documents_whole c.args.self.now c.len-count.result long);
        same = tt;
      },
    )
