use Rattle.std.proofs.Common.{sym, subst, codes}
use Rattle.bson_doc.specs.Tree.{IsDocument}
use Rattle.doc_update.proofs.SoundLemmas.{IsDocument-sets}
use Rattle.doc_update.proofs.preparing.prepare_update.Goals as goal
use Rattle.doc_update.proofs.ApartLemmas.{IsDocument-under}

pub document-requires : goal.document-requires
document-requires c =
    subst IsDocument (sym c.in_ok-sets_of.ensures.2)
    (IsDocument-sets c.args.operators.now c.in_ok-document.document c.requires (IsDocument-under (codes "$set") c.args.operators.now c.recall_sound.ensures.1) (IsDocument-under (codes "$inc") c.args.operators.now c.recall_sound.ensures.1))
