use Rattle.std.proofs.Common.{◌≡◌, ℕ, List, ◌∷◌, ◌++◌, ◌∙◌, length, ap, rules}
use Rattle.std.specs.List.{flat_map}
use Rattle.version_store.specs.Shown.{placed}
use Rattle.version_store.specs.declared.shown.Shown.{Shown}
use Rattle.checkpoint_store.specs.Layout.{saved_bytes}
use Rattle.bson_codec.specs.Numbers.{number_bytes}
use Rattle.checkpoint_store.proofs.LoopLemmas.{spelled_documents}
use Rattle.checkpoint_store.proofs.writing.documents_bytes.Goals as goal

pub returns : goal.returns
returns c =
    let front : c.put_u32.new.out.items ≡ 2 ∷ number_bytes 4 (length c.args.documents.now) = search rules in
    spelled_documents placed c.args.documents.now c.put_each.new.out.items c.requires.few c.in_ok-put_each.ensures.fits
    (c.in_ok-put_each.ensures.laid ∙ ap (λ (l : List ℕ). l ++ flat_map (λ (one : Shown). saved_bytes (placed one)) c.args.documents.now) front)
