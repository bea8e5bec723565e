-- The parts of what some bytes begin with.
use Rattle.std.proofs.Common.{◌≡◌, ℕ, ◌<◌, ◌^◌, List, ◌++◌, length, sym, subst, ◌∙◌, arith, append_assoc}
use Rattle.bson_codec.specs.Numbers.{number_bytes}
use Rattle.bson_codec.specs.Spelling.{IsSpelling, document_bytes}
use Rattle.checkpoint_store.specs.Layout.{Saved, saved_bytes, sized}
use Rattle.checkpoint_store.specs.Spelled.{IsSaved}

pub sized_parts : (piece after bytes : List ℕ) → bytes ≡ sized piece ++ after → bytes ≡ number_bytes 4 (length piece) ++ (piece ++ after)
sized_parts piece after bytes is = is ∙ append_assoc (number_bytes 4 (length piece)) piece after

pub saved_parts : (saved : Saved) (after bytes : List ℕ) → bytes ≡ saved_bytes saved ++ after
    → bytes ≡ sized saved.0.0 ++ (sized (document_bytes saved.1) ++ after)
saved_parts saved after bytes is = is ∙ append_assoc (sized saved.0.0) (sized (document_bytes saved.1)) after

pub name_short : (saved : Saved) → IsSaved saved → length saved.0.0 < 2 ^ 32
name_short saved is = omega (arith, is.short)

pub document_short : (saved : Saved) → IsSaved saved → length (document_bytes saved.1) < 2 ^ 32
document_short saved is = omega (arith, is.spelling.in_bytes)

pub spelled_here : (saved : Saved) (piece : List ℕ) → IsSaved saved → piece ≡ document_bytes saved.1 → IsSpelling 262144 100 saved.1 piece
spelled_here saved piece is same = subst (λ (l : List ℕ). IsSpelling 262144 100 saved.1 l) (sym same) is.spelling
