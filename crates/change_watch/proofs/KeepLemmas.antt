-- A sink that nothing was put into.
use Rattle.std.proofs.Common.{◌∙◌, ℕ, List, [], Option, None, Some, refl, sym}
use Rattle.std.specs.Io.KnownBytes.{Appends, Keeps}
use Rattle.std.proofs.lemmas.List.{append-nil}

pub Appends-nothing : (old new : Option (List ℕ)) → Keeps old new → Appends old new []
Appends-nothing None new kept = tt
Appends-nothing (Some a) None kept = absurd kept
Appends-nothing (Some a) (Some b) kept = kept ∙ sym (append-nil a)

pub Keeps-same : (held : Option (List ℕ)) → Keeps held held
Keeps-same None = tt
Keeps-same (Some a) = refl
