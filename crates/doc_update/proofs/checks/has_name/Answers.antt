use Rattle.std.proofs.Common.{◌≡◌, Option, None, Some, is_some, option_map, refl, sym, ap, ◌∙◌}
use Rattle.doc_update.proofs.NameRules.{found-names_of}
use Rattle.doc_update.proofs.checks.has_name.Goals as goal

is_some-option_map : {A B : Type 0} (f : A → B) (o : Option A) → is_some (option_map f o) ≡ is_some o
is_some-option_map f None = refl
is_some-option_map f (Some x) = refl

pub returns : goal.returns
returns c =
    c.is_some.ensures ∙ sym (is_some-option_map _ c.get.result) ∙ ap is_some c.get.ensures ∙ found-names_of c.args.wanted.now c.args.fields.now
