use Rattle.std.proofs.Common.{ℕ, List, ◌++◌, ◌∙◌, ap, refl}
use Rattle.bson_codec.specs.Numbers.{number_bytes}
use Rattle.entry_bytes.proofs.DirectLemmas.{numbers_laid}
use Rattle.entry_bytes.proofs.direct_reading.numbers_in.Goals as goal

pub returns-clause-spelled : goal.returns-clause-spelled
returns-clause-spelled c =
    numbers_laid c.in_ok-id.id c.in_ok-number.number c.args.bytes.now _ _ _ c.in_ok-after_lsid.ensures c.in_ok-id.ensures c.in_ok-after_number.ensures (c.in_ok-number.ensures ∙ ap (λ (l : List ℕ). number_bytes 8 c.in_ok-number.number ++ l) (c.if-not-is_end.ensures.0 refl))
