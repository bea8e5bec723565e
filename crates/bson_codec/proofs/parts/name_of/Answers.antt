use Rattle.std.proofs.Common.{sym, ◌∙◌}
use Rattle.bson_codec.proofs.TextLemmas.{clean_front, utf8-ok}
use Rattle.bson_codec.proofs.parts.name_of.Goals as goal

pub returns-in_ok-letters-in-Some-clause-clean : goal.returns-in_ok-letters-in-Some-clause-clean
returns-in_ok-letters-in-Some-clause-clean c =
    rw (utf8-ok _ _ c.in_ok-letters-in-Some.ensures).1 (clean_front c.args.bytes.now c.in-Some.end (sym c.first_zero.ensures ∙ c.in-Some.is))
