use Rattle.std.proofs.Common.{◌≡◌, drop}
use Rattle.bson_codec.specs.Reading.{known_name_at}
use Rattle.bson_codec.proofs.parts.known_name_of.Given as goal

abbrev pub invariant-loop-wanted : goal.invariant-loop-wanted
invariant-loop-wanted l = known_name_at (drop l.wanted-index l.name) l.rest ≡ known_name_at l.name l.bytes
