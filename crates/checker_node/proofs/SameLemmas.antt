-- Two nodes that are the same in all their parts are alike, and two lost documents that are found to be the
-- same are equal.
use Rattle.std.specs.Prelude.{◌≡◌, true, Option, None, Some}
use Rattle.std.proofs.Common.{ap, refl}
use Rattle.std.proofs.lemmas.Bool.{false≢true}
use Rattle.std.specs.Option.{option_eq}
use Rattle.bson_doc.specs.Place.{Place}
use Rattle.bson_doc.specs.Same.{same_fields}
use Rattle.bson_doc.specs.SameLaws.{same_fields-decides}
use Rattle.bson_doc.specs.Tree.{Fields}
use Rattle.explore_laws.specs.Alike.{AlikeNodes}
use Rattle.set_model.specs.Node.{Node}
use Rattle.checker_node.specs.Same.{SameHeard, SamePoints, SameRole, SameTables}

pub alike :
    (one two : Node) → SamePoints one two → SameRole one two → SameTables one two → SameHeard one two → AlikeNodes one two
alike one two points role tables heard = record {
  others =
      let same : record one { records = two.records; tally = two.tally } ≡ record two { records = two.records } =
      cc (points.seen, points.durable, points.applied, points.commit, points.stable, points.rollback, points.clock, role.number, role.up, role.doubt, role.term, role.vote, role.role, tables.log, tables.slots, tables.writers, tables.lost, heard.first, heard.config, heard.progress, heard.known, heard.dry_tally) in
      same;
  records = record {
    vote = tables.records.vote_is;
    config = tables.records.config_is;
    entries = tables.records.entries_are;
    point = tables.records.point_is;
  };
  tally = role.tally;
}

pub options_same : (a b : Option Fields) → option_eq same_fields a b ≡ true → a ≡ b
options_same None None same = refl
options_same None (Some b) same = absurd (false≢true same)
options_same (Some a) None same = absurd (false≢true same)
options_same (Some a) (Some b) same = ap (λ (d : Fields). Some d) ((same_fields-decides a b).0 same)

pub pairs_same : (one two : Place × Option Fields) → one.0 ≡ two.0 → one.1 ≡ two.1 → one ≡ two
pairs_same (a, b) (c, d) first second = cc
