-- The parts in which two nodes are the same.
use Rattle.std.specs.Prelude.{◌≡◌, true}
use Rattle.checker_tables.specs.Journal.{ComesTo}
use Rattle.repl_msg.specs.Kept.{kept}
use Rattle.set_model.specs.Node.{Node}
use Rattle.set_model.specs.Roles.{is_candidate}

-- how far they are
pub record SamePoints (one two : Node) : Type 0 where
  pub seen : one.seen ≡ two.seen
  pub durable : one.durable ≡ two.durable
  pub applied : one.applied ≡ two.applied
  pub commit : one.commit ≡ two.commit
  pub stable : one.stable ≡ two.stable
  pub rollback : one.rollback ≡ two.rollback
  pub clock : one.clock ≡ two.clock

-- what they do in the set; votes count at a candidate alone
pub record SameRole (one two : Node) : Type 0 where
  pub number : one.number ≡ two.number
  pub up : one.up ≡ two.up
  pub doubt : one.doubt ≡ two.doubt
  pub term : one.term ≡ two.term
  pub vote : one.vote ≡ two.vote
  pub role : one.role ≡ two.role
  pub tally : is_candidate one.role ≡ true → one.tally ≡ two.tally

-- what they have written and stored, and what they lost by a rollback
pub record SameTables (one two : Node) : Type 0 where
  pub log : one.log ≡ two.log
  pub slots : one.slots ≡ two.slots
  pub writers : one.writers ≡ two.writers
  pub records :
      ComesTo two.records (kept one.records).vote (kept one.records).config (kept one.records).entries
      (kept one.records).point
  pub lost : one.lost ≡ two.lost

-- what they know of other members
pub record SameHeard (one two : Node) : Type 0 where
  pub first : one.first ≡ two.first
  pub config : one.config ≡ two.config
  pub progress : one.progress ≡ two.progress
  pub known : one.known ≡ two.known
  pub dry_tally : one.dry_tally ≡ two.dry_tally
