-- A node that is alike a sound one is sound, and takes the same messages.
use Rattle.std.proofs.Common.{◌≡◌, ◌∙◌, ap, sym, subst, refl, ℕ, Bool, true, false, not, nat_lt, ◌&&◌, None, List, take, filter, if◌then◌else◌}
use Rattle.oplog_entry.specs.declared.entry.Entry.{Entry}
use Rattle.oplog_store.specs.Log.{IsOplog}
use Rattle.repl_msg.specs.Kept.{kept, with_entries}
use Rattle.repl_msg.specs.declared.message.Message.{Message}
use Rattle.repl_msg.specs.declared.record.Record.{Record}
use Rattle.rs_optime.specs.declared.optime.OpTime.{OpTime}
use Rattle.set_model.specs.Changes.{in_new_term}
use Rattle.set_model.specs.Deliver.{brings_term, termed}
use Rattle.set_model.specs.Node.{Node}
use Rattle.set_model.specs.Points.{has_entry}
use Rattle.set_model.specs.Roles.{is_candidate}
use Rattle.set_model.specs.Rollback.{rollback_reason}
use Rattle.set_model.specs.Taking.{CanTake}
use Rattle.safety_laws.specs.Sound.{IsSoundNode}
use Rattle.explore_laws.specs.Alike.{AlikeNodes}
use Rattle.checker_node.specs.Sound.{IsSound}

pub alike_back : (one two : Node) → AlikeNodes one two → AlikeNodes two one
alike_back one two alike = record {
  others = ap (λ (n : Node). record n { records = one.records; tally = one.tally }) (sym alike.others);
  records = record {
    vote = sym alike.records.vote;
    config = sym alike.records.config;
    entries = sym alike.records.entries;
    point = sym alike.records.point;
  };
  tally = λ is. sym (alike.tally (ap (λ (n : Node). is_candidate n.role) alike.others ∙ is));
}

-- with other records and votes
module _ (node : Node) (other : List Record) (votes : List ℕ) (entries_same : (kept node.records).entries ≡ (kept other).entries) where
  abbrev twin : Node
  twin = record node { records = other; tally = votes }

  abbrev next_of : List Entry → List Entry
  next_of entries = take 2000 (filter (λ entry. not (has_entry entries entry.optime)) node.log)

  twin_sound : IsSoundNode node → IsSoundNode twin
  twin_sound sound = record {
    doubt = sound.doubt;
    oplog = sound.oplog;
    terms = sound.terms;
    marked = sound.marked;
    kept_oplog = subst IsOplog entries_same sound.kept_oplog;
    flushes = subst (λ entries. IsOplog (with_entries entries (next_of entries))) entries_same sound.flushes;
    writers = sound.writers;
  }

  twin_whole : IsSound node → IsSound twin
  twin_whole sound = record {
    room = record {
      number = sound.room.number;
      term = sound.room.term;
      seen = sound.room.seen;
      rollback = sound.room.rollback;
      members = sound.room.members;
      first = sound.room.first;
    };
    logs = λ up. twin_sound (sound.logs up);
  }

  twin_reason : (message : Message) (after : OpTime) (optimes : List OpTime) (visible : OpTime)
      → rollback_reason (termed twin message) message.term after optimes visible ≡ rollback_reason (termed node message) message.term after optimes visible
  twin_reason message after optimes visible = by (brings_term message.body && nat_lt node.term message.term)
    where
      by : (b : Bool) → rollback_reason (if b then in_new_term twin message.term None else twin) message.term after optimes visible
          ≡ rollback_reason (if b then in_new_term node message.term None else node) message.term after optimes visible
      by true = refl
      by false = refl

  twin_takes : (message : Message) → CanTake node message → CanTake twin message
  twin_takes message can = record {
    sender = can.sender;
    term = can.term;
    asked = can.asked;
    config = can.config;
    fetched = λ reply is. record {
      order = (can.fetched reply is).order;
      base = (can.fetched reply is).base;
      entries = (can.fetched reply is).entries;
      terms = (can.fetched reply is).terms;
      documents = (can.fetched reply is).documents;
    };
    common = λ after optimes visible is none. can.common after optimes visible is (sym (twin_reason message after optimes visible) ∙ none);
  }

pub sound_alike : (one two : Node) → AlikeNodes one two → IsSound one → IsSound two
sound_alike one two alike sound = subst IsSound alike.others (twin_whole one two.records two.tally alike.records.entries sound)

pub takes_alike : (one two : Node) (message : Message) → AlikeNodes one two → CanTake one message → CanTake two message
takes_alike one two message alike can = subst (λ (n : Node). CanTake n message) alike.others (twin_takes one two.records two.tally alike.records.entries message can)
