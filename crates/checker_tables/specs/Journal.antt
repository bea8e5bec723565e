-- What a node's records give.
use Rattle.std.specs.Prelude.{◌≡◌, ◌≤◌, ℕ, Bool, true, false, not, IfSome, List, All, filter, Option, None, Some, length, take}
use Rattle.rs_optime.specs.declared.optime.OpTime.{OpTime}
use Rattle.member_config.specs.declared.config.Config.{Config}
use Rattle.oplog_entry.specs.declared.entry.Entry.{Entry}
use Rattle.repl_msg.specs.declared.record.Record.{Record}
use Rattle.repl_msg.specs.declared.record.Record.TheVariants as records
use Rattle.repl_msg.specs.Kept.{kept}
use Rattle.repl_msg.specs.Logs.{has_entry}
use Rattle.oplog_store.specs.Log.{IsOplog}
use Rattle.set_model.specs.Stores.{records_after}
use Rattle.set_model.specs.declared.store.Store.{Store}
use Rattle.set_model.specs.declared.store.Store.TheVariants as stores
use Rattle.vote_store.specs.declared.vote.Vote.{Vote}

pub record ComesTo (records : List Record) (vote : Vote) (config : Option Config) (entries : List Entry)
    (point : OpTime) : Type 0 where
  pub vote_is : vote ≡ (kept records).vote
  pub config_is : config ≡ (kept records).config
  pub entries_are : entries ≡ (kept records).entries
  pub point_is : point ≡ (kept records).point

-- the first entries of a log, this many, are among others
pub record AreKept (count : ℕ) (log found : List Entry) : Type 0 where
  pub within : count ≤ length log
  pub there : All (λ entry. has_entry found entry.optime ≡ true) (take count log)

-- they are in the records
abbrev pub AreJournaled : ℕ → List Entry → List Record → Type 0
AreJournaled count log items = AreKept count log (kept items).entries

-- the entries of a log that aren't among others
abbrev pub unkept : List Entry → List Entry → List Entry
unkept log found = filter (λ entry. not (has_entry found entry.optime)) log

-- what is in doubt can come after the records
abbrev pub MayStand : List Record → Option Store → Type 0
MayStand records doubt = IfSome doubt (λ store. IsOplog (kept (records_after records store)).entries)

-- it is a record of entries
abbrev pub has_entries : Store → Bool
has_entries (stores.Record (records.Entries list point)) = true
has_entries (stores.Record (records.Vote vote)) = false
has_entries (stores.Record (records.Config config)) = false
has_entries (stores.Record (records.Cut at)) = false
has_entries (stores.Record (records.Form form)) = false
has_entries (stores.Checkpoint at) = false

-- the optime after which it cuts
abbrev pub cut_of : Store → Option OpTime
cut_of (stores.Record (records.Cut at)) = Some at
cut_of (stores.Record (records.Entries list point)) = None
cut_of (stores.Record (records.Vote vote)) = None
cut_of (stores.Record (records.Config config)) = None
cut_of (stores.Record (records.Form form)) = None
cut_of (stores.Checkpoint at) = None
