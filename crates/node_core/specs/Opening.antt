-- How the two disks of a node are opened.
use Rattle.std.specs.Prelude.{◌≡◌, ◌⊎◌, ℕ, true, [], Result, Ok, Err, Some}
use Rattle.rs_disk.specs.State.{State}
use Rattle.record_file.specs.Files.{OpensBy}
use Rattle.record_file.specs.declared.error.FileError.{FileError}
use Rattle.member_config.specs.declared.config.Config.{Config}
use Rattle.repl_msg.specs.Kept.{NEWEST_FORM}
use Rattle.repl_msg.specs.declared.record.Record.TheVariants as records
use Rattle.set_model.specs.declared.store.Store.TheVariants as stores
use Rattle.set_model.specs.Node.{Node, opening_node}
use Rattle.node_journal.specs.Files.{OpensInForm}

-- The journal is opened first, and then the checkpoints. Both openings made their calls; or the first ended
-- in the error, and the other disk is as it was; or the first made its calls, and the second ended in the
-- error.
abbrev pub InTurn : {T : Type 0} → (Result (Unit {0}) FileError → State → State → Type 0)
    → Result T FileError → State → State → State → State → Type 0
InTurn Opens (Ok value) j j' c c' = Opens (Ok tt) j j' × OpensBy {T = Unit {0}} (Ok tt) c c'
InTurn Opens (Err error) j j' c c' =
    (Opens (Err error) j j' × (c' ≡ c))
    ⊎ (Opens (Ok tt) j j' × OpensBy {T = Unit {0}} (Err error) c c')

-- the disks that a node begins with: its journal gets its form
abbrev pub OpensInTurn : {T : Type 0} → Result T FileError → State → State → State → State → Type 0
OpensInTurn result j j' c c' = InTurn (λ ended old new. OpensInForm true ended old new) result j j' c c'

-- the same disks opened again, when a node comes back
abbrev pub ReopensInTurn : {T : Type 0} → Result T FileError → State → State → State → State → Type 0
ReopensInTurn result j j' c c' = InTurn (λ ended old new. OpensBy ended old new) result j j' c c'

-- a node at the opening of the set, before its own opening has ended: whether its journal has its form is in
-- doubt
abbrev pub unopened_node : Config → ℕ → Node
unopened_node first number =
    record (opening_node first number) {
      records = [];
      doubt = Some (stores.Record (records.Form NEWEST_FORM));
    }
