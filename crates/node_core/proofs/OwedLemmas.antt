-- What a sound node stores can be put on its disks, and it can come back with it.
use Rattle.std.proofs.Common.{◌≡◌, ap, sym, refl, ℕ, Option, None, Some, arith}
use Rattle.std.specs.Prelude.{◌≢◌, ◌<◌, IfSome}
use Rattle.oplog_entry.specs.Docs.{docs}
use Rattle.repl_msg.specs.declared.record.Record.{Record}
use Rattle.repl_msg.specs.declared.record.Record.TheVariants as records
use Rattle.node_journal.specs.Bounds.{CanBeKept}
use Rattle.node_journal.specs.Layout.{NOBODY}
use Rattle.set_model.specs.declared.store.Store.{Store}
use Rattle.set_model.specs.declared.store.Store.TheVariants as stores
use Rattle.set_model.specs.Node.{Node}
use Rattle.node_data.specs.Sound.{IsSound}
use Rattle.node_state.specs.Ready.{CanBeStored}
use Rattle.node_state.specs.WellKept.{StoresWell}
use Rattle.node_commands.proofs.VoterLemmas.{few_members}
use Rattle.node_core.specs.Putting.{CanBePut}
use Rattle.node_core.specs.OnDisks.{IsWellKeptWith}
use Rattle.node_core.proofs.SavableLemmas.{savable}

-- ---- what a journal takes

somebody : (candidate : Option ℕ) → IfSome candidate (λ c. c < 50) → candidate ≢ Some NOBODY
somebody None below is = cc
somebody (Some c) below is = too_many c below (ap (λ (o : Option ℕ). elim o as (λ _. ℕ) [ None ↦ 0 | Some x ↦ x ]) is)
  where
    too_many : (c : ℕ) → c < 50 → c ≡ NOBODY → ⊥
    too_many c below is = omega (arith, below, is)

bounds_of : (item : Record) → CanBeStored (stores.Record item) → CanBeKept item
bounds_of (records.Vote vote) can = somebody vote.candidate can
bounds_of (records.Config config) can = few_members config can
bounds_of (records.Entries list point) can = can
bounds_of (records.Cut at) can = tt
bounds_of (records.Form form) can = tt

-- ---- what each disk takes

pub can_be_put : (node : Node) (item : Store) → IsSound node → CanBeStored item → StoresWell node item → CanBePut node item
can_be_put node (stores.Record item) sound can well = record {
  bounds = bounds_of item can;
  same = λ i. record { at = node.stable; documents = docs (well.same i) };
}
can_be_put node (stores.Checkpoint at) sound can well = record {
  readable = well.readable;
  kept_so = λ i. docs (sym well.shown i);
  each = savable node at sound;
}

-- ---- what it can come back with

pub well_with : (node : Node) (item : Store) → StoresWell node item → IsWellKeptWith node item
well_with node (stores.Record item) well = (well.well, well.same)
well_with node (stores.Checkpoint at) well = (well.well, refl)
