-- A no-op and a note fit into a record.
use Rattle.std.proofs.Common.{◌≡◌, ◌⊎◌, inl, inr, None, subst, sym, arith}
use Rattle.entry_bytes.specs.Sizes.{IsWithinEntry}
use Rattle.rs_optime.specs.declared.optime.OpTime.{OpTime}
use Rattle.oplog_entry.specs.declared.entry.Op.{Op}
use Rattle.oplog_entry.specs.declared.entry.Op.TheVariants.{Noop, Note}

pub idle_within_entry : (at : OpTime) (op : Op) → (op ≡ Noop) ⊎ (op ≡ Note) → IsWithinEntry (record { optime = at; op = op; session = None })
idle_within_entry at op idle = elim idle [
  | inl same ↦ subst Fits (sym same) (record { bytes = omega arith; levels = omega arith })
  | inr same ↦ subst Fits (sym same) (record { bytes = omega arith; levels = omega arith })
]
  where
    Fits : Op → Type 0
    Fits one = IsWithinEntry (record { optime = at; op = one; session = None })
