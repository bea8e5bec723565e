-- A log whose entries touch no document.
use Rattle.std.specs.Prelude.{◌+◌, ℕ, zero, suc, List, [], ◌∷◌, ◌++◌, None}
use Rattle.oplog_entry.specs.declared.entry.Entry.{Entry}
use Rattle.oplog_entry.specs.declared.entry.Op.TheVariants.{Noop}

abbrev pub noop : ℕ → Entry
noop ts = record { optime = record { term = 1; ts = ts }; op = Noop; session = None }

-- this many, one second apart
abbrev pub noops : ℕ → List Entry
noops zero = []
noops (suc count) = noops count ++ noop (count + 1) ∷ []
