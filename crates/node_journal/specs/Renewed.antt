-- Records in the newest form.
use Rattle.std.specs.Prelude.{Bool, ◌==◌, List, [], ◌∷◌, ◌++◌, if◌then◌else◌}
use Rattle.repl_msg.specs.Kept.{FIRST_FORM, NEWEST_FORM, kept}
use Rattle.repl_msg.specs.declared.record.Record.{Record}
use Rattle.repl_msg.specs.declared.record.Record.TheVariants as records

-- the records are of the first form
abbrev pub is_first : List Record → Bool
is_first items = (kept items).form == FIRST_FORM

-- the records in the newest form: a journal of the first form gets a record of the newest one at its end
abbrev pub renewed : List Record → List Record
renewed items = if is_first items then items ++ records.Form NEWEST_FORM ∷ [] else items
