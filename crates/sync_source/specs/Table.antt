-- What was heard of members, by their numbers.
use Rattle.std.specs.Prelude.{ℕ, List, map}
use Rattle.std.specs.Ordering.{nat_cmp}
use Rattle.std.specs.FinMap as maps
use Rattle.repl_msg.specs.Sources as words
use Rattle.sync_source.specs.Known.{heard_by}
use Rattle.sync_source.specs.declared.source.Known.{Known}

-- what was heard, and for how many more members there is room
pub record Table : Type 0 where
  pub heard : maps.FinMap nat_cmp words.Heard
  pub spare : ℕ

abbrev pub heard_entry : ℕ × Known → ℕ × words.Heard
heard_entry entry = (entry.0, heard_by entry.1)

abbrev pub heard_in : List (ℕ × Known) → maps.FinMap nat_cmp words.Heard
heard_in entries = maps.from_entries (map heard_entry entries)
