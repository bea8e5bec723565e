-- The state that some records add up to, with one more record.
use Rattle.std.proofs.Common.{◌≡◌, List, [], ◌∷◌, ◌++◌}
use Rattle.std.proofs.lemmas.List.Sums.{fold-append}
use Rattle.repl_msg.specs.Kept.{kept, nothing_kept, with_record}
use Rattle.repl_msg.specs.declared.record.Record.{Record}

pub kept_more : (items : List Record) (item : Record) → kept (items ++ item ∷ []) ≡ with_record (kept items) item
kept_more items item = fold-append with_record nothing_kept items (item ∷ [])
