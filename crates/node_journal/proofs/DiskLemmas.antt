-- What other crates cite about a journal's disk at rest: what leaves its list of records as it is, and how
-- many records there are.
use Rattle.std.proofs.Common.{◌≡◌, ℕ, ◌+◌, ◌*◌, ◌^◌, ◌<◌, ◌≤◌, List, [], ◌∷◌, length, ap, ◌∙◌, arith, length-append}
use Rattle.std.specs.Prelude.{fold}
use Rattle.std.specs.Int.{to_le_bytes, w32}
use Rattle.rs_disk.specs.File.{File, contents}
use Rattle.rs_disk.specs.State.{State, SameButRoom}
use Rattle.record_file.specs.Records.{AreOpen, body}
use Rattle.repl_msg.specs.declared.record.Record.{Record}
use Rattle.repl_msg.specs.declared.record.Kept.{Kept}
use Rattle.repl_msg.specs.Kept.{kept, nothing_kept, with_record}
use Rattle.node_journal.specs.Files.{IsAtRest, HasOnly}
use Rattle.node_journal.proofs.JournalLemmas.{rest_leaves}
use Rattle.node_journal.proofs.LoopLemmas.{count_more, spelled_length}

-- every crash leaves its records
pub rest_only : (state : State) (records : List Record) → IsAtRest state records → HasOnly state records
rest_only state records rest = rest_leaves state records rest

-- what leaves the file leaves it at rest
pub rest_stays : (old new : State) (records : List Record) → new.file ≡ old.file → IsAtRest old records → IsAtRest new records
rest_stays old new records same rest = record {
  pieces = rest.pieces;
  spelled = rest.spelled;
  rests = record { front = rest.rests.front; open_records = rest.rests.open_records; file = same ∙ rest.rests.file };
}

pub rest_reserved : (old new : State) (records : List Record) → SameButRoom old new → IsAtRest old records → IsAtRest new records
rest_reserved old new records same rest = rest_stays old new records (ap (λ (s : State). s.file) same) rest

-- each record takes at least 5 bytes
each_takes_five : (pieces : List (List ℕ)) (bytes : List ℕ) → AreOpen pieces bytes → 5 * length pieces ≤ length bytes
each_takes_five [] bytes none = omega arith
each_takes_five (piece ∷ pieces) bytes (gate, rest, is_open, small, is, others) =
    omega (arith, ap length is, length-append (gate ∷ body piece) rest, length-append (to_le_bytes w32 (length piece)) piece, each_takes_five pieces rest others)

pub rest_count : (state : State) (records : List Record) → length (contents state.file) < 2 ^ 63 → IsAtRest state records → length records < 2 ^ 63
rest_count state records short rest =
    let size = ap (λ (f : File). length (contents f)) rest.rests.file in
    omega (arith, short, size, length-append rest.rests.front (0 ∷ []), each_takes_five rest.pieces rest.rests.front rest.rests.open_records, spelled_length records rest.pieces rest.spelled)

-- the count is that of the records
pub kept_count : (list : List Record) → (kept list).count ≡ length list
kept_count list = omega (arith, counted nothing_kept list)
  where
    counted : (so_far : Kept) (list : List Record) → (fold with_record so_far list).count ≡ so_far.count + length list
    counted so_far [] = omega arith
    counted so_far (item ∷ list) = omega (arith, counted (with_record so_far item) list, count_more so_far item)
