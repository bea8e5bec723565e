-- The writes of clients' sessions in a log (MongoDB manual, retryable writes).
use Rattle.std.specs.Prelude.{ℕ, ◌≡◌, ◌<◌, ◌==◌, Bool, true, false, ◌&&◌, nat_lt, List, fold, Option, None, Some, if◌then◌else◌}
use Rattle.std.specs.List.{AllPairs}
use Rattle.rs_optime.specs.declared.optime.OpTime.{OpTime}
use Rattle.oplog_entry.specs.declared.entry.Entry.{Entry}
use Rattle.oplog_entry.specs.declared.entry.Session.{Session}
pub use Rattle.set_model.specs.declared.session.LastWrite.{LastWrite}

-- ---- the last write of a session

-- the number is greater than that of the last write
abbrev pub is_past : Option LastWrite → ℕ → Bool
is_past None number = true
is_past (Some last) number = nat_lt last.number number

-- with one more entry, of a session or of none
abbrev pub later_write : (id : ℕ) → Option LastWrite → OpTime → Option Session → Option LastWrite
later_write id last at None = last
later_write id last at (Some session) =
    if session.id == id && is_past last session.number
    then Some (record { number = session.number; at = at }) else last

-- the greatest number of a session in a log, and where its entry is
abbrev pub last_write : (id : ℕ) → List Entry → Option LastWrite
last_write id log = fold (λ last entry. later_write id last entry.optime entry.session) None log

-- ---- each write once

-- where both are writes of one session, the later one has the greater number
abbrev pub GoesUp : Entry → Entry → Type 0
GoesUp one two =
    (a b : Session) → one.session ≡ Some a → two.session ≡ Some b → a.id ≡ b.id → a.number < b.number

abbrev pub NumbersRise : List Entry → Type 0
NumbersRise log = AllPairs GoesUp log

-- the entry is this write of a session
abbrev pub is_write_in : Session → Option Session → Bool
is_write_in session None = false
is_write_in session (Some own) = own.id == session.id && own.number == session.number

abbrev pub is_write : Session → Entry → Bool
is_write session entry = is_write_in session entry.session
