-- What is known of a node's journal and of its log after one more entry.
use Rattle.std.proofs.Common.{◌≡◌, ◌<◌, ◌≤◌, inl, ℕ, Ok, Err, Option, List, length, sym, subst, arith, filter}
use Rattle.std.specs.Prelude.{Result, OnOk, OnErr}
use Rattle.oplog_entry.specs.Visible.{is_before}
use Rattle.oplog_entry.specs.declared.entry.Entry.{Entry}
use Rattle.oplog_entry.specs.declared.entry.Op.{Op}
use Rattle.oplog_entry.specs.declared.entry.Session.{Session}
use Rattle.oplog_store.specs.Log.{IsOplog, with_entry}
use Rattle.oplog_store.proofs.Keeps.{with_entry_keeps}
use Rattle.repl_msg.specs.declared.record.Record.{Record}
use Rattle.rs_optime.proofs.MembershipLemmas.{length-passed}
use Rattle.set_model.specs.Changes.{logged}
use Rattle.set_model.specs.Node.{Node}
use Rattle.set_model.specs.Points.{next_optime}
use Rattle.set_model.proofs.SeenLemmas.{next_past}
use Rattle.checker_tables.specs.Journal.{AreJournaled}
use Rattle.checker_tables.proofs.JournalLemmas.{journaled_fewer, journaled_inserted}
use Rattle.checker_tables.proofs.LogLemmas.{placed}
use Rattle.checker_node.specs.Sound.{CanLog}

-- those that stand before it stay in the journal
journaled_with : (count fewer place : ℕ) (log : List Entry) (entry : Entry) (items : List Record) → fewer ≤ count → fewer ≤ place
    → place ≡ length (filter (λ (e : Entry). is_before e.optime entry.optime) log) → IsOplog (with_entry log entry)
    → AreJournaled count log items → AreJournaled fewer (with_entry log entry) items
journaled_with count fewer place log entry items less early place_is oplog are =
    let front : ℕ = length (filter (λ (e : Entry). is_before e.optime entry.optime) log) in
    let within : front ≤ length log = length-passed (λ (e : Entry). is_before e.optime entry.optime) log in
    subst (λ (l : List Entry). AreJournaled fewer l items) (placed log entry oplog.order)
    (journaled_inserted fewer front log entry items (omega (arith, early, place_is)) within (journaled_fewer count fewer log items less are))

-- also where memory ran out, and the log is as it was
pub journaled_put : {X E : Type 0} (result : Result X E) (count fewer place : ℕ) (log new : List Entry) (entry : Entry) (items : List Record) → fewer ≤ count → fewer ≤ place
    → place ≡ length (filter (λ (e : Entry). is_before e.optime entry.optime) log) → IsOplog (with_entry log entry)
    → OnOk result (new ≡ with_entry log entry) → OnErr result (new ≡ log) → AreJournaled count log items → AreJournaled fewer new items
journaled_put (Ok x) count fewer place log new entry items less early place_is oplog ok err are =
    subst (λ (l : List Entry). AreJournaled fewer l items) (sym ok) (journaled_with count fewer place log entry items less early place_is oplog are)
journaled_put (Err e) count fewer place log new entry items less early place_is oplog ok err are =
    subst (λ (l : List Entry). AreJournaled fewer l items) (sym err) (journaled_fewer count fewer log items less are)

-- ---- at the node's next optime

pub logged_oplog : (node : Node) (op : Op) (session : Option Session) → IsOplog node.log → CanLog node op session → IsOplog (logged node op session).log
logged_oplog node op session oplog can =
    let past : node.seen < (next_optime node).ts = next_past node in
    with_entry_keeps node.log (record { optime = next_optime node; op = op; session = session }) oplog
    (record { term = can.term; op = can.lawful; session = can.numbered; write = can.touches })
    (λ k d within. inl (record { earlier = omega (arith, can.marked k d within, past); term = can.terms k d within }))
