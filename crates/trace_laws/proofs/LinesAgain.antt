-- Commands, events and headers as they are written are read.
use Rattle.std.proofs.Common.{◌≡◌, ℕ, ◌^◌, ◌<◌, ◌≤◌, Bool, true, false, ◌==◌, ◌&&◌, List, [], ◌∷◌, ◌++◌, cond, Option, None, Some, Ok, refl, ap, ◌∙◌, arith, append_assoc}
use Rattle.std.specs.Prelude.{IfSome, codes, nat_lt, nat_le}
use Rattle.std.specs.Fmt.{decimal}
use Rattle.std.specs.List.{list_all}
use Rattle.std.specs.Char.{is_ascii_digit}
use Rattle.std.specs.Str.{bytes_eq, is_utf8}
use Rattle.std.proofs.lemmas.List.Folds.{list_all-append}
use Rattle.std.proofs.lemmas.Str.{IsUtf8-from_ascii, is_utf8-from_IsUtf8}
use Rattle.doc_update.specs.declared.write.WriteOp.TheVariants as ops
use Rattle.run_checker.specs.Checking.{set_of}
use Rattle.run_checker.specs.Commands.{command_text}
use Rattle.run_checker.specs.Reading.{event_at, failed_at, failed_of, header_at, header_in, header_of}
use Rattle.run_checker.specs.Trace.{event_words, failed_word, header_text, kept_word}
use Rattle.script_words.specs.declared.rule.ScriptRule.TheVariants.{BadNumber, BadWord}
use Rattle.script_words.specs.Words.{number_at, number_of, word_at}
use Rattle.script_words.specs.Set.{most_voters}
use Rattle.script_words.specs.Values.{text_at}
use Rattle.script_words.specs.Commands.{command_at, verb_at}
use Rattle.script_words.proofs.Gets.{both}
use Rattle.script_laws.proofs.ChanceLines.{each_true, is_inside, is_text, plain_at}
use Rattle.script_laws.proofs.ChanceWords.{last_word, word_is, word_is_text}
use Rattle.set_model.specs.declared.command.Command.{Command}
use Rattle.set_model.specs.declared.command.Command.TheVariants.{Campaign, Drain, Insert, Replace, Update, Delete, Retry, Note, Begin, Commit, Abort, Ack, Read, Dump, Log, State, Rolled, DryRun, StepDown, Heartbeat, Report, Common, Fetch, Deliver, DeliverLatest, Apply, Flush, Checkpoint, Reconfig, Crash, Restart, DiskFail, Clock}
use Rattle.set_model.specs.declared.command.Event.{Event}
use Rattle.set_model.specs.Run.{AreSizes}
use Rattle.set_model.specs.Limits.{collection_of, is_collection, is_for, is_within, is_within_concern, is_within_target, nodes_of}
use Rattle.trace_laws.specs.Said.{CanBeSaid, IsEventLine}
use Rattle.trace_laws.proofs.InLine.{line_is, text_in}
use Rattle.trace_laws.proofs.WordsAgain.{Again, is_printed, number_again, number_word}
use Rattle.trace_laws.proofs.CommandsAgain.{abort_again, apply_again, campaign_again, checkpoint_again, clock_again, commit_again, common_again, crash_again, deliver_again, deliver_latest_again, drain_again, dry_run_again, dump_again, fetch_again, flush_again, heartbeat_again, log_again, note_again, report_again, restart_again, rolled_again, state_again, step_down_again}
use Rattle.trace_laws.proofs.DocumentsAgain.{ack_again, begin_again, disk_fail_again, read_again, reconfig_again, retry_again, written_again}

-- ---- commands

-- the bounds of a command, and of the nodes that it names
pub bounds : (nodes : ℕ) (command : Command) → is_for nodes command ≡ true → (list_all (λ node. nat_lt node nodes) (nodes_of command) ≡ true) × (is_within command ≡ true)
bounds nodes command is = each_true (list_all (λ node. nat_lt node nodes) (nodes_of command)) (is_within command) is

pub one_of : (nodes node : ℕ) → list_all (λ n. nat_lt n nodes) (node ∷ []) ≡ true → node < nodes
one_of nodes node all = let first = (each_true (nat_lt node nodes) true all).0 in grind arith

pub two_of : (nodes node other : ℕ) → list_all (λ n. nat_lt n nodes) (node ∷ other ∷ []) ≡ true → (node < nodes) × (other < nodes)
two_of nodes node other all =
    let first = each_true (nat_lt node nodes) (list_all (λ n. nat_lt n nodes) (other ∷ [])) all in
    let low = first.0 in
    (grind arith, one_of nodes other first.1)

pub below : (n most : ℕ) → nat_lt n most ≡ true → n < most
below n most is = grind arith

pub from_one : (n : ℕ) → nat_le 1 n ≡ true → 1 ≤ n
from_one n is = grind arith

pub ranged : (least most n : ℕ) → (nat_le least n && nat_le n most) ≡ true → (least ≤ n) × (n ≤ most)
ranged least most n is =
    let parts = each_true (nat_le least n) (nat_le n most) is in
    let low = parts.0 in
    let high = parts.1 in
    (grind arith, grind arith)

pub all_again : (nodes : ℕ) (command : Command) → nodes ≤ 50 → CanBeSaid nodes command → command_at nodes (command_text command) ≡ Ok command
all_again nodes (Campaign node) few can = campaign_again nodes node (one_of nodes node (bounds nodes (Campaign node) can.within).0) few
all_again nodes (Drain node) few can = drain_again nodes node (one_of nodes node (bounds nodes (Drain node) can.within).0) few
all_again nodes (Insert node collection doc) few can = let b = bounds nodes (Insert node collection doc) can.within in written_again nodes node (ops.Insert collection doc) (one_of nodes node b.0) few b.1 can.sayable
all_again nodes (Replace node collection id doc) few can = let b = bounds nodes (Replace node collection id doc) can.within in written_again nodes node (ops.Replace collection id doc) (one_of nodes node b.0) few b.1 can.sayable
all_again nodes (Update node collection id operators) few can = let b = bounds nodes (Update node collection id operators) can.within in written_again nodes node (ops.Update collection id operators) (one_of nodes node b.0) few b.1 can.sayable
all_again nodes (Delete node collection id) few can = let b = bounds nodes (Delete node collection id) can.within in written_again nodes node (ops.Delete collection id) (one_of nodes node b.0) few b.1 can.sayable
all_again nodes (Retry node session op) few can =
    let b = bounds nodes (Retry node session op) can.within in
    let two = each_true (nat_lt session.id 4294967296 && (nat_le 1 session.number && nat_lt session.number 2147483648)) (is_collection (collection_of op)) b.1 in
    let three = each_true (nat_lt session.id 4294967296) (nat_le 1 session.number && nat_lt session.number 2147483648) two.0 in
    let four = each_true (nat_le 1 session.number) (nat_lt session.number 2147483648) three.1 in
    retry_again nodes node session op (one_of nodes node b.0) few (below session.id 4294967296 three.0) (from_one session.number four.0) (below session.number 2147483648 four.1) two.1 can.sayable
all_again nodes (Note node) few can = note_again nodes node (one_of nodes node (bounds nodes (Note node) can.within).0) few
all_again nodes (Begin node writer op) few can =
    let b = bounds nodes (Begin node writer op) can.within in
    let two = each_true (nat_lt writer 1000) (is_collection (collection_of op)) b.1 in
    begin_again nodes node writer op (one_of nodes node b.0) few (below writer 1000 two.0) two.1 can.sayable
all_again nodes (Commit node writer) few can = let b = bounds nodes (Commit node writer) can.within in commit_again nodes node (one_of nodes node b.0) few writer (below writer 1000 b.1)
all_again nodes (Abort node writer) few can = let b = bounds nodes (Abort node writer) can.within in abort_again nodes node (one_of nodes node b.0) few writer (below writer 1000 b.1)
all_again nodes (Ack node target concern) few can =
    let b = bounds nodes (Ack node target concern) can.within in
    let two = each_true (is_within_target target) (is_within_concern concern) b.1 in
    ack_again nodes node target concern (one_of nodes node b.0) few two.0 can.sayable two.1
all_again nodes (Read node level collection id) few can = let b = bounds nodes (Read node level collection id) can.within in read_again nodes node level collection id (one_of nodes node b.0) few b.1 can.sayable
all_again nodes (Dump node level) few can = dump_again nodes node (one_of nodes node (bounds nodes (Dump node level) can.within).0) few level
all_again nodes (Log node) few can = log_again nodes node (one_of nodes node (bounds nodes (Log node) can.within).0) few
all_again nodes (State node) few can = state_again nodes node (one_of nodes node (bounds nodes (State node) can.within).0) few
all_again nodes (Rolled node) few can = rolled_again nodes node (one_of nodes node (bounds nodes (Rolled node) can.within).0) few
all_again nodes (DryRun node) few can = dry_run_again nodes node (one_of nodes node (bounds nodes (DryRun node) can.within).0) few
all_again nodes (StepDown node) few can = step_down_again nodes node (one_of nodes node (bounds nodes (StepDown node) can.within).0) few
all_again nodes (Heartbeat node to) few can = let b = two_of nodes node to (bounds nodes (Heartbeat node to) can.within).0 in heartbeat_again nodes node b.0 few to b.1 can.sayable
all_again nodes (Report node to) few can = let b = two_of nodes node to (bounds nodes (Report node to) can.within).0 in report_again nodes node b.0 few to b.1 can.sayable
all_again nodes (Common node to) few can = let b = two_of nodes node to (bounds nodes (Common node to) can.within).0 in common_again nodes node b.0 few to b.1 can.sayable
all_again nodes (Fetch node) few can = fetch_again nodes node (one_of nodes node (bounds nodes (Fetch node) can.within).0) few
all_again nodes (Deliver message) few can = deliver_again nodes message can.sayable
all_again nodes (DeliverLatest from to) few can = let b = two_of nodes from to (bounds nodes (DeliverLatest from to) can.within).0 in deliver_latest_again nodes from to b.0 b.1 few can.sayable
all_again nodes (Apply node workers) few can =
    let b = bounds nodes (Apply node workers) can.within in
    let range = ranged 1 16 workers b.1 in
    apply_again nodes node (one_of nodes node b.0) few workers range.0 range.1
all_again nodes (Flush node) few can = flush_again nodes node (one_of nodes node (bounds nodes (Flush node) can.within).0) few
all_again nodes (Checkpoint node) few can = checkpoint_again nodes node (one_of nodes node (bounds nodes (Checkpoint node) can.within).0) few
all_again nodes (Reconfig node config) few can = let b = bounds nodes (Reconfig node config) can.within in reconfig_again nodes node config (one_of nodes node b.0) few b.1 can.sayable
all_again nodes (Crash node pick) few can = crash_again nodes node (one_of nodes node (bounds nodes (Crash node pick) can.within).0) few pick can.sayable
all_again nodes (Restart node) few can = restart_again nodes node (one_of nodes node (bounds nodes (Restart node) can.within).0) few
all_again nodes (DiskFail node disk call pick) few can =
    let b = bounds nodes (DiskFail node disk call pick) can.within in
    let range = ranged 1 1000 call b.1 in
    disk_fail_again nodes node disk call pick (one_of nodes node b.0) few range.0 range.1 can.sayable
all_again nodes (Clock node seconds) few can = let b = bounds nodes (Clock node seconds) can.within in clock_again nodes node (one_of nodes node b.0) few seconds (below seconds 2147483648 b.1)

-- ---- events

dash_differs : (digits : List ℕ) → list_all is_ascii_digit digits ≡ true → bytes_eq digits (codes "-") ≡ false
dash_differs [] all = refl
dash_differs (c ∷ digits) all =
    let digit = (each_true (is_ascii_digit c) (list_all is_ascii_digit digits) all).0 in
    let other : (c == 45) ≡ false = grind arith in
    rw other refl

failed_named : (word : List ℕ) (failed : Option ℕ) → list_all is_inside word ≡ true → failed_of word ≡ Ok failed → Again failed_at word failed
unfolding failed_at
failed_named word failed inside named = record { inside = inside; before = λ rest. rw (word_is word rest inside, named) refl; last = rw (last_word word inside, named) refl }

store_named : (store : ℕ) → store < 2 ^ 32 → failed_of (decimal store) ≡ Ok (Some store)
store_named store few =
    let printed = is_printed store (omega (arith, few)) in
    rw (dash_differs (decimal store) printed.digits, number_again BadWord BadNumber 0 4294967295 store (omega (arith, few)) (omega arith) (omega (arith, few))) refl

pub failed_again : (failed : Option ℕ) → IfSome failed (λ store. store < 2 ^ 32) → Again failed_at (failed_word failed) failed
failed_again None few = failed_named (codes "-") None refl refl
failed_again (Some store) few = failed_named (decimal store) (Some store) (is_printed store (omega (arith, few))).inside (store_named store few)

-- 1 where it was kept
abbrev one_if : Bool → ℕ
one_if true = 1
one_if false = 0

kept_named : (word rest : List ℕ) (n : ℕ) → list_all is_inside word ≡ true → number_of BadWord BadNumber 0 1 word ≡ Ok n → number_at 0 1 (Some (word ++ 32 ∷ rest)) ≡ Ok (n, Some rest)
unfolding number_at
kept_named word rest n inside named = rw (word_is word rest inside, named) refl

kept_again : (kept : Bool) (rest : List ℕ) → number_at 0 1 (Some (kept_word kept ++ 32 ∷ rest)) ≡ Ok (one_if kept, Some rest)
kept_again true rest = kept_named (codes "1") rest 1 refl refl
kept_again false rest = kept_named (codes "0") rest 0 refl refl

kept_is : (kept : Bool) → (one_if kept == 1) ≡ kept
kept_is true = refl
kept_is false = refl

-- a command's text has a byte
command_begins : (nodes : ℕ) (bytes : List ℕ) (command : Command) → command_at nodes bytes ≡ Ok command → text_at (Some bytes) ≡ Ok bytes
unfolding command_at verb_at word_at
command_begins nodes [] command is = absurd (cc is)
command_begins nodes (c ∷ bytes) command is = refl

pub event_again : (nodes : ℕ) (event : Event) → nodes ≤ 50 → IsEventLine nodes event → event_at nodes (event_words event) ≡ Ok event
unfolding event_at
event_again nodes event few can =
    let asked = all_again nodes event.command few can.command in
    let own = number_word 0 4294967295 event.line (omega (arith, can.line)) (omega arith) (omega (arith, can.line)) in
    let failed = failed_again event.failed can.failed in
    let after_failed = kept_word event.kept ++ 32 ∷ command_text event.command in
    let after_line_number = failed_word event.failed ++ 32 ∷ after_failed in
    let text : event_words event ≡ codes "event" ++ 32 ∷ (decimal event.line ++ 32 ∷ after_line_number) = simp append_assoc in
    rw (
      text,
      word_is (codes "event") (decimal event.line ++ 32 ∷ after_line_number) refl,
      own.before after_line_number,
      failed.before after_failed,
      kept_again event.kept (command_text event.command),
      command_begins nodes (command_text event.command) event.command asked,
      asked,
    )
    (ap (λ (k : Bool). Ok (record { command = event.command; line = event.line; failed = event.failed; kept = k })) (kept_is event.kept))

-- ---- the header

spaced_text : (word rest : List ℕ) → list_all is_text word ≡ true → list_all is_text rest ≡ true → list_all is_text (word ++ 32 ∷ rest) ≡ true
spaced_text word rest one other = list_all-append is_text word (32 ∷ rest) ∙ both (list_all is_text word) (list_all is_text rest) one other

-- the sizes that a line names, which is the first one
named_line : (line rest : List ℕ) (sizes : ℕ × ℕ × ℕ) → list_all is_text line ≡ true → header_at line ≡ Ok sizes → header_in (line ++ 10 ∷ rest) ≡ Some (sizes, rest)
unfolding header_of
named_line line rest sizes plain read =
    let cut = line_is line rest (text_in line plain) in
    let utf8 : is_utf8 line ≡ true = is_utf8-from_IsUtf8 line (IsUtf8-from_ascii line (λ place. (plain_at line place plain).0)) in
    rw (cut.0, cut.1, utf8, read) refl

abbrev sizes_words : ℕ → ℕ → ℕ → List ℕ
sizes_words nodes voters members = decimal nodes ++ 32 ∷ (decimal voters ++ 32 ∷ decimal members)

sizes_named : (word : List ℕ) (nodes voters members : ℕ) → list_all is_inside word ≡ true → bytes_eq word (codes "trace") ≡ true
    → Again (number_at 1 50) (decimal nodes) nodes → Again (number_at 1 (most_voters nodes)) (decimal voters) voters → Again (number_at voters nodes) (decimal members) members
    → header_at (word ++ 32 ∷ sizes_words nodes voters members) ≡ Ok (nodes, voters, members)
unfolding header_at
sizes_named word nodes voters members inside named one two three =
    rw (word_is word (sizes_words nodes voters members) inside, named, one.before (decimal voters ++ 32 ∷ decimal members), two.before (decimal members), three.last) refl

-- so many may vote
may_vote : (b : Bool) (nodes voters : ℕ) → voters ≤ nodes → voters ≤ 7 → voters ≤ cond b nodes 7
may_vote true nodes voters within few = within
may_vote false nodes voters within few = few

pub header_again : (sizes : ℕ × ℕ × ℕ) (rest : List ℕ) → AreSizes (set_of sizes) → header_in (header_text sizes ++ rest) ≡ Some (sizes, rest)
header_again (nodes, voters, members) rest fine =
    let one = number_word 1 50 nodes (omega (arith, fine.most)) (omega (arith, fine.one, fine.voting, fine.within)) fine.most in
    let vote : voters ≤ most_voters nodes = may_vote (nat_lt nodes 7) nodes voters (omega (arith, fine.voting, fine.within)) fine.few in
    let two = number_word 1 (most_voters nodes) voters (omega (arith, fine.few)) fine.one vote in
    let three = number_word voters nodes members (omega (arith, fine.most, fine.within)) fine.voting fine.within in
    let line = codes "trace" ++ 32 ∷ sizes_words nodes voters members in
    let plain : list_all is_text line ≡ true =
    spaced_text (codes "trace") (sizes_words nodes voters members) refl
    (spaced_text (decimal nodes) (decimal voters ++ 32 ∷ decimal members) (word_is_text (decimal nodes) one.inside)
    (spaced_text (decimal voters) (decimal members) (word_is_text (decimal voters) two.inside) (word_is_text (decimal members) three.inside))) in
    let written : header_text (nodes, voters, members) ++ rest ≡ line ++ 10 ∷ rest = simp append_assoc in
    ap (λ (xs : List ℕ). header_in xs) written ∙ named_line line rest (nodes, voters, members) plain (sizes_named (codes "trace") nodes voters members refl refl one two three)
