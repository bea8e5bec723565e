-- What is written of an event has no line feed but its last byte.
use Rattle.std.proofs.Common.{◌≡◌, ℕ, ◌^◌, ◌≤◌, ◌<◌, Bool, true, false, ◌&&◌, List, [], ◌∷◌, ◌++◌, Option, None, Some, refl, arith}
use Rattle.std.specs.Prelude.{IfSome, codes, nat_le, nat_lt}
use Rattle.std.specs.Fmt.{decimal}
use Rattle.std.specs.List.{list_all, list_any}
use Rattle.bson_doc.specs.Tree.{Tree, document}
use Rattle.bson_doc.specs.View.{tree_of}
use Rattle.doc_text.specs.Printing.{printed}
use Rattle.doc_update.specs.declared.write.WriteOp.{WriteOp}
use Rattle.doc_update.specs.declared.write.WriteOp.TheVariants as ops
use Rattle.member_config.specs.declared.config.Config.{Config}
use Rattle.member_config.specs.declared.config.Member.{Member}
use Rattle.member_config.specs.JsonText.{comma_if, json_text, member_text, members_text, truth, votes_of}
use Rattle.run_checker.specs.Commands.{command_text, concern_word, disk_word, level_word, pick_word, target_word, write_words}
use Rattle.run_checker.specs.Reading.{is_line_feed}
use Rattle.run_checker.specs.Trace.{event_words, failed_word, kept_word}
use Rattle.script_laws.proofs.ChanceLines.{each_true}
use Rattle.set_model.specs.declared.command.Command.{Command}
use Rattle.set_model.specs.declared.command.Command.TheVariants.{Campaign, Drain, Insert, Replace, Update, Delete, Retry, Note, Begin, Commit, Abort, Ack, Read, Dump, Log, State, Rolled, DryRun, StepDown, Heartbeat, Report, Common, Fetch, Deliver, DeliverLatest, Apply, Flush, Checkpoint, Reconfig, Crash, Restart, DiskFail, Clock}
use Rattle.set_model.specs.declared.command.DiskName.{DiskName}
use Rattle.set_model.specs.declared.command.DiskName.TheVariants as disks
use Rattle.set_model.specs.declared.command.Event.{Event}
use Rattle.set_model.specs.declared.command.ReadLevel.{ReadLevel}
use Rattle.set_model.specs.declared.command.ReadLevel.TheVariants as levels
use Rattle.set_model.specs.Limits.{collection_of, is_collection, is_within_concern, is_within_config, is_within_member, is_within_target}
use Rattle.trace_laws.specs.Said.{CanBeSaid, CanBeSpelled, CanBeWritten, IsEventLine}
use Rattle.trace_laws.proofs.InLine.{InLine, is_in_line, joined_in, not_feed, number_in, printed_in, word_in}
use Rattle.trace_laws.proofs.LinesAgain.{below, bounds, failed_again, one_of, ranged, two_of}
use Rattle.trace_laws.proofs.NamesAgain.{collection_again, concern_again, target_again}

-- ---- numbers between words

named : (words : List ℕ) (n : ℕ) → InLine words → n < 2 ^ 64 → InLine (words ++ decimal n)
named words n plain few = joined_in words (decimal n) plain (number_in n few)

two : (words : List ℕ) (n : ℕ) (between : List ℕ) (m : ℕ) → InLine words → n < 2 ^ 64 → InLine between → m < 2 ^ 64 → InLine (words ++ decimal n ++ between ++ decimal m)
two words n between m plain few plain_too few_too = named (words ++ decimal n ++ between) m (joined_in (words ++ decimal n) between (named words n plain few) plain_too) few_too

spaced : (xs ys : List ℕ) → InLine xs → InLine ys → InLine (xs ++ codes " " ++ ys)
spaced xs ys one other = joined_in (xs ++ codes " ") ys (joined_in xs (codes " ") one refl) other

module _ (nodes : ℕ) (few : nodes ≤ 50) where
  -- words and a node
  one_node : (words : List ℕ) (node : ℕ) → InLine words → list_all (λ n. nat_lt n nodes) (node ∷ []) ≡ true → InLine (words ++ decimal node)
  one_node words node plain all = let within = one_of nodes node all in named words node plain (omega (arith, within, few))

  two_nodes : (words : List ℕ) (node : ℕ) (between : List ℕ) (other : ℕ) → InLine words → InLine between → list_all (λ n. nat_lt n nodes) (node ∷ other ∷ []) ≡ true → InLine (words ++ decimal node ++ between ++ decimal other)
  two_nodes words node between other plain plain_too all =
      let within = two_of nodes node other all in
      two words node between other plain (omega (arith, within.0, few)) plain_too (omega (arith, within.1, few))

  -- and a number
  node_number : (words : List ℕ) (node : ℕ) (between : List ℕ) (n : ℕ) → InLine words → InLine between → list_all (λ n. nat_lt n nodes) (node ∷ []) ≡ true → n < 2 ^ 64 → InLine (words ++ decimal node ++ between ++ decimal n)
  node_number words node between n plain plain_too all small =
      let within = one_of nodes node all in
      two words node between n plain (omega (arith, within, few)) plain_too small

-- ---- documents

value_words_in : (collection : List ℕ) (tree : Tree) → is_collection collection ≡ true → CanBeSpelled tree → InLine (codes " " ++ collection ++ codes " " ++ printed tree)
value_words_in collection tree name can =
    spaced (codes " " ++ collection) (printed tree) (joined_in (codes " ") collection refl (word_in collection (collection_again collection name).inside)) (printed_in tree can.lawful)

abbrev values_in : (collection : List ℕ) (id doc : Tree) → List ℕ
values_in collection id doc = codes " " ++ collection ++ codes " " ++ printed id ++ codes " " ++ printed doc

two_values_in : (collection : List ℕ) (id doc : Tree) → is_collection collection ≡ true → CanBeSpelled id → CanBeSpelled doc → InLine (values_in collection id doc)
two_values_in collection id doc name can_id can_doc =
    spaced (codes " " ++ collection ++ codes " " ++ printed id) (printed doc) (value_words_in collection id name can_id) (printed_in doc can_doc.lawful)

write_in : (op : WriteOp) → is_collection (collection_of op) ≡ true → CanBeWritten op → InLine (write_words op)
write_in (ops.Insert ns doc) name can = value_words_in ns (document doc) name can
write_in (ops.Replace ns id doc) name can = two_values_in ns (tree_of id) (document doc) name can.0 can.1
write_in (ops.Update ns id operators) name can = two_values_in ns (tree_of id) (document operators) name can.0 can.1
write_in (ops.Delete ns id) name can = value_words_in ns (tree_of id) name can

-- ---- configurations

comma_in : (later : Bool) → InLine (comma_if later)
comma_in true = refl
comma_in false = refl

truth_in : (b : Bool) → InLine (truth b)
truth_in true = refl
truth_in false = refl

votes_few : (b : Bool) → votes_of b < 2 ^ 64
votes_few true = omega arith
votes_few false = omega arith

member_in : (later : Bool) (m : Member) → is_within_member m ≡ true → InLine (member_text later m)
member_in later m within =
    let parts = each_true (nat_lt m.number 2147483648) (nat_le m.priority 1000) within in
    let number = below m.number 2147483648 parts.0 in
    let small = parts.1 in
    let priority : m.priority ≤ 1000 = grind arith in
    let begun = joined_in (comma_if later) (codes "{\"_id\":") (comma_in later) refl in
    let words = comma_if later ++ codes "{\"_id\":" ++ decimal m.number ++ codes ",\"votes\":" ++ decimal (votes_of m.votes) in
    let votes = two (comma_if later ++ codes "{\"_id\":") m.number (codes ",\"votes\":") (votes_of m.votes) begun (omega (arith, number)) refl (votes_few m.votes) in
    joined_in (words ++ codes ",\"priority\":" ++ decimal m.priority) (codes "}")
    (named (words ++ codes ",\"priority\":") m.priority (joined_in words (codes ",\"priority\":") votes refl) (omega (arith, priority))) refl

members_in : (later : Bool) (members : List Member) → list_all is_within_member members ≡ true → InLine (members_text later members)
members_in later [] all = refl
members_in later (m ∷ members) all =
    let parts = each_true (is_within_member m) (list_all is_within_member members) all in
    joined_in (member_text later m) (members_text true members) (member_in later m parts.0) (members_in true members parts.1)

json_in : (config : Config) → is_within_config config ≡ true → InLine (json_text config)
json_in config within =
    let both = each_true (nat_le 1 config.version && nat_lt config.version 2147483648) (list_all is_within_member config.members) within in
    let version = below config.version 2147483648 (each_true (nat_le 1 config.version) (nat_lt config.version 2147483648) both.0).1 in
    let words = codes "{\"version\":" ++ decimal config.version ++ codes ",\"members\":[" in
    let begun : InLine words = joined_in (codes "{\"version\":" ++ decimal config.version) (codes ",\"members\":[") (number_in config.version (omega (arith, version))) refl in
    let listed = joined_in words (members_text false config.members) begun (members_in false config.members both.1) in
    let members = words ++ members_text false config.members in
    let settings = joined_in members (codes "],\"settings\":{\"chainingAllowed\":") listed refl in
    joined_in (members ++ codes "],\"settings\":{\"chainingAllowed\":" ++ truth config.chaining) (codes "}}")
    (joined_in (members ++ codes "],\"settings\":{\"chainingAllowed\":") (truth config.chaining) settings (truth_in config.chaining)) refl

-- ---- other words

level_in : (level : ReadLevel) → InLine (level_word level)
level_in levels.Local = refl
level_in levels.Majority = refl

disk_in : (disk : DiskName) → InLine (disk_word disk)
disk_in disks.Journal = refl
disk_in disks.Checkpoint = refl

pick_in : (pick : Option ℕ) → IfSome pick (λ p. p < 2 ^ 64) → InLine (pick_word pick)
pick_in None few = refl
pick_in (Some pick) few = number_in pick few

-- ---- commands

pub command_in : (nodes : ℕ) (command : Command) → nodes ≤ 50 → CanBeSaid nodes command → InLine (command_text command)
command_in nodes (Campaign node) few can = one_node nodes few (codes "campaign n") node refl (bounds nodes (Campaign node) can.within).0
command_in nodes (Drain node) few can = one_node nodes few (codes "drain n") node refl (bounds nodes (Drain node) can.within).0
command_in nodes (Insert node collection doc) few can =
    let b = bounds nodes (Insert node collection doc) can.within in
    joined_in (codes "insert n" ++ decimal node) (codes " " ++ collection ++ codes " " ++ printed (document doc)) (one_node nodes few (codes "insert n") node refl b.0) (value_words_in collection (document doc) b.1 can.sayable)
command_in nodes (Replace node collection id doc) few can =
    let b = bounds nodes (Replace node collection id doc) can.within in
    joined_in (codes "replace n" ++ decimal node) (values_in collection (tree_of id) (document doc)) (one_node nodes few (codes "replace n") node refl b.0) (two_values_in collection (tree_of id) (document doc) b.1 can.sayable.0 can.sayable.1)
command_in nodes (Update node collection id operators) few can =
    let b = bounds nodes (Update node collection id operators) can.within in
    joined_in (codes "update n" ++ decimal node) (values_in collection (tree_of id) (document operators)) (one_node nodes few (codes "update n") node refl b.0) (two_values_in collection (tree_of id) (document operators) b.1 can.sayable.0 can.sayable.1)
command_in nodes (Delete node collection id) few can =
    let b = bounds nodes (Delete node collection id) can.within in
    joined_in (codes "delete n" ++ decimal node) (codes " " ++ collection ++ codes " " ++ printed (tree_of id)) (one_node nodes few (codes "delete n") node refl b.0) (value_words_in collection (tree_of id) b.1 can.sayable)
command_in nodes (Retry node session op) few can =
    let b = bounds nodes (Retry node session op) can.within in
    let outer = each_true (nat_lt session.id 4294967296 && (nat_le 1 session.number && nat_lt session.number 2147483648)) (is_collection (collection_of op)) b.1 in
    let inner = each_true (nat_lt session.id 4294967296) (nat_le 1 session.number && nat_lt session.number 2147483648) outer.0 in
    let id_low = below session.id 4294967296 inner.0 in
    let low = below session.number 2147483648 (each_true (nat_le 1 session.number) (nat_lt session.number 2147483648) inner.1).1 in
    let words = codes "retry n" ++ decimal node ++ codes " " ++ decimal session.id in
    let begun = node_number nodes few (codes "retry n") node (codes " ") session.id refl refl b.0 (omega (arith, id_low)) in
    joined_in (words ++ codes " " ++ decimal session.number) (write_words op) (spaced words (decimal session.number) begun (number_in session.number (omega (arith, low)))) (write_in op outer.1 can.sayable)
command_in nodes (Note node) few can = one_node nodes few (codes "note n") node refl (bounds nodes (Note node) can.within).0
command_in nodes (Begin node writer op) few can =
    let b = bounds nodes (Begin node writer op) can.within in
    let parts = each_true (nat_lt writer 1000) (is_collection (collection_of op)) b.1 in
    let low = below writer 1000 parts.0 in
    joined_in (codes "begin n" ++ decimal node ++ codes " w" ++ decimal writer) (write_words op) (node_number nodes few (codes "begin n") node (codes " w") writer refl refl b.0 (omega (arith, low))) (write_in op parts.1 can.sayable)
command_in nodes (Commit node writer) few can = let b = bounds nodes (Commit node writer) can.within in let low = below writer 1000 b.1 in node_number nodes few (codes "commit n") node (codes " w") writer refl refl b.0 (omega (arith, low))
command_in nodes (Abort node writer) few can = let b = bounds nodes (Abort node writer) can.within in let low = below writer 1000 b.1 in node_number nodes few (codes "abort n") node (codes " w") writer refl refl b.0 (omega (arith, low))
command_in nodes (Ack node target concern) few can =
    let b = bounds nodes (Ack node target concern) can.within in
    let parts = each_true (is_within_target target) (is_within_concern concern) b.1 in
    let to = word_in (target_word target) (target_again target parts.0 can.sayable).inside in
    let many = word_in (concern_word concern) (concern_again concern parts.1).inside in
    spaced (codes "ack n" ++ decimal node ++ codes " " ++ target_word target) (concern_word concern) (spaced (codes "ack n" ++ decimal node) (target_word target) (one_node nodes few (codes "ack n") node refl b.0) to) many
command_in nodes (Read node level collection id) few can =
    let b = bounds nodes (Read node level collection id) can.within in
    joined_in (codes "read n" ++ decimal node ++ codes " " ++ level_word level) (codes " " ++ collection ++ codes " " ++ printed (tree_of id))
    (spaced (codes "read n" ++ decimal node) (level_word level) (one_node nodes few (codes "read n") node refl b.0) (level_in level)) (value_words_in collection (tree_of id) b.1 can.sayable)
command_in nodes (Dump node level) few can = spaced (codes "dump n" ++ decimal node) (level_word level) (one_node nodes few (codes "dump n") node refl (bounds nodes (Dump node level) can.within).0) (level_in level)
command_in nodes (Log node) few can = one_node nodes few (codes "log n") node refl (bounds nodes (Log node) can.within).0
command_in nodes (State node) few can = one_node nodes few (codes "state n") node refl (bounds nodes (State node) can.within).0
command_in nodes (Rolled node) few can = one_node nodes few (codes "rolled n") node refl (bounds nodes (Rolled node) can.within).0
command_in nodes (DryRun node) few can = one_node nodes few (codes "dryrun n") node refl (bounds nodes (DryRun node) can.within).0
command_in nodes (StepDown node) few can = one_node nodes few (codes "stepdown n") node refl (bounds nodes (StepDown node) can.within).0
command_in nodes (Heartbeat node to) few can = two_nodes nodes few (codes "heartbeat n") node (codes " n") to refl refl (bounds nodes (Heartbeat node to) can.within).0
command_in nodes (Report node to) few can = two_nodes nodes few (codes "report n") node (codes " n") to refl refl (bounds nodes (Report node to) can.within).0
command_in nodes (Common node to) few can = two_nodes nodes few (codes "common n") node (codes " n") to refl refl (bounds nodes (Common node to) can.within).0
command_in nodes (Fetch node) few can = one_node nodes few (codes "fetch n") node refl (bounds nodes (Fetch node) can.within).0
command_in nodes (Deliver message) few can = number_in message can.sayable
command_in nodes (DeliverLatest from to) few can = two_nodes nodes few (codes "deliver n") from (codes " n") to refl refl (bounds nodes (DeliverLatest from to) can.within).0
command_in nodes (Apply node workers) few can =
    let b = bounds nodes (Apply node workers) can.within in
    let high = (ranged 1 16 workers b.1).1 in
    node_number nodes few (codes "apply n") node (codes " ") workers refl refl b.0 (omega (arith, high))
command_in nodes (Flush node) few can = one_node nodes few (codes "flush n") node refl (bounds nodes (Flush node) can.within).0
command_in nodes (Checkpoint node) few can = one_node nodes few (codes "checkpoint n") node refl (bounds nodes (Checkpoint node) can.within).0
command_in nodes (Reconfig node config) few can =
    let b = bounds nodes (Reconfig node config) can.within in
    spaced (codes "reconfig n" ++ decimal node) (json_text config) (one_node nodes few (codes "reconfig n") node refl b.0) (json_in config b.1)
command_in nodes (Crash node pick) few can = node_number nodes few (codes "crash n") node (codes " ") pick refl refl (bounds nodes (Crash node pick) can.within).0 can.sayable
command_in nodes (Restart node) few can = one_node nodes few (codes "restart n") node refl (bounds nodes (Restart node) can.within).0
command_in nodes (DiskFail node disk call pick) few can =
    let b = bounds nodes (DiskFail node disk call pick) can.within in
    let high = (ranged 1 1000 call b.1).1 in
    let words = codes "diskfail n" ++ decimal node ++ codes " " ++ disk_word disk in
    let begun = spaced (codes "diskfail n" ++ decimal node) (disk_word disk) (one_node nodes few (codes "diskfail n") node refl b.0) (disk_in disk) in
    joined_in (words ++ codes " " ++ decimal call) (pick_word pick) (spaced words (decimal call) begun (number_in call (omega (arith, high)))) (pick_in pick can.sayable)
command_in nodes (Clock node seconds) few can = let b = bounds nodes (Clock node seconds) can.within in let low = below seconds 2147483648 b.1 in node_number nodes few (codes "clock n") node (codes " ") seconds refl refl b.0 (omega (arith, low))

-- ---- events

kept_in : (kept : Bool) → InLine (kept_word kept)
kept_in true = refl
kept_in false = refl

pub event_in_line : (nodes : ℕ) (event : Event) → nodes ≤ 50 → IsEventLine nodes event → InLine (event_words event)
event_in_line nodes event few can =
    let line = named (codes "event ") event.line refl (omega (arith, can.line)) in
    let failed = spaced (codes "event " ++ decimal event.line) (failed_word event.failed) line (word_in (failed_word event.failed) (failed_again event.failed can.failed).inside) in
    let kept = spaced (codes "event " ++ decimal event.line ++ codes " " ++ failed_word event.failed) (kept_word event.kept) failed (kept_in event.kept) in
    spaced (codes "event " ++ decimal event.line ++ codes " " ++ failed_word event.failed ++ codes " " ++ kept_word event.kept) (command_text event.command) kept (command_in nodes event.command few can.command)

none_ends : (text : List ℕ) → InLine text → list_any is_line_feed text ≡ false
none_ends [] all = refl
none_ends (c ∷ text) all =
    let parts = each_true (is_in_line c) (list_all is_in_line text) all in
    let other = not_feed (is_line_feed c) parts.0 in
    rw (other, none_ends text parts.1) refl

pub event_is_one_line : (nodes : ℕ) (event : Event) → nodes ≤ 50 → IsEventLine nodes event → list_any is_line_feed (event_words event) ≡ false
event_is_one_line nodes event few can = none_ends (event_words event) (event_in_line nodes event few can)
