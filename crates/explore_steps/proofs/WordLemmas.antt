-- Two commands say the same, their nodes apart, exactly where they are the same as commands of node 0.
use Rattle.std.proofs.Common.{◌≡◌, ◌∙◌, ◌&&◌, ◌==◌, ℕ, Bool, [], Option, None, Some, IfSome, true, refl, sym, ap, arith}
use Rattle.std.specs.Prelude.{is_none, nat_eq}
use Rattle.std.proofs.lemmas.Bool.{and_from, and_parts, false≢true}
use Rattle.std.proofs.lemmas.Bool.Decides.{nat_tests, Decides-eqb}
use Rattle.std.proofs.lemmas.Slice.Eq.{bytes_eq-Decides, slice_eq-Decides}
use Rattle.std.specs.Bool.{Decides}
use Rattle.std.specs.Option.{option_eq}
use Rattle.std.specs.Str.{bytes_eq}
use Rattle.bson_doc.specs.Same.{same_fields}
use Rattle.bson_doc.specs.SameLaws.{same_fields-decides, same_fields-laws, same_tree-decides, same_value-laws}
use Rattle.bson_doc.specs.Tree.{Fields}
use Rattle.bson_doc.specs.View.{tree_of}
use Rattle.bson_doc.specs.declared.doc.Value.{Value}
use Rattle.doc_update.specs.declared.write.WriteOp.{WriteOp}
use Rattle.doc_update.specs.declared.write.WriteOp.TheVariants as writes
use Rattle.entry_bytes.proofs.LayoutLemmas.{same_value as same_by_tree}
use Rattle.member_config.proofs.SameLemmas.{flags_same}
use Rattle.member_config.specs.declared.config.Config.{Config}
use Rattle.member_config.specs.declared.config.Member.{Member}
use Rattle.question_laws.specs.Meeting.{at_first}
use Rattle.rs_optime.proofs.Optimes.{same_optime}
use Rattle.set_model.specs.World.{World, acts, is_delivery, task}
use Rattle.set_model.specs.declared.command.AckConcern.{AckConcern}
use Rattle.set_model.specs.declared.command.AckConcern.TheVariants as concerns
use Rattle.set_model.specs.declared.command.Command.{Command}
use Rattle.set_model.specs.declared.command.Command.TheVariants as commands
use Rattle.set_model.specs.declared.command.DiskName.{DiskName}
use Rattle.set_model.specs.declared.command.DiskName.TheVariants as disks
use Rattle.set_model.specs.declared.command.ReadLevel.{ReadLevel}
use Rattle.set_model.specs.declared.command.ReadLevel.TheVariants as levels
use Rattle.set_model.specs.declared.command.Target.TheVariants as targets
use Rattle.explore_steps.specs.Words.{collection_of, concern_number, config_of, disk_number, document_of, form_of, id_of, level_number, numbers_of, same_config, same_contents, same_member, same_names, same_value, same_words, same_write, say_the_same, word_of, write_of}

-- ---- the parts

levels_same : (one two : ReadLevel) → level_number one ≡ level_number two → one ≡ two
levels_same levels.Local levels.Local same = refl
levels_same levels.Majority levels.Majority same = refl
levels_same _ _ same = absurd (omega arith)

disks_same : (one two : DiskName) → disk_number one ≡ disk_number two → one ≡ two
disks_same disks.Journal disks.Journal same = refl
disks_same disks.Checkpoint disks.Checkpoint same = refl
disks_same _ _ same = absurd (omega arith)

concerns_same : (one two : AckConcern) → concern_number one ≡ concern_number two → one ≡ two
concerns_same concerns.Majority concerns.Majority same = refl
concerns_same (concerns.Count m) (concerns.Count n) same =
    ap (λ k. concerns.Count k) (let equal : m ≡ n = omega arith in equal)
concerns_same _ _ same = absurd (omega arith)

number_itself : (n : ℕ) → (n == n) ≡ true
number_itself n = (Decides-eqb n n).1 refl

document_itself : (d : Fields) → same_fields d d ≡ true
document_itself d = same_fields-laws.0.refl d

values_same : (v w : Value) → same_value v w ≡ true → v ≡ w
values_same v w same = same_by_tree v w ((same_tree-decides (tree_of v) (tree_of w)).0 same)

value_itself : (v : Value) → same_value v v ≡ true
value_itself v = same_value-laws.0.refl v

options_same : {A : Type 0} (E : A → A → Bool) → ((a b : A) → E a b ≡ true → a ≡ b) → (one two : Option A) → option_eq E one two ≡ true → one ≡ two
options_same E equal None None same = refl
options_same E equal None (Some b) same = absurd (false≢true same)
options_same E equal (Some a) None same = absurd (false≢true same)
options_same {A} E equal (Some a) (Some b) same = ap (λ (x : A). Some x) (equal a b same)

option_itself : {A : Type 0} (E : A → A → Bool) → ((a : A) → E a a ≡ true) → (one : Option A) → option_eq E one one ≡ true
option_itself E itself None = refl
option_itself E itself (Some a) = itself a

writes_same : (one two : WriteOp) → same_write one two ≡ true → one ≡ two
writes_same (writes.Insert ns doc) (writes.Insert ns' doc') same =
    let parts = and_parts (bytes_eq ns ns') (same_fields doc doc') same in
    let names : ns ≡ ns' = (bytes_eq-Decides ns ns').0 parts.0 in
    let documents : doc ≡ doc' = (same_fields-decides doc doc').0 parts.1 in cc
writes_same (writes.Replace ns id doc) (writes.Replace ns' id' doc') same =
    let parts = and_parts (bytes_eq ns ns' && same_value id id') (same_fields doc doc') same in
    let first = and_parts (bytes_eq ns ns') (same_value id id') parts.0 in
    let names : ns ≡ ns' = (bytes_eq-Decides ns ns').0 first.0 in
    let ids : id ≡ id' = values_same id id' first.1 in
    let documents : doc ≡ doc' = (same_fields-decides doc doc').0 parts.1 in cc
writes_same (writes.Update ns id doc) (writes.Update ns' id' doc') same =
    let parts = and_parts (bytes_eq ns ns' && same_value id id') (same_fields doc doc') same in
    let first = and_parts (bytes_eq ns ns') (same_value id id') parts.0 in
    let names : ns ≡ ns' = (bytes_eq-Decides ns ns').0 first.0 in
    let ids : id ≡ id' = values_same id id' first.1 in
    let documents : doc ≡ doc' = (same_fields-decides doc doc').0 parts.1 in cc
writes_same (writes.Delete ns id) (writes.Delete ns' id') same =
    let parts = and_parts (bytes_eq ns ns') (same_value id id') same in
    let names : ns ≡ ns' = (bytes_eq-Decides ns ns').0 parts.0 in
    let ids : id ≡ id' = values_same id id' parts.1 in cc
writes_same _ _ same = absurd (false≢true same)

write_itself : (one : WriteOp) → same_write one one ≡ true
write_itself (writes.Insert ns doc) = and_from (bytes_eq ns ns) (same_fields doc doc) ((bytes_eq-Decides ns ns).1 refl) (document_itself doc)
write_itself (writes.Replace ns id doc) =
    and_from (bytes_eq ns ns && same_value id id) (same_fields doc doc)
    (and_from (bytes_eq ns ns) (same_value id id) ((bytes_eq-Decides ns ns).1 refl) (value_itself id)) (document_itself doc)
write_itself (writes.Update ns id doc) =
    and_from (bytes_eq ns ns && same_value id id) (same_fields doc doc)
    (and_from (bytes_eq ns ns) (same_value id id) ((bytes_eq-Decides ns ns).1 refl) (value_itself id)) (document_itself doc)
write_itself (writes.Delete ns id) = and_from (bytes_eq ns ns) (same_value id id) ((bytes_eq-Decides ns ns).1 refl) (value_itself id)

member_decides : (a b : Member) → Decides (same_member a b) (a ≡ b)
member_decides a b = let flags = flags_same a.votes b.votes in grind (arith, nat_tests, flags)

config_decides : (one two : Config) → Decides (same_config one two) (one ≡ two)
config_decides one two =
    let flags = flags_same one.chaining two.chaining in
    let members = slice_eq-Decides member_decides one.members two.members _ refl in
    grind (arith, nat_tests, flags, members)

configs_same : (one two : Config) → same_config one two ≡ true → one ≡ two
configs_same one two = (config_decides one two).0

config_itself : (one : Config) → same_config one one ≡ true
config_itself one = (config_decides one one).1 refl

-- ---- commands

word-at_first : (c : Command) → word_of (at_first c) ≡ word_of c
word-at_first (commands.Campaign node) = refl
word-at_first _ = refl

form-at_first : (c : Command) → form_of (at_first c) ≡ form_of c
form-at_first (commands.Ack node (targets.At at) concern) = refl
form-at_first (commands.Ack node (targets.Writer writer) concern) = refl
form-at_first (commands.DiskFail node disk call None) = refl
form-at_first (commands.DiskFail node disk call (Some pick)) = refl
form-at_first _ = refl

numbers-at_first : (c : Command) → numbers_of (at_first c) ≡ numbers_of c
numbers-at_first (commands.Ack node (targets.At at) concern) = refl
numbers-at_first (commands.Ack node (targets.Writer writer) concern) = refl
numbers-at_first (commands.DiskFail node disk call None) = refl
numbers-at_first (commands.DiskFail node disk call (Some pick)) = refl
numbers-at_first _ = refl

collection-at_first : (c : Command) → collection_of (at_first c) ≡ collection_of c
collection-at_first (commands.Campaign node) = refl
collection-at_first _ = refl

id-at_first : (c : Command) → id_of (at_first c) ≡ id_of c
id-at_first (commands.Campaign node) = refl
id-at_first _ = refl

document-at_first : (c : Command) → document_of (at_first c) ≡ document_of c
document-at_first (commands.Campaign node) = refl
document-at_first _ = refl

write-at_first : (c : Command) → write_of (at_first c) ≡ write_of c
write-at_first (commands.Campaign node) = refl
write-at_first _ = refl

config-at_first : (c : Command) → config_of (at_first c) ≡ config_of c
config-at_first (commands.Campaign node) = refl
config-at_first _ = refl

said-at_first : (c d : Command) → say_the_same (at_first c) (at_first d) ≡ say_the_same c d
said-at_first c d = cc (word-at_first c, word-at_first d, form-at_first c, form-at_first d, numbers-at_first c, numbers-at_first d, collection-at_first c, collection-at_first d, id-at_first c, id-at_first d, document-at_first c, document-at_first d, write-at_first c, write-at_first d, config-at_first c, config-at_first d)

all_true : (a b c : Bool) → a ≡ true → b ≡ true → c ≡ true → (a && b && c) ≡ true
all_true a b c x y z = and_from (a && b) c (and_from a b x y) z

said_itself : (c : Command) → say_the_same c c ≡ true
said_itself c =
    let own = numbers_of c in
    all_true (same_words c c) (same_names c c) (same_contents c c)
    (all_true ((word_of c == word_of c) && (form_of c == form_of c) && (own.0 == own.0)) (own.1 == own.1) (own.2 == own.2)
    (all_true (word_of c == word_of c) (form_of c == form_of c) (own.0 == own.0) (number_itself (word_of c)) (number_itself (form_of c)) (number_itself own.0))
    (number_itself own.1) (number_itself own.2))
    (and_from (option_eq bytes_eq (collection_of c) (collection_of c)) (option_eq same_value (id_of c) (id_of c))
    (option_itself bytes_eq (λ t. (bytes_eq-Decides t t).1 refl) (collection_of c)) (option_itself same_value value_itself (id_of c)))
    (all_true (option_eq same_fields (document_of c) (document_of c)) (option_eq same_write (write_of c) (write_of c)) (option_eq same_config (config_of c) (config_of c))
    (option_itself same_fields document_itself (document_of c)) (option_itself same_write write_itself (write_of c)) (option_itself same_config config_itself (config_of c)))

-- commands with the same parts
same_parts :
    (one two : Command) → word_of one ≡ word_of two → form_of one ≡ form_of two → (numbers_of one).0 ≡ (numbers_of two).0 → (numbers_of one).1 ≡ (numbers_of two).1
    → (numbers_of one).2 ≡ (numbers_of two).2 → collection_of one ≡ collection_of two → id_of one ≡ id_of two
    → document_of one ≡ document_of two → write_of one ≡ write_of two → config_of one ≡ config_of two → at_first one ≡ at_first two
same_parts (commands.Campaign node) (commands.Campaign node') w f a b k co i doc wr cf = refl
same_parts (commands.Drain node) (commands.Drain node') w f a b k co i doc wr cf = refl
same_parts (commands.Insert node collection document) (commands.Insert node' collection' document') w f a b k co i doc wr cf = cc
same_parts (commands.Replace node collection id document) (commands.Replace node' collection' id' document') w f a b k co i doc wr cf = cc
same_parts (commands.Update node collection id operators) (commands.Update node' collection' id' operators') w f a b k co i doc wr cf = cc
same_parts (commands.Delete node collection id) (commands.Delete node' collection' id') w f a b k co i doc wr cf = cc
same_parts (commands.Retry node session op) (commands.Retry node' session' op') w f a b k co i doc wr cf = let sessions : session ≡ session' = λ i. record { id = a i; number = b i } in cc
same_parts (commands.Note node) (commands.Note node') w f a b k co i doc wr cf = refl
same_parts (commands.Begin node writer op) (commands.Begin node' writer' op') w f a b k co i doc wr cf = cc
same_parts (commands.Commit node writer) (commands.Commit node' writer') w f a b k co i doc wr cf = cc
same_parts (commands.Abort node writer) (commands.Abort node' writer') w f a b k co i doc wr cf = cc
same_parts (commands.Ack node (targets.At at) concern) (commands.Ack node' (targets.At at') concern') w f a b k co i doc wr cf = let ats = same_optime at at' a b in let concerns = concerns_same concern concern' k in cc
same_parts (commands.Ack node (targets.Writer writer) concern) (commands.Ack node' (targets.Writer writer') concern') w f a b k co i doc wr cf = let concerns = concerns_same concern concern' k in cc
same_parts (commands.Read node level collection id) (commands.Read node' level' collection' id') w f a b k co i doc wr cf = let levels = levels_same level level' a in cc
same_parts (commands.Dump node level) (commands.Dump node' level') w f a b k co i doc wr cf = let levels = levels_same level level' a in cc
same_parts (commands.Log node) (commands.Log node') w f a b k co i doc wr cf = refl
same_parts (commands.State node) (commands.State node') w f a b k co i doc wr cf = refl
same_parts (commands.Rolled node) (commands.Rolled node') w f a b k co i doc wr cf = refl
same_parts (commands.DryRun node) (commands.DryRun node') w f a b k co i doc wr cf = refl
same_parts (commands.StepDown node) (commands.StepDown node') w f a b k co i doc wr cf = refl
same_parts (commands.Heartbeat node to) (commands.Heartbeat node' to') w f a b k co i doc wr cf = cc
same_parts (commands.Report node to) (commands.Report node' to') w f a b k co i doc wr cf = cc
same_parts (commands.Common node to) (commands.Common node' to') w f a b k co i doc wr cf = cc
same_parts (commands.Fetch node) (commands.Fetch node') w f a b k co i doc wr cf = refl
same_parts (commands.Deliver message) (commands.Deliver message') w f a b k co i doc wr cf = cc
same_parts (commands.DeliverLatest from to) (commands.DeliverLatest from' to') w f a b k co i doc wr cf = cc
same_parts (commands.Apply node workers) (commands.Apply node' workers') w f a b k co i doc wr cf = cc
same_parts (commands.Flush node) (commands.Flush node') w f a b k co i doc wr cf = refl
same_parts (commands.Checkpoint node) (commands.Checkpoint node') w f a b k co i doc wr cf = refl
same_parts (commands.Reconfig node config) (commands.Reconfig node' config') w f a b k co i doc wr cf = cc
same_parts (commands.Crash node pick) (commands.Crash node' pick') w f a b k co i doc wr cf = cc
same_parts (commands.Restart node) (commands.Restart node') w f a b k co i doc wr cf = refl
same_parts (commands.DiskFail node disk call None) (commands.DiskFail node' disk' call' None) w f a b k co i doc wr cf = let disks = disks_same disk disk' a in cc
same_parts (commands.DiskFail node disk call (Some pick)) (commands.DiskFail node' disk' call' (Some pick')) w f a b k co i doc wr cf = let disks = disks_same disk disk' a in cc
same_parts (commands.Clock node seconds) (commands.Clock node' seconds') w f a b k co i doc wr cf = cc
same_parts one two w f a b k co i doc wr cf = absurd (omega arith)

said_same : (c d : Command) → say_the_same c d ≡ true → at_first c ≡ at_first d
said_same c d same =
    let own = numbers_of c in
    let others = numbers_of d in
    let parts = and_parts (same_words c d && same_names c d) (same_contents c d) same in
    let front = and_parts (same_words c d) (same_names c d) parts.0 in
    let fourth = and_parts ((word_of c == word_of d) && (form_of c == form_of d) && (own.0 == others.0) && (own.1 == others.1)) (own.2 == others.2) front.0 in
    let third = and_parts ((word_of c == word_of d) && (form_of c == form_of d) && (own.0 == others.0)) (own.1 == others.1) fourth.0 in
    let second = and_parts ((word_of c == word_of d) && (form_of c == form_of d)) (own.0 == others.0) third.0 in
    let first = and_parts (word_of c == word_of d) (form_of c == form_of d) second.0 in
    let names = and_parts (option_eq bytes_eq (collection_of c) (collection_of d)) (option_eq same_value (id_of c) (id_of d)) front.1 in
    let contents = and_parts (option_eq same_fields (document_of c) (document_of d) && option_eq same_write (write_of c) (write_of d)) (option_eq same_config (config_of c) (config_of d)) parts.1 in
    let written = and_parts (option_eq same_fields (document_of c) (document_of d)) (option_eq same_write (write_of c) (write_of d)) contents.0 in
    same_parts c d
    ((Decides-eqb (word_of c) (word_of d)).0 first.0)
    ((Decides-eqb (form_of c) (form_of d)).0 first.1)
    ((Decides-eqb own.0 others.0).0 second.1)
    ((Decides-eqb own.1 others.1).0 third.1)
    ((Decides-eqb own.2 others.2).0 fourth.1)
    (options_same bytes_eq (λ x y. (bytes_eq-Decides x y).0) (collection_of c) (collection_of d) names.0)
    (options_same same_value values_same (id_of c) (id_of d) names.1)
    (options_same same_fields (λ x y. (same_fields-decides x y).0) (document_of c) (document_of d) written.0)
    (options_same same_write writes_same (write_of c) (write_of d) written.1)
    (options_same same_config configs_same (config_of c) (config_of d) contents.1)

pub said_decides : (c d : Command) → Decides (say_the_same c d) (at_first c ≡ at_first d)
said_decides c d =
    (said_same c d, λ e. sym (said-at_first c d) ∙ ap (λ (x : Command). say_the_same (at_first c) x) (sym e) ∙ said_itself (at_first c))

-- ---- and their nodes

nowhere : World
nowhere = record { nodes = []; messages = [] }

own_number : (c : Command) (n : ℕ) → task nowhere c ≡ acts n → (n ≡ 0 → at_first c ≡ c) × (at_first c ≡ c → n ≡ 0)
unfolding nowhere
own_number (commands.Deliver message) n is = (λ z. refl, λ e. cc is)
own_number (commands.DeliverLatest from to) n is = (λ z. refl, λ e. cc is)
own_number _ n is = (λ z. cc, λ e. cc)

pub first_is_own : (c : Command) (n : ℕ) → ((world : World) → task world c ≡ acts n) → Decides (nat_eq n 0) (at_first c ≡ c)
first_is_own c n own =
    let by = own_number c n (own nowhere) in
    (λ z. by.0 ((Decides-eqb n 0).0 z), λ e. (Decides-eqb n 0).1 (by.1 e))

-- the command as one of another node
with_node : ℕ → Command → Command
with_node number (commands.Campaign node) = commands.Campaign number
with_node number (commands.Drain node) = commands.Drain number
with_node number (commands.Insert node collection document) = commands.Insert number collection document
with_node number (commands.Replace node collection id document) = commands.Replace number collection id document
with_node number (commands.Update node collection id operators) = commands.Update number collection id operators
with_node number (commands.Delete node collection id) = commands.Delete number collection id
with_node number (commands.Retry node session op) = commands.Retry number session op
with_node number (commands.Note node) = commands.Note number
with_node number (commands.Begin node writer op) = commands.Begin number writer op
with_node number (commands.Commit node writer) = commands.Commit number writer
with_node number (commands.Abort node writer) = commands.Abort number writer
with_node number (commands.Ack node target concern) = commands.Ack number target concern
with_node number (commands.Read node level collection id) = commands.Read number level collection id
with_node number (commands.Dump node level) = commands.Dump number level
with_node number (commands.Log node) = commands.Log number
with_node number (commands.State node) = commands.State number
with_node number (commands.Rolled node) = commands.Rolled number
with_node number (commands.DryRun node) = commands.DryRun number
with_node number (commands.StepDown node) = commands.StepDown number
with_node number (commands.Heartbeat node to) = commands.Heartbeat number to
with_node number (commands.Report node to) = commands.Report number to
with_node number (commands.Common node to) = commands.Common number to
with_node number (commands.Fetch node) = commands.Fetch number
with_node number (commands.Deliver message) = commands.Deliver message
with_node number (commands.DeliverLatest from to) = commands.DeliverLatest from to
with_node number (commands.Apply node workers) = commands.Apply number workers
with_node number (commands.Flush node) = commands.Flush number
with_node number (commands.Checkpoint node) = commands.Checkpoint number
with_node number (commands.Reconfig node config) = commands.Reconfig number config
with_node number (commands.Crash node pick) = commands.Crash number pick
with_node number (commands.Restart node) = commands.Restart number
with_node number (commands.DiskFail node disk call pick) = commands.DiskFail number disk call pick
with_node number (commands.Clock node seconds) = commands.Clock number seconds

with_own : (c : Command) (n : ℕ) → task nowhere c ≡ acts n → with_node n (at_first c) ≡ c
unfolding nowhere with_node
with_own (commands.Deliver message) n is = refl
with_own (commands.DeliverLatest from to) n is = refl
with_own _ n is = cc

delivered : (c : Command) → is_delivery c ≡ true → at_first c ≡ c
delivered (commands.Deliver message) is = refl
delivered (commands.DeliverLatest from to) is = refl
delivered _ is = absurd (false≢true is)

-- what is known of the actor of a command
pub record IsActor (c : Command) (found : Option ℕ) : Type 0 where
  pub some : IfSome found (λ number. (world : World) → task world c ≡ acts number)
  pub none : is_delivery c ≡ is_none found

pub nodes_same : (c d : Command) (a b : Option ℕ) → IsActor c a → IsActor d b → option_eq nat_eq a b ≡ true → at_first c ≡ at_first d → c ≡ d
nodes_same c d None None own others same first = sym (delivered c own.none) ∙ first ∙ delivered d others.none
nodes_same c d None (Some n) own others same first = absurd (false≢true same)
nodes_same c d (Some m) None own others same first = absurd (false≢true same)
nodes_same c d (Some m) (Some n) own others same first =
    let equal : m ≡ n = (Decides-eqb m n).0 same in
    sym (with_own c m (own.some nowhere)) ∙ ap (with_node m) first ∙ ap (λ k. with_node k (at_first d)) equal ∙ with_own d n (others.some nowhere)

pub actors_same : (c d : Command) (a b : Option ℕ) → IsActor c a → IsActor d b → c ≡ d → option_eq nat_eq a b ≡ true
actors_same c d None None own others same = refl
actors_same c d None (Some n) own others same = absurd (false≢true (sym others.none ∙ ap is_delivery (sym same) ∙ own.none))
actors_same c d (Some m) None own others same = absurd (false≢true (sym own.none ∙ ap is_delivery same ∙ others.none))
actors_same c d (Some m) (Some n) own others same =
    (Decides-eqb m n).1 (numbers (sym (own.some nowhere) ∙ ap (task nowhere) same ∙ others.some nowhere))
  where
    numbers : acts m ≡ acts n → m ≡ n
    numbers e = cc
