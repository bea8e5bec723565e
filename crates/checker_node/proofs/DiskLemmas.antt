-- What a node's rows about its disks do.
use Rattle.std.proofs.Common.{◌≡◌, ◌∙◌, ◌<◌, ◌+◌, ◌&&◌, arith, ℕ, Bool, true, false, cond, List, [], ◌∷◌, ◌++◌, length, take, Option, None, Result, Ok, Err, refl, sym, ap, subst}
use Rattle.std.specs.Prelude.{◌==◌, IfOk, nat_lt, unwrap_or}
use Rattle.std.proofs.lemmas.Bool.Decides.{nat_tests}
use Rattle.rs_optime.specs.declared.optime.OpTime.{OpTime}
use Rattle.member_config.specs.declared.config.Config.{Config}
use Rattle.oplog_entry.specs.Visible.{last_of}
use Rattle.oplog_entry.specs.declared.entry.Entry.{Entry}
use Rattle.oplog_store.specs.Log.{IsOplog}
use Rattle.repl_msg.specs.Kept.{kept, with_entries}
use Rattle.repl_msg.specs.Logs.{earlier_of, same_optime}
use Rattle.repl_msg.specs.declared.record.Kept.{Kept}
use Rattle.repl_msg.specs.declared.record.Record.TheVariants as records
use Rattle.repl_msg.proofs.KeptLemmas.{kept_more}
use Rattle.set_model.specs.Disk.{apply, batch_applied, came_back, flush, flushed, has_more, is_flushed, next_batch, next_durable, next_entries, recovered, restart, settled_doubt, unjournaled}
use Rattle.set_model.specs.Limits.{passes_first}
use Rattle.set_model.specs.Node.{Node}
use Rattle.set_model.specs.Outcome.{refused, replied}
use Rattle.set_model.specs.Points.{visible_point}
use Rattle.set_model.specs.Roles.{is_primary}
use Rattle.set_model.specs.Rollback.{cut_record}
use Rattle.set_model.specs.Stores.{Plan, finished, in_doubt, records_after, stored}
use Rattle.set_model.specs.declared.reply.Refusal.TheVariants.{DiskFailed, NothingToDo}
use Rattle.set_model.specs.declared.reply.Reply.TheVariants as reply
use Rattle.set_model.specs.declared.store.Store.{Store}
use Rattle.set_model.specs.declared.store.Store.TheVariants as stores
use Rattle.checker_node.specs.declared.answer.Answer.{Answer}
use Rattle.checker_node.specs.Done.{Answers, Does, Replies, next_failed}
use Rattle.vote_store.specs.declared.vote.Vote.{Vote}
use Rattle.checker_node.specs.Flushing.{point_after}
use Rattle.checker_node.specs.Forgets.{emptied}
use Rattle.checker_node.proofs.DoesLemmas.{does_after, does_at_once, does_broken, does_stored, says}
use Rattle.checker_tables.proofs.UnkeptLemmas.{next_first, next_more, next_none}

-- ---- plans with a test

if_so : (test : Bool) (one two : Plan) (failed left : Option ℕ) (answer : Answer) (new : Node) → test ≡ true → Does one failed left answer new → Does (cond test one two) failed left answer new
if_so true one two failed left answer new is does = does
if_so false one two failed left answer new is does = absurd (cc is)

if_not : (test : Bool) (one two : Plan) (failed left : Option ℕ) (answer : Answer) (new : Node) → test ≡ false → Does two failed left answer new → Does (cond test one two) failed left answer new
if_not true one two failed left answer new is does = absurd (cc is)
if_not false one two failed left answer new is does = does

-- what follows of an answer, where there is one
pub of_answer : {A E : Type 0} (result : Result A E) (P Q : A → Type 0) → ((x : A) → P x → Q x) → IfOk result P → IfOk result Q
of_answer (Ok x) P Q so is = so x is
of_answer (Err e) P Q so is = tt

-- ---- apply

module _ (node : Node) where
  apply_other : (batch : List Entry) → is_primary node.role ≡ false → batch ≡ next_batch node → apply node ≡ batch_applied node batch
  apply_other batch is same = ap (λ b. cond b (refused NothingToDo node) (batch_applied node (next_batch node))) is ∙ ap (batch_applied node) (sym same)

  pub apply_some : (batch : List Entry) → is_primary node.role ≡ false → batch ≡ next_batch node → (length batch == 0) ≡ false
      → apply node ≡ replied (reply.Applied (length batch) (last_of batch)) (record node { applied = last_of batch })
  apply_some batch is same some = apply_other batch is same ∙ by_batch batch some
    where
      by_batch : (batch : List Entry) → (length batch == 0) ≡ false → batch_applied node batch ≡ replied (reply.Applied (length batch) (last_of batch)) (record node { applied = last_of batch })
      by_batch [] some = absurd (cc some)
      by_batch (entry ∷ entries) some = refl

-- ---- flush

-- how far the log is durable where more entries remain
pub point_cut : (entries : List Entry) (visible last point : OpTime) → 2000 < length entries → last ≡ last_of (take 2000 entries) → point ≡ earlier_of visible last → point ≡ point_after entries visible
point_cut entries visible last point more is point_is =
    point_is ∙ ap (earlier_of visible) is ∙ sym (ap (λ (b : Bool). cond b (earlier_of visible (last_of (take 2000 entries))) visible) (tested 2000 (length entries) more))
  where
    tested : (m n : ℕ) → m < n → nat_lt m n ≡ true
    tested m n less = grind (arith, nat_tests)

-- the next entries of a record, with one more where there are more
module _ (node : Node) (next : List Entry) (is : next ≡ take 2001 (unjournaled node)) where
  pub entries_next : take 2000 next ≡ next_entries node
  entries_next = next_first 2000 (unjournaled node) next is

  pub durable_next : (visible : OpTime) → visible ≡ visible_point node → point_after next visible ≡ next_durable node
  durable_next visible same =
      ap (λ (b : Bool). cond b (earlier_of visible (last_of (take 2000 next))) visible) (next_more 2000 (unjournaled node) next is)
      ∙ ap (λ (l : List Entry). cond (nat_lt 2000 (length (unjournaled node))) (earlier_of visible (last_of l)) visible) entries_next
      ∙ ap (λ (o : OpTime). cond (nat_lt 2000 (length (unjournaled node))) (earlier_of o (last_of (next_entries node))) o) same

  pub flushed_next : (visible : OpTime) → visible ≡ visible_point node → (length next == 0 && same_optime node.durable visible) ≡ is_flushed node
  flushed_next visible same = λ i. next_none 2000 (unjournaled node) next is i && same_optime node.durable (same i)

abbrev pub next_record : Node → Store
next_record node = stores.Record (records.Entries (next_entries node) (next_durable node))

pub record_next : (node : Node) (next cut list : List Entry) (visible point : OpTime) → next ≡ take 2001 (unjournaled node) → visible ≡ visible_point node → cut ≡ take 2000 next
    → list ≡ cut → point ≡ point_after next visible → stores.Record (records.Entries list point) ≡ next_record node
record_next node next cut list visible point is visible_is cut_is list_is point_is =
    let entries : list ≡ next_entries node = list_is ∙ cut_is ∙ entries_next node next is in
    let durable : point ≡ next_durable node = point_is ∙ durable_next node next is visible visible_is in
    λ i. stores.Record (records.Entries (entries i) (durable i))

-- the log that the records come to with it
pub flush_stays : (node : Node) (item : Store) → item ≡ next_record node → IsOplog (with_entries (kept node.records).entries (next_entries node)) → IsOplog (kept (records_after node.records item)).entries
flush_stays node item is oplog =
    subst (λ (s : Store). IsOplog (kept (records_after node.records s)).entries) (sym is)
    (subst (λ (k : Kept). IsOplog k.entries) (sym (kept_more node.records (records.Entries (next_entries node) (next_durable node)))) oplog)

module _ (node : Node) where
  abbrev then_flushed : Node → Plan
  then_flushed n = finished (replied (reply.Flushed (length (next_entries node)) (next_durable node)) (flushed n (next_durable node)))

  pub flush_none : (failed : Option ℕ) (answer : Answer) (new : Node) → is_flushed node ≡ true → Answers (refused NothingToDo node) answer new → Does (flush node) failed failed answer new
  flush_none failed answer new is answers = if_so (is_flushed node) _ _ failed failed answer new is (does_at_once (refused NothingToDo node) failed answer new answers)

  pub flush_broken : (item : Store) (failed left : Option ℕ) (answer : Answer) (new : Node) → is_flushed node ≡ false → item ≡ next_record node
      → false ≡ passes_first failed → new ≡ in_doubt node item → left ≡ next_failed failed → Replies answer (reply.Refused DiskFailed) [] → Does (flush node) failed left answer new
  flush_broken item failed left answer new is same fails new_is left_is replies =
      if_not (is_flushed node) _ _ failed left answer new is
      (does_broken node (next_record node) then_flushed failed left new answer fails (new_is ∙ ap (in_doubt node) same) left_is replies)

  pub flush_done : (item : Store) (count : ℕ) (point : OpTime) (failed left : Option ℕ) (answer : Answer) (mid new : Node) → is_flushed node ≡ false → item ≡ next_record node
      → count ≡ length (next_entries node) → point ≡ next_durable node → true ≡ passes_first failed → mid ≡ stored node item → left ≡ next_failed failed
      → new ≡ flushed mid point → Replies answer (reply.Flushed count point) [] → Does (flush node) failed left answer new
  flush_done item count point failed left answer mid new is same count_is point_is passes mid_is left_is new_is replies =
      if_not (is_flushed node) _ _ failed left answer new is
      (does_stored node (next_record node) then_flushed failed left left mid new answer passes (mid_is ∙ ap (stored node) same) left_is
      (does_at_once (replied (reply.Flushed (length (next_entries node)) (next_durable node)) (flushed mid (next_durable node))) left answer new
      (ap (λ (n : ℕ). replied (reply.Flushed n (next_durable node)) (flushed mid (next_durable node))) (sym count_is)
      ∙ ap (λ (o : OpTime). replied (reply.Flushed count o) (flushed mid o)) (sym point_is)
      ∙ says (reply.Flushed count point) answer (flushed mid point) new new_is replies)))

-- ---- restart

module _ (node : Node) (there : Bool) where
  pub restart_done : (failed after left : Option ℕ) (answer : Answer) (mid new : Node) → node.up ≡ false → true ≡ passes_first failed → mid ≡ settled_doubt node node.doubt there
      → after ≡ next_failed failed → Does (recovered mid) after left answer new → Does (restart node there) failed left answer new
  restart_done failed after left answer mid new is passes mid_is after_is does =
      if_not node.up _ _ failed left answer new is
      (does_after node (recovered (settled_doubt node node.doubt there)) failed left answer new passes
      (subst (λ (n : Node). Does (recovered n) (next_failed failed) left answer new) mid_is
      (subst (λ (a : Option ℕ). Does (recovered mid) a left answer new) after_is does)))

module _ (node : Node) where
  abbrev then_back : Node → Plan
  then_back n = finished (came_back n)

  pub recovered_whole : (failed : Option ℕ) (answer : Answer) (new : Node) → has_more (kept node.records) ≡ false → Answers (came_back node) answer new → Does (recovered node) failed failed answer new
  recovered_whole failed answer new is answers = if_not (has_more (kept node.records)) _ _ failed failed answer new is (does_at_once (came_back node) failed answer new answers)

  pub recovered_done : (point : OpTime) (failed left : Option ℕ) (answer : Answer) (mid new : Node) → has_more (kept node.records) ≡ true → point ≡ (kept node.records).point
      → true ≡ passes_first failed → mid ≡ stored node (cut_record point) → left ≡ next_failed failed → Answers (came_back mid) answer new → Does (recovered node) failed left answer new
  recovered_done point failed left answer mid new is same passes mid_is left_is answers =
      if_so (has_more (kept node.records)) _ _ failed left answer new is
      (does_stored node (cut_record (kept node.records).point) then_back failed left left mid new answer passes (mid_is ∙ ap (λ (o : OpTime). stored node (cut_record o)) same) left_is
      (does_at_once (came_back mid) left answer new answers))

-- the node has its disks' entries again
pub comes_back : (node mid : Node) (vote : Vote) (log : List Entry) (last point : OpTime) (config : Config) (answer : Answer) → node.doubt ≡ None → mid ≡ emptied node true
    → vote ≡ (kept mid.records).vote → log ≡ mid.log ++ (kept mid.records).entries → last ≡ last_of log → point ≡ (kept mid.records).point → config ≡ unwrap_or (kept mid.records).config mid.first
    → Replies answer (reply.Up last) []
    → Answers (came_back node) answer (record mid {
      term = vote.term;
      vote = vote.candidate;
      log = log;
      seen = last.ts;
      durable = point;
      applied = last;
      commit = mid.stable;
      config = config;
      rollback = mid.rollback + 1;
    })
comes_back node mid vote log last point config answer settled mid_is vote_is log_is last_is point_is config_is replies =
    sym (λ i. record {
      reply = (replies.reply_is ∙ ap (λ (o : OpTime). reply.Up o) last_so) i;
      node = record (mid_is i) {
        doubt = doubt_so i;
        term = (vote_so i).term;
        vote = (vote_so i).candidate;
        log = log_so i;
        seen = (last_so i).ts;
        durable = point_so i;
        applied = last_so i;
        commit = (mid_is i).stable;
        config = config_so i;
        rollback = (mid_is i).rollback + 1;
      };
      sent = replies.sent_is i;
    })
  where
    doubt_so : mid.doubt ≡ None
    doubt_so = ap (λ (n : Node). n.doubt) mid_is ∙ settled

    vote_so : vote ≡ (kept node.records).vote
    vote_so = vote_is ∙ ap (λ (n : Node). (kept n.records).vote) mid_is

    log_so : log ≡ (kept node.records).entries
    log_so = log_is ∙ ap (λ (n : Node). n.log ++ (kept n.records).entries) mid_is

    last_so : last ≡ last_of (kept node.records).entries
    last_so = last_is ∙ ap last_of log_so

    point_so : point ≡ (kept node.records).point
    point_so = point_is ∙ ap (λ (n : Node). (kept n.records).point) mid_is

    config_so : config ≡ unwrap_or (kept node.records).config node.first
    config_so = config_is ∙ ap (λ (n : Node). unwrap_or (kept n.records).config n.first) mid_is
