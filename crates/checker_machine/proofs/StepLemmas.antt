-- What a plan does at a node that is up, what a message does, and what is delivered.
use Rattle.std.proofs.Common.{◌≡◌, ◌∙◌, ℕ, true, false, cond, List, [], Option, None, Some, Result, Ok, Err, IfOk, refl, sym, ap, subst}
use Rattle.std.specs.Prelude.{Contains}
use Rattle.std.specs.declared.alloc.AllocError.{AllocError}
use Rattle.std.proofs.lemmas.List.Elements.{All-contains_itself}
use Rattle.std.proofs.lemmas.Option.{same_Some}
use Rattle.doc_update.specs.declared.write.WriteOp.{WriteOp}
use Rattle.doc_update.specs.declared.write.WriteOp.TheVariants as ops
use Rattle.member_config.specs.declared.config.Config.{Config}
use Rattle.rs_optime.proofs.MembershipLemmas.{all_in}
use Rattle.rs_optime.specs.declared.optime.OpTime.{OpTime}
use Rattle.repl_msg.specs.declared.message.Beat.{Beat}
use Rattle.repl_msg.specs.declared.message.Body.{Body}
use Rattle.repl_msg.specs.declared.message.Body.TheVariants as bodies
use Rattle.repl_msg.specs.declared.message.Message.{Message}
use Rattle.repl_msg.specs.declared.message.VoteAsk.{VoteAsk}
use Rattle.safety_laws.proofs.Frame.{task_sent}
use Rattle.set_model.specs.Deliver.{body_refusal, deliver, told, with_term}
use Rattle.set_model.specs.Limits.{write_of}
use Rattle.set_model.specs.Node.{Node}
use Rattle.set_model.specs.Outcome.{refused, replied}
use Rattle.set_model.specs.Rows.{row}
use Rattle.set_model.specs.Stores.{Plan, finished, unless_refused}
use Rattle.set_model.specs.Taking.{CanTake}
use Rattle.set_model.specs.World.{World, takes, task}
use Rattle.set_model.specs.Write.{write}
use Rattle.set_model.specs.declared.command.Command.{Command}
use Rattle.set_model.specs.declared.command.Command.TheVariants.{Campaign, Drain, DryRun, Heartbeat, Report, Common, Fetch, Flush, Checkpoint, Reconfig, Insert, Replace, Update, Delete, Deliver, DeliverLatest, Restart, DiskFail, Clock}
use Rattle.set_model.specs.declared.reply.Refusal.{Refusal}
use Rattle.set_model.specs.declared.reply.Refusal.TheVariants.{NodeDown}
use Rattle.set_model.specs.declared.reply.Reply.{Reply}
use Rattle.checker_node.specs.declared.answer.Answer.{Answer}
use Rattle.checker_node.specs.Done.{Does, IsEnd, Replies}
use Rattle.checker_node.proofs.DoesLemmas.{says}
use Rattle.checker_machine.specs.Hears.{CanHear}
use Rattle.checker_machine.specs.Plain.{is_plain, is_up_only, is_write}
use Rattle.node_state.proofs.TurnLemmas.{while_up}

-- ---- what is finished at once

pub does_end : (plan : Plan) (failed : Option ℕ) (answer : Answer) (new : Node) → IsEnd plan answer new → Does plan failed failed answer new
does_end plan failed answer new is = subst (λ (p : Plan). Does p failed failed answer new) (sym is) (record { outcome = refl; left_is = refl })

pub does_reply : (reply : Reply) (failed : Option ℕ) (answer : Answer) (new : Node) → Replies answer reply [] → Does (finished (replied reply new)) failed failed answer new
does_reply reply failed answer new replies = record { outcome = says reply answer new new refl replies; left_is = refl }

-- ---- a command on a node that is up

-- a command that stores and sends nothing does the same in every set
plain_row : (nodes next : ℕ) (node : Node) (command : Command) → is_plain command ≡ true → row nodes next false node command ≡ row 0 0 false node command
plain_row nodes next node (Campaign number) plain = absurd (cc plain)
plain_row nodes next node (Drain number) plain = absurd (cc plain)
plain_row nodes next node (DryRun number) plain = absurd (cc plain)
plain_row nodes next node (Heartbeat number to) plain = absurd (cc plain)
plain_row nodes next node (Report number to) plain = absurd (cc plain)
plain_row nodes next node (Common number to) plain = absurd (cc plain)
plain_row nodes next node (Fetch number) plain = absurd (cc plain)
plain_row nodes next node (Flush number) plain = absurd (cc plain)
plain_row nodes next node (Checkpoint number) plain = absurd (cc plain)
plain_row nodes next node (Reconfig number config) plain = absurd (cc plain)
plain_row nodes next node (Restart number) plain = absurd (cc plain)
plain_row nodes next node _ plain = refl

pub does_plainly : (nodes next : ℕ) (node : Node) (command : Command) (failed : Option ℕ) (reply : Reply) (answer : Answer) (new : Node) → is_plain command ≡ true
    → row 0 0 false node command ≡ finished (replied reply new) → Replies answer reply [] → Does (row nodes next false node command) failed failed answer new
does_plainly nodes next node command failed reply answer new plain is replies =
    subst (λ (p : Plan). Does p failed failed answer new) (sym (plain_row nodes next node command plain ∙ is)) (does_reply reply failed answer new replies)

-- a write in one step
write_row : (node : Node) (command : Command) (op : WriteOp) → node.up ≡ true → is_write command ≡ true → write_of command ≡ Some op → row 0 0 false node command ≡ finished (write node op)
write_row node (Insert number collection document) op up is asked = while_up node (finished (write node (ops.Insert collection document))) up ∙ ap (λ (w : WriteOp). finished (write node w)) (same_Some _ op asked)
write_row node (Replace number collection id document) op up is asked = while_up node (finished (write node (ops.Replace collection id document))) up ∙ ap (λ (w : WriteOp). finished (write node w)) (same_Some _ op asked)
write_row node (Update number collection id operators) op up is asked = while_up node (finished (write node (ops.Update collection id operators))) up ∙ ap (λ (w : WriteOp). finished (write node w)) (same_Some _ op asked)
write_row node (Delete number collection id) op up is asked = while_up node (finished (write node (ops.Delete collection id))) up ∙ ap (λ (w : WriteOp). finished (write node w)) (same_Some _ op asked)
write_row node _ op up is asked = absurd (cc is)

pub writes_so : (node new : Node) (command : Command) (op : WriteOp) (result : Result Reply AllocError) → node.up ≡ true → is_write command ≡ true → write_of command ≡ Some op
    → IfOk result (λ reply. write node op ≡ replied reply new) → IfOk result (λ reply. row 0 0 false node command ≡ finished (replied reply new))
writes_so node new command op (Err why) up is asked does = tt
writes_so node new command op (Ok reply) up is asked does = write_row node command op up is asked ∙ ap finished does

-- what is no command of these is plain
pub others_are_plain : (command : Command) → is_up_only command ≡ true → ((n : ℕ) → command ≡ Campaign n → ⊥) → ((n : ℕ) → command ≡ Drain n → ⊥) → ((n : ℕ) → command ≡ DryRun n → ⊥)
    → ((n to : ℕ) → command ≡ Heartbeat n to → ⊥) → ((n to : ℕ) → command ≡ Report n to → ⊥) → ((n to : ℕ) → command ≡ Common n to → ⊥) → ((n : ℕ) → command ≡ Fetch n → ⊥)
    → ((n : ℕ) → command ≡ Flush n → ⊥) → ((n : ℕ) → command ≡ Checkpoint n → ⊥) → ((n : ℕ) (config : Config) → command ≡ Reconfig n config → ⊥) → is_plain command ≡ true
others_are_plain (Campaign n) only a b c d e f g h i j = absurd (a n refl)
others_are_plain (Drain n) only a b c d e f g h i j = absurd (b n refl)
others_are_plain (DryRun n) only a b c d e f g h i j = absurd (c n refl)
others_are_plain (Heartbeat n to) only a b c d e f g h i j = absurd (d n to refl)
others_are_plain (Report n to) only a b c d e f g h i j = absurd (e n to refl)
others_are_plain (Common n to) only a b c d e f g h i j = absurd (f n to refl)
others_are_plain (Fetch n) only a b c d e f g h i j = absurd (g n refl)
others_are_plain (Flush n) only a b c d e f g h i j = absurd (h n refl)
others_are_plain (Checkpoint n) only a b c d e f g h i j = absurd (i n refl)
others_are_plain (Reconfig n config) only a b c d e f g h i j = absurd (j n config refl)
others_are_plain (Restart n) only a b c d e f g h i j = absurd (cc only)
others_are_plain (DiskFail n disk call pick) only a b c d e f g h i j = absurd (cc only)
others_are_plain (Clock n seconds) only a b c d e f g h i j = absurd (cc only)
others_are_plain (Deliver message) only a b c d e f g h i j = absurd (cc only)
others_are_plain (DeliverLatest from to) only a b c d e f g h i j = absurd (cc only)
others_are_plain _ only a b c d e f g h i j = refl

-- ---- a message

pub can_hear : (node : Node) (message : Message) → CanTake node message → CanHear message
can_hear node message can reply is = record { order = (can.fetched reply is).order; base = (can.fetched reply is).base }

pub deliver_down : (next : ℕ) (node : Node) (message : Message) → node.up ≡ false → deliver next node message ≡ finished (refused NodeDown node)
deliver_down next node message down =
    let plan : Plan = unless_refused (body_refusal node message.term message.body) node (with_term node message (told next message.from message.term message.body)) in
    ap (λ b. cond b plan (finished (refused NodeDown node))) down

deliver_so : (next : ℕ) (node : Node) (message : Message) (why : Option Refusal) → node.up ≡ true → why ≡ body_refusal node message.term message.body
    → deliver next node message ≡ unless_refused why node (with_term node message (told next message.from message.term message.body))
deliver_so next node message why up is =
    let plan : Plan = with_term node message (told next message.from message.term message.body) in
    while_up node (unless_refused (body_refusal node message.term message.body) node plan) up ∙ ap (λ (w : Option Refusal). unless_refused w node plan) (sym is)

pub deliver_refused : (next : ℕ) (node : Node) (message : Message) (why : Refusal) → node.up ≡ true → Some why ≡ body_refusal node message.term message.body → deliver next node message ≡ finished (refused why node)
deliver_refused next node message why up is = deliver_so next node message (Some why) up is

pub deliver_taken : (next : ℕ) (node : Node) (message : Message) → node.up ≡ true → None ≡ body_refusal node message.term message.body
    → deliver next node message ≡ with_term node message (told next message.from message.term message.body)
deliver_taken next node message up is = deliver_so next node message None up is

pub ruleset deliveries = (deliver_down, deliver_refused, deliver_taken)

-- a body that stores and sends nothing does the same, whatever the number of the next message
told_alike : (next from term : ℕ) (node : Node) (body : Body) → ((base : OpTime) → body ≡ bodies.Fetch base → ⊥) → ((ask : VoteAsk) → body ≡ bodies.VoteAsk ask → ⊥) → ((beat : Beat) → body ≡ bodies.Heartbeat beat → ⊥)
    → ((beat : Beat) → body ≡ bodies.HeartbeatReply beat → ⊥) → ((commit : OpTime) → body ≡ bodies.CommonAsk commit → ⊥)
    → ((after : OpTime) (optimes : List OpTime) (visible : OpTime) → body ≡ bodies.CommonReply after optimes visible → ⊥) → told next from term body node ≡ told 0 from term body node
told_alike next from term node (bodies.FetchReply reply) a b c d e f = refl
told_alike next from term node (bodies.Report config durable) a b c d e f = refl
told_alike next from term node (bodies.VoteReply asked dry why) a b c d e f = refl
told_alike next from term node (bodies.Fetch base) a b c d e f = absurd (a base refl)
told_alike next from term node (bodies.VoteAsk ask) a b c d e f = absurd (b ask refl)
told_alike next from term node (bodies.Heartbeat beat) a b c d e f = absurd (c beat refl)
told_alike next from term node (bodies.HeartbeatReply beat) a b c d e f = absurd (d beat refl)
told_alike next from term node (bodies.CommonAsk commit) a b c d e f = absurd (e commit refl)
told_alike next from term node (bodies.CommonReply after optimes visible) a b c d e f = absurd (f after optimes visible refl)

pub does_told : (next from term : ℕ) (node new : Node) (body : Body) (failed : Option ℕ) (result : Result Answer AllocError)
    → ((base : OpTime) → body ≡ bodies.Fetch base → ⊥) → ((ask : VoteAsk) → body ≡ bodies.VoteAsk ask → ⊥) → ((beat : Beat) → body ≡ bodies.Heartbeat beat → ⊥)
    → ((beat : Beat) → body ≡ bodies.HeartbeatReply beat → ⊥) → ((commit : OpTime) → body ≡ bodies.CommonAsk commit → ⊥)
    → ((after : OpTime) (optimes : List OpTime) (visible : OpTime) → body ≡ bodies.CommonReply after optimes visible → ⊥)
    → IfOk result (λ answer. IsEnd (told 0 from term body node) answer new) → IfOk result (λ answer. Does (told next from term body node) failed failed answer new)
does_told next from term node new body failed (Err why) a b c d e f ends = tt
does_told next from term node new body failed (Ok answer) a b c d e f ends = does_end (told next from term body node) failed answer new (told_alike next from term node body a b c d e f ∙ ends)

-- ---- a message that is delivered was sent

pub delivered_sent : (world : World) (command : Command) (message : Message) → task world command ≡ takes message → Contains world.messages message
delivered_sent world command message is =
    all_in (Contains world.messages) world.messages message (All-contains_itself world.messages) (task_sent world command message is)
