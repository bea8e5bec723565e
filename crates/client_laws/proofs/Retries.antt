-- The answer to a retry of an acknowledged write.
use Rattle.std.proofs.Common.{◌≡◌, ◌≤◌, ◌<◌, ◌∙◌, ◌==◌, inl, inr, ap, sym, subst, arith, refl, ltb-true, ltb-false, eq-eqb, ℕ, suc, Bool, true, false, nat_lt, map, filter, Option, None, Some, List, [], ◌∷◌, slice_get}
use Rattle.std.proofs.lemmas.Option.{same_Some}
use Rattle.std.specs.Prelude.{◌⊎◌, option_and_then, if◌then◌else◌}
use Rattle.rs_optime.specs.Membership.{In}
use Rattle.rs_optime.specs.declared.optime.OpTime.{OpTime}
use Rattle.rs_optime.proofs.MembershipLemmas.{in_filter}
use Rattle.rs_optime.proofs.Optimes.{at_most_refl}
use Rattle.doc_update.specs.declared.write.WriteOp.{WriteOp}
use Rattle.oplog_entry.specs.Visible.{log_up_to}
use Rattle.oplog_entry.specs.declared.entry.Entry.{Entry}
use Rattle.oplog_entry.specs.declared.entry.Session.{Session}
use Rattle.set_model.specs.declared.command.Command.TheVariants as commands
use Rattle.set_model.specs.declared.command.Event.{Event}
use Rattle.set_model.specs.declared.reply.Refusal.TheVariants.{NodeDown, NotPrimary, OldNumber}
use Rattle.set_model.specs.declared.reply.Reply.{Reply}
use Rattle.set_model.specs.declared.reply.Reply.TheVariants as reply
use Rattle.set_model.specs.declared.role.Role.TheVariants.{Primary}
use Rattle.set_model.specs.declared.session.LastWrite.{LastWrite}
use Rattle.set_model.specs.Node.{Node}
use Rattle.set_model.specs.Outcome.{Outcome, refused, replied}
use Rattle.set_model.specs.Points.{if_primary}
use Rattle.set_model.specs.Roles.{is_leading}
use Rattle.set_model.specs.Run.{Sizes, world_at}
use Rattle.set_model.specs.Safety.{Answers, IsAt, Safe}
use Rattle.set_model.specs.Sessions.{is_past, is_write, last_write}
use Rattle.set_model.specs.Stores.{Plan}
use Rattle.set_model.specs.World.{World, by_plan, plan_of, step, task, touched_node}
use Rattle.set_model.specs.Write.{retried, retry, write_in}
use Rattle.set_model.proofs.SessionLemmas.{all_below, is_write_of}
use Rattle.safety_laws.specs.Logs.{LeadersKeep, LogsRise}
use Rattle.safety_laws.proofs.Merges.{into_filter}
use Rattle.linear_read.specs.Written.{EntriesAreWritten}
use Rattle.linear_read.proofs.Asked.{DidAt, did_at}
use Rattle.linear_read.proofs.Events.{did}
use Rattle.client_laws.specs.Linearizable.{ConfirmedLogsAreExact}
use Rattle.client_laws.specs.Told.{ConfirmedRetriesAreAcknowledged, GreaterNumbersAreTold, IsAckedWrite, IsPrimarySince, IsRetried, RetriesAreTold}
use Rattle.client_laws.proofs.Acked.{in_begins, in_up_to, stays, tells}
use Rattle.client_laws.proofs.Exact.{writer_keeps}

-- ---- the reply to a retry

-- a node that is up answers the event with its row
retry_reply : (world : World) (event : Event) (own : ℕ) (session : Session) (op : WriteOp) (node : Node) → event.command ≡ commands.Retry own session op
    → slice_get world.nodes (touched_node world event.command) ≡ Some node → node.up ≡ true → (step world event).reply ≡ (retry node session op).reply
retry_reply world event own session op node is there up =
    ap (λ found. (by_plan world event (option_and_then by found)).reply) there
    ∙ ap (λ plan. (by_plan world event plan).reply) by_is
    ∙ ap (λ b. (by_plan world event (Some (if b then Plan.finished (retry node session op) else Plan.finished (refused NodeDown node)))).reply) up
  where
    by : Node → Option Plan
    by n = plan_of world event (task world event.command) n

    by_is : by node ≡ Some (if node.up then Plan.finished (retry node session op) else Plan.finished (refused NodeDown node))
    by_is = ap (λ c. plan_of world event (task world c) node) is ∙ ap (λ c. plan_of world (record event { command = c }) (task world (commands.Retry own session op)) node) is

-- where a log has a write of the session, the last one's number is no less
record HasLast (session : Session) (log : List Entry) (number : ℕ) : Type 0 where
  last : LastWrite
  is : last_write session.id log ≡ Some last
  within : number ≤ last.number

last_of_entry : (session own : Session) (log : List Entry) (entry : Entry) → own.id ≡ session.id → entry.session ≡ Some own → In entry log → HasLast session log own.number
last_of_entry session own log entry same is there = by (last_write session.id log) refl
  where
    not_past : is_past (last_write session.id log) own.number ≡ true → ⊥
    not_past past = let less : own.number < own.number = all_below session.id own.number log past entry there own is same in absurd (omega (arith, less))

    by : (found : Option LastWrite) → last_write session.id log ≡ found → HasLast session log own.number
    by None found_is = absurd (not_past (ap (λ l. is_past l own.number) found_is))
    by (Some last) found_is = record { last = last; is = found_is; within = ltb-false last.number own.number (go (nat_lt last.number own.number) refl) }
      where
        go : (b : Bool) → nat_lt last.number own.number ≡ b → nat_lt last.number own.number ≡ false
        go true past = absurd (not_past (ap (λ l. is_past l own.number) found_is ∙ past))
        go false past = past

-- a retry whose number isn't past the last is told it, or is too old
record TellsLast (session : Session) (last : LastWrite) (node : Node) (outcome : Outcome) : Type 0 where
  tells : ((outcome ≡ replied (reply.Written last.at) node) × (last.number ≡ session.number)) ⊎ ((session.number < last.number) × (outcome.reply ≡ reply.Refused (OldNumber last.number)))

tells_last : (node : Node) (session : Session) (op : WriteOp) (last : LastWrite) → node.role ≡ Primary → last_write session.id node.log ≡ Some last → session.number ≤ last.number
    → TellsLast session last node (retry node session op)
tells_last node session op last primary is within =
    subst (λ o. TellsLast session last node o) (sym (ap (λ role. if_primary role (retried node session op (last_write session.id node.log)) (refused NotPrimary node)) primary ∙ ap (retried node session op) is))
    (by (nat_lt session.number last.number) (last.number == session.number) refl refl)
  where
    by : (less same : Bool) → nat_lt session.number last.number ≡ less → (last.number == session.number) ≡ same
        → TellsLast session last node (if less then refused (OldNumber last.number) node else if same then replied (reply.Written last.at) node else write_in node (Some session) op)
    by true same less equal = record { tells = inr (ltb-true session.number last.number less, refl) }
    by false same less equal =
        let order : last.number ≤ session.number = ltb-false session.number last.number less in
        let both : last.number ≡ session.number = omega (arith, order, within) in
        told same equal both
      where
        told : (same : Bool) → (last.number == session.number) ≡ same → last.number ≡ session.number
            → TellsLast session last node (if same then replied (reply.Written last.at) node else write_in node (Some session) op)
        told true equal both = record { tells = inl (refl, both) }
        told false equal both = absurd (cc (equal, eq-eqb last.number session.number both))

-- ---- lists of optimes

in_optimes : (entry : Entry) (log : List Entry) → In entry log → In entry.optime (map (λ (e : Entry). e.optime) log)
in_optimes entry [] there = absurd there
in_optimes entry (first ∷ log) (inl same) = inl (ap (λ (e : Entry). e.optime) same)
in_optimes entry (first ∷ log) (inr there) = inr (in_optimes entry log there)

only_one : (log : List Entry) (at : OpTime) → map (λ (e : Entry). e.optime) log ≡ at ∷ [] → (entry : Entry) × In entry log × (entry.optime ≡ at)
only_one [] at none = absurd (cc none)
only_one (entry ∷ log) at one = (entry, inl refl, cc one)

-- ---- the laws

module _ (sizes : Sizes) (events : List Event) (safe : Safe sizes events) (logs : LogsRise sizes events) (keeps : LeadersKeep sizes events) (written : EntriesAreWritten sizes events) where
  has_entry : (session : Session) (entry : Entry) → IsAckedWrite sizes events session entry → (place number : ℕ) (node : Node) → IsPrimarySince sizes events entry place number node → In entry node.log
  has_entry session entry acked place number node by = elim by.since [
    | inl later ↦
        let own : acked.node.term ≡ entry.optime.term = (tells sizes events safe logs keeps written acked.place acked.number entry.optime acked.node acked.acked).leads.term_is in
        in_begins entry (log_up_to entry.optime acked.node.log) node.log
        ((stays sizes events safe logs keeps written acked.place acked.number entry.optime acked.node acked.acked).1 place number node.term node
        (record { at = by.node_at; term_is = refl; role = ap is_leading by.role }) (omega (arith, own, later)))
        (in_up_to entry entry.optime acked.node.log acked.there (at_most_refl entry.optime))
    | inr same ↦ writer_keeps sizes events safe logs keeps written place number node entry same.1 (record { at = by.node_at; term_is = sym same.0; role = ap is_leading by.role })
  ]

  module _ (session : Session) (entry : Entry) (answer : Reply) (asked : IsRetried sizes events session entry answer) where
    abbrev does : Node → Outcome
    does node = retry node session asked.op

    reply_is : (does asked.node).reply ≡ answer
    reply_is = sym (retry_reply (world_at sizes events asked.place) asked.event asked.own session asked.op asked.node asked.command_is
        (ap (λ v. slice_get (world_at sizes events asked.place).nodes v) asked.answers.touches ∙ asked.by.node_at.there) asked.by.node_at.up) ∙ asked.answers.reply_is

    -- what the last write of the session is told of
    last_tells : (own : Session) → own.id ≡ session.id → session.number ≤ own.number → IsAckedWrite sizes events own entry
        → (found : HasLast session asked.node.log own.number) × TellsLast session found.last asked.node (does asked.node)
    last_tells own same within acked =
        let found : HasLast session asked.node.log own.number =
        last_of_entry session own asked.node.log entry same acked.session_is (has_entry own entry acked asked.place asked.number asked.node asked.by) in
        let most : own.number ≤ found.last.number = found.within in
        (found, tells_last asked.node session asked.op found.last asked.by.role found.is (omega (arith, within, most)))

    -- where it is told, it is told the entry's optime
    told_here : IsAckedWrite sizes events session entry → (at : OpTime) → does asked.node ≡ replied (reply.Written at) asked.node → answer ≡ reply.Written entry.optime
    told_here acked at is = told ∙ ap reply.Written (elim only [ inl same ↦ same | inr none ↦ absurd none ])
      where
        told : answer ≡ reply.Written at
        told = sym reply_is ∙ ap (λ (o : Outcome). o.reply) is

        answers : Answers sizes events asked.place asked.number asked.event (reply.Written at)
        answers = subst (λ r. Answers sizes events asked.place asked.number asked.event r) told asked.answers

        there : DidAt sizes events asked.place asked.number does (reply.Written at)
        there = did_at sizes events asked.place asked.number asked.event does (reply.Written at) answers
            (did (world_at sizes events asked.place) asked.event (commands.Retry asked.own session asked.op) asked.own does (reply.Written at) asked.command_is refl (λ n. refl) refl answers.reply_is)

        same_node : there.node ≡ asked.node
        same_node = same_Some there.node asked.node (sym there.before.there ∙ asked.by.node_at.there)

        after : IsAt sizes events (suc asked.place) asked.number asked.node
        after = record {
          there = there.next ∙ ap (λ n. Some (does n).node) same_node ∙ ap (λ (o : Outcome). Some o.node) is;
          up = asked.by.node_at.up;
        }

        only : In entry.optime (at ∷ [])
        only = subst (λ l. In entry.optime l) (safe.retried_once.told asked.place asked.number asked.own asked.event at session asked.op asked.node answers asked.command_is after)
            (in_optimes entry (filter (is_write session) asked.node.log)
            (into_filter (is_write session) entry asked.node.log (has_entry session entry acked asked.place asked.number asked.node asked.by) (is_write_of session entry acked.session_is)))

  pub retries_told : RetriesAreTold sizes events
  retries_told session entry answer acked asked =
      let found : (last : HasLast session asked.node.log session.number) × TellsLast session last.last asked.node (does session entry answer asked asked.node) =
      last_tells session entry answer asked session refl (omega arith) acked in
      elim found.1.tells [
        | inl told ↦ inl (told_here session entry answer asked acked found.0.last.at told.0)
        | inr old ↦ inr (found.0.last.number, (let less : session.number < found.0.last.number = old.0 in omega (arith, less)), sym (reply_is session entry answer asked) ∙ old.1)
      ]

  pub greater_told : GreaterNumbersAreTold sizes events
  greater_told session greater entry answer same less acked asked =
      let found : (last : HasLast session asked.node.log greater.number) × TellsLast session last.last asked.node (does session entry answer asked asked.node) =
      last_tells session entry answer asked greater same (omega (arith, less)) acked in
      let within : greater.number ≤ found.0.last.number = found.0.within in
      elim found.1.tells [
        | inl told ↦ let level : found.0.last.number ≡ session.number = told.1 in absurd (omega (arith, level, less, within))
        | inr old ↦ (found.0.last.number, within, sym (reply_is session entry answer asked) ∙ old.1)
      ]

  pub confirmed_told : ConfirmedLogsAreExact sizes events → ConfirmedRetriesAreAcknowledged sizes events
  confirmed_told exact place number own event session op at node answers command_is confirmed =
      let one : (entry : Entry) × In entry (filter (is_write session) node.log) × (entry.optime ≡ at) =
      only_one (filter (is_write session) node.log) at (safe.retried_once.told place number own event at session op node answers command_is confirmed.node_at) in
      let both : In one.0 node.log × (is_write session one.0 ≡ true) = in_filter (is_write session) node.log one.0 one.1 in
      (one.0, one.2, both.1, ((exact (suc place) number node confirmed).no_more one.0 both.0).0)
