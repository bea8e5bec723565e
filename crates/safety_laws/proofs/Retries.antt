-- Each retried write once: a client is told the only optime at which the log has its write.
use Rattle.std.proofs.Common.{◌≡◌, ◌∙◌, ap, sym, subst, refl, ℕ, suc, Bool, true, false, if◌then◌else◌, Option, None, Some, Result, Ok, Err, slice_get, List, [], ◌∷◌}
use Rattle.std.specs.Prelude.{option_and_then}
use Rattle.std.proofs.lemmas.Option.{same_Some}
use Rattle.rs_optime.specs.declared.optime.OpTime.{OpTime}
use Rattle.doc_update.specs.declared.write.WriteOp.{WriteOp}
use Rattle.doc_update.specs.declared.write.Prepared.{Prepared}
use Rattle.doc_update.specs.declared.write.Prepared.TheVariants as prepared
use Rattle.oplog_entry.specs.declared.entry.Entry.{Entry}
use Rattle.oplog_entry.specs.declared.entry.Session.{Session}
use Rattle.set_model.specs.declared.command.Command.TheVariants as commands
use Rattle.set_model.specs.declared.command.Event.{Event}
use Rattle.set_model.specs.declared.reply.Refusal.{Refusal}
use Rattle.set_model.specs.declared.reply.Refusal.TheVariants.{NodeDown}
use Rattle.set_model.specs.declared.reply.Reply.TheVariants as reply
use Rattle.set_model.specs.Admitted.{admitted}
use Rattle.set_model.specs.Limits.{IsRun}
use Rattle.set_model.specs.Node.{Node}
use Rattle.set_model.specs.Outcome.{Outcome, refused}
use Rattle.set_model.specs.Points.{next_optime}
use Rattle.set_model.specs.Run.{Sizes, AreSizes, opening, world_at}
use Rattle.set_model.specs.Safety as safety
use Rattle.set_model.specs.Sessions.{is_past, last_write}
use Rattle.set_model.specs.Stores.{Plan}
use Rattle.set_model.specs.World.{World, task, touched_node, plan_of, by_plan, step}
use Rattle.set_model.specs.Write.{written, retry}
use Rattle.set_model.proofs.RetryLemmas.{retry_cases}
use Rattle.set_model.proofs.SessionLemmas.{Ascends, found_once, once_each, optimes, pairs_up, writes, written_once}
use Rattle.safety_laws.proofs.Frame.{RowsTied, DeliveriesTied, world_next}
use Rattle.safety_laws.proofs.FitNodes.{IsFit, standing_of}
use Rattle.safety_laws.proofs.FitRuns.{fit_at}
use Rattle.safety_laws.proofs.Logged.{next_entry, logged_log}
use Rattle.safety_laws.proofs.Places.{get_set_same}
use Rattle.safety_laws.proofs.Rel.{HasLog}
use Rattle.safety_laws.proofs.Runs.{up_of}

-- ---- one step

-- where a write is told, the log has it once, there
abbrev HasOnce : Session → OpTime → Outcome → Type 0
HasOnce session at outcome = outcome.reply ≡ reply.Written at → optimes (writes session outcome.node.log) ≡ at ∷ []

point_is : (one two : OpTime) → reply.Written one ≡ reply.Written two → one ≡ two
point_is one two same = cc same

retry_once : (node : Node) (session : Session) (op : WriteOp) (at : OpTime) → HasLog node → Ascends node.log → HasOnce session at (retry node session op)
retry_once node session op at log up = retry_cases (HasOnce session at) node session op
    (λ why told. absurd (cc told))
    (λ last is same told. found_once session node.log last up is same ∙ ap (λ o. o ∷ []) (point_is last.at at told))
    (λ primary past. new past (admitted node op))
  where
    new : is_past (last_write session.id node.log) session.number ≡ true → (found : Result Prepared Refusal) → HasOnce session at (written node (Some session) found)
    new past (Err why) told = absurd (cc told)
    new past (Ok prepared.NoMatch) told = absurd (cc told)
    new past (Ok prepared.Unchanged) told = absurd (cc told)
    new past (Ok (prepared.Entry logged after)) told =
        ap (λ (l : List Entry). optimes (writes session l)) (logged_log node logged (Some session) log)
        ∙ ap optimes (written_once session node.log (next_entry node logged (Some session)) refl past)
        ∙ ap (λ o. o ∷ []) (point_is (next_optime node) at told)

-- ---- one event

record HasTold (world new : World) (number : ℕ) (session : Session) (op : WriteOp) (at : OpTime) : Type 0 where
  node : Node
  before : slice_get world.nodes number ≡ Some node
  up : node.up ≡ true
  there : slice_get new.nodes number ≡ Some (retry node session op).node
  told : (retry node session op).reply ≡ reply.Written at

retry_step : (world : World) (event : Event) (own : ℕ) (session : Session) (op : WriteOp) (at : OpTime) → event.command ≡ commands.Retry own session op → (step world event).reply ≡ reply.Written at
    → HasTold world (step world event).world (touched_node world event.command) session op at
retry_step world event own session op at is = at_node (slice_get world.nodes number) refl
  where
    number : ℕ
    number = touched_node world event.command

    by : Node → Option Plan
    by node = plan_of world event (task world event.command) node

    by_is : (node : Node) → by node ≡ Some (if node.up then Plan.finished (retry node session op) else Plan.finished (refused NodeDown node))
    by_is node = ap (λ c. plan_of world event (task world c) node) is ∙ ap (λ c. plan_of world (record event { command = c }) (task world (commands.Retry own session op)) node) is

    go : (node : Node) → slice_get world.nodes number ≡ Some node → (up : Bool) → node.up ≡ up
        → (by_plan world event (Some (if up then Plan.finished (retry node session op) else Plan.finished (refused NodeDown node)))).reply ≡ reply.Written at
        → HasTold world (by_plan world event (Some (if up then Plan.finished (retry node session op) else Plan.finished (refused NodeDown node)))).world number session op at
    go node there false up told = absurd (cc told)
    go node there true up told = record { node = node; before = there; up = up; there = get_set_same world.nodes number _ node there; told = told }

    at_node : (found : Option Node) → slice_get world.nodes number ≡ found → (by_plan world event (option_and_then by found)).reply ≡ reply.Written at
        → HasTold world (by_plan world event (option_and_then by found)).world number session op at
    at_node None there told = absurd (cc told)
    at_node (Some node) there told =
        subst (λ p. HasTold world (by_plan world event p).world number session op at) (sym (by_is node))
        (go node there node.up refl (subst (λ p. (by_plan world event p).reply ≡ reply.Written at) (by_is node) told))

-- ---- the clause

module _ (rows_tied : RowsTied) (deliveries_tied : DeliveriesTied) (sizes : Sizes) (events : List Event) (are : AreSizes sizes) (is : IsRun sizes events) where
  fit : (place number : ℕ) (node : Node) → safety.IsAt sizes events place number node → IsFit (standing_of node)
  fit = fit_at rows_tied deliveries_tied sizes events are is

  -- 8. Each retried write once.
  pub retried_once : safety.RetriedOnce sizes events
  retried_once = record {
    once = λ i n node at session. once_each session node.log (fit i n node at).ascends;
    rise = λ i n node at. pairs_up node.log (fit i n node at).ascends;
    told = told;
  }
    where
      told : (k n number : ℕ) (event : Event) (at : OpTime) (session : Session) (op : WriteOp) (node : Node) → safety.Answers sizes events k n event (reply.Written at)
          → event.command ≡ commands.Retry number session op → safety.IsAt sizes events (suc k) n node → optimes (writes session node.log) ≡ at ∷ []
      told k n number event at session op node answers asks node_at =
          let did : HasTold (world_at sizes events k) (step (world_at sizes events k) event).world (touched_node (world_at sizes events k) event.command) session op at =
          retry_step (world_at sizes events k) event number session op at asks answers.reply_is in
          let before : safety.IsAt sizes events k n did.node =
          record { there = ap (λ v. slice_get (world_at sizes events k).nodes v) (sym answers.touches) ∙ did.before; up = did.up } in
          let there : slice_get (step (world_at sizes events k) event).world.nodes n ≡ Some node =
          ap (λ (w : World). slice_get w.nodes n) (sym (world_next (opening sizes) events k event answers.event_is)) ∙ node_at.there in
          let same : (retry did.node session op).node ≡ node =
          same_Some (retry did.node session op).node node (sym did.there ∙ ap (λ v. slice_get (step (world_at sizes events k) event).world.nodes v) answers.touches ∙ there) in
          subst (λ (x : Node). optimes (writes session x.log) ≡ at ∷ []) same
          (retry_once did.node session op at (up_of rows_tied deliveries_tied sizes events are is k n did.node before).1.log (fit k n did.node before).ascends did.told)
