use Rattle.std.proofs.Common.{◌∙◌, ◌<◌, ⊎_elim, inl, inr, subst, sym}
use Rattle.std.proofs.lemmas.Result.{err_from_is_err_and}
use Rattle.repl_msg.proofs.HasLemmas.{same_is}
use Rattle.oplog_entry.specs.Visible.{ZERO}
use Rattle.set_model.specs.declared.command.Command.TheVariants as commands
use Rattle.set_model.specs.declared.command.ReadLevel.TheVariants.{Majority}
use Rattle.set_model.specs.declared.reply.Reply.TheVariants as reply
use Rattle.set_model.specs.Run.{Sizes}
use Rattle.set_model.specs.Safety.{Safe}
use Rattle.safety_laws.specs.Bounds.{NumbersStaySmall}
use Rattle.safety_laws.specs.Logs.{LogsRise}
use Rattle.safety_laws.specs.Majority.{MajorityLogsAreFit}
use Rattle.initial_sync.specs.Pinned.{listed_of}
use Rattle.sync_pin.specs.Asking.{IsUpIn, Tells}
use Rattle.sync_pin.proofs.AskLemmas.{documents_stop, log_stops, not_zero, nothing_committed, point_stops}
use Rattle.sync_pin.proofs.PinLemmas.{leaders_begin, pinned_so}
use Rattle.sync_pin.proofs.asking.ask_all.Goals as goal

-- ---- the sizes stay from step to step

pub ask_point-requires-clause-node : goal.ask_point-requires-clause-node
ask_point-requires-clause-node g c κs within = c.requires.room.0

pub ask_entries-requires-clause-node : goal.ask_entries-requires-clause-node
ask_entries-requires-clause-node g c κs within = subst (λ (s : Sizes). c.args.node < s.nodes) (sym c.ask_point.ensures.sizes) c.requires.room.0

pub ask_entries-requires-clause-up : goal.ask_entries-requires-clause-up
ask_entries-requires-clause-up g c κs within =
    subst (λ (s : Sizes). IsUpIn s c.args.node (g.S.Stepper.known c.ask_point.new.set)) (sym c.ask_point.ensures.sizes) c.in_ok-term.ensures.up

pub ask_documents-requires-clause-node : goal.ask_documents-requires-clause-node
ask_documents-requires-clause-node g c κs within =
    subst (λ (s : Sizes). c.args.node < s.nodes) (sym (c.ask_entries.ensures.sizes ∙ c.ask_point.ensures.sizes)) c.requires.room.0

pub ask_documents-requires-clause-up : goal.ask_documents-requires-clause-up
ask_documents-requires-clause-up g c κs within =
    subst (λ (s : Sizes). IsUpIn s c.args.node (g.S.Stepper.known c.ask_entries.new.set)) (sym c.ask_entries.ensures.sizes) c.in_ok-entries.ensures.up

-- ---- how it may end

pub returns-in_err-term-clause-asks : goal.returns-in_err-term-clause-asks
returns-in_err-term-clause-asks g c =
    let p = err_from_is_err_and c.from_residual.result c.from_residual.ensures.1 in
    rw (p.1, p.2) (point_stops (g.S.Stepper.sizes c.args.set.now) c.args.node (g.S.Stepper.known c.args.set.now) (g.S.Stepper.known c.ask_point.new.set) c.in_err-term.field-0.0 c.requires.room c.in_err-term.ensures.asks)

pub returns-then-eq-clause-asks : goal.returns-then-eq-clause-asks
returns-then-eq-clause-asks g c =
    nothing_committed (g.S.Stepper.sizes c.args.set.now) c.args.node (g.S.Stepper.known c.args.set.now) (g.S.Stepper.known c.ask_point.new.set) c.in_ok-term.term c.in_ok-term.at c.requires.room c.in_ok-term.ensures.asks (same_is c.in_ok-term.at ZERO (sym c.eq.ensures ∙ c.if-eq.true))

pub returns-in_err-entries-clause-asks : goal.returns-in_err-entries-clause-asks
returns-in_err-entries-clause-asks g c =
    let p = err_from_is_err_and c.from_residual-in_err-entries.result c.from_residual-in_err-entries.ensures.1 in
    rw (p.1, p.2) (log_stops (g.S.Stepper.sizes c.args.set.now) c.args.node (g.S.Stepper.known c.args.set.now) (g.S.Stepper.known c.ask_point.new.set) c.in_ok-term.term c.in_ok-term.at c.requires.room c.in_ok-term.ensures.asks
    (not_zero c.in_ok-term.at c.eq.result c.eq.ensures c.if-eq.false) (g.S.Stepper.known c.ask_entries.new.set) c.in_err-entries.field-0.0 c.in_err-entries.ensures.err.0 c.in_err-entries.ensures.err.1)

pub returns-in_err-entries-clause-stays : goal.returns-in_err-entries-clause-stays
returns-in_err-entries-clause-stays g c =
    g.met.S.Stepper.stays_on c.args.set.now c.ask_point.new.set c.ask_entries.new.set c.ask_point.ensures.stays c.ask_entries.ensures.stays

pub returns-in_err-documents-clause-asks : goal.returns-in_err-documents-clause-asks
returns-in_err-documents-clause-asks g c =
    let sizes = g.S.Stepper.sizes c.args.set.now in
    let first = g.S.Stepper.known c.ask_point.new.set in
    let second = g.S.Stepper.known c.ask_entries.new.set in
    let new = g.S.Stepper.known c.ask_documents.new.set in
    let log = c.in_ok-entries.ensures.ok in
    let asks_log = subst (λ (s : Sizes). Tells s first second (commands.Log c.args.node) (reply.Entries log.0)) c.ask_point.ensures.sizes log.1 in
    let broke = ⊎_elim (λ same. inl same)
    (λ told. inr (told.0, subst (λ (s : Sizes). Tells s second new (commands.Dump c.args.node Majority) told.0) (c.ask_entries.ensures.sizes ∙ c.ask_point.ensures.sizes) told.1)) c.in_err-documents.ensures.err.1 in
    let p = err_from_is_err_and c.from_residual-in_err-documents.result c.from_residual-in_err-documents.ensures.1 in
    rw (p.1, p.2) (documents_stop sizes c.args.node (g.S.Stepper.known c.args.set.now) first c.in_ok-term.term c.in_ok-term.at c.requires.room c.in_ok-term.ensures.asks
    (not_zero c.in_ok-term.at c.eq.result c.eq.ensures c.if-eq.false) second log.0 asks_log new c.in_err-documents.field-0.0 c.in_err-documents.ensures.err.0 broke)

pub returns-in_err-documents-clause-stays : goal.returns-in_err-documents-clause-stays
returns-in_err-documents-clause-stays g c =
    g.met.S.Stepper.stays_on c.args.set.now c.ask_entries.new.set c.ask_documents.new.set
    (g.met.S.Stepper.stays_on c.args.set.now c.ask_point.new.set c.ask_entries.new.set c.ask_point.ensures.stays c.ask_entries.ensures.stays) c.ask_documents.ensures.stays

pub returns-clause-asks : goal.returns-clause-asks
returns-clause-asks g c =
    let first = g.S.Stepper.known c.ask_point.new.set in
    let second = g.S.Stepper.known c.ask_entries.new.set in
    let new = g.S.Stepper.known c.ask_documents.new.set in
    let log = c.in_ok-entries.ensures.ok in (
      c.requires.room,
      record {
        first = first;
        second = second;
        state = c.in_ok-term.ensures.asks.0;
        asks_state = c.in_ok-term.ensures.asks.1;
        point = c.in_ok-term.ensures.asks.2;
        above = not_zero c.in_ok-term.at c.eq.result c.eq.ensures c.if-eq.false;
        log = log.0;
        asks_log = subst (λ (s : Sizes). Tells s first second (commands.Log c.args.node) (reply.Entries log.0)) c.ask_point.ensures.sizes log.1;
        entries = log.2;
        asks_documents = subst (λ (s : Sizes). Tells s second new (commands.Dump c.args.node Majority) (reply.Documents (listed_of c.in_ok-documents.documents.items)))
            (c.ask_entries.ensures.sizes ∙ c.ask_point.ensures.sizes) c.in_ok-documents.ensures.ok;
      },
    )

pub returns-clause-pinned : goal.returns-clause-pinned
unfolding returns-clause-asks
returns-clause-pinned g c =
    let sizes = g.S.Stepper.sizes c.args.set.now in
    let first = g.S.Stepper.known c.ask_point.new.set in
    let new = g.S.Stepper.known c.ask_documents.new.set in
    let same = c.ask_documents.ensures.sizes ∙ c.ask_entries.ensures.sizes ∙ c.ask_point.ensures.sizes in
    let small : NumbersStaySmall sizes first = subst (λ (s : Sizes). NumbersStaySmall s first) c.ask_point.ensures.sizes
    (c.numbers_stay_small.ensures _ _ c.in_ok-term.ensures.defined.sizes_are c.in_ok-term.ensures.defined.run) in
    let rise : LogsRise sizes new = subst (λ (s : Sizes). LogsRise s new) same (c.logs_rise.ensures _ _ c.in_ok-documents.ensures.defined.sizes_are c.in_ok-documents.ensures.defined.run) in
    let fit : MajorityLogsAreFit sizes new = subst (λ (s : Sizes). MajorityLogsAreFit s new) same
    (c.majority_logs_are_fit.ensures _ _ c.in_ok-documents.ensures.defined.sizes_are c.in_ok-documents.ensures.defined.run) in
    pinned_so sizes c.args.node (g.S.Stepper.known c.args.set.now) new _ c.requires.room.0 (returns-clause-asks g c).1 small rise fit c.in_ok-entries.ensures.lawful c.in_ok-documents.ensures.keys

pub returns-clause-leaders : goal.returns-clause-leaders
unfolding returns-clause-asks
returns-clause-leaders g c =
    let sizes = g.S.Stepper.sizes c.args.set.now in
    let first = g.S.Stepper.known c.ask_point.new.set in
    let new = g.S.Stepper.known c.ask_documents.new.set in
    let same = c.ask_documents.ensures.sizes ∙ c.ask_entries.ensures.sizes ∙ c.ask_point.ensures.sizes in
    let small : NumbersStaySmall sizes first = subst (λ (s : Sizes). NumbersStaySmall s first) c.ask_point.ensures.sizes
    (c.numbers_stay_small.ensures _ _ c.in_ok-term.ensures.defined.sizes_are c.in_ok-term.ensures.defined.run) in
    let holds : Safe sizes new = subst (λ (s : Sizes). Safe s new) same (c.safe.ensures _ _ c.in_ok-documents.ensures.defined.sizes_are c.in_ok-documents.ensures.defined.run) in
    leaders_begin sizes c.args.node (g.S.Stepper.known c.args.set.now) new _ c.requires.room.0 (returns-clause-asks g c).1 small holds.majority_reads

pub returns-clause-stays : goal.returns-clause-stays
returns-clause-stays g c =
    g.met.S.Stepper.stays_on c.args.set.now c.ask_entries.new.set c.ask_documents.new.set
    (g.met.S.Stepper.stays_on c.args.set.now c.ask_point.new.set c.ask_entries.new.set c.ask_point.ensures.stays c.ask_entries.ensures.stays) c.ask_documents.ensures.stays
