use Rattle.std.proofs.Common.{◌∙◌, ap, sym, subst, Err}
use Rattle.std.proofs.lemmas.Result.{err_from_is_err_and}
use Rattle.set_model.specs.declared.command.Command.TheVariants as commands
use Rattle.set_model.specs.Run.{Sizes}
use Rattle.safety_laws.specs.Bounds.{NumbersStaySmall}
use Rattle.safety_laws.specs.Logs.{LogsRise}
use Rattle.change_stream.specs.Asking.{Does}
use Rattle.change_stream.specs.Shown.{shown_state}
use Rattle.change_stream.proofs.ReadLemmas.{both_shown, first_broken, first_refused, is_state_of, no_state, second_broken, second_refused}
use Rattle.change_stream.proofs.StepLemmas.{log_rises}
use Rattle.change_stream.proofs.stream.read.Goals as goal

pub returns-in_err-state-clause-err : goal.returns-in_err-state-clause-err
returns-in_err-state-clause-err g c =
    let new = g.S.Stepper.known c.ask_state.new.set in
    let own' = g.S.Stepper.own c.ask_state.new.set in
    let p = err_from_is_err_and c.from_residual.result c.from_residual.ensures.1 in
    rw (p.1, p.2) (first_broken g.S.Stepper.is_alone (g.S.Stepper.sizes c.args.set.now) (g.S.Stepper.known c.args.set.now) new new (g.S.Stepper.own c.args.set.now) own' own' c.args.node
    c.in_err-state.field-0.0 c.in_err-state.ensures.err c.in_err-state.ensures.idle (λ is. c.in_err-state.ensures.full (ap Err is)))

pub returns-in_err-reply-clause-err : goal.returns-in_err-reply-clause-err
returns-in_err-reply-clause-err g c =
    let p = err_from_is_err_and c.from_residual-in_err-reply.result c.from_residual-in_err-reply.ensures.1 in
    rw (p.1, p.2) (second_broken g.S.Stepper.is_alone (g.S.Stepper.sizes c.args.set.now) (g.S.Stepper.known c.args.set.now) (g.S.Stepper.known c.ask_state.new.set) (g.S.Stepper.known c.ask_log.new.set)
    (g.S.Stepper.own c.args.set.now) (g.S.Stepper.own c.ask_state.new.set) (g.S.Stepper.own c.ask_log.new.set) c.args.node c.in_ok-state.state c.in_ok-state.ensures.step c.in_ok-state.ensures.own
    (is_state_of (shown_state c.in_ok-state.state) c.in-Some.commit c.in-Some.ensures) c.in_err-reply.field-0.0 c.in_err-reply.ensures.err c.in_err-reply.ensures.idle (λ is. c.in_err-reply.ensures.full (ap Err is)))

pub returns-in_default-clause-err : goal.returns-in_default-clause-err
returns-in_default-clause-err g c =
    let sizes = g.S.Stepper.sizes c.args.set.now in
    let old = g.S.Stepper.known c.args.set.now in
    let new = g.S.Stepper.known c.ask_state.new.set in
    let own = g.S.Stepper.own c.args.set.now in
    let own' = g.S.Stepper.own c.ask_state.new.set in
    let small : NumbersStaySmall sizes new = subst (λ (s : Sizes). NumbersStaySmall s new) c.ask_state.ensures.sizes
    (c.numbers_stay_small.ensures _ _ c.ask_state.ensures.defined.sizes_are c.ask_state.ensures.defined.run) in
    first_refused g.S.Stepper.is_alone sizes old new new own own own' c.args.node c.requires small c.in_ok-state.state c.in_ok-state.ensures.step c.in_ok-state.ensures.own
    (no_state (shown_state c.in_ok-state.state) c.in_default.ensures)

pub returns-in_default-log_shown-clause-err : goal.returns-in_default-log_shown-clause-err
returns-in_default-log_shown-clause-err g c =
    let sizes = g.S.Stepper.sizes c.args.set.now in
    let old = g.S.Stepper.known c.args.set.now in
    let between = g.S.Stepper.known c.ask_state.new.set in
    let new = g.S.Stepper.known c.ask_log.new.set in
    let small : NumbersStaySmall sizes new = subst (λ (s : Sizes). NumbersStaySmall s new) (c.ask_log.ensures.sizes ∙ c.ask_state.ensures.sizes)
    (c.numbers_stay_small.ensures _ _ c.ask_log.ensures.defined.sizes_are c.ask_log.ensures.defined.run) in
    let second = subst (λ (s : Sizes). Does g.S.Stepper.is_alone s between new (commands.Log c.args.node) c.in_ok-reply.reply) c.ask_state.ensures.sizes c.in_ok-reply.ensures.step in
    let own = g.S.Stepper.own c.args.set.now in
    let mid = g.S.Stepper.own c.ask_state.new.set in
    let own' = g.S.Stepper.own c.ask_log.new.set in
    second_refused g.S.Stepper.is_alone sizes old between new own mid own' c.args.node c.in_ok-state.state c.in_ok-state.ensures.step c.in_ok-state.ensures.own (is_state_of (shown_state c.in_ok-state.state) c.in-Some.commit c.in-Some.ensures) c.requires small c.in_ok-reply.reply second c.in_ok-reply.ensures.own (sym c.in_default-log_shown.ensures.log)

pub returns-in_default-log_shown-clause-stays : goal.returns-in_default-log_shown-clause-stays
returns-in_default-log_shown-clause-stays g c =
    g.met.S.Stepper.stays_on c.args.set.now c.ask_state.new.set c.ask_log.new.set c.ask_state.ensures.stays c.ask_log.ensures.stays

pub returns-clause-ok : goal.returns-clause-ok
returns-clause-ok g c =
    let sizes = g.S.Stepper.sizes c.args.set.now in
    let old = g.S.Stepper.known c.args.set.now in
    let between = g.S.Stepper.known c.ask_state.new.set in
    let new = g.S.Stepper.known c.ask_log.new.set in
    let second = subst (λ (s : Sizes). Does g.S.Stepper.is_alone s between new (commands.Log c.args.node) c.in_ok-reply.reply) c.ask_state.ensures.sizes c.in_ok-reply.ensures.step in
    let own = g.S.Stepper.own c.args.set.now in
    let mid = g.S.Stepper.own c.ask_state.new.set in
    let own' = g.S.Stepper.own c.ask_log.new.set in
    both_shown g.S.Stepper.is_alone sizes old between new own mid own' c.args.node c.in_ok-state.state c.in_ok-state.ensures.step c.in_ok-state.ensures.own c.in-Some.commit c.in-Some-log_shown.log.items c.in_ok-reply.reply c.in-Some.ensures second c.in_ok-reply.ensures.own (sym c.in-Some-log_shown.ensures.log)

pub returns-clause-oplog : goal.returns-clause-oplog
returns-clause-oplog g c =
    let sizes = g.S.Stepper.sizes c.args.set.now in
    let between = g.S.Stepper.known c.ask_state.new.set in
    let new = g.S.Stepper.known c.ask_log.new.set in
    let rise : LogsRise sizes new = subst (λ (s : Sizes). LogsRise s new) (c.ask_log.ensures.sizes ∙ c.ask_state.ensures.sizes)
    (c.logs_rise.ensures _ _ c.ask_log.ensures.defined.sizes_are c.ask_log.ensures.defined.run) in
    let second = subst (λ (s : Sizes). Does g.S.Stepper.is_alone s between new (commands.Log c.args.node) c.in_ok-reply.reply) c.ask_state.ensures.sizes c.in_ok-reply.ensures.step in
    log_rises g.S.Stepper.is_alone sizes between new c.args.node c.in_ok-reply.reply second c.in-Some-log_shown.log.items (sym c.in-Some-log_shown.ensures.log) rise c.in-Some-log_shown.ensures.lawful

pub returns-clause-stays : goal.returns-clause-stays
returns-clause-stays g c =
    g.met.S.Stepper.stays_on c.args.set.now c.ask_state.new.set c.ask_log.new.set c.ask_state.ensures.stays c.ask_log.ensures.stays
