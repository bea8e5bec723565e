use Rattle.std.proofs.Common.{◌≡◌, ◌∙◌, IsErrOf, length, refl, rules, subst, sym}
use Rattle.std.specs.Prelude.{map, string_bytes}
use Rattle.task_words.specs.declared.words.Task.TheVariants.{Chaos}
use Rattle.trace_check.specs.declared.stop.CheckStop.TheVariants.{ReadFault, WriteFault}
use Rattle.set_program.proofs.CheckLemmas.{check_completes, is_read_fault, is_write_fault, no_disk, no_task}
use Rattle.set_program.proofs.CopiedLemmas.{none_copied}
use Rattle.set_program.proofs.EndLemmas.{completes, completes_chaos, no_call}
use Rattle.set_program.proofs.OpenLemmas.{none_failed}
use Rattle.set_program.proofs.RanLemmas.{armed_left, causes_left, check_comes, comes_to, failures_left, orders_left}
use Rattle.set_program.proofs.set.run_set.Goals as goal

-- ---- a check

pub returns-then-asks_check-clause-call : goal.returns-then-asks_check-clause-call
returns-then-asks_check-clause-call g c =
    rw c.check_status.ensures (
      no_call,
      check_comes g.D.Disk.state c.args.disks.items c.args.words.now (g.S.Source.left c.args.source.now) (g.S.Source.left c.check_source.new.source) (g.K.Sink.held c.args.sink.now) (g.K.Sink.held c.check_source.new.sink)
          c.check_source.result c.new.result c.args.disks (sym c.asks_check.ensures ∙ c.if-asks_check.true) c.new.ensures.items refl c.check_source.ensures.ends,
    )

pub returns-then-asks_check-clause-unread : goal.returns-then-asks_check-clause-unread
returns-then-asks_check-clause-unread g c = λ source none. absurd (none (sym c.asks_check.ensures ∙ c.if-asks_check.true))

pub returns-then-asks_check-clause-read_fault : goal.returns-then-asks_check-clause-read_fault
returns-then-asks_check-clause-read_fault g c =
    rw c.check_status.ensures
    (λ four. c.check_source.ensures.read_cause.rose (subst (λ ended. IsErrOf ended ReadFault) (sym (is_read_fault c.check_source.result four)) refl))

pub returns-then-asks_check-clause-write_fault : goal.returns-then-asks_check-clause-write_fault
returns-then-asks_check-clause-write_fault g c =
    rw c.check_status.ensures
    (λ five. c.check_source.ensures.write_cause.rose (subst (λ ended. IsErrOf ended WriteFault) (sym (is_write_fault c.check_source.result five)) refl))

pub returns-then-asks_check-clause-steady_source : goal.returns-then-asks_check-clause-steady_source
returns-then-asks_check-clause-steady_source g c =
    rw c.check_status.ensures (λ steady four. (c.check_source.ensures.steady_source steady).1 (is_read_fault c.check_source.result four))

pub returns-then-asks_check-clause-steady_sink : goal.returns-then-asks_check-clause-steady_sink
returns-then-asks_check-clause-steady_sink g c =
    rw c.check_status.ensures (λ steady five. (c.check_source.ensures.steady_sink steady).1 (is_write_fault c.check_source.result five))

pub returns-then-asks_check-clause-steady_disks : goal.returns-then-asks_check-clause-steady_disks
returns-then-asks_check-clause-steady_disks g c = rw c.check_status.ensures (λ unarmed. no_disk c.check_source.result)

pub returns-then-asks_check-clause-complete : goal.returns-then-asks_check-clause-complete
returns-then-asks_check-clause-complete g c =
    λ task asks of_source source sink. absurd (no_task (map string_bytes c.args.words.now) task (sym c.asks_check.ensures ∙ c.if-asks_check.true) asks)

pub returns-then-asks_check-clause-complete_chaos : goal.returns-then-asks_check-clause-complete_chaos
returns-then-asks_check-clause-complete_chaos g c =
    λ seed events nodes asks sink. absurd (no_task (map string_bytes c.args.words.now) (Chaos seed events nodes) (sym c.asks_check.ensures ∙ c.if-asks_check.true) asks)

pub returns-then-asks_check-clause-complete_check : goal.returns-then-asks_check-clause-complete_check
returns-then-asks_check-clause-complete_check g c =
    rw c.check_status.ensures
    (λ checks. check_completes (g.S.Source.left c.args.source.now) (g.S.Source.left c.check_source.new.source) (g.K.Sink.held c.args.sink.now) (g.K.Sink.held c.check_source.new.sink) c.check_source.result
    (g.S.Source.steady c.args.source.now) (g.K.Sink.steady c.args.sink.now)
    (g.S.Source.faults c.args.source.now) (g.S.Source.faults c.check_source.new.source) (g.K.Sink.faults c.args.sink.now) (g.K.Sink.faults c.check_source.new.sink)
    c.check_source.ensures.ends c.check_source.ensures.read_cause.rose c.check_source.ensures.write_cause.rose
    (λ steady. (c.check_source.ensures.steady_source steady).1) (λ steady. (c.check_source.ensures.steady_sink steady).1))

-- ---- a script

pub returns-clause-call : goal.returns-clause-call
returns-clause-call g c =
    let many : length c.args.disks.items ≡ 100 = search rules in
    let call = c.run-ended.ensures.call in
    rw c.status.ensures (
      call.0,
      comes_to g.D.Disk.state c.args.disks.items many call.0 c.args.words.now (g.S.Source.left c.args.source.now) (g.S.Source.left c.run-ended.new.source) (g.K.Sink.held c.args.sink.now) (g.K.Sink.held c.run-ended.new.sink)
          c.run-ended.result.0 c.run-ended.result.1 (λ checks. absurd (cc (c.asks_check.ensures, c.if-asks_check.false, checks))) c.recall_sound.ensures.sizes c.recall_sound.ensures.run call.1 call.2,
    )

pub returns-clause-unread : goal.returns-clause-unread
returns-clause-unread g c = λ source none. c.run-ended.ensures.unread source

pub returns-clause-complete_check : goal.returns-clause-complete_check
returns-clause-complete_check g c = λ checks source sink. absurd (cc (c.asks_check.ensures, c.if-asks_check.false, checks))

pub returns-clause-steady_disks : goal.returns-clause-steady_disks
returns-clause-steady_disks g c =
    let call = c.run-ended.ensures.call in
    rw c.status.ensures
    (λ unarmed. (
      none_failed g.D.Disk.state call.0 c.args.words.now (g.S.Source.left c.args.source.now) (g.S.Source.left c.run-ended.new.source) (g.K.Sink.held c.args.sink.now) (g.K.Sink.held c.run-ended.new.sink)
          c.args.disks.items c.run-ended.result.0 c.run-ended.result.1 call.1 call.2 unarmed,
      none_copied g.D.Disk.state call.0 c.args.disks.items c.args.words.now (g.S.Source.left c.args.source.now) (g.S.Source.left c.run-ended.new.source) (g.K.Sink.held c.args.sink.now)
          (g.K.Sink.held c.run-ended.new.sink) c.run-ended.result.0 c.run-ended.result.1 call.1 unarmed,
    ))

pub returns-clause-complete : goal.returns-clause-complete
returns-clause-complete g c =
    let call = c.run-ended.ensures.call in
    rw c.status.ensures
    (completes g.D.Disk.state call.0 c.args.disks.items c.args.words.now (g.S.Source.left c.args.source.now) (g.S.Source.left c.run-ended.new.source) (g.K.Sink.held c.args.sink.now) (g.K.Sink.held c.run-ended.new.sink)
    c.run-ended.result.0 c.run-ended.result.1 (g.S.Source.steady c.args.source.now) (g.K.Sink.steady c.args.sink.now)
    (g.S.Source.faults c.args.source.now) (g.S.Source.faults c.run-ended.new.source) (g.K.Sink.faults c.args.sink.now) (g.K.Sink.faults c.run-ended.new.sink)
    call.1 c.run-ended.ensures.read_fault c.run-ended.ensures.write_fault c.run-ended.ensures.steady_source c.run-ended.ensures.steady_sink)

pub returns-clause-complete_chaos : goal.returns-clause-complete_chaos
returns-clause-complete_chaos g c =
    let call = c.run-ended.ensures.call in
    rw c.status.ensures
    (completes_chaos g.D.Disk.state call.0 c.args.disks.items c.args.words.now (g.S.Source.left c.args.source.now) (g.S.Source.left c.run-ended.new.source) (g.K.Sink.held c.args.sink.now) (g.K.Sink.held c.run-ended.new.sink)
    c.run-ended.result.0 c.run-ended.result.1 (g.K.Sink.steady c.args.sink.now) (g.K.Sink.faults c.args.sink.now) (g.K.Sink.faults c.run-ended.new.sink)
    call.1 c.run-ended.ensures.write_fault c.run-ended.ensures.steady_sink)

pub returns-clause-orders : goal.returns-clause-orders
returns-clause-orders g c =
    let many : length c.args.disks.items ≡ 100 = search rules in
    let call = c.run-ended.ensures.call in
    orders_left g.D.Disk.state c.args.disks.items many call.0 c.args.words.now (g.S.Source.left c.args.source.now) (g.S.Source.left c.run-ended.new.source) (g.K.Sink.held c.args.sink.now) (g.K.Sink.held c.run-ended.new.sink)
    c.run-ended.result.0 c.run-ended.result.1 c.recall_sound.ensures.sizes call.2

pub returns-clause-failures : goal.returns-clause-failures
returns-clause-failures g c =
    let many : length c.args.disks.items ≡ 100 = search rules in
    let call = c.run-ended.ensures.call in
    failures_left g.D.Disk.state c.args.disks.items many call.0 c.args.words.now (g.S.Source.left c.args.source.now) (g.S.Source.left c.run-ended.new.source) (g.K.Sink.held c.args.sink.now) (g.K.Sink.held c.run-ended.new.sink)
    c.run-ended.result.0 c.run-ended.result.1 c.recall_sound.ensures.sizes call.2

pub returns-clause-fault_cause : goal.returns-clause-fault_cause
returns-clause-fault_cause g c =
    let many : length c.args.disks.items ≡ 100 = search rules in
    let call = c.run-ended.ensures.call in
    causes_left g.D.Disk.state c.args.disks.items many call.0 c.args.words.now (g.S.Source.left c.args.source.now) (g.S.Source.left c.run-ended.new.source) (g.K.Sink.held c.args.sink.now) (g.K.Sink.held c.run-ended.new.sink)
    c.run-ended.result.0 c.run-ended.result.1 c.recall_sound.ensures.sizes call.2

pub returns-clause-fault_armed : goal.returns-clause-fault_armed
returns-clause-fault_armed g c =
    let many : length c.args.disks.items ≡ 100 = search rules in
    let call = c.run-ended.ensures.call in
    armed_left g.D.Disk.state c.args.disks.items many call.0 c.args.words.now (g.S.Source.left c.args.source.now) (g.S.Source.left c.run-ended.new.source) (g.K.Sink.held c.args.sink.now) (g.K.Sink.held c.run-ended.new.sink)
    c.run-ended.result.0 c.run-ended.result.1 c.recall_sound.ensures.sizes c.recall_sound.ensures.run call.2
