use Rattle.std.proofs.Common.{◌≡◌, Err, List, Ok, ap, rules, subst}
use Rattle.change_stream.specs.declared.stream.ChangeStream.{ChangeStream}
use Rattle.std.proofs.lemmas.Result.{err_from_is_err_and}
use Rattle.oplog_entry.specs.declared.entry.Entry.{Entry}
use Rattle.change_words.specs.Texts.{change_lines}
use Rattle.change_watch.specs.Following.{PutsLines, gave_nothing}
use Rattle.change_watch.proofs.AskLemmas.{once_fails, once_stops, once_told}
use Rattle.change_watch.proofs.following.ask_once.Goals as goal

pub returns-in_err-entries-clause-asks : goal.returns-in_err-entries-clause-asks
returns-in_err-entries-clause-asks g c =
    let p = err_from_is_err_and c.from_residual.result c.from_residual.ensures.1 in
    rw (p.1, p.2) (once_fails g.S.Stepper.is_alone (g.S.Stepper.sizes c.args.set.now) c.args.collection.now c.args.stream.now.token c.next.new.stream.token c.args.node (g.S.Stepper.known c.args.set.now) (g.S.Stepper.known c.next.new.set)
    (g.K.Sink.held c.args.sink.now) c.in_err-entries.field-0.0 (ap (λ (s : ChangeStream). s.token) c.in_err-entries.ensures.left) c.in_err-entries.ensures.err.0)

pub returns-in_err-put_changes-clause-asks : goal.returns-in_err-put_changes-clause-asks
returns-in_err-put_changes-clause-asks g c =
    let lent : c.deref.result.now ≡ c.in_ok-entries.entries.items = search rules in
    let p = err_from_is_err_and c.from_residual-in_err-put_changes.result c.from_residual-in_err-put_changes.ensures.1 in
    rw (p.1, p.2) (once_stops g.S.Stepper.is_alone (g.S.Stepper.sizes c.args.set.now) c.args.collection.now c.args.stream.now.token c.next.new.stream.token c.args.node (g.S.Stepper.known c.args.set.now) (g.S.Stepper.known c.next.new.set)
    c.in_ok-entries.entries.items c.in_ok-entries.ensures.ok.0 c.in_ok-entries.ensures.token (g.K.Sink.held c.args.sink.now) (g.K.Sink.held c.put_changes.new.sink) c.in_err-put_changes.field-0.0 (subst (λ (es : List Entry). PutsLines (g.K.Sink.held c.args.sink.now) (g.K.Sink.held c.put_changes.new.sink) (change_lines c.args.collection.now es) (Err c.in_err-put_changes.field-0.0)) lent c.in_err-put_changes.ensures.puts))

pub returns-clause-asks : goal.returns-clause-asks
returns-clause-asks g c =
    let lent : c.deref.result.now ≡ c.in_ok-entries.entries.items = search rules in
    let none : c.gave_nothing.result ≡ gave_nothing c.in_ok-entries.entries.items = search rules in
    once_told g.S.Stepper.is_alone (g.S.Stepper.sizes c.args.set.now) c.args.collection.now c.args.stream.now.token c.next.new.stream.token c.args.node (g.S.Stepper.known c.args.set.now) (g.S.Stepper.known c.next.new.set)
    c.in_ok-entries.entries.items c.in_ok-entries.ensures.ok.0 c.in_ok-entries.ensures.token (g.K.Sink.held c.args.sink.now) (g.K.Sink.held c.put_changes.new.sink) c.gave_nothing.result none (subst (λ (es : List Entry). PutsLines (g.K.Sink.held c.args.sink.now) (g.K.Sink.held c.put_changes.new.sink) (change_lines c.args.collection.now es) (Ok tt)) lent c.in_ok-put_changes.ensures.puts)
