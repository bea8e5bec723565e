use Rattle.std.proofs.Common.{◌≡◌, ℕ, ap, length, subst, sym}
use Rattle.bson_doc.proofs.BindLemmas.{on_ok}
use Rattle.safety_laws.proofs.Places.{get_in}
use Rattle.explore_words.specs.declared.question.Act.{Act}
use Rattle.question_laws.specs.Doing.{lines_done}
use Rattle.question_laws.specs.Lawful.{AreFor}
use Rattle.explore_steps.specs.Reaching.{IsReachedBefore}
use Rattle.explorer.specs.Replaying.{Does}
use Rattle.explorer.proofs.Replays.{act_whole, first_reached, taken}
use Rattle.explorer.proofs.replay.Run.go.Goals as goal

pub first-message-requires : goal.first-message-requires
first-message-requires c = (c.requires.may.1, c.requires.may.3)

pub deliver-requires : goal.deliver-requires
deliver-requires c = (c.args.question.now, length c.requires.may.0.commands, c.requires.put, c.requires.may.4)

pub lines-requires : goal.lines-requires
lines-requires c =
    let question = c.args.question.now in
    let act = c.requires.may.0 in
    let same : c.index-as_slice-doing.result ≡ act = taken c.as_slice.result.now question.acts c.args.doing.act c.index-as_slice-doing.result act c.as_slice.ensures c.index-as_slice-doing.is c.requires.may.2 in (
      question,
      c.requires.put,
      subst (λ (a : Act). AreFor question.sizes.nodes a.commands) (sym same) (c.requires.put.commands.acts act (get_in question.acts c.args.doing.act act c.requires.may.2)),
      subst (λ (a : Act). IsReachedBefore (length a.commands) question c.deliver.new.self.machine) (sym same)
          (first_reached question (length act.commands) c.first-message.result c.args.self.now c.deliver.new.self c.requires.may.4 c.in_ok-deliver.ensures),
    )

pub returns : goal.returns
returns c =
    on_ok c.lines.result
    (λ done act there.
    let same : c.index-as_slice-doing.result ≡ act = taken c.as_slice.result.now c.args.question.now.acts c.args.doing.act c.index-as_slice-doing.result act c.as_slice.ensures c.index-as_slice-doing.is there in (
      c.first-message.result,
      c.first-message.ensures,
      act_whole c.args.self.now c.deliver.new.self c.lines.new.self act c.first-message.result c.in_ok-deliver.ensures
          (subst (λ (before : ℕ). Does c.deliver.new.self c.lines.new.self (lines_done before c.deliver.new.self.machine act.commands)) (ap length c.messages-before.ensures)
          (subst (λ (a : Act). Does c.deliver.new.self c.lines.new.self (lines_done (length c.messages-before.result.now) c.deliver.new.self.machine a.commands)) same done)),
    ))
    c.lines.ensures
