use Rattle.std.proofs.Common.{◌≡◌, ◌∙◌, List, Some, Ok, Option, ap, subst, ℕ}
use Rattle.set_model.specs.declared.command.Command.{Command}
use Rattle.transcript.specs.Replies.{text}
use Rattle.play.specs.Play.{Played, reply_to, run_of, said_to, with_event}
use Rattle.play.proofs.RunLemmas.{text_more}
use Rattle.play.proofs.play.Play.step.Goals as goal

pub returns-in_ok-play-in-Some-clause-ok : goal.returns-in_ok-play-in-Some-clause-ok
returns-in_ok-play-in-Some-clause-ok c = (
  reply_to c.args.self.now c.in-Some.command,
  record {
    said = Some c.in-Some.command;
    says = subst (λ (p : Played). said_to p c.args.line.now ≡ Ok (Some c.in-Some.command)) c.self.view_is
        (c.in_ok-command.ensures.said ∙ ap (λ (said : Option Command). Ok said) c.in-Some.is);
    new_is = c.in_ok-play-in-Some.ensures.ok ∙ ap (λ (l : List ℕ). with_event c.args.self.now l c.in-Some.command) c.in_ok-text.ensures.same;
    text_is = ap (λ (p : Played). text (run_of p)) c.in_ok-play-in-Some.ensures.ok ∙ text_more c.args.self.now c.in_ok-text.text.now c.in-Some.command;
  },
  c.in_ok-play-in-Some.ensures.told,
)
