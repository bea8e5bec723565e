use Rattle.std.proofs.Common.{◌∙◌, refl, subst}
use Rattle.std.specs.Option.{option_copied}
use Rattle.entry_bytes.specs.Parts.{AreMembersOf}
use Rattle.entry_bytes.proofs.AnswerLemmas.{has_been_written}
use Rattle.entry_bytes.proofs.reading.entry_of.Goals as goal

pub returns-then-not-may_have : goal.returns-then-not-may_have
returns-then-not-may_have c = (
  c.args.document.now,
  refl,
  λ entry law is.
      let m = c.in-Some.members in
      let own = subst (λ l. AreMembersOf c.in_ok-op.op l m.ns.now m.o.now (option_copied m.last.target)) c.as_str.ensures c.in_ok-op.ensures.1 in
      let had = c.may_have.ensures.1 (has_been_written entry c.in_ok-op.op m.optime m.letter.now m.ns.now m.o.now (option_copied m.last.target) m.last.session law c.in_ok-op.ensures.0 own (is ∙ c.in-Some.ensures.2)) in
      cc (had, c.if-not-may_have.true),
)
