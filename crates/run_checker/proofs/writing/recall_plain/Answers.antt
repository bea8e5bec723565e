use Rattle.run_checker.proofs.PutLemmas.{words_are_text}
use Rattle.run_checker.proofs.writing.recall_plain.Goals as goal

pub returns : goal.returns
returns c = record {
  line = c.recall_numbers.ensures.line;
  failed = c.recall_numbers.ensures.failed;
  utf8 = words_are_text c.args.event.now c.args.reply.now c.args.entry.now c.requires c.utf8.entry;
}
