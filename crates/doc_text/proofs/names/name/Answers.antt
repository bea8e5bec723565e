use Rattle.doc_text.proofs.NamesAreClean.{no_zero, bare_clean}
use Rattle.doc_text.proofs.ReadStrings.{clean_string}
use Rattle.doc_text.proofs.names.name.Goals as goal

pub returns-in-34-clause-clean : goal.returns-in-34-clause-clean
returns-in-34-clause-clean c = clean_string c.skip.result.now c.letters.result c.letters.ensures.gives

pub returns-in_ok-from_str-in-len1-up-clause-clean :
    goal.returns-in_ok-from_str-in-len1-up-clause-clean
returns-in_ok-from_str-in-len1-up-clause-clean c =
    rw (c.in_ok-from_str-in-len1-up.ensures, c.run.ensures.front) (no_zero _ (bare_clean c.args.text.now))
