use Rattle.std.proofs.Common.{◌≡◌, true, ap}
use Rattle.entry_bytes.specs.Parts.{are_marks}
use Rattle.entry_bytes.proofs.MarkLemmas.{are_marks-marks, AreUnsets-names_in, marks-names_in}
use Rattle.entry_bytes.proofs.ops.unsets_of.Goals as goal

pub returns-then-not-are_marks : goal.returns-then-not-are_marks
returns-then-not-are_marks c = λ names law same. cc (are_marks-marks names law, ap are_marks same)

pub returns : goal.returns
returns c =
    let yes : are_marks c.args.unsets.now ≡ true = cc in
    rw c.in_ok-names_in.ensures (AreUnsets-names_in c.args.unsets.now c.recall_sound.ensures.0 yes, marks-names_in c.args.unsets.now yes)
