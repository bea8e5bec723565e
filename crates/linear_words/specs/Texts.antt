-- The line of a linear read's result.
use Rattle.std.specs.Prelude.{ℕ, Bool, true, false, List, ◌++◌, codes}
use Rattle.bson_doc.specs.Tree.{document}
use Rattle.doc_text.specs.Printing.{printed}
use Rattle.transcript.specs.Refusals.{refusal_text}
use Rattle.linear_words.specs.declared.told.LinearTold.{LinearTold}
use Rattle.linear_words.specs.declared.told.LinearTold.TheVariants.{Found, Missing, Refused, NoSuchNode}

-- a refusal reads as in a transcript
abbrev pub told_text : LinearTold → List ℕ
told_text (Found o) = codes "linear found " ++ printed (document o) ++ codes "\n"
told_text Missing = codes "linear missing\n"
told_text (Refused why) = codes "linear refused " ++ refusal_text why ++ codes "\n"
told_text NoSuchNode = codes "linear refused 17 NoSuchNode\n"

-- nothing was read
abbrev pub is_refusal : LinearTold → Bool
is_refusal (Found o) = false
is_refusal Missing = false
is_refusal (Refused why) = true
is_refusal NoSuchNode = true
