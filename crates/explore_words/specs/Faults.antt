-- A question's fault as it is printed.
use Rattle.std.specs.Prelude.{ℕ, List, ◌++◌, codes}
use Rattle.std.specs.Fmt.{decimal}
use Rattle.transcript.specs.Faults.{fault_text}
use Rattle.explore_words.specs.declared.fault.QuestionFault.{QuestionFault}
use Rattle.explore_words.specs.declared.fault.QuestionRule.{QuestionRule}
use Rattle.explore_words.specs.declared.fault.QuestionRule.TheVariants.{BadAct, BadWant, NoMayLine, NoWantLine, Script, TooManyActs, TooManyWants}

-- the line and the name of the rule that it breaks
abbrev pub named_text : ℕ → List ℕ → List ℕ
named_text line name = codes "line " ++ decimal line ++ codes ": " ++ name ++ codes "\n"

abbrev pub rule_text : ℕ → QuestionRule → List ℕ
rule_text line (Script rule) = fault_text (record { line = line; rule = rule })
rule_text line NoMayLine = named_text line (codes "NoMayLine")
rule_text line NoWantLine = named_text line (codes "NoWantLine")
rule_text line BadAct = named_text line (codes "BadAct")
rule_text line BadWant = named_text line (codes "BadWant")
rule_text line TooManyActs = named_text line (codes "TooManyActs")
rule_text line TooManyWants = named_text line (codes "TooManyWants")

abbrev pub question_fault_text : QuestionFault → List ℕ
question_fault_text fault = rule_text fault.line fault.rule
