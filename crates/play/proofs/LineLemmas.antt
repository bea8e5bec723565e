-- What a line says.
use Rattle.std.proofs.Common.{◌≡◌, ◌≤◌, ℕ, Bool, true, false, List, Result, Ok, Err, refl, ap, ◌∙◌, arith}
use Rattle.std.specs.Prelude.{IfOk, nat_lt, length, if◌then◌else◌}
use Rattle.std.specs.Str.{is_utf8}
use Rattle.bson_doc.specs.Bind.{◌>>=◌}
use Rattle.fault_script.specs.Lines.{text_of}
use Rattle.script_words.specs.declared.rule.ScriptRule.{ScriptRule}
use Rattle.script_words.specs.declared.rule.ScriptRule.TheVariants.{LineTooLong, NotUtf8, TooManyLines}
use Rattle.script_words.specs.declared.rule.LineError.{LineError}
use Rattle.script_words.specs.declared.rule.LineError.TheVariants as lines
use Rattle.script_words.specs.Gives.{Fails as LineFails}
use Rattle.script_words.proofs.CommandsFit.{words_within}
use Rattle.script_words.proofs.Gets.{got}
use Rattle.script_words.specs.Commands.{words_at}
use Rattle.script_words.specs.Words.{Left}
use Rattle.script_words.specs.declared.verb.Verb.{Verb}
use Rattle.set_model.specs.declared.command.Command.{Command}
use Rattle.set_model.specs.Limits.{is_for}
use Rattle.play.specs.Lines.{Fails, by_script, line_said, play_error, said}
use Rattle.play.specs.declared.rule.LineRule.{LineRule}
use Rattle.play.specs.declared.rule.LineRule.TheVariants.{Script}
use Rattle.play.specs.declared.rule.PlayError.{PlayError}
use Rattle.play.specs.declared.rule.PlayError.TheVariants as errors

few_of : (number : ℕ) (line text : List ℕ) (over long good : Bool) → nat_lt 200000 number ≡ over
    → (if over then Err TooManyLines else if long then Err LineTooLong else if good then Ok line else Err NotUtf8) ≡ Ok text → number ≤ 200000
few_of number line text true long good is read = absurd (cc read)
few_of number line text false long good is read = grind arith

-- a line that is read has one of a script's numbers
pub few : (number : ℕ) (line text : List ℕ) → text_of number line ≡ Ok text → number ≤ 200000
unfolding text_of
few number line text read = few_of number line text (nat_lt 200000 number) (nat_lt 1048576 (length line)) (is_utf8 line) refl read

same_of : (line text : List ℕ) (over long good : Bool) → (if over then Err TooManyLines else if long then Err LineTooLong else if good then Ok line else Err NotUtf8) ≡ Ok text → text ≡ line
same_of line text true long good read = absurd (cc read)
same_of line text false true good read = absurd (cc read)
same_of line text false false true read = cc read
same_of line text false false false read = absurd (cc read)

-- and its text is the line itself
pub same_text : (number : ℕ) (line text : List ℕ) → text_of number line ≡ Ok text → text ≡ line
unfolding text_of
same_text number line text read = same_of line text (nat_lt 200000 number) (nat_lt 1048576 (length line)) (is_utf8 line) read

-- a rule of scripts stops what goes on after it
pub fails_on : {A B : Type 0} (why : PlayError) (r : Result A LineRule) (f : A → Result B LineRule) → Fails why r → Fails why (r >>= f)
fails_on (errors.Rule rule) r f fails = rw fails refl
fails_on errors.Memory r f fails = tt

-- a line that has no text says nothing
pub said_fails : (why : PlayError) (nodes number : ℕ) (line : List ℕ) → Fails why (line_said number line) → Fails why (said nodes number line)
unfolding said
said_fails why nodes number line fails = fails_on why (line_said number line) _ fails

pub fails_by_script : {A : Type 0} (rule : ScriptRule) (r : Result A ScriptRule) → r ≡ Err rule → Fails (errors.Rule (Script rule)) (by_script r)
fails_by_script rule r is = ap by_script is

pub line_fails : {A : Type 0} (why : LineError) (r : Result A ScriptRule) → LineFails why r → Fails (play_error why) (by_script r)
line_fails (lines.Rule rule) r is = ap by_script is
line_fails lines.Memory r is = tt

-- a command that is read is one of the set, also where it is handed on
pub fits_kept : (nodes : ℕ) (verb : Verb) (left : Left) (command : Command) (result : Result Command PlayError) → words_at nodes verb left ≡ Ok command
    → IfOk result (λ same. same ≡ command) → IfOk result (λ c. is_for nodes c ≡ true)
fits_kept nodes verb left command (Ok c) read same =
    ap (is_for nodes) same ∙ got (words_at nodes verb left) command (λ c. is_for nodes c ≡ true) (words_within nodes verb left) read
fits_kept nodes verb left command (Err error) read same = tt
