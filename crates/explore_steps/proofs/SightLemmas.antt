-- What is seen at a node.
use Rattle.std.proofs.Common.{◌≡◌, ◌∙◌, ap, sym, refl, ℕ, true, Option, None, Some}
use Rattle.std.proofs.lemmas.Bool.{and_parts}
use Rattle.std.specs.Option.{option_map}
use Rattle.bson_doc.specs.Key.{key_of}
use Rattle.bson_doc.specs.View.{tree_of}
use Rattle.set_model.specs.declared.command.Command.{Command}
use Rattle.set_model.specs.declared.command.Command.TheVariants as commands
use Rattle.set_model.specs.declared.command.Target.TheVariants.{At}
use Rattle.set_model.specs.Limits.{is_collection, is_within, is_within_concern}
use Rattle.set_model.specs.Node.{Node}
use Rattle.explore_words.specs.declared.question.Sight.{Sight}
use Rattle.explore_words.specs.declared.question.Sight.TheVariants as sights
use Rattle.explore_words.specs.Fits.{is_within_sight}
use Rattle.oplog_entry.specs.declared.entry.Entry.{Entry}
use Rattle.question_laws.specs.Meeting.{last_of_key}
use Rattle.explore_steps.specs.Causes.{shows_at}

same_command : (one other : Command) → Some one ≡ Some other → one ≡ other
same_command one other is = cc is

within : (one other : Command) → is_within one ≡ true → Some one ≡ Some other → is_within other ≡ true
within one other holds is = ap is_within (sym (same_command one other is)) ∙ holds

-- the command that shows it is within the limits
pub shown_within : (number : ℕ) (node : Node) (sight : Sight) (command : Command) → is_within_sight sight ≡ true → Some command ≡ shows_at number node sight → is_within command ≡ true
shown_within number node (sights.Read level collection id) command holds is = within _ command holds (sym is)
shown_within number node (sights.Dump level) command holds is = within _ command refl (sym is)
shown_within number node sights.Log command holds is = within _ command refl (sym is)
shown_within number node sights.State command holds is = within _ command refl (sym is)
shown_within number node sights.Rolled command holds is = within _ command refl (sym is)
shown_within number node (sights.Ack target concern) command holds is = within _ command holds (sym is)
shown_within number node (sights.AckLast collection id concern) command holds is = go (last_of_key node.log collection (key_of (tree_of id))) is
  where
    go : (last : Option Entry) → Some command ≡ option_map (λ (entry : Entry). commands.Ack number (At entry.optime) concern) last → is_within command ≡ true
    go None none = absurd (cc none)
    go (Some entry) some = within _ command (and_parts (is_collection collection) (is_within_concern concern) holds).1 (sym some)
