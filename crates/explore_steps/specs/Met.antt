-- Which wants were found to be met, so far.
use Rattle.std.specs.Prelude.{◌≡◌, ◌<◌, ◌↔◌, ℕ, List, Some, slice_get}
use Rattle.rs_optime.specs.Membership.{In}
use Rattle.set_model.specs.declared.reply.Reply.{Reply}
use Rattle.explore_words.specs.declared.question.Want.{Want}
use Rattle.explore_steps.specs.Causes.{Cause, IsMetBy}

-- of the first wants, this many, these are met by an event
pub record AreMet (cause : Cause) (reply : Reply) (wants : List Want) (count : ℕ) (places : List ℕ)
    : Type 0 where
  pub met :
      (place : ℕ) (want : Want) → place < count → slice_get wants place ≡ Some want
      → In place places ↔ IsMetBy cause want reply
  pub within : (place : ℕ) → In place places → place < count
