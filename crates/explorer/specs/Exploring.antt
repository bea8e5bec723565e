-- What is answered to a question.
use Rattle.std.specs.Prelude.{◌≡◌, ◌<◌, ◌≤◌, ◌+◌, ◌*◌, ◌-◌, ◌^◌, ℕ, suc, List, fold, length, max}
use Rattle.set_model.specs.declared.command.Event.{Event}
use Rattle.set_model.specs.Limits.{IsRun}
use Rattle.explore_words.specs.declared.question.Act.{Act}
use Rattle.explore_words.specs.declared.question.Question.{Question}
use Rattle.question_laws.specs.Following.{Follows, LeadsIn, Meets, Standing, sizes_in, start}
use Rattle.explore_steps.specs.Reaching.{IsPut}
use Rattle.explorer.specs.Levels.{IsCoveredIn}
use Rattle.explorer.specs.declared.answer.Answer.{Answer}
use Rattle.explorer.specs.declared.answer.Answer.TheVariants.{Found, NoneAtAll, NoneWithin, Unknown}

-- no run with so many acts meets the wants
abbrev pub HasNone : Question → ℕ → Type 0
HasNone question acts = (events : List Event) → Follows question acts events → Meets question events → ⊥

-- These events are a run of the question, with so many acts, that meets the wants. None with fewer acts does.
pub record IsShortest (question : Question) (acts : ℕ) (events : List Event) : Type 0 where
  pub follows : Follows question acts events
  pub defined : IsRun (sizes_in question) events
  pub meets : Meets question events
  pub shortest : (fewer : ℕ) → fewer < acts → HasNone question fewer

-- So many standings cover all that at most so many acts lead to.
pub record AreEnough (question : Question) (most states : ℕ) : Type 0 where
  pub standings : List Standing
  pub count : length standings ≡ states
  pub cover :
      (acts : ℕ) (new : Standing) → acts ≤ most → LeadsIn acts question (start question) new
      → IsCoveredIn question standings new

-- No run with at most so many acts meets the wants. So many states tell that, no more than there may be.
pub record HasNoneUpTo (question : Question) (most limit states : ℕ) : Type 0 where
  pub none : (acts : ℕ) → acts ≤ most → HasNone question acts
  pub enough : AreEnough question most states
  pub within : states ≤ limit

-- what is answered where at most `depth` acts are done, and at most `limit` states are looked at
abbrev pub Answers : Question → (depth limit : ℕ) → Answer → Type 0
Answers question depth limit (Found acts events) = (acts ≤ depth) × IsShortest question acts events.items
Answers question depth limit (NoneAtAll states) = (most : ℕ) → HasNoneUpTo question most limit states
Answers question depth limit (NoneWithin states) = HasNoneUpTo question depth limit states
Answers question depth limit (Unknown acts states) = (acts < depth) × HasNoneUpTo question acts limit states

-- ---- what is asked of a question

-- how many lines an act has at most
abbrev pub most_lines : List Act → ℕ
most_lines acts = fold (λ most act. max most (suc (length act.commands))) 0 acts

-- It was read from a text, and its runs have few enough events that no number overflows its type.
pub record IsAsked (question : Question) (depth : ℕ) : Type 0 where
  pub put : IsPut question
  pub acts : length question.acts ≤ 1000
  pub short : length question.beginning + depth * most_lines question.acts < 2 ^ 32 - 1
