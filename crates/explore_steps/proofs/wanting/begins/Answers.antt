use Rattle.std.proofs.Common.{◌∙◌, ◌==◌, ap, List, ℕ}
use Rattle.std.specs.List.{starts_with}
use Rattle.explore_steps.proofs.MetLemmas.{reply_within}
use Rattle.explore_steps.proofs.wanting.begins.Goals as goal

pub returns : goal.returns
returns c = λ reply is.
    c.starts_with.ensures.value
    ∙ ap (λ (l : List ℕ). starts_with ◌==◌ l c.as_bytes.result.now) (reply_within reply c.as_bytes-bytes.result.now (c.as_bytes-bytes.ensures.value ∙ is))
    ∙ ap (starts_with ◌==◌ (Rattle.transcript.specs.Replies.reply_text reply)) (c.as_bytes.ensures.value ∙ c.as_str.ensures)
