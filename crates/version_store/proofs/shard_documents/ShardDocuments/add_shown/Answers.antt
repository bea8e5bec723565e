use Rattle.std.proofs.Common.{◌∙◌, ◌++◌, ap, sym, append-nil}
use Rattle.version_store.specs.Past.{shown}
use Rattle.version_store.specs.Shards.{Shard, past_of}
use Rattle.version_store.specs.Shown.{shown_here, one_at}
use Rattle.version_store.proofs.ShardLemmas.{Entries}
use Rattle.version_store.proofs.ShownLemmas.{left_of, shown_of, once_named}
use Rattle.version_store.proofs.shard_documents.ShardDocuments.add_shown.Goals as goal

pub returns-clause-shown : goal.returns-clause-shown
returns-clause-shown c place =
    let gives = c.into_iter-name-iterator.ensures.into_iter_gives in
    sym (append-nil (shown_here place c.loop-name.gathered.items))
    ∙ ap (λ (es : Entries). shown_here place c.loop-name.gathered.items ++ left_of c.args.at es place) (sym c.in-None.ensures.steps.0)
    ∙ c.loop-name.invariant place
    ∙ ap (λ l. shown_here place c.args.gathered.now.items ++ l)
    (ap (λ (es : Entries). left_of c.args.at es place) gives.0 ∙ shown_of c.args.at c.self.inside.collections.entries place (once_named place.0 c.self.inside.collections.entries gives.5)
    ∙ ap (λ (s : Shard). one_at place (shown c.args.at (past_of s place).versions)) c.self.view_is)
