use Rattle.explorer.proofs.search.search_all.Goals as goal

pub new-requires : goal.new-requires
new-requires c = c.requires.question.put.sizes.most
