use Rattle.member_config.proofs.SameLemmas.{members_same}
use Rattle.member_config.proofs.config.same_members.Goals as goal

pub returns : goal.returns
returns c = members_same c.args.one.now c.args.other.now c.eq.result c.eq.ensures
