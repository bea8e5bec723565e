use Rattle.std.proofs.Common.{◌≡◌, ◌∙◌, None, Some, arith, rules, subst, sym}
use Rattle.std.specs.Prelude.{Contains}
use Rattle.set_model.specs.World.{latest_between}
use Rattle.set_world.specs.Pool.{Pool, IsNewest}
use Rattle.set_world.proofs.PoolLemmas.{newest_at, newest_is}
use Rattle.set_world.proofs.pool.Pool.latest.Goals as goal

pub returns-in_err-place-clause-none : goal.returns-in_err-place-clause-none
returns-in_err-place-clause-none c =
    let none : latest_between c.self.inside.messages.items c.args.from c.args.to ≡ None =
    newest_at c.self.inside.nodes c.self.inside.messages.items c.self.inside.newest.entries c.args.from c.args.to None c.self.invariant (c.in_err-place.ensures ∙ c.get.ensures.value) in
    let so : latest_between c.args.self.now.messages c.args.from c.args.to ≡ None = subst (λ (p : Pool). latest_between p.messages c.args.from c.args.to ≡ None) c.self.view_is none in
    search rules

pub index-requires : goal.index-requires
index-requires c =
    let is : IsNewest c.self.inside.messages.items c.args.from c.args.to (Some c.in_ok-place.place) =
    newest_at c.self.inside.nodes c.self.inside.messages.items c.self.inside.newest.entries c.args.from c.args.to (Some c.in_ok-place.place) c.self.invariant (c.in_ok-place.ensures ∙ c.get.ensures.value) in
    omega (arith, is.0)

pub returns-clause-some : goal.returns-clause-some
returns-clause-some c =
    let is : IsNewest c.self.inside.messages.items c.args.from c.args.to (Some c.in_ok-place.place) =
    newest_at c.self.inside.nodes c.self.inside.messages.items c.self.inside.newest.entries c.args.from c.args.to (Some c.in_ok-place.place) c.self.invariant (c.in_ok-place.ensures ∙ c.get.ensures.value) in
    subst (λ (p : Pool). latest_between p.messages c.args.from c.args.to ≡ Some c.index.result.now) c.self.view_is
    (newest_is c.self.inside.messages.items c.args.from c.args.to c.in_ok-place.place c.index.result.now is c.index.ensures)

pub returns-clause-sent : goal.returns-clause-sent
returns-clause-sent c =
    let is : IsNewest c.self.inside.messages.items c.args.from c.args.to (Some c.in_ok-place.place) =
    newest_at c.self.inside.nodes c.self.inside.messages.items c.self.inside.newest.entries c.args.from c.args.to (Some c.in_ok-place.place) c.self.invariant (c.in_ok-place.ensures ∙ c.get.ensures.value) in
    subst (λ (p : Pool). Contains p.messages c.index.result.now) c.self.view_is (c.in_ok-place.place, is.0, sym c.index.ensures)
