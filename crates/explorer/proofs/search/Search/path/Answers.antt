use Rattle.std.proofs.Common.{◌≡◌, ◌<◌, Some, List, arith, length, refl, slice_get, subst, suc, sym}
use Rattle.std.proofs.lemmas.Option.{slice_get_read}
use Rattle.explore_steps.specs.declared.doing.Doing.{Doing as Tried}
use Rattle.explore_steps.specs.Tables.{tables_of}
use Rattle.explorer.specs.States.{IsBack, IsPath}
use Rattle.explorer.proofs.BackLemmas.{back_ends, back_more, back_older, back_within}
use Rattle.explorer.proofs.search.Search.path.Goals as goal

pub index-origin-requires : goal.index-origin-requires
index-origin-requires c =
    let r = c.requires in
    let within : c.loop-state.state < length c.args.self.now.origins.items = back_within r.0 r.1 c.args.self.now c.args.last r.2 c.loop-state.state c.loop-state.doings.items (c.loop-state.invariant r.0 r.1 r.2) in
    omega (arith, within)

pub loop-state-smaller : goal.loop-state-smaller
loop-state-smaller c =
    let r = c.requires in
    let within : c.loop-state.state < length c.args.self.now.origins.items = back_within r.0 r.1 c.args.self.now c.args.last r.2 c.loop-state.state c.loop-state.doings.items (c.loop-state.invariant r.0 r.1 r.2) in
    let is : slice_get c.args.self.now.origins.items c.loop-state.state ≡ Some c.index-origin.result.now = slice_get_read c.args.self.now.origins.items (length c.args.self.now.origins.items) c.loop-state.state c.index-origin.result.now refl within c.index-origin.ensures in
    back_older r.0 r.1 c.args.self.now c.args.last r.2 c.loop-state.state c.loop-state.doings.items (c.loop-state.invariant r.0 r.1 r.2) c.index-origin.result.now c.loop-state-test.true is

pub loop-state-preserved : goal.loop-state-preserved
loop-state-preserved c = λ question done met.
    (let inv = c.loop-state.invariant question done met in
    let within : c.loop-state.state < length c.args.self.now.origins.items = back_within question done c.args.self.now c.args.last met c.loop-state.state c.loop-state.doings.items inv in
    let is : slice_get c.args.self.now.origins.items c.loop-state.state ≡ Some c.index-origin.result.now = slice_get_read c.args.self.now.origins.items (length c.args.self.now.origins.items) c.loop-state.state c.index-origin.result.now refl within c.index-origin.ensures in
    subst (λ (l : List Tried). IsBack question done c.args.self.now c.args.last met c.index-origin.result.now.from l) (sym c.in_ok-push-2.ensures.items)
    (back_more question done c.args.self.now c.args.last met c.loop-state.state c.loop-state.doings.items inv c.index-origin.result.now c.loop-state-test.true is))

pub returns : goal.returns
returns c = λ question done met.
    subst (λ (l : List Tried). IsPath question (suc done) (tables_of c.args.self.now.steps) l) (sym c.reverse.ensures.items)
    (back_ends question done c.args.self.now c.args.last met c.loop-state.state c.loop-state.doings.items (c.loop-state.invariant question done met) (omega (arith, c.loop-state-test.false)))
