use mir.Val.{bool_byte}
use Rattle.std.proofs.Common.{◌≡◌, ◌∙◌, ◌<◌, ◌==◌, ℕ, Bool, Some, ap, false, length, refl, rules, slice_get, sym, true}
use Rattle.std.proofs.lemmas.Bool.{and_parts}
use Rattle.std.proofs.lemmas.Option.{same_Some, slice_get_within}
use Rattle.std.specs.Vec.{with_item}
use Rattle.set_model.specs.Node.{Node}
use Rattle.explore_steps.specs.Causes.{is_met_at}
use Rattle.explore_steps.proofs.Keeping.{look_within, one_look, read_at}
use Rattle.explore_steps.proofs.Looks.{look_for}
use Rattle.explore_steps.proofs.Putting.{put_sight}
use Rattle.explore_steps.proofs.steps.Steps.is_met.Goals as goal

one_byte : (met : Bool) → (bool_byte met == 1) ≡ met
one_byte true = refl
one_byte false = refl

pub returns-in-Some-clause-met : goal.returns-in-Some-clause-met
returns-in-Some-clause-met c at at_is =
    let question = c.args.question.now in
    let steps = c.args.self.now in
    let within : c.args.want < length steps.sights.items = look_within question c.args.want c.args.place c.args.look.now steps.sights.items c.requires.kept.wants c.requires.look in
    let there : slice_get steps.sights.items c.args.want ≡ Some c.index.result.now = read_at steps.sights.items c.args.want c.index.result.now within c.index.ensures in
    let was = c.requires.kept.sights c.args.want c.args.place c.args.node c.in-Some.met (c.index.result.now, there, c.in-Some.ensures) in
    was.4 ∙ ap (λ (n : Node). is_met_at question.sizes.nodes n was.0) (same_Some was.1 at (sym was.3 ∙ at_is))
    ∙ ap (is_met_at question.sizes.nodes at) (one_look question c.args.want c.args.place was.0 c.args.look.now was.2 c.requires.look)

pub get-requires : goal.get-requires
get-requires c = slice_get_within c.args.self.now.nodes c.args.node c.requires.node.0 c.requires.node.1

pub is_look_met-requires-clause-within : goal.is_look_met-requires-clause-within
is_look_met-requires-clause-within c = (and_parts _ _ (look_for c.args.question.now c.args.want c.args.place c.args.look.now c.requires.put c.requires.look)).1

pub index_mut-requires : goal.index_mut-requires
index_mut-requires c =
    let within : c.args.want < length c.args.self.now.sights.items =
    look_within c.args.question.now c.args.want c.args.place c.args.look.now c.args.self.now.sights.items c.requires.kept.wants c.requires.look in
    search rules

pub returns-clause-grown : goal.returns-clause-grown
returns-clause-grown c =
    let question = c.args.question.now in
    let steps = c.args.self.now in
    let within : c.args.want < length steps.sights.items = look_within question c.args.want c.args.place c.args.look.now steps.sights.items c.requires.kept.wants c.requires.look in
    let there : slice_get steps.sights.items c.args.want ≡ Some c.index_mut.result.now = read_at steps.sights.items c.args.want c.index_mut.result.now within c.index_mut.ensures.value in
    put_sight question steps c.requires.kept (record steps { sights = with_item steps.sights c.args.want c.put.new.self }) c.args.want c.args.place c.args.node c.from.result
    c.index_mut.result.now c.put.new.self c.in_ok-put.ensures there refl (
      c.args.look.now,
      c.get.result.now,
      c.requires.look,
      c.get.ensures,
      ap (λ (n : ℕ). n == 1) c.from.ensures ∙ one_byte c.in_ok-met.met ∙ c.in_ok-met.ensures
          ∙ ap (λ (k : ℕ). is_met_at k c.get.result.now c.args.look.now) c.requires.kept.size,
    )
