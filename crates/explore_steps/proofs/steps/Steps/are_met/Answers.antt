use Rattle.std.proofs.Common.{◌≡◌, ◌∙◌, ◌<◌, ◌≤◌, ℕ, Some, ap, arith, false, get_or, length, refl, rules, slice_get, subst, sym, true}
use Rattle.std.proofs.lemmas.Bool.{and_parts}
use Rattle.std.proofs.lemmas.Option.{slice_get_read}
use Rattle.explore_words.specs.declared.question.Look.{Look}
use Rattle.explore_steps.specs.Seeing.{is_met_in}
use Rattle.explore_steps.specs.Tables.{tables_of}
use Rattle.explore_steps.proofs.Keeping.{grown_then}
use Rattle.explore_steps.proofs.Looks.{all_next, look_for, not_all}
use Rattle.explore_steps.proofs.LooksAt.{cell_now, cells_count, look_now, number_within, sound_now}
use Rattle.explore_steps.proofs.Numbers.{get_or_there}
use Rattle.explore_steps.proofs.Reading.{cell_within}
use Rattle.explore_steps.proofs.steps.Steps.are_met.Goals as goal

pub bounds-cells-number : goal.bounds-cells-number
bounds-cells-number c =
    let question = c.args.question.now in
    let own = tables_of c.args.self.now in
    let now = tables_of c.loop-place.self in
    let cells = c.args.cells.now in
    let look : Look = c.index-looks-place.result in
    let look_there : slice_get c.args.looks.now c.loop-place.place ≡ Some look =
    slice_get_read c.args.looks.now (length c.args.looks.now) c.loop-place.place look refl c.loop-place-test.true c.index-looks-place.is in
    let is_for = and_parts _ _ (look_for question c.args.want c.loop-place.place look c.requires.put (c.args.looks.now, c.requires.looks, look_there)) in
    let number : ℕ = c.node_of-number.result in
    let within : number < length cells =
    subst (λ (n : ℕ). n < length cells) (sym c.node_of-number.ensures) (number_within own question cells c.requires.come look.node c.args.any is_for.0 c.requires.any) in
    within

pub offset_bounds-cells-number : goal.offset_bounds-cells-number
offset_bounds-cells-number c =
    let question = c.args.question.now in
    let own = tables_of c.args.self.now in
    let now = tables_of c.loop-place.self in
    let cells = c.args.cells.now in
    let look : Look = c.index-looks-place.result in
    let look_there : slice_get c.args.looks.now c.loop-place.place ≡ Some look =
    slice_get_read c.args.looks.now (length c.args.looks.now) c.loop-place.place look refl c.loop-place-test.true c.index-looks-place.is in
    let is_for = and_parts _ _ (look_for question c.args.want c.loop-place.place look c.requires.put (c.args.looks.now, c.requires.looks, look_there)) in
    let number : ℕ = c.node_of-number.result in
    let within : number < length cells =
    subst (λ (n : ℕ). n < length cells) (sym c.node_of-number.ensures) (number_within own question cells c.requires.come look.node c.args.any is_for.0 c.requires.any) in
    let few : question.sizes.nodes ≤ 50 = c.requires.put.sizes.most in
    let count : length cells ≡ question.sizes.nodes = cells_count own question cells c.requires.come in
    let small : number < 50 = omega (arith, within, few, count) in
    search rules

pub node_number-node-requires : goal.node_number-node-requires
node_number-node-requires c =
    let question = c.args.question.now in
    let own = tables_of c.args.self.now in
    let now = tables_of c.loop-place.self in
    let cells = c.args.cells.now in
    let look : Look = c.index-looks-place.result in
    let look_there : slice_get c.args.looks.now c.loop-place.place ≡ Some look =
    slice_get_read c.args.looks.now (length c.args.looks.now) c.loop-place.place look refl c.loop-place-test.true c.index-looks-place.is in
    let is_for = and_parts _ _ (look_for question c.args.want c.loop-place.place look c.requires.put (c.args.looks.now, c.requires.looks, look_there)) in
    let number : ℕ = c.node_of-number.result in
    let within : number < length cells =
    subst (λ (n : ℕ). n < length cells) (sym c.node_of-number.ensures) (number_within own question cells c.requires.come look.node c.args.any is_for.0 c.requires.any) in
    let cell : ℕ = get_or cells number 0 in
    let there : slice_get cells number ≡ Some cell = get_or_there cells number 0 within in
    cell_within now cell (cell_now own now c.loop-place.invariant.grown.tables question cells c.requires.come number cell there)

pub is_met-requires-clause-look : goal.is_met-requires-clause-look
is_met-requires-clause-look c =
    let question = c.args.question.now in
    let own = tables_of c.args.self.now in
    let now = tables_of c.loop-place.self in
    let cells = c.args.cells.now in
    let look : Look = c.index-looks-place.result in
    let look_there : slice_get c.args.looks.now c.loop-place.place ≡ Some look =
    slice_get_read c.args.looks.now (length c.args.looks.now) c.loop-place.place look refl c.loop-place-test.true c.index-looks-place.is in
    let is_for = and_parts _ _ (look_for question c.args.want c.loop-place.place look c.requires.put (c.args.looks.now, c.requires.looks, look_there)) in
    let number : ℕ = c.node_of-number.result in
    let within : number < length cells =
    subst (λ (n : ℕ). n < length cells) (sym c.node_of-number.ensures) (number_within own question cells c.requires.come look.node c.args.any is_for.0 c.requires.any) in
    (c.args.looks.now, c.requires.looks, ap (slice_get c.args.looks.now) c.in_ok-number_of.ensures.same ∙ look_there)

pub is_met-requires-clause-node : goal.is_met-requires-clause-node
is_met-requires-clause-node c =
    let question = c.args.question.now in
    let own = tables_of c.args.self.now in
    let now = tables_of c.loop-place.self in
    let cells = c.args.cells.now in
    let look : Look = c.index-looks-place.result in
    let look_there : slice_get c.args.looks.now c.loop-place.place ≡ Some look =
    slice_get_read c.args.looks.now (length c.args.looks.now) c.loop-place.place look refl c.loop-place-test.true c.index-looks-place.is in
    let is_for = and_parts _ _ (look_for question c.args.want c.loop-place.place look c.requires.put (c.args.looks.now, c.requires.looks, look_there)) in
    let number : ℕ = c.node_of-number.result in
    let within : number < length cells =
    subst (λ (n : ℕ). n < length cells) (sym c.node_of-number.ensures) (number_within own question cells c.requires.come look.node c.args.any is_for.0 c.requires.any) in
    let cell : ℕ = get_or cells number 0 in
    let there : slice_get cells number ≡ Some cell = get_or_there cells number 0 within in
    sound_now own now c.loop-place.invariant.grown.tables question cells c.requires.come number cell there c.node_number-node.result c.node_number-node.ensures.0 c.node_number-node.ensures.1
    (λ world before. c.worlds_are_sound.ensures.nodes question 0 world c.requires.put.sizes before)

pub returns-then-not-branch-clause-met : goal.returns-then-not-branch-clause-met
returns-then-not-branch-clause-met c =
    let question = c.args.question.now in
    let own = tables_of c.args.self.now in
    let now = tables_of c.loop-place.self in
    let cells = c.args.cells.now in
    let look : Look = c.index-looks-place.result in
    let look_there : slice_get c.args.looks.now c.loop-place.place ≡ Some look =
    slice_get_read c.args.looks.now (length c.args.looks.now) c.loop-place.place look refl c.loop-place-test.true c.index-looks-place.is in
    let is_for = and_parts _ _ (look_for question c.args.want c.loop-place.place look c.requires.put (c.args.looks.now, c.requires.looks, look_there)) in
    let number : ℕ = c.node_of-number.result in
    let within : number < length cells =
    subst (λ (n : ℕ). n < length cells) (sym c.node_of-number.ensures) (number_within own question cells c.requires.come look.node c.args.any is_for.0 c.requires.any) in
    let cell : ℕ = get_or cells number 0 in
    let there : slice_get cells number ≡ Some cell = get_or_there cells number 0 within in
    let node : ℕ = c.node_number-node.result in
    let list : ℕ = c.node_number-node.ensures.0 in
    let cell_is = c.node_number-node.ensures.1 in
    let looked = look_now own now c.loop-place.invariant.grown.tables question cells c.requires.come number cell there node list cell_is c.args.any look c.node_of-number.ensures in
    let unmet : c.in_ok-is_met.field-0 ≡ false = search rules in
    sym (not_all (is_met_in own question.sizes.nodes cells c.args.any) c.args.looks.now c.loop-place.place look look_there
    (looked.2 ∙ sym (c.in_ok-is_met.ensures.met looked.0 looked.1) ∙ unmet))

pub loop-place-preserved : goal.loop-place-preserved
loop-place-preserved c =
    let question = c.args.question.now in
    let own = tables_of c.args.self.now in
    let now = tables_of c.loop-place.self in
    let cells = c.args.cells.now in
    let look : Look = c.index-looks-place.result in
    let look_there : slice_get c.args.looks.now c.loop-place.place ≡ Some look =
    slice_get_read c.args.looks.now (length c.args.looks.now) c.loop-place.place look refl c.loop-place-test.true c.index-looks-place.is in
    let is_for = and_parts _ _ (look_for question c.args.want c.loop-place.place look c.requires.put (c.args.looks.now, c.requires.looks, look_there)) in
    let number : ℕ = c.node_of-number.result in
    let within : number < length cells =
    subst (λ (n : ℕ). n < length cells) (sym c.node_of-number.ensures) (number_within own question cells c.requires.come look.node c.args.any is_for.0 c.requires.any) in
    let cell : ℕ = get_or cells number 0 in
    let there : slice_get cells number ≡ Some cell = get_or_there cells number 0 within in
    let node : ℕ = c.node_number-node.result in
    let list : ℕ = c.node_number-node.ensures.0 in
    let cell_is = c.node_number-node.ensures.1 in
    let looked = look_now own now c.loop-place.invariant.grown.tables question cells c.requires.come number cell there node list cell_is c.args.any look c.node_of-number.ensures in
    let met : c.in_ok-is_met.field-0 ≡ true = search rules in
    record {
      grown = grown_then question c.args.self.now c.loop-place.self c.is_met.new.self c.loop-place.invariant.grown c.in_ok-is_met.ensures.grown;
      met = all_next (is_met_in own question.sizes.nodes cells c.args.any) c.args.looks.now c.loop-place.place look look_there c.loop-place.invariant.met
          (looked.2 ∙ sym (c.in_ok-is_met.ensures.met looked.0 looked.1) ∙ met);
    }
