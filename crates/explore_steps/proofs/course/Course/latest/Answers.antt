use Rattle.std.proofs.Common.{◌≡◌, ◌∙◌, ◌<◌, ◌+◌, ◌-◌, ap, sym, length, take, ℕ, true, false, arith}
use Rattle.std.proofs.lemmas.Option.{same_Some, slice_get_within}
use Rattle.set_model.specs.World.{is_between, latest_between}
use Rattle.explore_steps.specs.Tables.{tables_of}
use Rattle.explore_steps.proofs.CourseLemmas.{latest_before, latest_here, read_back}
use Rattle.explore_steps.proofs.course.Course.latest.Goals as goal

pub message-requires : goal.message-requires
message-requires c =
    let count : c.len-place.result ≡ length c.args.self.now.sent.items = omega arith in
    let within : c.loop-place.place - 1 < length c.args.self.now.sent.items = omega (arith, count) in
    let m = read_back (tables_of c.args.steps.now) c.args.self.now.sent.items c.requires.0 (c.loop-place.place - 1) c.index-number.result.now c.requires.1 within c.index-number.ensures in
    slice_get_within c.args.steps.now.messages c.index-number.result.now m.0 m.2

pub returns-then-is_between : goal.returns-then-is_between
returns-then-is_between c messages are =
    let count : c.len-place.result ≡ length c.args.self.now.sent.items = omega arith in
    let within : c.loop-place.place - 1 < length c.args.self.now.sent.items = omega (arith, count) in
    let m = read_back (tables_of c.args.steps.now) c.args.self.now.sent.items messages (c.loop-place.place - 1) c.index-number.result.now are within c.index-number.ensures in
    let next : c.loop-place.place ≡ (c.loop-place.place - 1) + 1 = omega arith in
    let same : m.0 ≡ c.message.result.now = same_Some m.0 c.message.result.now (sym m.2 ∙ c.message.ensures) in
    let between : is_between c.args.from c.args.to m.0 ≡ true = ap (is_between c.args.from c.args.to) same ∙ sym c.is_between.ensures ∙ c.if-is_between.true in
    (m.0, m.2, c.loop-place.invariant messages are ∙ ap (λ (k : ℕ). latest_between (take k messages) c.args.from c.args.to) next ∙ latest_here messages c.args.from c.args.to (c.loop-place.place - 1) m.0 m.1 between)

pub loop-place-preserved : goal.loop-place-preserved
loop-place-preserved c messages are =
    let count : c.len-place.result ≡ length c.args.self.now.sent.items = omega arith in
    let within : c.loop-place.place - 1 < length c.args.self.now.sent.items = omega (arith, count) in
    let m = read_back (tables_of c.args.steps.now) c.args.self.now.sent.items messages (c.loop-place.place - 1) c.index-number.result.now are within c.index-number.ensures in
    let next : c.loop-place.place ≡ (c.loop-place.place - 1) + 1 = omega arith in
    let same : m.0 ≡ c.message.result.now = same_Some m.0 c.message.result.now (sym m.2 ∙ c.message.ensures) in
    let apart : is_between c.args.from c.args.to m.0 ≡ false = ap (is_between c.args.from c.args.to) same ∙ sym c.is_between.ensures ∙ c.if-is_between.false in
    c.loop-place.invariant messages are ∙ ap (λ (k : ℕ). latest_between (take k messages) c.args.from c.args.to) next ∙ latest_before messages c.args.from c.args.to (c.loop-place.place - 1) m.0 m.1 apart
