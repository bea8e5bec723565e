use Rattle.std.proofs.Common.{◌≡◌, ◌∙◌, ◌<◌, ap, sym, subst, length, arith}
use Rattle.safety_laws.proofs.Places.{get_in}
use Rattle.set_model.specs.World.{World}
use Rattle.explore_steps.specs.Courses.{IsNoted}
use Rattle.explore_steps.specs.Tables.{tables_of}
use Rattle.explore_steps.proofs.CourseLemmas.{sent_all, sent_at, sent_enough, sent_next}
use Rattle.explore_steps.proofs.Growth.{grow_on}
use Rattle.explore_steps.proofs.course.Course.add_from.Goals as goal

pub add-requires-clause-message : goal.add-requires-clause-message
add-requires-clause-message c =
    let count : c.len.result ≡ length c.args.self.now.sent.items = omega arith in
    let m = sent_at (tables_of c.args.steps.now) c.args.before c.args.self.now.sent.items c.loop-place.self.sent.items c.loop-place.place c.index-message.result.now c.len.result
    c.requires.messages.0 c.requires.messages.1 count c.loop-place-test.true (ap (λ v. v.items) c.loop-place.invariant.same.sent) c.index-message.ensures in (
      m.0,
      c.loop-place.invariant.grown.tables.messages c.index-message.result.now m.0 m.2,
      subst (λ k. m.0.to < k) (sym c.loop-place.invariant.count) (c.requires.messages.2 m.0 (get_in c.requires.messages.0 c.loop-place.place m.0 m.1)),
    )

pub loop-place-preserved : goal.loop-place-preserved
loop-place-preserved c = record {
  grown = record {
    tables = grow_on (tables_of c.args.steps.now) (tables_of c.loop-place.steps) (tables_of c.add.new.steps) c.loop-place.invariant.grown.tables c.in_ok-add.ensures.grown.tables;
    kept = λ question kept. c.in_ok-add.ensures.grown.kept question (c.loop-place.invariant.grown.kept question kept);
  };
  same = record {
    met = c.in_ok-add.ensures.same.met ∙ c.loop-place.invariant.same.met;
    notes = c.in_ok-add.ensures.same.notes ∙ c.loop-place.invariant.same.notes;
    sent = c.in_ok-add.ensures.same.sent ∙ c.loop-place.invariant.same.sent;
  };
  count = c.in_ok-add.ensures.count ∙ c.loop-place.invariant.count;
  cells = c.in_ok-add.ensures.cells;
  adds = λ messages world are noted.
      (let count : c.len.result ≡ length c.args.self.now.sent.items = omega arith in
      let m = sent_at (tables_of c.args.steps.now) c.args.before c.args.self.now.sent.items c.loop-place.self.sent.items c.loop-place.place c.index-message.result.now c.len.result
      messages are count c.loop-place-test.true (ap (λ v. v.items) c.loop-place.invariant.same.sent) c.index-message.ensures in
      subst (λ (w : World). IsNoted (tables_of c.add.new.steps) c.add.new.self w) (sent_next world messages c.loop-place.place m.0 m.1)
      (c.in_ok-add.ensures.adds m.0 _ (c.loop-place.invariant.grown.tables.messages c.index-message.result.now m.0 m.2) (c.loop-place.invariant.adds messages world are noted)));
}

pub returns-clause-adds : goal.returns-clause-adds
returns-clause-adds c messages world are noted =
    let count : c.len.result ≡ length c.args.self.now.sent.items = omega arith in
    subst (λ (w : World). IsNoted (tables_of c.loop-place.steps) c.loop-place.self w)
    (sent_all world messages c.loop-place.place (sent_enough (tables_of c.args.steps.now) c.args.before c.args.self.now.sent.items c.loop-place.place c.len.result messages are count c.loop-place-test.false))
    (c.loop-place.invariant.adds messages world are noted)
