use Rattle.std.proofs.Common.{◌≡◌, ◌∙◌, ℕ, List, Some, ap, refl, rules}
use Rattle.std.specs.FinMap.{from_entries}
use Rattle.std.specs.Ordering.{nat_cmp}
use Rattle.bson_doc.specs.Place.{Place}
use Rattle.set_model.specs.declared.writer.Writer.{Writer}
use Rattle.node_data.specs.Writers.{held_place}
use Rattle.node_data.proofs.ReleaseLemmas.{let_go, let_versions, none_or_some}
use Rattle.node_data.proofs.writer_map.WriterMap.release_all.Goals as goal

pub loop-held-init : goal.loop-held-init
loop-held-init c =
    let given : c.into_iter-held-iterator.result ≡ c.self.inside.writers.entries = search rules in (
      λ place. refl,
      none_or_some c.into_iter-held-iterator.result c.args.self.now c.args.store.now
          (ap (λ (es : List (ℕ × Writer)). from_entries {R = nat_cmp} es) given ∙ c.self.view_is) c.requires,
      refl,
    )

pub loop-held-preserved-in-Some-place : goal.loop-held-preserved-in-Some-place
loop-held-preserved-in-Some-place c =
    let own : Place = (c.as_str.result.now, c.in-Some-place.field-0.now.1) in
    let has : held_place c.in-Some.held.now ≡ Some own = search rules in (
      λ place. let_versions c.loop-held.store c.release.new.self own c.release.ensures place ∙ c.loop-held.invariant.0 place,
      let_go c.loop-held.store c.release.new.self own c.loop-held.held-iterator c.next.new.self (c.in-Some.field-0-0.now, c.in-Some.held.now) has c.release.ensures (search rules) c.loop-held.invariant.1,
      c.release.ensures.count ∙ c.loop-held.invariant.2,
    )
