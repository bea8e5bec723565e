use Rattle.std.proofs.Common.{◌≡◌, ◌∙◌, ◌++◌, ◌∷◌, [], ap, sym, arith, length-append, append_assoc}
use Rattle.batch_applier.proofs.PieceLemmas.{joined_more, seam_at}
use Rattle.batch_applier.proofs.parting.appended.Goals as goal

pub loop-touches-preserved : goal.loop-touches-preserved
loop-touches-preserved c =
    let so_far = c.loop-touches.invariant in
    let list : c.loop-touches.yielded ++ (c.in-Some.touches ∷ c.next.new.self.rest.items) ≡ c.args.piece.items = ap (λ rest. c.loop-touches.yielded ++ rest) (sym c.in-Some.ensures.steps.0) ∙ so_far.2 in
    let at = seam_at c.args.piece.items c.loop-touches.yielded c.in-Some.touches c.next.new.self.rest.items c.loop-touches.place list so_far.0 in (
      omega (arith, so_far.0, length-append c.loop-touches.yielded (c.in-Some.touches ∷ [])),
      joined_more c.args.parts.items c.args.piece.items c.loop-touches.parts.items c.loop-touches.place _ c.in-Some.touches c.append.new.self so_far.1 (omega (arith, at.0, c.requires, so_far.1.long)) at.0 at.1
          (rw c.index_mut.ensures.value at c.in_ok-append.ensures.ok),
      append_assoc c.loop-touches.yielded (c.in-Some.touches ∷ []) c.next.new.self.rest.items ∙ list,
    )
