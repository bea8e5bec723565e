use Rattle.std.proofs.Common.{◌≡◌, ◌∙◌, ap, arith, length, take, length-take}
use Rattle.std.specs.Prelude.{min}
use Rattle.std.proofs.lemmas.List.{take_min}
use Rattle.checkpoint_store.proofs.saving.piece_at.Goals as goal

pub returns-clause-piece : goal.returns-clause-piece
returns-clause-piece c =
    let rest = c.split_at.result.1.now in
    let least : c.min.result ≡ min 1000 (length rest) = omega (arith, c.min.ensures) in
    c.split_at-2.ensures.front ∙ ap (λ k. take k rest) least ∙ take_min 1000 rest ∙ ap (take 1000) c.split_at.ensures.back

pub returns-clause-few : goal.returns-clause-few
returns-clause-few c = omega (arith, c.min.ensures, ap length c.split_at-2.ensures.front, length-take c.min.result c.split_at.result.1.now)
