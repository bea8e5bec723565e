use Rattle.std.proofs.Common.{◌≡◌, ◌∙◌, ap, arith, drop, length, take}
use Rattle.std.specs.Prelude.{min}
use Rattle.std.proofs.lemmas.List.{drop_min, take_min}
use Rattle.initial_sync.specs.Missing.{BATCH}
use Rattle.initial_sync.proofs.writing.next_piece.Goals as goal

pub returns-clause-piece : goal.returns-clause-piece
returns-clause-piece c =
    let least : c.min.result ≡ min BATCH (length c.args.entries.now) = omega (arith, c.min.ensures) in
    c.split_at.ensures.front ∙ ap (λ k. take k c.args.entries.now) least ∙ take_min BATCH c.args.entries.now

pub returns-clause-rest : goal.returns-clause-rest
returns-clause-rest c =
    let least : c.min.result ≡ min BATCH (length c.args.entries.now) = omega (arith, c.min.ensures) in
    c.split_at.ensures.back ∙ ap (λ k. drop k c.args.entries.now) least ∙ drop_min BATCH c.args.entries.now
