use Rattle.std.proofs.Common.{◌≡◌, ℕ, max, List, ◌+◌, ◌≤◌, length, ap, arith, rules, subst}
use Rattle.std.specs.Prelude.{All, Vec, slice_index_or}
use Rattle.std.specs.declared.alloc.Global.{Global}
use Rattle.std.proofs.lemmas.List.{take_all}
use Rattle.std.proofs.lemmas.List.Elements.{All-more}
use Rattle.record_file.proofs.adding.longest_of.Goals as goal

pub loop-piece-preserved : goal.loop-piece-preserved
loop-piece-preserved c =
    let pieces = c.args.pieces.now in
    let longer : c.max-longest.result ≡ max c.loop-piece.longest (c.len.result + 5) = search rules in
    let here : length (slice_index_or pieces c.loop-piece.piece-index c.piece-item.result).items + 5 ≤ c.max-longest.result =
    omega (arith, longer, c.len.ensures, ap (λ (v : Vec ℕ Global). length v.items) c.piece-item.is) in
    All-more (λ (v : Vec ℕ Global). length v.items + 5 ≤ c.max-longest.result) pieces c.loop-piece.piece-index c.piece-item.result c.loop-piece-test.true
    (λ k d within. omega (arith, c.loop-piece.invariant k d within, longer)) here

pub returns : goal.returns
returns c =
    subst (λ (l : List (Vec ℕ Global)). All (λ (v : Vec ℕ Global). length v.items + 5 ≤ c.loop-piece.longest) l)
    (take_all c.loop-piece.piece-index c.args.pieces.now (omega (arith, c.loop-piece-test.false))) c.loop-piece.invariant
