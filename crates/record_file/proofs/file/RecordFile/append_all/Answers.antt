use Rattle.std.specs.Prelude.{Vec}
use Rattle.std.proofs.Common.{ℕ}
use Rattle.std.specs.declared.alloc.Global.{Global}
use Rattle.std.proofs.lemmas.List.Elements.{All-map}
use Rattle.record_file.proofs.AddingLemmas.{Small, adds_left, adds_moments, adds_open, adds_rest}
use Rattle.record_file.proofs.AppendLemmas.{on_made}
use Rattle.record_file.proofs.file.RecordFile.append_all.Goals as goal

pub returns-clause-ok : goal.returns-clause-ok
returns-clause-ok g c =
    let small = All-map Small (λ (v : Vec ℕ Global). v.items) c.args.pieces.now c.requires.short in
    rw (← c.self.view_is) (on_made c.add_all.result _ _ _ (λ made records rest. adds_rest _ small _ _ made records rest) c.add_all.ensures.calls)

pub returns-clause-open : goal.returns-clause-open
returns-clause-open g c =
    let small = All-map Small (λ (v : Vec ℕ Global). v.items) c.args.pieces.now c.requires.short in
    let open_now = rw (← c.self.view_is) at c.requires.open in
    on_made c.add_all.result _ _ _ (λ made. adds_open _ small _ _ made open_now) c.add_all.ensures.calls

pub returns-clause-left : goal.returns-clause-left
returns-clause-left g c =
    let small = All-map Small (λ (v : Vec ℕ Global). v.items) c.args.pieces.now c.requires.short in
    let open_now = rw (← c.self.view_is) at c.requires.open in
    adds_left _ small _ _ c.add_all.result c.add_all.ensures.calls open_now

pub returns-clause-any_moment : goal.returns-clause-any_moment
returns-clause-any_moment g c =
    let small = All-map Small (λ (v : Vec ℕ Global). v.items) c.args.pieces.now c.requires.short in
    rw (← c.self.view_is) (adds_moments _ small _ _ c.add_all.result c.add_all.ensures.calls)
