use Rattle.std.proofs.Common.{[], ◌∷◌, ◌++◌, refl}
use Rattle.record_file.proofs.AppendLemmas.{appends, rests, either_left, on_made}
use Rattle.record_file.proofs.file.RecordFile.append.Goals as goal

pub returns-clause-any_moment : goal.returns-clause-any_moment
returns-clause-any_moment g c =
    rw (← c.self.view_is) (λ records rest. appends records c.args.piece.now c.requires.short _ rest _ refl c.add.result _ c.add.ensures.calls)

pub returns-clause-ok : goal.returns-clause-ok
returns-clause-ok g c =
    rw (← c.self.view_is) (on_made c.add.result _ _ _ (λ made records rest. rests records c.args.piece.now c.requires.short _ rest _ refl _ made) c.add.ensures.calls)

pub returns-clause-left : goal.returns-clause-left
returns-clause-left g c =
    let open_now = rw (← c.self.view_is) at c.requires.open in
    either_left _ _ _ _ (appends open_now.records c.args.piece.now c.requires.short _ open_now.rests _ refl c.add.result _ c.add.ensures.calls)

pub returns-clause-open : goal.returns-clause-open
returns-clause-open g c =
    let open_now = rw (← c.self.view_is) at c.requires.open in
    on_made c.add.result _ _ _ (λ made. record {
      records = open_now.records ++ c.args.piece.now ∷ [];
      rests = rests open_now.records c.args.piece.now c.requires.short _ open_now.rests _ refl _ made;
    }) c.add.ensures.calls
