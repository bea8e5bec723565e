use Rattle.std.proofs.Common.{◌≡◌, ◌∙◌, sym, rules, false, Result, Ok, Err, OnOk}
use Rattle.std.specs.Result.{is_err}
use Rattle.node_data.proofs.SessionLogLemmas.{table_follows}
use Rattle.node_data.proofs.session_log.SessionLog.insert.Goals as goal

-- what holds where there is a value
went_well : {T E P : Type 0} (r : Result T E) → is_err r ≡ false → OnOk r P → P
went_well (Ok x) well holds = holds
went_well (Err e) well holds = absurd (cc well)

pub invariant_of-self : goal.invariant_of-self
invariant_of-self c = (search rules, c.clear.ensures c.insert.new.self.entries)

pub invariant_of-self-in_default : goal.invariant_of-self-in_default
invariant_of-self-in_default c = (search rules, c.clear.ensures c.insert.new.self.entries)

pub invariant_of-self-else-is_err : goal.invariant_of-self-else-is_err
invariant_of-self-else-is_err c =
    let newest = rw (← c.self.view_is) at c.requires.newest in
    let has = rw c.in-Some.is at c.self.invariant.0 in
    let well : is_err c.add.result ≡ false = sym c.is_err.ensures.value ∙ c.if-is_err.false in (
      rw c.insert.ensures.entries
          (table_follows c.in-Some.table c.add.new.self c.self.inside.log.entries c.args.entry has newest (went_well c.add.result well c.add.ensures)),
      c.clear.ensures c.insert.new.self.entries,
    )
