-- What a run of calls preserves of a disk.
use Rattle.std.proofs.Common.{◌≤◌, refl, ap, subst, sym, ◌∙◌, arith}
use Rattle.std.specs.Prelude.{IsTrue}
use Rattle.rs_disk.specs.State.{State, Keeps, SameButRoom}

pub keeps_none : (state : State) → Keeps ⊥ state state
keeps_none state = record {
  faults = omega arith;
  cause = λ none. absurd none;
  only_armed = λ none. absurd none;
  steady = λ is. is;
  armed = λ is. is;
  orders = refl;
  room = omega arith;
}

pub keeps_then : {Fault : Type 0} (old mid new : State) → Keeps ⊥ old mid → Keeps Fault mid new → Keeps Fault old new
keeps_then old mid new first second = record {
  faults = omega (arith, first.faults, second.faults);
  cause = λ fault. omega (arith, first.faults, second.cause fault);
  only_armed = λ fault steady. first.armed (second.only_armed fault (first.steady steady));
  steady = λ steady. second.steady (first.steady steady);
  armed = λ armed. first.armed (second.armed armed);
  orders = second.orders ∙ first.orders;
  room = omega (arith, first.room, second.room);
}

pub keeps_not : {Fault : Type 0} (old new : State) → ¬ Fault → Keeps Fault old new → Keeps ⊥ old new
keeps_not old new _ keeps = record {
  faults = keeps.faults;
  cause = λ none. absurd none;
  only_armed = λ none. absurd none;
  steady = keeps.steady;
  armed = keeps.armed;
  orders = keeps.orders;
  room = keeps.room;
}

-- memory that was taken
pub keeps_reserved : (old new : State) → SameButRoom old new → old.room ≤ new.room → Keeps ⊥ old new
keeps_reserved old new same more = record {
  faults = omega (arith, ap (λ (s : State). s.faults) same);
  cause = λ none. absurd none;
  only_armed = λ none. absurd none;
  steady = λ is. subst (λ (s : State). IsTrue s.is_steady) (sym same) is;
  armed = λ is. subst (λ (s : State). IsTrue s.is_armed) same is;
  orders = ap (λ (s : State). s.orders) same;
  room = more;
}
