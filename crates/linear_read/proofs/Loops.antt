-- Loops of a talk: it is repeated while it is worth while, or held with each of some nodes.
use Rattle.std.proofs.Common.{◌≡◌, ◌∙◌, ◌<◌, ◌≤◌, ◌+◌, ◌-◌, ◌==◌, ◌&&◌, ap, arith, sym, subst, refl, ℕ, suc, Bool, true, false, if◌then◌else◌, List, Option, Result}
use Rattle.std.specs.Prelude.{is_some}
use Rattle.rs_optime.specs.declared.optime.OpTime.{OpTime}
use Rattle.set_model.specs.declared.command.Command.TheVariants as commands
use Rattle.set_model.specs.declared.command.Event.{Event}
use Rattle.set_model.specs.declared.reply.Reply.{Reply}
use Rattle.set_model.specs.Run.{Sizes}
use Rattle.set_world.specs.declared.error.StepError.{StepError}
use Rattle.linear_read.specs.Going.{Held, Broken, Went}
use Rattle.linear_read.specs.Points.{carries, delivers, flushes, is_flushed, message_replied, others_told, round, rounds, told, took_some}
use Rattle.linear_read.specs.Talk.{Talk, tells, asks, and_then}
use Rattle.linear_read.proofs.Going.{Going, IsPassed, begun, breaks, ended, goes}

-- a talk that is held so many times at most, while its result says so
pub record Repeats {A : Type 0} (talk : Talk A) (test : A → Bool) (rest : ℕ → Talk (Unit {0})) : Type 0 where
  pub none : rest 0 ≡ tells tt
  pub more : (k : ℕ) → rest (suc k) ≡ and_then talk (λ x. if test x then rest k else tells tt)

-- before the first one all of them are left
pub repeat_begins : {S : Type 0} {alone : Bool} {sizes : S → Sizes} {known own : S → List Event} {stays : S → S → Type 0} {is_whole : S → Type 0} {set : S} (rest : ℕ → Talk (Unit {0})) (most : ℕ)
    → Going alone sizes known own stays is_whole set set (rest most) (rest (most - 0))
repeat_begins {S} {alone} {sizes} {known} {own} {stays} {is_whole} {set} rest most =
    let all : most ≡ most - 0 = omega arith in
    subst (λ k. Going alone sizes known own stays is_whole set set (rest most) (rest k)) all begun

module _ {S A : Type 0} {alone : Bool} {sizes : S → Sizes} {known own : S → List Event} {stays : S → S → Type 0} {is_whole : S → Type 0} {old mid : S} {whole : Talk (Unit {0})}
    {talk : Talk A} {test : A → Bool} {rest : ℕ → Talk (Unit {0})} (repeats : Repeats talk test rest) (most counter : ℕ)
    (going : Going alone sizes known own stays is_whole old mid whole (rest (most - counter))) where
  abbrev next : A → Talk (Unit {0})
  next x = if test x then rest (most - (counter + 1)) else tells tt

  here : counter < most → Going alone sizes known own stays is_whole old mid whole (and_then talk (λ x. if test x then rest (most - (counter + 1)) else tells tt))
  here within =
      let one_more : most - counter ≡ suc (most - (counter + 1)) = omega (arith, within) in
      subst (λ r. Going alone sizes known own stays is_whole old mid whole r) (repeats.more (most - (counter + 1)))
      (subst (λ k. Going alone sizes known own stays is_whole old mid whole (rest k)) one_more going)

  pub repeat_breaks : {new : S} {error : StepError} → counter < most → Broken alone sizes known own stays is_whole mid new talk error
      → (result : Result (Unit {0}) StepError) → IsPassed result error → Went alone sizes known own stays is_whole old new whole result
  repeat_breaks within broken result passed = breaks talk next (here within) broken result passed

  pub repeat_next : {new : S} → counter < most → (x : A) → Held alone sizes known own stays is_whole mid new talk x → test x ≡ true
      → Going alone sizes known own stays is_whole old new whole (rest (most - (counter + 1)))
  repeat_next {new} within x held is =
      subst (λ b. Going alone sizes known own stays is_whole old new whole (if b then rest (most - (counter + 1)) else tells tt)) is (goes talk next (here within) held)

  pub repeat_ends : {new : S} → counter < most → (x : A) → Held alone sizes known own stays is_whole mid new talk x → test x ≡ false → Held alone sizes known own stays is_whole old new whole tt
  repeat_ends {new} within x held is =
      ended tt (subst (λ b. Going alone sizes known own stays is_whole old new whole (if b then rest (most - (counter + 1)) else tells tt)) is (goes talk next (here within) held))

  pub repeat_done : most ≤ counter → Held alone sizes known own stays is_whole old mid whole tt
  repeat_done all =
      let none : most - counter ≡ 0 = omega (arith, all) in
      ended tt (subst (λ r. Going alone sizes known own stays is_whole old mid whole r) repeats.none
      (subst (λ k. Going alone sizes known own stays is_whole old mid whole (rest k)) none going))

pub flushes_repeat : (node : ℕ) → Repeats (asks (commands.Flush node) tells) is_flushed (flushes node)
flushes_repeat node = record { none = refl; more = λ k. refl }

pub rounds_repeat : (node other : ℕ) (at : OpTime) → Repeats (round node other at) (λ b. b) (rounds node other at)
rounds_repeat node other at = record { none = refl; more = λ k. refl }

-- ---- each other node

module _ {S : Type 0} {alone : Bool} {sizes : S → Sizes} {known own : S → List Event} {stays : S → S → Type 0} {is_whole : S → Type 0} {old mid : S} {whole : Talk (Unit {0})}
    (node other nodes : ℕ) (at : OpTime) (within : other < nodes) (going : Going alone sizes known own stays is_whole old mid whole (others_told node at other (nodes - other))) where
  abbrev others : Unit {0} → Talk (Unit {0})
  others done = others_told node at (other + 1) (nodes - (other + 1))

  others_here : Going alone sizes known own stays is_whole old mid whole (and_then (told node other at) (λ done. others_told node at (other + 1) (nodes - (other + 1))))
  others_here =
      let one_more : nodes - other ≡ suc (nodes - (other + 1)) = omega (arith, within) in
      subst (λ k. Going alone sizes known own stays is_whole old mid whole (others_told node at other k)) one_more going

  pub others_break : {new : S} {error : StepError} → Broken alone sizes known own stays is_whole mid new (told node other at) error
      → (result : Result (Unit {0}) StepError) → IsPassed result error → Went alone sizes known own stays is_whole old new whole result
  others_break broken result passed = breaks (told node other at) others others_here broken result passed

  pub others_next : {new : S} → Held alone sizes known own stays is_whole mid new (told node other at) tt
      → Going alone sizes known own stays is_whole old new whole (others_told node at (other + 1) (nodes - (other + 1)))
  others_next held = goes (told node other at) others others_here held

pub others_done : {S : Type 0} {alone : Bool} {sizes : S → Sizes} {known own : S → List Event} {stays : S → S → Type 0} {is_whole : S → Type 0} {old new : S} {whole : Talk (Unit {0})} (node other nodes : ℕ) (at : OpTime)
    → nodes ≤ other → Going alone sizes known own stays is_whole old new whole (others_told node at other (nodes - other)) → Held alone sizes known own stays is_whole old new whole tt
others_done {S} {alone} {sizes} {known} {own} {stays} {is_whole} {old} {new} {whole} node other nodes at all going =
    let none : nodes - other ≡ 0 = omega (arith, all) in
    ended tt (subst (λ k. Going alone sizes known own stays is_whole old new whole (others_told node at other k)) none going)

-- ---- another node

module _ (node other : ℕ) (at : OpTime) where
  abbrev report : Unit {0} → Talk (Unit {0})
  report done = and_then (carries (commands.Report other node)) (λ counted. tells tt)

  -- its rounds, and its report
  abbrev to_tell : Talk (Unit {0})
  to_tell = and_then (rounds node other at 50) report

  module _ {S : Type 0} {alone : Bool} {sizes : S → Sizes} {known own : S → List Event} {stays : S → S → Type 0} {is_whole : S → Type 0} (apart : (other == node) ≡ false) where
    to_another : {old : S} → Going alone sizes known own stays is_whole old old (told node other at) (and_then (rounds node other at 50) report)
    to_another {old} = subst (λ b. Going alone sizes known own stays is_whole old old (if b then tells tt else to_tell) to_tell) (sym apart) begun

    pub rounds_break : {old new : S} {error : StepError} → Broken alone sizes known own stays is_whole old new (rounds node other at 50) error
        → (result : Result (Unit {0}) StepError) → IsPassed result error → Went alone sizes known own stays is_whole old new (told node other at) result
    rounds_break broken result passed = breaks (rounds node other at 50) report to_another broken result passed

    reporting : {old mid : S} → Held alone sizes known own stays is_whole old mid (rounds node other at 50) tt
        → Going alone sizes known own stays is_whole old mid (told node other at) (and_then (carries (commands.Report other node)) (λ counted. tells tt))
    reporting had = goes (rounds node other at 50) report to_another had

    pub report_breaks : {old mid new : S} {error : StepError} → Held alone sizes known own stays is_whole old mid (rounds node other at 50) tt
        → Broken alone sizes known own stays is_whole mid new (carries (commands.Report other node)) error
        → (result : Result (Unit {0}) StepError) → IsPassed result error → Went alone sizes known own stays is_whole old new (told node other at) result
    report_breaks had broken result passed = breaks (carries (commands.Report other node)) (λ counted. tells tt) (reporting had) broken result passed

    pub reported : {old mid new : S} → Held alone sizes known own stays is_whole old mid (rounds node other at 50) tt → (counted : Option Reply)
        → Held alone sizes known own stays is_whole mid new (carries (commands.Report other node)) counted → Held alone sizes known own stays is_whole old new (told node other at) tt
    reported had counted held = ended tt (goes (carries (commands.Report other node)) (λ counted. tells tt) (reporting had) held)

-- ---- one round

module _ (node other : ℕ) (at : OpTime) where
  abbrev pub after_flushes : Option Reply → Option Reply → Unit {0} → Talk Bool
  after_flushes heard taken done = tells (is_some (message_replied heard) && took_some at taken)

  abbrev pub after_taken : Option Reply → Option Reply → Talk Bool
  after_taken heard taken = and_then (flushes other 3) (after_flushes heard taken)

  abbrev pub after_found : Option Reply → Option Reply → Talk Bool
  after_found heard found = and_then (delivers (message_replied found)) (after_taken heard)

  abbrev pub after_heard : Option Reply → Talk Bool
  after_heard heard = and_then (carries (commands.Fetch other)) (after_found heard)

  pub heartbeat_breaks : {S : Type 0} {alone : Bool} {sizes : S → Sizes} {known own : S → List Event} {stays : S → S → Type 0} {is_whole : S → Type 0} {old new : S} {error : StepError}
      → Broken alone sizes known own stays is_whole old new (carries (commands.Heartbeat node other)) error
      → (result : Result Bool StepError) → IsPassed result error → Went alone sizes known own stays is_whole old new (round node other at) result
  heartbeat_breaks broken result passed = breaks (carries (commands.Heartbeat node other)) after_heard begun broken result passed

  module _ {S : Type 0} {alone : Bool} {sizes : S → Sizes} {known own : S → List Event} {stays : S → S → Type 0} {is_whole : S → Type 0} {old one : S} {heard : Option Reply}
      (first : Held alone sizes known own stays is_whole old one (carries (commands.Heartbeat node other)) heard) where
    heard_goes : Going alone sizes known own stays is_whole old one (round node other at) (after_heard heard)
    heard_goes = goes (carries (commands.Heartbeat node other)) after_heard begun first

    pub fetch_breaks : {new : S} {error : StepError} → Broken alone sizes known own stays is_whole one new (carries (commands.Fetch other)) error
        → (result : Result Bool StepError) → IsPassed result error → Went alone sizes known own stays is_whole old new (round node other at) result
    fetch_breaks broken result passed = breaks (carries (commands.Fetch other)) (after_found heard) heard_goes broken result passed

    module _ {two : S} {found : Option Reply} (second : Held alone sizes known own stays is_whole one two (carries (commands.Fetch other)) found) where
      found_goes : Going alone sizes known own stays is_whole old two (round node other at) (after_found heard found)
      found_goes = goes (carries (commands.Fetch other)) (after_found heard) heard_goes second

      pub delivery_breaks : {new : S} {error : StepError} → Broken alone sizes known own stays is_whole two new (delivers (message_replied found)) error
          → (result : Result Bool StepError) → IsPassed result error → Went alone sizes known own stays is_whole old new (round node other at) result
      delivery_breaks broken result passed = breaks (delivers (message_replied found)) (after_taken heard) found_goes broken result passed

      module _ {three : S} {taken : Option Reply} (third : Held alone sizes known own stays is_whole two three (delivers (message_replied found)) taken) where
        taken_goes : Going alone sizes known own stays is_whole old three (round node other at) (after_taken heard taken)
        taken_goes = goes (delivers (message_replied found)) (after_taken heard) found_goes third

        pub flushes_break : {new : S} {error : StepError} → Broken alone sizes known own stays is_whole three new (flushes other 3) error
            → (result : Result Bool StepError) → IsPassed result error → Went alone sizes known own stays is_whole old new (round node other at) result
        flushes_break broken result passed = breaks (flushes other 3) (after_flushes heard taken) taken_goes broken result passed

        at_end : {new : S} → Held alone sizes known own stays is_whole three new (flushes other 3) tt
            → Held alone sizes known own stays is_whole old new (round node other at) (is_some (message_replied heard) && took_some at taken)
        at_end last = ended (is_some (message_replied heard) && took_some at taken) (goes (flushes other 3) (after_flushes heard taken) taken_goes last)

        -- the heartbeat was answered, or it was not
        pub round_heard : {new : S} → Held alone sizes known own stays is_whole three new (flushes other 3) tt → is_some (message_replied heard) ≡ true
            → (took : Bool) → took ≡ took_some at taken → Held alone sizes known own stays is_whole old new (round node other at) took
        round_heard {new} last is took took_is =
            subst (λ b. Held alone sizes known own stays is_whole old new (round node other at) b) (ap (λ b. b && took_some at taken) is ∙ sym took_is) (at_end last)

        pub round_unheard : {new : S} → Held alone sizes known own stays is_whole three new (flushes other 3) tt → is_some (message_replied heard) ≡ false
            → (heard_is : Bool) → heard_is ≡ false → Held alone sizes known own stays is_whole old new (round node other at) heard_is
        round_unheard {new} last is heard_is none =
            subst (λ b. Held alone sizes known own stays is_whole old new (round node other at) b) (ap (λ b. b && took_some at taken) is ∙ sym none) (at_end last)
