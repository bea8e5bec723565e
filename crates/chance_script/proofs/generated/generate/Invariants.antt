use Rattle.std.proofs.Common.{◌≡◌, ◌++◌, string_bytes}
use Rattle.std.specs.List.{flat_map}
use Rattle.chance_script.specs.Generated.{happenings, set_text, text_of}
use Rattle.chance_script.proofs.generated.generate.Given as goal

abbrev pub invariant-loop-event : goal.invariant-loop-event
invariant-loop-event l =
    (string_bytes l.out ≡ set_text l.nodes ++ flat_map (text_of l.nodes) (happenings l.nodes l.seed l.event).0)
    × (l.generator ≡ (happenings l.nodes l.seed l.event).1)
