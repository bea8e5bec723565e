-- A leader still has what it has written wherever it leads in that term later.
use Rattle.std.proofs.Common.{ℕ, List, []}
use Rattle.set_model.specs.declared.command.Event.{Event}
use Rattle.set_model.specs.Limits.{IsRun}
use Rattle.set_model.specs.Node.{Node}
use Rattle.set_model.specs.Run.{Sizes, AreSizes, opening, world_at}
use Rattle.set_model.specs.Safety as safety
use Rattle.safety_laws.specs.Logs.{LeadersKeep}
use Rattle.safety_laws.proofs.Frame.{RowsTied, DeliveriesTied}
use Rattle.safety_laws.proofs.NoHole.{place_in, whole_of}
use Rattle.safety_laws.proofs.WrittenEntries.{LeadsIn}

leads_in : (sizes : Sizes) (events : List Event) (place number term : ℕ) (node : Node) → safety.Leads sizes events place number term node → LeadsIn (world_at sizes events place) number term node
leads_in sizes events place number term node leads = record { there = leads.at.there; up = leads.at.up; leads = leads.role; term_is = leads.term_is }

pub leaders_keep : RowsTied → DeliveriesTied → (sizes : Sizes) (events : List Event) → AreSizes sizes → IsRun sizes events → LeadersKeep sizes events
leaders_keep rows_tied deliveries_tied sizes events are is i j number term old new order one two entry there =
    (whole_of rows_tied deliveries_tied sizes events are is j).grows (world_at sizes events i) (place_in (opening sizes) [] events i j order) number term old new
    (leads_in sizes events i number term old one) (leads_in sizes events j number term new two) entry there
