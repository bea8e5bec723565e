-- How a proof tells apart what a node heard of others, and who would vote for it.
use Rattle.std.specs.Prelude.{ℕ, Bool, List, refl}
use Rattle.std.specs.Coded.{Coded, code_by, coded×, coded_list, coded_ℕ, coded_bool}
use Rattle.std.specs.Ordering.{nat_cmp}
use Rattle.std.specs.FinMap as maps
use Rattle.rs_optime.specs.Order.{optime_code}
use Rattle.rs_optime.specs.declared.optime.OpTime.{OpTime}
use Rattle.member_config.specs.declared.config.Config.{Config}
use Rattle.member_config.specs.contracts.config.Config.{the_row as config_row}
use Rattle.repl_msg.specs.Sources.{Heard}
use Rattle.repl_msg.specs.Votes.{DryTally}

abbrev heard_code : Coded Heard
heard_code = code_by (OpTime × Bool) (coded× optime_code coded_bool) (λ h. (h.last, h.primary))
    (λ p. record { last = p.0; primary = p.1 }) (λ _. refl)

abbrev pub known_code : Coded (maps.FinMap nat_cmp Heard)
known_code = maps.code coded_ℕ heard_code

abbrev pub tally_code : Coded DryTally
tally_code =
    code_by (ℕ × (Config × List ℕ)) (coded× coded_ℕ (coded× config_row.coded (coded_list coded_ℕ)))
    (λ t. (t.term, (t.config, t.yes))) (λ p. record { term = p.0; config = p.1.0; yes = p.1.1 }) (λ _. refl)
