-- Which voters have a configuration, as far as a primary knows (MongoRaftReconfig).
use Rattle.std.specs.Prelude.{ℕ, ◌==◌, Bool, false, ◌||◌, filter, length, Option, None, Some}
use Rattle.std.specs.FinMap as maps
use Rattle.member_config.specs.declared.config.Config.{Config}
use Rattle.member_config.specs.Config.{id_of, same_id}
use Rattle.member_config.specs.Voters.{voters}
use Rattle.repl_msg.specs.declared.message.Report.{Report}
use Rattle.repl_msg.specs.Points.{Reports}

-- a member reported this configuration, and no older one
abbrev pub reports_config : Config → Option Report → Bool
reports_config config None = false
reports_config config (Some report) = same_id report.config (id_of config)

-- a member has this configuration: the primary itself does, and another one does by its report
abbrev pub has_config : Reports → Config → (own member : ℕ) → Bool
has_config reports config own member = member == own || reports_config config (maps.get reports member)

-- how many voters have it
abbrev pub config_held : Reports → Config → (own : ℕ) → ℕ
config_held reports config own = length (filter (has_config reports config own) (voters config))
