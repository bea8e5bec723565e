use Rattle.script_laws.proofs.ChanceIsScript.{is_script}
use Rattle.script_laws.proofs.laws.generated_is_script.Goals as goal

pub returns : goal.returns
returns c = is_script c.args.seed c.args.events c.args.nodes c.requires.few c.requires.sizes.0 c.requires.sizes.1 c.requires.product
