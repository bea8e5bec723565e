use Rattle.std.proofs.Common.{◌≡◌, ◌∙◌, Some}
use Rattle.set_model.specs.declared.writer.Writer.TheVariants.{Open}
use Rattle.set_model.specs.declared.role.Role.TheVariants.{Primary}
use Rattle.node_data.proofs.KeptLemmas.{whole_documents}
use Rattle.node_data.proofs.SoundLemmas.{writing_primary}
use Rattle.node_data.proofs.keeping.NodeData.after.Goals as goal

pub returns : goal.returns
returns c = λ at op opens.
    let writing = rw (← c.self.view_is) at c.requires in
    let role : c.args.self.now.node.role ≡ Primary = rw (← c.self.view_is) (writing_primary _ c.args.number c.self.invariant.sound writing) in
    let opened = rw (← c.self.view_is) at opens in
    let here : Some c.in-Some-Open.field-0.now ≡ Some (Open at op) = c.in-Some-Open.ensures ∙ opened in
    let was : c.in-Some-Open.field-0.now ≡ Open c.in-Some-Open.field-0-0 c.in-Some-Open.op = c.in-Some-Open.field-0-is in
    let same : c.in-Some-Open.op ≡ op = cc in
    rw (c.latest.ensures.latest, c.as_str.ensures, whole_documents c.args.self.now.node role, c.or.ensures, same) at c.document_after.ensures.after
