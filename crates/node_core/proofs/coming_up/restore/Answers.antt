use Rattle.std.proofs.Common.{◌∙◌, refl}
use Rattle.node_core.specs.Down.{down_node, down_state}
use Rattle.node_core.proofs.ComingLemmas.{prepared_so, restorable}
use Rattle.node_core.proofs.coming_up.restore.Goals as goal

pub restored-requires-clause-kept : goal.restored-requires-clause-kept
restored-requires-clause-kept g c κs within =
    (restorable (down_node c.args.state.now.node (down_state c.args.left)) c.args.found c.requires.found c.point_to_cut-cut.result c.point_to_cut-cut.ensures
    c.records_cut.result.list c.records_cut.ensures).well

pub restored-requires-clause-read : goal.restored-requires-clause-read
restored-requires-clause-read g c κs within =
    (restorable (down_node c.args.state.now.node (down_state c.args.left)) c.args.found c.requires.found c.point_to_cut-cut.result c.point_to_cut-cut.ensures
    c.records_cut.result.list c.records_cut.ensures).read

pub restored-requires-clause-documents : goal.restored-requires-clause-documents
restored-requires-clause-documents g c κs within =
    c.into_map.ensures
    ∙ (restorable (down_node c.args.state.now.node (down_state c.args.left)) c.args.found c.requires.found c.point_to_cut-cut.result c.point_to_cut-cut.ensures
    c.records_cut.result.list c.records_cut.ensures).documents

pub returns-clause-prepared : goal.returns-clause-prepared
returns-clause-prepared g c =
    prepared_so c.args.found c.args.state.now.node (down_state c.args.left) _ c.requires.found refl c.point_to_cut-cut.ensures refl
    c.number.result c.first.result.now c.records_cut.result.list c.number.ensures c.first.ensures c.records_cut.ensures c.in_ok-state.ensures
