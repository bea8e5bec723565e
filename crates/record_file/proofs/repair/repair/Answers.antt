use Rattle.std.proofs.Common.{◌≡◌, [], ◌∷◌, refl, rules, ◌∙◌}
use Rattle.std.specs.Prelude.{Err}
use Rattle.rs_disk.specs.Images.{read_is_image}
use Rattle.rs_disk.specs.File.{cut}
use Rattle.rs_disk.specs.Steps.{reads, changes, syncs}
use Rattle.record_file.specs.declared.error.FileError.TheVariants.{Memory}
use Rattle.record_file.proofs.OpenLemmas.{has_end, repaired}
use Rattle.record_file.proofs.StepLemmas.{stops_ends, stops_before}
use Rattle.record_file.proofs.repair.repair.Goals as goal

pub returns-in_err-bytes-clause-calls : goal.returns-in_err-bytes-clause-calls
returns-in_err-bytes-clause-calls g c =
    let there = has_end _ (c.requires.has.leaves _ (read_is_image _)) c.requires.long in
    let is : c.from_residual.result ≡ Err c.in_err-bytes.field-0.0 = search rules in
    (there.0, there.1, there.2, stops_ends _ _ _ _ _ is (stops_before _ _ _ _ _ c.in_err-bytes.ensures.calls))

pub returns-in_err-records-clause-calls : goal.returns-in_err-records-clause-calls
returns-in_err-records-clause-calls g c =
    let there = has_end _ (c.requires.has.leaves _ (read_is_image _)) c.requires.long in
    let is : c.from_residual-in_err-records.result ≡ Err Memory = search rules in
    (there.0, there.1, there.2, stops_ends _ Memory _ _ _ is (reads ∷ [], changes (cut there.1) ∷ syncs ∷ [], refl, c.in_ok-bytes.ensures.calls))

pub returns-clause-at_rest : goal.returns-clause-at_rest
returns-clause-at_rest g c = repaired _ _ _ _ _ _ _ (c.deref.ensures.value ∙ c.in_ok-bytes.ensures.bytes) c.in_ok-records.ensures c.requires.synced
    c.in_ok-bytes.ensures.calls c.in_ok-cut.ensures.outcome c.in_ok-sync.ensures.outcome
