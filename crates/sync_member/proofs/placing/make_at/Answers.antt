use Rattle.std.proofs.Common.{◌≡◌, ◌∙◌, ◌≤◌, ◌+◌, ◌*◌, ap, arith, length, rules, slice_index_or, vec_len}
use Rattle.std.specs.Prelude.{insert, remove}
use Rattle.rs_disk.specs.File.{IsEmpty}
use Rattle.sync_member.proofs.PlaceLemmas.{both_back, first_there, of_rest, second_there}
use Rattle.sync_member.proofs.placing.make_at.Goals as goal

pub make-made-requires-clause-journal : goal.make-made-requires-clause-journal
make-made-requires-clause-journal g c =
    let many : length c.args.disks.items ≡ vec_len c.args.disks = search rules in
    let room : 2 * c.args.number + 2 ≤ vec_len c.args.disks = c.requires.room in
    of_rest (λ disk. IsEmpty (g.D.Disk.state disk).file) c.args.disks.items (2 * c.args.number) (2 * c.args.number) c.remove-journal.result (omega arith)
    (first_there c.args.disks.items (2 * c.args.number) c.remove-journal.result (omega (arith, many, room)) c.remove-journal.ensures.value) c.requires.spare

pub make-made-requires-clause-checkpoints : goal.make-made-requires-clause-checkpoints
make-made-requires-clause-checkpoints g c =
    let many : length c.args.disks.items ≡ vec_len c.args.disks = search rules in
    let room : 2 * c.args.number + 2 ≤ vec_len c.args.disks = c.requires.room in
    of_rest (λ disk. IsEmpty (g.D.Disk.state disk).file) c.args.disks.items (2 * c.args.number) (2 * c.args.number + 1) c.remove-checkpoints.result (omega arith)
    (second_there c.args.disks.items (2 * c.args.number) c.remove-checkpoints.result (omega (arith, many, room))
    (c.remove-checkpoints.ensures.value ∙ ap (λ l. slice_index_or l (2 * c.args.number) c.remove-checkpoints.result) c.remove-journal.ensures.items)) c.requires.spare

pub returns-clause-member : goal.returns-clause-member
returns-clause-member g c =
    let many : length c.args.disks.items ≡ vec_len c.args.disks = search rules in
    let room : 2 * c.args.number + 2 ≤ vec_len c.args.disks = c.requires.room in
    record {
      journal = c.remove-journal.result;
      journal' = c.make-made.result.1;
      checkpoints = c.remove-checkpoints.result;
      checkpoints' = c.make-made.result.2;
      journal_at = first_there c.args.disks.items (2 * c.args.number) c.remove-journal.result (omega (arith, many, room)) c.remove-journal.ensures.value;
      checkpoints_at = second_there c.args.disks.items (2 * c.args.number) c.remove-checkpoints.result (omega (arith, many, room))
          (c.remove-checkpoints.ensures.value ∙ ap (λ l. slice_index_or l (2 * c.args.number) c.remove-checkpoints.result) c.remove-journal.ensures.items);
      disks = c.put_at-2.ensures.items
          ∙ ap (λ l. insert l (2 * c.args.number) c.make-made.result.1)
          (c.put_at.ensures.items
          ∙ ap (λ l. insert l (2 * c.args.number) c.make-made.result.2)
          (c.remove-checkpoints.ensures.items ∙ ap (λ l. remove l (2 * c.args.number)) c.remove-journal.ensures.items))
          ∙ both_back c.args.disks.items (2 * c.args.number) c.make-made.result.1 c.make-made.result.2 (omega (arith, many, room));
      changed = (c.make-made.ensures.disks, c.make-made.ensures.ran);
    }
