use Rattle.record_file.specs.Records.{lists}
use Rattle.bson_codec.specs.Numbers.{number_bytes}
use Rattle.checks.proofs.FirstForm.{first_written}
use Rattle.checks.proofs.first_form.first_form.Goals as goal

pub returns : goal.returns
unfolding number_bytes
returns c =
    rw c.close.ensures.disk
    (first_written _ _ _ _ _ _ (lists c.in-Ok.field-0-1.items) c.empty.ensures c.in-Ok.ensures.only c.in-Ok.ensures.at_rest c.in_ok-append.ensures.ok c.in_ok-append-2.ensures.ok
    c.in_ok-append-3.ensures.ok c.in_ok-append-4.ensures.ok)
