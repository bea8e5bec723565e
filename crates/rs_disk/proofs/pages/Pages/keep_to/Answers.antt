use Rattle.rs_disk.proofs.PageLemmas.{keeps_more, keeps_more_within}
use Rattle.rs_disk.specs.Pages.{last_of}
use Rattle.std.proofs.Common.{◌≡◌, ◌∙◌, ◌++◌, ◌+◌, ◌-◌, ℕ, length, replicate, false, ap, refl, arith}
use Rattle.std.specs.Prelude.{slice_range}
use Rattle.rs_disk.proofs.pages.Pages.keep_to.Goals as goal

pub returns-clause-file : goal.returns-clause-file
returns-clause-file c = λ file holds.
    let old = c.args.self.now in
    let to = c.min-to.result in
    let long : c.len.result ≡ length old.kept.items = omega arith in
    let kept : c.append.new.list.items ≡ old.kept.items ++ slice_range old.now.items (last_of old) to =
    c.append.ensures.items ∙ (λ i. old.kept.items ++ slice_range (c.deref.ensures.value i) (old.first + long i) to) in
    let marks : c.append_unset.new.marks.items ≡ old.marks.items ++ replicate (to - last_of old) false =
    c.append_unset.ensures.items ∙ ap (λ (n : ℕ). old.marks.items ++ replicate (to - (old.first + n)) false) long in
    keeps_more old _ file to holds (omega arith) (omega arith) refl kept marks refl refl refl refl
    (keeps_more_within old _ to c.requires.within (omega arith) (omega arith) refl kept marks c.append.ensures.capacity c.append_unset.ensures.capacity refl refl refl refl)
