-- What a failed call leaves is what a crash within it may leave.
use Rattle.std.proofs.Common.{◌≡◌, ℕ, zero, suc, ◌+◌, ◌%◌, ◌<◌, ◌≤◌, Bool, true, false, List, [], ◌∷◌, length, refl, sym, ◌∙◌, ap, subst, arith}
use Rattle.std.specs.Prelude.{◌||◌, slice_index, if◌then◌else◌, Option, Some, None}
use Rattle.std.proofs.lemmas.Bool.Decides.{nat_tests}
use Rattle.rs_disk.specs.File.{Change, write, cut, File, AreBytes, IsImage, contents, changed, settled, LeavesOnly, least_of, greatest_of, is_written}
use Rattle.rs_disk.specs.Images.{unwritten, contents_bytes, least_is_least, read_is_image, only_image}
use Rattle.rs_disk.specs.Picks.{picked, filled, is_open}
use Rattle.rs_disk.specs.Orders.{ordered, power_cut}
use Rattle.rs_disk.specs.Past.{during, failed_past}
use Rattle.rs_disk.specs.Memory.{state_of}
use Rattle.rs_disk.specs.State.{State, IsCrashed, IsCut}
use Rattle.rs_disk.specs.declared.memory.MemDisk.{MemDisk}
use Rattle.rs_disk.specs.declared.past.Past.{Past}
use Rattle.rs_disk.specs.declared.past.Call.{Call}
use Rattle.rs_disk.specs.declared.past.Call.TheVariants.{Read, Write, Cut, Sync, Arm, PowerCut}
use Rattle.rs_disk.proofs.PageLemmas.{least_within, length-filled, filled_at}

greatest_within : (synced : List ℕ) (changes : List Change) → length synced ≤ greatest_of synced changes
greatest_within synced [] = omega arith
greatest_within synced (change ∷ changes) = omega (arith, greatest_within synced changes)

closed : (file : File) (place : ℕ) → place < least_of file.synced file.changes → is_written place file.changes ≡ false → is_open file place ≡ false
closed file place inside none = grind (arith, nat_tests)

filled_bytes : (pick : ℕ) (file : File) (place : ℕ) (bytes : List ℕ) → AreBytes bytes → AreBytes (filled pick file place bytes)
filled_bytes pick file place [] are k = are k
filled_bytes pick file place (byte ∷ bytes) are zero = go (is_open file place)
  where
    go : (test : Bool) → (if test then (pick + place) % 256 else byte) < 256
    go true = omega arith
    go false = are zero
filled_bytes pick file place (byte ∷ bytes) are (suc k) = filled_bytes pick file (place + 1) bytes (λ n. are (suc n)) k

filled_is_image : (pick : ℕ) (file : File) → IsImage file (filled pick file 0 (contents file))
filled_is_image pick file = record {
  no_shorter = omega (arith, length-filled pick file 0 (contents file), (read_is_image file).no_shorter);
  no_longer = omega (arith, length-filled pick file 0 (contents file), (read_is_image file).no_longer);
  kept = λ place inside none.
      filled_at pick file 0 (contents file) place (omega (arith, least_is_least file.synced file.changes))
      ∙ ap (λ (n : ℕ). if is_open file n then (pick + n) % 256 else slice_index (contents file) place) (omega arith)
      ∙ ap (λ (b : Bool). if b then (pick + place) % 256 else slice_index (contents file) place) (closed file place inside none)
      ∙ unwritten file.synced file.changes place inside none;
  bytes = λ of. filled_bytes pick file 0 (contents file) (contents_bytes file of);
}

-- each pick leaves an image
pub picked_is_image : (pick : ℕ) (file : File) → IsImage file (picked pick file)
picked_is_image zero file = record { no_shorter = least_within file.synced file.changes; no_longer = greatest_within file.synced file.changes; kept = λ place inside none. refl; bytes = λ of. of.synced }
picked_is_image (suc zero) file = read_is_image file
picked_is_image (suc (suc pick)) file = filled_is_image (suc (suc pick)) file

rest_false : (here rest : Bool) → (here || rest) ≡ false → rest ≡ false
rest_false here rest none = grind (arith, nat_tests)

-- what a crash might have left before a change, a crash within the change may leave
changed_keeps : (change : Change) (file : File) (image : List ℕ) → IsImage file image → IsImage (changed change file) image
changed_keeps (write at bytes) file image is = record {
  no_shorter = omega (arith, is.no_shorter);
  no_longer = omega (arith, is.no_longer);
  kept = λ place inside none. is.kept place (omega arith) (rest_false _ (is_written place file.changes) none);
  bytes = λ of. is.bytes (record { synced = of.synced; written = of.written.1 });
}
changed_keeps (cut to) file image is = record {
  no_shorter = omega (arith, is.no_shorter);
  no_longer = omega (arith, is.no_longer);
  kept = λ place inside none. is.kept place (omega arith) none;
  bytes = λ of. is.bytes (record { synced = of.synced; written = of.written });
}

pub during_keeps : (call : Call) (file : File) (image : List ℕ) → IsImage file image → IsImage (during call file) image
during_keeps Read file image is = is
during_keeps (Write at bytes) file image is = changed_keeps (write at bytes.now) file image is
during_keeps (Cut to) file image is = changed_keeps (cut to) file image is
during_keeps Sync file image is = is
during_keeps (Arm call pick) file image is = is
during_keeps (PowerCut pick) file image is = is

failed_reads : (call : Call) (pick : Option ℕ) (past : Past) → IsImage (during call past.file) (contents (failed_past call pick past).file)
failed_reads call None past = during_keeps call past.file (contents past.file) (read_is_image past.file)
failed_reads call (Some pick) past = picked_is_image pick (during call past.file)

failed_leaves : (call : Call) (pick : Option ℕ) (past : Past) → LeavesOnly (IsImage (during call past.file)) (failed_past call pick past).file
failed_leaves call None past image is = during_keeps call past.file image is
failed_leaves call (Some pick) past image is =
    subst (IsImage (during call past.file)) (sym (only_image (picked pick (during call past.file)) image is)) (picked_is_image pick (during call past.file))

failed_before : (call : Call) (pick : Option ℕ) (past : Past) → (failed_past call pick past).before ≡ during call past.file ∷ past.file ∷ past.before
failed_before call None past = refl
failed_before call (Some pick) past = refl

-- a call that failed leaves the file as a crash within it may have left it
pub failed_is_crashed : (call : Call) (pick : Option ℕ) (old new : MemDisk) → new.past ≡ failed_past call pick old.past
    → IsCrashed (during call old.past.file) (state_of old) (state_of new)
failed_is_crashed call pick old new is = record {
  reads = subst (λ (p : Past). IsImage (during call old.past.file) (contents p.file)) (sym is) (failed_reads call pick old.past);
  leaves = subst (λ (p : Past). LeavesOnly (IsImage (during call old.past.file)) p.file) (sym is) (failed_leaves call pick old.past);
  past = ap (λ (p : Past). p.before) is ∙ failed_before call pick old.past;
}

-- the past after a power cut
abbrev pub cut_past : ℕ → Past → Past
cut_past pick past = record { file = settled (picked pick past.file); before = past.file ∷ past.file ∷ past.before; orders = ordered (power_cut pick) past.orders }

abbrev pub seen : Past → ℕ → Bool → ℕ → State
seen past faults armed room = record { file = past.file; past = past.before; faults = faults; orders = past.orders; is_armed = armed; is_steady = true; room = room }

pub power_is_cut : (pick : ℕ) (old new : Past) (faults : ℕ) (armed : Bool) (room room' : ℕ) → new ≡ cut_past pick old → room' ≡ room
    → IsCut pick (seen old faults armed room) (seen new faults armed room')
power_is_cut pick old new faults armed room room' is same = record {
  image = subst (λ (p : Past). IsImage old.file (contents p.file)) (sym is) (picked_is_image pick old.file);
  synced = subst (λ (p : Past). p.file ≡ settled (contents p.file)) (sym is) refl;
  past = ap (λ (p : Past). p.before) is;
  rest = let orders : new.orders ≡ ordered (power_cut pick) old.orders = ap (λ (p : Past). p.orders) is in
      λ i. record { file = new.file; past = new.before; faults = faults; orders = orders i; is_armed = armed; is_steady = true; room = same i };
}
