-- What a fault of a new member's disks means.
use Rattle.std.proofs.Common.{◌≡◌, ◌≢◌, ◌∙◌, ◌+◌, ◌*◌, ap, sym, subst, refl, arith, inl, inr, ℕ, zero, suc, List, [], ◌∷◌, Option, Some, Result, Ok, Err, String, drop, slice_get, slice_set}
use Rattle.std.specs.Prelude.{All}
use Rattle.std.specs.declared.alloc.Global.{Global}
use Rattle.rs_disk.specs.State.{State}
use Rattle.fault_script.specs.declared.script.Part.{Part}
use Rattle.set_model.specs.declared.command.Event.{Event}
use Rattle.set_model.specs.Run.{Sizes}
use Rattle.set_world.specs.Disks.{OneChanged}
use Rattle.set_world.specs.World.{Set}
use Rattle.initial_sync.specs.Answers.{RanBoth}
use Rattle.initial_sync.specs.Pinned.{copy_of}
use Rattle.sync_member.specs.Adding.{DisksOfMember}
use Rattle.sync_words.specs.declared.stop.SyncStop.{SyncStop}
use Rattle.sync_words.specs.declared.stop.SyncStop.TheVariants as syncs
use Rattle.safety_laws.proofs.Places.{get_set_same, get_set_other}
use Rattle.set_program.specs.declared.outcome.Left.{Left}
use Rattle.set_program.specs.declared.outcome.Left.TheVariants.{World, Parts}
use Rattle.set_program.specs.declared.stop.Stop.{Stop}
use Rattle.set_program.specs.declared.stop.Stop.TheVariants.{Memory, Usage, Script as NoScript, ReadFault, WriteFault, TooLong, DiskFault, CopyFault, Refused}
use Rattle.task_words.specs.declared.words.Task.{Task}
use Rattle.task_words.specs.declared.words.Task.TheVariants.{Run, Trace, Chaos, Sync, Linear as ReadsLinear, Watch as Watches}
use Rattle.set_program.specs.Disks.{IsUnarmed}
use Rattle.set_program.specs.Calls.{Call, IsAsked}
use Rattle.set_program.specs.Headline.{Ends, EndsTask, EndsWithoutRun, status_of}
use Rattle.set_program.specs.Left.{disks_of}
use Rattle.set_program.specs.Syncing.{EndsWithMember, MemberFaultCounted, ended_so}
use Rattle.set_program.proofs.OpenLemmas.{unarmed_at}

-- ---- the two disks

get_after : {A : Type 0} (n m k : ℕ) (xs : List A) → n + m ≡ k → slice_get (drop n xs) m ≡ slice_get xs k
get_after zero m k xs is = ap (λ j. slice_get xs j) (let same : m ≡ k = omega (arith, is) in same)
get_after (suc n) m k [] is = refl
get_after (suc n) m zero (x ∷ xs) is = absurd (let false : zero ≡ suc zero = omega (arith, is) in cc false)
get_after (suc n) m (suc k) (x ∷ xs) is = get_after n m k xs (let same : n + m ≡ k = omega (arith, is) in same)

same_after : {A : Type 0} (xs ys : List A) (n m k : ℕ) → n + m ≡ k → drop n xs ≡ drop n ys → slice_get xs k ≡ slice_get ys k
same_after xs ys n m k is same = sym (get_after n m k xs is) ∙ ap (λ l. slice_get l m) same ∙ get_after n m k ys is

-- the disks of the member, as they were handed in and as they are left
record MemberDisks {D : Type 0} (state : D → State) (nodes : ℕ) (handed left : List D) (made : Result (Unit {0}) SyncStop) : Type 0 where
  journal : D
  journal' : D
  checkpoints : D
  checkpoints' : D
  journal_was : slice_get handed (2 * nodes) ≡ Some journal
  journal_is : slice_get left (2 * nodes) ≡ Some journal'
  checkpoints_was : slice_get handed (2 * nodes + 1) ≡ Some checkpoints
  checkpoints_is : slice_get left (2 * nodes + 1) ≡ Some checkpoints'
  ran : RanBoth (made ≡ Err syncs.DiskFault) (state journal) (state journal') (state checkpoints) (state checkpoints')

module _ {D : Type 0} (state : D → State) (handed : List D) (call : Call D) (old new : Option (List ℕ)) (ended : Result (Unit {0}) Stop) (events : List Event) (disks : List D)
    (ends : EndsWithMember state handed call old new ended events disks) where
  abbrev closed : Set D
  closed = ends.member.adds.set

  -- how many nodes it has, as the set tells it
  abbrev count : ℕ
  count = ends.member.scripted.sizes.nodes

  idle : drop (2 * count) closed.disks ≡ drop (2 * count) handed
  idle = subst (λ (s : Sizes). drop (2 * s.nodes) closed.disks ≡ drop (2 * s.nodes) handed) (sym ends.member.sizes_are) ends.idle

  one : OneChanged state (DisksOfMember (copy_of ends.member.adds.pinned) ends.member.made) count closed.disks disks
  one = ends.member.adds.member

  member_disks : MemberDisks state call.read.nodes handed disks ends.member.made
  member_disks = subst (λ n. MemberDisks state n handed disks ends.member.made) (ap (λ (s : Sizes). s.nodes) ends.member.sizes_are) (record {
    journal = one.journal;
    journal' = one.journal';
    checkpoints = one.checkpoints;
    checkpoints' = one.checkpoints';
    journal_was = sym (same_after closed.disks handed (2 * count) 0 (2 * count) (omega arith) idle) ∙ one.journal_at;
    journal_is = ap (λ l. slice_get l (2 * count)) one.disks
        ∙ get_set_other (slice_set closed.disks (2 * count) one.journal') (2 * count + 1) (2 * count) one.checkpoints' (λ same. omega (arith, same))
        ∙ get_set_same closed.disks (2 * count) one.journal' one.journal one.journal_at;
    checkpoints_was = sym (same_after closed.disks handed (2 * count) 1 (2 * count + 1) (omega arith) idle) ∙ one.checkpoints_at;
    checkpoints_is = ap (λ l. slice_get l (2 * count + 1)) one.disks
        ∙ get_set_same (slice_set closed.disks (2 * count) one.journal') (2 * count + 1) one.checkpoints' one.checkpoints
        (get_set_other closed.disks (2 * count) (2 * count + 1) one.journal' (λ same. omega (arith, same)) ∙ one.checkpoints_at);
    ran = one.changed.1;
  })

  counted : ends.member.made ≡ Err syncs.DiskFault → MemberFaultCounted state call.read.nodes handed disks
  counted fault = elim (member_disks.ran.cause fault) [
    | inl rose ↦ (2 * call.read.nodes, member_disks.journal, member_disks.journal', omega arith, omega arith, member_disks.journal_was, member_disks.journal_is, rose)
    | inr rose ↦ (2 * call.read.nodes + 1, member_disks.checkpoints, member_disks.checkpoints', omega arith, omega arith, member_disks.checkpoints_was, member_disks.checkpoints_is, rose)
  ]

  unarmed : All (λ (disk : D). IsUnarmed (state disk)) handed → ends.member.made ≢ Err syncs.DiskFault
  unarmed all fault =
      let first : IsUnarmed (state member_disks.journal) = unarmed_at state handed all (2 * call.read.nodes) member_disks.journal member_disks.journal_was in
      let second : IsUnarmed (state member_disks.checkpoints) = unarmed_at state handed all (2 * call.read.nodes + 1) member_disks.checkpoints member_disks.checkpoints_was in
      elim (member_disks.ran.only_armed fault first.0 second.0) [ inl armed ↦ first.1 armed | inr armed ↦ second.1 armed ]

-- ---- by the status

made_so : (made : Result (Unit {0}) SyncStop) → status_of (ended_so made) ≡ 8 → made ≡ Err syncs.DiskFault
made_so (Ok done) eight = absurd (cc eight)
made_so (Err (syncs.Refused why)) eight = absurd (cc eight)
made_so (Err syncs.DiskFault) eight = refl
made_so (Err syncs.WriteFault) eight = absurd (cc eight)
made_so (Err syncs.Memory) eight = absurd (cc eight)

no_copy : {D : Type 0} (task : Task) (parts : List Part) (old new : Option (List ℕ)) (ended : Result (Unit {0}) Stop) (set : Set D) → EndsTask task parts old new ended set → status_of ended ≢ 8
no_copy task parts old new (Ok done) set ends eight = cc eight
no_copy task parts old new (Err Memory) set ends eight = cc eight
no_copy task parts old new (Err WriteFault) set ends eight = cc eight
no_copy task parts old new (Err Usage) set ends eight = cc eight
no_copy task parts old new (Err NoScript) set ends eight = cc eight
no_copy task parts old new (Err ReadFault) set ends eight = cc eight
no_copy task parts old new (Err TooLong) set ends eight = cc eight
no_copy task parts old new (Err DiskFault) set ends eight = cc eight
no_copy task parts old new (Err Refused) set ends eight = cc eight
no_copy Run parts old new (Err CopyFault) set ends eight = ends
no_copy (ReadsLinear linear) parts old new (Err CopyFault) set ends eight = ends
no_copy (Watches watch) parts old new (Err CopyFault) set ends eight = ends
no_copy (Sync node) parts old new (Err CopyFault) set ends eight = ends
no_copy Trace parts old new (Err CopyFault) set ends eight = ends
no_copy (Chaos seed events nodes) parts old new (Err CopyFault) set ends eight = ends

no_copy_unrun : (Asked : Type 0) (words : List (String Global)) (left rest old new : Option (List ℕ)) (ended : Result (Unit {0}) Stop) → EndsWithoutRun Asked words left rest old new ended → status_of ended ≢ 8
no_copy_unrun Asked words left rest old new (Ok done) ends eight = ends
no_copy_unrun Asked words left rest old new (Err Memory) ends eight = cc eight
no_copy_unrun Asked words left rest old new (Err WriteFault) ends eight = cc eight
no_copy_unrun Asked words left rest old new (Err Usage) ends eight = cc eight
no_copy_unrun Asked words left rest old new (Err NoScript) ends eight = cc eight
no_copy_unrun Asked words left rest old new (Err ReadFault) ends eight = cc eight
no_copy_unrun Asked words left rest old new (Err TooLong) ends eight = cc eight
no_copy_unrun Asked words left rest old new (Err DiskFault) ends eight = cc eight
no_copy_unrun Asked words left rest old new (Err Refused) ends eight = cc eight
no_copy_unrun Asked words left rest old new (Err CopyFault) ends eight = ends

module _ {D : Type 0} (state : D → State) (call : Call D) (handed : List D) (words : List (String Global)) (left rest old new : Option (List ℕ)) (ended : Result (Unit {0}) Stop) where
  pub copy_failed : (outcome : Left D) → Ends state call handed words left rest old new ended outcome → status_of ended ≡ 8
      → IsAsked call words left rest × MemberFaultCounted state call.read.nodes handed (disks_of outcome)
  copy_failed (World set) (asked, sizes, ends) eight = absurd (no_copy call.task call.read.parts old new ended set ends eight)
  copy_failed (Parts events disks) (inl (none, ends)) eight = absurd (no_copy_unrun (IsAsked call words left rest) words left rest old new ended ends eight)
  copy_failed (Parts events disks) (inr (asked, ends)) eight =
      (asked, counted state handed call old new ended events.items disks.items ends (made_so ends.member.made (ap (λ (e : Result (Unit {0}) Stop). status_of e) (sym ends.member.ends) ∙ eight)))

  pub none_copied : (outcome : Left D) → Ends state call handed words left rest old new ended outcome → All (λ (disk : D). IsUnarmed (state disk)) handed → status_of ended ≢ 8
  none_copied (World set) (asked, sizes, ends) all eight = no_copy call.task call.read.parts old new ended set ends eight
  none_copied (Parts events disks) (inl (none, ends)) all eight = no_copy_unrun (IsAsked call words left rest) words left rest old new ended ends eight
  none_copied (Parts events disks) (inr (asked, ends)) all eight =
      unarmed state handed call old new ended events.items disks.items ends all (made_so ends.member.made (ap (λ (e : Result (Unit {0}) Stop). status_of e) (sym ends.member.ends) ∙ eight))
