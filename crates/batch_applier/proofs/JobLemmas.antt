-- Shards are moved into jobs, and out of them.
use Rattle.std.proofs.Common.{◌≡◌, ◌<◌, ◌≤◌, ◌+◌, ◌∙◌, ◌∷◌, ◌++◌, [], ℕ, zero, suc, List, Option, Some, None, Result, Ok, Err, length, set, get_or, take, unwrap_or, refl, sym, ap, subst, arith, length-set, get_or-set_same, get_or-set_other}
use mathlib.Core.Logic.{dite}
use native.Mathlib.Decide.{ℕ_discrete}
use Rattle.atomic_table.proofs.Lists.{at_longer, at_last}
use Rattle.std.specs.Prelude.{slice_index_or, OnOk}
use Rattle.std.specs.Result.{IsOk}
use mathlib.Core.Option.{some, some-injective, some-ne-none}
use lib.ListN.{get_elem?}
use Rattle.oplog_entry.specs.declared.entry.Entry.{Entry}
use Rattle.version_store.specs.Shards.{Shard}
use Rattle.batch_applier.specs.Parts.{IsReady, IsBegun, AreReady, Each}
use Rattle.batch_applier.specs.Jobs.{AreJobs, AreAllJobs, AreBack}
use Rattle.batch_applier.specs.declared.shard_job.ShardJob.{ShardJob}
use Rattle.batch_applier.proofs.WorkerLemmas.{begun_nothing}

no_shard : Shard
no_shard = record { number = 0; count = 0; collections = [] }

-- so many shards are in jobs, and the others are where they were
pub record Moved (shards left : List Shard) (parts : List (List Entry)) (jobs : List (Option ShardJob)) (n : ℕ) : Type 0 where
  pub long : length left ≡ length shards
  pub len : length jobs ≡ n
  pub rest : (k : ℕ) (s : Shard) → n ≤ k → k < length shards → slice_index_or left k s ≡ slice_index_or shards k s
  pub moved : (k : ℕ) (s : Shard) (p : List Entry) → k < n → (job : ShardJob) × (get_elem? jobs k ≡ some (Some job)) × (job.shard ≡ slice_index_or shards k s) × (job.part.now ≡ slice_index_or parts k p)

module _ {A : Type 0} where
  pub any_default : (l : List A) (n : ℕ) (a b : A) → n < length l → get_or l n a ≡ get_or l n b
  any_default [] n a b h = absurd (omega arith)
  any_default (x ∷ xs) zero a b h = refl
  any_default (x ∷ xs) (suc n) a b h = any_default xs n a b (omega arith)

  longer_by_one : (l : List A) (a : A) → length (l ++ a ∷ []) ≡ length l + 1
  longer_by_one [] a = omega arith
  longer_by_one (x ∷ xs) a = omega (arith, longer_by_one xs a)

pub moved_more : (shards left : List Shard) (parts : List (List Entry)) (jobs items : List (Option ShardJob)) (n : ℕ) (job : ShardJob) (stand_in : Shard) → Moved shards left parts jobs n → n < length shards → n < length parts
    → job.shard ≡ get_or left n job.shard → job.part.now ≡ get_or parts n job.part.now → items ≡ jobs ++ Some job ∷ [] → Moved shards (set left n stand_in) parts items (n + 1)
moved_more shards left parts jobs items n job stand_in m short short_parts shard part is = record {
  long = length-set left n stand_in ∙ m.long;
  len = ap (λ (l : List (Option ShardJob)). length l) is ∙ (longer_by_one jobs (Some job) ∙ ap (λ (k : ℕ). k + 1) m.len);
  rest = λ k s le within. get_or-set_other left n k stand_in s (λ e. omega arith) ∙ m.rest k s (omega arith) within;
  moved = λ k s p less. dite (ℕ_discrete k n)
      (λ e. subst (λ (i : ℕ). (x : ShardJob) × (get_elem? items i ≡ some (Some x)) × (x.shard ≡ slice_index_or shards i s) × (x.part.now ≡ slice_index_or parts i p)) (sym e) (
        job,
        ap (λ (l : List (Option ShardJob)). get_elem? l n) is ∙ at_last jobs (Some job) n m.len,
        shard ∙ (m.rest n job.shard (omega arith) short ∙ any_default shards n job.shard s short),
        part ∙ any_default parts n job.part.now p short_parts,
      ))
      (λ ne. let old = m.moved k s p (omega arith) in (old.0, ap (λ (l : List (Option ShardJob)). get_elem? l k) is ∙ at_longer jobs (Some job ∷ []) k (Some old.0) old.1, old.2, old.3));
}

module _ {A : Type 0} where
  at_read : (l : List A) (i : ℕ) (a d : A) → get_elem? l i ≡ some a → get_or l i d ≡ a
  at_read [] i a d e = absurd (some-ne-none a (sym e))
  at_read (y ∷ ys) zero a d e = some-injective y a e
  at_read (y ∷ ys) (suc i) a d e = at_read ys i a d e

  take_read : (l : List A) (i m : ℕ) (d : A) → i < m → get_or (take m l) i d ≡ get_or l i d
  take_read [] i zero d h = refl
  take_read [] i (suc m) d h = refl
  take_read (y ∷ ys) i zero d h = absurd (omega arith)
  take_read (y ∷ ys) zero (suc m) d h = refl
  take_read (y ∷ ys) (suc i) (suc m) d h = take_read ys i m d (omega arith)

pub given_more : (all items : List (Option ShardJob)) (left : List Shard) (n : ℕ) (job : ShardJob) (o : Option ShardJob) → items ≡ take (n + 1) all → n < length all → length left ≡ length all → o ≡ get_or items n o → o ≡ Some job
    → ((k : ℕ) (x : ShardJob) (s : Shard) → n + 1 ≤ k → get_elem? all k ≡ some (Some x) → slice_index_or left k s ≡ x.shard)
    → (k : ℕ) (x : ShardJob) (s : Shard) → n ≤ k → get_elem? all k ≡ some (Some x) → slice_index_or (set left n job.shard) k s ≡ x.shard
given_more all items left n job o is short long read some_job old k x s le at = dite (ℕ_discrete k n)
    (λ e. let here : get_elem? all n ≡ some (Some x) = ap (get_elem? all) (sym e) ∙ at in
    let got : get_or all n o ≡ Some x = at_read all n (Some x) o here in
    let popped : get_or items n o ≡ get_or all n o = ap (λ (l : List (Option ShardJob)). get_or l n o) is ∙ take_read all n (n + 1) o (omega arith) in
    let same : job ≡ x = ap (λ (p : Option ShardJob). unwrap_or p job) (sym some_job ∙ (read ∙ (popped ∙ got))) in
    ap (λ (i : ℕ). slice_index_or (set left n job.shard) i s) e ∙ (get_or-set_same left n job.shard s (omega arith) ∙ ap (λ (j : ShardJob). j.shard) same))
    (λ ne. get_or-set_other left n k job.shard s ne ∙ old k x s (omega arith) at)

module _ {A : Type 0} where
  take_none : (i : ℕ) → take {A = A} i [] ≡ []
  take_none zero = refl
  take_none (suc i) = refl

  pub less_taken : (l : List A) (m : ℕ) → take m (take (m + 1) l) ≡ take m l
  less_taken [] zero = refl
  less_taken [] (suc m) = ap (take (suc m)) (take_none (suc m + 1))
  less_taken (x ∷ xs) zero = refl
  less_taken (x ∷ xs) (suc m) = let up : suc m + 1 ≡ suc (m + 1) = omega arith in ap (λ (i : ℕ). take (suc m) (take i (x ∷ xs))) up ∙ ap (λ (t : List A). x ∷ t) (less_taken xs m)

  pub took : (l : List A) (m : ℕ) → length (take m l) ≡ m → m ≤ length l
  took l zero e = omega arith
  took [] (suc m) e = absurd (omega arith)
  took (x ∷ xs) (suc m) e = let h = took xs m (omega arith) in omega arith

  pub last_read : (l : List A) (n m : ℕ) (o : A) (r : Option A) → r ≡ Some o → m ≡ n → r ≡ Some (get_or l m o) → o ≡ get_or l n o
  last_read l n m o r is same value = ap (λ (p : Option A). unwrap_or p o) (sym is ∙ value) ∙ ap (λ (i : ℕ). get_or l i o) same

pub not_given : (all items : List (Option ShardJob)) (n : ℕ) (o : Option ShardJob) → items ≡ take (n + 1) all → o ≡ get_or items n o → (x : ShardJob) → get_elem? all n ≡ some (Some x) → o ≡ None → ⊥
not_given all items n o is read x at none_left =
    let popped : get_or items n o ≡ get_or all n o = ap (λ (l : List (Option ShardJob)). get_or l n o) is ∙ take_read all n (n + 1) o (omega arith) in
    let clash : None ≡ Some x = sym none_left ∙ (read ∙ (popped ∙ at_read all n (Some x) o at)) in absurd (cc)

pub jobs_ready : (shards : List Shard) (parts : List (List Entry)) (jobs : List (Option ShardJob)) → AreReady shards parts → AreJobs shards parts jobs
    → (k : ℕ) → k < length jobs → (job : ShardJob) × (get_elem? jobs k ≡ some (Some job)) × IsReady job.shard job.part.now
jobs_ready shards parts jobs ready are k within = let j = are.1 k no_shard [] (omega (arith, are.0)) in
    (j.0, j.1, subst (λ s. IsReady s j.0.part.now) (sym j.2) (subst (λ p. IsReady (slice_index_or shards k no_shard) p) (sym j.3) (ready.each k no_shard [] (omega (arith, are.0)))))

pub all_jobs : (shards : List Shard) (parts : List (List Entry)) (jobs : List (Option ShardJob)) → AreJobs shards parts jobs → AreAllJobs jobs
all_jobs shards parts jobs are k within = let j = are.1 k no_shard [] (omega (arith, are.0)) in (j.0, j.1)

-- shards that came back from jobs that were done
pub each_back : (So : Shard → Shard → List Entry → Type 0) (shards new : List Shard) (parts : List (List Entry)) (jobs after : List (Option ShardJob)) → AreJobs shards parts jobs
    → length after ≡ length jobs → ((k : ℕ) (x : ShardJob) → get_elem? jobs k ≡ some (Some x) → (y : ShardJob) × (get_elem? after k ≡ some (Some y)) × So x.shard y.shard x.part.now)
    → AreBack after new → Each So shards new parts
each_back So shards new parts jobs after are long done back = record {
  long = back.0 ∙ (long ∙ are.0);
  each = λ k s p within. let j = are.1 k s p within in let d = done k j.0 j.1 in
      subst (λ a. So a (slice_index_or new k s) (slice_index_or parts k p)) j.2 (subst (λ q. So j.0.shard (slice_index_or new k s) q) j.3 (subst (λ b. So j.0.shard b j.0.part.now) (sym (back.1 k d.0 s d.1)) d.2));
}

-- shards that came back as they were
each_same : (shards new : List Shard) (parts : List (List Entry)) (jobs : List (Option ShardJob)) → AreJobs shards parts jobs → AreBack jobs new → (k : ℕ) (s : Shard) → k < length shards → slice_index_or new k s ≡ slice_index_or shards k s
each_same shards new parts jobs are back k s within = let j = are.1 k s [] within in back.1 k j.0 s j.1 ∙ j.2

pub got : {A E P : Type 0} (r : Result A E) → IsOk r → OnOk r P → P
got (Ok a) is h = h
got (Err e) is h = absurd (cc)

pub same_begun : (shards new : List Shard) (parts : List (List Entry)) (jobs : List (Option ShardJob)) → AreJobs shards parts jobs → AreBack jobs new → Each IsBegun shards new parts
same_begun shards new parts jobs are back = record {
  long = back.0 ∙ are.0;
  each = λ k s p within. subst (λ b. IsBegun (slice_index_or shards k s) b (slice_index_or parts k p)) (sym (each_same shards new parts jobs are back k s within)) (begun_nothing (slice_index_or shards k s) (slice_index_or parts k p));
}
