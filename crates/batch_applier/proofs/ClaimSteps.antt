-- Each step of the workers on the table of jobs preserves its rule.
use Rattle.std.proofs.Common.{◌≡◌, ◌≢◌, ◌⊎◌, ℕ, zero, suc, ◌+◌, ◌-◌, ◌%◌, ◌^◌, ◌<◌, ◌≤◌, List, [], ◌∷◌, ◌++◌, map, length, get_or, set, Option, Some, None, unwrap_or, refl, sym, ap, ◌∙◌, subst, inl, inr, ⊎_elim, arith, length-set, get_or-set_same, mod-eq_of_lt}
use mathlib.Core.Logic.{dite}
use mathlib.Core.Option.{none, some, some-injective, some-ne-none}
use native.Mathlib.Decide.{ℕ_discrete, dec_le}
use lib.ListN.{get_elem?}
use Rattle.atomic_table.specs.Table.{State, Me, step, Act, keeps, takes, gives, chain, Valid, carried_after, stepped, opening, Allows, Splits, Joins, Final, Seen as WithView}
use Rattle.atomic_table.proofs.Lists.{set_here, set_else, at_snoc, at_longer, at_map}
use Rattle.turn_board.specs.History.{times, below}
use Rattle.turn_board.proofs.Sums.{total_set, two_of_total, total_append, one_if_same, below_more}
use Rattle.turn_board.proofs.Steps.{there, each_set}
use Rattle.batch_applier.specs.declared.view.View.{View}
use Rattle.batch_applier.specs.Claims.{opened, one_part, other_parts, joined, spent, holding, ending, IsFree, HasDone, Fits, IsOut, Stands, AreReadyJobs, claimed, Invariant, AreDone}

module _ {A : Type 0} where
  pub inside : (l : List A) (i : ℕ) (a : A) → get_elem? l i ≡ some a → i < length l
  inside [] i a e = absurd (some-ne-none a (sym e))
  inside (x ∷ xs) zero a e = omega arith
  inside (x ∷ xs) (suc i) a e = let h = inside xs i a e in omega arith

  set_twice : (l : List A) (i : ℕ) (a b : A) → set (set l i a) i b ≡ set l i b
  set_twice [] i a b = refl
  set_twice (x ∷ xs) zero a b = refl
  set_twice (x ∷ xs) (suc i) a b = λ k. x ∷ set_twice xs i a b k

  length_map : {B : Type 0} (f : A → B) (l : List A) → length (map f l) ≡ length l
  length_map f [] = refl
  length_map f (x ∷ xs) = ap suc (length_map f xs)

times_append : (n : ℕ) (xs ys : List ℕ) → times n (xs ++ ys) ≡ times n xs + times n ys
times_append n [] ys = omega arith
times_append n (x ∷ xs) ys = omega (arith, times_append n xs ys)

module _ {T : Type 0} where
  abbrev number_or : ℕ → Option (ℕ × T) → ℕ
  number_or d None = d
  number_or d (Some t) = t.0

  abbrev job_or : T → Option (ℕ × T) → T
  job_or d None = d
  job_or d (Some t) = t.1

  same_number : (k n : ℕ) (x y : T) → ◌≡◌ {A = Option (ℕ × T)} (Some (k, x)) (Some (n, y)) → k ≡ n
  same_number k n x y e = ap (number_or k) e

  same_job : (jobs : List (Option T)) (k : ℕ) (x y : T) → get_elem? jobs k ≡ some (Some x) → get_elem? jobs k ≡ some (Some y) → x ≡ y
  same_job jobs k x y a b = ap (λ (o : Option T). unwrap_or o x) (some-injective (Some x) (Some y) (sym a ∙ b))

  none_taken : (v : View T) (k : ℕ) (x : T) → v.taken ≡ None → v.taken ≡ Some (k, x) → ⊥
  none_taken v k x a b = let clash : None ≡ Some (k, x) = sym a ∙ b in absurd (cc)

  -- a seat that changes and has no job leaves what is out with others
  out_else : (l : List (View T)) (i : ℕ) (v w : View T) (k : ℕ) (x : T) → get_elem? l i ≡ some v → v.taken ≢ Some (k, x) → IsOut k x l → IsOut k x (set l i w)
  out_else l i v w k x here not out = let j : ℕ = out.0 in let u : View T = out.1 in
      let other : j ≢ i = λ same. not (ap (λ (z : View T). z.taken) (some-injective v u (sym here ∙ (ap (get_elem? l) (sym same) ∙ out.2))) ∙ out.3) in
      (j, u, set_else l i j w other ∙ out.2, out.3)

  out_same : (l : List (View T)) (i : ℕ) (v w : View T) (k : ℕ) (x : T) → get_elem? l i ≡ some v → w.taken ≡ v.taken → IsOut k x l → IsOut k x (set l i w)
  out_same l i v w k x here same out = let j : ℕ = out.0 in let u : View T = out.1 in dite (ℕ_discrete j i)
      (λ e. (i, w, there l i v w here, same ∙ (ap (λ (z : View T). z.taken) (some-injective v u (sym here ∙ (ap (get_elem? l) (sym e) ∙ out.2))) ∙ out.3)))
      (λ other. (j, u, set_else l i j w other ∙ out.2, out.3))

  later : (jobs : List (Option T)) (n m : ℕ) (v : View T) → n ≤ m → Fits jobs n v → Fits jobs m v
  later jobs n m v up f = record {
    drew = λ k x is. let d = f.drew k x is in let before = d.0 in (omega arith, d.1, d.2);
    over = λ some_of. let o = f.over some_of in omega arith;
    idle = f.idle;
  }

  abbrev freed : View T → View T
  freed v = record { live = v.live; ended = v.ended; drawn = v.drawn; taken = None }

module _ {T : Type 0} (ready : T → Type 0) (done : T → T → Type 0) (jobs : List (Option T)) where
  abbrev St : Type 0
  St = State (Option T) (View T)

  abbrev Rule : St → Type 0
  Rule = Invariant ready done jobs

  abbrev word : St → ℕ
  word s = get_or s.words 0 0

  -- the job of a seat is put back, done
  released : (s : St) (r : Rule s) (id : ℕ) (v : View T) (k : ℕ) (x y : T) → get_elem? s.views id ≡ some v → v.taken ≡ Some (k, x) → done x y
      → Rule record { words = s.words; homes = set s.homes k (some (Some y)); views = set s.views id (freed v) }
  released s r id v k x y here took is_done = let w : View T = freed v in let f = r.each id v here in let d = f.drew k x took in let before = d.0 in let long = r.long in let small = inside jobs k (Some x) d.1 in record {
    wide = r.wide;
    long = length-set s.homes k (some (Some y)) ∙ r.long;
    few = r.few;
    jobs_ready = r.jobs_ready;
    stand = λ i z at. dite (ℕ_discrete i k)
        (λ e. inr (
          omega arith,
          inl (
            y,
            ap (get_elem? (set s.homes k (some (Some y)))) e ∙ set_here s.homes k (some (Some y)) (omega arith),
            subst (λ (t : T). done t y) (same_job jobs k x z d.1 (ap (get_elem? jobs) (sym e) ∙ at)) is_done,
          ),
        ))
        (λ ne. ⊎_elim
        (λ waits. inl (waits.0, set_else s.homes k i (some (Some y)) ne ∙ waits.1))
        (λ was. inr (
          was.0,
          ⊎_elim
              (λ home. inl (home.0, set_else s.homes k i (some (Some y)) ne ∙ home.1, home.2))
              (λ out. inr (out_else s.views id v w i z here (λ is. ne (same_number i k z x (sym is ∙ took))) out))
              was.1,
        ))
        (r.stand i z at));
    drawn = λ n. omega (arith, total_set (λ (u : View T). times n u.drawn) s.views id v w here, r.drawn n);
    claims = let t = total_set (λ (u : View T). u.ended) s.views id v w here in let c = r.claims in omega arith;
    parts = omega (arith, total_set (λ (u : View T). u.live) s.views id v w here, total_set (λ (u : View T). u.ended) s.views id v w here, r.parts);
    each = each_set (Fits jobs (word s)) s.views id w record { drew = λ i z is. absurd (cc); over = f.over; idle = λ _ _. refl } (λ j u _ at. r.each j u at);
  }

  -- the word after a claim
  counted : (s : St) (r : Rule s) → ((word s + 1) % 2 ^ 64 ≡ word s + 1) × (get_or (set s.words 0 ((word s + 1) % 2 ^ 64)) 0 0 ≡ word s + 1)
  counted s r = let c = r.claims in let p = r.parts in let few = r.few in let wide = r.wide in
      let up : (word s + 1) % 2 ^ 64 ≡ word s + 1 = mod-eq_of_lt (omega arith) in
      (up, get_or-set_same s.words 0 ((word s + 1) % 2 ^ 64) 0 (omega arith) ∙ up)

  -- a free seat draws the number of a job
  takes_job : (s : St) (r : Rule s) (id : ℕ) (v : View T) (x : T) → get_elem? s.views id ≡ some v → v.taken ≡ None → 0 < v.live → get_elem? jobs (word s) ≡ some (Some x)
      → Rule record { words = set s.words 0 ((word s + 1) % 2 ^ 64); homes = set s.homes (word s) none; views = set s.views id (holding v (word s) x) }
  takes_job s r id v x here free live job = let n : ℕ = word s in let w : View T = holding v n x in let f = r.each id v here in let small = inside jobs n (Some x) job in
      let now : get_or (set s.words 0 ((n + 1) % 2 ^ 64)) 0 0 ≡ n + 1 = (counted s r).1 in record {
        wide = length-set s.words 0 ((n + 1) % 2 ^ 64) ∙ r.wide;
        long = length-set s.homes n none ∙ r.long;
        few = r.few;
        jobs_ready = r.jobs_ready;
        stand = λ i z at. subst (λ (m : ℕ). Stands done i z m (set s.homes n none) (set s.views id w)) (sym now) (dite (ℕ_discrete i n)
            (λ e. inr (omega arith, inr (id, w, there s.views id v w here, λ h. Some (sym e h, same_job jobs n x z job (ap (get_elem? jobs) (sym e) ∙ at) h))))
            (λ ne. ⊎_elim
            (λ waits. let le = waits.0 in inl (omega arith, set_else s.homes n i none ne ∙ waits.1))
            (λ was. let lt = was.0 in inr (
              omega arith,
              ⊎_elim
                  (λ home. inl (home.0, set_else s.homes n i none ne ∙ home.1, home.2))
                  (λ out. inr (out_else s.views id v w i z here (λ is. none_taken v i z free is) out))
                  was.1,
            ))
            (r.stand i z at)));
        drawn = λ m. omega (arith, total_set (λ (u : View T). times m u.drawn) s.views id v w here, r.drawn m, ap (below m) now, below_more m n);
        claims = let t = total_set (λ (u : View T). u.ended) s.views id v w here in omega arith;
        parts = omega (arith, total_set (λ (u : View T). u.live) s.views id v w here, total_set (λ (u : View T). u.ended) s.views id v w here, r.parts);
        each = subst (λ (m : ℕ). (j : ℕ) (u : View T) → get_elem? (set s.views id w) j ≡ some u → Fits jobs m u) (sym now) (each_set (Fits jobs (n + 1)) s.views id w
            record {
              drew = λ i z is. let same : n ≡ i = same_number n i x z is in let one = one_if_same n n refl in
                  subst (λ (m : ℕ). (m < n + 1) × (get_elem? jobs m ≡ some (Some z)) × (0 < times m w.drawn)) same
                  (omega arith, job ∙ ap (λ (o : Option (ℕ × T)). some (Some (job_or x o))) is, omega arith);
              over = λ some_of. let o = f.over some_of in omega arith;
              idle = λ a b. absurd (omega arith);
            }
            (λ j u _ at. later jobs n (n + 1) u (omega arith) (r.each j u at)));
      }

  -- a free seat draws a number past the last job
  ends : (s : St) (r : Rule s) (id : ℕ) (v : View T) → get_elem? s.views id ≡ some v → v.taken ≡ None → 0 < v.live → length jobs ≤ word s
      → Rule record { words = set s.words 0 ((word s + 1) % 2 ^ 64); homes = s.homes; views = set s.views id (ending v (word s)) }
  ends s r id v here free live past = let n : ℕ = word s in let w : View T = ending v n in
      let now : get_or (set s.words 0 ((n + 1) % 2 ^ 64)) 0 0 ≡ n + 1 = (counted s r).1 in record {
        wide = length-set s.words 0 ((n + 1) % 2 ^ 64) ∙ r.wide;
        long = r.long;
        few = r.few;
        jobs_ready = r.jobs_ready;
        stand = λ i z at. let short = inside jobs i (Some z) at in subst (λ (m : ℕ). Stands done i z m s.homes (set s.views id w)) (sym now) (⊎_elim
            (λ waits. let le = waits.0 in absurd (omega arith))
            (λ was. let lt = was.0 in inr (
              omega arith,
              ⊎_elim
                  (λ home. inl home)
                  (λ out. inr (out_else s.views id v w i z here (λ is. none_taken v i z free is) out))
                  was.1,
            ))
            (r.stand i z at));
        drawn = λ m. omega (arith, total_set (λ (u : View T). times m u.drawn) s.views id v w here, r.drawn m, ap (below m) now, below_more m n);
        claims = let t = total_set (λ (u : View T). u.ended) s.views id v w here in let c = r.claims in omega arith;
        parts = omega (arith, total_set (λ (u : View T). u.live) s.views id v w here, total_set (λ (u : View T). u.ended) s.views id v w here, r.parts, live);
        each = subst (λ (m : ℕ). (j : ℕ) (u : View T) → get_elem? (set s.views id w) j ≡ some u → Fits jobs m u) (sym now) (each_set (Fits jobs (n + 1)) s.views id w
            record { drew = λ i z is. absurd (cc); over = λ _. omega arith; idle = λ _ _. refl }
            (λ j u _ at. later jobs n (n + 1) u (omega arith) (r.each j u at)));
      }

  abbrev Claim : ℕ → St → ℕ → Me (Option T) (View T) → Type 0
  Claim slots s id me = (w : View T) × (a : Act (Option T)) × Valid s.homes me.1 a × Rule (stepped s 0 ((word s + 1) % 2 ^ 64) id me.1 w a) × claimed ready (step slots 0 1 0 none) me (word s) (w, carried_after me.1 a)

  -- the job of the number drawn is in its slot
  waiting : (s : St) (r : Rule s) (x : T) → get_elem? jobs (word s) ≡ some (Some x) → get_elem? s.homes (word s) ≡ some (some (Some x))
  waiting s r x at = ⊎_elim (λ waits. waits.1) (λ was. let lt = was.0 in absurd (omega arith)) (r.stand (word s) x at)

  first_claim : (slots id : ℕ) (v : View T) → v.taken ≡ None → 0 < v.live → Allows Rule slots id (v, []) 0 (λ n. (n + 1) % 2 ^ 64) (claimed ready (step slots 0 1 0 none) (v, []))
  first_claim slots id v free live s r homes here _ = let n : ℕ = word s in let long = r.long in dite (dec_le (n + 1) slots)
      (λ more. let job = r.jobs_ready n (omega arith) in let x : T = job.0 in (
        holding v n x,
        takes n (Some x),
        waiting s r x job.1,
        takes_job s r id v x here free live job.1,
        ((λ _. (x, refl, job.2)), (λ past. absurd (omega arith)), (λ k z is. absurd (none_taken v k z free is))),
      ))
      (λ past. (
        ending v n,
        keeps,
        tt,
        ends s r id v here free live (omega arith),
        ((λ more. absurd (omega arith)), (λ _. refl), (λ k z is. absurd (none_taken v k z free is))),
      ))

  next_claim : (slots id : ℕ) (v : View T) (k : ℕ) (x y : T) → v.taken ≡ Some (k, x) → 0 < v.live → done x y
      → Allows Rule slots id (v, (k, Some y) ∷ []) 0 (λ n. (n + 1) % 2 ^ 64) (claimed ready (step slots 0 1 0 none) (v, (k, Some y) ∷ []))
  next_claim slots id v k x y took live is_done s r homes here _ = let n : ℕ = word s in let long = r.long in
      let t : St = record { words = s.words; homes = set s.homes k (some (Some y)); views = set s.views id (freed v) } in
      let q : Rule t = released s r id v k x y here took is_done in
      let here_now : get_elem? t.views id ≡ some (freed v) = there s.views id v (freed v) here in
      let before : (i : ℕ) (z : T) → v.taken ≡ Some (i, z) → i < n = λ i z is. ((r.each id v here).drew i z is).0 in dite (dec_le (n + 1) slots)
      (λ more. let job = r.jobs_ready n (omega arith) in let z : T = job.0 in (
        holding v n z,
        chain gives (takes n (Some z)),
        (tt, waiting t q z job.1),
        subst (λ (vs : List (View T)). Rule record { words = set s.words 0 ((n + 1) % 2 ^ 64); homes = set t.homes n none; views = vs }) (set_twice s.views id (freed v) (holding v n z))
            (takes_job t q id (freed v) z here_now refl live job.1),
        ((λ _. (z, refl, job.2)), (λ past. absurd (omega arith)), before),
      ))
      (λ past. (
        ending v n,
        gives,
        tt,
        subst (λ (vs : List (View T)). Rule record { words = set s.words 0 ((n + 1) % 2 ^ 64); homes = t.homes; views = vs }) (set_twice s.views id (freed v) (ending v n))
            (ends t q id (freed v) here_now refl live (omega arith)),
        ((λ more. absurd (omega arith)), (λ _. refl), before),
      ))

  pub claims : (slots id : ℕ) (me : Me (Option T) (View T)) → 0 < me.0.live → IsFree me ⊎ HasDone done me → Allows Rule slots id me 0 (λ n. (n + 1) % 2 ^ 64) (claimed ready (step slots 0 1 0 none) me)
  claims slots id me live so = ⊎_elim
      (λ free. subst (λ (c : List (ℕ × Option T)). Allows Rule slots id (me.0, c) 0 (λ n. (n + 1) % 2 ^ 64) (claimed ready (step slots 0 1 0 none) (me.0, c))) (sym free.1) (first_claim slots id me.0 free.0 live))
      (λ had. subst (λ (c : List (ℕ × Option T)). Allows Rule slots id (me.0, c) 0 (λ n. (n + 1) % 2 ^ 64) (claimed ready (step slots 0 1 0 none) (me.0, c))) (sym had.4) (next_claim slots id me.0 had.0 had.1 had.2 had.3 live had.5))
      so

  pub splits : (id : ℕ) (v : View T) → 0 < v.live → Splits Rule id v (one_part v) (other_parts v)
  splits id v live s r here = let w : View T = one_part v in let o : View T = other_parts v in let vs : List (View T) = set s.views id w in let f = r.each id v here in record {
    wide = r.wide;
    long = r.long;
    few = r.few;
    jobs_ready = r.jobs_ready;
    stand = λ i z at. ⊎_elim (λ waits. inl waits)
        (λ was. inr (
          was.0,
          ⊎_elim (λ home. inl home)
              (λ out. let still = out_same s.views id v w i z here refl out in inr (still.0, still.1, at_longer vs (o ∷ []) still.0 still.1 still.2, still.3)) was.1,
        ))
        (r.stand i z at);
    drawn = λ n. omega (arith, total_append (λ (u : View T). times n u.drawn) vs (o ∷ []), total_set (λ (u : View T). times n u.drawn) s.views id v w here, r.drawn n);
    claims = let a = total_append (λ (u : View T). u.ended) vs (o ∷ []) in let t = total_set (λ (u : View T). u.ended) s.views id v w here in let c = r.claims in omega arith;
    parts = omega (
      arith,
      total_append (λ (u : View T). u.live) vs (o ∷ []),
      total_append (λ (u : View T). u.ended) vs (o ∷ []),
      total_set (λ (u : View T). u.live) s.views id v w here,
      total_set (λ (u : View T). u.ended) s.views id v w here,
      r.parts,
      live,
    );
    each = λ j u at. ⊎_elim
        (λ old. each_set (Fits jobs (word s)) s.views id w record { drew = f.drew; over = f.over; idle = λ a b. absurd (omega arith) } (λ i b _ e. r.each i b e) j u old)
        (λ new. subst (Fits jobs (word s)) new record { drew = λ i z is. absurd (cc); over = λ some_of. absurd (omega arith); idle = λ _ _. refl })
        (at_snoc vs o u j at);
  }

  pub joins : (id : ℕ) (v : View T) (other : ℕ) (u : View T) → v.taken ≡ None → u.taken ≡ None → Joins Rule id v other u (joined v u) spent
  joins id v other u free_v free_u s r here apart there_now = let w : View T = joined v u in let vs : List (View T) = set s.views id w in
      let there_before : get_elem? s.views other ≡ some u = sym (set_else s.views id other w apart) ∙ there_now in let f = r.each id v here in let g = r.each other u there_before in record {
        wide = r.wide;
        long = r.long;
        few = r.few;
        jobs_ready = r.jobs_ready;
        stand = λ i z at. ⊎_elim (λ waits. inl waits)
            (λ was. inr (
              was.0,
              ⊎_elim (λ home. inl home)
                  (λ out. inr (out_else vs other u spent i z there_now (λ is. none_taken u i z free_u is) (out_same s.views id v w i z here refl out))) was.1,
            ))
            (r.stand i z at);
        drawn = λ n. omega (arith, total_set (λ (x : View T). times n x.drawn) vs other u spent there_now, total_set (λ (x : View T). times n x.drawn) s.views id v w here, r.drawn n, times_append n v.drawn u.drawn);
        claims = let a = total_set (λ (x : View T). x.ended) vs other u spent there_now in let t = total_set (λ (x : View T). x.ended) s.views id v w here in let c = r.claims in omega arith;
        parts = omega (
          arith,
          total_set (λ (x : View T). x.live) vs other u spent there_now,
          total_set (λ (x : View T). x.live) s.views id v w here,
          total_set (λ (x : View T). x.ended) vs other u spent there_now,
          total_set (λ (x : View T). x.ended) s.views id v w here,
          r.parts,
        );
        each = each_set (Fits jobs (word s)) vs other spent record { drew = λ i z is. absurd (cc); over = λ some_of. absurd (omega arith); idle = λ _ _. refl }
            (λ j x _ at. each_set (Fits jobs (word s)) s.views id w
            record {
              drew = λ i z is. absurd (none_taken v i z free_v is);
              over = λ some_of. dite (ℕ_discrete v.ended 0) (λ e. g.over (omega arith)) (λ ne. f.over (omega arith));
              idle = λ _ _. free_v;
            }
            (λ i y _ e. r.each i y e) j x at);
      }

  opens_seat : (j : ℕ) (v : View T) → get_elem? (opened {T = T} ∷ []) j ≡ some v → Fits jobs 0 v
  opens_seat zero v e = subst (Fits jobs 0) (some-injective opened v e) record { drew = λ i z is. absurd (cc); over = λ some_of. absurd (omega arith); idle = λ _ _. refl }
  opens_seat (suc j) v e = absurd (some-ne-none v (sym e))

  pub opens : length jobs ≤ 2 ^ 32 → AreReadyJobs ready jobs → Rule (opening (0 ∷ []) jobs opened)
  opens few are_ready = record {
    wide = refl;
    long = length_map some jobs;
    few = few;
    jobs_ready = are_ready;
    stand = λ i z at. inl (omega arith, at_map some jobs i (Some z) at);
    drawn = λ n. omega arith;
    claims = omega arith;
    parts = omega arith;
    each = opens_seat;
  }

  pub closes : (id : ℕ) (v : View T) (words : List ℕ) (slots : List (Option T)) → v.taken ≡ None → v.live + v.ended ≡ 16 → 0 < v.ended → Final (WithView Rule id v) words slots → AreDone done jobs slots
  closes id v words slots free all ended final = let s : St = final.0 in let r : Rule s = final.1.0 in let here : get_elem? s.views id ≡ some v = final.1.1 in
      let over = (r.each id v here).over ended in
      let others : (j : ℕ) (u : View T) → j ≢ id → get_elem? s.views j ≡ some u → u.taken ≡ None = λ j u ne at.
      (let lives = two_of_total (λ (x : View T). x.live) s.views id j v u ne here at in let ends = two_of_total (λ (x : View T). x.ended) s.views id j v u ne here at in let parts = r.parts in
      (r.each j u at).idle (omega arith) (omega arith)) in (
        sym final.3 ∙ r.long,
        λ k x at. let short = inside jobs k (Some x) at in ⊎_elim
            (λ waits. let le = waits.0 in absurd (omega arith))
            (λ was. ⊎_elim
            (λ home. (home.0, final.4 k (Some home.0) home.1, home.2))
            (λ out. dite (ℕ_discrete out.0 id)
            (λ same. absurd (none_taken v k x free (ap (λ (z : View T). z.taken) (some-injective v out.1 (sym here ∙ (ap (get_elem? s.views) (sym same) ∙ out.2))) ∙ out.3)))
            (λ ne. absurd (none_taken out.1 k x (others out.0 out.1 ne out.2) out.3)))
            was.1)
            (r.stand k x at),
      )

module _ {T : Type 0} where
  abbrev value_or : T → List (ℕ × Option T) → T
  value_or d [] = d
  value_or d (t ∷ ts) = unwrap_or t.1 d

  -- what was taken out of the slot is the job that the seat has
  pub same_held : (k : ℕ) (x y : T) (c others : List (ℕ × Option T)) (o : Option T) → c ≡ (k, Some x) ∷ [] → c ≡ (k, o) ∷ others → o ≡ Some y → x ≡ y
  same_held k x y c others o has found is = ap (value_or x) (sym has ∙ found) ∙ ap (λ (p : Option T). unwrap_or p x) is

  -- how often a seat may claim a job yet, with the job that it has
  abbrev pub claims_left : ℕ → Option (ℕ × T) → ℕ
  claims_left count None = count + 1
  claims_left count (Some t) = count - t.0
