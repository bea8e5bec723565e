-- How a history goes on: a server changes, by one step or by several.
use Rattle.std.proofs.Common.{◌≡◌, ◌∙◌, inr, ap, sym, subst, refl, ℕ, zero, suc, List, [], ◌∷◌, ◌++◌, append_assoc, append-nil}
use Rattle.rs_optime.specs.Later.{earlier_of}
use Rattle.rs_optime.specs.declared.optime.OpTime.{OpTime}
use Rattle.oplog_entry.specs.Visible.{last_of}
use Rattle.oplog_entry.specs.declared.entry.Entry.{Entry}
use Rattle.commit_machine.specs.Words.{Rises}
use Rattle.published_laws.specs.Histories.{Had, History, Steps, Turned, followed}
use Rattle.published_laws.proofs.Logs.{earlier_twice, last_before}

module _ (S Server R : Type 0) (server : S → ℕ → Server) (rest : S → R) where
  -- from a history to a longer one, in which one server is otherwise
  pub record Leads (old next : History S) (n : ℕ) (it : Server) : Type 0 where
    pub changed : server next.now n ≡ it
    pub others : (m : ℕ) → (m ≡ n → ⊥) → server next.now m ≡ server old.now m
    pub same : rest next.now ≡ rest old.now
    pub had : (v : ℕ) (x : Server) → Had server old v x → Had server next v x
    pub turned : (v : ℕ) (x y : Server) → Turned server old v x y → Turned server next v x y

  pub stays : (history : History S) (n : ℕ) (it : Server) → server history.now n ≡ it → Leads history history n it
  stays history n it is = record {
    changed = is;
    others = λ m other. refl;
    same = refl;
    had = λ v x had. had;
    turned = λ v x y turned. turned;
  }

  pub one_step : (history : History S) (new : S) (n : ℕ) (it : Server) → server new n ≡ it → ((m : ℕ) → (m ≡ n → ⊥) → server new m ≡ server history.now m) → rest new ≡ rest history.now
      → Leads history (followed history new) n it
  one_step history new n it is others same = record {
    changed = is;
    others = others;
    same = same;
    had = λ v x had. inr had;
    turned = λ v x y turned. inr turned;
  }

  pub both : (one two three : History S) (n : ℕ) (x y : Server) → Leads one two n x → Leads two three n y → Leads one three n y
  both one two three n x y first second = record {
    changed = second.changed;
    others = λ m other. second.others m other ∙ first.others m other;
    same = second.same ∙ first.same;
    had = λ v z had. second.had v z (first.had v z had);
    turned = λ v z w turned. second.turned v z w (first.turned v z w turned);
  }

  -- ---- several steps

  module _ (Next : History S → S → Type 0) where
    -- a number of steps from one history lead to another, in which the server is so
    abbrev pub Comes : History S → ℕ → Server → Type 0
    Comes old n it = (next : History S) × (count : ℕ) × Steps Next count old next × Leads old next n it

    pub one_more : (count : ℕ) (old between : History S) (new : S) → Steps Next count old between → Next between new → Steps Next (suc count) old (followed between new)
    one_more zero old between new steps next = (new, subst (λ h. Next h new) steps next, ap (λ h. followed h new) steps)
    one_more (suc count) old between new steps next = (steps.0, steps.1, one_more count (followed old steps.0) between new steps.2 next)

    -- one step does it
    abbrev pub Does : History S → ℕ → Server → Type 0
    Does old n it = (new : S) × Next old new × Leads old (followed old new) n it

    pub once : (old : History S) (n : ℕ) (it : Server) → Does old n it → Comes old n it
    once old n it does = (followed old does.0, 1, (does.0, does.1, refl), does.2)

    -- a server takes entries that another log has after its own
    module _ (n : ℕ) (source : ℕ) (seen : Server) (seen_log : List Entry) (it : List Entry → Server)
        (takes : (history : History S) (log : List Entry) (entry : Entry) (more : List Entry) → server history.now n ≡ it log → Had server history source seen → seen_log ≡ log ++ entry ∷ more
        → Does history n (it (log ++ entry ∷ []))) where
      pub takes_all : (taken : List Entry) (history : History S) (log more : List Entry) → server history.now n ≡ it log → Had server history source seen → seen_log ≡ log ++ (taken ++ more)
          → Comes history n (it (log ++ taken))
      takes_all [] history log more is had whole = (history, 0, refl, stays history n (it (log ++ [])) (is ∙ ap it (sym (append-nil log))))
      takes_all (entry ∷ taken) history log more is had whole =
          let first : Does history n (it (log ++ entry ∷ [])) = takes history log entry (taken ++ more) is had whole in
          let grown : log ++ entry ∷ (taken ++ more) ≡ (log ++ entry ∷ []) ++ (taken ++ more) = sym (append_assoc log (entry ∷ []) (taken ++ more)) in
          let onward : Comes (followed history first.0) n (it ((log ++ entry ∷ []) ++ taken)) =
          takes_all taken (followed history first.0) (log ++ entry ∷ []) more first.2.changed (inr had) (whole ∙ grown) in (
            onward.0,
            suc onward.1,
            (first.0, first.1, onward.2),
            subst (λ (l : List Entry). Leads history onward.0 n (it l)) (append_assoc log (entry ∷ []) taken)
                (both history (followed history first.0) onward.0 n (it (log ++ entry ∷ [])) (it ((log ++ entry ∷ []) ++ taken)) first.2 onward.3),
          )

    -- how far a log is durable from which entries were removed
    abbrev pub durable_left : OpTime → List Entry → List Entry → OpTime
    durable_left durable front [] = durable
    durable_left durable front (entry ∷ removed) = earlier_of durable (last_of front)

    -- a server removes entries from the end of its log, each of which may be
    module _ (n : ℕ) (source : ℕ) (seen : Server) (whole : List Entry) (rises : Rises whole) (it : List Entry → OpTime → Server) (IsOut : Entry → Type 0)
        (removes : (history : History S) (front : List Entry) (entry : Entry) (removed : List Entry) (durable : OpTime) → server history.now n ≡ it (front ++ entry ∷ []) durable → Had server history source seen
        → whole ≡ front ++ entry ∷ removed → IsOut entry → Does history n (it front (earlier_of durable (last_of front)))) where
      abbrev pub AreOut : List Entry → Type 0
      AreOut [] = Unit {0}
      AreOut (entry ∷ removed) = IsOut entry × AreOut removed

      -- the last one, where those after it are removed
      module _ (history : History S) (front removed : List Entry) (entry : Entry) (durable : OpTime) (had : Had server history source seen) (whole_is : whole ≡ front ++ entry ∷ removed) (out : IsOut entry)
          (first : Comes history n (it (front ++ entry ∷ []) (durable_left durable (front ++ entry ∷ []) removed))) where
        second : Does first.0 n (it front (earlier_of (durable_left durable (front ++ entry ∷ []) removed) (last_of front)))
        second = removes first.0 front entry removed (durable_left durable (front ++ entry ∷ []) removed) first.3.changed (first.3.had source seen had) whole_is out

        same : (more : List Entry) → earlier_of (durable_left durable (front ++ entry ∷ []) more) (last_of front) ≡ earlier_of durable (last_of front)
        same [] = refl
        same (other ∷ more) = earlier_twice durable (last_of (front ++ entry ∷ [])) (last_of front) (last_before front entry removed (subst (λ (l : List Entry). Rises l) whole_is rises))

        one_less : Comes history n (it front (earlier_of durable (last_of front)))
        one_less = (
          followed first.0 second.0,
          suc first.1,
          one_more first.1 history first.0 second.0 first.2 second.1,
          subst (λ (d : OpTime). Leads history (followed first.0 second.0) n (it front d)) (same removed)
              (both history first.0 (followed first.0 second.0) n (it (front ++ entry ∷ []) (durable_left durable (front ++ entry ∷ []) removed))
              (it front (earlier_of (durable_left durable (front ++ entry ∷ []) removed) (last_of front))) first.3 second.2),
        )

      pub removes_all : (removed : List Entry) (history : History S) (front : List Entry) (durable : OpTime) → server history.now n ≡ it (front ++ removed) durable → Had server history source seen
          → whole ≡ front ++ removed → AreOut removed → Comes history n (it front (durable_left durable front removed))
      removes_all [] history front durable is had whole_is out = (history, 0, refl, stays history n (it front durable) (is ∙ ap (λ l. it l durable) (append-nil front)))
      removes_all (entry ∷ removed) history front durable is had whole_is out =
          let grown : front ++ entry ∷ removed ≡ (front ++ entry ∷ []) ++ removed = sym (append_assoc front (entry ∷ []) removed) in
          one_less history front removed entry durable had whole_is out.0
          (removes_all removed history (front ++ entry ∷ []) durable (is ∙ ap (λ l. it l durable) grown) had (whole_is ∙ grown) out.1)
