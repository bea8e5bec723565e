-- Which part of its row a node that comes up does, and the state of its disks afterwards.
use Rattle.std.proofs.Common.{◌≡◌, ◌↔◌, ◌∙◌, ap, sym, subst, refl, ℕ, Bool, true, false, not, ◌&&◌, ◌||◌, cond, [], Option, Some, None}
use Rattle.std.specs.Prelude.{IfOk, IfSome, IsSome, OnErr, is_some, if◌then◌else◌, Result, Ok, Err}
use Rattle.rs_disk.specs.State.{State}
use Rattle.rs_optime.specs.declared.optime.OpTime.{OpTime}
use Rattle.oplog_entry.specs.Docs.{docs}
use Rattle.record_file.specs.declared.error.FileError.{FileError}
use Rattle.record_file.specs.declared.error.FileError.TheVariants.{Disk, Memory}
use Rattle.repl_msg.specs.Kept.{kept}
use Rattle.repl_msg.specs.declared.record.Record.TheVariants as records
use Rattle.set_model.specs.declared.command.Command.TheVariants.{Restart}
use Rattle.set_model.specs.declared.reply.Refusal.TheVariants.{DiskFailed, NotDown}
use Rattle.set_model.specs.declared.reply.Reply.TheVariants as reply
use Rattle.set_model.specs.declared.store.Store.{Store}
use Rattle.set_model.specs.declared.store.Store.TheVariants as stores
use Rattle.set_model.specs.Disk.{came_back, has_more, recovered, restart, settled_doubt}
use Rattle.set_model.specs.Limits.{is_in_doubt, is_restart, passes_first}
use Rattle.set_model.specs.Node.{Node}
use Rattle.set_model.specs.Outcome.{refused}
use Rattle.set_model.specs.Rollback.{cut_record}
use Rattle.set_model.specs.Rows.{row}
use Rattle.set_model.specs.Stores.{Plan, finished, storing, done as comes_to, reaches, in_doubt, stored}
use Rattle.node_core.specs.Acting.{Acted, AreReopened, Follows, IsFinished, IsThere, RunsWithoutOrders, Unchanged}
use Rattle.node_core.specs.Coming.{IsPrepared, cut_node, cut_point}
use Rattle.node_core.specs.Down.{DownState, down_node, seen_node}
use Rattle.node_core.specs.Opening.{ReopensInTurn}
use Rattle.node_core.specs.Putting.{IsKeepable, Puts}
use Rattle.node_core.specs.OnDisks.{IsOnDisks, IsWellKeptWith, UpOnDisks}
use Rattle.node_core.specs.Stands.{Stands}
use Rattle.node_core.specs.declared.coming_up.Prepared.{Prepared}
use Rattle.node_core.specs.declared.done.Done.{Done}
use Rattle.node_core.proofs.ActingLemmas.{answered_follows, answered_runs, first_not, resting_stands}
use Rattle.node_core.proofs.ComingLemmas.{ComesWith, comes_with}
use Rattle.node_core.proofs.PuttingLemmas.{rests_same, same_none}
use Rattle.node_state.specs.WellKept.{IsWellKept}

-- ---- it is up

recovers : (node : Node) → comes_to (recovered node) None ≡ came_back (cut_node (cut_point (kept node.records)) node)
recovers node =
    elim (has_more (kept node.records)) as (λ b. comes_to (if b then storing (in_doubt node (cut_record (kept node.records).point)) (finished (came_back (stored node (cut_record (kept node.records).point)))) else finished (came_back node)) None
    ≡ came_back (cut_node (if b then Some (kept node.records).point else None) node)) [ true ↦ refl | false ↦ refl ]

module _ (node : Node) (prepared : Prepared) (is : IsPrepared node prepared) where
  pub up_follows : (broken new : Node) (done : Done) → new ≡ prepared.state.node → done.reply ≡ reply.Up prepared.last → done.sent.items ≡ [] → done.failed ≡ None
      → Follows (storing broken (recovered node)) new done
  up_follows broken new done new_is answer sent failed = record {
    outcome = ap (λ (f : Option ℕ). comes_to (storing broken (recovered node)) f) failed
        ∙ recovers node
        ∙ ap (λ (cut : Option OpTime). came_back (cut_node cut node)) (sym is.cut)
        ∙ (λ i. record { reply = (ap (λ (o : OpTime). reply.Up o) (sym is.last) ∙ sym answer) i; node = (sym is.state ∙ sym new_is) i; sent = sym sent i });
    reached = ap (λ (f : Option ℕ). reaches (storing broken (recovered node)) f) failed;
  }

  pub up_rests : (new : Node) (count : ℕ) (j c : State) → new ≡ prepared.state.node → UpOnDisks (cut_node prepared.cut node) count j c → UpOnDisks new count j c
  up_rests new count j c new_is rests =
      rests_same (cut_node prepared.cut node) new count j c (ap (λ (n : Node). n.records) (new_is ∙ is.state)) (ap (λ (n : Node). n.stable) (new_is ∙ is.state)) rests

-- ---- a cut

module _ (node : Node) (at : OpTime) (is : Some at ≡ cut_point (kept node.records)) (well : IsWellKept node.records node.stable) where
  with_it : ComesWith node.records node.stable (Some at)
  with_it = subst (λ (cut : Option OpTime). ComesWith node.records node.stable cut) (sym is) (comes_with node.records node.stable well)

  pub can_cut : IsKeepable node (records.Cut at)
  can_cut = record { bounds = tt; same = λ i. record { at = node.stable; documents = docs (with_it.same i) } }

  pub cut_well : IsWellKeptWith node (stores.Record (records.Cut at))
  cut_well = (with_it.well, with_it.same)

  recovered_cut : recovered node ≡ storing (in_doubt node (cut_record at)) (finished (came_back (stored node (cut_record at))))
  recovered_cut = go (has_more (kept node.records)) is
    where
      go : (b : Bool) → Some at ≡ cond b (Some (kept node.records).point) None
          → cond b (storing (in_doubt node (cut_record (kept node.records).point)) (finished (came_back (stored node (cut_record (kept node.records).point))))) (finished (came_back node))
          ≡ storing (in_doubt node (cut_record at)) (finished (came_back (stored node (cut_record at))))
      go true same =
          let point : (kept node.records).point ≡ at = cc in
          ap (λ (o : OpTime). storing (in_doubt node (cut_record o)) (finished (came_back (stored node (cut_record o))))) point
      go false same = absurd (cc same)

  -- it failed
  pub cut_follows : (broken : Node) (done : Done) → done.reply ≡ reply.Refused DiskFailed → done.sent.items ≡ [] → done.failed ≡ Some 1
      → Follows (storing broken (recovered node)) (in_doubt node (cut_record at)) done
  cut_follows broken done answer sent failed = record {
    outcome = ap (λ (f : Option ℕ). comes_to (storing broken (recovered node)) f) failed
        ∙ ap (λ (p : Plan). comes_to (storing broken p) (Some 1)) recovered_cut
        ∙ (λ i. record { reply = sym answer i; node = in_doubt node (cut_record at); sent = sym sent i });
    reached = ap (λ (f : Option ℕ). reaches (storing broken (recovered node)) f) failed
        ∙ ap (λ (p : Plan). reaches (storing broken p) (Some 1)) recovered_cut;
  }

-- with the cut
pub cut_up : (node : Node) (prepared : Prepared) (at : OpTime) (up : Bool) (new : Node) (left : DownState) (count : ℕ) (j c : State) → IsPrepared node prepared → prepared.cut ≡ Some at → up ≡ true
    → new ≡ prepared.state.node → UpOnDisks (stored node (stores.Record (records.Cut at))) count j c → IsOnDisks up new left count j c
cut_up node prepared at up new left count j c is cut_is up_is new_is rests =
    subst (λ (b : Bool). IsOnDisks b new left count j c) (sym up_is)
    (up_rests node prepared is new count j c new_is
    (subst (λ (o : Option OpTime). UpOnDisks (cut_node o node) count j c) (sym cut_is)
    (rests_same (stored node (stores.Record (records.Cut at))) (cut_node (Some at) node) count j c refl refl rests)))

-- whether it is there is in doubt
abbrev pub failed_by : FileError → Result (Unit {0}) FileError
failed_by error = Err error

stands_doubted : (node : Node) (item : Store) (error : FileError) (count : ℕ) (j c : State) → (failed_by error ≡ Err Memory → ⊥) → Puts (failed_by error) node item count j c → Stands (in_doubt node item) j c
stands_doubted node item Disk count j c whole puts = puts.broken refl
stands_doubted node item Memory count j c whole puts = absurd (whole refl)

module _ (up : Bool) (memory : Node) (left doubting : DownState) (at : OpTime) (down : up ≡ false) (doubt : doubting ≡ record left { doubt = Some (stores.Record (records.Cut at)) })
    (is : Some at ≡ cut_point (kept left.records)) (well : IsWellKept left.records left.stable) where
  pub doubted_follows : (broken : Node) (done : Done) → done.reply ≡ reply.Refused DiskFailed → done.sent.items ≡ [] → done.failed ≡ Some 1
      → Follows (storing broken (recovered (down_node memory left))) (seen_node up memory doubting) done
  doubted_follows broken done answer sent failed =
      let same : in_doubt (down_node memory left) (cut_record at) ≡ seen_node up memory doubting = λ i. seen_node (sym down i) memory (sym doubt i) in
      subst (λ (n : Node). Follows (storing broken (recovered (down_node memory left))) n done) same
      (cut_follows (down_node memory left) at is well broken done answer sent failed)

  pub doubted_lies : (error : FileError) (count : ℕ) (j c : State) → (failed_by error ≡ Err Memory → ⊥)
      → Puts (failed_by error) (down_node memory left) (stores.Record (records.Cut at)) count j c → IsOnDisks up memory doubting count j c
  doubted_lies error count j c whole puts =
      subst (λ (k : Bool × DownState). IsOnDisks k.0 memory k.1 count j c) (λ i. (sym down i, sym doubt i)) (record {
        counted = puts.uncounted;
        stands = stands_doubted (down_node memory left) (stores.Record (records.Cut at)) error count j c whole puts;
        well = well;
        doubtful = cut_well (down_node memory left) at is well;
      })

-- ---- the row

pub acted_restart : (nodes next number : ℕ) (old new : Node) (j j' c c' : State) (done : Done) → old.up ≡ false → Follows (restart old done.kept) new done
    → (done.kept ≡ true → IsSome old.doubt × (passes_first done.failed ≡ true)) → Stands new j' c' → RunsWithoutOrders (IsSome done.failed) j j' c c'
    → (done.failed ≡ Some 0 → ReopensInTurn {T = Unit {0}} (Err Disk) j j' c c')
    → (passes_first done.failed ≡ true → IfSome old.doubt (λ item. done.kept ≡ true ↔ IsThere old item j c))
    → Acted (row nodes next done.kept old (Restart number)) (Restart number) old new j j' c c' done
acted_restart nodes next number old new j j' c c' done down follows settles stands runs opening found = record {
  follows = follows;
  settles = may_settle done.kept settles;
  stands = stands;
  disks = record {
    acted = record {
      fails = runs.fails;
      journal_armed = λ _. runs.journal_armed;
      checkpoints_armed = λ _. runs.checkpoints_armed;
      journal_orders = runs.journal_orders;
      checkpoints_orders = runs.checkpoints_orders;
    };
    unstored = λ none. absurd (subst (λ (b : Bool). IsFinished (if b then finished (refused NotDown old) else storing old (recovered (settled_doubt old old.doubt done.kept)))) down none);
    opening = λ _. opening;
    found = λ _. found;
  };
}
  where
    may_settle : (kept : Bool) → (kept ≡ true → IsSome old.doubt × (passes_first done.failed ≡ true))
        → (not kept || (is_restart (Restart number) && passes_first done.failed && is_in_doubt old)) ≡ true
    may_settle false settled = refl
    may_settle true settled =
        let both = settled refl in
        ap (λ (b : Bool). b && is_in_doubt old) both.1 ∙ ap (λ (b : Bool). not b && is_some old.doubt) down ∙ both.0

-- a node that is up refuses
pub acted_not_down : (nodes next number : ℕ) (old : Node) (j c : State) (done : Done) → old.up ≡ true → done.reply ≡ reply.Refused NotDown → done.sent.items ≡ [] → done.failed ≡ None
    → done.kept ≡ false → old.doubt ≡ None → Stands old j c → Acted (row nodes next done.kept old (Restart number)) (Restart number) old old j j c c done
acted_not_down nodes next number old j c done up answer sent failed kept settled stands = record {
  follows = answered_follows (restart old done.kept) old (reply.Refused NotDown) done
      (ap (λ (b : Bool). if b then finished (refused NotDown old) else storing old (recovered (settled_doubt old old.doubt done.kept))) up) answer sent failed;
  settles = ap (λ (k : Bool). not k || (is_restart (Restart number) && passes_first done.failed && is_in_doubt old)) kept;
  stands = stands;
  disks = record {
    acted = record {
      fails = (answered_runs j c done failed).fails;
      journal_armed = λ _ is. is;
      checkpoints_armed = λ _ is. is;
      journal_orders = refl;
      checkpoints_orders = refl;
    };
    unstored = λ _. same_none j c;
    opening = λ _ first. absurd (first_not done.failed failed first);
    found = λ _ _. subst (λ (d : Option Store). IfSome d (λ item. done.kept ≡ true ↔ IsThere old item j c)) (sym settled) tt;
  };
}

module _ (up up' : Bool) (memory memory' : Node) (left left' : DownState) (count' : ℕ) (j j' c c' : State) (down : up ≡ false) where
  -- it was done
  pub acted_come : {E : Type 0} (result : Result Done E)
      → IfOk result (λ done. Follows (restart (down_node memory left) done.kept) (seen_node up' memory' left') done)
      → IfOk result (λ done. done.kept ≡ true → (IsSome left.doubt × (passes_first done.failed ≡ true)))
      → IfOk result (λ done. IsOnDisks up' memory' left' count' j' c')
      → IfOk result (λ done. RunsWithoutOrders (IsSome done.failed) j j' c c')
      → IfOk result (λ done. done.failed ≡ Some 0 → ReopensInTurn {T = Unit {0}} (Err Disk) j j' c c')
      → IfOk result (λ done. passes_first done.failed ≡ true → IfSome left.doubt (λ item. done.kept ≡ true ↔ IsThere (down_node memory left) item j c))
      → (nodes next number : ℕ)
      → IfOk result (λ done. Acted (row nodes next done.kept (seen_node up memory left) (Restart number)) (Restart number) (seen_node up memory left) (seen_node up' memory' left') j j' c c' done)
  acted_come (Err error) follows settles rests runs opening found nodes next number = tt
  acted_come (Ok done) follows settles rests runs opening found nodes next number =
      subst (λ (b : Bool). Acted (row nodes next done.kept (seen_node b memory left) (Restart number)) (Restart number) (seen_node b memory left) (seen_node up' memory' left') j j' c c' done) (sym down)
      (acted_restart nodes next number (down_node memory left) (seen_node up' memory' left') j j' c c' done refl follows settles
      (resting_stands up' memory' left' count' j' c' rests) runs opening found)

  -- memory ran out
  pub unchanged_come : {T E : Type 0} (result : Result T E) → OnErr result (seen_node up' memory' left' ≡ down_node memory left) → OnErr result (IsOnDisks up' memory' left' count' j' c')
      → OnErr result (AreReopened j j' c c') → OnErr result (Unchanged AreReopened (seen_node up memory left) (seen_node up' memory' left') j j' c c')
  unchanged_come (Ok value) same rests reopened = tt
  unchanged_come (Err error) same rests reopened = record {
    node = same ∙ (λ i. seen_node (sym down i) memory left);
    stands = resting_stands up' memory' left' count' j' c' rests;
    disks = reopened;
  }

-- it was up
pub acted_up : (up : Bool) (memory : Node) (left : DownState) (count : ℕ) (j c : State) (done : Done) → up ≡ true → memory.up ≡ true → memory.doubt ≡ None → IsOnDisks up memory left count j c
    → done.reply ≡ reply.Refused NotDown → done.sent.items ≡ [] → done.failed ≡ None → done.kept ≡ false → (nodes next number : ℕ)
    → Acted (row nodes next done.kept (seen_node up memory left) (Restart number)) (Restart number) (seen_node up memory left) (seen_node up memory left) j j c c done
acted_up up memory left count j c done is memory_up settled rests answer sent failed kept nodes next number =
    acted_not_down nodes next number (seen_node up memory left) j c done (ap (λ (b : Bool). (seen_node b memory left).up) is ∙ memory_up) answer sent failed kept
    (ap (λ (b : Bool). (seen_node b memory left).doubt) is ∙ settled)
    (resting_stands up memory left count j c rests)
