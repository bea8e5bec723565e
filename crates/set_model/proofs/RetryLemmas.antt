-- The outcomes of what only a primary does, and of a retry: it is refused, it was written before, or it
-- is written now.
use Rattle.std.proofs.Common.{◌≡◌, ◌∙◌, ap, arith, ℕ, Bool, true, false, cond, nat_lt, eqb-true, eq-eqb, ltb-false, Option, None, Some, refl}
use Rattle.std.specs.Prelude.{◌==◌, ◌≤◌}
use Rattle.doc_update.specs.declared.write.WriteOp.{WriteOp}
use Rattle.oplog_entry.specs.declared.entry.Session.{Session}
use Rattle.set_model.specs.declared.reply.Refusal.{Refusal}
use Rattle.set_model.specs.declared.reply.Refusal.TheVariants.{NotPrimary, OldNumber}
use Rattle.set_model.specs.declared.reply.Reply.TheVariants as reply
use Rattle.set_model.specs.declared.role.Role.{Role}
use Rattle.set_model.specs.declared.role.Role.TheVariants as roles
use Rattle.set_model.specs.Node.{Node}
use Rattle.set_model.specs.Outcome.{Outcome, replied, refused}
use Rattle.set_model.specs.Points.{if_primary}
use Rattle.set_model.specs.Roles.{is_primary}
use Rattle.set_model.specs.Sessions.{LastWrite, is_past, last_write}
use Rattle.set_model.specs.Write.{write_in, retried, retry}

pub primary_cases : (P : Outcome → Type 0) (node : Node) (outcome : Outcome) → P (refused NotPrimary node) → (is_primary node.role ≡ true → P outcome)
    → P (if_primary node.role outcome (refused NotPrimary node))
primary_cases P node outcome denied goes = go node.role refl
  where
    go : (role : Role) → node.role ≡ role → P (if_primary role outcome (refused NotPrimary node))
    go roles.Primary is = goes (ap is_primary is)
    go roles.Secondary is = denied
    go roles.Candidate is = denied
    go roles.Draining is = denied

-- a number that is neither lower nor the same is past the last one
higher : (number last : ℕ) → nat_lt number last ≡ false → (last == number) ≡ false → nat_lt last number ≡ true
higher number last not_lower other = go (nat_lt last number) refl
  where
    go : (b : Bool) → nat_lt last number ≡ b → nat_lt last number ≡ true
    go true is = is
    go false is =
        let one : last ≤ number = ltb-false number last not_lower in
        let two : number ≤ last = ltb-false last number is in
        let same : last ≡ number = omega (arith, one, two) in
        absurd (cc (other, eq-eqb last number same))

pub retry_cases : (P : Outcome → Type 0) (node : Node) (session : Session) (op : WriteOp)
    → ((why : Refusal) → P (refused why node))
    → ((last : LastWrite) → last_write session.id node.log ≡ Some last → last.number ≡ session.number → P (replied (reply.Written last.at) node))
    → (is_primary node.role ≡ true → is_past (last_write session.id node.log) session.number ≡ true → P (write_in node (Some session) op))
    → P (retry node session op)
retry_cases P node session op denied found new = primary_cases P node _ (denied NotPrimary) (λ primary. by_last primary (last_write session.id node.log) refl)
  where
    by_last : is_primary node.role ≡ true → (last : Option LastWrite) → last_write session.id node.log ≡ last → P (retried node session op last)
    by_last primary None is = new primary (ap (λ l. is_past l session.number) is)
    by_last primary (Some last) is = by_number (nat_lt session.number last.number) refl (last.number == session.number) refl
      where
        by_number : (old : Bool) → nat_lt session.number last.number ≡ old → (same : Bool) → (last.number == session.number) ≡ same
            → P (cond old (refused (OldNumber last.number) node) (cond same (replied (reply.Written last.at) node) (write_in node (Some session) op)))
        by_number true is_old same is_same = denied (OldNumber last.number)
        by_number false is_old true is_same = found last is (eqb-true last.number session.number is_same)
        by_number false is_old false is_same = new primary (ap (λ l. is_past l session.number) is ∙ higher session.number last.number is_old is_same)
