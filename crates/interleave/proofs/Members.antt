-- The threads of a `System`, seen as the members of a run.
use Rattle.std.proofs.Common.{◌≡◌, ℕ, true, List, [], Option, Some, None, sym, ap, subst, ◌∙◌}
use Rattle.std.specs.Prelude.{option_map, IfSome}
use Rattle.std.specs.Ordering.{nat_cmp}
use Rattle.std.specs.Map.{lookup, set_value}
use Rattle.std.specs.BTreeMap.{is_at, insert_entry}
use Rattle.std.proofs.lemmas.Map.Steps.{set_value_same}
use Rattle.actions.specs.declared.action.Action.{Action}
use Rattle.actions.specs.declared.action.Answer.{Answer}
use Rattle.actions.specs.declared.action.Answer.TheVariants as answer
use Rattle.actions.specs.declared.action.Next.{Next}
use Rattle.actions.specs.declared.action.Next.TheVariants.{Act, Ended, Blocked, Broken}
use Rattle.actions.specs.Behaviour.{Thread, Program, accepts, CanStart}
use Rattle.interleave.specs.declared.counts.Counts.{Counts}
use Rattle.interleave.specs.declared.runner.Runner.{Runner}
use Rattle.interleave.specs.World.{Member, member_at, with_told, child}
use Rattle.interleave.specs.View.{member_of, members_of, next_at, told_as, told_at, started_at, AcceptsAt, CreatesAt, IsCreate}
use Rattle.interleave.proofs.Entries.{lookup-seen, seen-set_value, seen-insert_entry}

module _ {M : Type 0} (thread : M → Thread) (es : List (ℕ × Runner M)) (t : ℕ) where
  pub member_none : lookup (is_at (nat_cmp t)) es ≡ None → member_at (members_of thread es) t ≡ None
  member_none h = lookup-seen (member_of thread) (is_at (nat_cmp t)) es ∙ ap (λ o. option_map (member_of thread) o) h

  pub member_some : (r : Runner M) → lookup (is_at (nat_cmp t)) es ≡ Some r → member_at (members_of thread es) t ≡ Some (member_of thread r)
  member_some r h = lookup-seen (member_of thread) (is_at (nat_cmp t)) es ∙ ap (λ o. option_map (member_of thread) o) h

  pub next_none : lookup (is_at (nat_cmp t)) es ≡ None → next_at (members_of thread es) t ≡ None
  next_none h = ap (λ o. option_map (λ (m : Member). m.thread.behaves []) o) (member_none h)

  pub next_some : (r : Runner M) → lookup (is_at (nat_cmp t)) es ≡ Some r → next_at (members_of thread es) t ≡ Some ((thread r.machine).behaves [])
  next_some r h = ap (λ o. option_map (λ (m : Member). m.thread.behaves []) o) (member_some r h)

  pub set_seen : (r : Runner M) → members_of thread (set_value (is_at (nat_cmp t)) es r) ≡ with_told (members_of thread es) t (member_of thread r)
  set_seen r = seen-set_value (member_of thread) (is_at (nat_cmp t)) es r

  -- what a thread does by itself isn't seen
  pub set_same : (r s : Runner M) → lookup (is_at (nat_cmp t)) es ≡ Some r → member_of thread s ≡ member_of thread r
      → members_of thread (set_value (is_at (nat_cmp t)) es s) ≡ members_of thread es
  set_same r s h e =
      set_seen s ∙ ap (λ m. set_value (is_at (nat_cmp t)) (members_of thread es) m) e
      ∙ set_value_same (is_at (nat_cmp t)) (members_of thread es) (member_of thread r) (member_some r h)

  pub accepts_here : (a : Answer) (r : Runner M) → lookup (is_at (nat_cmp t)) es ≡ Some r → AcceptsAt (members_of thread es) t a → accepts ((thread r.machine).behaves []) a ≡ true
  accepts_here a r h p = subst (λ (o : Option Next). IfSome o (λ n. accepts n a ≡ true)) (next_some r h) p

  pub create_here : (f v : ℕ) (r : Runner M) → lookup (is_at (nat_cmp t)) es ≡ Some r → CreatesAt (members_of thread es) t f v → IsCreate ((thread r.machine).behaves []) f v
  create_here f v r h p = subst (λ (o : Option Next). IfSome o (λ n. IsCreate n f v)) (next_some r h) p

  pub told_none : (a : Answer) (counts : Counts) → lookup (is_at (nat_cmp t)) es ≡ None
      → members_of thread es ≡ told_at (members_of thread es) t a counts (member_at (members_of thread es) t)
  told_none a counts h = sym (ap (λ o. told_at (members_of thread es) t a counts o) (member_none h))

  pub told_some : (a : Answer) (counts : Counts) (r s : Runner M) → lookup (is_at (nat_cmp t)) es ≡ Some r → member_of thread s ≡ told_as (member_of thread r) a counts
      → members_of thread (set_value (is_at (nat_cmp t)) es s) ≡ told_at (members_of thread es) t a counts (member_at (members_of thread es) t)
  told_some a counts r s h e =
      set_seen s ∙ ap (λ m. with_told (members_of thread es) t m) e ∙ sym (ap (λ o. told_at (members_of thread es) t a counts o) (member_some r h))

  pub child_none : (f v : ℕ) → lookup (is_at (nat_cmp t)) es ≡ None → None ≡ option_map (λ (m : Member). child m f v) (member_at (members_of thread es) t)
  child_none f v h = sym (ap (λ o. option_map (λ (m : Member). child m f v) o) (member_none h))

  pub child_some : (f v : ℕ) (r : Runner M) (x : Member) → lookup (is_at (nat_cmp t)) es ≡ Some r → x ≡ child (member_of thread r) f v
      → Some x ≡ option_map (λ (m : Member). child m f v) (member_at (members_of thread es) t)
  child_some f v r x h e = ap (λ m. Some m) e ∙ sym (ap (λ o. option_map (λ (m : Member). child m f v) o) (member_some r h))

-- a thread that creates one in a function may do so
pub can_start : (program : Program) (n : Next) (f v : ℕ) → IsCreate n f v → CanStart program n → program.can_start f ≡ true
can_start program (Act action line function) f v e p = (subst (λ (a : Action). CanStart program (Act a line function)) e p).0
can_start program (Ended w) f v e p = absurd e
can_start program Blocked f v e p = absurd e
can_start program (Broken class line function) f v e p = absurd e

started_by : (members told : List (ℕ × Member)) (t number f v : ℕ) (counts : Counts) (x : Member) (o : Option Member) → Some x ≡ option_map (λ (m : Member). child m f v) o
    → told ≡ told_at members t (answer.Number number) counts o → insert_entry nat_cmp told number x ≡ started_at members t number f v counts o
started_by members told t number f v counts x None e h = absurd (cc e)
started_by members told t number f v counts x (Some m) e h =
    let same : x ≡ child m f v = cc e in
    ap (λ l. insert_entry nat_cmp l number x) h ∙ ap (λ y. insert_entry nat_cmp (with_told members t (told_as m (answer.Number number) counts)) number y) same

pub started_seen : {M : Type 0} (thread : M → Thread) (es : List (ℕ × Runner M)) (members : List (ℕ × Member)) (t number f v : ℕ) (counts : Counts) (r : Runner M) (o : Option Member)
    → Some (member_of thread r) ≡ option_map (λ (m : Member). child m f v) o → members_of thread es ≡ told_at members t (answer.Number number) counts o
    → members_of thread (insert_entry nat_cmp es number r) ≡ started_at members t number f v counts o
started_seen thread es members t number f v counts r o e h =
    seen-insert_entry (member_of thread) nat_cmp es number r ∙ started_by members (members_of thread es) t number f v counts (member_of thread r) o e h
