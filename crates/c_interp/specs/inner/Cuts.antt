-- Where a way out of statements leads is where a statement goes on: its exits. Less work is left there. An activation that is closed can be opened again.
use Rattle.std.specs.Prelude.{◌≡◌, ◌≤◌, ◌+◌, ◌*◌, ◌-◌, ◌==◌, ℕ, zero, suc, Bool, true, false, List, [], ◌∷◌, ◌++◌, length, Option, Some, None, slice_index, slice_get, if◌then◌else◌}
use Rattle.std.proofs.Common.{refl, arith, ap, sym, true≢false, length-append, ◌∙◌}
use Rattle.words.specs.declared.check.Class.TheVariants.{Recursion}
use Rattle.core_tree.specs.Trees.{Items, done, declares, initializes, initializes_structure, does, label, case_at, default_at}
use Rattle.c_values.specs.Variables.{Variables}
use Rattle.c_values.specs.Numbers.{TypedNumber}
use Rattle.actions.specs.Behaviour.{Behaviour}
use Rattle.c_meaning.specs.Meaning.{Running, Given, Exits, Code, passed, body_of, enters, total, opened, activation, exec_items, at_label, at_case, at_default}
use Rattle.c_tasks.specs.Items.{Active, closed, running_of, calls_of, Handed, by_break, by_continue, by_jump, by_return, given_by, values_under, structures_under, blocks_on, Item, goes_on, ends_block, ends_parameters, loops, switches, resumes, State, state, from, exits_of, behaves}
use Rattle.c_interp.specs.Work.{items_work, call_work_of, total_work, weight}
use Rattle.c_tasks.specs.Steps.{behind_label, jumped, out_of, behind_case, behind_default}

-- ---- activations

pub closed_opened : (left : List ℕ) (f : ℕ) → (slice_index left f == 0) ≡ false → closed (opened left f) f ≡ left
closed_opened [] f h = absurd (true≢false h)
closed_opened (zero ∷ left) zero h = absurd (true≢false h)
closed_opened (suc n ∷ left) zero h = let e : suc n - 1 + 1 ≡ suc n = omega arith in λ i. e i ∷ left
closed_opened (n ∷ left) (suc f) h = ap (λ more. n ∷ more) (closed_opened left f h)

pub total_opened : (left : List ℕ) (f : ℕ) → (slice_index left f == 0) ≡ false → total left ≡ suc (total (opened left f))
total_opened [] f h = absurd (true≢false h)
total_opened (zero ∷ left) zero h = absurd (true≢false h)
total_opened (suc n ∷ left) zero h = omega arith
total_opened (n ∷ left) (suc f) h = let e = total_opened left f h in omega (arith, e)

-- fuel that is above what may be opened of all functions together is never used up
module _ (code : Code) where
  more_fuel : (b : Bool) (k : ℕ) (left : List ℕ) (caller f line : ℕ) (blocks : List (List ℕ)) (follows : Given → Behaviour) → (slice_index left f == 0) ≡ b →
      (b ≡ false → activation code k (opened left f) ≡ activation code (total left) (opened left f)) →
      (if b then passed code.assertions Recursion line caller else enters code caller line f (body_of (slice_get code.functions f)) (activation code k (opened left f) f) blocks follows)
      ≡ (if b then passed code.assertions Recursion line caller else enters code caller line f (body_of (slice_get code.functions f)) (activation code (total left) (opened left f) f) blocks follows)
  more_fuel true k left caller f line blocks follows h e = refl
  more_fuel false k left caller f line blocks follows h e = λ i. enters code caller line f (body_of (slice_get code.functions f)) (e refl i f) blocks follows

  pub fuel_enough : (fuel : ℕ) (left : List ℕ) → suc (total left) ≤ fuel → activation code fuel left ≡ activation code (suc (total left)) left
  fuel_enough zero left le = absurd (omega (arith, le))
  fuel_enough (suc k) left le =
      λ i caller f line blocks follows. more_fuel (slice_index left f == 0) k left caller f line blocks follows refl (λ h.
      let t : total left ≡ suc (total (opened left f)) = total_opened left f h in
      fuel_enough k (opened left f) (omega (arith, le, t)) ∙ ap (λ n. activation code n (opened left f)) (sym t)) i

-- ---- exits

module _ (code : Code) (first : Bool) where
  pub break_at : (is : List Item) (r : Active) (xs : List TypedNumber) (bs : List (List ℕ)) (vs : Variables) →
      (let out = exits_of code first is r xs bs in out.breaks vs) ≡ behaves code first (out_of by_break is r xs bs vs)
  break_at [] r xs bs vs = refl
  break_at (ends_block items ∷ is) r xs bs vs = refl
  break_at (ends_parameters count ∷ is) r xs bs vs = refl
  break_at (loops n loop ∷ is) r xs bs vs = refl
  break_at (switches items ∷ is) r xs bs vs = refl
  break_at (resumes want caller saved ∷ is) r xs bs vs = refl
  break_at (_ ∷ is) r xs bs vs = break_at is r xs bs vs

  pub continue_at : (is : List Item) (r : Active) (xs : List TypedNumber) (bs : List (List ℕ)) (vs : Variables) →
      (let out = exits_of code first is r xs bs in out.continues vs) ≡ behaves code first (out_of by_continue is r xs bs vs)
  continue_at [] r xs bs vs = refl
  continue_at (ends_block items ∷ is) r xs bs vs = refl
  continue_at (ends_parameters count ∷ is) r xs bs vs = refl
  continue_at (loops n loop ∷ is) r xs bs vs = refl
  continue_at (switches items ∷ is) r xs bs vs = refl
  continue_at (resumes want caller saved ∷ is) r xs bs vs = refl
  continue_at (_ ∷ is) r xs bs vs = continue_at is r xs bs vs

  module _ (n : ℕ) (is : List Item) (r : Active) (xs : List TypedNumber) (bs : List (List ℕ)) (vs : Variables)
      (further : (let out = exits_of code first is r xs bs in out.labels n vs) ≡ behaves code first (out_of (by_jump n) is r xs bs vs)) where
    abbrev behind_it : Option Items → State
    behind_it o = jumped o (out_of (by_jump n) is r xs bs vs) (λ more. state (goes_on more ∷ is) r xs bs vs)

    abbrev LabelAt : Items → Type 0
    LabelAt items =
        at_label (running_of code r) (calls_of code r) items n (exits_of code first is r xs bs) vs (from code first is r xs bs)
        ≡ behaves code first (behind_it (behind_label n items))

    label_here : (b : Bool) (items : Items) → LabelAt items →
        (if b then exec_items (running_of code r) (calls_of code r) items (exits_of code first is r xs bs) vs (from code first is r xs bs)
        else at_label (running_of code r) (calls_of code r) items n (exits_of code first is r xs bs) vs (from code first is r xs bs))
        ≡ behaves code first (behind_it (if b then Some items else behind_label n items))
    label_here true items e = refl
    label_here false items e = e

    label_at : (items : Items) → LabelAt items
    label_at done = further
    label_at (declares line v more) = label_at more
    label_at (initializes line v is_drawn e more) = label_at more
    label_at (initializes_structure line v is_drawn a more) = label_at more
    label_at (does s more) = label_at more
    label_at (label m more) = label_here (m == n) more (label_at more)
    label_at (case_at line t bits more) = label_at more
    label_at (default_at line more) = label_at more

  pub jump_at : (n : ℕ) (is : List Item) (r : Active) (xs : List TypedNumber) (bs : List (List ℕ)) (vs : Variables) →
      (let out = exits_of code first is r xs bs in out.labels n vs) ≡ behaves code first (out_of (by_jump n) is r xs bs vs)
  jump_at n [] r xs bs vs = refl
  jump_at n (ends_block items ∷ is) r xs bs vs = refl
  jump_at n (ends_parameters count ∷ is) r xs bs vs = refl
  jump_at n (goes_on items ∷ is) r xs bs vs = label_at n is r xs bs vs (jump_at n is r xs bs vs) items
  jump_at n (switches items ∷ is) r xs bs vs = refl
  jump_at n (resumes want caller saved ∷ is) r xs bs vs = refl
  jump_at n (_ ∷ is) r xs bs vs = jump_at n is r xs bs vs

  pub return_at : (how : Handed) (is : List Item) (r : Active) (xs : List TypedNumber) (bs : List (List ℕ)) (vs : Variables) →
      (let out = exits_of code first is r (values_under how xs) (structures_under how bs) in out.returns (given_by how xs bs) vs) ≡ behaves code first (out_of (by_return how) is r xs bs vs)
  return_at how [] r xs bs vs = refl
  return_at how (ends_block items ∷ is) r xs bs vs = refl
  return_at how (ends_parameters count ∷ is) r xs bs vs = refl
  return_at how (switches items ∷ is) r xs bs vs = refl
  return_at how (resumes want caller saved ∷ is) r xs bs vs = refl
  return_at how (_ ∷ is) r xs bs vs = return_at how is r xs bs vs

-- ---- cases

module _ (running : Running) (calls : (function line : ℕ) → List (List ℕ) → (Given → Behaviour) → Behaviour) (exits : Exits) (vs : Variables) (follows : Variables → Behaviour) where
  case_here : (x : ℕ) (b : Bool) (items : Items) → at_case running calls items x exits vs follows ≡ exec_items running calls (behind_case x items) exits vs follows →
      (if b then exec_items running calls items exits vs follows else at_case running calls items x exits vs follows) ≡ exec_items running calls (if b then items else behind_case x items) exits vs follows
  case_here x true items e = refl
  case_here x false items e = e

  pub case_is : (x : ℕ) (items : Items) → at_case running calls items x exits vs follows ≡ exec_items running calls (behind_case x items) exits vs follows
  case_is x done = refl
  case_is x (declares line v more) = case_is x more
  case_is x (initializes line v is_drawn e more) = case_is x more
  case_is x (initializes_structure line v is_drawn a more) = case_is x more
  case_is x (does s more) = case_is x more
  case_is x (label m more) = case_is x more
  case_is x (case_at line t bits more) = case_here x (bits == x) more (case_is x more)
  case_is x (default_at line more) = case_is x more

  pub default_is : (items : Items) → at_default running calls items exits vs follows ≡ exec_items running calls (behind_default items) exits vs follows
  default_is done = refl
  default_is (declares line v more) = default_is more
  default_is (initializes line v is_drawn e more) = default_is more
  default_is (initializes_structure line v is_drawn a more) = default_is more
  default_is (does s more) = default_is more
  default_is (label m more) = default_is more
  default_is (case_at line t bits more) = default_is more
  default_is (default_at line more) = refl

-- ---- work

module _ (tests call_work : ℕ → ℕ) where
  fewer : (x : ℕ) (b : Bool) (items : Items) → items_work tests call_work (behind_case x items) ≤ items_work tests call_work items →
      items_work tests call_work (if b then items else behind_case x items) ≤ items_work tests call_work items + 1
  fewer x true items h = omega arith
  fewer x false items h = omega (arith, h)

  pub case_less : (x : ℕ) (items : Items) → items_work tests call_work (behind_case x items) ≤ items_work tests call_work items
  case_less x done = omega arith
  case_less x (declares line v more) = omega (arith, case_less x more)
  case_less x (initializes line v is_drawn e more) = omega (arith, case_less x more)
  case_less x (initializes_structure line v is_drawn a more) = omega (arith, case_less x more)
  case_less x (does s more) = omega (arith, case_less x more)
  case_less x (label m more) = omega (arith, case_less x more)
  case_less x (case_at line t bits more) = fewer x (bits == x) more (case_less x more)
  case_less x (default_at line more) = omega (arith, case_less x more)

  pub default_less : (items : Items) → items_work tests call_work (behind_default items) ≤ items_work tests call_work items
  default_less done = omega arith
  default_less (declares line v more) = omega (arith, default_less more)
  default_less (initializes line v is_drawn e more) = omega (arith, default_less more)
  default_less (initializes_structure line v is_drawn a more) = omega (arith, default_less more)
  default_less (does s more) = omega (arith, default_less more)
  default_less (label m more) = omega (arith, default_less more)
  default_less (case_at line t bits more) = omega (arith, default_less more)
  default_less (default_at line more) = omega arith

module _ (code : Code) where
  pub break_less : (is : List Item) (r : Active) (xs : List TypedNumber) (bs : List (List ℕ)) (vs : Variables) → weight code (out_of by_break is r xs bs vs) ≤ total_work code is r
  break_less [] r xs bs vs = omega arith
  break_less (ends_block items ∷ is) r xs bs vs = omega arith
  break_less (ends_parameters count ∷ is) r xs bs vs = omega arith
  break_less (loops n loop ∷ is) r xs bs vs = omega arith
  break_less (switches items ∷ is) r xs bs vs = omega arith
  break_less (resumes want caller saved ∷ is) r xs bs vs = omega arith
  break_less (_ ∷ is) r xs bs vs = let h = break_less is r xs bs vs in omega (arith, h)

  pub continue_less : (is : List Item) (r : Active) (xs : List TypedNumber) (bs : List (List ℕ)) (vs : Variables) → weight code (out_of by_continue is r xs bs vs) ≤ total_work code is r
  continue_less [] r xs bs vs = omega arith
  continue_less (ends_block items ∷ is) r xs bs vs = omega arith
  continue_less (ends_parameters count ∷ is) r xs bs vs = omega arith
  continue_less (loops n loop ∷ is) r xs bs vs = omega arith
  continue_less (switches items ∷ is) r xs bs vs = omega arith
  continue_less (resumes want caller saved ∷ is) r xs bs vs = omega arith
  continue_less (_ ∷ is) r xs bs vs = let h = continue_less is r xs bs vs in omega (arith, h)

  module _ (n : ℕ) (is : List Item) (further : State) (r : Active) (xs : List TypedNumber) (bs : List (List ℕ)) (vs : Variables) (le : weight code further ≤ total_work code is r) where
    abbrev reached : Option Items → State
    reached o = jumped o further (λ more. state (goes_on more ∷ is) r xs bs vs)

    label_fewer : (b : Bool) (items : Items) →
        weight code (reached (behind_label n items)) ≤ items_work (code.tests r.function) (call_work_of code r) items + total_work code is r →
        weight code (reached (if b then Some items else behind_label n items)) ≤ items_work (code.tests r.function) (call_work_of code r) items + 1 + total_work code is r
    label_fewer true items h = omega arith
    label_fewer false items h = omega (arith, h)

    label_less : (items : Items) → weight code (reached (behind_label n items)) ≤ items_work (code.tests r.function) (call_work_of code r) items + total_work code is r
    label_less done = omega (arith, le)
    label_less (declares line v more) = let h = label_less more in omega (arith, h)
    label_less (initializes line v is_drawn e more) = let h = label_less more in omega (arith, h)
    label_less (initializes_structure line v is_drawn a more) = let h = label_less more in omega (arith, h)
    label_less (does s more) = let h = label_less more in omega (arith, h)
    label_less (label m more) = label_fewer (m == n) more (label_less more)
    label_less (case_at line t bits more) = let h = label_less more in omega (arith, h)
    label_less (default_at line more) = let h = label_less more in omega (arith, h)

  pub jump_less : (n : ℕ) (is : List Item) (r : Active) (xs : List TypedNumber) (bs : List (List ℕ)) (vs : Variables) → weight code (out_of (by_jump n) is r xs bs vs) ≤ total_work code is r
  jump_less n [] r xs bs vs = omega arith
  jump_less n (ends_block items ∷ is) r xs bs vs = omega arith
  jump_less n (ends_parameters count ∷ is) r xs bs vs = omega arith
  jump_less n (goes_on items ∷ is) r xs bs vs = label_less n is (out_of (by_jump n) is r xs bs vs) r xs bs vs (jump_less n is r xs bs vs) items
  jump_less n (switches items ∷ is) r xs bs vs = omega arith
  jump_less n (resumes want caller saved ∷ is) r xs bs vs = omega arith
  jump_less n (_ ∷ is) r xs bs vs = let h = jump_less n is r xs bs vs in omega (arith, h)

  pub return_less : (how : Handed) (is : List Item) (r : Active) (xs : List TypedNumber) (bs : List (List ℕ)) (vs : Variables) → weight code (out_of (by_return how) is r xs bs vs) ≤ total_work code is r
  return_less how [] r xs bs vs = omega arith
  return_less how (ends_block items ∷ is) r xs bs vs = omega arith
  return_less how (ends_parameters count ∷ is) r xs bs vs = omega arith
  return_less how (switches items ∷ is) r xs bs vs = omega arith
  return_less how (resumes want caller saved ∷ is) r xs bs vs = omega arith
  return_less how (_ ∷ is) r xs bs vs = let h = return_less how is r xs bs vs in omega (arith, h)

-- not more structure values are taken than there are
pub blocks_fewer : (count : ℕ) (bs : List (List ℕ)) → length (blocks_on count bs) ≤ count
blocks_fewer zero bs = omega arith
blocks_fewer (suc n) [] = omega arith
blocks_fewer (suc n) (b ∷ bs) = let h = blocks_fewer n bs in let e = length-append (blocks_on n bs) (b ∷ []) in omega (arith, h, e)
