-- A turn whose thread is at an action.
use Rattle.std.proofs.Common.{◌≡◌, ◌<◌, ℕ, ◌^◌, List, [], Option, Some, None, sym, ap, subst, ◌∙◌}
use Rattle.std.specs.Ordering.{nat_cmp}
use Rattle.std.specs.Map.{lookup}
use Rattle.std.specs.BTreeMap.{is_at, insert_entry}
use Rattle.std.proofs.lemmas.Nat.{pow_pos, mod_below}
use Rattle.words.specs.Operators.{low_bits}
use Rattle.actions.specs.declared.action.Action.{Action}
use Rattle.actions.specs.declared.action.Action.TheVariants.{Draw, Alloc, Create}
use Rattle.actions.specs.declared.action.Answer.{Answer}
use Rattle.actions.specs.declared.action.Answer.TheVariants as answer
use Rattle.actions.specs.declared.action.Next.{Next}
use Rattle.actions.specs.declared.action.Next.TheVariants.{Act, Ended, Blocked, Broken}
use Rattle.actions.specs.Behaviour.{Thread}
use Rattle.actions.specs.Memory.{Memory, keeps, adds, kills, puts, starts, ends}
use Rattle.actions.specs.Row.{Outcome, breaks, waits, moves, outcome_in}
use Rattle.actions.specs.Table.{row}
use Rattle.interleave.specs.declared.counts.Counts.{Counts}
use Rattle.interleave.specs.declared.runner.Runner.{Runner}
use Rattle.interleave.specs.declared.effect.Effect.TheVariants as effect
use Rattle.interleave.specs.declared.turn.Turn.TheVariants as turned
use Rattle.interleave.specs.Own.{own_part, counted, next_word, NumberFits}
use Rattle.interleave.specs.World.{World, Common, Member, member_at, common_after, told, with_told, child}
use Rattle.interleave.specs.Turn.{settled, outcome, with_next, with_member, HasNumber, NextHasNumber, MemberHasNumber}
use Rattle.interleave.specs.Effect.{effect_of, OwnFits}
use Rattle.interleave.specs.View.{member_of, members_of, next_at, IsAction, IsNextAction, told_as, told_at, started_at}
use Rattle.interleave.proofs.Members.{member_none, member_some, next_some}

module _ {M : Type 0} (thread : M → Thread) (es : List (ℕ × Runner M)) (t : ℕ) (r : Runner M) (action : Action) (line function : ℕ) (here : lookup (is_at (nat_cmp t)) es ≡ Some r) (next : next_at (members_of thread es) t ≡ Some (Act action line function)) where
  pub is_next : (thread r.machine).behaves [] ≡ Act action line function
  is_next = let e : Some ((thread r.machine).behaves []) ≡ Some (Act action line function) = sym (next_some thread es t r here) ∙ next in cc e

  pub has_number : (memory : Memory) → MemberHasNumber memory t (member_at (members_of thread es) t) → HasNumber memory t r.counts action
  has_number memory h =
      let at : NextHasNumber memory t r.counts ((thread r.machine).behaves []) = subst (λ (o : Option Member). MemberHasNumber memory t o) (member_some thread es t r here) h in
      subst (λ (n : Next). NextHasNumber memory t r.counts n) is_next at

  -- the turn comes to what the action comes to
  pub settled_here : (common : Common) (words : List ℕ) → let w : World = record { common = common; members = members_of thread es } in
      with_member w t words (member_at (members_of thread es) t) ≡ settled w t words (member_of thread r) action line function (outcome common t words r.counts action)
  settled_here common words =
      let w : World = record { common = common; members = members_of thread es } in
      ap (λ o. with_member w t words o) (member_some thread es t r here) ∙ ap (λ n. with_next w t words (member_of thread r) n) is_next

-- ---- what the code tells of an action, and what the turn comes to

moves_by : (w : World) (t : ℕ) (words : List ℕ) (m : Member) (action : Action) (line function : ℕ) (o : Outcome) (a : Answer) → effect.Moves a ≡ effect_of o
    → (turned.Moved, record { common = common_after w.common t action o; members = with_told w.members t (told m words action a) }) ≡ settled w t words m action line function o
moves_by w t words m action line function (breaks class) a h = cc
moves_by w t words m action line function waits a h = cc
moves_by w t words m action line function (moves b keeps) a h = let e : a ≡ b = cc in
    ap (λ (x : Answer). (turned.Moved, record { common = common_after w.common t action (moves b keeps); members = with_told w.members t (told m words action x) })) e
moves_by w t words m action line function (moves b (adds n x)) a h = let e : a ≡ b = cc in
    ap (λ (y : Answer). (turned.Moved, record { common = common_after w.common t action (moves b (adds n x)); members = with_told w.members t (told m words action y) })) e
moves_by w t words m action line function (moves b (kills n)) a h = let e : a ≡ b = cc in
    ap (λ (x : Answer). (turned.Moved, record { common = common_after w.common t action (moves b (kills n)); members = with_told w.members t (told m words action x) })) e
moves_by w t words m action line function (moves b (puts p bs)) a h = let e : a ≡ b = cc in
    ap (λ (x : Answer). (turned.Moved, record { common = common_after w.common t action (moves b (puts p bs)); members = with_told w.members t (told m words action x) })) e
moves_by w t words m action line function (moves b (starts n f v)) a h = cc
moves_by w t words m action line function (moves b (ends n v)) a h = let e : a ≡ b = cc in
    ap (λ (x : Answer). (turned.Moved, record { common = common_after w.common t action (moves b (ends n v)); members = with_told w.members t (told m words action x) })) e

abbrev StartsTo : World → ℕ → List ℕ → Member → ℕ → ℕ → ℕ → ℕ → ℕ → ℕ → Action → Type 0
StartsTo w t words m line function own number f v action =
    effect.Starts number f v ≡ effect_of (outcome_in w.common.memory (row t own action))
    → (turned.Moved, record { common = common_after w.common t action (outcome_in w.common.memory (row t own action)); members = insert_entry nat_cmp (with_told w.members t (told m words action (answer.Number number))) number (child m f v) })
    ≡ settled w t words m action line function (outcome_in w.common.memory (row t own action))

create_by : (w : World) (t : ℕ) (words : List ℕ) (m : Member) (line function own number f v : ℕ) → StartsTo w t words m line function own number f v (Create f v)
create_by w t words m line function own number f v h = let e : number ≡ own = cc in
    ap (λ (k : ℕ). (turned.Moved, record { common = common_after w.common t (Create f v) (moves (answer.Number own) (starts own f v)); members = insert_entry nat_cmp (with_told w.members t (told m words (Create f v) (answer.Number k))) k (child m f v) })) e

starts_by : (w : World) (t : ℕ) (words : List ℕ) (m : Member) (action : Action) (line function own number f v : ℕ) → action ≡ Create f v → StartsTo w t words m line function own number f v action
starts_by w t words m action line function own number f v e =
    subst (λ (a : Action). StartsTo w t words m line function own number f v a) (sym e) (create_by w t words m line function own number f v)

module _ {M : Type 0} (thread : M → Thread) (es : List (ℕ × Runner M)) (t : ℕ) (r : Runner M) (action : Action) (line function : ℕ) (here : lookup (is_at (nat_cmp t)) es ≡ Some r) (next : next_at (members_of thread es) t ≡ Some (Act action line function))
    (common after : Common) (words : List ℕ) (own : ℕ) (counts : Counts) (members : List (ℕ × Member))
    (own_is : own ≡ own_part t words r.counts action) (counts_is : counts ≡ counted words r.counts action)
    (after_is : after ≡ common_after common t action (outcome_in common.memory (row t own action))) where
  goes : settled (record { common = common; members = members_of thread es }) t words (member_of thread r) action line function (outcome_in common.memory (row t own action))
      ≡ with_member (record { common = common; members = members_of thread es }) t words (member_at (members_of thread es) t)
  goes =
      let w : World = record { common = common; members = members_of thread es } in
      ap (λ k. settled w t words (member_of thread r) action line function (outcome_in common.memory (row t k action))) own_is
      ∙ sym (settled_here thread es t r action line function here next common words)

  told_is : (a : Answer) → told_as (member_of thread r) a counts ≡ told (member_of thread r) words action a
  told_is a = ap (λ (k : Counts). told_as (member_of thread r) a k) counts_is

  pub moved_to : (a : Answer) → effect.Moves a ≡ effect_of (outcome_in common.memory (row t own action)) → members ≡ told_at (members_of thread es) t a counts (member_at (members_of thread es) t)
      → (turned.Moved, record { common = after; members = members }) ≡ with_member (record { common = common; members = members_of thread es }) t words (member_at (members_of thread es) t)
  moved_to a h e =
      let w : World = record { common = common; members = members_of thread es } in
      let f : members ≡ with_told (members_of thread es) t (told (member_of thread r) words action a) =
      e ∙ ap (λ o. told_at (members_of thread es) t a counts o) (member_some thread es t r here) ∙ ap (λ m. with_told (members_of thread es) t m) (told_is a) in
      ap (λ (x : Common). (turned.Moved, record { common = x; members = members })) after_is
      ∙ ap (λ (x : List (ℕ × Member)). (turned.Moved, record { common = common_after common t action (outcome_in common.memory (row t own action)); members = x })) f
      ∙ moves_by w t words (member_of thread r) action line function (outcome_in common.memory (row t own action)) a h
      ∙ goes

  pub started_to : (number f v : ℕ) → effect.Starts number f v ≡ effect_of (outcome_in common.memory (row t own action)) → action ≡ Create f v
      → members ≡ started_at (members_of thread es) t number f v counts (member_at (members_of thread es) t)
      → (turned.Moved, record { common = after; members = members }) ≡ with_member (record { common = common; members = members_of thread es }) t words (member_at (members_of thread es) t)
  started_to number f v h create e =
      let w : World = record { common = common; members = members_of thread es } in
      let x : members ≡ insert_entry nat_cmp (with_told (members_of thread es) t (told (member_of thread r) words action (answer.Number number))) number (child (member_of thread r) f v) =
      e ∙ ap (λ o. started_at (members_of thread es) t number f v counts o) (member_some thread es t r here)
      ∙ ap (λ m. insert_entry nat_cmp (with_told (members_of thread es) t m) number (child (member_of thread r) f v)) (told_is (answer.Number number)) in
      ap (λ (y : Common). (turned.Moved, record { common = y; members = members })) after_is
      ∙ ap (λ (y : List (ℕ × Member)). (turned.Moved, record { common = common_after common t action (outcome_in common.memory (row t own action)); members = y })) x
      ∙ starts_by w t words (member_of thread r) action line function own number f v create h
      ∙ goes

pub number_fits : (memory : Memory) (t : ℕ) (counts : Counts) (action : Action) → HasNumber memory t counts action → NumberFits t counts action
number_fits memory t counts (Alloc o) h = h.0
number_fits memory t counts (Create f v) h = h.0
number_fits memory t counts _ h = tt

low_bits-lt : (n x : ℕ) → low_bits n x < 2 ^ n
unfolding low_bits
low_bits-lt n x = mod_below x (2 ^ n) (pow_pos n)

pub own_fits : (memory : Memory) (t : ℕ) (words : List ℕ) (counts : Counts) (action : Action) → HasNumber memory t counts action → OwnFits memory action (own_part t words counts action)
own_fits memory t words counts (Draw n) h = low_bits-lt n (next_word words counts.used)
own_fits memory t words counts (Alloc o) h = h
own_fits memory t words counts (Create f v) h = h.0
own_fits memory t words counts _ h = tt

pub turn_none : {M : Type 0} (thread : M → Thread) (es : List (ℕ × Runner M)) (t : ℕ) (common : Common) (words : List ℕ) → lookup (is_at (nat_cmp t)) es ≡ None
    → (turned.Nothing, record { common = common; members = members_of thread es }) ≡ with_member (record { common = common; members = members_of thread es }) t words (member_at (members_of thread es) t)
turn_none thread es t common words h =
    let w : World = record { common = common; members = members_of thread es } in sym (ap (λ o. with_member w t words o) (member_none thread es t h))

-- ---- whether there are numbers

to_next : (memory : Memory) (t : ℕ) (counts : Counts) (n : Next) (action : Action) → IsAction n action → HasNumber memory t counts action → NextHasNumber memory t counts n
to_next memory t counts (Act here line function) action e h = subst (λ (a : Action). HasNumber memory t counts a) (sym e) h
to_next memory t counts (Ended w) action e h = tt
to_next memory t counts Blocked action e h = tt
to_next memory t counts (Broken class line function) action e h = tt

from_next : (memory : Memory) (t : ℕ) (counts : Counts) (n : Next) (action : Action) → IsAction n action → NextHasNumber memory t counts n → HasNumber memory t counts action
from_next memory t counts (Act here line function) action e h = subst (λ (a : Action). HasNumber memory t counts a) e h
from_next memory t counts (Ended w) action e h = absurd e
from_next memory t counts Blocked action e h = absurd e
from_next memory t counts (Broken class line function) action e h = absurd e

module _ {M : Type 0} (thread : M → Thread) (es : List (ℕ × Runner M)) (t : ℕ) (memory : Memory) where
  pub numbers_none : lookup (is_at (nat_cmp t)) es ≡ None → MemberHasNumber memory t (member_at (members_of thread es) t)
  numbers_none h = subst (λ (o : Option Member). MemberHasNumber memory t o) (sym (member_none thread es t h)) tt

  module _ (r : Runner M) (action : Action) (here : lookup (is_at (nat_cmp t)) es ≡ Some r) (next : IsNextAction (next_at (members_of thread es) t) action) where
    is_action : IsAction ((thread r.machine).behaves []) action
    is_action = subst (λ (o : Option Next). IsNextAction o action) (next_some thread es t r here) next

    pub numbers_to : HasNumber memory t r.counts action → MemberHasNumber memory t (member_at (members_of thread es) t)
    numbers_to h =
        subst (λ (o : Option Member). MemberHasNumber memory t o) (sym (member_some thread es t r here)) (to_next memory t r.counts ((thread r.machine).behaves []) action is_action h)

    pub numbers_from : MemberHasNumber memory t (member_at (members_of thread es) t) → HasNumber memory t r.counts action
    numbers_from h =
        from_next memory t r.counts ((thread r.machine).behaves []) action is_action (subst (λ (o : Option Member). MemberHasNumber memory t o) (member_some thread es t r here) h)
