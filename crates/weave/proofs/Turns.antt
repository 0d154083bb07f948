-- A turn by its thread's next step and by what comes of it.
use Rattle.std.proofs.Common.{◌≡◌, ◌<◌, ℕ, ◌^◌, Bool, true, false, cond, List, [], ◌∷◌, ◌%◌, Option, Some, None, refl, sym, ap, ◌∙◌}
use Rattle.std.proofs.Math.Nat.{mod-eq_of_lt}
use Rattle.words.specs.Operators.{low_bits}
use Rattle.actions.specs.declared.action.Action.{Action}
use Rattle.actions.specs.declared.action.Action.TheVariants.{Draw, Alloc, Create}
use Rattle.actions.specs.declared.action.Answer.{Answer}
use Rattle.actions.specs.declared.action.Next.{Next}
use Rattle.actions.specs.declared.action.Next.TheVariants.{Act, Ended, Blocked, Broken}
use Rattle.actions.specs.Memory.{Change, changed}
use Rattle.actions.specs.Row.{Outcome, breaks, waits, moves, outcome_in}
use Rattle.interleave.specs.declared.counts.Counts.{Counts}
use Rattle.interleave.specs.declared.turn.Turn.TheVariants as turned
use Rattle.interleave.specs.Inputs.{InputLists, words_of}
use Rattle.interleave.specs.Own.{own_part, counted, next_word}
use Rattle.interleave.specs.World.{World, Common, Member, member_at, may_move, section_after, ended_after, with_told, with_child}
use Rattle.interleave.specs.Turn.{turn, with_member, with_next, settled, outcome}
use Rattle.weave.specs.Step.{own_by, row_by, mode_by, turn_by, IsOwn, counted_by, told_by}

abbrev pub moved_by : Common → ℕ → Next → Change → Common
moved_by c t n change = record {
  memory = changed c.memory change;
  section = section_after (mode_by n) t c.section;
  ended = ended_after (mode_by n) c.ended;
}

abbrev pub after_move : World → ℕ → List ℕ → Member → Next → Answer → Change → World
after_move w t words m n a change = record { common = moved_by w.common t n change; members = with_child m change (with_told w.members t (told_by words m n a)) }

abbrev pub world_by : World → ℕ → List ℕ → Member → Next → Outcome → World
world_by w t words m n (breaks class) = w
world_by w t words m n waits = w
world_by w t words m n (moves a change) = after_move w t words m n a change

-- what comes of the step that is next
abbrev pub comes_by : World → ℕ → List ℕ → Member → Next → Outcome
comes_by w t words m n = outcome_in w.common.memory (row_by t (own_by t words m.counts n) n)

settled_by : (w : World) (t : ℕ) (words : List ℕ) (m : Member) (action : Action) (line function : ℕ) (o : Outcome)
    → settled w t words m action line function o ≡ (turn_by t (Act action line function) o, world_by w t words m (Act action line function) o)
settled_by w t words m action line function (breaks class) = refl
settled_by w t words m action line function waits = refl
settled_by w t words m action line function (moves a change) = refl

pub next_by : (w : World) (t : ℕ) (words : List ℕ) (m : Member) (n : Next) → with_next w t words m n ≡ (turn_by t n (comes_by w t words m n), world_by w t words m n (comes_by w t words m n))
next_by w t words m (Act action line function) = settled_by w t words m action line function (outcome w.common t words m.counts action)
next_by w t words m (Ended v) = refl
next_by w t words m Blocked = refl
next_by w t words m (Broken class line function) = refl

module _ (w : World) (t : ℕ) (inputs : InputLists) (m : Member) (n : Next) where
  pub turn_is : may_move w.common t ≡ true → member_at w.members t ≡ Some m → m.thread.behaves [] ≡ n
      → turn w t inputs ≡ (turn_by t n (comes_by w t (words_of inputs t) m n), world_by w t (words_of inputs t) m n (comes_by w t (words_of inputs t) m n))
  turn_is may here e =
      ap (λ b. cond b (with_member w t (words_of inputs t) (member_at w.members t)) (turned.Nothing, w)) may
      ∙ ap (λ o. with_member w t (words_of inputs t) o) here
      ∙ ap (λ k. with_next w t (words_of inputs t) m k) e
      ∙ next_by w t (words_of inputs t) m n

-- ---- a turn that does something

pub record Acts (w : World) (t : ℕ) : Type 0 where
  pub may : may_move w.common t ≡ true
  pub member : Member
  pub here : member_at w.members t ≡ Some member

acts_member : (w : World) (t : ℕ) (words : List ℕ) (o : Option Member) → member_at w.members t ≡ o → may_move w.common t ≡ true → ((with_member w t words o).0 ≡ turned.Nothing → ⊥) → Acts w t
acts_member w t words None e may h = absurd (h refl)
acts_member w t words (Some m) e may h = record { may = may; member = m; here = e }

acts_by : (w : World) (t : ℕ) (words : List ℕ) (b : Bool) → may_move w.common t ≡ b → ((cond b (with_member w t words (member_at w.members t)) (turned.Nothing, w)).0 ≡ turned.Nothing → ⊥) → Acts w t
acts_by w t words true e h = acts_member w t words (member_at w.members t) refl e h
acts_by w t words false e h = absurd (h refl)

pub acts : (w : World) (t : ℕ) (inputs : InputLists) → ((turn w t inputs).0 ≡ turned.Nothing → ⊥) → Acts w t
acts w t inputs h = acts_by w t (words_of inputs t) (may_move w.common t) refl h

-- ---- the step's own part

-- the word that is drawn is the next one
abbrev pub DrawsNext : List ℕ → Counts → Next → ℕ → Type 0
DrawsNext words counts (Act (Draw n) line function) own = next_word words counts.used ≡ own
DrawsNext words counts _ own = Unit {0}

abbrev pub unused : Counts → Counts
unused counts = record { creations = counts.creations; objects = counts.objects; used = 0 }

drawn_part : (n own word : ℕ) → own < 2 ^ n → word ≡ own → own ≡ low_bits n word
unfolding low_bits
drawn_part n own word h e = sym (ap (λ (x : ℕ). x % 2 ^ n) e ∙ mod-eq_of_lt h)

own_is : (t : ℕ) (words : List ℕ) (counts : Counts) (own line function : ℕ) (action : Action) → IsOwn t (unused counts) own (Act action line function) → DrawsNext words counts (Act action line function) own → own ≡ own_part t words counts action
own_is t words counts own line function (Draw n) h d = drawn_part n own (next_word words counts.used) h d
own_is t words counts own line function (Alloc o) h d = h
own_is t words counts own line function _ h d = h

pub same_row : (t : ℕ) (words : List ℕ) (counts : Counts) (own : ℕ) (n : Next) → IsOwn t (unused counts) own n → DrawsNext words counts n own → row_by t (own_by t words counts n) n ≡ row_by t own n
same_row t words counts own (Act action line function) h d = ap (λ (k : ℕ). row_by t k (Act action line function)) (sym (own_is t words counts own line function action h d))
same_row t words counts own (Ended v) h d = refl
same_row t words counts own Blocked h d = refl
same_row t words counts own (Broken class line function) h d = refl

counted_part : (words : List ℕ) (counts : Counts) (action : Action) → counted [] (unused counts) action ≡ unused (counted words counts action)
counted_part words counts (Draw n) = refl
counted_part words counts (Alloc o) = refl
counted_part words counts (Create f v) = refl
counted_part words counts _ = refl

pub counted_unused : (words : List ℕ) (counts : Counts) (n : Next) → counted_by [] (unused counts) n ≡ unused (counted_by words counts n)
counted_unused words counts (Act action line function) = counted_part words counts action
counted_unused words counts _ = refl

-- a thread without the words that it used
abbrev pub unworded : Member → Member
unworded m = record { thread = m.thread; counts = unused m.counts }

pub told_unworded : (words : List ℕ) (m : Member) (n : Next) (a : Answer) → told_by [] (unworded m) n a ≡ unworded (told_by words m n a)
told_unworded words m n a = λ i. record { thread = record { behaves = λ answers. m.thread.behaves (a ∷ answers); program = m.thread.program }; counts = counted_unused words m.counts n i }
