-- In a run of a file there is thread 0 alone, which starts no thread, and there are numbers for its objects.
use Rattle.std.proofs.Common.{◌≡◌, ◌++◌, ◌&&◌, nat_le, length-append, ◌*◌, ◌^◌, ℕ, zero, suc, Bool, true, false, true≢false, cond, not, ◌==◌, List, [], ◌∷◌, Option, Some, None, Result, Ok, Err, ◌+◌, ◌<◌, ◌≤◌, length, map, drop, get_or, if◌then◌else◌, refl, sym, ap, subst, ◌∙◌, arith}
use Rattle.interleave.specs.declared.turn.Turn.{Turn}
use Rattle.interleave.specs.declared.turn.Turn.TheVariants as turned
use Rattle.std.specs.Cmp.{ranked, nat_cmp_is}
use Rattle.std.specs.Ordering.{nat_cmp, is_eq}
use Rattle.std.specs.declared.cmp.Ordering.{Ordering}
use Rattle.std.specs.declared.cmp.Ordering.TheVariants.{Less, Equal, Greater}
use Rattle.std.specs.Map.{lookup, set_value}
use Rattle.std.specs.BTreeMap.{is_at, insert_entry}
use Rattle.std.proofs.lemmas.List.{at_drop_more, at_drop_all}
use Rattle.words.specs.declared.check.Check.{Check}
use Rattle.words.specs.declared.check.Class.{Class}
use Rattle.words.specs.declared.check.Class.TheVariants as class
use Rattle.core_tree.specs.Trees.{TypedFile}
use Rattle.core_tree.specs.Ranges.{Limits}
use Rattle.actions.specs.declared.action.Action.{Action}
use Rattle.actions.specs.declared.action.Action.TheVariants.{Read, Write, Look, Draw, Alloc, Die, Free, SectionBegin, SectionEnd, Lock, Unlock, MutexInit, MutexDestroy, Create, Join, End, Exit}
use Rattle.actions.specs.declared.action.Answer.{Answer}
use Rattle.actions.specs.declared.action.Answer.TheVariants as answer
use Rattle.actions.specs.declared.action.Next.{Next}
use Rattle.actions.specs.declared.action.Next.TheVariants.{Act, Ended as ThreadEnded, Blocked, Broken}
use Rattle.actions.specs.declared.thread_state.ThreadState.{ThreadState}
use Rattle.actions.specs.declared.thread_state.ThreadState.TheVariants.{Running, Ended}
use Rattle.actions.specs.Behaviour.{Thread}
use Rattle.actions.specs.ByteList.{mutex_number}
use Rattle.actions.specs.Pointer.{object_of}
use Rattle.actions.specs.StoredObject.{StoredObject}
use Rattle.actions.specs.States.{ObjectState, is_absent}
use Rattle.actions.specs.Access.{access_break, can_free, look}
use Rattle.actions.specs.Objects.{Objects, object_at, changed_to}
use Rattle.actions.specs.Memory.{Memory, Change, keeps, adds, kills, puts, starts, ends, changed}
use Rattle.actions.specs.Row as rows
use Rattle.actions.specs.Row.{Row, comes, sees_object, sees_bytes, sees_thread, breaks, waits, moves, outcome_in, unless}
use Rattle.actions.specs.AccessRows.{accessed, looked}
use Rattle.actions.specs.MutexRows.{with_mutex, destroyed, held_by, set_mutex}
use Rattle.actions.specs.ThreadRows.{joined}
use Rattle.actions.specs.Table.{row}
use Rattle.actions.proofs.Changes.{lookup-insert_apart}
use Rattle.interleave.specs.declared.turn.Outcome.{Outcome}
use Rattle.interleave.specs.declared.turn.Outcome.TheVariants as ending
use Rattle.interleave.specs.Run.{run, unless_broken}
use Rattle.interleave.specs.declared.counts.Counts.{Counts}
use Rattle.interleave.specs.Inputs.{InputLists, words_of}
use Rattle.interleave.specs.Own.{own_part, object_number, counted}
use Rattle.interleave.specs.World.{World, Common, Member, member_at, moved, told, with_told, with_child, may_move, first_world, no_counts}
use Rattle.interleave.specs.Turn.{turn, settled, outcome, with_next, with_member, HasNumber, NextHasNumber, MemberHasNumber, HasNumbers}
use Rattle.interleave.proofs.Starts.{OnlyCreates, only_creates}
use Rattle.c_meaning.specs.Source.{main_number, source_thread, are_storable, are_small_objects, are_small_literals, first_object, literal_object, first_objects, numbered}
use Rattle.std.proofs.lemmas.List.{length-map}
use Rattle.c_meaning.proofs.Holding.{left_of, from_le}
use Rattle.c_meaning.proofs.StaticObjects.{numbered_fresh}
use Rattle.c_interp.specs.SourceThread.{StartsNone, function_starts_none}
use Rattle.c_interp.specs.Alone.{Quietly, AreBelow, IsAlone, made_by, made_in, IsTurn}

-- ---- an outcome that starts no thread

abbrev pub IsPlain : rows.Outcome → Type 0
IsPlain (moves a (starts number f v)) = ⊥
IsPlain _ = Unit {0}

plain_by : (action : Action) (line f : ℕ) (o : rows.Outcome) → StartsNone (Act action line f) → OnlyCreates action o → IsPlain o
plain_by action line f (moves a (starts number g v)) h only = let P : Action → Type 0 = λ x. StartsNone (Act x line f) in subst P only h
plain_by action line f (moves a keeps) h only = tt
plain_by action line f (moves a (adds number o)) h only = tt
plain_by action line f (moves a (kills number)) h only = tt
plain_by action line f (moves a (puts p bytes)) h only = tt
plain_by action line f (moves a (ends number v)) h only = tt
plain_by action line f (breaks class) h only = tt
plain_by action line f waits h only = tt

pub plain : (c : Common) (t line f : ℕ) (words : List ℕ) (counts : Counts) (action : Action) → StartsNone (Act action line f) → IsPlain (outcome c t words counts action)
plain c t line f words counts action h = plain_by action line f (outcome c t words counts action) h (only_creates c.memory t (own_part t words counts action) action)

-- ---- only an Alloc makes an object, under its own number

abbrev ChangeAdds : ℕ → Change → Type 0
ChangeAdds n (adds number o) = number ≤ n
ChangeAdds n _ = Unit {0}

abbrev OutcomeAdds : ℕ → rows.Outcome → Type 0
OutcomeAdds n (moves a c) = ChangeAdds n c
OutcomeAdds n _ = Unit {0}

abbrev RowAdds : ℕ → Row → Type 0
RowAdds n (comes o) = OutcomeAdds n o
RowAdds n (sees_object k next) = (s : ObjectState) → RowAdds n (next s)
RowAdds n (sees_bytes p k next) = (s : List ℕ) → RowAdds n (next s)
RowAdds n (sees_thread k next) = (s : Option ThreadState) → RowAdds n (next s)

module _ (n : ℕ) where
  row_adds : (m : Memory) (r : Row) → RowAdds n r → OutcomeAdds n (outcome_in m r)
  row_adds m (comes o) h = h
  row_adds m (sees_object k next) h = row_adds m (next _) (h _)
  row_adds m (sees_bytes p k next) h = row_adds m (next _) (h _)
  row_adds m (sees_thread k next) h = row_adds m (next _) (h _)

  by_break : (o : Option Class) (r : Row) → RowAdds n r → RowAdds n (unless o r)
  by_break None r h = h
  by_break (Some c) r h = tt

  by_choice : (b : Bool) (x y : rows.Outcome) → OutcomeAdds n x → OutcomeAdds n y → OutcomeAdds n (cond b x y)
  by_choice true x y h k = h
  by_choice false x y h k = k

  by_kept : (b : Bool) (number : ℕ) → ChangeAdds n (cond b keeps (kills number))
  by_kept true number = tt
  by_kept false number = tt

  by_row : (b : Bool) (x y : Row) → RowAdds n x → RowAdds n y → RowAdds n (cond b x y)
  by_row true x y h k = h
  by_row false x y h k = k

  by_look : (subscript : Bool) (r : Result ℕ Class) → OutcomeAdds n (looked subscript r)
  by_look subscript (Ok size) = tt
  by_look subscript (Err c) = tt

  by_join : (s : Option ThreadState) → OutcomeAdds n (joined s)
  by_join None = tt
  by_join (Some Running) = tt
  by_join (Some (Ended v)) = tt

  by_access : (writes : Bool) (p count : ℕ) (r : Row) → RowAdds n r → RowAdds n (accessed writes p count r)
  by_access writes p count r h = λ state. by_break (access_break writes p count state) r h

  by_mutex : (p : ℕ) (decide : ℕ → rows.Outcome) → ((k : ℕ) → OutcomeAdds n (decide k)) → RowAdds n (with_mutex p decide)
  by_mutex p decide h = by_access true p 4 (sees_bytes p 4 (λ bytes. comes (decide (mutex_number bytes)))) (λ bytes. h (mutex_number bytes))

  -- the number is small where an object is made
  abbrev IsFew : ℕ → Action → Type 0
  IsFew own (Alloc o) = own ≤ n
  IsFew own _ = Unit {0}

  row_of : (t own : ℕ) (action : Action) → IsFew own action → RowAdds n (row t own action)
  row_of t own (Read p count) h = by_access false p count (sees_bytes p count (λ bytes. comes (moves (answer.Bytes bytes) keeps))) (λ bytes. tt)
  row_of t own (Write p bytes first) h = by_access (not first) p (length bytes) (comes (moves answer.Done (puts p bytes))) tt
  row_of t own (Look p subscript) h = λ state. by_look subscript (look p state)
  row_of t own (Draw k) h = tt
  row_of t own (Alloc o) h = h
  row_of t own (Die number) h = λ state. by_kept (is_absent state) number
  row_of t own (Free p) h =
      by_row (p == 0) (comes (moves answer.Done keeps)) (sees_object (object_of p) (λ state. comes (cond (can_free p state) (moves answer.Done (kills (object_of p))) (breaks class.Free)))) tt
      (λ state. by_choice (can_free p state) (moves answer.Done (kills (object_of p))) (breaks class.Free) tt tt)
  row_of t own SectionBegin h = tt
  row_of t own SectionEnd h = tt
  row_of t own (Lock p) h =
      by_mutex p (λ cell. cond (cell == 0) (set_mutex p (held_by t)) (cond (cell == destroyed) (breaks class.Mutex) waits))
      (λ cell. by_choice (cell == 0) (set_mutex p (held_by t)) (cond (cell == destroyed) (breaks class.Mutex) waits) tt (by_choice (cell == destroyed) (breaks class.Mutex) waits tt tt))
  row_of t own (Unlock p) h = by_mutex p (λ cell. cond (cell == held_by t) (set_mutex p 0) (breaks class.Mutex)) (λ cell. by_choice (cell == held_by t) (set_mutex p 0) (breaks class.Mutex) tt tt)
  row_of t own (MutexInit p) h = by_access true p 4 (comes (set_mutex p 0)) tt
  row_of t own (MutexDestroy p) h = by_mutex p (λ cell. cond (cell == 0) (set_mutex p destroyed) (breaks class.Mutex)) (λ cell. by_choice (cell == 0) (set_mutex p destroyed) (breaks class.Mutex) tt tt)
  row_of t own (Create f v) h = tt
  row_of t own (Join k) h = by_row (k == t) (comes (breaks class.Join)) (sees_thread k (λ state. comes (joined state))) tt (λ state. by_join state)
  row_of t own (End v) h = tt
  row_of t own Exit h = tt

  adds_few : (m : Memory) (t own : ℕ) (action : Action) → IsFew own action → OutcomeAdds n (outcome_in m (row t own action))
  adds_few m t own action h = row_adds m (row t own action) (row_of t own action h)

-- ---- what a change leaves without an object

none_some : {X : Type 0} (x : X) → ◌≡◌ {A = Option X} (Some x) None → ⊥
none_some x e = cc

module _ {X : Type 0} (k : ℕ) (test : ℕ → Bool) (w : X) where
  none_entry : (b c : Bool) (e : ℕ × X) (es rest : List (ℕ × X)) → is_at (nat_cmp k) e.0 ≡ b → cond b (Some e.1) (lookup (is_at (nat_cmp k)) es) ≡ None →
      (lookup (is_at (nat_cmp k)) es ≡ None → lookup (is_at (nat_cmp k)) rest ≡ None) → lookup (is_at (nat_cmp k)) (cond c ((e.0, w) ∷ es) (e ∷ rest)) ≡ None
  none_entry true c e es rest at h more = absurd (none_some e.1 h)
  none_entry false true e es rest at h more = ap (λ b. cond b (Some w) (lookup (is_at (nat_cmp k)) es)) at ∙ h
  none_entry false false e es rest at h more = ap (λ b. cond b (Some e.1) (lookup (is_at (nat_cmp k)) rest)) at ∙ more h

  none_kept : (es : List (ℕ × X)) → lookup (is_at (nat_cmp k)) es ≡ None → lookup (is_at (nat_cmp k)) (set_value test es w) ≡ None
  none_kept [] h = refl
  none_kept (e ∷ es) h = none_entry (is_at (nat_cmp k) e.0) (test e.0) e es (set_value test es w) refl h (none_kept es)

changed_none : (objects : Objects) (k number : ℕ) (f : StoredObject → StoredObject) (o : Option StoredObject) → object_at objects k ≡ None → object_at (changed_to objects number f o) k ≡ None
changed_none objects k number f None h = h
changed_none objects k number f (Some x) h = none_kept k (is_at (nat_cmp number)) (f x) objects h

changed_below : (m : Memory) (c : Change) (n most : ℕ) → n ≤ most → ChangeAdds most c → AreBelow m.objects n → let after = changed m c in AreBelow after.objects most
changed_below m keeps n most le h below k less = below k (omega (arith, le, less))
changed_below m (adds number o) n most le h below k less = lookup-insert_apart k number (λ e. omega (arith, e, h, less)) m.objects o ∙ below k (omega (arith, le, less))
changed_below m (kills number) n most le h below k less = changed_none m.objects k number _ (object_at m.objects number) (below k (omega (arith, le, less)))
changed_below m (puts p bytes) n most le h below k less = changed_none m.objects k (object_of p) _ (object_at m.objects (object_of p)) (below k (omega (arith, le, less)))
changed_below m (starts number f v) n most le h below k less = below k (omega (arith, le, less))
changed_below m (ends number v) n most le h below k less = below k (omega (arith, le, less))

-- ---- counts

counted_least : (words : List ℕ) (counts : Counts) (action : Action) → counts.objects ≤ (let now = counted words counts action in now.objects)
counted_least words counts (Draw n) = omega arith
counted_least words counts (Alloc o) = omega arith
counted_least words counts (Create f v) = omega arith
counted_least words counts _ = omega arith

counted_most : (words : List ℕ) (counts : Counts) (action : Action) → (let now = counted words counts action in now.objects) ≤ counts.objects + 1
counted_most words counts (Draw n) = omega arith
counted_most words counts (Alloc o) = omega arith
counted_most words counts (Create f v) = omega arith
counted_most words counts _ = omega arith

own_few : (t : ℕ) (words : List ℕ) (counts : Counts) (action : Action) → t ≡ 0 → (let now = counted words counts action in IsFew now.objects (own_part t words counts action) action)
own_few t words counts (Alloc o) e = omega (arith, e)
own_few t words counts _ e = tt

key_here : is_at (nat_cmp 0) 0 ≡ true
key_here = ap is_eq (sym (nat_cmp_is 0 0 Equal refl))

key_same : (m n : ℕ) → is_at (nat_cmp m) n ≡ true → m ≡ n
key_same m n h = by (nat_cmp m n) refl h
  where
    by : (o : Ordering) → o ≡ nat_cmp m n → is_eq o ≡ true → m ≡ n
    by Less e h = absurd (true≢false (sym h))
    by Equal e h = ranked m n Equal e
    by Greater e h = absurd (true≢false (sym h))

alone_made : (w : World) (m : Member) → w.members ≡ (0, m) ∷ [] → made_in w ≡ m.counts.objects
alone_made w m e = ap (λ (ms : List (ℕ × Member)). made_by (member_at ms 0)) e ∙ ap (λ b. made_by (cond b (Some m) None)) key_here

-- ---- turns

-- thread 0 is alone, and has made at most one more
abbrev pub Continues : ℕ → World → Type 0
Continues n next = IsAlone next × (made_in next ≤ n + 1)

no_child : (m : Member) (a : Answer) (change : Change) (members : List (ℕ × Member)) → IsPlain (moves a change) → with_child m change members ≡ members
no_child m a (starts n f v) members h = absurd h
no_child m a keeps members h = refl
no_child m a (adds n o) members h = refl
no_child m a (kills n) members h = refl
no_child m a (puts p bytes) members h = refl
no_child m a (ends n v) members h = refl

module _ (w : World) (t : ℕ) (words : List ℕ) (m : Member) (e : w.members ≡ (0, m) ∷ []) (quiet : Quietly m.thread.behaves) (below : AreBelow w.common.memory.objects m.counts.objects) where
  stays : Continues m.counts.objects w
  stays = let h = alone_made w m e in ((m, e, quiet, below), omega (arith, h))

  module _ (there : is_at (nat_cmp t) 0 ≡ true) where
    goes_on : (action : Action) (a : Answer) (change : Change) → IsPlain (moves a change) → (let now = counted words m.counts action in ChangeAdds now.objects change) →
        Continues m.counts.objects (record { common = moved w.common t action change; members = with_child m change (with_told w.members t (told m words action a)) })
    goes_on action a change h k =
        let n : Member = told m words action a in
        let members : with_child m change (with_told w.members t n) ≡ (0, n) ∷ [] = no_child m a change (with_told w.members t n) h ∙ ap (λ (ms : List (ℕ × Member)). with_told ms t n) e ∙ (λ i. cond (there i) ((0, n) ∷ []) ((0, m) ∷ [])) in
        let next : World = record { common = moved w.common t action change; members = with_child m change (with_told w.members t n) } in
        let made = alone_made next n members in
        let most = counted_most words m.counts action in
        ((n, members, (λ answers. quiet (a ∷ answers)), changed_below w.common.memory change m.counts.objects n.counts.objects (counted_least words m.counts action) k below), omega (arith, made, most))

    settled_goes : (action : Action) (line f : ℕ) (o : rows.Outcome) → IsPlain o → (let now = counted words m.counts action in OutcomeAdds now.objects o) → Continues m.counts.objects (settled w t words m action line f o).1
    settled_goes action line f (breaks class) h k = stays
    settled_goes action line f waits h k = stays
    settled_goes action line f (moves a change) h k = goes_on action a change h k

    next_goes : (n : Next) → StartsNone n → Continues m.counts.objects (with_next w t words m n).1
    next_goes (Act action line f) h =
        let now = counted words m.counts action in
        let own = own_part t words m.counts action in
        settled_goes action line f (outcome w.common t words m.counts action) (plain w.common t line f words m.counts action h)
        (adds_few now.objects w.common.memory t own action (own_few t words m.counts action (key_same t 0 there)))
    next_goes (ThreadEnded v) h = stays
    next_goes Blocked h = stays
    next_goes (Broken class line f) h = stays

  member_goes : (b : Bool) → is_at (nat_cmp t) 0 ≡ b → Continues m.counts.objects (with_member w t words (cond b (Some m) None)).1
  member_goes true there = next_goes there (m.thread.behaves []) (quiet [])
  member_goes false there = stays

  may_go : (b : Bool) → Continues m.counts.objects (if b then with_member w t words (member_at w.members t) else (turned.Nothing, w)).1
  may_go true =
      let P : List (ℕ × Member) → Type 0 = λ ms. Continues m.counts.objects (with_member w t words (member_at ms t)).1 in
      subst P (sym e) (member_goes (is_at (nat_cmp t) 0) refl)
  may_go false = stays

pub turn_goes : (w : World) (t : ℕ) (inputs : InputLists) → IsAlone w → Continues (made_in w) (turn w t inputs).1
turn_goes w t inputs o =
    let P : ℕ → Type 0 = λ n. Continues n (turn w t inputs).1 in
    subst P (sym (alone_made w o.0 o.1)) (may_go w t (words_of inputs t) o.0 o.1 o.2 o.3 (may_move w.common t))

-- ---- numbers

module _ (memory : Memory) (t : ℕ) (m : Member) (quiet : Quietly m.thread.behaves) (below : AreBelow memory.objects m.counts.objects) (few : m.counts.objects + 1 < 2 ^ 32) where
  number_of : (line f : ℕ) (action : Action) → t ≡ 0 → StartsNone (Act action line f) → HasNumber memory t m.counts action
  number_of line f (Alloc o) e h =
      let k : object_number t (m.counts.objects + 1) ≡ m.counts.objects + 1 = omega (arith, e) in
      (omega (arith, k, few), below (object_number t (m.counts.objects + 1)) (omega (arith, k)))
  number_of line f (Create g v) e h = absurd h
  number_of line f _ e h = tt

  next_number : (n : Next) → t ≡ 0 → StartsNone n → NextHasNumber memory t m.counts n
  next_number (Act action line f) e h = number_of line f action e h
  next_number (ThreadEnded v) e h = tt
  next_number Blocked e h = tt
  next_number (Broken class line f) e h = tt

  some_number : (b : Bool) → is_at (nat_cmp t) 0 ≡ b → MemberHasNumber memory t (cond b (Some m) None)
  some_number true there = next_number (m.thread.behaves []) (key_same t 0 there) (quiet [])
  some_number false there = tt

pub has_numbers : (w : World) (t : ℕ) → IsAlone w → made_in w + 1 < 2 ^ 32 → HasNumbers w t
has_numbers w t o few =
    let made = alone_made w o.0 o.1 in
    let P : List (ℕ × Member) → Type 0 = λ ms. MemberHasNumber w.common.memory t (member_at ms t) in
    subst P (sym o.1) (some_number w.common.memory t o.0 o.2 o.3 (omega (arith, made, few)) (is_at (nat_cmp t) 0) refl)

-- ---- the start

numbered_length : (n : ℕ) (os : List StoredObject) → length (numbered n os) ≡ length os
numbered_length n [] = refl
numbered_length n (o ∷ os) = ap suc (numbered_length (n + 1) os)

numbered_below : (os : List StoredObject) → AreBelow (numbered 1 os) (length (numbered 1 os))
numbered_below os k less = numbered_fresh 1 k os (omega (arith, less, numbered_length 1 os))

pub starts_alone : (file : TypedFile) (limits : Limits) → IsAlone (first_world (source_thread file limits) (first_objects file))
starts_alone file limits =
    (record { thread = source_thread file limits; counts = record no_counts { objects = length (first_objects file) } }, refl, function_starts_none file limits true (main_number file.functions), numbered_below _)

-- there are not more than 8,192 of them
pub few_objects : (file : TypedFile) → are_storable file ≡ true → length file.objects + length file.literals ≤ 8192
few_objects file h =
    let count = nat_le (length file.objects + length file.literals) 8192 in
    from_le (length file.objects + length file.literals) 8192 (left_of count (are_small_objects file.objects) (left_of (count && are_small_objects file.objects) (are_small_literals file.literals) h))

pub few_first : (file : TypedFile) → are_storable file ≡ true → length (first_objects file) ≤ 8192
few_first file h =
    let f = first_object (length file.objects + 1) in
    let n = few_objects file h in
    let all = numbered_length 1 (map f file.objects ++ map literal_object file.literals) in
    let sum = length-append (map f file.objects) (map literal_object file.literals) in
    let a = length-map file.objects f in
    let b = length-map file.literals literal_object in
    omega (arith, n, all, sum, a, b)

pub starts_made : (thread : Thread) (objects : Objects) → made_in (first_world thread objects) ≡ length objects
starts_made thread objects = alone_made (first_world thread objects) (record { thread = thread; counts = record no_counts { objects = length objects } }) refl

-- ---- turns by the schedule

pub broken_run : (w next : World) (inputs : InputLists) (ts : List ℕ) (i : ℕ) (c : Check) → i < length ts → IsTurn (turn w (get_or ts i 0) inputs) next (Some c) → ending.Broken c ≡ (run w inputs (drop i ts)).0
broken_run w next inputs ts i c h e =
    let T = turn w (get_or ts i 0) inputs in
    let go : World → Outcome × World = λ n. run n inputs (drop (i + 1) ts) in
    let first : run w inputs (drop i ts) ≡ unless_broken T.0 T.1 go = at_drop_more (run w inputs) ts i 0 h in
    sym (ap (λ (x : Outcome × World). x.0) first ∙ ap (λ (r : Turn). (unless_broken r T.1 go).0) e)

pub moved_run : (w next : World) (inputs : InputLists) (ts : List ℕ) (i : ℕ) → i < length ts → IsTurn (turn w (get_or ts i 0) inputs) next None → (run w inputs (drop i ts)).0 ≡ (run next inputs (drop (i + 1) ts)).0
moved_run w next inputs ts i h e =
    let T = turn w (get_or ts i 0) inputs in
    let go : World → Outcome × World = λ n. run n inputs (drop (i + 1) ts) in
    let first : run w inputs (drop i ts) ≡ unless_broken T.0 T.1 go = at_drop_more (run w inputs) ts i 0 h in
    ap (λ (x : Outcome × World). x.0) (first ∙ e go)

pub fine_run : (w : World) (inputs : InputLists) (ts : List ℕ) (i : ℕ) → length ts ≤ i → (run w inputs (drop i ts)).0 ≡ ending.Fine
fine_run w inputs ts i h = ap (λ (x : Outcome × World). x.0) (at_drop_all (run w inputs) ts i h)

-- what a turn is, by the answer
pub broken_turn : (w next : World) (t : ℕ) (inputs : InputLists) (c : Check) → (turned.Broken c, next) ≡ turn w t inputs → IsTurn (turn w t inputs) next (Some c)
broken_turn w next t inputs c e = ap (λ (x : Turn × World). x.0) (sym e)

pub moved_turn : (w next : World) (t : ℕ) (inputs : InputLists) → (turned.Moved, next) ≡ turn w t inputs → IsTurn (turn w t inputs) next None
moved_turn w next t inputs e = λ go. ap (λ (x : Turn × World). unless_broken x.0 x.1 go) (sym e)

pub nothing_turn : (w next : World) (t : ℕ) (inputs : InputLists) → (turned.Nothing, next) ≡ turn w t inputs → IsTurn (turn w t inputs) next None
nothing_turn w next t inputs e = λ go. ap (λ (x : Turn × World). unless_broken x.0 x.1 go) (sym e)

pub next_goes_on : (w next : World) (t : ℕ) (inputs : InputLists) (r : Turn) → IsAlone w → (r, next) ≡ turn w t inputs → Continues (made_in w) next
next_goes_on w next t inputs r o e = let P : Turn × World → Type 0 = λ x. Continues (made_in w) x.1 in subst P (sym e) (turn_goes w t inputs o)
