-- What is noted of an event, and of one event after the other.
use Rattle.std.proofs.Common.{◌≡◌, ℕ, Bool, true, false, ◌&&◌, List, [], ◌∷◌, ◌++◌, length, map, Option, Some, None, is_some, refl, sym, ap, subst, ◌∙◌}
use Rattle.std.specs.Prelude.{All, ◌==◌, if◌then◌else◌}
use Rattle.std.proofs.lemmas.List.{length-map}
use Rattle.std.proofs.lemmas.List.Elements.{All-head, All-tail}
use Rattle.words.specs.declared.check.Class.{Class}
use Rattle.words.specs.declared.check.Class.TheVariants.{Null, InvalidPointer}
use Rattle.actions.specs.Pointer.{object_of}
use Rattle.actions.specs.Objects.{Objects, bytes_at, with_bytes, break_in, unless_changed}
use Rattle.word_dag.specs.declared.nodes.Id.{Id}
use Rattle.word_dag.specs.declared.nodes.Node.{Node}
use Rattle.word_dag.specs.Meaning.{value, holds}
use Rattle.word_dag.specs.Growth.{Within, Extends}
use Rattle.word_dag.proofs.Grown.{map_stays}
use Rattle.event_forms.specs.declared.forms.Event.{Event}
use Rattle.event_forms.specs.declared.forms.EventKind.{EventKind}
use Rattle.event_forms.specs.declared.forms.EventKind.TheVariants as kinds
use Rattle.event_forms.specs.Arrivals.{Seen, stopped}
use Rattle.event_forms.specs.Runs.{bytes_of_words}
use Rattle.event_forms.specs.Forms.{kind_seen, event_seen, seen, EventIn, FormIn, IsStaticKind}
use Rattle.actions.specs.declared.action.Next.{Next}
use Rattle.actions.specs.declared.action.Next.TheVariants.{Blocked, Broken}
use Rattle.mem_seq.specs.declared.memory.Memory.{Memory}
use Rattle.mem_seq.specs.declared.memory.Note.{Note}
use Rattle.mem_seq.specs.declared.memory.Note.TheVariants as notes
use Rattle.actions.specs.declared.action.Action.TheVariants as actions
use Rattle.actions.specs.declared.action.Answer.TheVariants as answers
use Rattle.event_forms.specs.Accesses.{access_class, same_bytes, behind}
use Rattle.mem_seq.specs.Goals.{breaks_or, breaks_from}
use Rattle.mem_seq.specs.Notes.{NoteIn, IsNote, AreNotes}
use Rattle.mem_seq.specs.Memories.{StandsFor, MemoryIn, written_in}
use Rattle.mem_seq.proofs.Written.{stands_stay, break_same}
use Rattle.event_forms.proofs.Stays.{event_stays}
use Rattle.event_forms.proofs.Behind.{behind_append}
use Rattle.event_forms.proofs.Accesses.{read_class, read_stored, read_given, write_class, write_stored, write_given, draw_given}
use Rattle.mem_seq.proofs.Building.{note_stays}

-- ---- one event

no_class : (c : Option Class) → is_some c ≡ false → c ≡ None
no_class None h = refl
no_class (Some class) h = absurd (let wrong : true ≡ false = h in cc)

-- a check that isn't broken
pub none_broken : (c d : Option Class) → c ≡ d → is_some c ≡ false → d ≡ None
none_broken c d same h = sym same ∙ no_class c h

some_broken : (c : Option Class) (later : Bool) → is_some c ≡ true → breaks_or c later ≡ true
some_broken None later h = absurd (let wrong : false ≡ true = h in cc)
some_broken (Some class) later h = refl

unchanged : (c : Option Class) (objects new : Objects) → is_some c ≡ true → unless_changed c objects new ≡ objects
unchanged None objects new h = absurd (let wrong : false ≡ true = h in cc)
unchanged (Some class) objects new h = refl

behind_by : (b : Bool) (objects : Objects) (told : List Seen) → behind objects told ≡ objects → behind objects (if b then told else []) ≡ objects
behind_by true objects told h = h
behind_by false objects told h = refl

behind_if : (b : Bool) (objects after : Objects) (told : List Seen) → behind objects told ≡ after → (if b then after else objects) ≡ behind objects (if b then told else [])
behind_if true objects after told h = sym h
behind_if false objects after told h = refl

ends_or : (b : Bool) (objects : Objects) (end : Next) → behind objects (if b then stopped end ∷ [] else []) ≡ objects
ends_or true objects end = refl
ends_or false objects end = refl

alone_or : (b : Bool) (objects : Objects) (end : Next) (later : Bool) → breaks_from objects (if b then stopped end ∷ [] else []) later ≡ breaks_from [] (if b then stopped end ∷ [] else []) later
alone_or true objects end later = refl
alone_or false objects end later = refl

-- the store that is there behind an event which changes none
module _ (d e : List Node) (ev : Event) (m : Memory) (x : Extends d e) (within : MemoryIn d m) where
  pub stands_behind : ((v : ℕ → ℕ) (objects : Objects) → StandsFor v d m objects → behind objects (kind_seen v d ev.line ev.function ev.kind) ≡ objects)
      → (v : ℕ → ℕ) (objects : Objects) → StandsFor v d m objects → StandsFor v e m (behind objects (event_seen v d ev))
  stands_behind same v objects stands =
      subst (StandsFor v e m) (sym (behind_by (holds (value v d ev.guard)) objects (kind_seen v d ev.line ev.function ev.kind) (same v objects stands))) (stands_stay v d e (written_in m) m.store.now objects x within stands)

-- the kinds that change none
module _ (v : ℕ → ℕ) (d : List Node) (line f : ℕ) (objects : Objects) (k : EventKind) where
  pub draw_leaves : (bits : ℕ) (answer : Id) → k ≡ kinds.Draw bits answer → behind objects (kind_seen v d line f k) ≡ objects
  draw_leaves bits answer is = ap (λ (j : EventKind). behind objects (kind_seen v d line f j)) is

  pub read_leaves : (pointer : Id) (count : ℕ) (answer : List Id) → k ≡ kinds.Read pointer count answer → behind objects (kind_seen v d line f k) ≡ objects
  read_leaves pointer count answer is =
      ap (λ (j : EventKind). behind objects (kind_seen v d line f j)) is ∙ read_stored objects (value v d pointer) count (answers.Bytes (bytes_of_words count (map (value v d) answer)))

  pub exit_leaves : k ≡ kinds.Exit → behind objects (kind_seen v d line f k) ≡ objects
  exit_leaves is = ap (λ (j : EventKind). behind objects (kind_seen v d line f j)) is

  pub check_leaves : (class : Class) (failing : Id) → k ≡ kinds.Check class failing → behind objects (kind_seen v d line f k) ≡ objects
  check_leaves class failing is = ap (λ (j : EventKind). behind objects (kind_seen v d line f j)) is ∙ ends_or (holds (value v d failing)) objects (Broken class line f)

  pub assume_leaves : (failing : Id) → k ≡ kinds.Assume failing → behind objects (kind_seen v d line f k) ≡ objects
  assume_leaves failing is = ap (λ (j : EventKind). behind objects (kind_seen v d line f j)) is ∙ ends_or (holds (value v d failing)) objects Blocked

  pub broken_write_leaves : (pointer : Id) (p : ℕ) (bytes : List Id) → k ≡ kinds.Write pointer bytes false → value v d pointer ≡ p → is_some (break_in objects true p (length bytes)) ≡ true → behind objects (kind_seen v d line f k) ≡ objects
  broken_write_leaves pointer p bytes is p_is broken =
      let q = value v d pointer in
      let same : break_in objects true p (length bytes) ≡ break_in objects true q (length (map (value v d) bytes)) = (λ i. break_in objects true (sym p_is i) (sym (length-map bytes (value v d)) i)) in
      ap (λ (j : EventKind). behind objects (kind_seen v d line f j)) is ∙ write_stored objects q (map (value v d) bytes) false answers.Done
      ∙ unchanged (break_in objects true q (length (map (value v d) bytes))) objects (with_bytes objects q (map (value v d) bytes)) (sym (ap is_some same) ∙ broken)

  pub write_leaves : (pointer : Id) (p : ℕ) (bytes new : List Id) → k ≡ kinds.Write pointer bytes false → value v d pointer ≡ p → new ≡ bytes → break_in objects true p (length new) ≡ None → behind objects (kind_seen v d line f k) ≡ with_bytes objects p (map (value v d) new)
  write_leaves pointer p bytes new is p_is new_is fine =
      let q = value v d pointer in
      let same : break_in objects true p (length new) ≡ break_in objects true q (length (map (value v d) bytes)) = (λ i. break_in objects true (sym p_is i) (length (new_is i))) ∙ ap (break_in objects true q) (sym (length-map bytes (value v d))) in
      ap (λ (j : EventKind). behind objects (kind_seen v d line f j)) is ∙ write_stored objects q (map (value v d) bytes) false answers.Done
      ∙ ap (λ (c : Option Class). unless_changed c objects (with_bytes objects q (map (value v d) bytes))) (sym same ∙ fine)
      ∙ (λ i. with_bytes objects (p_is i) (map (value v d) (sym new_is i)))

-- a write of a static object doesn't initialize it
pub written_kind : (d : List Node) (k : EventKind) (pointer : Id) (bytes : List Id) (first : Bool) → k ≡ kinds.Write pointer bytes first → IsStaticKind d k → k ≡ kinds.Write pointer bytes false
written_kind d k pointer bytes first is static = is ∙ ap (kinds.Write pointer bytes) (let own : IsStaticKind d (kinds.Write pointer bytes first) = subst (IsStaticKind d) is static in own.1)

-- ---- notes

module _ (e : List Node) (ev : Event) (stores : (ℕ → ℕ) → Objects) where
  told_as : (k : EventKind) → ev.kind ≡ k → (v : ℕ → ℕ) (later : Bool) → breaks_from (stores v) (kind_seen v e ev.line ev.function ev.kind) later ≡ breaks_from (stores v) (kind_seen v e ev.line ev.function k) later
  told_as k is v later = ap (λ (j : EventKind). breaks_from (stores v) (kind_seen v e ev.line ev.function j) later) is

  alone_as : (k : EventKind) → ev.kind ≡ k → ((v : ℕ → ℕ) (later : Bool) → breaks_from (stores v) (kind_seen v e ev.line ev.function k) later ≡ breaks_from [] (kind_seen v e ev.line ev.function k) later) → IsNote stores e ev notes.Alone
  alone_as k is same v later = told_as k is v later ∙ same v later ∙ ap (λ (j : EventKind). breaks_from [] (kind_seen v e ev.line ev.function j) later) (sym is)

  pub draw_note : (bits : ℕ) (answer : Id) → ev.kind ≡ kinds.Draw bits answer → IsNote stores e ev notes.Passes
  draw_note bits answer is v later = told_as (kinds.Draw bits answer) is v later ∙ ap (λ b. b && later) (draw_given (stores v) bits (value v e answer))

  pub exit_note : ev.kind ≡ kinds.Exit → IsNote stores e ev notes.Alone
  exit_note is = alone_as kinds.Exit is (λ v later. refl)

  pub check_note : (class : Class) (failing : Id) → ev.kind ≡ kinds.Check class failing → IsNote stores e ev notes.Alone
  check_note class failing is = alone_as (kinds.Check class failing) is (λ v later. alone_or (holds (value v e failing)) (stores v) (Broken class ev.line ev.function) later)

  pub assume_note : (failing : Id) → ev.kind ≡ kinds.Assume failing → IsNote stores e ev notes.Alone
  assume_note failing is = alone_as (kinds.Assume failing) is (λ v later. alone_or (holds (value v e failing)) (stores v) Blocked later)

  pub broken_read_note : (pointer : Id) (count p : ℕ) (answer : List Id) → ev.kind ≡ kinds.Read pointer count answer → ((v : ℕ → ℕ) → value v e pointer ≡ p) → ((v : ℕ → ℕ) → is_some (break_in (stores v) false p count) ≡ true) → IsNote stores e ev notes.Breaks
  broken_read_note pointer count p answer is p_is broken v later =
      let q = value v e pointer in
      let a = answers.Bytes (bytes_of_words count (map (value v e) answer)) in
      told_as (kinds.Read pointer count answer) is v later
      ∙ some_broken (access_class (stores v) (actions.Read q count) a) _ (ap is_some (read_class (stores v) q count a) ∙ ap (λ r. is_some (break_in (stores v) false r count)) (p_is v) ∙ broken v)

  pub broken_write_note : (pointer : Id) (p : ℕ) (bytes : List Id) → ev.kind ≡ kinds.Write pointer bytes false → ((v : ℕ → ℕ) → value v e pointer ≡ p) → ((v : ℕ → ℕ) → is_some (break_in (stores v) true p (length bytes)) ≡ true) → IsNote stores e ev notes.Breaks
  broken_write_note pointer p bytes is p_is broken v later =
      let q = value v e pointer in
      let same : break_in (stores v) true q (length (map (value v e) bytes)) ≡ break_in (stores v) true p (length bytes) = (λ i. break_in (stores v) true (p_is v i) (length-map bytes (value v e) i)) in
      let new = map (value v e) bytes in
      told_as (kinds.Write pointer bytes false) is v later
      ∙ some_broken (access_class (stores v) (actions.Write q new false) answers.Done) _ (ap is_some (write_class (stores v) q new false answers.Done ∙ same) ∙ broken v)

  pub write_note : (d : List Node) (pointer : Id) (p : ℕ) (bytes new : List Id) → Extends d e → Within d pointer → ev.kind ≡ kinds.Write pointer bytes false → ((v : ℕ → ℕ) → value v d pointer ≡ p) → new ≡ bytes → ((v : ℕ → ℕ) → break_in (stores v) true p (length new) ≡ None) → IsNote stores e ev notes.Passes
  write_note d pointer p bytes new x pointer_there is p_is new_is fine v later =
      let q = value v e pointer in
      let q_is : q ≡ p = x.value_stays v pointer pointer_there ∙ p_is v in
      let same : break_in (stores v) true q (length (map (value v e) bytes)) ≡ break_in (stores v) true p (length new) = ap (break_in (stores v) true q) (length-map bytes (value v e)) ∙ (λ i. break_in (stores v) true (q_is i) (length (sym new_is i))) in
      let own = map (value v e) bytes in
      let class_is : access_class (stores v) (actions.Write q own false) answers.Done ≡ None = write_class (stores v) q own false answers.Done ∙ same ∙ fine v in
      told_as (kinds.Write pointer bytes false) is v later ∙ (λ i. breaks_or (class_is i) (write_given (stores v) q own false (same ∙ fine v) i && later))

  pub read_note : (d : List Node) (pointer : Id) (count p : ℕ) (answer words : List Id) (test : Id) → Extends d e → Within d ev.guard → Within d pointer → All (Within d) answer → ev.kind ≡ kinds.Read pointer count answer → ((v : ℕ → ℕ) → value v d pointer ≡ p) → words ≡ answer
      → ((v : ℕ → ℕ) → break_in (stores v) false p count ≡ None)
      → ((v : ℕ → ℕ) → holds (value v d ev.guard) ≡ true → holds (value v e test) ≡ same_bytes (bytes_of_words count (map (value v d) words)) (bytes_at (stores v) p count)) → IsNote stores e ev (notes.Gives test)
  read_note d pointer count p answer words test x guard_there pointer_there there is p_is words_are fine given v later guard_is =
      let q = value v e pointer in
      let q_is : q ≡ p = x.value_stays v pointer pointer_there ∙ p_is v in
      let bytes = bytes_of_words count (map (value v e) answer) in
      let test_is : same_bytes bytes (bytes_at (stores v) q count) ≡ holds (value v e test) =
      (λ i. same_bytes (bytes_of_words count (map_stays v d e answer x there i)) (bytes_at (stores v) q count)) ∙ (λ i. same_bytes (bytes_of_words count (map (value v d) (sym words_are i))) (bytes_at (stores v) (q_is i) count)) ∙ sym (given v (ap holds (sym (x.value_stays v ev.guard guard_there)) ∙ guard_is)) in
      let none : break_in (stores v) false q count ≡ None = ap (λ r. break_in (stores v) false r count) q_is ∙ fine v in
      let class_is : access_class (stores v) (actions.Read q count) (answers.Bytes bytes) ≡ None = read_class (stores v) q count (answers.Bytes bytes) ∙ none in
      told_as (kinds.Read pointer count answer) is v later
      ∙ (λ i. breaks_or (class_is i) (read_given (stores v) q count bytes none i && later))
      ∙ ap (λ b. b && later) test_is

-- without objects each access breaks one
pub no_object : (writes : Bool) (p n : ℕ) → is_some (break_in [] writes p n) ≡ true
no_object writes p n = by (object_of p == 0)
  where
    by : (b : Bool) → is_some (if b then Some Null else Some InvalidPointer) ≡ true
    by true = refl
    by false = refl

pub broken_read_alone : (e : List Node) (ev : Event) (pointer : Id) (count : ℕ) (answer : List Id) → ev.kind ≡ kinds.Read pointer count answer → IsNote (λ v. []) e ev notes.Breaks
broken_read_alone e ev pointer count answer is v later =
    let a = answers.Bytes (bytes_of_words count (map (value v e) answer)) in
    ap (λ (j : EventKind). breaks_from [] (kind_seen v e ev.line ev.function j) later) is
    ∙ some_broken (access_class [] (actions.Read (value v e pointer) count) a) _ (ap is_some (read_class [] (value v e pointer) count a) ∙ no_object false (value v e pointer) count)

pub broken_write_alone : (e : List Node) (ev : Event) (pointer : Id) (bytes : List Id) (first : Bool) → ev.kind ≡ kinds.Write pointer bytes first → IsStaticKind e ev.kind → IsNote (λ v. []) e ev notes.Breaks
broken_write_alone e ev pointer bytes first is static v later =
    let new = map (value v e) bytes in
    ap (λ (j : EventKind). breaks_from [] (kind_seen v e ev.line ev.function j) later) (written_kind e ev.kind pointer bytes first is static)
    ∙ some_broken (access_class [] (actions.Write (value v e pointer) new false) answers.Done) _ (ap is_some (write_class [] (value v e pointer) new false answers.Done) ∙ no_object true (value v e pointer) (length new))

-- the checks of accesses are those of the store at the start
pub some_break : (v : ℕ → ℕ) (d : List Node) (m : Memory) (objects : Objects) (writes : Bool) (p n : ℕ) (c : Option Class) → StandsFor v d m objects → c ≡ break_in m.store.now writes p n → is_some c ≡ true → is_some (break_in objects writes p n) ≡ true
some_break v d m objects writes p n c stands is broken = ap is_some (break_same v d (written_in m) m.store.now objects stands writes p n ∙ sym is) ∙ broken

pub no_break : (v : ℕ → ℕ) (d : List Node) (m : Memory) (objects : Objects) (writes : Bool) (p n : ℕ) (c : Option Class) → StandsFor v d m objects → c ≡ break_in m.store.now writes p n → is_some c ≡ false → break_in objects writes p n ≡ None
no_break v d m objects writes p n c stands is fine = break_same v d (written_in m) m.store.now objects stands writes p n ∙ none_broken c (break_in m.store.now writes p n) is fine

-- behind a write
pub stands_written : (v : ℕ → ℕ) (d e : List Node) (ev : Event) (m n : Memory) (objects after : Objects) → behind objects (kind_seen v d ev.line ev.function ev.kind) ≡ after → StandsFor v e n (if holds (value v d ev.guard) then after else objects)
    → StandsFor v e n (behind objects (event_seen v d ev))
stands_written v d e ev m n objects after is stands = subst (StandsFor v e n) (behind_if (holds (value v d ev.guard)) objects after (kind_seen v d ev.line ev.function ev.kind) is) stands

-- ---- one event after the other

pub notes_push : (stores : (ℕ → ℕ) → Objects) (d : List Node) (es : List Event) (ns : List Note) (ev : Event) (n : Note) → AreNotes stores d es ns → IsNote (λ v. behind (stores v) (seen v d es)) d ev n → AreNotes stores d (es ++ ev ∷ []) (ns ++ n ∷ [])
notes_push stores d [] [] ev n h is = (is, tt)
notes_push stores d [] (m ∷ ns) ev n h is = absurd h
notes_push stores d (e ∷ es) [] ev n h is = absurd h
notes_push stores d (e ∷ es) (m ∷ ns) ev n h is =
    let same : (λ (v : ℕ → ℕ). behind (stores v) (event_seen v d e ++ seen v d es)) ≡ (λ v. behind (behind (stores v) (event_seen v d e)) (seen v d es)) = λ k v. behind_append (stores v) (event_seen v d e) (seen v d es) k in
    (h.0, notes_push (λ v. behind (stores v) (event_seen v d e)) d es ns ev n h.1 (subst (λ (s : (ℕ → ℕ) → Objects). IsNote s d ev n) same is))

pub notes_stay : (stores : (ℕ → ℕ) → Objects) (d e : List Node) (es : List Event) (ns : List Note) → Extends d e → FormIn d es → All (NoteIn d) ns → AreNotes stores d es ns → AreNotes stores e es ns
notes_stay stores d e [] [] x form within h = tt
notes_stay stores d e [] (n ∷ ns) x form within h = absurd h
notes_stay stores d e (ev ∷ es) [] x form within h = absurd h
notes_stay stores d e (ev ∷ es) (n ∷ ns) x form within h =
    let here = All-head (EventIn d) ev es form in
    let same : (λ (v : ℕ → ℕ). behind (stores v) (event_seen v d ev)) ≡ (λ v. behind (stores v) (event_seen v e ev)) = λ k v. behind (stores v) (sym (event_stays d e x v ev here) k) in (
      note_stays d e ev n stores x here (All-head (NoteIn d) n ns within) h.0,
      subst (λ (s : (ℕ → ℕ) → Objects). AreNotes s e es ns) same (notes_stay (λ v. behind (stores v) (event_seen v d ev)) d e es ns x (All-tail (EventIn d) ev es form) (All-tail (NoteIn d) n ns within) h.1),
    )
