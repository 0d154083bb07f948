-- Events that stand for those of a form, one after the other: what they tell, and what it means where a read gives something else than the store holds.
use Rattle.std.proofs.Common.{◌≡◌, ℕ, ◌+◌, ◌<◌, ◌≤◌, ◌^◌, Bool, true, false, ◌&&◌, List, [], ◌∷◌, ◌++◌, length, take, get_or, refl, sym, ap, subst, ◌∙◌, append-nil}
use Rattle.std.specs.Prelude.{All}
use Rattle.std.proofs.lemmas.List.{take_more, take_all}
use Rattle.std.proofs.lemmas.List.Elements.{All-push, All-nil, All-weaker}
use Rattle.actions.specs.Behaviour.{Thread}
use Rattle.actions.specs.Objects.{Objects}
use Rattle.word_dag.specs.declared.nodes.Id.{Id}
use Rattle.word_dag.specs.declared.nodes.Node.{Node}
use Rattle.word_dag.specs.Fitting.{is_ordered}
use Rattle.word_dag.specs.Growth.{Extends}
use Rattle.word_dag.proofs.Grown.{extends_itself, extends_more}
use Rattle.value_nodes.specs.Values.{IsTest}
use Rattle.rewritten_nodes.specs.declared.known.Known.{Known}
use Rattle.rewritten_nodes.specs.Images.{KnownIn, Agrees}
use Rattle.event_forms.specs.declared.forms.Event.{Event}
use Rattle.event_forms.specs.Arrivals.{Seen, asked, stopped}
use Rattle.event_forms.specs.Forms.{event_seen, seen, run_read, EventIn, FormIn, Form, IsForm, IsStaticKind, AreStatic}
use Rattle.event_forms.proofs.Stays.{all_static_stay, event_stays, seen_stays, form_stays}
use Rattle.interleave.specs.World.{first_world}
use Rattle.event_forms.specs.declared.formula.Formula.{Formula}
use Rattle.mem_seq.specs.declared.memory.Memory.{Memory}
use Rattle.mem_seq.specs.declared.memory.Note.{Note}
use Rattle.event_forms.specs.Accesses.{AreFirst, access_class, is_given, stored_by, checked, agrees, behind}
use Rattle.event_forms.specs.Turns.{breaks}
use Rattle.mem_seq.specs.Goals.{breaks_or, breaks_from, gives}
use Rattle.mem_seq.specs.Notes.{NoteIn, IsNote, AreNotes}
use Rattle.mem_seq.specs.Memories.{StandsFor, MemoryIn}
use Rattle.event_forms.specs.Goals.{IsGoal}
use Rattle.event_forms.specs.Formulas.{told_by, IsFormula}
use Rattle.event_forms.proofs.Stores.{left_true, right_true}
use Rattle.event_forms.proofs.Behind.{behind_append, seen_append}
use Rattle.mem_seq.proofs.Building.{note_in_stays, breaks_append, breaks_read, same_test, breaks_in, formula_is, goal_is}
use Rattle.mem_seq.proofs.Noted.{notes_push, notes_stay}

-- ---- what is told

and_true : (a b : Bool) → a ≡ true → b ≡ true → (a && b) ≡ true
and_true true b h k = k
and_true false b h k = absurd (let wrong : false ≡ true = h in cc)

and_assoc : (a b c : Bool) → ((a && b) && c) ≡ (a && (b && c))
and_assoc true b c = refl
and_assoc false b c = refl

pub gives_append : (objects : Objects) (xs ys : List Seen) → gives objects (xs ++ ys) ≡ (gives objects xs && gives (behind objects xs) ys)
gives_append objects [] ys = refl
gives_append objects (asked action line f a ∷ xs) ys =
    ap (λ b. is_given objects action a && b) (gives_append (stored_by objects action a) xs ys) ∙ sym (and_assoc (is_given objects action a) (gives (stored_by objects action a) xs) (gives (behind (stored_by objects action a) xs) ys))
gives_append objects (stopped end ∷ xs) ys = gives_append objects xs ys

lost_by : (g : Bool) (x y : Bool) → (g ≡ true → x ≡ y) → (g && x) ≡ (g && y)
lost_by true x y h = h refl
lost_by false x y h = refl

lost_here : (g rest : Bool) → (g && rest) ≡ false → g ≡ true → rest ≡ false
lost_here true rest h is = h
lost_here false rest h is = absurd (let wrong : false ≡ true = is in cc)

-- where a read gives something else, what is told later is no matter
pub lost : (objects : Objects) (told : List Seen) (x y : Bool) → gives objects told ≡ false → breaks_from objects told x ≡ breaks_from objects told y
lost objects [] x y h = absurd (let wrong : true ≡ false = h in cc)
lost objects (asked action line f a ∷ told) x y h =
    ap (breaks_or (access_class objects action a)) (lost_by (is_given objects action a) (breaks_from (stored_by objects action a) told x) (breaks_from (stored_by objects action a) told y)
    (λ is. lost (stored_by objects action a) told x y (lost_here (is_given objects action a) (gives (stored_by objects action a) told) h is)))
lost objects (stopped end ∷ told) x y h = refl

-- ---- the first events

-- the first k events es of the graph d have the events `others` of the graph e that stand for them
pub record Following (d e : List Node) (store : Objects) (es : List Event) (m : Memory) (known : Known) (others : List Event) (ns : List Note) (k : ℕ) : Type 0 where
  pub extends : Extends d e
  pub memory_in : MemoryIn e m
  pub known_in : KnownIn e known
  pub form : FormIn e others
  pub plain : AreStatic e others
  pub notes_in : All (NoteIn e) ns
  pub stands : (v : ℕ → ℕ) → StandsFor v e m (behind store (seen v e others))
  pub notes : AreNotes (λ v. store) e others ns
  pub agrees : (v : ℕ → ℕ) → gives store (seen v d (take k es)) ≡ true → Agrees v e known
  pub same : (v : ℕ → ℕ) → gives store (seen v d (take k es)) ≡ true → seen v e others ≡ seen v d (take k es)
  pub otherwise : (v : ℕ → ℕ) → gives store (seen v d (take k es)) ≡ false → (x y : Bool) → breaks_from store (seen v e others) x ≡ breaks_from store (seen v d (take k es)) y

pub following_none : (d : List Node) (store : Objects) (es : List Event) (m : Memory) (known : Known) (others : List Event) (ns : List Note) → MemoryIn d m → ((v : ℕ → ℕ) → StandsFor v d m store) → KnownIn d known → ((v : ℕ → ℕ) → Agrees v d known) → others ≡ [] → ns ≡ []
    → Following d d store es m known others ns 0
following_none d store es m known others ns memory_in stands known_in agrees none no_notes =
    let told : (v : ℕ → ℕ) → seen v d others ≡ [] = λ v. ap (seen v d) none in
    record {
      extends = extends_itself d;
      memory_in = memory_in;
      known_in = known_in;
      form = subst (FormIn d) (sym none) (All-nil (EventIn d));
      plain = subst (AreStatic d) (sym none) (All-nil (λ (i : Event). IsStaticKind d i.kind));
      notes_in = subst (All (NoteIn d)) (sym no_notes) (All-nil (NoteIn d));
      stands = λ v. subst (λ (s : List Seen). StandsFor v d m (behind store s)) (sym (told v)) (stands v);
      notes = subst (AreNotes (λ v. store) d others) (sym no_notes) (subst (λ (xs : List Event). AreNotes (λ v. store) d xs []) (sym none) tt);
      agrees = λ v h. agrees v;
      same = λ v h. told v;
      otherwise = λ v h. absurd (let wrong : true ≡ false = h in cc);
    }

-- by whether the events so far gave what the store holds
by_given : {X : Type 0} (g : Bool) → (g ≡ true → X) → (g ≡ false → X) → X
by_given true f h = f refl
by_given false f h = h refl

module _ (d e f : List Node) (store : Objects) (es : List Event) (m n : Memory) (known next : Known) (others more : List Event) (ns noted : List Note) (ev other : Event) (note : Note) (k : ℕ) (in_ : FormIn d es) (c : Following d e store es m known others ns k) (lt : k < length es)
    (is : ev ≡ get_or es k ev) (x : Extends e f) (memory_in : MemoryIn f n) (known_in : KnownIn f next) (other_in : EventIn f other) (other_static : IsStaticKind f other.kind) (note_in : NoteIn f note)
    (is_note : (stores : (ℕ → ℕ) → Objects) → ((v : ℕ → ℕ) → StandsFor v e m (stores v)) → IsNote stores f other note)
    (behind_is : (v : ℕ → ℕ) (objects : Objects) → StandsFor v e m objects → StandsFor v f n (behind objects (event_seen v f other)))
    (same_is : (v : ℕ → ℕ) → Agrees v e known → event_seen v f other ≡ event_seen v e ev)
    (agrees_is : (v : ℕ → ℕ) (objects : Objects) → StandsFor v e m objects → gives objects (event_seen v e ev) ≡ true → Agrees v e known → Agrees v f next)
    (more_is : more ≡ others ++ other ∷ []) (noted_is : noted ≡ ns ++ note ∷ []) where
  here : EventIn d ev
  here = subst (EventIn d) (sym is) (in_ k ev lt)

  own_stays : (v : ℕ → ℕ) → event_seen v e ev ≡ event_seen v d ev
  own_stays v = event_stays d e c.extends v ev here

  one : (v : ℕ → ℕ) (g : List Node) (i : Event) → seen v g (i ∷ []) ≡ event_seen v g i
  one v g i = append-nil (event_seen v g i)

  -- what the events tell with one more
  own_told : (v : ℕ → ℕ) → seen v d (take (k + 1) es) ≡ seen v d (take k es) ++ event_seen v d ev
  own_told v =
      (λ i. seen v d (take_more es k ev lt i)) ∙ (λ i. seen v d (take k es ++ sym is i ∷ [])) ∙ seen_append v d (take k es) (ev ∷ []) ∙ (λ i. seen v d (take k es) ++ one v d ev i)

  other_told : (v : ℕ → ℕ) → seen v f more ≡ seen v e others ++ event_seen v f other
  other_told v =
      ap (seen v f) more_is ∙ seen_append v f others (other ∷ []) ∙ (let p = seen_stays e f x v others c.form in let q = one v f other in λ i. p i ++ q i)

  gives_more : (v : ℕ → ℕ) → gives store (seen v d (take (k + 1) es)) ≡ (gives store (seen v d (take k es)) && gives (behind store (seen v d (take k es))) (event_seen v d ev))
  gives_more v = ap (gives store) (own_told v) ∙ gives_append store (seen v d (take k es)) (event_seen v d ev)

  before : (v : ℕ → ℕ) → gives store (seen v d (take (k + 1) es)) ≡ true → gives store (seen v d (take k es)) ≡ true
  before v h = left_true (gives store (seen v d (take k es))) _ (sym (gives_more v) ∙ h)

  this : (v : ℕ → ℕ) → gives store (seen v d (take (k + 1) es)) ≡ true → gives (behind store (seen v d (take k es))) (event_seen v d ev) ≡ true
  this v h = right_true (gives store (seen v d (take k es))) _ (sym (gives_more v) ∙ h)

  same_event : (v : ℕ → ℕ) → gives store (seen v d (take k es)) ≡ true → event_seen v f other ≡ event_seen v d ev
  same_event v h = same_is v (c.agrees v h) ∙ own_stays v

  same_more : (v : ℕ → ℕ) → gives store (seen v d (take k es)) ≡ true → seen v f more ≡ seen v d (take (k + 1) es)
  same_more v h = other_told v ∙ (let p = c.same v h in let q = same_event v h in λ i. p i ++ q i) ∙ sym (own_told v)

  otherwise_more : (v : ℕ → ℕ) → gives store (seen v d (take (k + 1) es)) ≡ false → (a b : Bool) → breaks_from store (seen v f more) a ≡ breaks_from store (seen v d (take (k + 1) es)) b
  otherwise_more v h a b = by_given (gives store (seen v d (take k es)))
      (λ g. ap (λ (s : List Seen). breaks_from store s a) (same_more v g) ∙ lost store (seen v d (take (k + 1) es)) a b h)
      (λ g. ap (λ (s : List Seen). breaks_from store s a) (other_told v) ∙ breaks_append store (seen v e others) (event_seen v f other) a
      ∙ c.otherwise v g (breaks_from (behind store (seen v e others)) (event_seen v f other) a) (breaks_from (behind store (seen v d (take k es))) (event_seen v d ev) b)
      ∙ sym (breaks_append store (seen v d (take k es)) (event_seen v d ev) b) ∙ ap (λ (s : List Seen). breaks_from store s b) (sym (own_told v)))

  agrees_more : (v : ℕ → ℕ) → gives store (seen v d (take (k + 1) es)) ≡ true → Agrees v f next
  agrees_more v h =
      let told = c.same v (before v h) in
      agrees_is v (behind store (seen v e others)) (c.stands v) ((λ i. gives (behind store (told i)) (own_stays v i)) ∙ this v h) (c.agrees v (before v h))

  pub following_more : Following d f store es n next more noted (k + 1)
  following_more = record {
    extends = extends_more d e f c.extends x;
    memory_in = memory_in;
    known_in = known_in;
    form = subst (FormIn f) (sym more_is) (All-push (EventIn f) others other (form_stays e f x others c.form) other_in);
    plain = subst (AreStatic f) (sym more_is) (All-push (λ (i : Event). IsStaticKind f i.kind) others other (all_static_stay e f x others c.plain) other_static);
    notes_in = subst (All (NoteIn f)) (sym noted_is) (All-push (NoteIn f) ns note (All-weaker (NoteIn e) (NoteIn f) (λ i h. note_in_stays e f i x h) ns c.notes_in) note_in);
    stands = λ v. subst (StandsFor v f n) (sym (behind_append store (seen v e others) (event_seen v f other)) ∙ ap (behind store) (sym (other_told v))) (behind_is v (behind store (seen v e others)) (c.stands v));
    notes =
        let all = notes_stay (λ v. store) e f others ns x c.form c.notes_in c.notes in
        let same : (λ (v : ℕ → ℕ). behind store (seen v e others)) ≡ (λ v. behind store (seen v f others)) = λ i v. behind store (sym (seen_stays e f x v others c.form) i) in
        let last : IsNote (λ v. behind store (seen v f others)) f other note = subst (λ (s : (ℕ → ℕ) → Objects). IsNote s f other note) same (is_note (λ v. behind store (seen v e others)) c.stands) in
        subst (AreNotes (λ v. store) f more) (sym noted_is) (subst (λ (xs : List Event). AreNotes (λ v. store) f xs (ns ++ note ∷ [])) (sym more_is) (notes_push (λ v. store) f others ns other note all last));
    agrees = agrees_more;
    same = λ v h. same_more v (before v h);
    otherwise = otherwise_more;
  }

-- all of them: a run of theirs breaks a check where one of the events does
pub following_all : (d e : List Node) (store : Objects) (es : List Event) (m : Memory) (known : Known) (others : List Event) (ns : List Note) (k : ℕ) → length es ≤ k → Following d e store es m known others ns k
    → (v : ℕ → ℕ) → breaks_from store (seen v e others) false ≡ breaks_from store (seen v d es) false
following_all d e store es m known others ns k done c v =
    let all : seen v d (take k es) ≡ seen v d es = ap (seen v d) (take_all k es done) in
    by_given (gives store (seen v d (take k es)))
    (λ g. ap (λ (s : List Seen). breaks_from store s false) (c.same v g ∙ all))
    (λ g. c.otherwise v g false false ∙ ap (λ (s : List Seen). breaks_from store s false) all)

-- ---- the formula

-- a goal over the events that stand for others is one over these
pub test_of_others : (d m e : List Node) (goal : Id) (given : Form) (first store : Objects) (own others es : List Event) → first ≡ given.store → store ≡ given.store → own ≡ others → es ≡ given.events
    → ((v : ℕ → ℕ) → breaks_from first (seen v m others) false ≡ breaks_from first (seen v d es) false)
    → IsTest e goal (λ v. agrees store (checked store (run_read v m own)) && breaks (checked store (run_read v m own))) → IsTest e goal (λ v. breaks_in v d given)
test_of_others d m e goal given first store own others es first_is store_is own_are es_are same test =
    same_test e goal _ _ (λ v. breaks_read store (seen v m own) ∙ (λ i. breaks_from ((store_is ∙ sym first_is) i) (seen v m (own_are i)) false) ∙ same v ∙ sym (breaks_read first (seen v d es))
    ∙ (λ i. agrees (first_is i) (checked (first_is i) (run_read v d (es_are i))) && breaks (checked (first_is i) (run_read v d (es_are i))))) test

-- what is so of a formula over a form is so where the form is given
abbrev HasRoom : Form → Type 0
HasRoom g = length g.store + length g.events < 2 ^ 32

by_form : (Q : (f : Form) → Type 0) (d : List Node) (f given : Form) (goal : (g : Form) → Type 0) (t : Thread) → f ≡ given
    → (FormIn d f.events → HasRoom f → goal f → AreFirst f.store → IsForm t.behaves d f.events → Q f)
    → FormIn d given.events → HasRoom given → goal given → AreFirst given.store → IsForm t.behaves d given.events → Q given
by_form Q d f given goal t same made =
    let P : Form → Type 0 = λ g. FormIn d g.events → HasRoom g → goal g → AreFirst g.store → IsForm t.behaves d g.events → Q g in
    subst P same made

pub formula_over : (d e : List Node) (f : Formula) (given : Form) (t : Thread) → f.form ≡ given → is_ordered e ≡ true → Extends d e → FormIn d given.events → HasRoom given → IsTest e f.goal (λ v. breaks_in v d given) → AreFirst given.store → IsForm t.behaves d given.events
    → IsFormula (first_world t given.store) e f
formula_over d e f given t same ordered x =
    by_form (λ g. IsFormula (first_world t g.store) e f) d f.form given (λ g. IsTest e f.goal (λ v. breaks_in v d g)) t same (λ there room test first form. formula_is d e f t ordered x there room test first form)

pub goal_over : (d e : List Node) (f : Formula) (given : Form) (t : Thread) → f.form ≡ given → is_ordered e ≡ true → Extends d e → FormIn d given.events → HasRoom given → IsTest e f.goal (λ v. breaks_in v d given) → AreFirst given.store → IsForm t.behaves d given.events
    → IsGoal (first_world t given.store) e f.goal (told_by e f.form)
goal_over d e f given t same ordered x =
    by_form (λ g. IsGoal (first_world t g.store) e f.goal (told_by e f.form)) d f.form given (λ g. IsTest e f.goal (λ v. breaks_in v d g)) t same (λ there room test first form. goal_is d e f t ordered x there room test first form)
