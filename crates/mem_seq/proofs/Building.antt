-- The goal of a formula, from the last event to the first.
use Rattle.std.proofs.Common.{◌≡◌, ◌<◌, ◌^◌, ◌≤◌, ◌+◌, ◌-◌, ℕ, zero, suc, Bool, true, false, ◌&&◌, ◌||◌, List, [], ◌∷◌, ◌++◌, length, get_or, take, drop, Option, Some, None, refl, sym, ◌∙◌, ap, subst, arith}
use Rattle.std.specs.Prelude.{All, min, if◌then◌else◌}
use Rattle.std.proofs.Math.Seq.{drop-cons}
use Rattle.words.specs.declared.check.Class.{Class}
use Rattle.actions.specs.Behaviour.{Thread, word_64}
use Rattle.actions.specs.Objects.{Objects}
use Rattle.actions.specs.declared.action.Action.{Action}
use Rattle.actions.specs.declared.action.Answer.{Answer}
use Rattle.actions.specs.declared.action.Next.TheVariants.{Ended}
use Rattle.word_dag.specs.declared.nodes.Id.{Id}
use Rattle.word_dag.specs.declared.nodes.Node.{Node}
use Rattle.word_dag.specs.Meaning.{value, holds, bit_value}
use Rattle.word_dag.specs.Fitting.{is_ordered}
use Rattle.word_dag.specs.Growth.{Extends}
use Rattle.word_dag.proofs.Grown.{extends_more}
use Rattle.word_dag.proofs.Truth.{holds_bit}
use Rattle.value_nodes.specs.Values.{IsTest}
use Rattle.interleave.specs.World.{first_world}
use Rattle.interleave.specs.Run.{run}
use Rattle.event_forms.specs.declared.forms.Event.{Event}
use Rattle.event_forms.specs.declared.forms.EventKind.{EventKind}
use Rattle.event_forms.specs.Runs.{Run, stops, asks}
use Rattle.event_forms.specs.Arrivals.{Seen, asked, stopped, read}
use Rattle.event_forms.specs.Forms.{kind_seen, event_seen, seen, run_read, Form, IsForm, IsBit, EventIn, KindIn, FormIn, IsStaticKind, AreStatic}
use Rattle.event_forms.proofs.Stays as kept
use Rattle.event_forms.specs.declared.formula.Formula.{Formula}
use Rattle.mem_seq.specs.declared.memory.Note.{Note}
use Rattle.mem_seq.specs.declared.memory.Note.TheVariants as notes
use Rattle.event_forms.specs.Accesses.{AreFirst, access_class, is_given, stored_by, unless, checked, agrees, behind}
use Rattle.event_forms.specs.Turns.{breaks}
use Rattle.event_forms.proofs.Behind.{behind_append, store_at, store_next}
use Rattle.mem_seq.specs.Goals.{breaks_or, breaks_from}
use Rattle.mem_seq.specs.declared.chain.Chain.{Chain}
use Rattle.mem_seq.specs.declared.chain.Part.{Part}
use Rattle.mem_seq.specs.declared.chain.Part.TheVariants.{Breaks}
use Rattle.mem_seq.specs.Chains.{with_part, chain_value, ChainIn}
use Rattle.mem_seq.proofs.Chaining.{chain_stays}
use Rattle.mem_seq.specs.Notes.{NoteIn, IsNote, AreNotes}
use Rattle.event_forms.specs.Goals.{IsGoal}
use Rattle.event_forms.specs.Formulas.{run_of, told_by, IsFormula, FormulaIn}
use Rattle.event_forms.proofs.OneThread.{is_goal, is_formula}

-- ---- one event

pub same_test : (d : List Node) (i : Id) (x y : (ℕ → ℕ) → Bool) → ((v : ℕ → ℕ) → x v ≡ y v) → IsTest d i x → IsTest d i y
same_test d i x y same test = record { there = test.there; width_is = test.width_is; value_is = λ v. test.value_is v ∙ ap bit_value (same v) }

-- by whether its guard is true
guarded : (b : Bool) (objects : Objects) (told : List Seen) (x later : Bool) → breaks_from objects told later ≡ x → (if b then x else later) ≡ breaks_from objects (if b then told else []) later
guarded true objects told x later is = sym is
guarded false objects told x later is = refl

if_same : (b x : Bool) → x ≡ (if b then x else x)
if_same true x = refl
if_same false x = refl

if_true : (b later : Bool) → (b || later) ≡ (if b then true else later)
if_true true later = refl
if_true false later = refl

pub test_is : (d : List Node) (i : Id) (f : (ℕ → ℕ) → Bool) → IsTest d i f → (v : ℕ → ℕ) → holds (value v d i) ≡ f v
test_is d i f made v = ap holds (made.value_is v) ∙ holds_bit (f v)

-- what the event adds where its guard is true, and else nothing
module _ (d e : List Node) (ev : Event) (stores : (ℕ → ℕ) → Objects) where
  abbrev guard : (ℕ → ℕ) → Bool
  guard v = holds (value v d ev.guard)

  pub passes_part : IsNote stores d ev notes.Passes → (v : ℕ → ℕ) (later : Bool) → breaks_from (stores v) (event_seen v d ev) later ≡ later
  passes_part note v later = sym (if_same (guard v) later ∙ guarded (guard v) (stores v) (kind_seen v d ev.line ev.function ev.kind) later later (note v later))

  pub breaks_part : Extends d e → EventIn d ev → IsNote stores d ev notes.Breaks → (v : ℕ → ℕ) (later : Bool) → breaks_from (stores v) (event_seen v d ev) later ≡ with_part v e (Breaks ev.guard) later
  breaks_part x there note v later =
      sym (if_true (guard v) later ∙ guarded (guard v) (stores v) (kind_seen v d ev.line ev.function ev.kind) true later (note v later))
      ∙ ap (λ n. holds n || later) (sym (x.value_stays v ev.guard there.guard.there))

-- ---- events that stay

bit_stays : (d e : List Node) (i : Id) → Extends d e → IsBit d i → IsBit e i
bit_stays d e i x bit = record { there = omega (arith, x.longer, bit.there); width_is = x.width_stays i bit.there ∙ bit.width_is }

pub kind_in_stays : (d e : List Node) (k : EventKind) → Extends d e → KindIn d k → KindIn e k
kind_in_stays d e k x there = kept.kind_stays d e x k there

pub event_in_stays : (d e : List Node) (ev : Event) → Extends d e → EventIn d ev → EventIn e ev
event_in_stays d e ev x there = kept.event_in_stays d e x ev there

pub static_kind_stays : (d e : List Node) (k : EventKind) → Extends d e → IsStaticKind d k → IsStaticKind e k
static_kind_stays d e k x static = kept.static_stays d e x k static

pub form_in_stays : (d e : List Node) (es : List Event) → Extends d e → FormIn d es → FormIn e es
form_in_stays d e es x there = λ k i l. event_in_stays d e (get_or es k i) x (there k i l)

pub event_there : (d e : List Node) (es : List Event) (k : ℕ) (ev : Event) → Extends d e → FormIn d es → k < length es → ev ≡ get_or es k ev → EventIn e ev
event_there d e es k ev x form lt is = event_in_stays d e ev x (subst (EventIn d) (sym is) (form k ev lt))

pub static_there : (d e : List Node) (es : List Event) (k : ℕ) (ev : Event) → Extends d e → AreStatic d es → k < length es → ev ≡ get_or es k ev → IsStaticKind e ev.kind
static_there d e es k ev x static lt is = static_kind_stays d e ev.kind x (subst (λ (i : Event). IsStaticKind d i.kind) (sym is) (static k ev lt))

pub note_in_stays : (d e : List Node) (n : Note) → Extends d e → NoteIn d n → NoteIn e n
note_in_stays d e notes.Passes x there = tt
note_in_stays d e notes.Breaks x there = tt
note_in_stays d e (notes.Gives i) x there = bit_stays d e i x there
note_in_stays d e notes.Alone x there = tt

pub note_stays : (d e : List Node) (ev : Event) (n : Note) (stores : (ℕ → ℕ) → Objects) → Extends d e → EventIn d ev → NoteIn d n → IsNote stores d ev n → IsNote stores e ev n
note_stays d e ev notes.Passes stores x there within is = λ v later. (λ k. breaks_from (stores v) (kept.kind_seen_stays d e x v ev.line ev.function ev.kind there.kind k) later) ∙ is v later
note_stays d e ev notes.Breaks stores x there within is = λ v later. (λ k. breaks_from (stores v) (kept.kind_seen_stays d e x v ev.line ev.function ev.kind there.kind k) later) ∙ is v later
note_stays d e ev (notes.Gives i) stores x there within is = λ v later guard_is.
    (λ k. breaks_from (stores v) (kept.kind_seen_stays d e x v ev.line ev.function ev.kind there.kind k) later) ∙ is v later (ap holds (sym (x.value_stays v ev.guard there.guard.there)) ∙ guard_is) ∙ (λ k. holds (sym (x.value_stays v i within.there) k) && later)
note_stays d e ev notes.Alone stores x there within is = λ v later.
    let same = kept.kind_seen_stays d e x v ev.line ev.function ev.kind there.kind in
    (λ k. breaks_from (stores v) (same k) later) ∙ is v later ∙ sym (λ k. breaks_from [] (same k) later)

-- ---- all events

pub breaks_append : (objects : Objects) (xs ys : List Seen) (later : Bool) → breaks_from objects (xs ++ ys) later ≡ breaks_from objects xs (breaks_from (behind objects xs) ys later)
breaks_append objects [] ys later = refl
breaks_append objects (asked action line f a ∷ xs) ys later = ap (λ b. breaks_or (access_class objects action a) (is_given objects action a && b)) (breaks_append (stored_by objects action a) xs ys later)
breaks_append objects (stopped end ∷ xs) ys later = refl

both_given : (g a b later : Bool) → (a && b) ≡ later → ((g && a) && b) ≡ (g && later)
both_given true a b later is = is
both_given false a b later is = refl

checked_by : (c : Option Class) (objects : Objects) (action : Action) (line f : ℕ) (a : Answer) (rest : Run) (later : Bool) → (agrees (stored_by objects action a) rest && breaks rest) ≡ later
    → (agrees objects (unless c line f (asks action line f a rest)) && breaks (unless c line f (asks action line f a rest))) ≡ breaks_or c (is_given objects action a && later)
checked_by None objects action line f a rest later is = both_given (is_given objects action a) (agrees (stored_by objects action a) rest) (breaks rest) later is
checked_by (Some class) objects action line f a rest later is = refl

pub breaks_read : (objects : Objects) (told : List Seen) → (let r = checked objects (read told (stops (Ended (word_64 0)))) in (agrees objects r && breaks r) ≡ breaks_from objects told false)
breaks_read objects [] = refl
breaks_read objects (asked action line f a ∷ told) =
    checked_by (access_class objects action a) objects action line f a (checked (stored_by objects action a) (read told (stops (Ended (word_64 0))))) (breaks_from (stored_by objects action a) told false) (breaks_read (stored_by objects action a) told)
breaks_read objects (stopped end ∷ told) = refl

pub notes_long : (stores : (ℕ → ℕ) → Objects) (d : List Node) (es : List Event) (ns : List Note) → AreNotes stores d es ns → length ns ≡ length es
notes_long stores d [] [] h = refl
notes_long stores d [] (n ∷ ns) h = absurd h
notes_long stores d (e ∷ es) [] h = absurd h
notes_long stores d (e ∷ es) (n ∷ ns) h = ap suc (notes_long (λ v. behind (stores v) (event_seen v d e)) d es ns h.1)

pub note_at : (stores : (ℕ → ℕ) → Objects) (d : List Node) (es : List Event) (ns : List Note) (at : ℕ) (ev : Event) (n : Note) → at < length es → AreNotes stores d es ns → IsNote (λ v. behind (stores v) (seen v d (take at es))) d (get_or es at ev) (get_or ns at n)
note_at stores d [] ns at ev n lt h = absurd (omega (arith, lt))
note_at stores d (e ∷ es) [] at ev n lt h = absurd h
note_at stores d (e ∷ es) (m ∷ ns) zero ev n lt h = h.0
note_at stores d (e ∷ es) (m ∷ ns) (suc at) ev n lt h =
    let less : at < length es = omega (arith, lt) in
    let same : (λ (v : ℕ → ℕ). behind (behind (stores v) (event_seen v d e)) (seen v d (take at es))) ≡ (λ v. behind (stores v) (event_seen v d e ++ seen v d (take at es))) =
    λ k v. sym (behind_append (stores v) (event_seen v d e) (seen v d (take at es))) k in
    subst (λ (s : (ℕ → ℕ) → Objects). IsNote s d (get_or es at ev) (get_or ns at n)) same (note_at (λ v. behind (stores v) (event_seen v d e)) d es ns at ev n less h.1)

-- the events from this place on are looked at
pub record Looking (d e : List Node) (objects : Objects) (es : List Event) (chain : Chain) (at : ℕ) : Type 0 where
  pub extends : Extends d e
  pub within : at ≤ length es
  pub chain_in : ChainIn e chain
  pub truth : (v : ℕ → ℕ) → chain_value v e chain ≡ breaks_from (store_at objects d es at v) (seen v d (drop at es)) false

drop_end : (es : List Event) (at : ℕ) → at ≡ length es → drop at es ≡ []
drop_end [] zero same = refl
drop_end [] (suc at) same = refl
drop_end (e ∷ es) zero same = absurd (omega (arith, same))
drop_end (e ∷ es) (suc at) same = drop_end es at (omega (arith, same))

pub looking_none : (d e : List Node) (objects : Objects) (es : List Event) (ns : List Note) (chain : Chain) (at : ℕ) → at ≡ min (length es) (length ns) → AreNotes (λ v. objects) d es ns → Extends d e → ChainIn e chain
    → ((v : ℕ → ℕ) → chain_value v e chain ≡ false) → Looking d e objects es chain at
looking_none d e objects es ns chain at is given x there no_break =
    let same : at ≡ length es = omega (arith, is, notes_long (λ v. objects) d es ns given) in
    record {
      extends = x;
      within = omega (arith, same);
      chain_in = there;
      truth = λ v. no_break v ∙ sym (ap (λ (more : List Event). breaks_from (store_at objects d es at v) (seen v d more) false) (drop_end es at same));
    }

pub looking_more : (d e f g : List Node) (objects : Objects) (es : List Event) (ns : List Note) (ev : Event) (n : Note) (old new : Chain) (p : Part) (at : ℕ) → FormIn d es → All (NoteIn d) ns → AreNotes (λ v. objects) d es ns
    → Looking d e objects es old (at + 1) → ev ≡ get_or es at ev → n ≡ get_or ns at n → Extends e f → Extends f g
    → ((stores : (ℕ → ℕ) → Objects) → IsNote stores e ev n → (v : ℕ → ℕ) (later : Bool) → breaks_from (stores v) (event_seen v e ev) later ≡ with_part v f p later)
    → ChainIn g new → ((v : ℕ → ℕ) → chain_value v g new ≡ with_part v f p (chain_value v f old)) → Looking d g objects es new at
looking_more d e f g objects es ns ev n old new p at there notes_there given l is is_note x y makes new_in takes =
    let lt : at < length es = omega (arith, l.within) in
    let here : EventIn d ev = subst (EventIn d) (sym is) (there at ev lt) in
    let note_here : NoteIn d n = subst (NoteIn d) (sym is_note) (notes_there at n (omega (arith, lt, notes_long (λ v. objects) d es ns given))) in
    let stores = store_at objects d es at in
    let note_is : IsNote stores d ev n = subst (λ (m : Note). IsNote stores d ev m) (sym is_note) (subst (λ (k : Event). IsNote stores d k (get_or ns at n)) (sym is) (note_at (λ v. objects) d es ns at ev n lt given)) in
    let made = makes stores (note_stays d e ev n stores l.extends here note_here note_is) in
    record {
      extends = extends_more d f g (extends_more d e f l.extends x) y;
      within = omega (arith, lt);
      chain_in = new_in;
      truth = λ v.
          let rest = drop (at + 1) es in
          let next_place : suc at ≡ at + 1 = omega arith in
          let first : drop at es ≡ ev ∷ rest = drop-cons es at ev lt ∙ (λ k. sym is k ∷ drop (next_place k) es) in
          let later : chain_value v f old ≡ breaks_from (store_at objects d es (at + 1) v) (seen v d rest) false = chain_stays v e f old x l.chain_in ∙ l.truth v in
          takes v
          ∙ sym (made v (chain_value v f old))
          ∙ (λ k. breaks_from (stores v) (kept.event_stays d e l.extends v ev here k) (later k))
          ∙ ap (λ (os : Objects). breaks_from (stores v) (event_seen v d ev) (breaks_from os (seen v d rest) false)) (store_next objects v d es at ev lt is)
          ∙ sym (breaks_append (stores v) (event_seen v d ev) (seen v d rest) false)
          ∙ ap (λ (more : List Event). breaks_from (stores v) (seen v d more) false) (sym first);
    }

pub looking_step : (d e f g : List Node) (objects : Objects) (es : List Event) (ns : List Note) (ev : Event) (n : Note) (old new : Chain) (p : Part) (at : ℕ) → FormIn d es → All (NoteIn d) ns → AreNotes (λ v. objects) d es ns
    → Looking d e objects es old at → 0 < at → ev ≡ get_or es (at - 1) ev → n ≡ get_or ns (at - 1) n → Extends e f → Extends f g
    → ((stores : (ℕ → ℕ) → Objects) → IsNote stores e ev n → (v : ℕ → ℕ) (later : Bool) → breaks_from (stores v) (event_seen v e ev) later ≡ with_part v f p later)
    → ChainIn g new → ((v : ℕ → ℕ) → chain_value v g new ≡ with_part v f p (chain_value v f old)) → Looking d g objects es new (at - 1)
looking_step d e f g objects es ns ev n old new p at there notes_there given l some is is_note x y makes new_in takes =
    let same : at ≡ at - 1 + 1 = omega (arith, some) in
    looking_more d e f g objects es ns ev n old new p (at - 1) there notes_there given (subst (λ (k : ℕ). Looking d e objects es old k) same l) is is_note x y makes new_in takes

-- each read of the run gets what the store holds, and the run breaks a check
abbrev pub breaks_in : (ℕ → ℕ) → List Node → Form → Bool
breaks_in v d f = agrees f.store (run_of v d f) && breaks (run_of v d f)

pub looking_whole : (d e g : List Node) (objects : Objects) (es : List Event) (chain : Chain) (goal : Id) (at : ℕ) → at ≤ 0 → Looking d e objects es chain at → IsTest g goal (λ v. chain_value v e chain) → IsTest g goal (λ v. breaks_in v d (record { events = es; store = objects }))
looking_whole d e g objects es chain goal zero none l test = same_test g goal _ _ (λ v. l.truth v ∙ sym (breaks_read objects (seen v d es))) test
looking_whole d e g objects es chain goal (suc at) none l test = absurd (omega (arith, none))

-- ---- the formula

module _ (d e : List Node) (f : Formula) (t : Thread) (ordered : is_ordered e ≡ true) (x : Extends d e) (there : FormIn d f.form.events) (room : length f.form.store + length f.form.events < 2 ^ 32) (goal : IsTest e f.goal (λ v. breaks_in v d f.form)) (all : AreFirst f.form.store) (form : IsForm t.behaves d f.form.events) where
  stays : (v : ℕ → ℕ) → run_read v e f.form.events ≡ run_read v d f.form.events
  stays v = kept.run_stays d e x v f.form.events there

  is_true : (v : ℕ → ℕ) → value v e f.goal ≡ bit_value (breaks_in v e f.form)
  is_true v = goal.value_is v ∙ (λ k. bit_value (let r = checked f.form.store (sym (stays v) k) in agrees f.form.store r && breaks r))

  there_later : FormIn e f.form.events
  there_later = kept.form_stays d e x f.form.events there

  form_later : IsForm t.behaves e f.form.events
  form_later = kept.is_form_stays d e x t.behaves f.form.events there form

  pub goal_is : IsGoal (first_world t f.form.store) e f.goal (told_by e f.form)
  goal_is = is_goal e f t ordered there_later all room is_true form_later

  pub formula_is : IsFormula (first_world t f.form.store) e f
  formula_is = is_formula e f t ordered there_later all room is_true form_later

pub form_in_later : (d e : List Node) (es own : List Event) → own ≡ es → Extends d e → FormIn d es → FormIn e own
form_in_later d e es own same x there = subst (FormIn e) (sym same) (form_in_stays d e es x there)

pub formula_in : (d m e : List Node) (f : Formula) (given : Form) (test : (ℕ → ℕ) → Bool) → f.form ≡ given → Extends d m → Extends m e → FormIn d given.events → IsTest e f.goal test → FormulaIn e f
formula_in d m e f given test same x y there goal =
    record { there = goal.there; width_is = goal.width_is; form = form_in_later d e given.events f.form.events (ap (λ (g : Form). g.events) same) (extends_more d m e x y) there }

pub static_later : (d e : List Node) (own given : Form) → own ≡ given → Extends d e → AreStatic d given.events → AreStatic e own.events
static_later d e own given same x static = subst (λ (f : Form). AreStatic e f.events) (sym same) (kept.all_static_stay d e x given.events static)

-- a form of a thread is one in a larger graph too
pub is_form_later : (d m e : List Node) (own given : Form) (t : Thread) → own ≡ given → Extends d m → Extends m e → FormIn d given.events → IsForm t.behaves d given.events → IsForm t.behaves e own.events
is_form_later d m e own given t same x y there form =
    subst (λ (g : Form). IsForm t.behaves e g.events) (sym same) (kept.is_form_stays d e (extends_more d m e x y) t.behaves given.events there form)
