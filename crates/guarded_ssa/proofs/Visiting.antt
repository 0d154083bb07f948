-- A pass over all of the code.
use Rattle.std.proofs.Common.{◌≡◌, ℕ, zero, suc, ◌+◌, ◌^◌, ◌<◌, ◌≤◌, true, false, List, [], ◌∷◌, ◌++◌, length, drop, get_or, Option, Some, None, refl, sym, ap, subst, ◌∙◌, arith, append_assoc}
use Rattle.std.specs.Prelude.{replicate}
use Rattle.std.specs.Prelude.{slice_get}
use Rattle.std.specs.List.{All}
use Rattle.std.proofs.Math.Seq.{drop-cons}
use Rattle.std.proofs.lemmas.List.{length-map}
use Rattle.std.proofs.lemmas.Option.{slice_get-get_or}
use Rattle.goto_prog.specs.Fitting.{code_fits, operation_fits}
use Rattle.goto_prog.proofs.Stepping.{fits_at}
use Rattle.std.proofs.lemmas.List.Elements.{All-head, All-tail, All-same, All-cons, All-nil}
use Rattle.actions.specs.Behaviour.{word_64}
use Rattle.actions.specs.declared.action.Next.TheVariants.{Ended}
use Rattle.word_dag.specs.declared.nodes.Node.{Node}
use Rattle.goto_prog.specs.declared.code.Instruction.{Instruction}
use Rattle.goto_prog.specs.Static.{is_static, is_static_code}
use Rattle.goto_prog.proofs.Registers.{both}
use Rattle.goto_prog.specs.Meaning.{Memory, does}
use Rattle.c_types.specs.declared.integers.IntegerType.{IntegerType}
use Rattle.goto_prog.specs.Threads.{behaving}
use Rattle.cell_trees.specs.Trees.{Arena}
use Rattle.goto_prog.specs.CodeThread.{Listing, first_memory}
use Rattle.event_forms.specs.declared.forms.Event.{Event}
use Rattle.guarded_ssa.specs.declared.slots.Slot.{Slot}
use Rattle.guarded_ssa.specs.declared.pass.Pass.{Pass}
use Rattle.event_forms.specs.Runs.{stops}
use Rattle.guarded_ssa.specs.inner.Answers.{variables_of}
use Rattle.event_forms.specs.Arrivals.{read}
use Rattle.guarded_ssa.specs.inner.Places.{Arrivals, arrived, on, tells, told}
use Rattle.actions.specs.Objects.{Objects}
use Rattle.event_forms.specs.Forms.{Form, FormIn, IsForm, AreForms, AreStatic, AreStaticForms, run_read, seen}
use Rattle.guarded_ssa.specs.inner.Reads.{Covers}
use Rattle.guarded_ssa.specs.inner.Held.{SlotIn, PendingIn, PassIn, Passes, Visits, guarded, arrival, arrivals}
use Rattle.guarded_ssa.proofs.Telling.{Nowhere, leaves_none, tells_all}
use Rattle.guarded_ssa.proofs.Sizes.{Sized}
use Rattle.guarded_ssa.proofs.Needs.{told_step}
use Rattle.guarded_ssa.proofs.Valuations.{Fits, fits_same}
use Rattle.guarded_ssa.proofs.Passing.{append_nil}

-- a place that is reached with a slot
pub visits_slot : (until : List ℕ) (code : Listing) (place variable : ℕ) (i : Instruction) (d e : List Node) (p p1 q : Pass) (s : Slot) → p.pending.items ≡ Some s ∷ p1.pending.items → p1.events.items ≡ p.events.items → p1.trees ≡ p.trees
    → Passes until code place variable i.line i.function i.operation s d e p1 q → Visits until code place variable i d e p q
visits_slot until code place variable i d e p p1 q s pending events trees passes = record {
  within = passes.within;
  size = ap suc passes.size ∙ ap length (sym pending);
  static = λ static all. passes.static static (subst (AreStatic d) (sym events) all);
  goes = λ v rest covers.
      let w = guarded v d p1.trees code s in
      let ws = arrivals v d p1.trees code p1.pending.items in
      let xs = arrivals v e q.trees code q.pending.items in
      let next = variable + variables_of code.blocks i.operation in
      let before = seen v d p1.events.items in
      let told_here = on w (tells v variable i.line i.function i.operation) in
      let step : told_here ++ told v code.blocks next rest xs ≡ told v code.blocks variable (i ∷ rest) (w ∷ ws) = told_step (length code.registers) until v code.blocks place variable i rest w ws xs covers (passes.leads v) in
      ap (λ ys. ys ++ told v code.blocks next rest xs) (passes.told v) ∙ append_assoc before told_here (told v code.blocks next rest xs) ∙ ap (λ ys. before ++ ys) step
      ∙ (let a = ap (seen v d) events in let b : told v code.blocks variable (i ∷ rest) (w ∷ ws) ≡ told v code.blocks variable (i ∷ rest) (arrivals v d p.trees code p.pending.items) = (λ k. told v code.blocks variable (i ∷ rest) (arrivals v d (trees k) code (sym pending k))) in λ k. a k ++ b k);
}

-- one that isn't
pub visits_none : (until : List ℕ) (code : Listing) (place variable : ℕ) (i : Instruction) (d : List Node) (p q : Pass) → PassIn d code q → p.pending.items ≡ None ∷ q.pending.items → q.events.items ≡ p.events.items → q.trees ≡ p.trees → Visits until code place variable i d d p q
visits_none until code place variable i d p q within pending events trees = record {
  within = within;
  size = ap length (sym pending);
  static = λ static all. subst (AreStatic d) (sym events) all;
  goes = λ v rest covers.
      let ws = arrivals v d q.trees code q.pending.items in
      let next = variable + variables_of code.blocks i.operation in
      let a = ap (seen v d) events in
      let b : told v code.blocks next rest ws ≡ told v code.blocks variable (i ∷ rest) (None ∷ ws) = ap (told v code.blocks next rest) (sym (leaves_none v variable i.operation ws)) in
      let c : told v code.blocks variable (i ∷ rest) (None ∷ ws) ≡ told v code.blocks variable (i ∷ rest) (arrivals v d p.trees code p.pending.items) = (λ k. told v code.blocks variable (i ∷ rest) (arrivals v d (trees k) code (sym pending k))) in
      λ k. a k ++ ((b ∙ c) k);
}

-- what is left once the first is taken
pub popped_in : (d : List Node) (code : Listing) (p q : Pass) (first : Option Slot) → PassIn d code p → p.pending.items ≡ first ∷ q.pending.items → q.events.items ≡ p.events.items → q.trees ≡ p.trees → PassIn d code q
popped_in d code p q first within pending events trees = record {
  events = subst (FormIn d) (sym events) within.events;
  pending = subst (λ w. All (PendingIn d w code) q.pending.items) (sym trees) (All-tail (PendingIn d p.trees code) first q.pending.items (All-same (PendingIn d p.trees code) (first ∷ q.pending.items) p.pending.items (sym pending) within.pending));
}

pub popped_first : (d : List Node) (code : Listing) (p q : Pass) (s : Slot) → PassIn d code p → p.pending.items ≡ Some s ∷ q.pending.items → SlotIn d p.trees code s
popped_first d code p q s within pending =
    All-head (PendingIn d p.trees code) (Some s) q.pending.items (All-same (PendingIn d p.trees code) (Some s ∷ q.pending.items) p.pending.items (sym pending) within.pending)

-- ---- all of it

covers_drop : (registers : ℕ) (until : List ℕ) (p k q : ℕ) (code : List Instruction) → q ≡ p + k → Covers registers until p code → Covers registers until q (drop k code)
covers_drop registers until p zero q code e h = (let f : q ≡ p = omega (arith, e) in subst (λ n. Covers registers until n code) (sym f) h)
covers_drop registers until p (suc k) q [] e h = tt
covers_drop registers until p (suc k) q (i ∷ code) e h = covers_drop registers until (suc p) k q code (omega (arith, e)) h.1

pub visited : (until : List ℕ) (code : Listing) (place variable next : ℕ) (z : Instruction) (all : (ℕ → ℕ) → Arrivals) (d e : List Node) (p q : Pass) → place < length code.instructions → next ≡ variable + variables_of code.blocks (get_or code.instructions place z).operation → Covers (length code.registers) until 0 code.instructions
    → Visits until code place variable (get_or code.instructions place z) d e p q
    → ((v : ℕ → ℕ) → seen v d p.events.items ++ told v code.blocks variable (drop place code.instructions) (arrivals v d p.trees code p.pending.items) ≡ told v code.blocks 0 code.instructions (all v))
    → (v : ℕ → ℕ) → seen v e q.events.items ++ told v code.blocks next (drop (place + 1) code.instructions) (arrivals v e q.trees code q.pending.items) ≡ told v code.blocks 0 code.instructions (all v)
visited until code place variable next z all d e p q lt next_is covers visits so v =
    let i = get_or code.instructions place z in
    let rest = drop (suc place) code.instructions in
    let n : place + 1 ≡ suc place = omega arith in
    let front : drop place code.instructions ≡ i ∷ rest = drop-cons code.instructions place z lt in
    (λ k. seen v e q.events.items ++ told v code.blocks (next_is k) (drop (n k) code.instructions) (arrivals v e q.trees code q.pending.items))
    ∙ visits.goes v rest (covers_drop (length code.registers) until 0 (suc place) (suc place) code.instructions (omega arith) covers)
    ∙ ap (λ xs. seen v d p.events.items ++ told v code.blocks variable xs (arrivals v d p.trees code p.pending.items)) (sym front) ∙ so v

drop_all : (n : ℕ) (xs : List Instruction) → length xs ≤ n → drop n xs ≡ []
drop_all zero [] l = refl
drop_all zero (x ∷ xs) l = absurd (omega (arith, l))
drop_all (suc n) [] l = refl
drop_all (suc n) (x ∷ xs) l = drop_all n xs (omega (arith, l))

pub visited_all : (code : Listing) (place variable : ℕ) (all : (ℕ → ℕ) → Arrivals) (d : List Node) (p : Pass) → length code.instructions ≤ place
    → ((v : ℕ → ℕ) → seen v d p.events.items ++ told v code.blocks variable (drop place code.instructions) (arrivals v d p.trees code p.pending.items) ≡ told v code.blocks 0 code.instructions (all v))
    → (v : ℕ → ℕ) → seen v d p.events.items ≡ told v code.blocks 0 code.instructions (all v)
visited_all code place variable all d p le so v =
    sym (ap (λ xs. seen v d p.events.items ++ told v code.blocks variable xs (arrivals v d p.trees code p.pending.items)) (drop_all place code.instructions le) ∙ append_nil (seen v d p.events.items)) ∙ so v

pub visited_none : (code : Listing) (all : (ℕ → ℕ) → Arrivals) (d : List Node) (p : Pass) → p.events.items ≡ [] → ((v : ℕ → ℕ) → arrivals v d p.trees code p.pending.items ≡ all v)
    → (v : ℕ → ℕ) → seen v d p.events.items ++ told v code.blocks 0 code.instructions (arrivals v d p.trees code p.pending.items) ≡ told v code.blocks 0 code.instructions (all v)
visited_none code all d p none same v = let a = ap (seen v d) none in let b = same v in λ i. a i ++ told v code.blocks 0 code.instructions (b i)

-- code without operations on pointers has none at a place
pub static_in : (code : Listing) (is : List Instruction) (place : ℕ) (z : Instruction) → is ≡ code.instructions → is_static_code code.instructions ≡ true → place < length is → is_static (get_or is place z).operation ≡ true
static_in code is place z same static lt =
    subst (λ (xs : List Instruction). is_static (get_or xs place z).operation ≡ true) (sym same) (there place code.instructions static (subst (λ (xs : List Instruction). place < length xs) same lt))
  where
    there : (k : ℕ) (xs : List Instruction) → is_static_code xs ≡ true → k < length xs → is_static (get_or xs k z).operation ≡ true
    there k [] all less = absurd (omega (arith, less))
    there zero (x ∷ xs) all less = (both (is_static x.operation) (is_static_code xs) all).0
    there (suc k) (x ∷ xs) all less = there k xs (both (is_static x.operation) (is_static_code xs) all).1 (omega (arith, less))

-- ---- the form

nowhere_none : (n : ℕ) → Nowhere (replicate n None)
nowhere_none zero = tt
nowhere_none (suc n) = nowhere_none n

length_none : (n : ℕ) → length (replicate {A = Option Memory} n None) ≡ n
length_none zero = refl
length_none (suc n) = ap suc (length_none n)

-- a memory that arrives where none is reached
first_none : (n : ℕ) (m : Memory) → arrived 0 (Some m) (None ∷ replicate n None) ≡ Some m ∷ replicate n None
first_none n m = refl

pub form_of : (registers : List IntegerType) (blocks : List ℕ) (d : List Node) (es : List Event) (code : List Instruction) (m : Memory) → code_fits registers blocks code ≡ true → Sized blocks m
    → ((v : ℕ → ℕ) → seen v d es ≡ told v blocks 0 code (Some m ∷ replicate (length code) None)) → IsForm (does behaving false 0 code m) d es
form_of registers blocks d es code m fits sized same =
    let ws : Arrivals = None ∷ replicate (length code) None in
    let whole = tells_all registers blocks 0 0 code fits 0 m ws sized (nowhere_none (length code)) (omega (arith, length_none (length code))) in
    let one : Fits 0 (λ v. run_read v d es) (does behaving false 0 code m) = fits_same 0 (λ v. read (told v blocks 0 code (arrived 0 (Some m) ws)) (stops (Ended (word_64 0)))) (λ v. run_read v d es) _ (λ v. ap (λ xs. read xs (stops (Ended (word_64 0)))) (same v)) whole in
    record { gives = one.gives; has = one.has }

pub one_form : (d : List Node) (g : List Form) (es : List Event) (objects : Objects) (code : Listing) (m : Memory) → code_fits code.registers code.blocks code.instructions ≡ true → Sized code.blocks m → g ≡ record { events = es; store = objects } ∷ [] → FormIn d es
    → ((v : ℕ → ℕ) → seen v d es ≡ told v code.blocks 0 code.instructions (Some m ∷ replicate (length code.instructions) None)) → AreForms (does behaving false 0 code.instructions m) objects d g
one_form d g es objects code m fits sized is within same =
    subst (AreForms (does behaving false 0 code.instructions m) objects d) (sym is) (form_of code.registers code.blocks d es code.instructions m fits sized same, within, refl)

pub one_static : (d : List Node) (g : List Form) (es : List Event) (objects : Objects) → g ≡ record { events = es; store = objects } ∷ [] → AreStatic d es → AreStaticForms d g
one_static d g es objects is all = subst (AreStaticForms d) (sym is) (All-cons (λ (f : Form). AreStatic d f.events) (record { events = es; store = objects }) [] all (All-nil (λ (f : Form). AreStatic d f.events)))

-- at the start of the code that a plan is of
pub started : (own code : Listing) (d : List Node) (p : Pass) → own ≡ code → PassIn d own p → ((v : ℕ → ℕ) → arrivals v d p.trees own p.pending.items ≡ Some (first_memory own) ∷ replicate (length own.instructions) None)
    → PassIn d code p × ((v : ℕ → ℕ) → arrivals v d p.trees code p.pending.items ≡ Some (first_memory code) ∷ replicate (length code.instructions) None)
started own code d p same within arrives =
    (subst (λ k. PassIn d k p) same within, subst (λ (k : Listing). (v : ℕ → ℕ) → arrivals v d p.trees k p.pending.items ≡ Some (first_memory k) ∷ replicate (length k.instructions) None) same arrives)

pub start_size : (d : List Node) (trees : Arena) (code : Listing) (pending : List (Option Slot)) (m : Memory) (n : ℕ) → ((v : ℕ → ℕ) → arrivals v d trees code pending ≡ Some m ∷ replicate n None) → length pending + 0 ≡ n + 1
start_size d trees code pending m n is =
    let v : ℕ → ℕ = λ x. 0 in
    omega (arith, length-map pending (arrival v d trees code), ap length (is v), length_none n)

pub fits_in : (code own : Listing) (is : List Instruction) (place : ℕ) (z : Instruction) → own ≡ code → is ≡ code.instructions → code_fits code.registers code.blocks code.instructions ≡ true → place < length is
    → operation_fits own.registers own.blocks (length (drop (place + 1) own.instructions)) (get_or is place z).operation ≡ true
fits_in code own is place z same same_is fits lt =
    let Fits : Listing → Type 0 = λ k. operation_fits k.registers k.blocks (length (drop (place + 1) k.instructions)) (get_or is place z).operation ≡ true in
    let there : place < length code.instructions = subst (λ (xs : List Instruction). place < length xs) same_is lt in
    let found : slice_get code.instructions place ≡ Some (get_or is place z) = slice_get-get_or code.instructions place z there ∙ ap (λ (xs : List Instruction). Some (get_or xs place z)) (sym same_is) in
    subst Fits (sym same) (fits_at code.registers code.blocks code.instructions place (get_or is place z) fits found)

pub visits_own : (until : List ℕ) (code own : Listing) (is : List Instruction) (place variable : ℕ) (z : Instruction) (d e : List Node) (p q : Pass) → own ≡ code → is ≡ code.instructions → Visits until own place variable (get_or is place z) d e p q
    → Visits until code place variable (get_or code.instructions place z) d e p q
visits_own until code own is place variable z d e p q same same_is visits =
    subst (λ (xs : List Instruction). Visits until code place variable (get_or xs place z) d e p q) same_is (subst (λ k. Visits until k place variable (get_or is place z) d e p q) same visits)

-- the variables of the plan's code are those of the code
pub variables_own : (code own : Listing) (blocks : List ℕ) (is : List Instruction) (place variable n next : ℕ) (z : Instruction) → own ≡ code → blocks ≡ code.blocks → n ≡ variables_of blocks (get_or is place z).operation → next ≡ variable + n → next ≤ 2 ^ 32
    → variable + variables_of own.blocks (get_or is place z).operation ≤ 2 ^ 32
variables_own code own blocks is place variable n next z same blocks_are n_is next_is few =
    let o = (get_or is place z).operation in
    subst (λ (bs : List ℕ). variable + variables_of bs o ≤ 2 ^ 32) (blocks_are ∙ sym (ap (λ (k : Listing). k.blocks) same)) (omega (arith, n_is, next_is, few))

pub variables_next : (code : Listing) (blocks : List ℕ) (is : List Instruction) (place variable n next : ℕ) (z : Instruction) → blocks ≡ code.blocks → is ≡ code.instructions → n ≡ variables_of blocks (get_or is place z).operation → next ≡ variable + n
    → next ≡ variable + variables_of code.blocks (get_or code.instructions place z).operation
variables_next code blocks is place variable n next z same same_is n_is next_is = next_is ∙ ap (λ k. variable + k) n_is ∙ (λ i. variable + variables_of (same i) (get_or (same_is i) place z).operation)
