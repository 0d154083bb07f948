-- One item or variable more: what is made goes before what is behind.
use Rattle.std.proofs.Common.{◌≡◌, ℕ, Bool, false, List, [], ◌∷◌, ◌++◌, length, Option, Result, Ok, Err, refl, ap, sym, subst, ◌∙◌}
use Rattle.c_tree.specs.Declarations.{Initial, Full, name_of}
use Rattle.c_types.specs.Types.{CType}
use Rattle.core_tree.specs.declared.statement.CoreItem.{CoreItem}
use Rattle.core_tree.specs.Trees.{with_item, items_of}
use Rattle.core_tree.specs.Trees as cores
use Rattle.c_scope.specs.declared.fault.TypingError.{TypingError}
use Rattle.c_scope.specs.declared.fault.TypingError.TheVariants as errors
use Rattle.c_scope.specs.Scopes.{Named, Scoped}
use Rattle.c_scope.specs.Faults.{◌>>=◌, Fault, Fails}
use Rattle.c_elab_base.specs.declared.regions.Region.{Region}
use Rattle.c_elab_base.specs.Derivations.{full_line}
use Rattle.c_elab_type.specs.Initializers.{Value, initializer_of}
use Rattle.c_elab_base.specs.Declarators.{is_open, of_type, within_initializer, with_variable}
use Rattle.c_elab_type.specs.Declarators.{Typed, variable_type, declared_item, in_front, typed_variable}
use Rattle.c_elab_type.specs.Steps.{prepend, items_first, Step}
use Rattle.c_elab_base.proofs.Steps.{fails_on}

-- ---- items

pub none_first : (whole : Typed) → items_first [] whole ≡ whole
none_first (Ok y) = refl
none_first (Err f) = refl

pub prepend_all : (is : List CoreItem) → prepend is cores.done ≡ items_of is
prepend_all [] = refl
prepend_all (i ∷ is) = ap (with_item i) (prepend_all is)

pub prepend_push : (is : List CoreItem) (i : CoreItem) (rest : cores.Items) → prepend is (with_item i rest) ≡ prepend (is ++ i ∷ []) rest
prepend_push [] i rest = refl
prepend_push (x ∷ is) i rest = ap (with_item x) (prepend_push is i rest)

-- an item more
pub one_first : (before : List CoreItem) (i : CoreItem) (f : cores.Items → cores.Items) (behind : Typed) → ((rest : cores.Items) → with_item i rest ≡ f rest)
    → items_first before (in_front f behind) ≡ items_first (before ++ i ∷ []) behind
one_first before i f (Ok y) h = ap (λ (is : cores.Items). Ok (is, y.1)) (ap (prepend before) (sym (h y.0)) ∙ prepend_push before i y.0)
one_first before i f (Err e) h = refl

pub first_fails : (before : List CoreItem) (whole : Typed) (f : Fault) → items_first before whole ≡ Err f → whole ≡ Err f
first_fails before (Ok y) f e = let none : ⊥ = cc in absurd none
first_fails before (Err g) f e = let same : g ≡ f = cc in ap Err same

-- a fault of what is behind is one of the whole
pub behind_fails : (before now : List CoreItem) (whole behind : Typed) (e : TypingError) → items_first now behind ≡ items_first before whole → Fails e behind → Fails e whole
behind_fails before now whole behind e same bad =
    fails_on e behind whole (λ f is. first_fails before whole f (sym same ∙ ap (items_first now) is)) bad

-- ---- variables

-- what stands behind the type of a variable, and behind its value
abbrev behind_value : Scoped → Scoped → ℕ → Bool → (Scoped → Typed) → Result (Option Value) Fault → Typed
behind_value s u line passed behind r = r >>= λ x. in_front (declared_item line (length s.variables) passed x) (behind u)

abbrev behind_type : Scoped → Named → Full → Option Initial → Bool → Bool → (Scoped → Typed) → Result CType Fault → Typed
behind_type s base d i open_ passed behind r = r >>= λ t.
    behind_value s (with_variable s (name_of d) (of_type base t)) (full_line d) passed behind (initializer_of false (full_line d) (within_initializer open_ s (name_of d) (of_type base t)) t i)

pub type_fails : (r : Region) (s : Scoped) (base : Named) (d : Full) (i : Option Initial) (ls : List (Option ℕ)) (passed : Bool) (behind : Scoped → Typed) (f : Fault)
    → variable_type r s base.type d i ls ≡ Err f → typed_variable r s base d i ls passed behind ≡ Err f
type_fails r s base d i ls passed behind f bad = ap (behind_type s base d i (is_open ls) passed behind) bad

pub value_fails : (r : Region) (s : Scoped) (base : Named) (d : Full) (i : Option Initial) (ls : List (Option ℕ)) (passed : Bool) (behind : Scoped → Typed) (t : CType) (counted : Bool) (f : Fault)
    → variable_type r s base.type d i ls ≡ Ok t → counted ≡ is_open ls → initializer_of false (full_line d) (within_initializer counted s (name_of d) (of_type base t)) t i ≡ Err f
    → typed_variable r s base d i ls passed behind ≡ Err f
value_fails r s base d i ls passed behind t counted f good is bad =
    ap (behind_type s base d i (is_open ls) passed behind) good
    ∙ ap (λ (b : Bool). behind_value s (with_variable s (name_of d) (of_type base t)) (full_line d) passed behind (initializer_of false (full_line d) (within_initializer b s (name_of d) (of_type base t)) t i)) (sym is)
    ∙ ap (behind_value s (with_variable s (name_of d) (of_type base t)) (full_line d) passed behind) bad

pub variable_typed : (r : Region) (s u : Scoped) (base : Named) (d : Full) (i : Option Initial) (ls : List (Option ℕ)) (passed : Bool) (behind : Scoped → Typed) (t : CType) (counted : Bool) (line : ℕ)
    (x : Option Value) (variable : ℕ) (before now : List CoreItem) (item : CoreItem)
    → variable_type r s base.type d i ls ≡ Ok t → counted ≡ is_open ls → u ≡ with_variable s (name_of d) (of_type base t) → line ≡ full_line d
    → initializer_of false (full_line d) (within_initializer counted s (name_of d) (of_type base t)) t i ≡ Ok x
    → variable ≡ length s.variables → ((rest : cores.Items) → with_item item rest ≡ declared_item line variable passed x rest) → now ≡ before ++ item ∷ []
    → items_first before (typed_variable r s base d i ls passed behind) ≡ items_first now (behind u)
variable_typed r s u base d i ls passed behind t counted line x variable before now item good open_ scope at value number is items =
    let w = with_variable s (name_of d) (of_type base t) in
    ap (items_first before) (ap (behind_type s base d i (is_open ls) passed behind) good
    ∙ ap (λ (b : Bool). behind_value s w (full_line d) passed behind (initializer_of false (full_line d) (within_initializer b s (name_of d) (of_type base t)) t i)) (sym open_)
    ∙ ap (behind_value s w (full_line d) passed behind) value)
    ∙ one_first before item (declared_item (full_line d) (length s.variables) passed x) (behind w)
    (λ rest. is rest ∙ ap (λ (v : ℕ). declared_item line v passed x rest) number ∙ ap (λ (l : ℕ). declared_item l (length s.variables) passed x rest) at)
    ∙ ap (λ (xs : List CoreItem). items_first xs (behind w)) (sym items)
    ∙ ap (λ (y : Scoped). items_first now (behind y)) (sym scope)

-- ---- what a fault says of a step

pub fault_step : (r : Result (Unit {0}) TypingError) (e f : TypingError) (before now : List CoreItem) (whole behind : Typed)
    → r ≡ Err e → e ≡ f → Fails f whole → Step r before now whole behind
fault_step r e f before now whole behind p q h = subst (λ (x : Result (Unit {0}) TypingError). Step x before now whole behind) (sym (p ∙ ap Err q)) h

pub memory_step : (r : Result (Unit {0}) TypingError) (e : TypingError) (before now : List CoreItem) (whole behind : Typed) → r ≡ Err e → e ≡ errors.Memory → Step r before now whole behind
memory_step r e before now whole behind p q = fault_step r e errors.Memory before now whole behind p q tt
