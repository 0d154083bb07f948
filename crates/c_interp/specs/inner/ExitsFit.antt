-- Where a statement may go on elsewhere, the items there can be done.
use Rattle.std.proofs.Common.{◌≡◌, ℕ, Bool, true, false, ◌&&◌, ◌==◌, List, [], ◌∷◌, Option, Some, None, if◌then◌else◌, refl, sym, ap, ◌∙◌, rules, arith}
use Rattle.std.proofs.lemmas.Bool.Decides.{nat_tests}
use Rattle.c_types.specs.Integers.{width}
use Rattle.c_types.specs.declared.types.ValueType.TheVariants.{Integer}
use Rattle.c_meaning.proofs.TypeWidths.{type_widths}
use Rattle.std.proofs.lemmas.Bool.{false≢true}
use Rattle.c_types.specs.declared.integers.IntegerType.{IntegerType}
use Rattle.core_tree.specs.declared.functions.PassedType.{PassedType}
use Rattle.core_tree.specs.declared.functions.PassedType.TheVariants as passed
use Rattle.core_tree.specs.Trees.{Items, done, declares, initializes, initializes_structure, does, label, case_at, default_at, TypedFile}
use Rattle.core_tree.specs.Typed.{Sizes, Signature, are_typed_items, same_passed}
use Rattle.c_values.specs.Numbers.{TypedNumber, same_width}
use Rattle.c_values.specs.Variables.{Variables}
use Rattle.c_tasks.specs.Items.{rest, rest_bytes, Active, back, Wanted, wants_number, wants_structure, wants_end, Handed, by_nothing, by_number, by_structure, Way, by_break, by_continue, by_jump, by_return, values_under, structures_under, Item, goes_on, goes_out, ends_block, ends_parameters, loops, switches, resumes, State, state}
use Rattle.c_tasks.specs.Fits.{top_type, top_size, has_top, rest_types, rest_sizes, types_of, sizes_of, types_under, sizes_under, gives_number, gives_structure, handed_of, is_given, wanted_of, gets_this, got, same_sizes, signature_of, gives_of, gives_at, variables_at, sizes_for, fits, exits_fit, Fits}
use Rattle.c_tasks.specs.Steps.{behind_label, jumped, out_of, behind_case, behind_default}
use Rattle.c_meaning.proofs.Holding.{left_of, right_of, both}
use Rattle.c_tasks.proofs.FitParts.{rest_of_types}
use Rattle.c_tasks.proofs.Sizes.{rest_of_sizes}

-- ---- the items behind a label or a case are typed

module _ (sizes : Sizes) where
  typed_here : (b : Bool) (x : ℕ) (more : Items) → are_typed_items sizes more ≡ true → are_typed_items sizes (behind_case x more) ≡ true → are_typed_items sizes (if b then more else behind_case x more) ≡ true
  typed_here true x more h k = h
  typed_here false x more h k = k

  pub case_typed : (x : ℕ) (items : Items) → are_typed_items sizes items ≡ true → are_typed_items sizes (behind_case x items) ≡ true
  case_typed x done h = h
  case_typed x (declares line v more) h = case_typed x more (right_of _ _ h)
  case_typed x (initializes line v is_drawn e more) h = case_typed x more (right_of _ _ h)
  case_typed x (initializes_structure line v is_drawn a more) h = case_typed x more (right_of _ _ h)
  case_typed x (does s more) h = case_typed x more (right_of _ _ h)
  case_typed x (label m more) h = case_typed x more h
  case_typed x (case_at line t bits more) h = typed_here (bits == x) x more (right_of _ _ h) (case_typed x more (right_of _ _ h))
  case_typed x (default_at line more) h = case_typed x more h

  pub default_typed : (items : Items) → are_typed_items sizes items ≡ true → are_typed_items sizes (behind_default items) ≡ true
  default_typed done h = h
  default_typed (declares line v more) h = default_typed more (right_of _ _ h)
  default_typed (initializes line v is_drawn e more) h = default_typed more (right_of _ _ h)
  default_typed (initializes_structure line v is_drawn a more) h = default_typed more (right_of _ _ h)
  default_typed (does s more) h = default_typed more (right_of _ _ h)
  default_typed (label m more) h = default_typed more h
  default_typed (case_at line t bits more) h = default_typed more (right_of _ _ h)
  default_typed (default_at line more) h = h

-- ---- exits

module _ (file : TypedFile) where
  abbrev FitsOut : Way → List Item → Active → List TypedNumber → List (List ℕ) → Variables → Type 0
  FitsOut way is r xs bs vs = Fits file (out_of way is r xs bs vs)

  pub break_fits : (is : List Item) (r : Active) (xs : List TypedNumber) (bs : List (List ℕ)) (vs : Variables) → exits_fit file is r.function (types_of xs) (sizes_of bs) ≡ true → FitsOut by_break is r xs bs vs
  break_fits [] r xs bs vs h = absurd (false≢true h)
  break_fits (ends_block items ∷ is) r xs bs vs h = h
  break_fits (ends_parameters count ∷ is) r xs bs vs h = h
  break_fits (loops n loop ∷ is) r xs bs vs h = left_of _ _ (right_of _ _ h)
  break_fits (switches items ∷ is) r xs bs vs h = left_of _ _ h
  break_fits (resumes want caller saved ∷ is) r xs bs vs h = refl
  break_fits (goes_on items ∷ is) r xs bs vs h = break_fits is r xs bs vs (right_of _ _ (right_of _ _ h))
  break_fits (_ ∷ is) r xs bs vs h = break_fits is r xs bs vs h

  pub continue_fits : (is : List Item) (r : Active) (xs : List TypedNumber) (bs : List (List ℕ)) (vs : Variables) → exits_fit file is r.function (types_of xs) (sizes_of bs) ≡ true → FitsOut by_continue is r xs bs vs
  continue_fits [] r xs bs vs h = absurd (false≢true h)
  continue_fits (ends_block items ∷ is) r xs bs vs h = h
  continue_fits (ends_parameters count ∷ is) r xs bs vs h = h
  continue_fits (loops n loop ∷ is) r xs bs vs h = h
  continue_fits (switches items ∷ is) r xs bs vs h = right_of _ _ h
  continue_fits (resumes want caller saved ∷ is) r xs bs vs h = refl
  continue_fits (goes_on items ∷ is) r xs bs vs h = continue_fits is r xs bs vs (right_of _ _ (right_of _ _ h))
  continue_fits (_ ∷ is) r xs bs vs h = continue_fits is r xs bs vs h

  module _ (n : ℕ) (is : List Item) (further : State) (r : Active) (xs : List TypedNumber) (bs : List (List ℕ)) (vs : Variables)
      (h : (fits file is r.function (types_of xs) (sizes_of bs) && exits_fit file is r.function (types_of xs) (sizes_of bs)) ≡ true) (k : Fits file further) where
    abbrev reached : Option Items → State
    reached o = jumped o further (λ more. state (goes_on more ∷ is) r xs bs vs)

    label_here : (b : Bool) (more : Items) → are_typed_items (sizes_for file r.function) more ≡ true → Fits file (reached (behind_label n more)) → Fits file (reached (if b then Some more else behind_label n more))
    label_here true more t l = both _ _ t h
    label_here false more t l = l

    label_fits : (items : Items) → are_typed_items (sizes_for file r.function) items ≡ true → Fits file (reached (behind_label n items))
    label_fits done t = k
    label_fits (declares line v more) t = label_fits more (right_of _ _ t)
    label_fits (initializes line v is_drawn e more) t = label_fits more (right_of _ _ t)
    label_fits (initializes_structure line v is_drawn a more) t = label_fits more (right_of _ _ t)
    label_fits (does s more) t = label_fits more (right_of _ _ t)
    label_fits (label m more) t = label_here (m == n) more t (label_fits more t)
    label_fits (case_at line u bits more) t = label_fits more (right_of _ _ t)
    label_fits (default_at line more) t = label_fits more t

  pub jump_fits : (n : ℕ) (is : List Item) (r : Active) (xs : List TypedNumber) (bs : List (List ℕ)) (vs : Variables) → exits_fit file is r.function (types_of xs) (sizes_of bs) ≡ true → FitsOut (by_jump n) is r xs bs vs
  jump_fits n [] r xs bs vs h = absurd (false≢true h)
  jump_fits n (ends_block items ∷ is) r xs bs vs h = h
  jump_fits n (ends_parameters count ∷ is) r xs bs vs h = h
  jump_fits n (loops m loop ∷ is) r xs bs vs h = jump_fits n is r xs bs vs (right_of _ _ (right_of _ _ h))
  jump_fits n (switches items ∷ is) r xs bs vs h = right_of _ _ h
  jump_fits n (resumes want caller saved ∷ is) r xs bs vs h = refl
  jump_fits n (goes_on items ∷ is) r xs bs vs h =
      label_fits n is (out_of (by_jump n) is r xs bs vs) r xs bs vs (right_of _ _ h) (jump_fits n is r xs bs vs (right_of _ _ (right_of _ _ h))) items (left_of _ _ h)
  jump_fits n (_ ∷ is) r xs bs vs h = jump_fits n is r xs bs vs h

-- ---- what a function hands over is what its caller wants

same_through : (a b c : ℕ) → (a == b) ≡ true → (c == b) ≡ true → (a == c) ≡ true
same_through a b c h k = grind (arith, nat_tests)

gives_wanted : (want : Wanted) (how : Handed) (gives : Option PassedType) (ts : List IntegerType) (zs : List ℕ) → is_given want gives ≡ true → handed_of how gives ts zs ≡ true → gets_this want how ts zs ≡ true
gives_wanted want by_nothing gives ts zs h k = refl
gives_wanted want by_number None ts zs h k = absurd (false≢true k)
gives_wanted (wants_number line used t) by_number (Some (passed.Integer u)) ts zs h k = same_through (width (top_type ts)) (width u) (width t) k (type_widths (Integer t) (Integer u) h)
gives_wanted (wants_number line used t) by_number (Some (passed.Structure n)) ts zs h k = absurd (false≢true k)
gives_wanted (wants_structure line used size) by_number (Some (passed.Integer u)) ts zs h k = absurd (false≢true h)
gives_wanted (wants_structure line used size) by_number (Some (passed.Structure n)) ts zs h k = absurd (false≢true k)
gives_wanted (wants_end line) by_number (Some p) ts zs h k = refl
gives_wanted want by_structure None ts zs h k = absurd (false≢true (right_of _ _ k))
gives_wanted (wants_number line used t) by_structure (Some (passed.Integer u)) ts zs h k = absurd (false≢true (right_of _ _ k))
gives_wanted (wants_number line used t) by_structure (Some (passed.Structure n)) ts zs h k = absurd (false≢true h)
gives_wanted (wants_structure line used size) by_structure (Some (passed.Integer u)) ts zs h k = absurd (false≢true h)
gives_wanted (wants_structure line used size) by_structure (Some (passed.Structure n)) ts zs h k = both _ _ (left_of _ _ k) (same_through (top_size zs) n size (right_of _ _ k) h)
gives_wanted (wants_end line) by_structure (Some p) ts zs h k = left_of _ _ k

wants_given : (want : Wanted) (s : Option Signature) → wanted_of want s ≡ true → is_given want (gives_of s) ≡ true
wants_given want None h = absurd (false≢true h)
wants_given want (Some s) h = h

pub types_below : (how : Handed) (xs : List TypedNumber) → types_under how (types_of xs) ≡ types_of (values_under how xs)
types_below by_nothing xs = refl
types_below by_number xs = rest_of_types xs
types_below by_structure xs = refl

pub sizes_below : (how : Handed) (bs : List (List ℕ)) → sizes_under how (sizes_of bs) ≡ sizes_of (structures_under how bs)
sizes_below by_nothing bs = refl
sizes_below by_number bs = refl
sizes_below by_structure bs = rest_of_sizes bs

module _ (file : TypedFile) where
  pub return_fits : (how : Handed) (is : List Item) (r : Active) (xs : List TypedNumber) (bs : List (List ℕ)) (vs : Variables) →
      handed_of how (gives_at file r.function) (types_of xs) (sizes_of bs) ≡ true → exits_fit file is r.function (types_under how (types_of xs)) (sizes_under how (sizes_of bs)) ≡ true →
      FitsOut file (by_return how) is r xs bs vs
  return_fits how [] r xs bs vs h k = absurd (false≢true k)
  return_fits how (ends_block items ∷ is) r xs bs vs h k = both _ _ h k
  return_fits how (ends_parameters count ∷ is) r xs bs vs h k = both _ _ h k
  return_fits how (loops n loop ∷ is) r xs bs vs h k = return_fits how is r xs bs vs h (right_of _ _ (right_of _ _ k))
  return_fits how (switches items ∷ is) r xs bs vs h k = both _ _ h (right_of _ _ k)
  return_fits how (goes_on items ∷ is) r xs bs vs h k = return_fits how is r xs bs vs h (right_of _ _ (right_of _ _ k))
  return_fits how (resumes want caller saved ∷ is) r xs bs vs h k =
      let wanted = left_of (wanted_of want (signature_of file r.function)) _ (left_of (wanted_of want (signature_of file r.function) && same_sizes (sizes_of saved) (variables_at file caller)) _ k) in
      both _ _ (gives_wanted want how (gives_at file r.function) (types_of xs) (sizes_of bs) (wants_given want (signature_of file r.function) wanted) h)
      (right_of (wanted_of want (signature_of file r.function) && same_sizes (sizes_of saved) (variables_at file caller)) _ k)
  return_fits how (_ ∷ is) r xs bs vs h k = return_fits how is r xs bs vs h k

  pub out_fits : (way : Way) (is : List Item) (r : Active) (xs : List TypedNumber) (bs : List (List ℕ)) (vs : Variables) → fits file (goes_out way ∷ is) r.function (types_of xs) (sizes_of bs) ≡ true → FitsOut file way is r xs bs vs
  out_fits by_break is r xs bs vs h = break_fits file is r xs bs vs h
  out_fits by_continue is r xs bs vs h = continue_fits file is r xs bs vs h
  out_fits (by_jump n) is r xs bs vs h = jump_fits file n is r xs bs vs h
  out_fits (by_return how) is r xs bs vs h = return_fits how is r xs bs vs (left_of _ _ h) (right_of _ _ h)
