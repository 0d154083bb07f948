-- What a tree names, and lists of which one is longer.
use Rattle.std.proofs.Common.{◌≡◌, ℕ, zero, suc, ◌<◌, Bool, true, false, List, [], ◌∷◌, length, map, Option, Some, refl, ap, ◌∙◌, arith}
use Rattle.std.specs.Prelude.{◌&&◌, ◌==◌}
use Rattle.core_tree.specs.declared.functions.Function.{Function}
use Rattle.core_tree.specs.declared.functions.Literal.{Literal}
use Rattle.core_tree.specs.declared.functions.StaticObject.{StaticObject}
use Rattle.core_tree.specs.declared.functions.Variable.{Variable}
use Rattle.core_tree.specs.declared.functions.PassedType.{PassedType}
use Rattle.core_tree.specs.declared.functions.PassedType.TheVariants as passed
use Rattle.core_tree.specs.declared.expression.CoreArgument.{CoreArgument}
use Rattle.core_tree.specs.declared.expression.CoreArgument as cores
use Rattle.core_tree.specs.Trees.{Arguments, view, view_structure, view_function, view_functions, view_statics, view_literals, arguments_of, with_argument}
use Rattle.core_tree.specs.Typed.{Sizes, type_of, size_of, same_passed, same_given, given_as, signature, sizes_of_variables, homes_of, sizes_of_objects, sizes_with, passed_size, have_parameters, is_typed, is_structure, are_arguments}
use Rattle.core_check.specs.declared.around.Around.{Around}
use Rattle.core_check.specs.Around.{object_sizes, signatures, file_around, sizes_around}

objects_are : (objects : List StaticObject) → object_sizes objects ≡ sizes_of_objects (view_statics objects)
objects_are [] = refl
objects_are (o ∷ objects) = ap (λ sizes. o.size ∷ sizes) (objects_are objects)

signatures_are : (functions : List Function) → signatures functions ≡ map signature (view_functions functions)
signatures_are [] = refl
signatures_are (f ∷ functions) = ap (λ rest. signature (view_function f) ∷ rest) (signatures_are functions)

literals_are : (literals : List Literal) → length literals ≡ length (view_literals literals)
literals_are [] = refl
literals_are (l ∷ literals) = ap suc (literals_are literals)

-- what a tree names is what its file and its function have
pub same_sizes : (a : Around) → sizes_around a ≡ sizes_with (file_around a) a.variables.now a.gives
same_sizes a = λ i. record {
  variables = sizes_of_variables a.variables.now;
  homes = homes_of a.variables.now;
  objects = objects_are a.objects.now i;
  literals = literals_are a.literals.now i;
  functions = signatures_are a.functions.now i;
  gives = a.gives;
  pointers = a.pointers;
}

and_false : (b : Bool) → (b && false) ≡ false
and_false true = refl
and_false false = refl

pub too_few : (variables : List Variable) (ps : List PassedType) → length variables < length ps → have_parameters (sizes_of_variables variables) ps ≡ false
too_few variables [] h = absurd (omega (arith, h))
too_few [] (p ∷ ps) h = refl
too_few (v ∷ variables) (p ∷ ps) h = ap (λ b. (v.size == passed_size p) && b) (too_few variables ps (omega (arith, h))) ∙ and_false (v.size == passed_size p)

none_wanted : (sizes : Sizes) (a : CoreArgument) (rest : Arguments) → are_arguments sizes [] (with_argument a rest) ≡ false
none_wanted sizes (cores.Number' p e) rest = refl
none_wanted sizes (cores.Structure' p a) rest = refl

wrong_behind : (sizes : Sizes) (p : PassedType) (ps : List PassedType) (a : CoreArgument) (rest : Arguments) → are_arguments sizes ps rest ≡ false → are_arguments sizes (p ∷ ps) (with_argument a rest) ≡ false
wrong_behind sizes p ps (cores.Number' q e) rest h =
    let first = same_given (Some p) (given_as (type_of (view e))) && is_typed sizes (view e) in ap (λ b. first && b) h ∙ and_false first
wrong_behind sizes p ps (cores.Structure' q a) rest h =
    let first = same_passed p (passed.Structure (size_of (view_structure a))) && is_structure sizes (view_structure a) in ap (λ b. first && b) h ∙ and_false first

pub unequal : (sizes : Sizes) (ps : List PassedType) (arguments : List CoreArgument) → (length ps ≡ length arguments → ⊥) → are_arguments sizes ps (arguments_of arguments) ≡ false
unequal sizes [] [] h = absurd (h refl)
unequal sizes [] (a ∷ arguments) h = none_wanted sizes a (arguments_of arguments)
unequal sizes (p ∷ ps) [] h = refl
unequal sizes (p ∷ ps) (a ∷ arguments) h = wrong_behind sizes p ps a (arguments_of arguments) (unequal sizes ps arguments (λ e. h (ap suc e)))
