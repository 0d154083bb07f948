-- Code with its checks makes, with the objects of its first store, no more objects than the file counts.
use Rattle.std.proofs.Common.{◌≡◌, ℕ, suc, ◌+◌, ◌≤◌, true, List, [], ◌∷◌, ◌++◌, length, map, refl, ap, ◌∙◌, arith}
use Rattle.std.specs.Prelude.{◌&&◌, nat_le}
use Rattle.std.proofs.lemmas.Bool.Decides.{nat_tests}
use Rattle.std.proofs.lemmas.List.{length-append, length-map}
use Rattle.core_tree.specs.Ranges.{Limits, is_unwinding}
use Rattle.core_tree.specs.Trees.{TypedFile}
use Rattle.actions.specs.StoredObject.{StoredObject}
use Rattle.c_meaning.specs.Source.{first_object, literal_object, numbered, first_objects}
use Rattle.goto_prog.specs.Allocations.{allocations}
use Rattle.goto_prog.specs.GotoThreads.{GotoFile}
use Rattle.goto_unwind.specs.Places.{objects}

at_most : (m n : ℕ) → m ≤ n → nat_le m n ≡ true
at_most m n h = grind (arith, nat_tests)

pub is_bound : (k : ℕ) → 1 ≤ k → k ≤ 1000 → is_unwinding k ≡ true
is_bound k some most =
    let least = at_most 1 k some in
    let greatest = at_most k 1000 most in
    λ i. least i && greatest i

numbered_length : (number : ℕ) (stored : List StoredObject) → length (numbered number stored) ≡ length stored
numbered_length number [] = refl
numbered_length number (o ∷ stored) = ap suc (numbered_length (number + 1) stored)

first_length : (core : TypedFile) → length (first_objects core) ≡ length core.objects + length core.literals
first_length core =
    let statics = map (first_object (length core.objects + 1)) core.objects in
    let texts = map literal_object core.literals in
    omega (arith, numbered_length 1 (statics ++ texts), length-append statics texts, length-map core.objects (first_object (length core.objects + 1)), length-map core.literals literal_object)

pub no_more : (core : TypedFile) (limits : Limits) (before behind : GotoFile) → allocations before limits ≡ objects core.functions limits → allocations behind limits ≡ allocations before limits → behind.store ≡ first_objects core
    → length behind.store + allocations behind limits ≤ length core.objects + length core.literals + objects core.functions limits
no_more core limits before behind counted same store =
    let long : length behind.store ≡ length core.objects + length core.literals = ap length store ∙ first_length core in
    omega (arith, counted, same, long)
