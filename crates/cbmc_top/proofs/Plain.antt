-- No form over pointers stands in the typed tree of a file.
use Rattle.std.proofs.Common.{◌≡◌, List, [], map, Bool, false, Result, Ok, Err, refl, ap, sym, ◌∙◌}
use Rattle.c_tree.specs.Statements.{Externals}
use Rattle.core_tree.specs.Trees.{TypedFile}
use Rattle.c_scope.specs.Scopes.{Scoped, first_scope}
use Rattle.c_scope.specs.Faults.{◌>>=◌, Fault}
use Rattle.c_elab_flow.specs.Files.{Definition, with_bodies, procedure_of, static_of}
use Rattle.c_elab_decl.specs.Files.{typed_externals, with_definitions, elaborated}

abbrev pointers_or : Bool → Result TypedFile Fault → Bool
pointers_or d (Ok file) = file.pointers
pointers_or d (Err f) = d

given_plain : (r : Result (List Definition × Scoped) Fault)
    → pointers_or false (r >>= λ x. Ok (record { functions = with_bodies (map (procedure_of x.1.records.done) x.1.functions.all) x.0; objects = map (static_of x.1.records.done) x.1.objects; literals = []; pointers = false })) ≡ false
given_plain (Ok x) = refl
given_plain (Err f) = refl

pub elaborated_plain : (tree : Externals) (core : TypedFile) → elaborated tree ≡ Ok core → core.pointers ≡ false
elaborated_plain tree core e = sym (ap (pointers_or false) e) ∙ given_plain (typed_externals (with_definitions first_scope tree) tree)
