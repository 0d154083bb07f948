-- What stands around a tree, the room of a place, and what makes a typed file.
use Rattle.std.specs.Prelude.{ℕ, ◌+◌, ◌^◌, Bool, true, false, ◌&&◌, Option, Some, None, List, map, nat_lt, nat_le, length}
use Rattle.std.specs.List.{list_all}
use Rattle.core_tree.specs.declared.functions.Address.{Address}
use Rattle.core_tree.specs.declared.functions.Function.{Function}
use Rattle.core_tree.specs.declared.functions.StaticObject.{StaticObject}
use Rattle.core_tree.specs.Trees.{Expression, Items, TypedFile, CoreFile, core_file, view_core, view_function}
use Rattle.core_tree.specs.Typed.{Sizes, Signature, type_of, is_promoted, is_typed, are_cases, signature, sizes_of_variables, homes_of, is_target, are_typed, have_small}
use Rattle.core_tree.specs.Standing.{stands_file}
use Rattle.core_check.specs.declared.around.Around.{Around}
use Rattle.core_check.specs.declared.around.Room.{Room}
use Rattle.core_check.specs.declared.around.Room.TheVariants.{Nothing, Bytes, Any}

-- so many bytes have room
abbrev pub fits : Room → ℕ → Bool
fits Nothing n = false
fits (Bytes most) n = nat_le n most
fits Any n = true

-- a number of bytes is no more than there are
abbrev pub reaches : Option ℕ → ℕ → Bool
reaches None n = false
reaches (Some size) n = nat_le n size

abbrev pub file_around : Around → TypedFile
file_around a = view_core (core_file a.functions.now a.objects.now a.literals.now a.pointers)

-- the sizes of static objects, and what functions give and take
abbrev pub object_sizes : List StaticObject → List ℕ
object_sizes objects = map (λ (o : StaticObject). o.size) objects

abbrev pub signatures : List Function → List Signature
signatures functions = map (λ (f : Function). signature (view_function f)) functions

abbrev pub sizes_around : Around → Sizes
sizes_around a = record {
  variables = sizes_of_variables a.variables.now;
  homes = homes_of a.variables.now;
  objects = object_sizes a.objects.now;
  literals = length a.literals.now;
  functions = signatures a.functions.now;
  gives = a.gives;
  pointers = a.pointers;
}

-- a promoted value, and cases of its type
abbrev pub is_switch : Sizes → Expression → Items → Bool
is_switch sizes e items = is_promoted (type_of e) && is_typed sizes e && are_cases (type_of e) items

-- addresses within so many bytes, which point to what is there
abbrev pub are_addresses : (objects literals size : ℕ) → List Address → Bool
are_addresses objects literals size addresses = list_all (λ (a : Address). nat_le (a.at + 8) size && is_target objects literals a.target) addresses

-- functions, static objects and literals, few enough, that are typed and stand where they may
abbrev pub is_core : CoreFile → Bool
is_core c =
    nat_lt (length c.functions) (2 ^ 31) && nat_lt (length c.objects) (2 ^ 31) && nat_lt (length c.literals) (2 ^ 31)
    && are_typed (view_core c) && stands_file (view_core c) && have_small (view_core c).functions
