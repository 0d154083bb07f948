-- Objects and functions that are declared once more leave a scope that goes on from the one before.
use Rattle.std.proofs.Common.{◌≡◌, ◌≤◌, ◌-◌, ℕ, Bool, true, false, length, Option, Some, None, refl, ap, ◌∙◌, arith}
use Rattle.std.specs.Prelude.{nat_le, slice_get}
use Rattle.std.proofs.lemmas.List.{length-set}
use Rattle.c_tree.specs.Declarations.{Full, name_of}
use Rattle.c_types.specs.Layouts as layouts
use Rattle.c_scope.specs.declared.meaning.Meaning.TheVariants.{Object}
use Rattle.c_scope.specs.Scopes.{ObjectEntry, FunctionType, Callable, Scoped, is_known, sizes, object_at, object_entry_size}
use Rattle.c_scope.proofs.Variables.{both, and}
use Rattle.c_elab_object.specs.ObjectEntries.{changed_by, changed_object}
use Rattle.c_elab_object.specs.Functions.{first_callable, callable_again, changed_callable, declared_callable}
use Rattle.c_elab_base.proofs.Signatures.{own_sizes, signed_changed, goes_changed, called_changed}
use Rattle.c_elab_base.proofs.Growing.{grows_refl, under_refl, inner_refl, There, SettlesIf, Settles, settles_refl, settles_where, object_set, object_get, object_known, function_settles}

-- ---- objects that live as long as the program

-- one that is known better, and no smaller
pub changed_settles : (s : Scoped) (k : ℕ) (f : ObjectEntry → ObjectEntry) → ((o : ObjectEntry) → object_entry_size s.records.done o ≤ object_entry_size s.records.done (f o)) → Settles s (changed_object s k f)
changed_settles s k f le = by (object_at s k) refl where
  by : (x : Option ObjectEntry) → object_at s k ≡ x → Settles s (record s { objects = changed_by s.objects k f x })
  by None e = settles_refl s
  by (Some o) e = object_set s (k - 1) o (f o) (object_get s k o e) (le o)

-- also where one is known better
pub changed_known : (s : Scoped) (k : ℕ) (f : ObjectEntry → ObjectEntry) (o : ObjectEntry) → object_at s k ≡ Some o → is_known (changed_object s k f) (Object k) ≡ true
changed_known s k f o h =
    let before = both (nat_le 1 k) (nat_le k (length s.objects)) (object_known s k o h) in
    let long : length (changed_by s.objects k f (object_at s k)) ≡ length s.objects = ap (λ (x : Option ObjectEntry). length (changed_by s.objects k f x)) h ∙ length-set s.objects (k - 1) (f o) in
    and (nat_le 1 k) (nat_le k (length (changed_by s.objects k f (object_at s k)))) before.0 (ap (λ (n : ℕ). nat_le k n) long ∙ before.1)

-- ---- functions

-- one whose type stays
pub function_changed : (s : Scoped) (k : ℕ) (f : Callable → Callable) → ((c : Callable) → (f c).type ≡ c.type)
    → Settles s (record s { functions = record s.functions { all = changed_callable s.functions.all k f (slice_get s.functions.all k) } })
function_changed s k f same = by (slice_get s.functions.all k) refl where
  by : (o : Option Callable) → slice_get s.functions.all k ≡ o → Settles s (record s { functions = record s.functions { all = changed_callable s.functions.all k f o } })
  by None e = settles_refl s
  by (Some c) e = record {
    follows = record {
      names = inner_refl s.bindings;
      variables = omega arith;
      objects = omega arith;
      sizes = λ g. record {
        no_pointers = refl;
        variables = grows_refl (sizes s);
        objects = under_refl (own_sizes s).objects;
        functions = signed_changed s.records.done s.functions.all k c (f c) e (same c);
        gives = refl;
      };
      types = omega arith;
      records = omega arith;
      calls = goes_changed s.functions k c (f c) s.flow s.records.done e (same c);
      there = λ g. record { known = g.known; few = g.few; complete = g.complete; small = g.small; built = g.built; calls = called_changed s.records.done s.functions k c (f c) s.flow e (same c) g.calls };
    };
    same = refl;
  }

pub declared_callable_settles : (H : Type 0) (s : Scoped) (d : Full) (f : FunctionType) (defines : Bool) (o : Option ℕ) → (H → There s) → (H → layouts.are_complete s.records.done f.parameters ≡ true)
    → SettlesIf H s (record s { functions = (declared_callable s.functions d f defines o).1 })
declared_callable_settles H s d f defines None there h = function_settles H s (name_of d) (first_callable s.functions d f defines) there h
declared_callable_settles H s d f defines (Some k) there h = settles_where H (There s) s _ there (function_changed s k (callable_again d defines) (λ c. by c defines)) where
  by : (c : Callable) (b : Bool) → (callable_again d b c).type ≡ c.type
  by c true = refl
  by c false = refl
