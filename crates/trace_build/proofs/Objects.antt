-- Looks, and objects that come and go, by the table of actions: what each comes to.
use Rattle.std.proofs.Common.{◌≡◌, ℕ, suc, Bool, true, false, List, length, Option, Some, None, refl, sym, ap}
use Rattle.std.specs.Prelude.{◌==◌, Result, Ok, Err, if◌then◌else◌}
use Rattle.words.specs.declared.check.Class.{Class}
use Rattle.words.specs.declared.check.Class.TheVariants as classes
use Rattle.actions.specs.Pointer.{object_of}
use Rattle.actions.specs.StoredObject.{StoredObject, as_live, as_dead}
use Rattle.actions.specs.States.{is_absent, state_of, dead, live}
use Rattle.actions.specs.Access.{look, can_free}
use Rattle.actions.specs.AccessRows.{looked}
use Rattle.actions.specs.Objects.{Objects, object_at, state_at, with_new, with_dead, changed_to, free_break, after_free}
use Rattle.actions.specs.Memory.{keeps, kills}
use Rattle.actions.specs.Row.{breaks, comes, sees_object, moves, outcome_in}
use Rattle.actions.specs.declared.action.Action.TheVariants.{Look, Alloc, Die, Free}
use Rattle.actions.specs.declared.action.Answer.{Answer}
use Rattle.actions.specs.declared.action.Answer.TheVariants.{Done, Number}
use Rattle.event_forms.specs.Accesses.{memory_of, class_in, access_class, objects_behind, stored_by}

-- ---- a look

abbrev pub look_break : Bool → Result ℕ Class → Option Class
look_break subscript (Ok size) = None
look_break subscript (Err class) = Some (if subscript then class else classes.Pointer)

pub look_class : (objects : Objects) (p : ℕ) (subscript : Bool) (a : Answer) → access_class objects (Look p subscript) a ≡ look_break subscript (look p (state_at objects (object_of p)))
look_class objects p subscript a = by (look p (state_at objects (object_of p))) where
  by : (r : Result ℕ Class) → class_in (looked subscript r) ≡ look_break subscript r
  by (Ok size) = refl
  by (Err class) = refl

pub look_stored : (objects : Objects) (p : ℕ) (subscript : Bool) (a : Answer) → stored_by objects (Look p subscript) a ≡ objects
look_stored objects p subscript a = by (look p (state_at objects (object_of p))) where
  by : (r : Result ℕ Class) → objects_behind (looked subscript r) objects ≡ objects
  by (Ok size) = refl
  by (Err class) = refl

-- ---- objects that come and go

pub alloc_stored : (objects : Objects) (o : StoredObject) (k : ℕ) → stored_by objects (Alloc o) (Number k) ≡ with_new objects (suc (length objects)) (as_live o)
alloc_stored objects o k = refl

pub die_stored : (objects : Objects) (k : ℕ) (a : Answer) → stored_by objects (Die k) a ≡ with_dead objects k
die_stored objects k a = by (object_at objects k) refl where
  some : (o : StoredObject) (b : Bool) → objects_behind (moves Done (if is_absent (if b then live o.size o.cells o.readonly o.heap else dead) then keeps else kills k)) objects ≡ with_dead objects k
  some o true = refl
  some o false = refl

  by : (found : Option StoredObject) → object_at objects k ≡ found → objects_behind (moves Done (if is_absent (state_of found) then keeps else kills k)) objects ≡ with_dead objects k
  by None is = sym (ap (changed_to objects k as_dead) is)
  by (Some o) is = some o o.live

module _ (objects : Objects) (p : ℕ) (a : Answer) where
  pub free_class : access_class objects (Free p) a ≡ free_break objects p
  free_class = by (p == 0) where
    other : (may : Bool) → class_in (if may then moves Done (kills (object_of p)) else breaks classes.Free) ≡ (if may then None else Some classes.Free)
    other true = refl
    other false = refl

    by : (null : Bool) → class_in (outcome_in (memory_of objects) (if null then comes (moves Done keeps) else sees_object (object_of p) (λ state. comes (if can_free p state then moves Done (kills (object_of p)) else breaks classes.Free))))
        ≡ (if null then None else (if can_free p (state_at objects (object_of p)) then None else Some classes.Free))
    by true = refl
    by false = other (can_free p (state_at objects (object_of p)))

  pub free_stored : stored_by objects (Free p) a ≡ after_free objects p
  free_stored = by (p == 0) where
    other : (may : Bool) → objects_behind (if may then moves Done (kills (object_of p)) else breaks classes.Free) objects ≡ (if may then with_dead objects (object_of p) else objects)
    other true = refl
    other false = refl

    by : (null : Bool) → objects_behind (outcome_in (memory_of objects) (if null then comes (moves Done keeps) else sees_object (object_of p) (λ state. comes (if can_free p state then moves Done (kills (object_of p)) else breaks classes.Free)))) objects
        ≡ (if null then objects else (if can_free p (state_at objects (object_of p)) then with_dead objects (object_of p) else objects))
    by true = refl
    by false = other (can_free p (state_at objects (object_of p)))
