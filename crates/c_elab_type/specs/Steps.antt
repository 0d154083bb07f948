-- What a step over a list of declarators or suffixes says: what is made so far goes before what is made behind it.
use Rattle.std.specs.Prelude.{◌≡◌, List, [], ◌∷◌, ◌++◌, Result, Ok, Err}
use Rattle.core_tree.specs.declared.statement.CoreItem.{CoreItem}
use Rattle.core_tree.specs.Trees.{with_item}
use Rattle.core_tree.specs.Trees as cores
use Rattle.c_scope.specs.declared.fault.TypingError.{TypingError}
use Rattle.c_scope.specs.Scopes.{Scoped}
use Rattle.c_scope.specs.Faults.{◌>>=◌, Fails}
use Rattle.c_elab_type.specs.Declarators.{Typed}
use Rattle.c_elab_base.specs.declared.derivations.Derived.{Derived as CodeDerived}
use Rattle.c_elab_base.specs.Derivations.{Derived, view_deriveds}
use Rattle.c_elab_base.specs.Specifiers.{Derivations}

-- items in front of others
abbrev pub prepend : List CoreItem → cores.Items → cores.Items
prepend [] rest = rest
prepend (i ∷ is) rest = with_item i (prepend is rest)

abbrev pub items_first : List CoreItem → Typed → Typed
items_first is behind = behind >>= λ y. Ok (prepend is y.0, y.1)

-- with the items made before and those made by now, the whole and what is behind the step are one, or the whole has the fault told
abbrev pub Step : Result (Unit {0}) TypingError → List CoreItem → List CoreItem → Typed → Typed → Type 0
Step (Ok u) before now whole behind = items_first before whole ≡ items_first now behind
Step (Err e) before now whole behind = Fails e whole

-- with the suffixes found before and those found by now, and the scope behind them
abbrev pub suffixes_first : List Derived → Derivations → Derivations
suffixes_first before r = r >>= λ x. Ok (before ++ x.0, x.1)

abbrev pub Derives : Result (Unit {0}) TypingError → Scoped → List CodeDerived → List CodeDerived → Derivations → Type 0
Derives (Ok u) s before now typing = suffixes_first (view_deriveds before) typing ≡ Ok (view_deriveds now, s)
Derives (Err e) s before now typing = Fails e typing
