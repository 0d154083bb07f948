use Rattle.std.proofs.Common.{◌≡◌, true, subst, sym, ap, ◌∙◌}
use Rattle.std.specs.List.{list_all}
use Rattle.actions.specs.ByteList.{are_bytes}
use Rattle.core_tree.specs.Trees.{CoreFile, view_literals, view_core}
use Rattle.c_meaning.specs.Source.{first_objects, are_storable}
use Rattle.event_forms.specs.Accesses.{AreFirst}
use Rattle.run_search.proofs.FirstStores.{file_first}
use Rattle.run_search.proofs.searching.prove_objects.Goals as goal

pub returns : goal.returns
returns c =
    subst (λ (core : CoreFile). are_storable (view_core core) ≡ true → AreFirst (first_objects (view_core core))) c.core-core.ensures.is
    (file_first (view_core c.core-core.result.now) c.objects-objects.ensures.typed (ap (λ ls. list_all are_bytes (view_literals ls)) (sym c.literals.ensures.is) ∙ c.prove_texts.ensures))
