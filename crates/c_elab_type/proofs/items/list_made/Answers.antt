use Rattle.std.proofs.Common.{◌≡◌, ℕ, Option, Result, Ok, map, reverse, sym, ap, ◌∙◌}
use Rattle.c_types.specs.Types.{view as type_view}
use Rattle.c_types.specs.Layouts.{size_of}
use Rattle.core_tree.specs.declared.expression.CoreStructure.{CoreStructure}
use Rattle.core_tree.specs.Trees.{Structure, Parts, list, view_structure, parts_of}
use Rattle.core_tree.proofs.Views.{view_list}
use Rattle.c_scope.specs.Faults.{◌>>=◌, on_line}
use Rattle.c_elab_type.specs.Initializers.{listed, view_made, view_found, parts_from}
use Rattle.c_elab_type.proofs.items.list_made.Goals as goal

pub returns-in_ok-new-in-None : goal.returns-in_ok-new-in-None
returns-in_ok-new-in-None c =
    let rs = c.args.layouts.now in
    let t = type_view c.args.type_.now in
    let line = c.args.line in
    let found = c.in_ok-found.found in
    let size = c.in_ok-size-in-None.size in
    let parts : parts_from c.args.object_entry rs t 0 (map view_made c.args.items.items) ≡ Ok (parts_of (reverse found.parts.items)) =
    sym c.in_ok-found.ensures ∙ ap (λ (b : Option ℕ). view_found found.parts.items b) c.in-None.is in
    ap (λ (r : Result Parts ℕ). on_line line r >>= λ ps. Ok (listed (list line (size_of rs.done t) ps))) parts
    ∙ ap (λ (ps : Parts). Ok (listed (list line (size_of rs.done t) ps))) (ap parts_of (sym c.reverse.ensures.items))
    ∙ ap (λ (n : ℕ). Ok (listed (list line n (parts_of c.reverse.new.self.items)))) (sym c.in_ok-size-in-None.ensures.size)
    ∙ ap (λ (a : Structure). Ok (listed a)) (sym (view_list line size c.reverse.new.self))
    ∙ ap (λ (a : CoreStructure). Ok (listed (view_structure a))) (sym c.in_ok-new-in-None.ensures.ok)
