use Rattle.std.proofs.Common.{◌≡◌, ◌∷◌, sym, ap, ◌∙◌}
use Rattle.c_tree.specs.Names.{Scope}
use Rattle.c_parse_expr.specs.Flags.{scope_in, flag_in, hidden_in, hidden_of}
use Rattle.c_parse_expr.proofs.NewestFlags.{scope_push, hidden_push, forgotten, has_flag}
use Rattle.c_parse_expr.proofs.names.TypeNames.forget.Goals as goal

pub invariant_of-self : goal.invariant_of-self
invariant_of-self c =
    let entries = c.self.inside.declared.items in
    let rest = c.pop.new.self.items in
    let entry = c.in-Some.entry in
    let split : scope_in entries ≡ (entry.name.items, entry.is_type) ∷ scope_in rest = ap scope_in c.in-Some.ensures.items ∙ scope_push rest entry in
    let hides : entry.hidden ∷ hidden_of rest ≡ flag_in (scope_in rest) entry.name.items ∷ hidden_in (scope_in rest) =
    sym (ap hidden_of c.in-Some.ensures.items ∙ hidden_push rest entry) ∙ c.self.invariant.1 ∙ ap hidden_in split in
    let first : entry.hidden ≡ flag_in (scope_in rest) entry.name.items = cc in
    let others : hidden_of rest ≡ hidden_in (scope_in rest) = cc in (
      (λ name. forgotten (scope_in rest) (entry.name.items, entry.is_type) entry.hidden name _ _ first
          (c.self.invariant.0 name ∙ ap (λ (names : Scope). flag_in names name) split) (c.in-Ok.ensures.new name)),
      others,
    )

pub unreachable-requires : goal.unreachable-requires
unreachable-requires c =
    let entries = c.self.inside.declared.items in
    let rest = c.pop.new.self.items in
    let entry = c.in-Some.entry in
    let split : scope_in entries ≡ (entry.name.items, entry.is_type) ∷ scope_in rest = ap scope_in c.in-Some.ensures.items ∙ scope_push rest entry in
    has_flag (scope_in rest) (entry.name.items, entry.is_type)
    (sym (c.self.invariant.0 entry.name.items ∙ ap (λ (names : Scope). flag_in names entry.name.items) split) ∙ c.in-Err.ensures.absent)
