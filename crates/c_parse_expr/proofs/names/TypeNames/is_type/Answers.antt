use Rattle.std.proofs.Common.{Bool, Option, ap, ◌∙◌}
use Rattle.c_tree.specs.Names.{Scope}
use Rattle.c_parse_expr.specs.Flags.{flag_in}
use Rattle.c_parse_expr.proofs.NewestFlags.{flag_or, type_by_flag}
use Rattle.c_parse_expr.proofs.names.TypeNames.is_type.Goals as goal

pub returns-in-Some : goal.returns-in-Some
returns-in-Some c =
    let same = c.in-Some.ensures ∙ c.self.invariant.0 c.args.name.now ∙ ap (λ (s : Scope). flag_in s c.args.name.now) c.self.view_is in
    ap (λ (o : Option Bool). flag_or o) same ∙ type_by_flag c.args.self.now c.args.name.now

pub returns-in-None : goal.returns-in-None
returns-in-None c =
    let same = c.in-None.ensures ∙ c.self.invariant.0 c.args.name.now ∙ ap (λ (s : Scope). flag_in s c.args.name.now) c.self.view_is in
    ap (λ (o : Option Bool). flag_or o) same ∙ type_by_flag c.args.self.now c.args.name.now
