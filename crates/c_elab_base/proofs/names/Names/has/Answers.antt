use Rattle.std.proofs.Common.{ℕ, List, ap, ◌∙◌}
use Rattle.c_elab_base.specs.Names.{among}
use Rattle.c_elab_base.proofs.Alone.{among_owned}
use Rattle.c_elab_base.proofs.names.Names.has.Goals as goal

pub returns : goal.returns
returns c = c.contains.ensures ∙ among_owned c.self.inside.names.keys c.args.name.now ∙ ap (λ (ns : List (List ℕ)). among ns c.args.name.now) c.self.view_is
