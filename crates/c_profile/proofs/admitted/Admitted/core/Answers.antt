use Rattle.std.proofs.Common.{◌≡◌, None, ap, sym, ◌∙◌}
use Rattle.core_tree.specs.Trees.{CoreFile, view_core}
use Rattle.c_profile.specs.Rules.{first_breach}
use Rattle.c_profile.proofs.Mains.{admitted_main}
use Rattle.c_profile.proofs.admitted.Admitted.core.Goals as goal

pub returns-clause-main : goal.returns-clause-main
returns-clause-main c =
    let kept : first_breach (view_core c.self.inside.core) ≡ None = c.self.invariant in
    admitted_main (view_core c.args.self.now) (sym (ap (λ (f : CoreFile). first_breach (view_core f)) c.self.view_is) ∙ kept)
