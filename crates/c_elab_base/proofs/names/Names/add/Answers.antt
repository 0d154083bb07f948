use Rattle.std.proofs.Common.{◌≡◌, ℕ, Bool, List, map, ap, ◌∙◌}
use Rattle.std.specs.Prelude.{◌++◌, ◌∷◌, [], if◌then◌else◌}
use Rattle.c_elab_base.specs.Names.{with_name}
use Rattle.c_elab_base.proofs.Alone.{Owned, among_owned, added_owned}
use Rattle.c_elab_base.proofs.names.Names.add.Goals as goal

pub returns : goal.returns
returns c =
    let names = c.self.inside.names.keys in
    let own = c.in_ok-own.own in
    let bytes = map (λ k. k.items) names in
    let same : own.items ≡ c.args.name.now = c.in_ok-own.ensures.items_if_clones_equal (λ y h e. e) in
    record {
      added = ap (λ (ks : Owned). map (λ k. k.items) ks) c.in_ok-insert.ensures.keys
          ∙ added_owned names own _
          ∙ ap (λ (b : Bool). if b then bytes else bytes ++ own.items ∷ []) (among_owned names own.items)
          ∙ ap (λ (n : List ℕ). with_name bytes n) same
          ∙ ap (λ (ns : List (List ℕ)). with_name ns c.args.name.now) c.self.view_is;
    }
