use Rattle.std.proofs.Common.{ℕ, List, ◌∙◌, Some, ap, subst, refl}
use Rattle.c_token.specs.declared.token.Token.{Token}
use Rattle.c_pre.specs.declared.known.Fate.TheVariants.{Lasts}
use Rattle.c_pre.specs.Known.{fates_in, with_fate, findings_of, IsLinkFor}
use Rattle.c_pre.proofs.noting.add.Goals as goal

pub returns-clause-adds : goal.returns-clause-adds
returns-clause-adds c =
    let known = c.args.known.now in
    let key = c.in_ok-key.ensures.items_if_clones_equal (λ y h e. e) in (
      record { name = c.in_ok-word.word; tokens = c.in_ok-tokens.tokens; link = c.link_for-link.result },
      c.in_ok-push.ensures.items,
      c.in_ok-word.ensures.items_if_clones_equal (λ y h e. e),
      c.in_ok-tokens.ensures,
      subst (λ (ts : List Token). IsLinkFor c.args.bytes.now (findings_of known) ts c.link_for-link.result) c.deref.ensures.value c.link_for-link.ensures,
      c.in_ok-note.ensures ∙ ap (λ (n : List ℕ). with_fate n (Some (Lasts c.len-node.result)) (fates_in known.fates.entries)) key
          ∙ ap (λ (i : ℕ). with_fate c.args.name.now (Some (Lasts i)) (fates_in known.fates.entries)) (c.len-node.ensures ∙ known.nodes.ok.0),
      refl,
    )
